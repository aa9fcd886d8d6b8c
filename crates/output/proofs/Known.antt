-- Known bytes of a reader and a writer, in steps one after another.
use Rattle.std.specs.Prelude.{◌≡◌, refl, Option, Some, None, Result, Ok, Err, OnErr, List, [], ◌++◌, ℕ, ◌+◌, ◌-◌, ◌≤◌, length, take, drop}
use Rattle.std.proofs.Common.{sym, ap, ◌∙◌, append_assoc, append-nil, subst, length-take-le, length-drop, take-append-drop, arith}
use Rattle.std.proofs.Math.Seq.{take-append-add}
use Rattle.std.proofs.lemmas.List.{take_rest}
use Rattle.std.specs.Io.KnownBytes.{Appends, Consumes, Keeps}
use Rattle.output.specs.Sent.{Part}

pub appends-none : (u : Option (List ℕ)) → Appends u u []
appends-none None = tt
appends-none (Some xs) = sym (append-nil xs)

pub appends-then : (u v w : Option (List ℕ)) (a b : List ℕ) → Appends u v a → Appends v w b → Appends u w (a ++ b)
appends-then None v w a b x y = tt
appends-then (Some xs) None w a b x y = absurd x
appends-then (Some xs) (Some ys) None a b x y = absurd y
appends-then (Some xs) (Some ys) (Some zs) a b x y = y ∙ ap (λ (t : List ℕ). t ++ b) x ∙ append_assoc xs a b

pub appends_kept : (u v w : Option (List ℕ)) (a : List ℕ) → Appends u v a → Keeps v w → Appends u w a
appends_kept None v w a x y = tt
appends_kept (Some xs) None w a x y = absurd x
appends_kept (Some xs) (Some ys) None a x y = absurd y
appends_kept (Some xs) (Some ys) (Some zs) a x y = y ∙ x

pub consumes-none : (u : Option (List ℕ)) → Consumes u u []
consumes-none None = tt
consumes-none (Some xs) = refl

pub consumes-then : (u v w : Option (List ℕ)) (a b : List ℕ) → Consumes u v a → Consumes v w b → Consumes u w (a ++ b)
consumes-then None v w a b x y = tt
consumes-then (Some xs) None w a b x y = absurd x
consumes-then (Some xs) (Some ys) None a b x y = absurd y
consumes-then (Some xs) (Some ys) (Some zs) a b x y = x ∙ ap (λ (t : List ℕ). a ++ t) y ∙ sym (append_assoc a b zs)

pub consumes-kept : (u v w : Option (List ℕ)) (a : List ℕ) → Consumes u v a → Keeps v w → Consumes u w a
consumes-kept None v w a x y = tt
consumes-kept (Some xs) None w a x y = absurd x
consumes-kept (Some xs) (Some ys) None a x y = absurd y
consumes-kept (Some xs) (Some ys) (Some zs) a x y = x ∙ ap (λ (t : List ℕ). a ++ t) (sym y)

pub keeps_none : (u v : Option (List ℕ)) → Keeps u v → Consumes u v []
keeps_none None v k = tt
keeps_none (Some xs) None k = absurd k
keeps_none (Some xs) (Some ys) k = sym k

-- the first m bytes, and then n of the others, are the first m + n
pub take-then : (m n : ℕ) (l : List ℕ) → m ≤ length l → take m l ++ take n (drop m l) ≡ take (m + n) l
take-then m n l h =
    let size : length (take m l) ≡ m = length-take-le m l h in
    sym (ap (take (m + n)) (sym (take-append-drop m l)) ∙ ap (λ k. take (k + n) (take m l ++ drop m l)) (sym size) ∙ take-append-add (take m l) (drop m l) n)

-- a write of the others took n of them
pub appends-step : (u v w : Option (List ℕ)) (text : List ℕ) (m n : ℕ) → m ≤ length text → Appends u v (take m text)
    → Appends v w (take n (take (length text - m) (drop m text))) → Appends u w (take (m + n) text)
appends-step u v w text m n h x y =
    subst (Appends u w) (ap (λ t. take m text ++ take n t) (take_rest text m) ∙ take-then m n text h) (appends-then u v w _ _ x y)

-- a write that took nothing adds nothing
pub appends-nothing : (u v w : Option (List ℕ)) (a b : List ℕ) (n : ℕ) → n ≡ 0 → Appends u v a → Appends v w (take n b) → Appends u w a
appends-nothing u v w a b n z x y = subst (Appends u w) (append-nil a) (appends-then u v w a [] x (subst (λ k. Appends v w (take k b)) z y))

pub step-within : (text : List ℕ) (m n : ℕ) → m ≤ length text → n ≤ length (take (length text - m) (drop m text)) → m + n ≤ length text
step-within text m n h k =
    let l : length (take (length text - m) (drop m text)) ≡ length text - m = ap length (take_rest text m) ∙ length-drop m text in
    omega arith

pub err_part : {T E : Type 0} (r : Result T E) (text : List ℕ) (w w' : Option (List ℕ)) (n : ℕ) → Appends w w' (take n text) → OnErr r (Part text w w')
err_part (Ok x) text w w' n a = tt
err_part (Err e) text w w' n a = (n, a)
