-- A part of a buffer, lent and written.
use Rattle.std.specs.Prelude.{◌≡◌, ℕ, ◌+◌, ◌-◌, ◌≤◌, List, ◌++◌, length, take, drop}
use Rattle.std.proofs.Common.{ap, sym, ◌∙◌, append_assoc, arith, length-append, length-drop, take-append-drop, length-take-le, take_at, drop_at, drop-drop}
use Rattle.lists.specs.Written.{Written}

-- the list that a lent part from a to e leaves, with v in it
pub lent_written : (t v : List ℕ) (a e : ℕ) → a ≤ e → e ≤ length t → length v ≡ e - a → Written t a v (take a t ++ (v ++ drop (e - a) (drop a t))) e
lent_written t v a e l u s =
    let d = length-take-le a t (omega arith) in
    let k : a + (e - a) ≡ e = omega arith in
    let front : length (take a t ++ v) ≡ e = length-append (take a t) v ∙ omega (arith, d, s) in
    let whole : take a t ++ (v ++ drop (e - a) (drop a t)) ≡ (take a t ++ v) ++ drop e t = sym (append_assoc (take a t) v (drop (e - a) (drop a t))) ∙ ap (λ r. (take a t ++ v) ++ r) (drop-drop (e - a) a t ∙ ap (λ n. drop n t) k) in
    record {
      place = omega arith;
      bytes = ap (take e) whole ∙ take_at (take a t ++ v) (drop e t) e front;
      behind = ap (drop e) whole ∙ drop_at (take a t ++ v) (drop e t) e front;
      size = ap length whole ∙ length-append (take a t ++ v) (drop e t) ∙ omega (arith, front, length-drop e t);
    }

-- what was there, with the text in it
pub written_is : {b t d : List ℕ} {a e : ℕ} → Written b a t d e → d ≡ (take a b ++ t) ++ drop e b
written_is {b} {t} {d} {a} {e} w = sym (take-append-drop e d) ∙ ap (λ r. r ++ drop e d) w.bytes ∙ ap (λ r. (take a b ++ t) ++ r) w.behind
