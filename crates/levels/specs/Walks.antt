-- Searches as loops make them: over the numbers from k up to n, and over levels and their slots.
use Rattle.std.specs.Prelude.{◌≡◌, refl, Bool, List, [], ◌∷◌, ◌++◌, map}
use Rattle.std.proofs.Common.{sym, ◌∙◌, append_assoc, append-nil, arith}
use Rattle.std.proofs.Math.Path.{ap}
use Rattle.std.proofs.Math.Bool.{true, false}
use Rattle.std.proofs.Math.Option.{Option, some}
use Prim.Native.Nat.{ℕ, zero, suc, ◌+◌, ◌-◌, ◌≤◌, ◌<◌}
use Rattle.std.proofs.Math.Nat.{sub-zero}
use Rattle.std.proofs.Math.Numerals.{add-one}
use Rattle.std.proofs.Math.Decide.{dec_lt}
use Rattle.std.proofs.Math.ListN.{length}
use mir.Val.{bool_byte}
use Rattle.lists.specs.Search.{find, keep, below, count, find-yes, find-no, keep-yes, keep-no}
use Rattle.rules.specs.Shape.{slots}
use Rattle.rules.specs.Rebuild.{places}

-- ---- The numbers from k up to n
pub count-step : (k n : ℕ) → k < n → count k (n - k) ≡ k ∷ count (suc k) (n - suc k)
unfolding count
count-step k n h = let e : n - k ≡ suc (n - suc k) = omega arith in rw e

pub count-done : (k n : ℕ) → n ≤ k → count k (n - k) ≡ []
unfolding count
count-done k n h = let e : n - k ≡ 0 = omega arith in rw e

-- ---- Those that pass a test
module _ (p : ℕ → Bool) (n k : ℕ) where
  pub kept-hit : k < n → p k ≡ true → keep p (count k (n - k)) ≡ k ∷ keep p (count (suc k) (n - suc k))
  kept-hit h e = ap (keep p) (count-step k n h) ∙ keep-yes p k _ e

  pub kept-miss : k < n → p k ≡ false → keep p (count k (n - k)) ≡ keep p (count (k + 1) (n - (k + 1)))
  kept-miss h e = rw add-one (ap (keep p) (count-step k n h) ∙ keep-no p k _ e)

  pub kept-done : n ≤ k → keep p (count k (n - k)) ≡ []
  unfolding keep
  kept-done h = ap (keep p) (count-done k n h)

-- ---- The first entry of a table that passes a test, from entry k up to n, else the first of the rest
module _ {A : Type 0} (p : A → Bool) (f : ℕ → A) (rest : List A) (n : ℕ) where
  unfoldable pub first : ℕ → Option A
  first k = find p (map f (count k (n - k)) ++ rest)

  pub first-hit : (k : ℕ) → k < n → p (f k) ≡ true → first k ≡ some (f k)
  unfolding first
  first-hit k h e = ap (λ xs. find p (map f xs ++ rest)) (count-step k n h) ∙ find-yes p (f k) _ e

  pub first-miss : (k : ℕ) → k < n → p (f k) ≡ false → first k ≡ first (k + 1)
  unfolding first
  first-miss k h e = rw add-one (ap (λ xs. find p (map f xs ++ rest)) (count-step k n h) ∙ find-no p (f k) _ e)

  pub first_done : (k : ℕ) → n ≤ k → first k ≡ find p rest
  unfolding first
  first_done k h = ap (λ xs. find p (map f xs ++ rest)) (count-done k n h)

  -- entries that do not pass may be left out
  pub first-skip : (k : ℕ) → ((j : ℕ) → j < k → p (f j) ≡ false) → first 0 ≡ first k
  first-skip zero h = refl
  first-skip (suc k) h = first-skip k (λ j l. h j (omega arith)) ∙ go (dec_lt k n)
    where
      go : Dec (k < n) → first k ≡ first (suc k)
      go (yes l) = rw (← add-one) (first-miss k l (h k (omega arith)))
      go (no l) = first_done k (omega arith) ∙ sym (first_done (suc k) (omega arith))

  -- all entries
  pub first-all : first 0 ≡ find p (map f (below n) ++ rest)
  unfolding first below
  first-all = rw sub-zero

-- tests and tables that agree find the same
pub first-same : {A : Type 0} (p r : A → Bool) (f g : ℕ → A) (n : ℕ) → ((k : ℕ) → k < n → f k ≡ g k) → ((k : ℕ) → k < n → p (f k) ≡ r (g k)) → first p f [] n 0 ≡ first r g [] n 0
unfolding find
first-same p r f g n same agree = from n 0 (omega arith)
  where
    step : (k : ℕ) → k < n → first p f [] n (k + 1) ≡ first r g [] n (k + 1) → first p f [] n k ≡ first r g [] n k
    step k here next = go (p (f k)) refl
      where
        go : (b : Bool) → p (f k) ≡ b → first p f [] n k ≡ first r g [] n k
        go true t = first-hit p f [] n k here t ∙ ap some (same k here) ∙ sym (first-hit r g [] n k here (sym (agree k here) ∙ t))
        go false t = first-miss p f [] n k here t ∙ next ∙ sym (first-miss r g [] n k here (sym (agree k here) ∙ t))

    from : (left k : ℕ) → n - k ≡ left → first p f [] n k ≡ first r g [] n k
    from zero k e = first_done p f [] n k (omega arith) ∙ sym (first_done r g [] n k (omega arith))
    from (suc left) k e = step k (omega arith) (from left (k + 1) (omega arith))

-- ---- How many entries of a table pass a test, from entry k up to n
module _ (p : ℕ → Bool) (f : ℕ → ℕ) (n : ℕ) where
  unfoldable pub tally : ℕ → ℕ
  tally k = length (keep p (map f (count k (n - k))))

  pub tally-step : (k : ℕ) → k < n → tally k ≡ bool_byte (p (f k)) + tally (k + 1)
  unfolding tally
  tally-step k h = rw add-one (ap (λ xs. length (keep p (map f xs))) (count-step k n h) ∙ go (p (f k)) refl)
    where
      go : (t : Bool) → p (f k) ≡ t → length (keep p (map f (k ∷ count (suc k) (n - suc k)))) ≡ bool_byte (p (f k)) + length (keep p (map f (count (suc k) (n - suc k))))
      go true e = ap length (keep-yes p (f k) _ e) ∙ rw e (omega arith)
      go false e = ap length (keep-no p (f k) _ e) ∙ rw e (omega arith)

  pub tally-done : (k : ℕ) → n ≤ k → tally k ≡ 0
  unfolding tally keep
  tally-done k h = ap (λ xs. length (keep p (map f xs))) (count-done k n h)

  pub tally-all : tally 0 ≡ length (keep p (map f (below n)))
  unfolding tally below
  tally-all = rw sub-zero

-- ---- The slots of the n levels from l upward
unfoldable pub slots_from : ℕ → ℕ → List (ℕ × ℕ)
slots_from l zero = []
slots_from l (suc n) = map (λ i. (l, i)) (below (slots l)) ++ slots_from (suc l) n

from_more : (l n : ℕ) → slots_from l (suc n) ≡ slots_from l n ++ map (λ i. (l + n, i)) (below (slots (l + n)))
unfolding slots_from
from_more l zero = let e : l + 0 ≡ l = omega arith in rw (append-nil, e)
from_more l (suc n) =
    let e : suc l + n ≡ l + suc n = omega arith in
    ap (λ xs. map (λ i. (l, i)) (below (slots l)) ++ xs) (from_more (suc l) n)
    ∙ rw e (sym (append_assoc (map (λ i. (l, i)) (below (slots l))) (slots_from (suc l) n) (map (λ i. (l + suc n, i)) (below (slots (l + suc n))))))

pub places-from : (n : ℕ) → places n ≡ slots_from 0 n
unfolding places slots_from
places-from zero = refl
places-from (suc n) =
    let e : 0 + n ≡ n = omega arith in
    ap (λ xs. xs ++ map (λ i. (n, i)) (below (slots n))) (places-from n) ∙ sym (from_more 0 n ∙ rw e)

-- one level, then those above it
pub from_step : (l n : ℕ) → l < n → slots_from l (n - l) ≡ map (λ i. (l, i)) (below (slots l)) ++ slots_from (l + 1) (n - (l + 1))
unfolding slots_from
from_step l n h = let e : n - l ≡ suc (n - (l + 1)) = omega arith in rw (e, add-one)

pub from-done : (l n : ℕ) → n ≤ l → slots_from l (n - l) ≡ []
unfolding slots_from
from-done l n h = let e : n - l ≡ 0 = omega arith in rw e
