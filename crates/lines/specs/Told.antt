-- Whole lines: what each of the code's answers says.
use Rattle.std.specs.Prelude.{◌≡◌, Bool, true, false, List, ◌∷◌, ℕ, ◌+◌, ◌-◌, ◌≤◌, ◌<◌, length, take, drop, get_or, eqb, Option, None, Some}
use Rattle.std.proofs.Math.Path.{refl, sym}
use Rattle.std.proofs.Common.{ap, ◌∙◌}
use Rattle.std.proofs.lemmas.Option.{none-some}
use native.Mathlib.Omega.{arith}
use borrow.Author.Tests.{eq-eqb, ne_eqb}
use Rattle.lines.specs.Said.{exactly}
use Rattle.lines.specs.Lines.{opens, reads, malformed, number, numbers, up_to, contents, opened, read, stored, written, by_letter, line_of, tape_of, most_words}
use Rattle.lines.specs.Fields.{after, Cut, Led, after-blank, after-end, some-field}
use Rattle.lines.specs.Numbers.{exactly-is}

-- ---- O: six numbers

-- six are told
pub opened-six : (o : Option (List ℕ)) (ns : List ℕ) → Some ns ≡ exactly 6 o → opened o ≡ opens (record { N = get_or ns 0 0; P = get_or ns 1 0; L = get_or ns 2 0; B = get_or ns 3 0; E = get_or ns 4 0; W = get_or ns 5 0 })
unfolding opened
opened-six o ns e = let h = exactly-is 6 o ns e in rw (h.0, eq-eqb (length ns) 6 h.1)

-- there are not six
pub opened-not : (o : Option (List ℕ)) → None ≡ exactly 6 o → opened o ≡ malformed
unfolding opened exactly
opened-not None e = refl
opened-not (Some vs) e = go (eqb (length vs) 6) refl e
  where
    go : (t : Bool) → eqb (length vs) 6 ≡ t → None ≡ exactly 6 (Some vs) → opened (Some vs) ≡ malformed
    go true p e = absurd (none-some vs (rw (p, exactly) at e))
    go false p e = rw p

-- ---- R: one number

-- one is told
pub read_one : (o : Option (List ℕ)) (ns : List ℕ) → Some ns ≡ exactly 1 o → read o ≡ reads (get_or ns 0 0)
unfolding read
read_one o ns e = let h = exactly-is 1 o ns e in rw (h.0, eq-eqb (length ns) 1 h.1)

-- there is not one
pub read-not : (o : Option (List ℕ)) → None ≡ exactly 1 o → read o ≡ malformed
unfolding read exactly
read-not None e = refl
read-not (Some vs) e = go (eqb (length vs) 1) refl e
  where
    go : (t : Bool) → eqb (length vs) 1 ≡ t → None ≡ exactly 1 (Some vs) → read (Some vs) ≡ malformed
    go true p e = absurd (none-some vs (rw (p, exactly) at e))
    go false p e = rw p

-- ---- W: a number and contents
-- nothing behind the letter
pub written_none : (l : List ℕ) → length l < 2 → written (after (drop 1 l)) ≡ malformed
unfolding written
written_none l h = rw (after-end l 1 (omega arith))

module _ (l : List ℕ) (e : ℕ) (two : 1 < length l) (c : Cut l 2 e) where
  first : after (drop 1 l) ≡ take (e - 2) (drop 2 l) ∷ after (drop e l)
  first = after-blank l 1 two ∙ c.field

  -- no second field
  pub written_one : e ≡ length l → written (after (drop 1 l)) ≡ malformed
  unfolding written
  written_one h = rw (first, after-end l e (omega arith))

  module _ (z : ℕ) (u : e < length l) (d : Cut l (e + 1) z) where
    second : after (drop 1 l) ≡ take (e - 2) (drop 2 l) ∷ take (z - (e + 1)) (drop (e + 1) l) ∷ after (drop z l)
    second = first ∙ ap (λ fs. take (e - 2) (drop 2 l) ∷ fs) (after-blank l e u ∙ d.field)

    -- a third one
    pub written-three : z < length l → written (after (drop 1 l)) ≡ malformed
    unfolding written
    written-three h = rw (second, after-blank l z h) (some-field (λ fs. written (take (e - 2) (drop 2 l) ∷ take (z - (e + 1)) (drop (e + 1) l) ∷ fs) ≡ malformed) (λ f fs. refl) (drop (z + 1) l))

    -- two fields
    pub written-two : length l ≤ z → written (after (drop 1 l)) ≡ stored (number (take (e - 2) (drop 2 l))) (contents (take (z - (e + 1)) (drop (e + 1) l)))
    unfolding written
    written-two h = rw (second, after-end l z h)

-- ---- The letter
module _ (l : List ℕ) (x : ℕ) (led : Led l x) where
  -- the letter y
  pub line-by : (y : ℕ) → x ≡ y → (y ≡ 32 → ⊥) → line_of l ≡ by_letter y (after (drop 1 l))
  unfolding line_of
  line-by y e n = rw (led.is, led.rest (λ q. n (sym e ∙ q)), e)

  -- another letter, or none
  pub line-none : (x ≡ 79 → ⊥) → (x ≡ 82 → ⊥) → (x ≡ 87 → ⊥) → (x ≡ 116 → ⊥) → (x ≡ 67 → ⊥) → line_of l ≡ malformed
  unfolding line_of by_letter
  line-none a b c d e = rw (led.is, ne_eqb x 79 a, ne_eqb x 82 b, ne_eqb x 87 c, ne_eqb x 116 d, ne_eqb x 67 e)

  -- the letter T
  pub tape-by : x ≡ 84 → tape_of l ≡ up_to most_words (numbers (after (drop 1 l)))
  unfolding tape_of
  tape-by e = rw (led.is, eq-eqb x 84 e, led.rest (λ q. omega arith))

  -- another letter, or none
  pub tape-none : (x ≡ 84 → ⊥) → tape_of l ≡ None
  unfolding tape_of
  tape-none n = rw (led.is, ne_eqb x 84 n)
