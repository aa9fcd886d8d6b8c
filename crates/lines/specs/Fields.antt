-- The fields of a line, by the places where they end.
use Rattle.std.specs.Prelude.{◌≡◌, refl, Bool, true, false, List, [], ◌∷◌, ◌++◌, ℕ, zero, suc, ◌+◌, ◌-◌, ◌≤◌, ◌<◌, length, get_or, take, drop, eqb}
use Rattle.std.proofs.Common.{ap, sym, ◌∙◌, add-one, arith, length-drop, drop_of_length-le, drop-cons, get_or-drop, drop-drop, eq-eqb, ne_eqb, eqb-true}
use Rattle.std.proofs.Math.Decide.{dec_lt}
use Rattle.std.proofs.lemmas.Bool.{eqb-false}
use Rattle.lists.specs.Search.{any, member}
use Rattle.lines.specs.Lines.{Line, malformed, front, fields, letter, others, bare}

-- the fields behind the place where one ends: none at the line's end, else those behind the blank
unfoldable pub after : List ℕ → List (List ℕ)
after [] = []
after (x ∷ xs) = fields xs

-- the field from a on ends at e
pub record Cut (l : List ℕ) (a e : ℕ) : Type 0 where
  pub from : a ≤ e
  pub end : e ≤ length l
  pub field : fields (drop a l) ≡ take (e - a) (drop a l) ∷ after (drop e l)

-- the first field ends at the first blank
cut-first : (xs : List ℕ) (k : ℕ) → k ≤ length xs → ((i : ℕ) → i < k → get_or xs i 0 ≡ 32 → ⊥) → (k < length xs → get_or xs k 0 ≡ 32) → fields xs ≡ take k xs ∷ after (drop k xs)
unfolding fields after front
cut-first [] zero l out blank = refl
cut-first [] (suc k) l out blank = absurd (omega arith)
cut-first (x ∷ xs) zero l out blank = rw (eq-eqb x 32 (blank (omega arith)), fields)
cut-first (x ∷ xs) (suc k) l out blank = rw (ne_eqb x 32 (out 0 (omega arith)), fields, cut-first xs k (omega arith) (λ i h. out (suc i) (omega arith)) (λ h. blank (omega arith)))

-- a field ends at the first blank from its start on
pub cut : (l : List ℕ) (a e : ℕ) → a ≤ e → e ≤ length l → ((i : ℕ) → a ≤ i → i < e → get_or l i 0 ≡ 32 → ⊥) → (e < length l → get_or l e 0 ≡ 32) → Cut l a e
cut l a e u h out blank =
    let s : a + (e - a) ≡ e = omega arith in
    record {
      from = u;
      end = h;
      field = cut-first (drop a l) (e - a) (omega (arith, length-drop a l))
          (λ i k p. out (a + i) (omega arith) (omega arith) (sym (get_or-drop a l i 0) ∙ p))
          (λ k. get_or-drop a l (e - a) 0 ∙ ap (λ n. get_or l n 0) s ∙ blank (omega (arith, length-drop a l)))
          ∙ ap (λ r. take (e - a) (drop a l) ∷ after r) (drop-drop (e - a) a l ∙ ap (λ n. drop n l) s);
    }

-- one byte more without a blank
pub clear-more : (l : List ℕ) (a e : ℕ) → ((i : ℕ) → a ≤ i → i < e → get_or l i 0 ≡ 32 → ⊥) → (get_or l e 0 ≡ 32 → ⊥) → (i : ℕ) → a ≤ i → i < e + 1 → get_or l i 0 ≡ 32 → ⊥
clear-more l a e f g i u h p = go (dec_lt i e)
  where
    go : Dec (i < e) → ⊥
    go (yes k) = f i u k p
    go (no k) = let q : i ≡ e = omega arith in g (rw q at p)

-- behind a blank a field starts
pub after-blank : (l : List ℕ) (k : ℕ) → k < length l → after (drop k l) ≡ fields (drop (k + 1) l)
unfolding after
after-blank l k h = rw (add-one k, drop-cons l k 0 h)

-- at the line's end there is no field more
pub after-end : (l : List ℕ) (k : ℕ) → length l ≤ k → after (drop k l) ≡ []
unfolding after
after-end l k h = rw (drop_of_length-le l h)

-- ---- The first letter

-- the letter of a line is x, and if that is no blank, the other fields stand behind its place
pub record Led (l : List ℕ) (x : ℕ) : Type 0 where
  pub is : letter (fields l) ≡ x
  pub rest : (x ≡ 32 → ⊥) → others (fields l) ≡ after (drop 1 l)

-- an empty line has none
pub led-none : (l : List ℕ) → length l ≡ 0 → Led l 32
unfolding letter fields
led-none [] h = record { is = refl; rest = λ n. absurd (n refl) }
led-none (x ∷ xs) h = absurd (omega arith)

-- a line whose first field goes on has none
pub led-long : (l : List ℕ) → 1 < length l → (get_or l 1 0 ≡ 32 → ⊥) → Led l 32
unfolding letter fields front
led-long [] h n = absurd (omega arith)
led-long (x ∷ []) h n = absurd (omega arith)
led-long (x ∷ y ∷ ys) h n = record { is = go (eqb x 32) refl; rest = λ m. absurd (m refl) }
  where
    long : (fs : List (List ℕ)) → letter (front x (front y fs)) ≡ 32
    long [] = refl
    long (f ∷ fs) = refl

    go : (t : Bool) → eqb x 32 ≡ t → letter (fields (x ∷ y ∷ ys)) ≡ 32
    go true e = rw (e, fields)
    go false e = rw (e, fields, ne_eqb y 32 n, fields) (long (fields ys))

-- a byte alone is the letter
pub led-alone : (l : List ℕ) → 0 < length l → (1 < length l → get_or l 1 0 ≡ 32) → Led l (get_or l 0 0)
unfolding letter others fields
led-alone [] h f = absurd (omega arith)
led-alone (x ∷ xs) h f = go (eqb x 32) refl
  where
    blank : eqb x 32 ≡ true → x ≡ 32
    blank = eqb-true x 32

    first : eqb x 32 ≡ false → fields (x ∷ xs) ≡ (x ∷ []) ∷ after xs
    first e = cut-first (x ∷ xs) 1 (omega arith) (λ i k p. eqb-false x 32 e (rw (at_zero i k) at p)) f
      where
        at_zero : (i : ℕ) → i < 1 → i ≡ 0
        at_zero i k = omega arith

    go : (t : Bool) → eqb x 32 ≡ t → Led (x ∷ xs) x
    go true e = record { is = rw (e, fields) (sym (blank e)); rest = λ n. absurd (n (blank e)) }
    go false e = record { is = ap letter (first e); rest = λ n. ap others (first e) }

-- ---- Fields behind the letter

-- what is so of every list with a field is so of a line's fields
pub some-field : (P : List (List ℕ) → Type 0) → ((f : List ℕ) (fs : List (List ℕ)) → P (f ∷ fs)) → (xs : List ℕ) → P (fields xs)
unfolding fields front
some-field P h [] = h [] []
some-field P h (x ∷ xs) = go (eqb x 32) refl
  where
    more : (fs : List (List ℕ)) → P (front x fs)
    more [] = h (x ∷ []) []
    more (f ∷ fs) = h (x ∷ f) fs

    go : (t : Bool) → eqb x 32 ≡ t → P (fields (x ∷ xs))
    go true e = rw (e, fields) (h [] (fields xs))
    go false e = rw (e, fields) (more (fields xs))

-- a letter with more behind it
pub bare-more : (r : Line) (l : List ℕ) → 1 < length l → bare r (after (drop 1 l)) ≡ malformed
unfolding bare
bare-more r l h = rw (after-blank l 1 h) (some-field (λ fs. bare r fs ≡ malformed) (λ f fs. refl) (drop 2 l))

-- a letter alone
pub bare-none : (r : Line) (l : List ℕ) → length l ≤ 1 → bare r (after (drop 1 l)) ≡ r
unfolding bare
bare-none r l h = rw (after-end l 1 h)

-- ---- The fields are the line's

-- the line that fields make, with one blank between two
unfoldable pub parted : List (List ℕ) → List ℕ
parted [] = []
parted (f ∷ []) = f
parted (f ∷ g ∷ gs) = f ++ (32 ∷ parted (g ∷ gs))

-- a line's fields make the line
pub fields-parted : (l : List ℕ) → parted (fields l) ≡ l
unfolding fields parted front
fields-parted [] = refl
fields-parted (x ∷ xs) = go (eqb x 32) refl (fields-parted xs)
  where
    inner : (f : List ℕ) (fs : List (List ℕ)) → parted (front x (f ∷ fs)) ≡ x ∷ parted (f ∷ fs)
    inner f [] = refl
    inner f (g ∷ gs) = refl

    go : (t : Bool) → eqb x 32 ≡ t → parted (fields xs) ≡ xs → parted (fields (x ∷ xs)) ≡ x ∷ xs
    go true e ih = rw (e, fields) (some-field (λ fs. parted ([] ∷ fs) ≡ 32 ∷ parted fs) (λ f fs. refl) xs ∙ rw (ih, eqb-true x 32 e))
    go false e ih = rw (e, fields) (some-field (λ fs. parted (front x fs) ≡ x ∷ parted fs) inner xs ∙ ap (λ r. x ∷ r) ih)

-- none of them has a blank
pub fields-clear : (l : List ℕ) → any (member 32) (fields l) ≡ false
unfolding fields front any member
fields-clear [] = refl
fields-clear (x ∷ xs) = go (eqb x 32) refl (fields-clear xs)
  where
    go : (t : Bool) → eqb x 32 ≡ t → any (member 32) (fields xs) ≡ false → any (member 32) (fields (x ∷ xs)) ≡ false
    go true e ih = rw (e, fields) ih
    go false e ih = rw (e, fields) (some-field (λ fs. any (member 32) (front x fs) ≡ any (member 32) fs) (λ f fs. rw (ne_eqb 32 x (λ q. eqb-false x 32 e (sym q)))) xs ∙ ih)
