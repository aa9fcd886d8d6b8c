-- Tables of which a part is put entry by entry.
use Rattle.std.specs.Prelude.{◌≡◌, refl, List, [], ◌∷◌, ◌++◌, ℕ, zero, suc, ◌+◌, ◌-◌, ◌<◌, length, get_or, set}
use Rattle.std.proofs.Common.{ap, sym, ◌∙◌, arith, length-append, length-set, get_or-set_same, get_or-set_other}
use Rattle.std.proofs.Math.Path.{fun_ext}
use Rattle.std.proofs.Math.Decide.{ℕ_discrete, dec_lt}
use Rattle.std.proofs.Math.ListN.{get_or-append}
use Rattle.std.proofs.Math.Seq.{get_or-append_seam}
use Rattle.lists.specs.Tables.{put, put_all, put_same, put_other, put_all-in, put_all-before, put_all-behind}

module _ (a : ℕ) (xs : List ℕ) (f : ℕ → ℕ) where
  pub put_all-at : (i : ℕ) → i < length xs → put_all a xs f (a + i) ≡ get_or xs i 0
  put_all-at i h = let e : a + i - a ≡ i = omega arith in put_all-in a xs f (a + i) (omega arith) (omega arith) ∙ ap (λ k. get_or xs k 0) e

  put_all-else : (j : ℕ) → ((i : ℕ) → i < length xs → ¬ (j ≡ a + i)) → put_all a xs f j ≡ f j
  put_all-else j h = go (dec_lt j a) (dec_lt j (a + length xs))
    where
      go : Dec (j < a) → Dec (j < a + length xs) → put_all a xs f j ≡ f j
      go (yes l) d = put_all-before a xs f j l
      go (no l) (no k) = put_all-behind a xs f j (omega arith)
      go (no l) (yes k) = absurd (h (j - a) (omega arith) (omega arith))

  -- a table that has the list from a on, and is else as it was
  pub put_all-ext : (g : ℕ → ℕ) → ((i : ℕ) → i < length xs → g (a + i) ≡ get_or xs i 0) → ((j : ℕ) → ((i : ℕ) → i < length xs → ¬ (j ≡ a + i)) → g j ≡ f j) → g ≡ put_all a xs f
  put_all-ext g within else = fun_ext (λ j. go j (dec_lt j a) (dec_lt j (a + length xs)))
    where
      go : (j : ℕ) → Dec (j < a) → Dec (j < a + length xs) → g j ≡ put_all a xs f j
      go j (yes l) d = else j (λ i h e. omega arith) ∙ sym (put_all-before a xs f j l)
      go j (no l) (no k) = else j (λ i h e. omega arith) ∙ sym (put_all-behind a xs f j (omega arith))
      go j (no l) (yes k) =
          let e : j ≡ a + (j - a) = omega arith in
          ap g e ∙ within (j - a) (omega arith) ∙ sym (put_all-in a xs f j (omega arith) k)

  -- what stands there already
  pub put_all-same : ((i : ℕ) → i < length xs → f (a + i) ≡ get_or xs i 0) → f ≡ put_all a xs f
  put_all-same h = put_all-ext f h (λ j n. refl)

module _ (a : ℕ) (xs : List ℕ) (f : ℕ → ℕ) where
  -- one entry more
  pub put-more : (v : ℕ) → put (a + length xs) v (put_all a xs f) ≡ put_all a (xs ++ (v ∷ [])) f
  put-more v = put_all-ext a (xs ++ (v ∷ [])) f (put (a + length xs) v (put_all a xs f)) (λ i h. within i (ℕ_discrete i (length xs)) h)
      (λ j n. put_other (a + length xs) v (put_all a xs f) j (n (length xs) (omega (arith, long))) ∙ put_all-else a xs f j (λ i h. n i (omega (arith, long))))
    where
      long : length (xs ++ (v ∷ [])) ≡ length xs + 1
      long = length-append xs (v ∷ [])

      within : (i : ℕ) → Dec (i ≡ length xs) → i < length (xs ++ (v ∷ [])) → put (a + length xs) v (put_all a xs f) (a + i) ≡ get_or (xs ++ (v ∷ [])) i 0
      within i (yes e) h = rw e (put_same (a + length xs) v (put_all a xs f) ∙ sym (get_or-append_seam xs v [] 0))
      within i (no e) h =
          let l : i < length xs = omega (arith, long) in
          put_other (a + length xs) v (put_all a xs f) (a + i) (λ d. e (omega arith)) ∙ put_all-at a xs f i l ∙ sym (get_or-append xs (v ∷ []) 0 i l)

  -- one entry changed
  pub put_in : (k v : ℕ) → k < length xs → put (a + k) v (put_all a xs f) ≡ put_all a (set xs k v) f
  put_in k v h = put_all-ext a (set xs k v) f (put (a + k) v (put_all a xs f)) (λ i l. within i (ℕ_discrete i k) l)
      (λ j n. put_other (a + k) v (put_all a xs f) j (n k (omega (arith, length-set xs k v))) ∙ put_all-else a xs f j (λ i l. n i (omega (arith, length-set xs k v))))
    where
      within : (i : ℕ) → Dec (i ≡ k) → i < length (set xs k v) → put (a + k) v (put_all a xs f) (a + i) ≡ get_or (set xs k v) i 0
      within i (yes e) l = rw e (put_same (a + k) v (put_all a xs f) ∙ sym (get_or-set_same xs k v 0 h))
      within i (no e) l = put_other (a + k) v (put_all a xs f) (a + i) (λ d. e (omega arith)) ∙ put_all-at a xs f i (omega (arith, length-set xs k v)) ∙ sym (get_or-set_other xs k i v 0 e)

  -- the whole part written once more
  pub put_all-over : (ys : List ℕ) → length ys ≡ length xs → put_all a xs (put_all a ys f) ≡ put_all a xs f
  put_all-over ys e = put_all-ext a xs f (put_all a xs (put_all a ys f)) (put_all-at a xs (put_all a ys f))
      (λ j n. put_all-else a xs (put_all a ys f) j n ∙ put_all-else a ys f j (λ i h. n i (omega arith)))

pub put_all-none : (a : ℕ) (f : ℕ → ℕ) → f ≡ put_all a [] f
put_all-none a f = put_all-same a [] f (λ i h. absurd (omega arith))

-- the first entry, and then the others
pub put_first : (a v : ℕ) (xs : List ℕ) (f : ℕ → ℕ) → put_all (a + 1) xs (put a v f) ≡ put_all a (v ∷ xs) f
put_first a v xs f = put_all-ext a (v ∷ xs) f (put_all (a + 1) xs (put a v f)) within else
  where
    within : (i : ℕ) → i < suc (length xs) → put_all (a + 1) xs (put a v f) (a + i) ≡ get_or (v ∷ xs) i 0
    within zero l = let e : a + 0 ≡ a = omega arith in rw e (put_all-before (a + 1) xs (put a v f) a (omega arith) ∙ put_same a v f)
    within (suc i) l = let e : a + suc i ≡ a + 1 + i = omega arith in rw e (put_all-at (a + 1) xs (put a v f) i (omega arith))

    else : (j : ℕ) → ((i : ℕ) → i < suc (length xs) → ¬ (j ≡ a + i)) → put_all (a + 1) xs (put a v f) j ≡ f j
    else j n = put_all-else (a + 1) xs (put a v f) j (λ i l e. n (suc i) (omega arith) (omega arith)) ∙ put_other a v f j (λ e. n 0 (omega arith) (omega arith))
