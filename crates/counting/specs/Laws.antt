-- One block or one job more is counted.
use Rattle.std.specs.Prelude.{◌≡◌, Bool, not, ◌&&◌, List, [], ◌∷◌, ◌++◌, ℕ, ◌+◌, ◌≤◌, ◌<◌, length, get_or, replicate, eqb}
use Rattle.std.proofs.Math.Path.{refl}
use Rattle.std.proofs.Common.{sym, ap, ◌∙◌, arith, length-set, length-append, get_or-set_same, get_or-set_other, eq-eqb, ne_eqb}
use Rattle.std.proofs.Math.Bool.{true, false}
use Rattle.std.proofs.Math.Decide.{ℕ_discrete}
use Rattle.std.proofs.lemmas.List.{get_or-replicate}
use Rattle.lists.specs.Search.{keep, below, count, member}
use Rattle.lists.specs.Lengths.{keep-le, length-below, below_last, keep-end-yes, keep-end-no}
use Rattle.rules.specs.State.{State}
use Rattle.rules.specs.Blocks.{is_nowhere}
use Rattle.counting.specs.Counts.{table_room, most_partitions, entry_at, RowCounts, more, added, row_of, CountedTo}

-- ---- One entry of a table

more_same : (i : ℕ) (t : List ℕ) → i < length t → get_or (more i t) i 0 ≡ get_or t i 0 + 1
more_same i t l = get_or-set_same t i (get_or t i 0 + 1) 0 l

pub more-other : (i j : ℕ) (t : List ℕ) → (j ≡ i → ⊥) → get_or (more i t) j 0 ≡ get_or t j 0
more-other i j t n = get_or-set_other t i j (get_or t i 0 + 1) 0 n

pub added-length : (k q : ℕ) (t : List ℕ) → length (added k q t) ≡ length t
added-length k q t = length-set (more (entry_at k q) t) _ _ ∙ length-set t _ _

-- ---- One element of a row

module _ (f : ℕ → ℕ) (xs : List ℕ) (k q : ℕ) (t : List ℕ) (short : q < most_partitions) (row : k < 4) (size : length t ≡ table_room) where
  pub row-added : (x : ℕ) → f x ≡ q → RowCounts f xs k t → RowCounts f (xs ++ (x ∷ [])) k (added k q t)
  row-added x e r = record { each = λ p l. go p l (ℕ_discrete p q); all = every }
    where
      go : (p : ℕ) → p < most_partitions → Dec (p ≡ q) → get_or (added k q t) (entry_at k p) 0 ≡ length (keep (λ y. eqb (f y) p) (xs ++ (x ∷ [])))
      go p l (yes z) =
          more-other (entry_at k most_partitions) (entry_at k p) (more (entry_at k q) t) (λ w. omega arith)
          ∙ ap (λ j. get_or (more (entry_at k q) t) (entry_at k j) 0) z
          ∙ more_same (entry_at k q) t (omega arith)
          ∙ ap (λ n. n + 1) (ap (λ j. get_or t (entry_at k j) 0) (sym z) ∙ r.each p l)
          ∙ sym (ap length (keep-end-yes (λ y. eqb (f y) p) xs x (eq-eqb (f x) p (e ∙ sym z))) ∙ length-append (keep (λ y. eqb (f y) p) xs) (x ∷ []))
      go p l (no z) =
          more-other (entry_at k most_partitions) (entry_at k p) (more (entry_at k q) t) (λ w. omega arith)
          ∙ more-other (entry_at k q) (entry_at k p) t (λ w. z (omega arith))
          ∙ r.each p l
          ∙ sym (ap length (keep-end-no (λ y. eqb (f y) p) xs x (ne_eqb (f x) p (λ w. z (sym w ∙ e)))))

      every : get_or (added k q t) (entry_at k most_partitions) 0 ≡ length (xs ++ (x ∷ []))
      every =
          more_same (entry_at k most_partitions) (more (entry_at k q) t) (omega (arith, length-set t (entry_at k q) (get_or t (entry_at k q) 0 + 1)))
          ∙ ap (λ n. n + 1) (more-other (entry_at k q) (entry_at k most_partitions) t (λ w. omega arith) ∙ r.all)
          ∙ sym (length-append xs (x ∷ []))

  -- another row
  pub row_other : (j : ℕ) → (j ≡ k → ⊥) → RowCounts f xs j t → RowCounts f xs j (added k q t)
  row_other j n r = record {
    each = λ p l. apart p (omega arith) ∙ r.each p l;
    all = apart most_partitions (omega arith) ∙ r.all;
  }
    where
      apart : (p : ℕ) → p ≤ most_partitions → get_or (added k q t) (entry_at j p) 0 ≡ get_or t (entry_at j p) 0
      apart p l =
          more-other (entry_at k most_partitions) (entry_at j p) (more (entry_at k q) t) (λ w. n (omega arith))
          ∙ more-other (entry_at k q) (entry_at j p) t (λ w. n (omega arith))

-- the entries of a row are at most as many as are counted
pub row-le : (f : ℕ → ℕ) (xs : List ℕ) (k q : ℕ) (t : List ℕ) → RowCounts f xs k t → q < most_partitions → (get_or t (entry_at k q) 0 ≤ length xs) × (get_or t (entry_at k most_partitions) 0 ≤ length xs)
row-le f xs k q t r l = (omega (arith, r.each q l, keep-le (λ x. eqb (f x) q) xs), omega (arith, r.all))

-- nothing is counted yet
pub row-none : (f : ℕ → ℕ) (k : ℕ) → k < 4 → RowCounts f [] k (replicate table_room 0)
unfolding keep
row-none f k h = record {
  each = λ q l. get_or-replicate table_room (entry_at k q) 0 0 (omega arith);
  all = get_or-replicate table_room (entry_at k most_partitions) 0 0 (omega arith);
}

-- ---- One block

pub counted_none : (s : State) → CountedTo s 0 (replicate table_room 0)
unfolding below count keep
counted_none s = record {
  nowhere = row-none s.partition 0 (omega arith);
  stored = row-none s.partition 1 (omega arith);
  waiting = row-none s.partition 2 (omega arith);
}

module _ (s : State) (n q : ℕ) (t : List ℕ) (short : q < most_partitions) (size : length t ≡ table_room) (part : s.partition n ≡ q) where
  -- the block passes the test of its row, and of no other
  counts : (p : ℕ → Bool) (k : ℕ) → k < 4 → p n ≡ true → RowCounts s.partition (keep p (below n)) k t → RowCounts s.partition (keep p (below (n + 1))) k (added k q t)
  counts p k h e r = rw (below_last n, keep-end-yes p (below n) n e) (row-added s.partition (keep p (below n)) k q t short h size n part r)

  passes : (p : ℕ → Bool) (k j : ℕ) → k < 4 → p n ≡ false → (j ≡ k → ⊥) → RowCounts s.partition (keep p (below n)) j t → RowCounts s.partition (keep p (below (n + 1))) j (added k q t)
  passes p k j h e m r = rw (below_last n, keep-end-no p (below n) n e) (row_other s.partition (keep p (below n)) k q t short h size j m r)

  pub counted-more : CountedTo s n t → CountedTo s (n + 1) (added (row_of (is_nowhere (s.place n)) (member n s.waiting)) q t)
  unfolding row_of
  counted-more r = go (is_nowhere (s.place n)) (member n s.waiting) refl refl
    where
      go : (x w : Bool) → is_nowhere (s.place n) ≡ x → member n s.waiting ≡ w → CountedTo s (n + 1) (added (row_of x w) q t)
      go true true e d = record {
        nowhere = passes _ 2 0 (omega arith) (rw (e, d)) (λ z. omega arith) r.nowhere;
        stored = passes _ 2 1 (omega arith) (rw e) (λ z. omega arith) r.stored;
        waiting = counts _ 2 (omega arith) (rw (e, d)) r.waiting;
      }
      go true false e d = record {
        nowhere = counts _ 0 (omega arith) (rw (e, d)) r.nowhere;
        stored = passes _ 0 1 (omega arith) (rw e) (λ z. omega arith) r.stored;
        waiting = passes _ 0 2 (omega arith) (rw (e, d)) (λ z. omega arith) r.waiting;
      }
      go false w e d = record {
        nowhere = passes _ 1 0 (omega arith) (rw e) (λ z. omega arith) r.nowhere;
        stored = counts _ 1 (omega arith) (rw e) r.stored;
        waiting = passes _ 1 2 (omega arith) (rw e) (λ z. omega arith) r.waiting;
      }

-- the row of a block has at most as many as there are blocks before it
pub counted-le : (s : State) (n q : ℕ) (t : List ℕ) (x w : Bool) → q < most_partitions → CountedTo s n t → (row_of x w < 3) × (get_or t (entry_at (row_of x w) q) 0 ≤ n) × (get_or t (entry_at (row_of x w) most_partitions) 0 ≤ n)
unfolding row_of
counted-le s n q t true true l r = let a = row-le _ _ 2 q t r.waiting l in omega (arith, keep-le (λ b. is_nowhere (s.place b) && member b s.waiting) (below n), length-below n)
counted-le s n q t true false l r = let a = row-le _ _ 0 q t r.nowhere l in omega (arith, keep-le (λ b. is_nowhere (s.place b) && not (member b s.waiting)) (below n), length-below n)
counted-le s n q t false w l r = let a = row-le _ _ 1 q t r.stored l in omega (arith, keep-le (λ b. not (is_nowhere (s.place b))) (below n), length-below n)

-- the rows of the blocks do not change where a job is counted
pub counted-beside : (s : State) (n q : ℕ) (t : List ℕ) → q < most_partitions → length t ≡ table_room → CountedTo s n t → CountedTo s n (added 3 q t)
counted-beside s n q t short size r = record {
  nowhere = row_other s.partition _ 3 q t short (omega arith) size 0 (λ z. omega arith) r.nowhere;
  stored = row_other s.partition _ 3 q t short (omega arith) size 1 (λ z. omega arith) r.stored;
  waiting = row_other s.partition _ 3 q t short (omega arith) size 2 (λ z. omega arith) r.waiting;
}
