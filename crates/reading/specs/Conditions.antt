-- The conditions of levels, and whether one has been read as often as it has dummies, by counts of their slots.
use Rattle.std.specs.Prelude.{◌≡◌, Bool, not, ◌&&◌, ◌||◌, ℕ, zero, suc, ◌+◌, ◌-◌, ◌^◌, ◌≤◌, ◌<◌, if◌then◌else◌}
use Rattle.std.proofs.Math.Path.{refl, sym}
use Rattle.std.proofs.Common.{ap, ◌∙◌, true≢false, arith}
use Rattle.std.proofs.Math.Bool.{true, false}
use Rattle.std.proofs.Math.Decide.{ℕ_discrete}
use Rattle.std.proofs.Math.Dec.{leb, ltb}
use borrow.Author.Tests.{eqb-true, eq-eqb, lt-ltb, le-ltb, ltb-true}
use Rattle.lists.specs.All.{any_none, any-all, below-below}
use Rattle.lists.specs.Members.{all-mem, below-mem}
use Rattle.lists.specs.Search.{any, below}
use Rattle.lists.specs.Tests.{and_l, both_true}
use Rattle.lists.specs.Totals.{total, total-gap, total-none}
use Rattle.rules.specs.Shape.{slots, cell}
use Rattle.rules.specs.State.{State}
use Rattle.rules.specs.Levels.{filled}
use Rattle.rules.specs.Blocks.{is_unread, reads_of}
use Rattle.rules.specs.Request.{is_source, worn}
use Rattle.rules.specs.Reader as Reader
use Rattle.rules.specs.Reader.{empty, unmarked, all_read, some_unread, condition_by, condition, costing, costs}
use Rattle.rules.proofs.Laws.Reader.{costs-is}
use Rattle.reading.specs.declared.Condition.{Condition}
use Rattle.reading.specs.declared.Condition.TheVariants.{Empty, Unmarked, AllRead, SomeUnread}

abbrev pub condition_of : Condition → Reader.Condition
condition_of Empty = empty
condition_of Unmarked = unmarked
condition_of AllRead = all_read
condition_of SomeUnread = some_unread

-- level ℓ costs a read, as one that is marked for shuffling or as another
abbrev pub ReadAs : State → ℕ → ℕ → Bool → Type 0
ReadAs s q ℓ marked = condition s q ℓ ≡ (if marked then some_unread else unmarked)

-- ---- Tests over the numbers below n
module _ (p : ℕ → Bool) (n : ℕ) where
  pub some_below : (i : ℕ) → i < n → p i ≡ true → any p (below n) ≡ true
  some_below i l e = go (any p (below n)) refl
    where
      go : (t : Bool) → any p (below n) ≡ t → t ≡ true
      go true w = refl
      go false w = absurd (true≢false (sym e ∙ all-mem (any_none p (below n) w) i (below-mem n i l)))

  pub none_below : ((i : ℕ) → i < n → p i ≡ false) → any p (below n) ≡ false
  none_below h = go (any p (below n)) refl
    where
      go : (t : Bool) → any p (below n) ≡ t → t ≡ false
      go false w = refl
      go true w = let x = any-all p (below-below n) w in absurd (true≢false (sym x.1.0 ∙ h x.0 x.1.1))

-- ---- A level has an unread slot exactly if fewer slots than it has were read
total-most : (n : ℕ) (f : ℕ → ℕ) → ((i : ℕ) → i < n → f i ≤ 1) → total n f ≤ n
unfolding total
total-most zero f h = omega arith
total-most (suc n) f h = omega (arith, total-most n f (λ i l. h i (omega arith)), h n (omega arith))

total-lt : (n j : ℕ) (f : ℕ → ℕ) → ((i : ℕ) → i < n → f i ≤ 1) → j < n → f j ≡ 0 → total n f < n
unfolding total
total-lt zero j f h l e = absurd (omega arith)
total-lt (suc n) j f h l e = go (ℕ_discrete j n) (total-lt n j f (λ i k. h i (omega arith)))
  where
    go : Dec (j ≡ n) → (j < n → f j ≡ 0 → total n f < n) → total n f + f n < suc n
    go (yes k) ih = let z : f n ≡ 0 = ap f (sym k) ∙ e in omega (arith, total-most n f (λ i u. h i (omega arith)))
    go (no k) ih = omega (arith, ih (omega arith) e, h n (omega arith))

module _ (s : State) (q ℓ : ℕ) (marks : (i : ℕ) → i < slots ℓ → s.mark (cell s.shape q ℓ i) ≤ 1) where
  abbrev reads : ℕ
  reads = reads_of s.shape s.mark q ℓ

  unread-left : any (is_unread s q ℓ) (below (slots ℓ)) ≡ ltb reads (slots ℓ)
  unfolding is_unread reads_of
  unread-left = both_true _ _ fewer some
    where
      fewer : any (is_unread s q ℓ) (below (slots ℓ)) ≡ true → ltb reads (slots ℓ) ≡ true
      fewer w =
          let x = any-all (is_unread s q ℓ) (below-below (slots ℓ)) w in
          let z = eqb-true (s.mark (cell s.shape q ℓ x.0)) 1 x.1.0 in
          lt-ltb _ _ (total-lt (slots ℓ) x.0 (λ i. 1 - s.mark (cell s.shape q ℓ i)) (λ i l. omega arith) x.1.1 (omega arith))

      some : ltb reads (slots ℓ) ≡ true → any (is_unread s q ℓ) (below (slots ℓ)) ≡ true
      some w =
          let f : ℕ → ℕ = λ i. 1 - s.mark (cell s.shape q ℓ i) in
          let g : ℕ → ℕ = λ i. 0 in
          let z = total-none (slots ℓ) g (λ i l. refl) in
          let x = total-gap (slots ℓ) f g (omega (arith, z, ltb-true (total (slots ℓ) f) (slots ℓ) w)) in
          some_below (is_unread s q ℓ) (slots ℓ) x.0 x.1.0 (eq-eqb (s.mark (cell s.shape q ℓ x.0)) 1 (omega (arith, x.1.1, marks x.0 x.1.0)))

  pub has-unread : filled (s.counter q) ℓ ≡ true → is_source s q ℓ ≡ true → reads < slots ℓ → some_unread ≡ condition s q ℓ
  unfolding condition condition_by
  has-unread a b l = sym (rw (a, b, unread-left, lt-ltb reads (slots ℓ) l))

  pub all_read_lem : filled (s.counter q) ℓ ≡ true → is_source s q ℓ ≡ true → slots ℓ ≤ reads → all_read ≡ condition s q ℓ
  unfolding condition condition_by
  all_read_lem a b l = sym (rw (a, b, unread-left, le-ltb reads (slots ℓ) l))

module _ (s : State) (q ℓ : ℕ) where
  pub is-empty : filled (s.counter q) ℓ ≡ false → empty ≡ condition s q ℓ
  unfolding condition condition_by
  is-empty a = sym (rw a)

  pub is-unmarked : filled (s.counter q) ℓ ≡ true → is_source s q ℓ ≡ false → unmarked ≡ condition s q ℓ
  unfolding condition condition_by
  is-unmarked a b = sym (rw (a, b))

  -- a level that is not marked costs a read if it is filled
  pub costs-above : is_source s q ℓ ≡ false → costs s q ℓ ≡ filled (s.counter q) ℓ
  costs-above b = costs-is s q ℓ ∙ ap (λ t. filled (s.counter q) ℓ && (not t || any (is_unread s q ℓ) (below (slots ℓ)))) b ∙ go (filled (s.counter q) ℓ)
    where
      go : (t : Bool) → (t && true) ≡ t
      go true = refl
      go false = refl

  -- one that costs a read is filled
  pub costs-filled : costs s q ℓ ≡ true → filled (s.counter q) ℓ ≡ true
  costs-filled k = and_l (filled (s.counter q) ℓ) (not (is_source s q ℓ) || any (is_unread s q ℓ) (below (slots ℓ))) (sym (costs-is s q ℓ) ∙ k)

  -- ..and in the condition that its mark says
  pub read_as : (t : Bool) → is_source s q ℓ ≡ t → costs s q ℓ ≡ true → ReadAs s q ℓ t
  unfolding costs condition costing condition_by
  read_as t b k = go (filled (s.counter q) ℓ) (is_source s q ℓ) (any (is_unread s q ℓ) (below (slots ℓ))) t b k
    where
      go : (full source left t : Bool) → source ≡ t → costing (condition_by full source left) ≡ true → condition_by full source left ≡ (if t then some_unread else unmarked)
      go false source left t b k = absurd (true≢false (sym k))
      go true true true true b k = refl
      go true true false true b k = absurd (true≢false (sym k))
      go true true left false b k = absurd (true≢false b)
      go true false left true b k = absurd (true≢false (sym b))
      go true false left false b k = refl

  pub worn-empty : filled (s.counter q) ℓ ≡ false → worn s q ℓ ≡ false
  unfolding worn
  worn-empty a = rw a

  -- one that is a source if it is filled is not worn
  pub worn-source : (filled (s.counter q) ℓ ≡ true → is_source s q ℓ ≡ true) → worn s q ℓ ≡ false
  unfolding worn
  worn-source b = go (filled (s.counter q) ℓ) refl
    where
      go : (t : Bool) → filled (s.counter q) ℓ ≡ t → (t && (not (is_source s q ℓ) && leb (2 ^ ℓ) (reads_of s.shape s.mark q ℓ))) ≡ false
      go true e = rw (b e)
      go false e = refl

  pub worn-other : filled (s.counter q) ℓ ≡ true → is_source s q ℓ ≡ false → worn s q ℓ ≡ leb (2 ^ ℓ) (reads_of s.shape s.mark q ℓ)
  unfolding worn
  worn-other a b = rw (a, b)
