-- What the slots hold is what has its place there: the rules gather and count by slots, these lemmas by places.
use Rattle.std.specs.Prelude.{◌≡◌, refl, ◌⊎◌, true, ◌&&◌, ◌||◌, List, [], ◌∷◌, map, length, take, eqb, ltb}
use Rattle.std.proofs.Math.Path.{ap, sym}
use Rattle.std.proofs.Common.{◌∙◌, length-take}
use Rattle.std.proofs.Math.Logic.{inl, inr, ⊎_elim}
use Prim.Native.Nat.{ℕ, zero, suc, ◌+◌, ◌-◌, ◌^◌, ◌≤◌, ◌<◌, min}
use native.Mathlib.Omega.{arith}
use Rattle.std.proofs.Math.ListN.{length-map}
use borrow.Author.Tests.{eqb-true, eq-eqb, ltb-true, lt-ltb}
use Rattle.lists.specs.All.{keep-passes}
use Rattle.lists.specs.Distinct.{Mem, NoDup}
use Rattle.lists.specs.Members.{all-mem, keep-mem, mem-keep, nodup-below, mem_below, below-mem, mem-member, member-mem, map-mem, mem-map, nodup-sub, nodup-keep-map, nodup-map, keep_same, append-mem, member-append, append_right}
use Rattle.lists.specs.Search.{keep, below, member}
use Rattle.lists.specs.Tests.{and_l, and_r, and-true, or-true, or_left, or_right, both_true}
use Rattle.rules.specs.Blocks.{entries, blocks_in}
use Rattle.rules.proofs.Laws.Layout.{offset-in}
use Rattle.rules.specs.Jobs.{joined, top_of}
use Rattle.rules.proofs.Laws.Levels.{top_lt, levels-pos}
use Rattle.rules.specs.Levels.{filled, source_levels}
use Rattle.rules.specs.Rebuild.{gathered, gather_from, entries_in, chosen}
use Rattle.rules.specs.Shape.{cell, offset, slots}
use Rattle.rules.specs.State.{State, stored}
use Rattle.reachable.proofs.Blocks.{lt-below, is_below_lem, place-lt, stored-inj, nodup-in, in-why, why-in, Gathered}
use Rattle.reachable.proofs.Cells.{offset-of, offset-cell}
use Rattle.reachable.specs.Invariant.{Reached}
use Rattle.reachable.specs.Live.{is_below, stored_in, counted}
use Rattle.reachable.proofs.Live.{counted-calm}

-- the front job's partition is one of the shape's
pub front-in : (s : State) → Reached s → (q : ℕ) (rest : List ℕ) → s.queue ≡ q ∷ rest → q < s.shape.P
front-in s f q rest e = all-mem f.range.queue q (rw e (inl refl))

-- what the slots of some levels hold
entries-why : (at : ℕ → ℕ → ℕ) (v : ℕ) (ls : List ℕ) → Mem v (entries_in at ls) → (ℓ : ℕ) × (i : ℕ) × (Mem ℓ ls × (i < slots ℓ) × (at ℓ i ≡ v))
unfolding entries_in
entries-why at v [] m = absurd m
entries-why at v (ℓ ∷ ls) m = go (append-mem v (map (at ℓ) (below (2 ^ (ℓ + 1)))) (entries_in at ls) m) (entries-why at v ls)
  where
    go : Mem v (map (at ℓ) (below (2 ^ (ℓ + 1)))) ⊎ Mem v (entries_in at ls) → (Mem v (entries_in at ls) → (ℓ : ℕ) × (i : ℕ) × (Mem ℓ ls × (i < slots ℓ) × (at ℓ i ≡ v)))
        → (m : ℕ) × (i : ℕ) × (Mem m (ℓ ∷ ls) × (i < slots m) × (at m i ≡ v))
    go (inl k) ih = let r = mem-map (at ℓ) v (below (2 ^ (ℓ + 1))) k in (ℓ, r.0, (inl refl, mem_below (2 ^ (ℓ + 1)) r.0 r.1.0, sym r.1.1))
    go (inr k) ih = let r = ih k in (r.0, r.1, (inr r.2.0, r.2.1, r.2.2))

why-entries : (at : ℕ → ℕ → ℕ) (ls : List ℕ) (ℓ i : ℕ) → Mem ℓ ls → i < slots ℓ → Mem (at ℓ i) (entries_in at ls)
unfolding entries_in
why-entries at [] ℓ i m l = absurd m
why-entries at (k ∷ ls) ℓ i (inl e) l = member-append (at ℓ i) (map (at k) (below (2 ^ (k + 1)))) (entries_in at ls) (rw e (map-mem (at k) i (below (2 ^ (k + 1))) (below-mem (2 ^ (k + 1)) i (rw e at l))))
why-entries at (k ∷ ls) ℓ i (inr m) l = append_right (at ℓ i) (map (at k) (below (2 ^ (k + 1)))) (entries_in at ls) (why-entries at ls ℓ i m l)

module _ (s : State) (f : Reached s) (q : ℕ) (hq : q < s.shape.P) where
  -- the slot of an entry that names a block is the block's place
  entry_at : (top j b : ℕ) → top ≤ s.shape.L → j < slots top - 2 → s.holds (cell s.shape q 0 j) ≡ suc b
      → (ℓ : ℕ) × (i : ℕ) × ((ℓ < top) × (offset ℓ i ≡ j) × (b < s.shape.N) × (s.partition b ≡ q) × (s.place b ≡ stored ℓ i))
  entry_at top j b ht hj e =
      let r = offset-of top j hj in
      let hℓ : r.0 < s.shape.L = omega (arith, r.2.0) in
      let same : cell s.shape q r.0 r.1 ≡ cell s.shape q 0 j = offset-cell s.shape q r.0 r.1 j r.2.2 in
      let e' : s.holds (cell s.shape q r.0 r.1) ≡ suc b = ap s.holds same ∙ e in
      let a = f.agree.held q r.0 r.1 b hq hℓ r.2.1 e' in
      (r.0, r.1, (r.2.0, r.2.2, omega (arith, f.range.holds q r.0 r.1 hq hℓ r.2.1, e'), a.0, a.1))

  pub entry-why : (top b : ℕ) → top ≤ s.shape.L → Mem (suc b) (entries s q top) → (b < s.shape.N) × (s.partition b ≡ q) × (is_below top (s.place b) ≡ true)
  unfolding entries
  entry-why top b ht m =
      let r = mem-map (λ j. s.holds (cell s.shape q 0 j)) (suc b) (below (slots top - 2)) m in
      let x = entry_at top r.0 b ht (mem_below (slots top - 2) r.0 r.1.0) (sym r.1.1) in
      (x.2.2, x.2.3, lt-below top x.0 x.1 (s.place b) x.2.4 x.2.0)

  why-entry : (top b : ℕ) → b < s.shape.N → s.partition b ≡ q → is_below top (s.place b) ≡ true → Mem (suc b) (entries s q top)
  unfolding entries
  why-entry top b hb e k =
      let x = is_below_lem top (s.place b) (k) in
      let ℓ = x.0 in
      let i = x.1 in
      let w = place-lt s.shape.L ℓ i (s.place b) (f.range.places b hb) x.2.0 in
      let a = (f.agree.placed b ℓ i hb x.2.0).1 in
      let same : cell s.shape q 0 (offset ℓ i) ≡ cell s.shape (s.partition b) ℓ i = sym (offset-cell s.shape q ℓ i (offset ℓ i) refl) ∙ ap (λ p. cell s.shape p ℓ i) (sym e) in
      let m = map-mem (λ j. s.holds (cell s.shape q 0 j)) (offset ℓ i) (below (slots top - 2)) (below-mem (slots top - 2) (offset ℓ i) (offset-in top ℓ i x.2.1 w.1)) in
      rw (ap s.holds same ∙ a) at m

  -- the same slot holds no two blocks, and no block is in two slots
  entry-one : (top x y : ℕ) → top ≤ s.shape.L → x < slots top - 2 → y < slots top - 2 → ltb 0 (s.holds (cell s.shape q 0 x)) ≡ true
      → s.holds (cell s.shape q 0 x) ≡ s.holds (cell s.shape q 0 y) → x ≡ y
  unfolding offset
  entry-one top x y ht hx hy p e =
      let l = ltb-true 0 (s.holds (cell s.shape q 0 x)) p in
      let b = s.holds (cell s.shape q 0 x) - 1 in
      let u = entry_at top x b ht hx (omega arith) in
      let v = entry_at top y b ht hy (omega arith) in
      let w = stored-inj u.0 v.0 u.1 v.1 (sym u.2.4 ∙ v.2.4) in
      omega (arith, u.2.1, v.2.1, w.1, ap slots w.0)

  -- Document 01: q stores so many blocks. The slots that hold a block are as many as the blocks that have their place there
  held-stored : (top : ℕ) → top ≤ s.shape.L → blocks_in s q top ≡ length (stored_in s q top)
  unfolding blocks_in
  held-stored top ht = omega (
    arith,
    length-map (stored_in s q top) suc,
    nodup-sub (keep (ltb 0) (entries s q top)) (map suc (stored_in s q top)) once (λ v m. named v (ltb-true 0 v (all-mem (keep-passes (ltb 0) (entries s q top)) v m)) (keep-mem (ltb 0) (entries s q top) v m)),
    nodup-sub (map suc (stored_in s q top)) (keep (ltb 0) (entries s q top)) (nodup-map suc (stored_in s q top) (λ x y e. omega arith) (nodup-in s q top)) (λ v m.
        let r = mem-map suc v (stored_in s q top) m in
        let y = in-why s q top r.0 r.1.0 in
        rw r.1.1 (mem-keep (ltb 0) (entries s q top) (suc r.0) (why-entry top r.0 y.0 y.1 y.2) (lt-ltb 0 (suc r.0) (omega arith)))),
  )
    where
      once : NoDup (keep (ltb 0) (entries s q top))
      once = unfold entries in (nodup-keep-map (ltb 0) (λ j. s.holds (cell s.shape q 0 j)) (below (slots top - 2)) (nodup-below (slots top - 2))
          (λ x y m n. entry-one top x y ht (mem_below (slots top - 2) x m) (mem_below (slots top - 2) y n)))

      named : (v : ℕ) → 0 < v → Mem v (entries s q top) → Mem v (map suc (stored_in s q top))
      named zero l m = absurd (omega arith)
      named (suc b) l m = let y = entry-why top b ht m in map-mem suc b (stored_in s q top) (why-in s q top b y.0 y.1 y.2)

  -- The chosen blocks, by places
  pub chosen-stored : chosen s q ≡ take (min (joined s q) (2 ^ (s.shape.L - 1) - length (stored_in s q s.shape.L))) (keep (λ b. eqb (s.partition b) q) s.waiting)
  unfolding chosen
  chosen-stored = rw (held-stored s.shape.L (omega arith))

  -- the partition has room for them
  pub chosen-room : length (chosen s q) + length (stored_in s q s.shape.L) ≤ 2 ^ (s.shape.L - 1)
  chosen-room = omega (arith, f.full q, ap length chosen-stored, length-take (min (joined s q) (2 ^ (s.shape.L - 1) - length (stored_in s q s.shape.L))) (keep (λ b. eqb (s.partition b) q) s.waiting))

  -- Before its orders are drawn: document 01: the gathered blocks are the chosen ones and those whose place is in a source
  module _ (calm : s.sent ≡ 0) where
    abbrev held_at : ℕ → ℕ → ℕ
    held_at ℓ i = s.holds (cell s.shape q ℓ i)

    abbrev from : List ℕ
    from = source_levels (top_of s q) (s.counter q)

    source-lt : (ℓ : ℕ) → Mem ℓ from → ℓ < suc (top_of s q)
    unfolding source_levels
    source-lt ℓ m = mem_below (suc (top_of s q)) ℓ (keep-mem (filled (s.counter q)) (below (suc (top_of s q))) ℓ m)

    levels-in : top_of s q < s.shape.L
    levels-in = unfold top_of in (top_lt s.shape (s.counter q) (joined s q) (levels-pos s.shape f.range.shape))

    is-source : (ℓ : ℕ) → ℓ < suc (top_of s q) → filled (s.counter q) ℓ ≡ true → Mem ℓ from
    unfolding source_levels
    is-source ℓ l e = mem-keep (filled (s.counter q)) (below (suc (top_of s q))) ℓ (below-mem (suc (top_of s q)) ℓ l) e

    source-why : (b : ℕ) → Mem (suc b) (entries_in held_at from) → (b < s.shape.N) × (s.partition b ≡ q) × (is_below (suc (top_of s q)) (s.place b) ≡ true)
    source-why b m =
        let r = entries-why held_at (suc b) from m in
        let hℓ : r.0 < s.shape.L = omega (arith, source-lt r.0 r.2.0, levels-in) in
        let a = f.agree.held q r.0 r.1 b hq hℓ r.2.1 r.2.2 in
        (omega (arith, f.range.holds q r.0 r.1 hq hℓ r.2.1, r.2.2), a.0, lt-below (suc (top_of s q)) r.0 r.1 (s.place b) a.1 (source-lt r.0 r.2.0))

    why-source : (b : ℕ) → b < s.shape.N → s.partition b ≡ q → is_below (suc (top_of s q)) (s.place b) ≡ true → Mem (suc b) (entries_in held_at from)
    why-source b hb e k =
        let x = is_below_lem (suc (top_of s q)) (s.place b) k in
        let w = place-lt s.shape.L x.0 x.1 (s.place b) (f.range.places b hb) x.2.0 in
        let a = f.agree.placed b x.0 x.1 hb x.2.0 in
        let live : filled (s.counter q) x.0 ≡ true = ap (λ c. filled c x.0) (sym (ap (counted s) e ∙ counted-calm s q calm)) ∙ a.0 in
        let m = is-source x.0 x.2.1 live in
        let h : held_at x.0 x.1 ≡ suc b = ap (λ p. s.holds (cell s.shape p x.0 x.1)) (sym e) ∙ a.1 in
        rw h at (why-entries held_at from x.0 x.1 m w.1)

    pub gathered-stored : gathered s q ≡ keep (λ b. member b (chosen s q) || (eqb (s.partition b) q && is_below (suc (top_of s q)) (s.place b))) (below s.shape.N)
    unfolding gathered gather_from
    gathered-stored = keep_same _ _ (below s.shape.N) (λ b m. ap (λ x. member b (chosen s q) || x) (both_true _ _
        (λ e. let y = source-why b (member-mem (suc b) (entries_in held_at from) e) in and-true (eq-eqb (s.partition b) q y.1) y.2)
        (λ e. mem-member (suc b) (entries_in held_at from) (why-source b (mem_below s.shape.N b m) (eqb-true (s.partition b) q (and_l (eqb (s.partition b) q) (is_below (suc (top_of s q)) (s.place b)) e)) (and_r (eqb (s.partition b) q) (is_below (suc (top_of s q)) (s.place b)) e)))))

    pub gathered-why : (b : ℕ) → Mem b (gathered s q) → Gathered s q b
    unfolding gathered gather_from
    gathered-why b m = ⊎_elim (λ e. inl (member-mem b (chosen s q) e)) (λ e. let y = source-why b (member-mem (suc b) (entries_in held_at from) e) in inr (y.1, y.2))
        (or-true (member b (chosen s q)) _ (all-mem (keep-passes _ (below s.shape.N)) b m))

    pub why-gathered : (b : ℕ) → b < s.shape.N → Gathered s q b → Mem b (gathered s q)
    unfolding gathered gather_from
    why-gathered b h (inl e) = mem-keep _ (below s.shape.N) b (below-mem s.shape.N b h) (or_left (member b (chosen s q)) _ (mem-member b (chosen s q) e))
    why-gathered b h (inr e) = mem-keep _ (below s.shape.N) b (below-mem s.shape.N b h) (or_right (member b (chosen s q)) _ (mem-member (suc b) (entries_in held_at from) (why-source b h e.0 e.1)))
