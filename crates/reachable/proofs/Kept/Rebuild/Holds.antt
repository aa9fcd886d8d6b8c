-- A rebuild: what the slots hold after it.
use Rattle.std.specs.Prelude.{◌≡◌, true, List, map}
use Rattle.std.proofs.Math.Path.{ap, subst}
use Rattle.std.proofs.Common.{sym, ◌∙◌, inl, inr, arith, pow_pos, pow_mono}
use Prim.Native.Nat.{ℕ, suc, ◌+◌, ◌^◌, ◌≤◌, ◌<◌, ◌-◌}
use Rattle.std.proofs.Math.Decide.{ℕ_discrete, dec_lt}
use Rattle.std.proofs.Math.ListN.{length, get_or, length-map, get_or-eq_default}
use Rattle.lists.specs.All.{all_get_d}
use Rattle.lists.specs.Distinct.{Mem, index, index-mem, index_at, mem-at}
use Rattle.lists.specs.Lengths
use Rattle.lists.specs.Members
use Rattle.lists.specs.Members.{dec_mem, index_of-mem}
use Rattle.lists.specs.Search.{below}
use Rattle.lists.specs.Totals.{total-le, total-none, total-same, total-under, under, under-yes}
use Rattle.rules.specs.Jobs.{top_of}
use Rattle.rules.specs.Levels.{filled}
use Rattle.rules.specs.Rebuild
use Rattle.rules.specs.Rebuild.{Fill, gathered, do_rebuild}
use Rattle.rules.specs.Shape.{slots, Shape, cell}
use Rattle.rules.specs.State.{State, stored}
use Rattle.reachable.proofs.Blocks.{stored-inj, place-lt, Gathered, not-nowhere, chosen-waits, below-lt, taken-le, taken-zero}
use Rattle.reachable.proofs.Cells.{cleared-here, cleared-else}
use Rattle.reachable.proofs.Fills.{In, level_of, written-here, written-else}
use Rattle.reachable.specs.Invariant.{Reached, Agree, taken, Taken, holds_of}
use Rattle.reachable.proofs.Kept.Rebuild.Drawing.{Drawing, Here, top_lt, fill-of, fill-fits, nodup-fills, in-levels, written_is, slot-item, place_in, partition-in, count-q, place_out, stays, above-target, front-lt}
use Rattle.reachable.specs.Live.{counted}
use Rattle.reachable.proofs.Slots.{gathered-why}

module _ (s : State) (f : Reached s) (q : ℕ) (ls : List ℕ) (xs : List Fill) (d : Drawing s q ls xs) where
  abbrev h : Shape
  h = s.shape

  abbrev c : ℕ
  c = s.counter q

  abbrev s' : State
  s' = do_rebuild q ls xs s

  abbrev new_of : Fill → List ℕ
  new_of x = Rebuild.new_holds (slots x.level) x.blocks x.order

  new_holds-length : (x : Fill) → length (new_of x) ≡ slots x.level
  unfolding Rebuild.new_holds
  new_holds-length x = length-map (below (slots x.level)) _ ∙ Lengths.length-below (slots x.level)

  new_holds-at : (x : Fill) → In x xs → (i : ℕ) → i < slots x.level → get_or (new_of x) i 0 ≡ get_or (map suc x.blocks) (index i x.order) 0
  unfolding Rebuild.new_holds Rebuild.item_holds
  new_holds-at x m i k = Members.get_or-map-below _ (slots x.level) i 0 k ∙ rw (index_of-mem i x.order (slot-item s f q ls xs d x m i k))

  fits : (x : Fill) → In x xs → (x.level < h.L) × (length (new_of x) ≡ slots x.level)
  fits x m = (fill-fits s f q ls xs d x m, new_holds-length x)

  pub holds-here : (x : Fill) → In x xs → (p ℓ i : ℕ) → (q ≡ p) × (x.level ≡ ℓ) → i < slots ℓ → s'.holds (cell h p ℓ i) ≡ get_or (map suc x.blocks) (index i x.order) 0
  unfolding do_rebuild Rebuild.new_held
  holds-here x m p ℓ i w k = written-here h q level_of new_of xs fits (nodup-fills s f q ls xs d) _ x m p ℓ i w k ∙ new_holds-at x m i (rw w.1 k)

  abbrev old : ℕ → ℕ
  old = Rebuild.cleared (cell h q 0 0) (slots (suc (top_of s q)) - 2) s.holds

  not-here : (p ℓ i : ℕ) → ℓ < h.L → i < slots ℓ → (Here s f q ls xs d p ℓ → ⊥) → s'.holds (cell h p ℓ i) ≡ old (cell h p ℓ i)
  unfolding do_rebuild Rebuild.new_held
  not-here p ℓ i hℓ hi n = written-else h q level_of new_of xs fits old p ℓ i hℓ hi (λ e m. n (e, subst (λ l. Mem ℓ l) d.levels m))

  holds_source : (p ℓ i : ℕ) → p ≡ q → ℓ ≤ top_of s q → (Here s f q ls xs d p ℓ → ⊥) → i < slots ℓ → s'.holds (cell h p ℓ i) ≡ 0
  holds_source p ℓ i w l n hi = not-here p ℓ i (omega (arith, top_lt s f q ls xs d)) hi n ∙ ap (λ x. old (cell h x ℓ i)) w ∙ cleared-here h q (suc (top_of s q)) s.holds ℓ i (omega arith) hi

  pub holds-else : (p ℓ i : ℕ) → ℓ < h.L → i < slots ℓ → (p ≡ q → top_of s q < ℓ) → s'.holds (cell h p ℓ i) ≡ s.holds (cell h p ℓ i)
  holds-else p ℓ i hℓ hi k = not-here p ℓ i hℓ hi (λ z. omega (arith, k (sym z.0), (written_is s f q ls xs d ℓ z.1).0))
      ∙ cleared-else h q (suc (top_of s q)) s.holds p ℓ i (omega (arith, top_lt s f q ls xs d)) hℓ hi (λ z. omega (arith, k z))

  -- a level is written, or cleared, or neither
  data Zone (p ℓ : ℕ) : Type 0 where
    anew : (x : Fill) → In x xs → (q ≡ p) × (x.level ≡ ℓ) → Zone p ℓ
    empty : p ≡ q → ℓ ≤ top_of s q → (Here s f q ls xs d p ℓ → ⊥) → Zone p ℓ
    other : (p ≡ q → top_of s q < ℓ) → Zone p ℓ

  zone : (p ℓ : ℕ) → Zone p ℓ
  zone p ℓ = go (ℕ_discrete p q) (dec_lt (top_of s q) ℓ) (dec_mem ℓ ls)
    where
      go : Dec (p ≡ q) → Dec (top_of s q < ℓ) → Dec (Mem ℓ ls) → Zone p ℓ
      go (no w) l m = other (λ z. absurd (w z))
      go (yes w) (yes l) m = other (λ z. l)
      go (yes w) (no l) (yes m) = let x = fill-of s f q ls xs d ℓ m in anew x.0 x.1.0 (sym w, x.1.1)
      go (yes w) (no l) (no m) = empty w (omega arith) (λ z. m z.1)

  -- an entry of the blocks of a level
  entry : (x : Fill) (k b : ℕ) → get_or (map suc x.blocks) k 0 ≡ suc b → (k < length x.blocks) × (get_or x.blocks k 0 ≡ b)
  entry x k b e = go (dec_lt k (length x.blocks))
    where
      go : Dec (k < length x.blocks) → (k < length x.blocks) × (get_or x.blocks k 0 ≡ b)
      go (yes l) = (l, omega (arith, sym (Members.get_d_map suc x.blocks k 0 0 l) ∙ e))
      go (no l) = absurd (omega (arith, e, get_or-eq_default (map suc x.blocks) 0 {n = k} (omega (arith, length-map x.blocks suc))))

  wide : (t : ℕ) → 2 ^ t < slots t
  wide t = omega (arith, pow_pos t, pow_mono {i = suc t} {j = t + 1} (omega arith))

  pub agree-kept : Agree h (counted s') s'.partition s'.place s'.holds
  unfolding do_rebuild
  agree-kept = record {
    placed = λ b ℓ i hb e. placed b ℓ i hb e (dec_mem b (gathered s q));
    held = λ p ℓ i b hp hℓ hi k. held p ℓ i b hp hℓ hi k (zone p ℓ);
  }
    where
      into : (b ℓ i : ℕ) (x : Fill) → In x xs → Mem b x.blocks → s.partition b ≡ q → s'.place b ≡ stored ℓ i → (filled (counted s' (s.partition b)) ℓ ≡ true) × (s'.holds (cell h (s.partition b) ℓ i) ≡ suc b)
      into b ℓ i x m n u e =
          let g = d.good x m in
          let o = x.order in
          let y = index-mem b x.blocks n in
          let k = index b x.blocks in
          let w = stored-inj x.level ℓ (get_or o k 0) i (sym (place_in s f q ls xs d b x m n) ∙ e) in
          let kl : k < length o = omega (arith, wide x.level, g.fit, g.long) in
          let il : i < slots ℓ = rw (← w.0, ← w.1) (all_get_d k g.low (pow_pos (x.level + 1))) in
          let at : index i o ≡ k = rw (← w.1) (index_at o k g.once kl) in (
            ap (λ g. filled g ℓ) (ap (counted s') u ∙ count-q s f q ls xs d) ∙ rw (← w.0) (written_is s f q ls xs d x.level (in-levels s f q ls xs d x m)).1,
            holds-here x m (s.partition b) ℓ i (sym u, w.0) il ∙ ap (λ j. get_or (map suc x.blocks) j 0) at ∙ Members.get_d_map suc x.blocks k 0 0 y.0 ∙ ap suc y.1,
          )

      placed : (b ℓ i : ℕ) → b < h.N → s'.place b ≡ stored ℓ i → Dec (Mem b (gathered s q)) → (filled (counted s' (s.partition b)) ℓ ≡ true) × (s'.holds (cell h (s.partition b) ℓ i) ≡ suc b)
      placed b ℓ i hb e (yes m) = let x = d.home b m in into b ℓ i x.0 x.1.0 x.1.1 (partition-in s f q ls xs d b m) e
      placed b ℓ i hb e (no m) =
          let e' = sym (place_out s f q ls xs d b m) ∙ e in
          let a = f.agree.placed b ℓ i hb e' in
          let y = place-lt h.L ℓ i (s.place b) (f.range.places b hb) e' in (
            stays s f q ls xs d (s.partition b) ℓ y.0 (λ w. above-target s f q ls xs d b ℓ i hb m e' w) ∙ a.0,
            holds-else (s.partition b) ℓ i y.0 y.1 (λ w. above-target s f q ls xs d b ℓ i hb m e' w) ∙ a.1,
          )

      held-here : (p ℓ i b : ℕ) → i < slots ℓ → s'.holds (cell h p ℓ i) ≡ suc b → (x : Fill) → In x xs → (q ≡ p) × (x.level ≡ ℓ) → (s.partition b ≡ p) × (s'.place b ≡ stored ℓ i)
      held-here p ℓ i b hi k x m w =
          let z = entry x (index i x.order) b (sym (holds-here x m p ℓ i w hi) ∙ k) in
          let n : Mem b x.blocks = rw z.1 at (mem-at x.blocks (index i x.order) z.0) in
          let a : index b x.blocks ≡ index i x.order = rw z.1 at (index_at x.blocks (index i x.order) (d.good x m).single z.0) in
          let y = index-mem i x.order (slot-item s f q ls xs d x m i (rw w.1 hi)) in
          (partition-in s f q ls xs d b (d.from x b m n) ∙ w.0, place_in s f q ls xs d b x m n ∙ rw (a, y.1, w.1))

      held-else : (p ℓ i b : ℕ) → p < h.P → ℓ < h.L → i < slots ℓ → s'.holds (cell h p ℓ i) ≡ suc b
          → (p ≡ q → top_of s q < ℓ) → (s.partition b ≡ p) × (s'.place b ≡ stored ℓ i)
      held-else p ℓ i b hp hℓ hi k w =
          let a = f.agree.held p ℓ i b hp hℓ hi (sym (holds-else p ℓ i hℓ hi w) ∙ k) in
          (a.0, place_out s f q ls xs d b (λ m. out a (gathered-why s f q (front-lt s f q ls xs d) d.step.calm b m)) ∙ a.1)
        where
          out : (s.partition b ≡ p) × (s.place b ≡ stored ℓ i) → Gathered s q b → ⊥
          out a (inl e) = not-nowhere ℓ i (sym (f.waiting.absent b (chosen-waits s q b e).1) ∙ a.1)
          out a (inr e) = omega (arith, w (sym a.0 ∙ e.0), below-lt (suc (top_of s q)) ℓ i (s.place b) a.1 e.1)

      held : (p ℓ i b : ℕ) → p < h.P → ℓ < h.L → i < slots ℓ → s'.holds (cell h p ℓ i) ≡ suc b → Zone p ℓ → (s.partition b ≡ p) × (s'.place b ≡ stored ℓ i)
      held p ℓ i b hp hℓ hi k (anew x m w) = held-here p ℓ i b hi k x m w
      held p ℓ i b hp hℓ hi k (empty w l n) = absurd (omega (arith, holds_source p ℓ i w l n hi, k))
      held p ℓ i b hp hℓ hi k (other w) = held-else p ℓ i b hp hℓ hi k w

  pub taken-kept : Taken h s'.holds
  unfolding holds_of
  taken-kept p ℓ hp hℓ = go (zone p ℓ)
    where
      entry-le : (x : Fill) (k : ℕ) → taken (get_or (map suc x.blocks) k 0) ≤ under k (length x.blocks)
      entry-le x k = by (dec_lt k (length x.blocks))
        where
          by : Dec (k < length x.blocks) → taken (get_or (map suc x.blocks) k 0) ≤ under k (length x.blocks)
          by (yes l) = omega (arith, taken-le (get_or (map suc x.blocks) k 0), under-yes k (length x.blocks) l)
          by (no l) = omega (arith, taken-zero (get_or (map suc x.blocks) k 0) (get_or-eq_default (map suc x.blocks) 0 {n = k} (omega (arith, length-map x.blocks suc))))

      here : (x : Fill) → In x xs → (q ≡ p) × (x.level ≡ ℓ) → holds_of h s'.holds p ℓ ≤ 2 ^ ℓ
      here x m w =
          let o = x.order in
          let a = total-le (slots ℓ) (λ i. taken (s'.holds (cell h p ℓ i))) (λ i. under (index i o) (length x.blocks)) (λ i hi. rw (holds-here x m p ℓ i w hi) (entry-le x (index i o))) in
          let b = total-under (slots ℓ) (length x.blocks) (λ i. index i o) (λ i j hi hj z.
          sym (index-mem i o (slot-item s f q ls xs d x m i (rw w.1 hi))).1 ∙ ap (λ k. get_or o k 0) z ∙ (index-mem j o (slot-item s f q ls xs d x m j (rw w.1 hj))).1) in
          let g : 2 ^ x.level ≡ 2 ^ ℓ = ap (λ n. 2 ^ n) w.1 in
          omega (arith, (d.good x m).fit)

      go : Zone p ℓ → holds_of h s'.holds p ℓ ≤ 2 ^ ℓ
      go (anew x m w) = here x m w
      go (empty w l n) = let z = total-none (slots ℓ) (λ i. taken (s'.holds (cell h p ℓ i))) (λ i hi. taken-zero _ (holds_source p ℓ i w l n hi)) in omega arith
      go (other w) =
          let a = total-same (slots ℓ) (λ i. taken (s'.holds (cell h p ℓ i))) (λ i. taken (s.holds (cell h p ℓ i))) (λ i hi. ap taken (holds-else p ℓ i hℓ hi w)) in
          omega (arith, f.taken p ℓ hp hℓ)
