-- Document 02, P6: the reads that the partition reader has left for a released request, and what changes of the state leave of them as it is.
use Rattle.std.specs.Prelude.{◌≡◌, not, ◌&&◌, ◌||◌, List, [], ◌∷◌}
use Rattle.std.proofs.Math.Path.{refl, ap, sym}
use Rattle.std.proofs.Common.{◌∙◌, true≢false, arith, eqb-true, eq-eqb}
use Rattle.std.proofs.Math.Bool.{Bool, true, false}
use Rattle.std.proofs.Math.Option.{Option, some}
use Prim.Native.Nat.{ℕ, suc, ◌+◌, ◌-◌, ◌≤◌, ◌<◌}
use Rattle.std.proofs.Math.Dec.{eqb}
use Rattle.std.proofs.Math.ListN.{length}
use Rattle.lists.specs.All.{All, nil, cons, all_map, any-all, any_none, below-below, count-below, all_both, map_below, any_same, find-same}
use Rattle.lists.specs.Members.{all-mem, below-mem, count-from, keep-rest, kept-none, none_kept}
use Rattle.lists.specs.Search.{keep, any, is_none, count, below}
use Rattle.rules.specs.Blocks.{is_unread, holder}
use Rattle.rules.specs.Jobs.{joined, top_of}
use Rattle.rules.specs.Levels.{filled}
use Rattle.rules.specs.Laws.Reader.{read_by, slots_of}
use Rattle.rules.proofs.Laws.Reader.{read_same, costs-is, reads-slots, reads-are}
use Rattle.rules.specs.Reader.{slot_of, condition_by, condition, dummy, lowest, read_fake, read_real, read_level, add_read, read_levels, slot_read, costs, levels_left}
use Rattle.rules.specs.Request.{is_front, is_source}
use Rattle.rules.specs.Setters.{set_begun, set_mark, set_counter, set_queue}
use Rattle.rules.specs.Shape.{cell, slots}
use Rattle.rules.specs.State.{State, Request}
use Rattle.reachable.proofs.Begins.{Begins, source-still}
use Rattle.reachable.proofs.Blocks.{place-lt}
use Rattle.reachable.proofs.Decided.{levels-left}
use Rattle.reachable.specs.Invariant.{Reached}
use Rattle.reachable.proofs.Live.{source-none}

-- what is read of the levels that it has yet to pass
unfoldable pub remaining : State → Request → List (ℕ × ℕ)
remaining s r = read_levels s r.block (count r.level (s.shape.L - r.level))

module _ (s : State) (r : Request) where
  abbrev slot : ℕ → Option ℕ
  slot = slot_read s (s.partition r.block) (s.place r.block)

  -- by what turns go by
  remaining-are : remaining s r ≡ slots_of slot (levels_left s r)
  unfolding remaining levels_left
  remaining-are = reads-are s r.block (count r.level (s.shape.L - r.level))

  pub remaining-none : levels_left s r ≡ [] → remaining s r ≡ []
  unfolding slots_of
  remaining-none e = remaining-are ∙ ap (slots_of slot) e

  -- the first level that is left has the first read; those of the levels above it follow
  pub remaining-next : (ℓ i : ℕ) (ℓs : List ℕ) → levels_left s r ≡ ℓ ∷ ℓs → slot ℓ ≡ some i → remaining s r ≡ (ℓ, i) ∷ read_levels s r.block (count (suc ℓ) (s.shape.L - suc ℓ))
  unfolding slots_of add_read
  remaining-next ℓ i ℓs e k = remaining-are ∙ ap (slots_of slot) e ∙ ap (λ o. add_read ℓ o (slots_of slot ℓs)) k ∙ ap (λ xs. (ℓ, i) ∷ slots_of slot xs) (above (rw e at (levels-left s r)))
      ∙ ap (λ xs. (ℓ, i) ∷ xs) (sym (reads-are s r.block (count (suc ℓ) (s.shape.L - suc ℓ))))
    where
      q : ℕ
      q = s.partition r.block

      above : All (λ m. (r.level ≤ m) × (m < s.shape.L) × (costs s (s.partition r.block) m ≡ true)) (ℓ ∷ ℓs) → ℓs ≡ keep (costs s q) (count (suc ℓ) (s.shape.L - suc ℓ))
      above (cons z t) =
          let w : r.level + (s.shape.L - r.level) - suc ℓ ≡ s.shape.L - suc ℓ = omega (arith, z.0, z.1) in
          keep-rest (costs s q) r.level (s.shape.L - r.level) ℓ ℓs (unfold levels_left in e) ∙ ap (λ n. keep (costs s q) (count (suc ℓ) n)) w

-- ---- What changes leave as it is

slots_same : (f g : ℕ → Option ℕ) {ℓs : List ℕ} → All (λ ℓ. f ℓ ≡ g ℓ) ℓs → slots_of f ℓs ≡ slots_of g ℓs
unfolding slots_of
slots_same f g nil = refl
slots_same f g (cons {x = ℓ} {xs = ℓs} h t) = ap (λ o. add_read ℓ o (slots_of f ℓs)) h ∙ ap (add_read ℓ (g ℓ)) (slots_same f g t)

-- other marks, but the same from level a on, while a run begins or goes on
module _ (s : State) (f : Reached s) (b : ℕ) (hb : b < s.shape.N) (n : ℕ) (begins : Begins s n) (mark' : ℕ → ℕ) (a : ℕ)
    (same : (m j : ℕ) → a ≤ m → m < s.shape.L → j < slots m → mark' (cell s.shape (s.partition b) m j) ≡ s.mark (cell s.shape (s.partition b) m j)) where
  abbrev p : ℕ
  p = s.partition b

  abbrev t : State
  t = set_begun n (set_mark mark' s)

  module _ (m : ℕ) (l : a ≤ m) (k : m < s.shape.L) where
    unread-same : (j : ℕ) → j < slots m → is_unread t p m j ≡ is_unread s p m j
    unfolding is_unread
    unread-same j hj = ap (λ x. eqb x 1) (same m j l k hj)

    -- of each item
    item-same : (j : ℕ) → j < slots m → is_unread t p m (s.order (cell s.shape p m j)) ≡ is_unread s p m (s.order (cell s.shape p m j))
    item-same j hj = unread-same (s.order (cell s.shape p m j)) (f.range.orders p m j (f.range.partitions b hb) k hj)

    left-same : any (is_unread t p m) (below (slots m)) ≡ any (is_unread s p m) (below (slots m))
    left-same = any_same _ _ (all_map (λ j hj. unread-same j hj) (below-below (slots m)))

    dummy-same : dummy t p m ≡ dummy s p m
    unfolding dummy holder
    dummy-same = find-same _ _ (map_below (λ i. (is_unread t p m i && is_none (holder s p m i)) ≡ (is_unread s p m i && is_none (holder s p m i))) (λ j. s.order (cell s.shape p m j)) (slots m)
        (λ j hj. ap (λ z. z && is_none (holder s p m (s.order (cell s.shape p m j)))) (item-same j hj)))

    lowest-same : lowest t p m ≡ lowest s p m
    unfolding lowest
    lowest-same = find-same _ _ (map_below (λ i. is_unread t p m i ≡ is_unread s p m i) (λ j. s.order (cell s.shape p m j)) (slots m) item-same)

    source-same : is_source t p m ≡ is_source s p m
    unfolding is_source top_of joined
    source-same = source-still s n f begins p m

    slot_same : slot_read t p (s.place b) m ≡ slot_read s p (s.place b) m
    unfolding slot_read read_level condition read_real read_fake
    slot_same =
        ap (λ x. read_by (condition_by (filled (s.counter p) m) x (any (is_unread t p m) (below (slots m)))) (is_unread t p m (slot_of (s.place b))) (dummy t p m) (lowest t p m) (s.place b) m) source-same
        ∙ ap (λ x. read_by (condition_by (filled (s.counter p) m) (is_source s p m) x) (is_unread t p m (slot_of (s.place b))) (dummy t p m) (lowest t p m) (s.place b) m) left-same
        ∙ ap (λ x. read_by (condition s p m) (is_unread t p m (slot_of (s.place b))) x (lowest t p m) (s.place b) m) dummy-same
        ∙ ap (λ x. read_by (condition s p m) (is_unread t p m (slot_of (s.place b))) (dummy s p m) x (s.place b) m) lowest-same
        ∙ read_same (condition s p m) (is_unread s p m) (is_unread t p m) (dummy s p m) (lowest s p m) (s.place b) m
        (λ i e. unread-same i (place-lt s.shape.L m i (s.place b) (f.range.places b hb) e).1)

  pub levels-same : (k : ℕ) → a + k ≤ s.shape.L → read_levels t b (count a k) ≡ read_levels s b (count a k)
  levels-same k l = reads-slots t b (count a k)
      ∙ slots_same (slot_read t p (s.place b)) (slot_read s p (s.place b)) (all_map (λ m w. slot_same m w.0 (omega (arith, w.1))) (all_both (count-from a k) (count-below a k)))
      ∙ sym (reads-slots s b (count a k))

-- a run of another partition is done
module _ (s : State) (b : ℕ) (counter' : ℕ → ℕ) (queue' : List ℕ) (alike : counter' (s.partition b) ≡ s.counter (s.partition b)) (now : is_front s.queue (s.partition b) ≡ false) (later : is_front queue' (s.partition b) ≡ false) where
  abbrev q : ℕ
  q = s.partition b

  abbrev ended : State
  ended = set_begun 0 (set_counter counter' (set_queue queue' s))

  slot-else : (m : ℕ) → slot_read ended q (s.place b) m ≡ slot_read s q (s.place b) m
  unfolding slot_read read_level condition read_real read_fake dummy lowest is_unread holder
  slot-else m = ap (λ c. at (filled c m) (is_source ended q m)) alike ∙ ap (at (filled (s.counter q) m)) (source-none ended q m later ∙ sym (source-none s q m now))
    where
      at : Bool → Bool → Option ℕ
      at full source = read_by (condition_by full source (any (is_unread s q m) (below (slots m)))) (is_unread s q m (slot_of (s.place b))) (dummy s q m) (lowest s q m) (s.place b) m

  pub levels-else : (ℓs : List ℕ) → read_levels ended b ℓs ≡ read_levels s b ℓs
  levels-else ℓs = reads-slots ended b ℓs ∙ slots_same (slot_read ended q (s.place b)) (slot_read s q (s.place b)) (every ℓs) ∙ sym (reads-slots s b ℓs)
    where
      every : (ℓs : List ℕ) → All (λ m. slot_read ended q (s.place b) m ≡ slot_read s q (s.place b) m) ℓs
      every [] = nil
      every (m ∷ ms) = cons (slot-else m) (every ms)

-- fewer unread slots, while a run begins or goes on: a request that has no level left has none then
module _ (s : State) (f : Reached s) (r : Request) (n : ℕ) (begins : Begins s n) (mark' : ℕ → ℕ)
    (fewer : (m j : ℕ) → m < s.shape.L → j < slots m → mark' (cell s.shape (s.partition r.block) m j) ≡ 1 → s.mark (cell s.shape (s.partition r.block) m j) ≡ 1) where
  abbrev less : State
  less = set_begun n (set_mark mark' s)

  abbrev own : ℕ
  own = s.partition r.block

  left_less : (m : ℕ) → m < s.shape.L → any (is_unread s own m) (below (slots m)) ≡ false → any (is_unread less own m) (below (slots m)) ≡ false
  unfolding is_unread
  left_less m hm e = go (any (is_unread less own m) (below (slots m))) refl
    where
      go : (t : Bool) → any (is_unread less own m) (below (slots m)) ≡ t → any (is_unread less own m) (below (slots m)) ≡ false
      go true k =
          let x = any-all (is_unread less own m) (below-below (slots m)) k in
          let w = fewer m x.0 hm x.1.1 (eqb-true _ 1 x.1.0) in
          absurd (true≢false (sym (eq-eqb _ 1 w) ∙ all-mem (any_none (is_unread s own m) (below (slots m)) e) x.0 (below-mem (slots m) x.0 x.1.1)))
      go false k = k

  costs-less : (m : ℕ) → m < s.shape.L → costs s own m ≡ false → costs less own m ≡ false
  costs-less m hm e = costs-is less own m ∙ ap (λ y. filled (s.counter own) m && (not y || any (is_unread less own m) (below (slots m)))) same ∙ by (filled (s.counter own) m) (is_source s own m) _ _ (left_less m hm) (sym (costs-is s own m) ∙ e)
    where
      same : is_source less own m ≡ is_source s own m
      same = unfold is_source top_of joined in (source-still s n f begins own m)

      by : (x y c d : Bool) → (c ≡ false → d ≡ false) → (x && (not y || c)) ≡ false → (x && (not y || d)) ≡ false
      by false y c d h e = refl
      by true false c d h e = e
      by true true c d h e = h e

  pub left-none : levels_left s r ≡ [] → levels_left less r ≡ []
  unfolding levels_left
  left-none e = none_kept (costs less own) r.level (s.shape.L - r.level)
      (λ y l k. costs-less y (omega (arith, l, k)) (kept-none (costs s own) r.level (s.shape.L - r.level) y (ap length e) l k))
