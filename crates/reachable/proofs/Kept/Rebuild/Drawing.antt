-- A rebuild: its levels and their orders, the levels that are live after it, and the places it gives.
use Rattle.std.specs.Prelude.{◌≡◌, ◌⊎◌, true, ℕ, ◌^◌, ◌≤◌, ◌<◌, eqb, get_or}
use Rattle.std.proofs.Math.Path.{ap, sym, subst}
use Rattle.std.proofs.Common.{◌∙◌, inl, inr, arith, ne_eqb}
use Rattle.std.proofs.Math.Logic.{⊎_elim}
use Rattle.std.proofs.Math.Bool.{true≢false}
use mathlib.Core.List.{List, [], ◌∷◌, map}
use Rattle.std.proofs.Math.Decide.{ℕ_discrete, dec_lt}
use Rattle.lists.specs.Distinct.{Mem, NoDup, index, index-mem, nodup-inj}
use Rattle.lists.specs.Members.{without-mem, without_gone, nodup-without, full-mem}
use Rattle.lists.specs.Search.{without}
use Rattle.rules.specs.Draws.{Drew}
use Rattle.rules.specs.Jobs.{joined, top_of, levels_of, orders_bounds}
use Rattle.rules.specs.Laws.Levels.{Joins}
use Rattle.rules.proofs.Laws.Levels.{levels-pos}
use Rattle.rules.proofs.Laws.Levels
use Rattle.rules.specs.Levels.{grown, filled}
use Rattle.rules.specs.Rebuild
use Rattle.rules.specs.Rebuild.{Fill, fills, gathered, do_rebuild, chosen}
use Rattle.rules.specs.Shape.{slots, Shape, cell}
use Rattle.rules.specs.State.{State, stored}
use Rattle.rules.proofs.Laws.Grown.{grown-above, written-why, why-written, nodup-written}
use Rattle.reachable.proofs.Blocks.{nowhere-below, chosen-waits, lt-below, nodup-gathered}
use Rattle.reachable.proofs.Consequences.{joins-front}
use Rattle.reachable.proofs.Decided.{Rebuilds}
use Rattle.reachable.proofs.Fills.{In, Good, level_of, fills-good, fills-levels, in-level, level_in_lem, fills-from, fills-home, fills_one, written-here, written-else, places-in, places-out}
use Rattle.reachable.specs.Invariant.{Reached, Orders, Waiting}
use Rattle.rules.specs.Request.{is_front}
use Rattle.reachable.specs.Live.{counted}
use Rattle.reachable.proofs.Live.{counted-drawn, front-is, counted-other, counted-calm}
use Rattle.reachable.proofs.Never.{never-many}
use Rattle.reachable.proofs.Slots.{front-in, gathered-why, why-gathered}

-- A turn that draws orders for q: the levels ls are written, each once, with an order of its slots; and each gathered block goes into one of them
pub record Drawing (s : State) (q : ℕ) (ls : List ℕ) (xs : List Fill) : Type 0 where
  pub step : Rebuilds s q ls
  pub levels : map level_of xs ≡ ls
  pub good : (x : Fill) → In x xs → Good x
  pub from : (x : Fill) (b : ℕ) → In x xs → Mem b x.blocks → Mem b (gathered s q)
  pub home : (b : ℕ) → Mem b (gathered s q) → (x : Fill) × (In x xs × Mem b x.blocks)
  pub one : (x y : Fill) (b : ℕ) → In x xs → In y xs → Mem b x.blocks → Mem b y.blocks → x ≡ y

pub drawing : (s : State) → Reached s → (q : ℕ) (ls js : List ℕ) → Rebuilds s q ls → Drew (orders_bounds ls) js → Drawing s q ls (fills ls js (gathered s q))
drawing s f q ls js d w = record {
  step = d;
  levels = fills-levels ls js (gathered s q);
  good = fills-good ls js (gathered s q) w (nodup-gathered s q);
  from = fills-from ls js (gathered s q);
  home = λ b. fills-home ls js (gathered s q) b (rw d.goal (never-many s f q (front-in s f q d.rest d.front) d.calm d.rest d.front));
  one = fills_one ls js (gathered s q) (nodup-gathered s q);
}

module _ (s : State) (f : Reached s) (q : ℕ) (ls : List ℕ) (xs : List Fill) (d : Drawing s q ls xs) where
  abbrev h : Shape
  h = s.shape

  abbrev c : ℕ
  c = s.counter q

  abbrev pub j : ℕ
  j = joined s q

  abbrev s' : State
  s' = do_rebuild q ls xs s

  pub front-lt : q < h.P
  front-lt = front-in s f q d.step.rest d.step.front

  pub levels-some : 1 ≤ h.L
  levels-some = levels-pos h f.range.shape

  pub counter-lt : c < 2 ^ h.L
  counter-lt = f.range.counters q front-lt

  pub jobs : Joins h c j
  jobs = joins-front s f q d.step.rest d.step.front

  pub top_lt : top_of s q < h.L
  unfolding top_of
  top_lt = Levels.top_lt h c j levels-some

  -- the written levels are those up to t that are filled in the new counter
  pub written_is : (ℓ : ℕ) → Mem ℓ ls → (ℓ ≤ top_of s q) × (filled (grown h c j) ℓ ≡ true)
  unfolding top_of levels_of
  written_is ℓ m = written-why h c j levels-some counter-lt jobs ℓ (rw d.step.goal at m)

  pub is-written : (ℓ : ℕ) → ℓ ≤ top_of s q → filled (grown h c j) ℓ ≡ true → Mem ℓ ls
  unfolding top_of levels_of
  is-written ℓ l e = rw d.step.goal (why-written h c j levels-some counter-lt jobs ℓ l e)

  pub level-lt : (ℓ : ℕ) → Mem ℓ ls → ℓ < h.L
  level-lt ℓ m = omega (arith, (written_is ℓ m).0, top_lt)

  pub nodup-levels : NoDup ls
  unfolding levels_of
  nodup-levels = rw d.step.goal (nodup-written h c j)

  -- a written level has its fill, and a fill its level
  pub fill-of : (ℓ : ℕ) → Mem ℓ ls → (x : Fill) × (In x xs × (x.level ≡ ℓ))
  fill-of ℓ m = level_in_lem xs ℓ (rw d.levels m)

  pub in-levels : (x : Fill) → In x xs → Mem x.level ls
  in-levels x m = subst (λ l. Mem x.level l) d.levels (in-level xs x m)

  pub fill-fits : (x : Fill) → In x xs → x.level < h.L
  fill-fits x m = level-lt x.level (in-levels x m)

  pub nodup-fills : NoDup (map level_of xs)
  nodup-fills = rw d.levels nodup-levels

  pub count-q : counted s' q ≡ grown h c j
  unfolding do_rebuild
  count-q = counted-drawn s' q (rw d.step.front (front-is q d.step.rest)) (λ e. omega arith)

  pub count-p : (p : ℕ) → ¬ (p ≡ q) → counted s' p ≡ counted s p
  unfolding do_rebuild
  count-p p n = counted-other s' p (rw d.step.front (unfold is_front in (ne_eqb q p (λ e. n (sym e))))) ∙ sym (counted-calm s p d.step.calm)

  -- a live level is written, or was live and is above t
  abbrev pub Here : ℕ → ℕ → Type 0
  Here p ℓ = (q ≡ p) × Mem ℓ ls

  abbrev pub Rest : ℕ → ℕ → Type 0
  Rest p ℓ = (Here p ℓ → ⊥) × (filled (counted s p) ℓ ≡ true) × (p ≡ q → top_of s q < ℓ)

  pub lives : (p ℓ : ℕ) → ℓ < h.L → filled (counted s' p) ℓ ≡ true → Here p ℓ ⊎ Rest p ℓ
  lives p ℓ hℓ e = go (ℕ_discrete p q)
    where
      here : p ≡ q → filled (grown h c j) ℓ ≡ true
      here w = ap (λ g. filled g ℓ) (sym (ap (counted s') w ∙ count-q)) ∙ e

      at : p ≡ q → Dec (top_of s q < ℓ) → Here p ℓ ⊎ Rest p ℓ
      at w (no g) = inl (sym w, is-written ℓ (omega arith) (here w))
      at w (yes g) = inr (
        (λ z. omega (arith, (written_is ℓ z.1).0)),
        ap (λ g. filled g ℓ) (ap (counted s) w ∙ counted-calm s q d.step.calm) ∙ sym (grown-above h c j levels-some counter-lt jobs ℓ (unfold top_of in g) hℓ) ∙ here w,
        λ z. g,
      )

      go : Dec (p ≡ q) → Here p ℓ ⊎ Rest p ℓ
      go (yes w) = at w (dec_lt (top_of s q) ℓ)
      go (no w) = inr ((λ z. w (sym z.0)), ap (λ g. filled g ℓ) (sym (count-p p w)) ∙ e, λ z. absurd (w z))

  pub stays : (p ℓ : ℕ) → ℓ < h.L → (p ≡ q → top_of s q < ℓ) → filled (counted s' p) ℓ ≡ filled (counted s p) ℓ
  stays p ℓ hℓ k = go (ℕ_discrete p q)
    where
      go : Dec (p ≡ q) → filled (counted s' p) ℓ ≡ filled (counted s p) ℓ
      go (yes w) = ap (λ g. filled g ℓ) (ap (counted s') w ∙ count-q) ∙ grown-above h c j levels-some counter-lt jobs ℓ (unfold top_of in (k w)) hℓ
          ∙ ap (λ g. filled g ℓ) (sym (ap (counted s) w ∙ counted-calm s q d.step.calm))
      go (no w) = ap (λ g. filled g ℓ) (count-p p w)

  -- the orders
  pub order-here : (x : Fill) → In x xs → (p ℓ i : ℕ) → (q ≡ p) × (x.level ≡ ℓ) → i < slots ℓ → s'.order (cell h p ℓ i) ≡ get_or x.order i 0
  unfolding do_rebuild Rebuild.new_orders
  order-here x m p ℓ i w hi = written-here h q level_of (λ (y : Fill). y.order) xs (λ y k. (fill-fits y k, (d.good y k).long)) nodup-fills s.order x m p ℓ i w hi

  pub order-else : (p ℓ i : ℕ) → ℓ < h.L → i < slots ℓ → (Here p ℓ → ⊥) → s'.order (cell h p ℓ i) ≡ s.order (cell h p ℓ i)
  unfolding do_rebuild Rebuild.new_orders
  order-else p ℓ i hℓ hi n = written-else h q level_of (λ (y : Fill). y.order) xs (λ y k. (fill-fits y k, (d.good y k).long)) s.order p ℓ i hℓ hi (λ e m. n (e, subst (λ l. Mem ℓ l) d.levels m))

  -- a slot of a written level has its item, and no two
  pub slot-item : (x : Fill) → In x xs → (i : ℕ) → i < slots x.level → Mem i x.order
  slot-item x m i hi = let g = d.good x m in full-mem (slots x.level) x.order g.long g.once g.low i hi

  one-here : (x : Fill) → In x xs → (p ℓ a k : ℕ) → (q ≡ p) × (x.level ≡ ℓ) → a < slots ℓ → k < slots ℓ → s'.order (cell h p ℓ a) ≡ s'.order (cell h p ℓ k) → a ≡ k
  one-here x m p ℓ a k w ha hk same =
      let g = d.good x m in
      nodup-inj x.order a k g.once (rw (g.long, w.1) ha) (rw (g.long, w.1) hk) (sym (order-here x m p ℓ a w ha) ∙ same ∙ order-here x m p ℓ k w hk)

  each-here : (x : Fill) → In x xs → (p ℓ i : ℕ) → (q ≡ p) × (x.level ≡ ℓ) → i < slots ℓ → (k : ℕ) × ((k < slots ℓ) × (s'.order (cell h p ℓ k) ≡ i))
  each-here x m p ℓ i w hi =
      let g = d.good x m in
      let y = index-mem i x.order (slot-item x m i (rw w.1 hi)) in
      let l : index i x.order < slots ℓ = rw (← w.1, ← g.long) y.0 in
      (index i x.order, (l, order-here x m p ℓ (index i x.order) w l ∙ y.1))

  pub orders-kept : Orders h (counted s') s'.order
  orders-kept = record {
    one = λ p ℓ a k hp hℓ e ha hk same. ⊎_elim
        (λ w. let x = fill-of ℓ w.1 in one-here x.0 x.1.0 p ℓ a k (w.0, x.1.1) ha hk same)
        (λ w. f.orders.one p ℓ a k hp hℓ w.1 ha hk (sym (order-else p ℓ a hℓ ha w.0) ∙ same ∙ order-else p ℓ k hℓ hk w.0))
        (lives p ℓ hℓ e);
    each = λ p ℓ i hp hℓ e hi. ⊎_elim
        (λ w. let x = fill-of ℓ w.1 in each-here x.0 x.1.0 p ℓ i (w.0, x.1.1) hi)
        (λ w. let r = f.orders.each p ℓ i hp hℓ w.1 hi in
        (r.0, (r.1.0, order-else p ℓ r.0 hℓ r.1.0 w.0 ∙ r.1.1)))
        (lives p ℓ hℓ e);
  }

  -- the places
  pub place_in : (b : ℕ) (x : Fill) → In x xs → Mem b x.blocks → s'.place b ≡ stored x.level (get_or x.order (index b x.blocks) 0)
  unfolding do_rebuild
  place_in b x m k = places-in xs s.place b x m k (λ y n l. d.one y x b n m l k)

  pub place_out : (b : ℕ) → ¬ Mem b (gathered s q) → s'.place b ≡ s.place b
  unfolding do_rebuild
  place_out b n = places-out xs s.place b (λ x m k. n (d.from x b m k))

  -- the waiting blocks
  leave-sub : (bs ws : List ℕ) (b : ℕ) → Mem b (Rebuild.leave bs ws) → Mem b ws
  unfolding Rebuild.leave
  leave-sub [] ws b m = m
  leave-sub (a ∷ bs) ws b m = without-mem (eqb a) ws b (leave-sub bs (without (eqb a) ws) b m)

  leave-gone : (bs ws : List ℕ) (b : ℕ) → NoDup ws → Mem b (Rebuild.leave bs ws) → ¬ Mem b bs
  unfolding Rebuild.leave
  leave-gone [] ws b u m k = k
  leave-gone (a ∷ bs) ws b u m (inl e) = without_gone b ws u (rw (← e) at (leave-sub bs (without (eqb a) ws) b m))
  leave-gone (a ∷ bs) ws b u m (inr k) = leave-gone bs (without (eqb a) ws) b (nodup-without (eqb a) ws u) m k

  leave-once : (bs ws : List ℕ) → NoDup ws → NoDup (Rebuild.leave bs ws)
  unfolding Rebuild.leave
  leave-once [] ws u = u
  leave-once (a ∷ bs) ws u = leave-once bs (without (eqb a) ws) (nodup-without (eqb a) ws u)

  pub leave-mem : (b : ℕ) → Mem b s'.waiting → Mem b s.waiting × (¬ Mem b (chosen s q))
  unfolding do_rebuild
  leave-mem b m = (leave-sub (chosen s q) s.waiting b m, leave-gone (chosen s q) s.waiting b f.waiting.once m)

  pub waiting_kept : Waiting s'.waiting s'.place
  waiting_kept = record {
    once = unfold do_rebuild in (leave-once (chosen s q) s.waiting f.waiting.once);
    absent = λ b m.
        let l = leave-mem b m in
        let z = f.waiting.absent b l.0 in
        place_out b (λ g. ⊎_elim l.1 (λ k. true≢false (sym k.1 ∙ nowhere-below _ (s.place b) z)) (gathered-why s f q front-lt d.step.calm b g)) ∙ z;
  }

  pub partition-in : (b : ℕ) → Mem b (gathered s q) → s.partition b ≡ q
  partition-in b m = ⊎_elim (λ e. (chosen-waits s q b e).0) (λ k. k.0) (gathered-why s f q front-lt d.step.calm b m)

  -- the blocks of q that are not gathered are above t
  pub above-target : (b ℓ i : ℕ) → b < h.N → ¬ Mem b (gathered s q) → s.place b ≡ stored ℓ i → s.partition b ≡ q → top_of s q < ℓ
  above-target b ℓ i hb n e w = go (dec_lt (top_of s q) ℓ)
    where
      go : Dec (top_of s q < ℓ) → top_of s q < ℓ
      go (yes l) = l
      go (no l) = absurd (n (why-gathered s f q front-lt d.step.calm b hb (inr (w, lt-below _ ℓ i (s.place b) e (omega arith)))))
