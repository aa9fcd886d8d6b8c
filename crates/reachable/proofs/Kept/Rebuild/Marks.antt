-- A rebuild: which slots count as read after it.
use Rattle.std.specs.Prelude.{map, List, ◌∷◌, ◌≡◌, refl, ◌⊎◌, ℕ, suc, ◌+◌, ◌%◌, ◌^◌, ◌≤◌, ◌<◌, ◌-◌, get_or, length}
use Rattle.std.proofs.Math.Path.{ap, subst}
use Rattle.std.proofs.Common.{sym, ◌∙◌, inl, ⊎_elim}
use Rattle.std.proofs.Math.Logic.{inr}
use native.Mathlib.Omega.{arith}
use Rattle.std.proofs.Math.Decide.{ℕ_discrete}
use Rattle.std.proofs.Math.Pow.{pow_pos}
use Rattle.std.proofs.lemmas.List.{length-map, length-replicate}
use Rattle.std.proofs.Math.ListN.{get_or-eq_default, replicate, get_or-replicate}
use Rattle.lists.specs.All.{all_get_d}
use Rattle.lists.specs.Distinct.{index_at, Mem}
use Rattle.lists.specs.Members.{get_d_map}
use Rattle.lists.specs.Lengths.{bit}
use Rattle.lists.specs.Totals.{total-none, total, total-same}
use Rattle.rules.specs.Levels.{top_level}
use Rattle.rules.specs.Rebuild.{do_rebuild, Fill}
use Rattle.rules.specs.Jobs.{queued, top_of, joined, slot_count, leave_queue}
use Rattle.rules.specs.Rebuild
use Rattle.rules.specs.Shape.{slots, Shape, cell}
use Rattle.rules.specs.State.{State}
use Rattle.rules.proofs.Laws.Grown.{grown-mod, written-first}
use Rattle.reachable.proofs.Fills.{In, map-self, written-here, written-else}
use Rattle.reachable.specs.Invariant.{Reached, Reads, Begun, Items}
use Rattle.reachable.proofs.Kept.Rebuild.Drawing.{Drawing, Here, Rest, lives, level-lt, nodup-levels, fill-of, order-here, order-else, count-q, levels-some, counter-lt, jobs, count-p}
use Rattle.reachable.proofs.Kept.Rebuild.Holds.{holds-here, holds-else}
use Rattle.rules.specs.Blocks.{reads_of}
use Rattle.reachable.specs.Live.{pending, passed_by, undrawn, counted, Gathers}
use Rattle.reachable.proofs.Live.{counted-calm, front-is, front-eq, joined-begun}
use Rattle.reachable.proofs.Pending.{leave-queue-same, leave-queue-less, undrawn-calm, undrawn-rest}
use Rattle.reachable.proofs.Consequences.{joined-queued}
use Rattle.reachable.specs.Terms.{Numbered}

module _ (s : State) (f : Reached s) (q : ℕ) (ls : List ℕ) (xs : List Fill) (d : Drawing s q ls xs) where
  abbrev h : Shape
  h = s.shape

  abbrev c : ℕ
  c = s.counter q

  abbrev s' : State
  s' = do_rebuild q ls xs s

  before : undrawn s.queue s.begun s.sent ≡ q ∷ d.step.rest
  before = undrawn-calm s.queue s.begun s.sent d.step.calm ∙ d.step.front

  after : undrawn s.queue (joined s q) 1 ≡ leave_queue q (joined s q) (q ∷ d.step.rest)
  after = ap (λ qs. undrawn qs (joined s q) 1) d.step.front ∙ undrawn-rest q d.step.rest (joined s q) 1 (λ e. omega arith)

  pending-other : (p ℓ : ℕ) → ¬ (p ≡ q) → pending s' p ℓ ≡ pending s p ℓ
  unfolding do_rebuild pending
  pending-other p ℓ n = ap (λ x. x + bit (passed_by s.partition s.request p ℓ))
      (ap (λ qs. queued qs p) after ∙ leave-queue-same p q (joined s q) (q ∷ d.step.rest) n ∙ ap (λ qs. queued qs p) (sym before))

  -- the jobs that are drawn are pending no more
  pending-front : (ℓ : ℕ) → pending s q ℓ ≡ pending s' q ℓ + joined s q
  unfolding do_rebuild pending
  pending-front ℓ = omega (
    arith,
    ap (λ qs. queued qs q) before,
    ap (λ qs. queued qs q) after,
    leave-queue-less q (joined s q) (q ∷ d.step.rest) (subst (λ qs. joined s q ≤ queued qs q) d.step.front (joined-queued s f q d.step.rest d.step.front)),
  )

  pub marks-fit : (ℓ : ℕ) → Mem ℓ ls → (ℓ < h.L) × (length {A = ℕ} (replicate (slots ℓ) 1) ≡ slots ℓ)
  marks-fit ℓ m = (level-lt s f q ls xs d ℓ m, length-replicate (slots ℓ) 1)

  pub mark-here : (p ℓ i : ℕ) → Here s f q ls xs d p ℓ → i < slots ℓ → s'.mark (cell h p ℓ i) ≡ 1
  unfolding do_rebuild Rebuild.new_marks
  mark-here p ℓ i w hi =
      written-here h q (λ ℓ. ℓ) (λ ℓ. replicate (slots ℓ) 1) ls marks-fit (rw (map-self ls) (nodup-levels s f q ls xs d)) s.mark ℓ w.1 p ℓ i (w.0, refl) hi ∙ get_or-replicate (slots ℓ) i 1 0 hi

  pub mark-else : (p ℓ i : ℕ) → ℓ < h.L → i < slots ℓ → (Here s f q ls xs d p ℓ → ⊥) → s'.mark (cell h p ℓ i) ≡ s.mark (cell h p ℓ i)
  unfolding do_rebuild Rebuild.new_marks
  mark-else p ℓ i hℓ hi n = written-else h q (λ ℓ. ℓ) (λ ℓ. replicate (slots ℓ) 1) ls marks-fit s.mark p ℓ i hℓ hi (λ e m. n (e, subst (λ l. Mem ℓ l) (map-self ls) m))

  pub reads_kept : Reads s'
  unfolding do_rebuild reads_of
  reads_kept p ℓ hp hℓ e = inr (⊎_elim here rest (lives s f q ls xs d p ℓ hℓ e))
    where
      here : Here s f q ls xs d p ℓ → reads_of h s'.mark p ℓ ≤ counted s' p % 2 ^ ℓ + pending s' p ℓ
      here w =
          let z = total-none (slots ℓ) (λ i. 1 - s'.mark (cell h p ℓ i)) (λ i hi. ap (λ v. 1 - v) (mark-here p ℓ i w hi)) in
          omega arith

      rest : Rest s f q ls xs d p ℓ → reads_of h s'.mark p ℓ ≤ counted s' p % 2 ^ ℓ + pending s' p ℓ
      rest w = go (ℕ_discrete p q) (f.reads p ℓ hp hℓ w.1)
        where
          same : total (slots ℓ) (λ i. 1 - s'.mark (cell h p ℓ i)) ≡ total (slots ℓ) (λ i. 1 - s.mark (cell h p ℓ i))
          same = total-same (slots ℓ) (λ i. 1 - s'.mark (cell h p ℓ i)) (λ i. 1 - s.mark (cell h p ℓ i)) (λ i hi. ap (λ v. 1 - v) (mark-else p ℓ i hℓ hi w.0))

          go : Dec (p ≡ q) → Gathers s p ℓ ⊎ (reads_of h s.mark p ℓ ≤ counted s p % 2 ^ ℓ + pending s p ℓ) → reads_of h s'.mark p ℓ ≤ counted s' p % 2 ^ ℓ + pending s' p ℓ
          go (yes k) (inl g) = absurd (omega (arith, w.2 k, not-above k g.2.0 g.2.1))
            where
              not-above : p ≡ q → (s.begun ≡ 0 → ⊥) → ℓ ≤ top_level h (s.counter p) s.begun → ℓ ≤ top_of s q
              not-above k n l = unfold top_of in (rw (joined-begun s f.running q (rw d.step.front (front-is q d.step.rest)) n, ← k) l)
          go (yes k) (inr r) = omega (
            arith,
            same,
            ap (λ x. pending s x ℓ) k,
            ap (λ x. pending s' x ℓ) k,
            pending-front ℓ,
            ap (λ x. x % 2 ^ ℓ) (ap (counted s') k ∙ count-q s f q ls xs d),
            grown-mod h c (joined s q) (levels-some s f q ls xs d) (counter-lt s f q ls xs d) (jobs s f q ls xs d) ℓ (unfold top_of in (w.2 k)) hℓ,
            ap (λ x. x % 2 ^ ℓ) (ap (counted s) k ∙ counted-calm s q d.step.calm),
          )
          go (no k) (inl g) = absurd (k (front-eq p q s.queue d.step.rest d.step.front g.0))
          go (no k) (inr r) = omega (arith, same, pending-other p ℓ k, ap (λ x. x % 2 ^ ℓ) (count-p s f q ls xs d p k))

  pub begun_kept : Begun s'
  unfolding do_rebuild
  begun_kept n =
      let x = written-first h c (joined s q) (levels-some s f q ls xs d) (counter-lt s f q ls xs d) (jobs s f q ls xs d) in
      (q, d.step.rest, (d.step.front, unfold slot_count in (rw x.1 (omega (arith, pow_pos (top_level h c (joined s q) + 1))))))

  -- the items of a written level are its blocks and then dummies
  pub items_kept : Items h (counted s') s'.order s'.mark s'.holds
  items_kept p ℓ hp hℓ e = ⊎_elim (λ w. let x = fill-of s f q ls xs d ℓ w.1 in here x.0 x.1.0 (w.0, x.1.1)) rest (lives s f q ls xs d p ℓ hℓ e)
    where
      here : (x : Fill) → In x xs → (q ≡ p) × (x.level ≡ ℓ) → (n : ℕ) × Numbered h s'.order s'.mark s'.holds p ℓ n
      here x m w = (
        length x.blocks,
        record {
          few = rw (← w.1) (d.good x m).fit;
          blocks = λ k l hk z. absurd (omega (arith, sym (entry k hk) ∙ z, get_d_map suc x.blocks k 0 0 l));
          dummies = λ k l hk. entry k hk ∙ get_or-eq_default (map suc x.blocks) 0 {n = k} (omega (arith, length-map x.blocks suc));
        },
      )
        where
          entry : (k : ℕ) → k < slots ℓ → s'.holds (cell h p ℓ (s'.order (cell h p ℓ k))) ≡ get_or (map suc x.blocks) k 0
          entry k hk =
              let g = d.good x m in
              let hk' : k < length x.order = rw (g.long, w.1) hk in
              let at : s'.order (cell h p ℓ k) ≡ get_or x.order k 0 = order-here s f q ls xs d x m p ℓ k w hk in
              let low : get_or x.order k 0 < slots ℓ = rw (← w.1) (all_get_d k g.low (pow_pos (x.level + 1))) in
              ap (λ i. s'.holds (cell h p ℓ i)) at ∙ holds-here s f q ls xs d x m p ℓ (get_or x.order k 0) w low ∙ ap (λ j. get_or (map suc x.blocks) j 0) (index_at x.order k g.once hk')

      rest : Rest s f q ls xs d p ℓ → (n : ℕ) × Numbered h s'.order s'.mark s'.holds p ℓ n
      rest w =
          let r = f.items p ℓ hp hℓ w.1 in (
            r.0,
            record {
              few = r.1.few;
              blocks = λ k l hk z. marks k hk ∙ r.1.blocks k l hk (sym (holds k hk) ∙ z);
              dummies = λ k l hk. holds k hk ∙ r.1.dummies k l hk;
            },
          )
        where
          order : (k : ℕ) → k < slots ℓ → s'.order (cell h p ℓ k) ≡ s.order (cell h p ℓ k)
          order k hk = order-else s f q ls xs d p ℓ k hℓ hk w.0

          marks : (k : ℕ) → k < slots ℓ → s'.mark (cell h p ℓ (s'.order (cell h p ℓ k))) ≡ s.mark (cell h p ℓ (s.order (cell h p ℓ k)))
          marks k hk = ap (λ i. s'.mark (cell h p ℓ i)) (order k hk) ∙ mark-else p ℓ (s.order (cell h p ℓ k)) hℓ (f.range.orders p ℓ k hp hℓ hk) w.0

          holds : (k : ℕ) → k < slots ℓ → s'.holds (cell h p ℓ (s'.order (cell h p ℓ k))) ≡ s.holds (cell h p ℓ (s.order (cell h p ℓ k)))
          holds k hk = ap (λ i. s'.holds (cell h p ℓ i)) (order k hk) ∙ holds-else s f q ls xs d p ℓ (s.order (cell h p ℓ k)) hℓ (f.range.orders p ℓ k hp hℓ hk) w.2
