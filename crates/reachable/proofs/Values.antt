-- Where the client has the contents of a block: it waits; it is in a level that a drawn job writes; or its slot was read and the read has completed. A
-- table y has these contents, and a turn keeps it so.
use Rattle.std.specs.Prelude.{◌≡◌, true, List, ℕ, suc, ◌<◌, get_or}
use Rattle.std.proofs.Math.Path.{refl}
use Rattle.std.proofs.Common.{ap, sym, ◌∙◌, subst, arith}
use Rattle.std.proofs.Math.Logic.{⊎_elim}
use Rattle.std.proofs.lemmas.Bool.{eqb-false}
use Rattle.lists.specs.All.{any-more, any_last, any-all}
use Rattle.lists.specs.Distinct.{Mem, index}
use Rattle.lists.specs.Members.{dec_mem}
use Rattle.lists.specs.Tables.{put_other}
use Rattle.rules.specs.Blocks
use Rattle.rules.specs.Completion.{is_command}
use Rattle.rules.specs.Draws.{Drew}
use Rattle.rules.specs.Laws.Decided.{StepIn}
use Rattle.rules.proofs.Laws.Layout.{cell-inj}
use Rattle.rules.specs.Jobs.{joined, top_of, levels_of}
use Rattle.rules.specs.Levels.{filled, written_levels}
use Rattle.rules.specs.Rebuild.{Fill, fills, do_rebuild, gathered}
use Rattle.rules.specs.Shape.{Shape, cell, slots}
use Rattle.rules.specs.State.{State, cmd, read, write, stored}
use Rattle.rules.specs.Turn
use Rattle.rules.specs.Turn.{Step, idle, no_dummy, read_for_request, read_for_job, rebuild, write_next, do_step}
use Rattle.reachable.proofs.Begins.{target-still, request-begins}
use Rattle.reachable.proofs.Blocks.{place-lt, chosen-waits, is_below_lem, gathered-lt, stored-inj}
use Rattle.reachable.proofs.Consequences.{sources-read}
use Rattle.reachable.proofs.Decided.{Decided, RequestReads, JobReads, Writes}
use Rattle.reachable.specs.Invariant.{Reached}
use Rattle.reachable.proofs.Kept.Rebuild.Drawing.{Drawing, Here, drawing, in-levels, written_is, partition-in, place_in, place_out, above-target, leave-mem}
use Rattle.reachable.proofs.Kept.Rebuild.Marks.{mark-here, mark-else}
use Rattle.reachable.specs.Live.{Target, counted}
use Rattle.reachable.proofs.Live.{counted-calm, front-eq}
use Rattle.reachable.proofs.Outstanding.{command-is, is-command}
use Rattle.reachable.proofs.Slots.{gathered-why, front-in}
use Rattle.reachable.specs.Values.{Drawn, Known, Values}

-- A read of a slot
module _ (s : State) (f : Reached s) (y : ℕ → List ℕ) (k : Values s y) (q ℓ i : ℕ) (hℓ : ℓ < s.shape.L) (hi : i < slots ℓ) where
  abbrev h : Shape
  h = s.shape

  abbrev r' : State
  r' = Turn.send (cmd read q ℓ i) (Turn.mark_read q ℓ i s)

  pub read_known : Known r' y
  unfolding Turn.send Turn.mark_read
  read_known b m j hb e n o = k.known b m j hb e (λ z. n (put_other (cell h q ℓ i) 0 s.mark _ other ∙ z)) (λ z. o (any-more _ s.outstanding _ z))
    where
      v : (m < h.L) × (j < slots m)
      v = place-lt h.L m j (s.place b) (f.range.places b hb) e

      other : cell h (s.partition b) m j ≡ cell h q ℓ i → ⊥
      other z = o (any_last _ s.outstanding (cmd read q ℓ i) (is-command (cmd read (s.partition b) m j) (cmd read q ℓ i) refl (cell-inj h (s.partition b) q m ℓ j i v.0 hℓ v.1 hi z)))

  request-values : RequestReads s q ℓ i → (js : List ℕ) → Values (do_step (read_for_request q ℓ i) js s) y
  unfolding do_step Turn.send Turn.mark_read
  request-values d js = record { waiting = k.waiting; drawn = λ b m j hb e z. k.drawn b m j hb e (target-still s _ f (request-begins s f q ℓ i d) (s.partition b) m z); known = read_known }

  job-values : JobReads s q ℓ i → (js : List ℕ) → Values (do_step (read_for_job q ℓ i) js s) y
  unfolding do_step Turn.send Turn.mark_read
  job-values d js = record { waiting = k.waiting; drawn = λ b m j hb e z. absurd (z.1 d.calm); known = read_known }

-- A further write
pub write-values : (s : State) (y : ℕ → List ℕ) → Values s y → (q t i : ℕ) → Writes s q t i → (js : List ℕ) → Values (do_step (write_next q t i) js s) y
unfolding do_step Turn.send
write-values s y k q t i d js = record {
  waiting = k.waiting;
  drawn = λ b m j hb e z. k.drawn b m j hb e (z.0, d.busy, z.2);
  known = λ b m j hb e n o. k.known b m j hb e n (λ z. o (any-more _ s.outstanding _ z));
}

-- A rebuild
module _ (s : State) (f : Reached s) (y : ℕ → List ℕ) (k : Values s y) (q : ℕ) (ls : List ℕ) (xs : List Fill) (d : Drawing s q ls xs) where
  abbrev b' : State
  b' = Turn.send (cmd write q (get_or ls 0 0) 0) (do_rebuild q ls xs s)

  -- the bytes of a gathered block are here
  pub gathered-bytes : (b : ℕ) → Mem b (gathered s q) → s.bytes b ≡ y b
  unfolding Blocks.is_unread
  gathered-bytes b m = ⊎_elim
      (λ e. k.waiting b hb (chosen-waits s q b e).1)
      (λ e. let x = is_below_lem (suc (top_of s q)) (s.place b) e.1 in source e.0 x.0 x.1 x.2.0 x.2.1)
      (gathered-why s f q (front-in s f q d.step.rest d.step.front) d.step.calm b m)
    where
      hb : b < s.shape.N
      hb = gathered-lt s q b m

      source : s.partition b ≡ q → (ℓ i : ℕ) → s.place b ≡ stored ℓ i → ℓ < suc (top_of s q) → s.bytes b ≡ y b
      source e ℓ i p l =
          let v = place-lt s.shape.L ℓ i (s.place b) (f.range.places b hb) p in
          let live : filled (s.counter q) ℓ ≡ true = ap (λ c. filled c ℓ) (sym (ap (counted s) e ∙ counted-calm s q d.step.calm)) ∙ (f.agree.placed b ℓ i hb p).0 in
          let u = sources-read s f q ls d.step ℓ i (omega arith) live v.1 in
          k.known b ℓ i hb p
          (λ z. omega (arith, sym u ∙ ap (λ x. s.mark (cell s.shape x ℓ i)) (sym e) ∙ z))
          (λ z. let x = any-all (is_command (cmd read (s.partition b) ℓ i)) d.step.quiet z in
          eqb-false x.0.partition q x.1.1 (sym (command-is (cmd read (s.partition b) ℓ i) x.0 x.1.0).1.0 ∙ e))

  is-place : (b : ℕ) → b'.place b ≡ (do_rebuild q ls xs s).place b
  unfolding Turn.send
  is-place b = refl

  -- a block in its place after the rebuild: gathered, and in a written level; or where it was
  pub data Case (b ℓ i : ℕ) : Type 0 where
    moves : Mem b (gathered s q) → s.partition b ≡ q → Mem ℓ ls → Case b ℓ i
    rests : s.place b ≡ stored ℓ i → (Here s f q ls xs d (s.partition b) ℓ → ⊥) → Case b ℓ i

  pub case : (b ℓ i : ℕ) → b < s.shape.N → b'.place b ≡ stored ℓ i → Case b ℓ i
  case b ℓ i hb e = go (dec_mem b (gathered s q))
    where
      go : Dec (Mem b (gathered s q)) → Case b ℓ i
      go (yes m) =
          let x = d.home b m in
          let w = (stored-inj x.0.level ℓ (get_or x.0.order (index b x.0.blocks) 0) i (sym (place_in s f q ls xs d b x.0 x.1.0 x.1.1) ∙ sym (is-place b) ∙ e)).0 in
          moves m (partition-in s f q ls xs d b m) (subst (λ n. Mem n ls) w (in-levels s f q ls xs d x.0 x.1.0))
      go (no m) =
          let p = sym (place_out s f q ls xs d b m) ∙ sym (is-place b) ∙ e in
          rests p (λ w. let l = above-target s f q ls xs d b ℓ i hb m p (sym w.0) in omega (arith, (written_is s f q ls xs d ℓ w.1).0))

  -- a level that the job writes
  is-target : (p ℓ : ℕ) → Target b' p ℓ → Here s f q ls xs d p ℓ
  unfolding Turn.send do_rebuild levels_of
  is-target p ℓ z =
      let v = front-eq p q s.queue d.step.rest d.step.front z.0 in
      (sym v, rw d.step.goal (subst (λ x. Mem ℓ (written_levels s.shape (s.counter x) (joined s q))) v z.2))

  rebuild-drawn : Drawn b' y
  unfolding Turn.send do_rebuild
  rebuild-drawn b ℓ i hb e z = go (case b ℓ i hb e)
    where
      go : Case b ℓ i → s.bytes b ≡ y b
      go (moves m u w) = gathered-bytes b m
      go (rests p n) = absurd (n (is-target (s.partition b) ℓ z))

  rebuild-known : Reached b' → Known b' y
  unfolding Turn.send do_rebuild
  rebuild-known f' b ℓ i hb e n a = go (case b ℓ i hb e)
    where
      v : (ℓ < s.shape.L) × (i < slots ℓ)
      v = place-lt s.shape.L ℓ i (b'.place b) (f'.range.places b hb) e

      go : Case b ℓ i → b'.bytes b ≡ y b
      go (moves m u w) = absurd (n (mark-here s f q ls xs d (s.partition b) ℓ i (sym u, w) v.1))
      go (rests p x) = k.known b ℓ i hb p (λ z. n (mark-else s f q ls xs d (s.partition b) ℓ i v.0 v.1 x ∙ z)) (λ z. a (any-more _ s.outstanding _ z))

  pub rebuild-values : Reached b' → Values b' y
  rebuild-values f' = record {
    waiting = unfold Turn.send do_rebuild in (λ b hb m. k.waiting b hb (leave-mem s f q ls xs d b m).0);
    drawn = rebuild-drawn;
    known = rebuild-known f';
  }

-- A turn
pub turn-values : (s : State) → Reached s → (y : ℕ → List ℕ) → Values s y → (x : Step) (js : List ℕ) → Decided s x → StepIn s x → Drew (Turn.step_bounds x) js → Reached (do_step x js s) → Values (do_step x js s) y
unfolding Turn.step_bounds
turn-values s f y k idle js d h w f' = unfold do_step in k
turn-values s f y k no_dummy js d h w f' = unfold do_step in k
turn-values s f y k (read_for_request q ℓ i) js d h w f' = request-values s f y k q ℓ i h.1 h.2 d js
turn-values s f y k (read_for_job q ℓ i) js d h w f' = job-values s f y k q ℓ i h.1 h.2 d js
turn-values s f y k (rebuild q ls) js d h w f' = unfold do_step in (rebuild-values s f y k q ls (fills ls js (gathered s q)) (drawing s f q ls js d w) f')
turn-values s f y k (write_next q t i) js d h w f' = write-values s y k q t i d js
