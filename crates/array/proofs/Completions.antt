-- A completion keeps the contents of every block.
use Rattle.std.proofs.Math.Path.{◌≡◌, refl, ap, sym}
use Rattle.std.proofs.Common.{◌∙◌, ⊎_elim, eqb-true}
use Rattle.std.proofs.Math.Logic.{inl, inr}
use Rattle.std.specs.Prelude.{Bool, not, ℕ, ◌<◌, if◌then◌else◌}
use Rattle.std.proofs.Math.Bool.{true, false}
use mathlib.Core.List.{List, [], ◌∷◌}
use Rattle.std.proofs.Math.Option.{Option, none, some}
use native.Mathlib.Omega.{arith}
use Rattle.std.proofs.Math.Dec.{eqb}
use Rattle.lists.specs.All.{all_both, any-all, any-without, any-kept}
use Rattle.lists.specs.Search.{any, without}
use Rattle.lists.specs.Tables.{put, put_same, put_other}
use Rattle.lists.specs.Tests.{and_l}
use Rattle.rules.specs.Blocks
use Rattle.rules.specs.Completion
use Rattle.rules.specs.Completion.{completed, gather_bytes, finish_job, end_job, is_command}
use Rattle.rules.specs.Laws.Range.{CommandIn}
use Rattle.rules.specs.Jobs.{levels_of, slot_count}
use Rattle.rules.specs.Setters.{set_bytes}
use Rattle.rules.specs.Shape.{cell}
use Rattle.rules.specs.State.{State, Command, cmd, read, write, stored}
use Rattle.reachable.proofs.Blocks.{not-nowhere, place-lt}
use Rattle.reachable.proofs.Consequences.{all-written, holder-place, place-holder, reading-away}
use Rattle.reachable.specs.Invariant.{Reached, Reading}
use Rattle.rules.specs.Request.{is_front}
use Rattle.reachable.specs.Live.{Target, Wrote}
use Rattle.reachable.proofs.Live.{front-eq}
use Rattle.reachable.proofs.Outstanding.{command-is, same-command, dec_one}
use Rattle.reachable.specs.Terms.{One}
use Rattle.array.specs.Claim.{Slots}
use Rattle.array.specs.Contents.{Contents, Due, Sent}
use Rattle.reachable.specs.Values.{Out}

-- A read that completes with what the host has
module _ (s : State) (f : Reached s) (last has : Slots) (array : ℕ → List ℕ) (k : Contents s last has array) (c : Command) (kind : c.kind ≡ read)
    (out : any (is_command c) s.outstanding ≡ true) (bs : List ℕ) (brings : bs ≡ has c.partition c.level c.slot) where
  -- it was sent
  sent : Reading s c × CommandIn s.shape c
  sent =
      let x = any-all (is_command c) (all_both f.commands f.range.outstanding) out in
      let y = command-is c x.0 x.1.0 in
      let e : x.0 ≡ c = sym (same-command c x.0 y.0 y.1) in (
        ⊎_elim (λ a. rw e at a) (λ a. absurd (let z : ◌≡◌ {A = ℕ} 1 2 = sym kind ∙ y.0 ∙ a.kind in omega arith)) x.1.1.0,
        rw e at x.1.1.1,
      )

  abbrev own : Option ℕ
  own = Blocks.holder s c.partition c.level c.slot

  -- the block in its slot
  own-place : (b : ℕ) → own ≡ some b → (s.partition b ≡ c.partition) × (s.place b ≡ stored c.level c.slot)
  own-place b e = let z = sent.1 in holder-place s f c.partition c.level c.slot b z.partition z.level z.slot e

  place-own : (b ℓ i : ℕ) → b < s.shape.N → s.place b ≡ stored ℓ i → One (s.partition b) ℓ i c.partition c.level c.slot → own ≡ some b
  place-own b ℓ i hb e w = ap (λ p. Blocks.holder s p c.level c.slot) (sym w.0) ∙ place-holder s f b c.level c.slot hb (e ∙ rw (w.1, w.2))

  -- it is in no level that a drawn job writes
  no_target : (ℓ : ℕ) → Target s c.partition ℓ → ⊥
  no_target ℓ z = reading-away s f c sent.0 z.1 z.0

  -- no write of its slot is outstanding
  not-due : ¬ Due s c.partition c.level c.slot
  not-due z =
      let x = any-all (is_command (cmd write c.partition c.level c.slot)) f.commands z in
      let y = command-is (cmd write c.partition c.level c.slot) x.0 x.1.0 in
      ⊎_elim (λ a. let v : ◌≡◌ {A = ℕ} 2 1 = y.0 ∙ a.kind in omega arith) (λ a. reading-away s f c sent.0 a.busy (ap (is_front s.queue) y.1.0 ∙ a.front)) x.1.1

  -- what is sent then was sent before
  still-sent : (p ℓ i : ℕ) → Sent (completed c s) p ℓ i → Sent s p ℓ i
  unfolding completed
  still-sent p ℓ i u = (⊎_elim inl (λ z. inr (any-without _ (is_command c) s.outstanding z)) u.0, u.1)

  read-contents : (y : ℕ → List ℕ) → ((b : ℕ) → own ≡ some b → y b ≡ bs) → ((b : ℕ) → ¬ (own ≡ some b) → y b ≡ s.bytes b) → Contents (set_bytes y (completed c s)) last has array
  unfolding completed Blocks.zeros
  read-contents y new old = record {
    absent = k.absent;
    values = record {
      waiting = λ b hb m. old b (λ e. not-nowhere c.level c.slot (sym (f.waiting.absent b m) ∙ (own-place b e).1)) ∙ k.values.waiting b hb m;
      drawn = λ b ℓ i hb e z. old b (λ w. no_target ℓ (rw (own-place b w).0 at z)) ∙ k.values.drawn b ℓ i hb e z;
      known = known;
    };
    written = λ b ℓ i hb e u. k.written b ℓ i hb e (still-sent (s.partition b) ℓ i u);
    settled = λ b ℓ i hb e u n. k.settled b ℓ i hb e (still-sent (s.partition b) ℓ i u) (λ z. n (any-kept _ (is_command c) s.outstanding z (no_write b ℓ i)));
  }
    where
      no_write : (b ℓ i : ℕ) (x : Command) → is_command (cmd write (s.partition b) ℓ i) x ≡ true → is_command c x ≡ true → ⊥
      no_write b ℓ i x p z =
          let v : ◌≡◌ {A = ℕ} 2 1 = (command-is (cmd write (s.partition b) ℓ i) x p).0 ∙ sym (command-is c x z).0 ∙ kind in
          omega arith

      known : (b ℓ i : ℕ) → b < s.shape.N → s.place b ≡ stored ℓ i → ¬ (s.mark (cell s.shape (s.partition b) ℓ i) ≡ 1)
          → ¬ (any (is_command (cmd read (s.partition b) ℓ i)) (without (is_command c) s.outstanding) ≡ true) → y b ≡ array b
      known b ℓ i hb e n o = go (dec_one (s.partition b) ℓ i c.partition c.level c.slot)
        where
          go : Dec (One (s.partition b) ℓ i c.partition c.level c.slot) → y b ≡ array b
          go (yes w) =
              let v : c ≡ cmd read (s.partition b) ℓ i = sym (same-command (cmd read (s.partition b) ℓ i) c (sym kind) w) in
              let out' : Out s (s.partition b) ℓ i = ap (λ x. any (is_command x) s.outstanding) (sym v) ∙ out in
              let at : has c.partition c.level c.slot ≡ has (s.partition b) ℓ i = rw (w.0, w.1, w.2) in
              new b (place-own b ℓ i hb e w) ∙ brings ∙ at ∙ k.settled b ℓ i hb e (inr out', λ z. absurd (no_target ℓ (rw w.0 at z))) (λ z. not-due (rw (w.0, w.1, w.2) at z))
          go (no w) =
              old b (λ z. let x = own-place b z in w (x.0, (apart x).0, (apart x).1)) ∙ k.values.known b ℓ i hb e n (λ z. o (any-kept _ (is_command c) s.outstanding z other))
            where
              apart : (s.partition b ≡ c.partition) × (s.place b ≡ stored c.level c.slot) → (ℓ ≡ c.level) × (i ≡ c.slot)
              apart x = let z : stored ℓ i ≡ stored c.level c.slot = sym e ∙ x.1 in (cc, cc)

              other : (x : Command) → is_command (cmd read (s.partition b) ℓ i) x ≡ true → is_command c x ≡ true → ⊥
              other x p q =
                  let a = (command-is (cmd read (s.partition b) ℓ i) x p).1 in
                  let d = (command-is c x q).1 in
                  w (a.0 ∙ sym d.0, a.1 ∙ sym d.1, a.2 ∙ sym d.2)

  pub complete_read-contents : Contents (Completion.complete_read c bs s) last has array
  unfolding Completion.complete_read gather_bytes
  complete_read-contents = go own refl
    where
      go : (o : Option ℕ) → own ≡ o → Contents (gather_bytes o bs (completed c s)) last has array
      go none e = unfold completed in (read-contents s.bytes (λ b w. absurd (let z : ◌≡◌ {A = ℕ} 0 1 = cc (e, w) in omega arith)) (λ b w. refl))
      go (some a) e = unfold completed in (
          read-contents (put a bs s.bytes)
          (λ b w. let v : b ≡ a = cc (e, w) in ap (put a bs s.bytes) v ∙ put_same a bs s.bytes)
          (λ b n. put_other a bs s.bytes b (λ v. n (e ∙ ap some (sym v))))
          )

-- A write that completes, when the host has taken its bytes
module _ (s : State) (last has : Slots) (array : ℕ → List ℕ) (k : Contents s last has array) where
  completed-contents : (c : Command) → c.kind ≡ write → has c.partition c.level c.slot ≡ last c.partition c.level c.slot → Contents (completed c s) last has array
  unfolding completed Blocks.zeros
  completed-contents c kind has-it = record {
    absent = k.absent;
    values = record {
      waiting = k.values.waiting;
      drawn = k.values.drawn;
      known = λ b ℓ i hb e m o. k.values.known b ℓ i hb e m (λ z. o (any-kept _ (is_command c) s.outstanding z
          (λ x p q. let v : ◌≡◌ {A = ℕ} 1 2 = (command-is (cmd read (s.partition b) ℓ i) x p).0 ∙ sym (command-is c x q).0 ∙ kind in omega arith)));
    };
    written = λ b ℓ i hb e u. k.written b ℓ i hb e (still-sent (s.partition b) ℓ i u);
    settled = λ b ℓ i hb e u n. settled b ℓ i hb e (still-sent (s.partition b) ℓ i u) n (dec_one (s.partition b) ℓ i c.partition c.level c.slot);
  }
    where
      still-sent : (p ℓ i : ℕ) → Sent (completed c s) p ℓ i → Sent s p ℓ i
      still-sent p ℓ i u = (⊎_elim inl (λ z. inr (any-without _ (is_command c) s.outstanding z)) u.0, u.1)

      settled : (b ℓ i : ℕ) → b < s.shape.N → s.place b ≡ stored ℓ i → Sent s (s.partition b) ℓ i → ¬ Due (completed c s) (s.partition b) ℓ i
          → Dec (One (s.partition b) ℓ i c.partition c.level c.slot) → has (s.partition b) ℓ i ≡ array b
      settled b ℓ i hb e u n (yes w) = rw (w.0, w.1, w.2) (has-it ∙ rw (w.0, w.1, w.2) at (k.written b ℓ i hb e u))
      settled b ℓ i hb e u n (no w) = k.settled b ℓ i hb e u (λ z. n (any-kept _ (is_command c) s.outstanding z (λ x p q.
          let y = (command-is (cmd write (s.partition b) ℓ i) x p).1 in
          let d = (command-is c x q).1 in
          w (y.0 ∙ sym d.0, y.1 ∙ sym d.1, y.2 ∙ sym d.2))))

  end-contents : Reached s → (q : ℕ) (qs : List ℕ) → s.queue ≡ q ∷ qs → s.sent ≡ slot_count (levels_of s q) → Contents (end_job q s) last has array
  unfolding end_job Blocks.zeros
  end-contents f q qs front all = record {
    absent = k.absent;
    values = record { waiting = k.values.waiting; drawn = λ b ℓ i hb e z. absurd (z.1 refl); known = k.values.known };
    written = λ b ℓ i hb e u. k.written b ℓ i hb e (u.0, all-sent b ℓ i hb e);
    settled = λ b ℓ i hb e u. k.settled b ℓ i hb e (u.0, all-sent b ℓ i hb e);
  }
    where
      all-sent : (b ℓ i : ℕ) → b < s.shape.N → s.place b ≡ stored ℓ i → Target s (s.partition b) ℓ → Wrote s (s.partition b) ℓ i
      all-sent b ℓ i hb e z =
          let v = front-eq (s.partition b) q s.queue qs front z.0 in
          let y = place-lt s.shape.L ℓ i (s.place b) (f.range.places b hb) e in
          all-written s f (s.partition b) ℓ i z y.1 (ap (λ x. slot_count (levels_of s x)) v ∙ sym all)

  finish_job-contents : Reached s → (l : List ℕ) → s.queue ≡ l → Contents (finish_job l s) last has array
  unfolding finish_job Completion.job_done
  finish_job-contents f [] e = k
  finish_job-contents f (q ∷ l) e = go (Completion.job_done s q) refl
    where
      go : (t : Bool) → Completion.job_done s q ≡ t → Contents (if t then end_job q s else s) last has array
      go true z = end-contents f q l e (eqb-true s.sent (slot_count (levels_of s q)) (and_l (eqb s.sent (slot_count (levels_of s q))) (not (any (λ (c : Command). eqb c.kind write) s.outstanding)) z))
      go false z = k

pub complete_write-contents : (s : State) (last has : Slots) (array : ℕ → List ℕ) → Contents s last has array → (c : Command) → c.kind ≡ write
    → has c.partition c.level c.slot ≡ last c.partition c.level c.slot → Reached (completed c s) → Contents (Completion.complete_write c s) last has array
unfolding Completion.complete_write
complete_write-contents s last has array k c kind has-it f = finish_job-contents (completed c s) last has array (completed-contents s last has array k c kind has-it) f s.queue (unfold completed in refl)
