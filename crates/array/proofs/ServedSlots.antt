-- The slots of a host that serves: its bytes were last sent there, so that an accepted completion of a read brings them. Served.antt has it of runs.
use Rattle.std.specs.Prelude.{◌≡◌, ◌⊎◌, Bool, true, length, eqb, ltb, if◌then◌else◌}
use Rattle.std.proofs.Math.Path.{refl}
use Rattle.std.proofs.Common.{ap, sym, ◌∙◌, inl, inr, ⊎_elim, arith, eqb-true, eq-eqb, ltb-true}
use Rattle.std.proofs.Math.Bool.{false, true≢false}
use mathlib.Core.List.{List, [], ◌∷◌}
use Prim.Native.Nat.{ℕ, zero, suc, ◌<◌}
use Rattle.std.proofs.lemmas.Bool.{eqb-false}
use Rattle.lists.specs.Search.{any}
use Rattle.rules.specs.Completion.{is_command}
use Rattle.rules.specs.Laws.Answers.{opens}
use Rattle.rules.proofs.Laws.Answers.{Passed, step-accepted, step-refused, open-first}
use Rattle.rules.proofs.Laws.Lengths.{Whole}
use Rattle.rules.specs.Open.{fresh}
use Rattle.rules.specs.Questions.{Ask, opening, request, turn, completion, collect, save, load, Call, number, questions}
use Rattle.rules.specs.Resumes.{saved_by, OfLast}
use Rattle.rules.specs.Run
use Rattle.rules.specs.Run.{act, step, run}
use Rattle.rules.specs.Shape.{Shape}
use Rattle.rules.specs.State.{State, Command, cmd, read, write, closed}
use Rattle.reachable.proofs.Outstanding.{dec_one, same-command}
use Rattle.reachable.proofs.LastSaved.{OfState, Brought, back, gone, load-silent, load-leaves, resumes-was, step-last as saved-last}
use Rattle.reachable.proofs.Reached.{Was, live, shut, step-was}
use Rattle.reachable.proofs.Sends.{Last, step-last, load-last, open-last, kind-here, kind-else, kind-zero, read_is}
use Rattle.reachable.specs.Terms.{One, last_kind}
use Rattle.array.specs.Claim.{Slots, store, sends}
use Rattle.reachable.specs.Values.{Out}
use Rattle.array.proofs.Effects.{Effect, step-effect}
use Rattle.array.specs.Hosts.{Fetches}
use Rattle.array.proofs.Slots.{store-yes, store-not, store-no}
use Rattle.array.specs.Served.{brings, fit}

-- ---- Bytes

pub fit_length : (n : ℕ) (bs : List ℕ) → length (fit n bs) ≡ n
unfolding fit
fit_length zero bs = refl
fit_length (suc n) [] = ap suc (fit_length n [])
fit_length (suc n) (b ∷ bs) = ap suc (fit_length n bs)

fit_same : (n : ℕ) (bs : List ℕ) → length bs ≡ n → fit n bs ≡ bs
unfolding fit
fit_same zero [] e = refl
fit_same zero (b ∷ bs) e = absurd (omega arith)
fit_same (suc n) [] e = absurd (omega arith)
fit_same (suc n) (b ∷ bs) e = ap (λ xs. b ∷ xs) (fit_same n bs (omega arith))

-- ---- The bytes last sent to a slot

-- once there was a command to it, there was one
positive : (q ℓ i k : ℕ) (c : Command) → 0 < k → 0 < last_kind q ℓ i k c
positive q ℓ i k c p = go (dec_one c.partition c.level c.slot q ℓ i) (ltb 0 c.kind) refl
  where
    go : Dec (One c.partition c.level c.slot q ℓ i) → (t : Bool) → ltb 0 c.kind ≡ t → 0 < last_kind q ℓ i k c
    go (no n) t e = rw (kind-else q ℓ i k c n) p
    go (yes w) true e = let z = ltb-true 0 c.kind e in rw (kind-here q ℓ i k c z w) z
    go (yes w) false e = rw (kind-zero q ℓ i k c e) p

-- k is the kind of the last command to it since the open, 0 for none: if there was one, the bytes last sent are B; and an outstanding read is one
pub record Slot (q ℓ i : ℕ) (s : State) (last : Slots) : Type 0 where
  kind : ℕ
  fresh : Last q ℓ i s kind
  sized : 0 < kind → length (last q ℓ i) ≡ s.shape.B
  out : Out s q ℓ i → 0 < kind

module _ (q ℓ i : ℕ) (s : State) (last : Slots) (w : Whole s) (l : Was s) (k : Slot q ℓ i s last) (c : Call) (o : opens c.ask ≡ false) where
  abbrev sent : Command
  sent = (step s c).1.command

  effect : Effect s q ℓ i (step s c).0 sent (step s c).1.bytes
  effect = step-effect s w q ℓ i c o l

  lasts : (sent ≡ cmd read q ℓ i → k.kind ≡ write) × Last q ℓ i (step s c).0 (last_kind q ℓ i k.kind sent)
  lasts = step-last q ℓ i s k.kind c o l k.fresh

  -- the slot has as many bytes as before, if they were not sent with this call
  same_size : sends last (step s c).1 q ℓ i ≡ last q ℓ i → 0 < k.kind → length (sends last (step s c).1 q ℓ i) ≡ (step s c).0.shape.B
  same_size e p = ap length e ∙ k.sized p ∙ sym effect.shape

  sized-kept : 0 < last_kind q ℓ i k.kind sent → length (sends last (step s c).1 q ℓ i) ≡ (step s c).0.shape.B
  unfolding sends
  sized-kept p = go (dec_one q ℓ i sent.partition sent.level sent.slot) effect.kind
    where
      bytes : List ℕ
      bytes = (step s c).1.bytes

      go : Dec (One q ℓ i sent.partition sent.level sent.slot) → (sent.kind ≡ 0) ⊎ ((sent.kind ≡ read) ⊎ (sent.kind ≡ write)) → length (store sent bytes last q ℓ i) ≡ (step s c).0.shape.B
      go (no n) x = same_size (store-not sent bytes last q ℓ i n) (rw (kind-else q ℓ i k.kind sent (λ w. n (sym w.0, sym w.1, sym w.2))) at p)
      go (yes w) (inl z) =
          let e : ltb 0 sent.kind ≡ false = ap (ltb 0) z in
          let e' : eqb sent.kind write ≡ false = ap (λ j. eqb j 2) z in
          same_size (store-no sent bytes last e' q ℓ i) (rw (kind-zero q ℓ i k.kind sent e) at p)
      go (yes w) (inr (inl z)) =
          let e : sent ≡ cmd read q ℓ i = same-command sent (cmd read q ℓ i) z (sym w.0, sym w.1, sym w.2) in
          let e' : eqb sent.kind write ≡ false = ap (λ j. eqb j 2) z in
          let y : k.kind ≡ 2 = lasts.0 e in
          same_size (store-no sent bytes last e' q ℓ i) (omega (arith, y))
      go (yes w) (inr (inr z)) = ap length (store-yes sent bytes last z q ℓ i w) ∙ effect.sized z ∙ sym effect.shape

  slot_kept : Slot q ℓ i (step s c).0 (sends last (step s c).1)
  slot_kept = record {
    kind = last_kind q ℓ i k.kind sent;
    fresh = lasts.1;
    sized = sized-kept;
    out = λ z. ⊎_elim (λ y. positive q ℓ i k.kind sent (k.out y)) (λ y. rw (read_is q ℓ i k.kind sent y) (omega arith)) (effect.out z);
  }

-- ---- An open

module _ (s : State) (c : Call) (h : Shape) (e : c.ask ≡ opening h) where
  open-out : (q ℓ i : ℕ) → ¬ Out (step s c).0 q ℓ i
  open-out q ℓ i = rw (open-first s c h e) (go (eqb (number closed c) 0) refl)
    where
      quiet-open : (a : Ask) → a ≡ opening h → (js : List ℕ) → ¬ Out (act closed a js) q ℓ i
      quiet-open a e js = rw e (unfold act Run.perform fresh any in (λ z. true≢false (sym z)))

      quiet-shut : (a : Ask) → a ≡ opening h → ¬ Out (Run.refuse closed a) q ℓ i
      quiet-shut a e = rw e (unfold Run.refuse closed any in (λ z. true≢false (sym z)))

      go : (t : Bool) → eqb (number closed c) 0 ≡ t → ¬ Out (step closed c).0 q ℓ i
      go true z = rw (step-accepted closed c (eqb-true (number closed c) 0 z)) (unfold Run.accepted in (quiet-open c.ask e _))
      go false z = rw (step-refused closed c (eqb-false (number closed c) 0 z)) (quiet-shut c.ask e)

  pub open-slot : (last : Slots) (q ℓ i : ℕ) → Slot q ℓ i (step s c).0 last
  open-slot last q ℓ i = record {
    kind = 0;
    fresh = rw (open-first s c h e) ((open-last q ℓ i h c e).1 0);
    sized = λ z. absurd (omega arith);
    out = λ z. absurd (open-out q ℓ i z);
  }

  pub open-was : Was (step s c).0
  open-was = rw (open-first s c h e) (step-was closed c (rw e tt) (shut refl))

-- ---- A load of what was just saved

load-slot : (q ℓ i : ℕ) (s : State) (last : Slots) (c : Call) (form : List ℕ) → c.ask ≡ load form → Brought s (step s c).0 → Slot q ℓ i s last → Slot q ℓ i (step s c).0 (sends last (step s c).1)
unfolding sends
load-slot q ℓ i s last c form e w k = go w
  where
    sent : Command
    sent = (step s c).1.command

    same : store sent (step s c).1.bytes last q ℓ i ≡ last q ℓ i
    same = store-no sent (step s c).1.bytes last (ap (λ (d : Command). eqb d.kind 2) (load-silent s c form e)) q ℓ i

    fresh : Last q ℓ i (step s c).0 k.kind
    fresh = rw (kind-zero q ℓ i k.kind sent (ap (λ (d : Command). ltb 0 d.kind) (load-silent s c form e))) at (load-last q ℓ i s k.kind c form e w k.fresh).1

    go : Brought s (step s c).0 → Slot q ℓ i (step s c).0 (store sent (step s c).1.bytes last)
    go (back f r y o z) = record {
      kind = k.kind;
      fresh = fresh;
      sized = λ p. ap length same ∙ k.sized p ∙ ap (λ (t : State). t.shape.B) (sym z);
      out = λ u. k.out (rw z at u);
    }
    go (gone z) = record {
      kind = 0;
      fresh = rw z (unfold closed in (λ hℓ hi u v. absurd (omega arith)));
      sized = λ p. absurd (omega arith);
      out = λ u. absurd (true≢false (sym (unfold closed any in (rw z at u))));
    }

-- ---- Every run

-- a state that calls left, the host's slots, and what was just saved
pub record Ready (s : State) (last : Slots) (saved : List ℕ) : Type 0 where
  pub was : Was s
  pub slot : (q ℓ i : ℕ) → Slot q ℓ i s last
  pub form : OfState s saved

was-whole : (s : State) → Was s → Whole s
was-whole s (live f) = f.tidy.whole
was-whole s (shut z) = rw z (unfold closed in (λ b. refl))

pub step-ready : (s : State) (last : Slots) (y : List ℕ) (c : Call) → OfLast y c.ask → Ready s last y → Ready (step s c).0 (sends last (step s c).1) (saved_by c.ask (step s c).1)
step-ready s last y c v k = record { was = resumes-was s y c v k.form k.was; slot = slots_kept c.ask refl v; form = saved-last s c }
  where
    other : opens c.ask ≡ false → (q ℓ i : ℕ) → Slot q ℓ i (step s c).0 (sends last (step s c).1)
    other o q ℓ i = slot_kept q ℓ i s last (was-whole s k.was) k.was (k.slot q ℓ i) c o

    slots_kept : (a : Ask) → c.ask ≡ a → OfLast y a → (q ℓ i : ℕ) → Slot q ℓ i (step s c).0 (sends last (step s c).1)
    slots_kept (opening h) e v = open-slot s c h e (sends last (step s c).1)
    slots_kept (request j b bs) e v = other (ap opens e ∙ unfold opens in refl)
    slots_kept turn e v = other (ap opens e ∙ unfold opens in refl)
    slots_kept (completion d bs) e v = other (ap opens e ∙ unfold opens in refl)
    slots_kept collect e v = other (ap opens e ∙ unfold opens in refl)
    slots_kept save e v = other (ap opens e ∙ unfold opens in refl)
    slots_kept (load form) e v = λ q ℓ i. load-slot q ℓ i s last c form e (load-leaves s c form e (rw v k.form) k.was).0 (k.slot q ℓ i)

-- an accepted completion of a read brings what the host has
module _ (s : State) (last : Slots) (y : List ℕ) (k : Ready s last y) (m : ℕ) (ws : List ℕ) (n : ℕ) where
  pub fetches : (a : Ask) → Passed (questions s (brings last y a) m ws n) → Fetches last (brings last y a)
  unfolding brings questions
  fetches (opening h) p = tt
  fetches (request j b bs) p = tt
  fetches turn p = tt
  fetches (completion c bs) p = λ z. go z (eqb c.kind read) (eq-eqb c.kind read z) p.1.1.0
    where
      here : List ℕ
      here = last c.partition c.level c.slot

      out : c.kind ≡ read → Out s c.partition c.level c.slot
      out z = ap (λ j. any (is_command (cmd j c.partition c.level c.slot)) s.outstanding) (sym z) ∙ p.1.0

      go : c.kind ≡ read → (t : Bool) → t ≡ true → eqb (length (if t then fit (length bs) here else bs)) (if t then s.shape.B else 0) ≡ true → (if t then fit (length bs) here else bs) ≡ here
      go z false e y = absurd (true≢false (sym e))
      go z true e y =
          let x = k.slot c.partition c.level c.slot in
          let v : length bs ≡ s.shape.B = sym (fit_length (length bs) here) ∙ eqb-true _ _ y in
          fit_same (length bs) here (x.sized (x.out (out z)) ∙ sym v)
  fetches collect p = tt
  fetches save p = tt
  fetches (load form) p = tt
