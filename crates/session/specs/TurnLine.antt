-- How the answers to a t and to a C come to be what the definition gives.
use Rattle.std.specs.Prelude.{◌≡◌, Bool, false, ℕ, ◌+◌, ◌*◌, ◌≤◌, ◌<◌, get_or, if◌then◌else◌}
use Rattle.std.proofs.Math.Path.{refl, ap, sym, subst}
use Rattle.std.proofs.Common.{◌∙◌, true≢false, arith, pow_pos}
use Rattle.std.proofs.Math.Bool.{true}
use mathlib.Core.List.{List, []}
use Rattle.std.proofs.Math.ListN.{length, drop}
use Rattle.std.proofs.Math.Dec.{eqb}
use borrow.Author.Tests.{eq-eqb, ne_eqb, eqb-true}
use Rattle.lists.specs.Search.{below, count}
use Rattle.lists.specs.All.{all_get_d}
use Rattle.rules.specs.Shape.{Shape, slots}
use Rattle.rules.specs.State.{State, Command, cmd, read, write}
use Rattle.rules.specs.Draws.{draws}
use Rattle.rules.specs.Turn.{Step, idle, no_dummy, read_for_request, read_for_job, rebuild, write_next, decide, command}
use Rattle.rules.specs.Questions.{turn, completion, collect, Call, ready, questions, sends, possible, bounds, number}
use Rattle.rules.specs.Run.{Outcome, step, accepted, handed, written, sent_command, numbers_of}
use Rattle.rules.specs.Laws.Answers.{opens}
use Rattle.rules.proofs.Laws.Answers.{step-number, step-accepted, accepted-passed}
use Rattle.rules.specs.Laws.Decided.{StepIn}
use Rattle.rules.proofs.Laws.Decided.{decide-in}
use Rattle.rules.proofs.Laws.Kept.{given-in}
use Rattle.rules.proofs.Laws.Levels.{levels-pos}
use Rattle.rules.specs.Laws.Range.{InRange}
use Rattle.memory.specs.Fits.{shape_of}
use Rattle.memory.specs.Parts.{replaced}
use Rattle.client.specs.declared.Client.{Client}
use Rattle.client.specs.View.{state_of, view}
use Rattle.tape.specs.Tape.{words_of}
use Rattle.contract.specs.Answers.{Answer}
use Rattle.contract.specs.Meets.{Meets, call_of, command_of, handed_to}
use Rattle.contract.specs.Buffers.{state-whole, ready-long, filled, written-length, answer-length}
use Rattle.printing.specs.Text.{number_text, command_text, contents_text}
use Rattle.printing.specs.Laws.{command-le, contents-le}
use Rattle.lists.specs.Written.{Written, same_text}
use Rattle.lines.specs.Lines.{turns, collects}
use Rattle.session.specs.Session as S
use Rattle.session.specs.Session.{memory_room, call, answered, start, fetched, brought, stored, completed, turned, collected, gives}
use Rattle.session.specs.declared.Session.{Session}
use Rattle.session.specs.declared.Printed.{Printed}
use Rattle.session.specs.Answers.{kept, Served, Gives, Answers, AnswersApart, Slot, Completes}
use Rattle.session.specs.Laws.{step-shape, made-is, call-no, call-yes, went-is, number_is, taken-le, shape_same, served-later}
use Rattle.session.specs.OpenLine as O

-- ---- The completion

pub no_words : words_of [] ≡ []
unfolding words_of below count
no_words = refl

-- the calls that the code makes, and the definition's
completion-is : (c d : Command) (m x y : List ℕ) → c ≡ d → x ≡ y → call_of (completion c x) m [] [] ≡ call (completion d y) (length m) [] 0
completion-is c d m x y e f = λ i. record { ask = completion (e i) (f i); memory = length m; words = no_words i; buffer = 0 }

-- a write is stored
pub completes-write : (r : Answer) (m host bytes : List ℕ) (d : Answer) (m' host' x : List ℕ) → r.kind ≡ 2 → x ≡ []
    → Meets r.client (state_of r.client m) (completion (cmd 2 r.partition r.level r.slot) x) m [] [] d m' []
    → host' ≡ replaced (start (shape_of r.client.shape) (cmd 0 r.partition r.level r.slot)) host bytes → Completes r m host bytes d.client m' host'
unfolding start
completes-write r m host bytes d m' host' x e y k h = record {
  state = k.state ∙ ap (λ c. (step (state_of r.client m) c).0) (completion-is _ (command_of r) m x _ (ap (λ n. cmd n r.partition r.level r.slot) (sym e)) (y ∙ sym nothing));
  stored = h ∙ sym (ap (λ t. if t then replaced (start (shape_of r.client.shape) (command_of r)) host bytes else host) (eq-eqb r.kind write e));
}
  where
    nothing : brought (shape_of r.client.shape) (command_of r) host ≡ []
    nothing = unfold brought in (rw (ne_eqb r.kind read (λ z. omega arith)))

-- a read brings the slot's bytes
pub completes-read : (r : Answer) (m host bytes : List ℕ) (d : Answer) (m' host' x : List ℕ) → r.kind ≡ 1 → x ≡ fetched (shape_of r.client.shape) (cmd 0 r.partition r.level r.slot) host
    → Meets r.client (state_of r.client m) (completion (command_of r) x) m [] [] d m' [] → host' ≡ host → Completes r m host bytes d.client m' host'
completes-read r m host bytes d m' host' x e y k h = record {
  state = k.state ∙ ap (λ c. (step (state_of r.client m) c).0) (completion-is (command_of r) (command_of r) m x _ refl (y ∙ sym slotted));
  stored = h ∙ sym (ap (λ t. if t then replaced (start (shape_of r.client.shape) (command_of r)) host bytes else host) (ne_eqb r.kind write (λ z. omega arith)));
}
  where
    slotted : brought (shape_of r.client.shape) (command_of r) host ≡ fetched (shape_of r.client.shape) (cmd 0 r.partition r.level r.slot) host
    slotted = unfold brought fetched start in (rw (eq-eqb r.kind read e))

-- ---- The turn

-- the command of a step that sends one: its kind, and its slot
pub record Sent (h : Shape) (c : Command) : Type 0 where
  pub some : 1 ≤ c.kind
  pub kind : c.kind ≤ 2
  pub partition : c.partition < h.P
  pub level : c.level < h.L
  pub slot : c.slot < slots c.level

sent-in : (s : State) → InRange s → (x : Step) → StepIn s x → sends x ≡ true → (x ≡ no_dummy → ⊥) → Sent s.shape (command x)
unfolding sends command
sent-in s g idle f e n = absurd (true≢false (sym e))
sent-in s g no_dummy f e n = absurd (n refl)
sent-in s g (read_for_request q ℓ i) f e n = record { some = omega arith; kind = omega arith; partition = f.0; level = f.1; slot = f.2 }
sent-in s g (read_for_job q ℓ i) f e n = record { some = omega arith; kind = omega arith; partition = f.0; level = f.1; slot = f.2 }
sent-in s g (rebuild q ls) f e n = record { some = omega arith; kind = omega arith; partition = f.0; level = all_get_d 0 f.1 (levels-pos s.shape g.shape); slot = pow_pos (get_or ls 0 0 + 1) }
sent-in s g (write_next q t i) f e n = record { some = omega arith; kind = omega arith; partition = f.0; level = f.1; slot = f.2 }

-- the step that an accepted turn takes is possible, so that it lacks no dummy
possible-sends : (s : State) (x : Step) → possible s x ≡ true → x ≡ no_dummy → ⊥
unfolding possible
possible-sends s x e z = true≢false (sym e ∙ ap (possible s) z)

module _ (s : Session) (m tape host t : List ℕ) (f : Served s tape) (left : t ≡ drop (s.taken * 2) tape) (long : length m ≡ memory_room) (b : List ℕ) (size : length b ≡ s.client.shape.b) (r : Answer) (m' b' : List ℕ)
    (k : Meets s.client (state_of s.client m) turn m t b r m' b') where
  abbrev st : State
  st = state_of s.client m

  abbrev asks : Call
  asks = call turn memory_room (drop s.taken (words_of tape)) (length b)

  shaped : st.shape ≡ shape_of s.client.shape
  unfolding state_of view
  shaped = refl

  size_is : st.shape.B ≡ length b
  unfolding state_of view
  size_is = sym size

  pub turn-shape : shape_of r.client.shape ≡ shape_of s.client.shape
  turn-shape = shape_same s m tape host t f left long s.client st turn b r m' b' k shaped (unfold opens in refl)

  pub turn-taken : s.taken + r.taken ≤ length (words_of tape)
  turn-taken = taken-le s m tape host t f left long s.client st turn b r m' b' k (λ n bs. refl)

  -- it is refused
  pub turns-no : (r.number ≡ 0 → ⊥) → (p : Printed) → p.session ≡ s → (out out' : List ℕ) (at : ℕ) → Written out at (number_text r.number) out' p.at → Answers s turns m tape host out at p m' host out'
  unfolding gives turned
  turns-no n p e out out' at w =
      subst (λ x. Gives (turned (kept s m tape host) (step st (call turn memory_room (drop s.taken (words_of tape)) x))) tape out at p m' host out') (sym size_is)
      (call-no s m tape host t f left long s.client st turn b r m' b' k _ n p e out out' at w)

  -- it is accepted
  module _ (z : r.number ≡ 0) where
    yes : number st asks ≡ 0
    yes = sym (step-number st asks) ∙ sym (number_is s m tape host t f left long s.client st turn b r m' b' k) ∙ z

    command-is : command_of r ≡ (step st asks).1.command
    command-is = k.command ∙ ap (λ y. (step st y).1.command) (made-is s m tape host t f left long s.client st turn b r m' b' k)

    ready-now : ready st memory_room ≡ true
    unfolding questions
    ready-now = (accepted-passed st asks yes).0

    -- the command's slot
    pub turn-sent : Sent (shape_of s.client.shape) (command_of r)
    unfolding accepted sent_command questions state_of view
    turn-sent =
        let q = accepted-passed st asks yes in
        let g = given-in st memory_room ready-now in
        let d = sent-in st g (decide st) (decide-in st g) q.1.1.0 (possible-sends st (decide st) q.1.1.1.1.1.0) in
        rw (command-is, step-accepted st asks yes) (rw shaped at d)

    pub turn-slot : Slot (shape_of r.client.shape) (cmd 0 r.partition r.level r.slot)
    unfolding state_of view
    turn-slot =
        let d = turn-sent in
        let w = O.bounds (shape_of s.client.shape) (given-in st memory_room ready-now).shape in
        rw turn-shape (record { partition = d.partition; level = d.level; slot = d.slot; serves = f.serves; partitions = w.0; levels = w.1; block = w.2 })

    -- a write's bytes are in the buffer
    pub turn-bytes : r.kind ≡ write → b' ≡ (step st asks).1.bytes
    unfolding accepted handed written sent_command
    turn-bytes e = k.buffer ∙ ap (λ y. handed_to b (step st y).1.bytes) (made-is s m tape host t f left long s.client st turn b r m' b' k) ∙ filled b (step st asks).1.bytes (sym (full ∙ size_is))
      where
        kind-is : eqb (command (decide st)).kind write ≡ true
        kind-is = eq-eqb (command (decide st)).kind write (sym (ap (λ (x : Command). x.kind) (command-is ∙ ap (λ (x : State × Outcome). x.1.command) (step-accepted st asks yes))) ∙ e)

        full : length (step st asks).1.bytes ≡ st.shape.B
        full = rw (step-accepted st asks yes, kind-is) (written-length st (state-whole s.client m (omega (arith, ready-long st memory_room ready-now, long))) (numbers_of (draws (bounds st turn) asks.words)) _)

    -- what is kept, with the host's bytes, after the completion
    module _ (long' : length m' ≡ memory_room) (c : Client) (m'' host' : List ℕ) (x : Completes r m' host b' c m'' host') where
      abbrev pub last : Session
      last = record { client = c; taken = s.taken + r.taken }

      abbrev mid : S.Session
      mid = kept (record { client = r.client; taken = s.taken + r.taken }) m' tape host

      completed-is : kept last m'' tape host' ≡ completed mid (step st asks).1
      unfolding completed stored state_of view
      completed-is = λ i. record { state = state-is i; words = drop (s.taken + r.taken) (words_of tape); host = host-is i }
        where
          o : Outcome
          o = (step st asks).1

          state-is : state_of c m'' ≡ (step mid.state (call (completion (step st asks).1.command (brought mid.state.shape (step st asks).1.command host)) memory_room [] 0)).0
          state-is = x.state ∙ (λ i. (step mid.state (call (completion (command-is i) (brought mid.state.shape (command-is i) host)) (long' i) [] 0)).0)

          host-is : host' ≡ (if eqb (step st asks).1.command.kind write then replaced (start mid.state.shape (step st asks).1.command) host (step st asks).1.bytes else host)
          host-is = x.stored ∙ go (eqb r.kind write) refl ∙ (λ i. if eqb (command-is i).kind write then replaced (start mid.state.shape (command-is i)) host (step st asks).1.bytes else host)
            where
              go : (u : Bool) → eqb r.kind write ≡ u
                  → (if u then replaced (start (shape_of r.client.shape) (command_of r)) host b' else host) ≡ (if u then replaced (start (shape_of r.client.shape) (command_of r)) host (step st asks).1.bytes else host)
              go true e = ap (replaced (start (shape_of r.client.shape) (command_of r)) host) (turn-bytes (eqb-true r.kind write e))
              go false e = refl

      last-shape : shape_of c.shape ≡ shape_of s.client.shape
      unfolding state_of view opens
      last-shape = ap (λ (y : State). y.shape) x.state ∙ step-shape (state_of r.client m') _ refl ∙ turn-shape

      pub turns-yes : (p : Printed) → p.session ≡ last → (out out' : List ℕ) (at : ℕ) → Written out at (command_text (command_of r)) out' p.at → Answers s turns m tape host out at p m'' host' out'
      unfolding gives turned answered
      turns-yes p e out out' at w =
          subst (λ n. Gives (turned (kept s m tape host) (step st (call turn memory_room (drop s.taken (words_of tape)) n))) tape out at p m'' host' out') (sym size_is)
          (rw (eq-eqb (step st asks).1.number 0 (step-number st asks ∙ yes)) (record {
            session = ap (λ y. kept y m'' tape host') e ∙ completed-is ∙ ap (λ y. completed y (step st asks).1) (went-is s m tape host t f left long s.client st turn b r m' b' k (λ n bs. refl));
            text = same_text (ap command_text command-is) w;
            served = rw e (record { serves = ap S.serves last-shape ∙ f.serves; block = omega (arith, ap (λ (y : Shape). y.B) last-shape, f.block); taken = turn-taken });
            room = omega (arith, w.place, command-le (command_of r));
          }))

-- ---- The collect

-- it takes no words, so that it may be lent any
collect-words : (c : Client) (st : State) (m t b : List ℕ) (r : Answer) (m' b' : List ℕ) → Meets c st collect m [] b r m' b' → Meets c st collect m t b r m' b'
unfolding step number questions accepted bounds draws
collect-words c st m t b r m' b' k = record { number = k.number; taken = k.taken; command = k.command; found = k.found; state = k.state; idle = k.idle; buffer = k.buffer; refused = k.refused; tail = k.tail }

module _ (s : Session) (m tape : List ℕ) (f : Served s tape) (long : length m ≡ memory_room) (b : List ℕ) (size : length b ≡ s.client.shape.b) (r : Answer) (m' b' : List ℕ)
    (plain : Meets s.client (state_of s.client m) collect m [] b r m' b') where
  abbrev k : Meets s.client (state_of s.client m) collect m (drop (s.taken * 2) tape) b r m' b'
  k = collect-words s.client (state_of s.client m) m (drop (s.taken * 2) tape) b r m' b' plain

  abbrev from : State
  from = state_of s.client m

  abbrev wants : Call
  wants = call collect memory_room (drop s.taken (words_of tape)) (length b)

  same_shape : from.shape ≡ shape_of s.client.shape
  unfolding state_of view
  same_shape = refl

  same_size : from.shape.B ≡ length b
  unfolding state_of view
  same_size = sym size

  pub collect-taken : s.taken + r.taken ≤ length (words_of tape)
  collect-taken = taken-le s m tape [] (drop (s.taken * 2) tape) f refl long s.client from collect b r m' b' k (λ n bs. refl)

  pub collects-no : (r.number ≡ 0 → ⊥) → (p : Printed) → p.session ≡ s → (out out' : List ℕ) (at : ℕ) → Written out at (number_text r.number) out' p.at → AnswersApart s collects m tape out at p m' out'
  unfolding gives collected
  collects-no n p e out out' at w host =
      subst (λ x. Gives (collected (kept s m tape host) (step from (call collect memory_room (drop s.taken (words_of tape)) x))) tape out at p m' host out') (sym same_size)
      (call-no s m tape host (drop (s.taken * 2) tape) f refl long s.client from collect b r m' b' k _ n p e out out' at w)

  collect-bytes : r.number ≡ 0 → b' ≡ (step from wants).1.bytes
  unfolding accepted handed questions
  collect-bytes z = k.buffer ∙ ap (λ y. handed_to b (step from y).1.bytes) is ∙ filled b (step from wants).1.bytes (sym (full ∙ same_size))
    where
      is : call_of collect m (drop (s.taken * 2) tape) b ≡ wants
      is = made-is s m tape [] (drop (s.taken * 2) tape) f refl long s.client from collect b r m' b' k

      yes : number from wants ≡ 0
      yes = sym (step-number from wants) ∙ sym (number_is s m tape [] (drop (s.taken * 2) tape) f refl long s.client from collect b r m' b' k) ∙ z

      full : length (step from wants).1.bytes ≡ from.shape.B
      full =
          let q = accepted-passed from wants yes in
          rw (step-accepted from wants yes) (answer-length from (state-whole s.client m (omega (arith, ready-long from memory_room q.0, long))) from.request q.1.0)

  pub collects-yes : r.number ≡ 0 → length b' ≡ length b → (p : Printed) → p.session ≡ record { client = r.client; taken = s.taken + r.taken } → (out out' : List ℕ) (at : ℕ) → Written out at (contents_text b') out' p.at
      → AnswersApart s collects m tape out at p m' out'
  unfolding gives collected
  collects-yes z l p e out out' at w host =
      subst (λ x. Gives (collected (kept s m tape host) (step from (call collect memory_room (drop s.taken (words_of tape)) x))) tape out at p m' host out') (sym same_size)
      (call-yes s m tape host (drop (s.taken * 2) tape) f refl long s.client from collect b r m' b' k (λ n bs. refl) z
      (served-later s m tape host (drop (s.taken * 2) tape) f refl long s.client from collect b r m' b' k (λ n bs. refl) same_shape (unfold opens in refl))
      (contents_text (step from wants).1.bytes) (contents-le (step from wants).1.bytes (omega (arith, ap length (collect-bytes z), l, size, f.block)))
      p e out out' at (same_text (ap contents_text (collect-bytes z)) w))
