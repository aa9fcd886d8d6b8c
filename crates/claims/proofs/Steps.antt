-- One exported call is the rules' step, from the state that the whole memory stands for to the one that it stands for after the call.
use Rattle.std.specs.Prelude.{◌≡◌, Bool, true, false, ℕ, ◌%◌, ◌≤◌, ◌<◌, length, replicate}
use Rattle.std.proofs.Math.Path.{refl, ap}
use Rattle.std.proofs.Common.{sym, ◌∙◌, true≢false, arith, leb-true}
use mathlib.Core.List.{List, [], ◌++◌}
use Rattle.std.proofs.Math.Decide.{ℕ_discrete, dec_lt}
use Rattle.std.proofs.lemmas.Bool.{lt-leb}
use Rattle.rules.specs.Draws.{draws}
use Rattle.rules.specs.Form.Loading.{loaded_form}
use Rattle.rules.specs.Laws.Answers.{opens}
use Rattle.rules.proofs.Laws.Answers.{accepted-passed, step-accepted, step-number, step-refused, refused-keeps, refused-outcome}
use Rattle.rules.proofs.Laws.Shapes.{act-shape}
use Rattle.rules.specs.Memory.{needed}
use Rattle.rules.specs.Open.{fresh}
use Rattle.rules.specs.Questions.{Ask, opening, request, turn, completion, collect, save, load, Call, ready, questions, first_no, bounds, number}
use Rattle.rules.specs.Run.{Outcome, perform, act, step, accepted, refused, refuse, taken_of, numbers_of, sent_command, handed, handed_found}
use Rattle.rules.specs.State.{State, closed}
use Rattle.client.specs.declared.Client.{Client}
use Rattle.client.specs.View.{state_of, view, found_as}
use Rattle.client.specs.Readings.{as_number}
use Rattle.contract.specs.Answers.{Answer, cleared_client}
use Rattle.contract.specs.Meets.{Meets, call_of, command_of, reported, closed_is}
use Rattle.rules.proofs.Laws.Lengths.{Whole}
use Rattle.contract.specs.Buffers.{state-whole, ready_of, ready-long}
use Rattle.codec.specs.Codec.{answer_of, state_length}
use Rattle.exports.specs.Exported.{looked_at, client_in, Exported}
use Rattle.exports.proofs.Exported.{zeros-say}
use Rattle.claims.specs.Claim.{Made, Contract, Handed, call_made, hands_out, takes, outcome_of}
use Rattle.claims.proofs.Memory.{state-lent}
use Rattle.claims.proofs.HandedOut.{hands_out_lem}

-- ---- "Lent too little of that memory, it replies 2"

unready-two : (s : State) (c : Call) → opens c.ask ≡ false → ready s c.memory ≡ false → number s c ≡ 2
unfolding number
unready-two s c o e = go c.ask o
  where
    go : (a : Ask) → opens a ≡ false → first_no (questions s a c.memory c.words c.buffer) ≡ 2
    go (opening h) o = absurd (true≢false (unfold opens in o))
    go (request k b bs) o = unfold questions first_no in (rw e)
    go turn o = unfold questions first_no in (rw e)
    go (completion d bs) o = unfold questions first_no in (rw e)
    go collect o = unfold questions first_no in (rw e)
    go save o = unfold questions first_no in (rw e)
    go (load form) o = absurd (true≢false (unfold opens in o))

short-unready : (s : State) (m : ℕ) → m < needed s.shape → ready s m ≡ false
unfolding ready
short-unready s m l = rw (lt-leb (needed s.shape) m l)

-- ---- What is read off an answer

abbrev read_off : Ask → Answer → List ℕ → Outcome
read_off a r b' = record { number = r.number; taken = takes a r.taken; command = command_of r; bytes = hands_out a r.number r.taken r.kind b'; found = found_as r.found }

-- a save takes no word
takes-reported : (s : State) (c : Call) → takes c.ask (reported c.ask (step s c).1.taken (step s c).1.bytes) ≡ (step s c).1.taken
takes-reported s c = go c.ask refl
  where
    none : Dec (number s c ≡ 0) → c.ask ≡ save → (step s c).1.taken ≡ 0
    none (yes z) e = ap (λ (x : State × Outcome). x.1.taken) (step-accepted s c z) ∙ (unfold accepted in (ap (λ a. taken_of (draws (bounds s a) c.words)) e ∙ unfold bounds draws taken_of in refl))
    none (no n) e = ap (λ (x : Outcome). x.taken) (refused-outcome s c n) ∙ unfold refused in refl

    go : (a : Ask) → c.ask ≡ a → takes a (reported a (step s c).1.taken (step s c).1.bytes) ≡ (step s c).1.taken
    go (opening h) e = refl
    go (request k b bs) e = refl
    go turn e = refl
    go (completion d bs) e = refl
    go collect e = refl
    go save e = sym (none (ℕ_discrete (number s c) 0) e)
    go (load form) e = refl

meets-outcome : (c : Client) (s : State) (a : Ask) (m tape b : List ℕ) (r : Answer) (m' b' : List ℕ) → (number s (call_of a m tape b) ≡ 0 → Whole s) → Meets c s a m tape b r m' b'
    → read_off a r b' ≡ (step s (call_of a m tape b)).1
meets-outcome c s a m tape b r m' b' w k = λ i. record { number = k.number i; taken = taken i; command = k.command i; bytes = bytes i; found = found i }
  where
    o : Outcome
    o = (step s (call_of a m tape b)).1

    found : found_as r.found ≡ o.found
    found = ap found_as k.found ∙ as_number o.found

    taken : takes a r.taken ≡ o.taken
    taken = ap (takes a) k.taken ∙ takes-reported s (call_of a m tape b)

    bytes : hands_out a r.number r.taken r.kind b' ≡ o.bytes
    bytes = (λ i. hands_out a (k.number i) (k.taken i) (k.command i).kind (k.buffer i)) ∙ hands_out_lem s (call_of a m tape b) w b refl

-- ---- A request, turn, completion, collect or save

module _ (a : Ask) (four : opens a ≡ false) (st m tape b : List ℕ) (u : ℕ) (st' m' b' rest : List ℕ) (l : length st ≡ state_length) (same : length m' ≡ length m) (k : Exported a st m tape b u st' m' b') where
  abbrev asked : Call
  asked = call_of a m (looked_at tape) b

  -- the state that the bytes lent stand for, and that of the whole memory
  abbrev lent : State
  lent = state_of (client_in st) m

  abbrev whole : State
  whole = state_of (client_in st) (m ++ rest)

  answers : u % 32 ≡ number lent asked
  answers = (k.meets l).number ∙ step-number lent asked

  lent-outcome : read_off a (answer_of u (client_in st')) b' ≡ (step lent asked).1
  lent-outcome = meets-outcome (client_in st) lent a m (looked_at tape) b (answer_of u (client_in st')) m' b' full (k.meets l)
    where
      full : number lent asked ≡ 0 → Whole lent
      full z = state-whole (client_in st) m (ready-long lent (length m) (ready_of lent a (length m) _ (length b) four (accepted-passed lent asked z)))

  -- after a refusal
  refused-state : (u % 32 ≡ 0 → ⊥) → (number whole asked ≡ 0 → ⊥) → state_of (client_in st') (m' ++ rest) ≡ (step whole asked).0
  refused-state z n = rw (k.refused z, ((k.meets l).refused z).0) (sym (refused-keeps whole asked four n))

  -- lent what the shape needs
  module _ (long : needed lent.shape ≤ length m) where
    lent_is : lent ≡ whole
    lent_is = sym (state-lent (client_in st) m rest long)

    kept-shape : u % 32 ≡ 0 → (state_of (client_in st') m').shape ≡ lent.shape
    unfolding accepted
    kept-shape z = ap (λ (s : State). s.shape) (k.meets l).state
        ∙ ap (λ (x : State × Outcome). x.0.shape) (step-accepted lent asked (sym answers ∙ z))
        ∙ act-shape lent a (numbers_of (draws (bounds lent a) asked.words)) four

    accepted-state : u % 32 ≡ 0 → state_of (client_in st') (m' ++ rest) ≡ (step whole asked).0
    accepted-state z =
        let e : needed (state_of (client_in st') m').shape ≤ length m' = omega (arith, ap needed (kept-shape z)) in
        state-lent (client_in st') m' rest e ∙ (k.meets l).state ∙ ap (λ s. (step s asked).0) lent_is

    long-step : (read_off a (answer_of u (client_in st')) b' ≡ (step whole asked).1) × (state_of (client_in st') (m' ++ rest) ≡ (step whole asked).0)
    long-step = (lent-outcome ∙ ap (λ s. (step s asked).1) lent_is, go (ℕ_discrete (u % 32) 0))
      where
        go : Dec (u % 32 ≡ 0) → state_of (client_in st') (m' ++ rest) ≡ (step whole asked).0
        go (yes z) = accepted-state z
        go (no z) = refused-state z (λ n. z (answers ∙ ap (λ s. number s asked) lent_is ∙ n))

  -- lent less
  module _ (short : length m < needed lent.shape) where
    lent_two : number lent asked ≡ 2
    lent_two = unready-two lent asked four (short-unready lent (length m) short)

    whole-two : number whole asked ≡ 2
    unfolding state_of view
    whole-two = unready-two whole asked four (short-unready whole (length m) short)

    not_none : (n : ℕ) → n ≡ 2 → n ≡ 0 → ⊥
    not_none n e z = omega arith

    short-step : (read_off a (answer_of u (client_in st')) b' ≡ (step whole asked).1) × (state_of (client_in st') (m' ++ rest) ≡ (step whole asked).0)
    short-step = (
      lent-outcome ∙ refused-outcome lent asked (not_none _ lent_two) ∙ ap refused (lent_two ∙ sym whole-two) ∙ sym (refused-outcome whole asked (not_none _ whole-two)),
      refused-state (not_none _ (answers ∙ lent_two)) (not_none _ whole-two),
    )

  exported-step : (read_off a (answer_of u (client_in st')) b' ≡ (step whole asked).1) × (state_of (client_in st') (m' ++ rest) ≡ (step whole asked).0)
  exported-step = go (dec_lt (length m) (needed lent.shape))
    where
      go : Dec (length m < needed lent.shape) → (read_off a (answer_of u (client_in st')) b' ≡ (step whole asked).1) × (state_of (client_in st') (m' ++ rest) ≡ (step whole asked).0)
      go (yes n) = short-step n
      go (no n) = long-step (omega arith)

-- ---- An open, or a load

-- it looks neither at the state nor at a buffer
first_alone : (s : State) (a : Ask) → opens a ≡ true → (m tape b : List ℕ) → step s (call_of a m tape b) ≡ step closed (call_of a m tape [])
unfolding step number questions bounds accepted perform act refuse sent_command handed handed_found opens
first_alone s (opening h) o m tape b = refl
first_alone s (request k c bs) o m tape b = absurd (true≢false (sym o))
first_alone s turn o m tape b = absurd (true≢false (sym o))
first_alone s (completion d bs) o m tape b = absurd (true≢false (sym o))
first_alone s collect o m tape b = absurd (true≢false (sym o))
first_alone s save o m tape b = absurd (true≢false (sym o))
first_alone s (load form) o m tape b = refl

-- accepted, it was lent what the shape that it leaves needs
first-long : (a : Ask) → opens a ≡ true → (m tape : List ℕ) → number closed (call_of a m tape []) ≡ 0 → needed (step closed (call_of a m tape [])).0.shape ≤ length m
unfolding opens questions
first-long (opening h) o m tape z = rw (step-accepted closed (call_of (opening h) m tape []) z) (unfold accepted act perform fresh in (leb-true (needed h) (length m) (accepted-passed closed (call_of (opening h) m tape []) z).1.0))
first-long (request k c bs) o m tape z = absurd (true≢false (sym o))
first-long turn o m tape z = absurd (true≢false (sym o))
first-long (completion d bs) o m tape z = absurd (true≢false (sym o))
first-long collect o m tape z = absurd (true≢false (sym o))
first-long save o m tape z = absurd (true≢false (sym o))
first-long (load form) o m tape z = rw (step-accepted closed (call_of (load form) m tape []) z)
    (unfold accepted act perform in (leb-true (needed (loaded_form form).shape) (length m) (accepted-passed closed (call_of (load form) m tape []) z).1.1.0))

first-refused : (a : Ask) → opens a ≡ true → refuse closed a ≡ closed
unfolding opens refuse
first-refused (opening h) o = refl
first-refused (request k c bs) o = absurd (true≢false (sym o))
first-refused turn o = absurd (true≢false (sym o))
first-refused (completion d bs) o = absurd (true≢false (sym o))
first-refused collect o = absurd (true≢false (sym o))
first-refused save o = absurd (true≢false (sym o))
first-refused (load form) o = refl

module _ (a : Ask) (o : opens a ≡ true) (st m tape : List ℕ) (u : ℕ) (st' m' rest : List ℕ) (l : length st ≡ state_length) (same : length m' ≡ length m)
    (k : Meets cleared_client closed a m tape [] (answer_of u (client_in st')) m' []) (zeros : (u % 32 ≡ 0 → ⊥) → st' ≡ replicate (length st) 0) where
  abbrev firstly : Call
  firstly = call_of a m tape []

  says : u % 32 ≡ number closed firstly
  says = k.number ∙ step-number closed firstly

  first-outcome : read_off a (answer_of u (client_in st')) [] ≡ (step closed firstly).1
  first-outcome = meets-outcome cleared_client closed a m tape [] (answer_of u (client_in st')) m' [] (λ z b. unfold closed in refl) k

  first-state : Dec (u % 32 ≡ 0) → state_of (client_in st') (m' ++ rest) ≡ (step closed firstly).0
  first-state (yes z) =
      let e : needed (state_of (client_in st') m').shape ≤ length m' = omega (arith, ap (λ (s : State). needed s.shape) k.state, first-long a o m tape (sym says ∙ z)) in
      state-lent (client_in st') m' rest e ∙ k.state
  first-state (no z) = rw (zeros z, l, zeros-say) (closed_is (m' ++ rest) ∙ sym (ap (λ (x : State × Outcome). x.0) (step-refused closed firstly (λ n. z (says ∙ n))) ∙ first-refused a o))

-- ---- Every call

-- from the state s to what the bytes after the call stand for
abbrev Steps : State → List ℕ → Ask → Made → Type 0
Steps s rest a x = (read_off a (answer_of x.answer (client_in x.state')) x.buffer' ≡ (step s (call_of a x.memory (looked_at x.tape) x.buffer)).1)
    × (state_of (client_in x.state') (x.memory' ++ rest) ≡ (step s (call_of a x.memory (looked_at x.tape) x.buffer)).0)

module _ (x : Made) (rest : List ℕ) (l : length x.state ≡ state_length) (same : length x.memory' ≡ length x.memory) where
  abbrev before : State
  before = state_of (client_in x.state) (x.memory ++ rest)

  first-steps : (a : Ask) → opens a ≡ true → (tape : List ℕ) → step closed (call_of a x.memory (looked_at x.tape) []) ≡ step closed (call_of a x.memory tape [])
      → ((b : List ℕ) → read_off a (answer_of x.answer (client_in x.state')) b ≡ read_off a (answer_of x.answer (client_in x.state')) [])
      → Meets cleared_client closed a x.memory tape [] (answer_of x.answer (client_in x.state')) x.memory' [] → ((x.answer % 32 ≡ 0 → ⊥) → x.state' ≡ replicate (length x.state) 0)
      → Steps before rest a x
  first-steps a o tape d f k z =
      let e = first_alone before a o x.memory (looked_at x.tape) x.buffer ∙ d in (
        f x.buffer' ∙ first-outcome a o x.state x.memory tape x.answer x.state' x.memory' rest l same k z ∙ sym (ap (λ (y : State × Outcome). y.1) e),
        first-state a o x.state x.memory tape x.answer x.state' x.memory' rest l same k z (ℕ_discrete (x.answer % 32) 0) ∙ sym (ap (λ (y : State × Outcome). y.0) e),
      )

  four-steps : (a : Ask) → opens a ≡ false → Exported a x.state x.memory x.tape x.buffer x.answer x.state' x.memory' x.buffer' → Steps before rest a x
  four-steps a o c = exported-step a o x.state x.memory x.tape x.buffer x.answer x.state' x.memory' x.buffer' rest l same c

  -- a load takes no word
  load-wordless : (form tape : List ℕ) → step closed (call_of (load form) x.memory tape []) ≡ step closed (call_of (load form) x.memory [] [])
  unfolding step number questions bounds draws accepted refuse handed sent_command handed_found
  load-wordless form tape = refl

  every-steps : (a : Ask) → Contract a x → Steps before rest a x
  unfolding opens hands_out
  every-steps (opening h) c = first-steps (opening h) refl (looked_at x.tape) refl (λ b. refl) (c.meets l) c.refused
  every-steps save c = four-steps save refl c
  every-steps (load form) c = first-steps (load form) refl [] (load-wordless form (looked_at x.tape)) (λ b. refl) (c.meets l) c.refused
  every-steps (request j b bs) c = four-steps (request j b bs) refl c
  every-steps turn c = four-steps turn refl c
  every-steps (completion d bs) c = four-steps (completion d bs) refl c
  every-steps collect c = four-steps collect refl c

pub made-step : (st m rest : List ℕ) (x : Made) → Handed st m rest x
    → (outcome_of x ≡ (step (state_of (client_in st) m) (call_made x)).1) × (state_of (client_in x.state') (x.memory' ++ rest) ≡ (step (state_of (client_in st) m) (call_made x)).0)
made-step st m rest x k =
    let y = every-steps x rest k.bytes k.called.1 x.ask k.called.0 in
    let e = from (opens x.ask) refl in
    (y.0 ∙ ap (λ (z : State × Outcome). z.1) e, y.1 ∙ ap (λ (z : State × Outcome). z.0) e)
  where
    -- an open or a load looks at no state
    from : (o : Bool) → opens x.ask ≡ o → step (state_of (client_in x.state) (x.memory ++ rest)) (call_made x) ≡ step (state_of (client_in st) m) (call_made x)
    from true o = first_alone _ x.ask o x.memory (looked_at x.tape) x.buffer ∙ sym (first_alone _ x.ask o x.memory (looked_at x.tape) x.buffer)
    from false o = λ i. step (state_of (client_in (k.state o i)) (k.memory o i)) (call_made x)
