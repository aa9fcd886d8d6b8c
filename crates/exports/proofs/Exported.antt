-- A call that meets the rules, handed back as bytes, meets its exported call's contract.
use Rattle.std.specs.Prelude.{◌≡◌, refl, Result, Ok, Err, IfOk, Bool, true, false, List, [], ℕ, ◌*◌, ◌%◌, ◌≤◌, length, take, replicate, if◌then◌else◌}
use Rattle.std.proofs.Math.Path.{ap, sym}
use Rattle.std.proofs.Common.{◌∙◌, subst, length-take, take_all}
use native.Mathlib.Omega.{arith}
use Rattle.std.proofs.Math.Decide.{ℕ_discrete}
use Rattle.std.proofs.Math.Seq.{take-length}
use Rattle.rules.specs.Shape.{within}
use Rattle.rules.specs.State.{State, Command, found_number, closed}
use Rattle.rules.specs.Draws.{draws}
use Rattle.rules.specs.Form.Loading.{loads}
use Rattle.rules.specs.Form.Sums.{summed}
use Rattle.rules.specs.Questions.{Ask, opening, request, turn, completion, collect, save, load, Call, bounds, number}
use Rattle.rules.specs.Run.{Outcome, act, accepted, refused, sent_command, handed_found, taken_of, numbers_of}
use Rattle.rules.proofs.Laws.Shapes.{act-shape}
use Rattle.rules.specs.Laws.Answers.{opens}
use Rattle.rules.proofs.Laws.Answers.{number-le, step-number, step-accepted, refused-outcome, accepted-passed}
use Rattle.rules.proofs.Laws.Drawn.{taken-lent}
use Rattle.rules.specs.Laws.Range.{InRange}
use Rattle.rules.proofs.Laws.Kept.{accepted-in}
use Rattle.memory.specs.Words.{word_at}
use Rattle.memory.specs.Fits.{shape_of}
use Rattle.memory.specs.declared.Shape as M
use Rattle.client.specs.declared.Client.{Client}
use Rattle.client.specs.declared.Request.{Request}
use Rattle.client.specs.Moves.{no_request}
use Rattle.client.specs.View.{state_of, view}
use Rattle.tape.specs.Tape.{words_of, length-words}
use Rattle.contract.specs.declared.Accepted.{Accepted}
use Rattle.contract.specs.declared.Refusal.{Refusal}
use Rattle.contract.specs.Answers.{Answer, accepted_as, answered, answered_length, cleared_client}
use Rattle.contract.specs.Meets.{Meets, call_of, command_of, reported, reported-none, unasked}
use Rattle.codec.specs.Codec.{state_length, client_of, reshaped, low_shape, low_client, with_rest, rest-is, stored_is, Between, between-rest, between-shape, Small, packed, unpacked, answer_of}
use Rattle.exports.specs.Idle.{Idle, rest-idle}
use Rattle.exports.specs.Small.{SmallCommand, accepted-small, accepted-found, low-shape, low-client}
use Rattle.exports.specs.Exported.{Exported, HandedBack, HandedBackOpened, Reports, Started, client_in, looked_at, most_words, unlent}

-- what holds of an accepted call's answer
pub of-accepted : (P : Answer → Type 0) (c : Client) (r : Result Accepted Refusal) → ((answered c r).number ≡ 0 → P (answered c r)) → IfOk r (λ a. P (accepted_as a))
of-accepted P c (Ok a) f = f refl
of-accepted P c (Err e) f = tt

-- a save's answer: its client and its length
pub saved-client : (c : Client) (r : Result ℕ Refusal) → (answered_length c r).client ≡ c
saved-client c (Ok n) = refl
saved-client c (Err e) = refl

pub saved-short : (c : Client) (r : Result ℕ Refusal) → IfOk r (λ n. n ≤ most_words) → (answered_length c r).taken ≤ most_words
saved-short c (Ok n) k = k
saved-short c (Err e) k = omega arith

-- a tape that is not longer is looked at whole
pub looked-whole : (tape : List ℕ) → length tape ≤ most_words * 2 → take (length tape) tape ≡ looked_at tape
looked-whole tape l = take-length tape ∙ sym (take_all (most_words * 2) tape l)

looked-short : (tape : List ℕ) → length (words_of (looked_at tape)) ≤ most_words
looked-short tape = omega (arith, length-words (looked_at tape), length-take (most_words * 2) tape)

reports-few : (a : Ask) (r : Answer) (n : ℕ) (bs : List ℕ) → Reports a r → r.taken ≡ reported a n bs → n ≤ most_words → r.taken ≤ most_words
reports-few (opening h) r n bs q e l = omega arith
reports-few (request k b cs) r n bs q e l = omega arith
reports-few turn r n bs q e l = omega arith
reports-few (completion c cs) r n bs q e l = omega arith
reports-few collect r n bs q e l = omega arith
reports-few save r n bs q e l = q
reports-few (load form) r n bs q e l = omega arith

module _ (s : State) (a : Ask) (m tape b : List ℕ) (r : Answer) (q : Reports a r) where
  pub small-accepted : (bs : List ℕ) → number s (call_of a m (looked_at tape) b) ≡ 0 → r.number ≡ 0 → r.taken ≡ reported a (taken_of (draws (bounds s a) (words_of (looked_at tape)))) bs → command_of r ≡ sent_command s a → r.found ≡ found_number (handed_found s a) → Small r
  small-accepted bs e z t o y =
      let ws = words_of (looked_at tape) in
      let p = accepted-passed s (call_of a m (looked_at tape) b) e in
      let d : SmallCommand (command_of r) = rw o (accepted-small s a (length m) ws (length b) p) in
      let g = accepted-found s a (length m) ws (length b) p in
      record { number = omega arith; taken = omega (arith, reports-few a r (taken_of (draws (bounds s a) ws)) bs q t (omega (arith, taken-lent (bounds s a) ws, looked-short tape))); kind = d.kind; partition = d.partition; level = d.level; slot = d.slot; found = omega arith }

-- ---- From a call's contract to the exported one's

module _ (c : Client) (s : State) (a : Ask) (m tape b : List ℕ) (r : Answer) (m' b' : List ℕ) (k : Meets c s a m (looked_at tape) b r m' b') (q : Reports a r) where
  abbrev made : Call
  made = call_of a m (looked_at tape) b

  is_number : r.number ≡ number s made
  is_number = k.number ∙ step-number s made

  -- a refusal's answer is small
  refused-small : (r.number ≡ 0 → ⊥) → Small r
  unfolding refused found_number
  refused-small n =
      let e = refused-outcome s made (λ z. n (is_number ∙ z)) in
      let o = k.command ∙ ap (λ (x : Outcome). x.command) e in
      let z : (r.kind ≡ 0) × (r.partition ≡ 0) × (r.level ≡ 0) × (r.slot ≡ 0) = (ap (λ (x : Command). x.kind) o, ap (λ (x : Command). x.partition) o, ap (λ (x : Command). x.level) o, ap (λ (x : Command). x.slot) o) in
      let w : r.taken ≡ 0 = k.taken ∙ ap (λ (x : Outcome). reported a x.taken x.bytes) e ∙ reported-none a in
      let y : r.found ≡ 0 = k.found ∙ ap (λ (x : Outcome). found_number x.found) e in
      record { number = omega (arith, is_number, number-le s made); taken = omega arith; kind = omega arith; partition = omega arith; level = omega arith; slot = omega arith; found = omega arith }

  -- an accepted call's too
  accepted-fits : r.number ≡ 0 → Small r
  unfolding accepted
  accepted-fits z =
      let e : number s made ≡ 0 = sym is_number ∙ z in
      let d = step-accepted s made e in
      small-accepted s a m tape b r q _ e z (k.taken ∙ ap (λ (x : State × Outcome). reported a x.1.taken x.1.bytes) d) (k.command ∙ ap (λ (x : State × Outcome). x.1.command) d) (k.found ∙ ap (λ (x : State × Outcome). found_number x.1.found) d)

  pub meets-small : Small r
  meets-small = elim (ℕ_discrete r.number 0) [ yes z ↦ accepted-fits z | no n ↦ refused-small n ]

  -- an accepted call leaves a state in range
  left_in : r.number ≡ 0 → InRange (state_of r.client m')
  unfolding accepted
  left_in z =
      let e : number s made ≡ 0 = sym is_number ∙ z in
      let w : state_of r.client m' ≡ act s a (numbers_of (draws (bounds s a) (words_of (looked_at tape)))) = k.state ∙ ap (λ (x : State × Outcome). x.0) (step-accepted s made e) in
      rw w (accepted-in s a (length m) (words_of (looked_at tape)) (length b) (accepted-passed s made e))

  -- the same answer with another client that stands for the same state
  repacked : (x : Client) → state_of x m' ≡ state_of r.client m' → (r.number ≡ 0 → Idle a c.request x) → ((r.number ≡ 0 → ⊥) → x ≡ c)
      → Meets c s a m (looked_at tape) b (answer_of (packed r) x) m' b'
  repacked x e i n = rw (unpacked r meets-small x) (record {
    number = k.number;
    taken = k.taken;
    command = k.command;
    found = k.found;
    state = e ∙ k.state;
    idle = i;
    buffer = k.buffer;
    refused = λ z. ((k.refused z).0, n z);
    tail = rw e k.tail;
  })

  pub meets-refused : (r.number ≡ 0 → ⊥) → Meets c s a m (looked_at tape) b (answer_of (packed r) c) m' b'
  meets-refused n = repacked c (ap (λ x. state_of x m') (sym (k.refused n).1)) (λ z. absurd (n z)) (λ z. refl)

  pub meets-accepted : r.number ≡ 0 → (x : Client) → state_of x m' ≡ state_of r.client m' → Idle a c.request x → Meets c s a m (looked_at tape) b (answer_of (packed r) x) m' b'
  meets-accepted z x e i = repacked x e (λ _. i) (λ n. absurd (n z))

  -- numbers modulo 2^16 stand for the same state
  pub left-low : r.number ≡ 0 → state_of (low_client r.client) m' ≡ state_of r.client m'
  left-low z = low-client r.client m' (left_in z)

  -- a call that does not open keeps the shape
  pub shape-kept : r.number ≡ 0 → opens a ≡ false → shape_of r.client.shape ≡ s.shape
  unfolding accepted state_of view
  shape-kept z four =
      let e : number s made ≡ 0 = sym is_number ∙ z in
      ap (λ (x : State). x.shape) (k.state ∙ ap (λ (x : State × Outcome). x.0) (step-accepted s made e)) ∙ act-shape s a (numbers_of (draws (bounds s a) (words_of (looked_at tape)))) four

  pub left-within : r.number ≡ 0 → within (shape_of r.client.shape) ≡ true
  left-within z = unfold state_of view in (left_in z).shape

  pub number-packed : packed r % 32 ≡ r.number
  number-packed = let w = meets-small in omega arith

pub shape_same : (g h : M.Shape) → shape_of g ≡ shape_of h → g ≡ h
shape_same g h e = λ k. record { n = (e k).N; p = (e k).P; l = (e k).L; b = (e k).B; e = (e k).E; w = (e k).W }

-- a call that meets the rules, handed back
module _ (a : Ask) (four : opens a ≡ false) (st m tape b : List ℕ) (r : Answer) (u : ℕ) (st' m' b' : List ℕ) (l : length st ≡ state_length) (k : Meets (client_in st) (state_of (client_in st) m) a m (looked_at tape) b r m' b') (q : Reports a r) where
  abbrev s : State
  s = state_of (client_in st) m

  handed : (stored : (ℕ → ℕ) → ℕ → ℕ) → HandedBack stored r u st st' → Between (word_at st) (stored (word_at st)) → (r.number ≡ 0 → state_of (client_of (stored (word_at st))) m' ≡ state_of r.client m')
      → (r.number ≡ 0 → Idle a (client_in st).request (client_of (stored (word_at st)))) → Exported a st m tape b u st' m' b'
  handed stored h between same idle = record {
    meets = λ _. rw h.answer (go (ℕ_discrete r.number 0));
    refused = λ n. h.refused (λ z. n (rw h.answer (number-packed (client_in st) s a m tape b r m' b' k q ∙ z)));
    between = kept (ℕ_discrete r.number 0);
    other = λ n. absurd (n l);
  }
    where
      kept : Dec (r.number ≡ 0) → Between (word_at st) (word_at st')
      kept (yes z) = rw (h.accepted z) between
      kept (no n) = rw (h.refused n) (λ k. refl)

      go : Dec (r.number ≡ 0) → Meets (client_in st) s a m (looked_at tape) b (answer_of (packed r) (client_in st')) m' b'
      go (yes z) = meets-accepted (client_in st) s a m tape b r m' b' k q z (client_in st') (ap (λ x. state_of (client_of x) m') (h.accepted z) ∙ same z) (subst (λ x. Idle a (client_in st).request (client_of x)) (sym (h.accepted z)) (idle z))
      go (no n) = rw (h.refused n) (meets-refused (client_in st) s a m tape b r m' b' k q n)

  -- the shape is still that of the bytes
  shape-low : r.number ≡ 0 → (client_in st).shape ≡ low_shape r.client.shape
  shape-low z =
      sym (shape_same r.client.shape (client_in st).shape (unfold state_of view in shape-kept (client_in st) s a m tape b r m' b' k q z four))
      ∙ sym (low-shape r.client.shape (left-within (client_in st) s a m tape b r m' b' k q z))

  pub exported : HandedBack (with_rest r.client) r u st st' → Exported a st m tape b u st' m' b'
  exported h = handed (with_rest r.client) h (between-rest r.client (word_at st) (word_at st) (λ k. refl)) (λ z.
      ap (λ x. state_of x m') (rest-is r.client (word_at st) ∙ ap (λ x. reshaped x (low_client r.client)) (shape-low z)) ∙ left-low (client_in st) s a m tape b r m' b' k q z)
      (λ z. subst (Idle a (client_in st).request) (sym (rest-is r.client (word_at st))) (rest-idle st a r.client m' (left-low (client_in st) s a m tape b r m' b' k q z) (k.idle z)))

-- the state is only read
pub exported-read : (a : Ask) → opens a ≡ false → (st m tape b : List ℕ) (r : Answer) (u : ℕ) (m' b' : List ℕ) → length st ≡ state_length → Meets (client_in st) (state_of (client_in st) m) a m (looked_at tape) b r m' b' → Reports a r
    → r.client ≡ client_in st → u ≡ packed r → Exported a st m tape b u st m' b'
exported-read a four st m tape b r u m' b' l k q e p = handed a four st m tape b r u st m' b' l k q (λ w. w) (record { answer = p; accepted = λ z. refl; refused = λ n. refl }) (λ i. refl)
    (λ z. ap (λ x. state_of x m') (sym e)) (λ z. subst (Idle a (client_in st).request) e (k.idle z))

-- with a state of another length each of these calls answers 2 at once
pub exported-length : {a : Ask} {st m tape b : List ℕ} → (length st ≡ state_length → ⊥) → Exported a st m tape b 2 st m b
exported-length n = record { meets = λ l. absurd (n l); refused = λ _. refl; between = λ k. refl; other = λ _. (refl, refl, refl, refl) }

-- zeros say the closed state
pub zeros-say : client_in (replicate state_length 0) ≡ cleared_client
unfolding word_at
zeros-say = refl

-- an open or a load, which leave zeros where the numbers of a request are
module _ (a : Ask) (none : (x : Request) → unasked a x ≡ no_request) (st m tape : List ℕ) (r : Answer) (u : ℕ) (st' m' : List ℕ) (l : length st ≡ state_length)
    (k : Meets cleared_client closed a m (looked_at tape) [] r m' []) (q : Reports a r) (b : HandedBackOpened r u st st') where
  met : Dec (r.number ≡ 0) → Meets cleared_client closed a m (looked_at tape) [] (answer_of (packed r) (client_in st')) m' []
  met (yes z) =
      let low = left-low cleared_client closed a m tape [] r m' [] k q z in
      let is : client_in st' ≡ low_client r.client = ap client_of (b.accepted z) ∙ stored_is r.client (word_at st) in
      let idle = rest-idle st a r.client m' low (λ i. k.idle z i ∙ none cleared_client.request ∙ sym (none (client_in st).request)) in
      meets-accepted cleared_client closed a m tape [] r m' [] k q z (client_in st') (ap (λ x. state_of x m') is ∙ low)
      (subst (Idle a cleared_client.request) (sym is) (λ i. idle i ∙ none (client_in st).request ∙ sym (none cleared_client.request)))
  met (no n) = rw (b.refused n, l, zeros-say) (meets-refused cleared_client closed a m tape [] r m' [] k q n)

  pub exported-start : Started a st m tape u st' m'
  exported-start =
      let e = number-packed cleared_client closed a m tape [] r m' [] k q in
      record {
        meets = λ _. rw b.answer (met (ℕ_discrete r.number 0));
        refused = λ n. b.refused (λ z. n (rw b.answer (e ∙ z)));
        between = λ z. rw (b.accepted (sym e ∙ sym (ap (λ x. x % 32) b.answer) ∙ z)) (between-rest r.client (word_at st) _ (between-shape r.client.shape (word_at st)));
        other = λ n. absurd (n l);
      }

-- with a state of another length it is refused
unlent-no : (a : Ask) → unlent a % 32 ≡ 0 → ⊥
unlent-no (opening h) z = go (within h) z
  where
    go : (t : Bool) → (if t then 2 else 1) % 32 ≡ 0 → ⊥
    go true z = omega arith
    go false z = omega arith
unlent-no (request k b bs) z = omega arith
unlent-no turn z = omega arith
unlent-no (completion c bs) z = omega arith
unlent-no collect z = omega arith
unlent-no save z = omega arith
unlent-no (load form) z = go (summed form) (loads form) z
  where
    go : (t v : Bool) → (if t then (if v then 2 else 18) else 17) % 32 ≡ 0 → ⊥
    go true true z = omega arith
    go true false z = omega arith
    go false v z = omega arith

pub start-length : (a : Ask) (st m tape : List ℕ) (u : ℕ) (st' : List ℕ) → (length st ≡ state_length → ⊥) → (u ≡ unlent a) × (st' ≡ replicate (length st) 0) → Started a st m tape u st' m
start-length a st m tape u st' n w = record {
  meets = λ l. absurd (n l);
  refused = λ _. w.1;
  between = λ z. absurd (unlent-no a (ap (λ x. x % 32) (sym w.0) ∙ z));
  other = λ _. (w.0, refl);
}
