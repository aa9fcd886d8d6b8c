-- What each call's contract says: its number, words and command, where a block was found, the next state, and every lent byte after it are
-- those of the rules.
use Rattle.std.specs.Prelude.{◌≡◌, refl, List, [], ◌++◌, ℕ, ◌+◌, length, drop}
use Rattle.std.proofs.Common.{ap, sym, ◌∙◌, arith, le-ltb}
use Rattle.std.proofs.Math.Path.{fun_ext}
use Rattle.std.proofs.Math.Option.{none}
use Rattle.lists.specs.Search.{below, count}
use Rattle.rules.specs.Shape.{slots}
use Rattle.rules.specs.State.{State, Command, cmd, closed, Place, nowhere, found_number}
use Rattle.rules.specs.Draws.{draws}
use Rattle.rules.specs.Memory.{needed}
use Rattle.rules.specs.Questions.{Ask, opening, request, turn, completion, collect, save, load, Call, bounds, number}
use Rattle.rules.specs.Run.{Outcome, step, act, refuse, refused, accepted, sent_command, handed, handed_found, taken_of, numbers_of}
use Rattle.rules.proofs.Laws.Answers.{step-refused, step-accepted}
use Rattle.memory.specs.Words.{window, window-past}
use Rattle.memory.specs.Blocks.{block_table}
use Rattle.memory.specs.Tables.{tables_of, order_at, mark_at, holds_at}
use Rattle.memory.specs.Fits.{fit, fit-lt, fit-zero}
use Rattle.client.specs.declared.Client.{Client}
use Rattle.client.specs.declared.Request.{Request}
use Rattle.client.specs.View.{state_of, view, rows, request_of, bytes_in, place_of, level_at}
use Rattle.client.specs.Changes.{place-nowhere}
use Rattle.client.specs.Moves.{no_request}
use Rattle.tape.specs.Tape.{words_of}
use Rattle.contract.specs.Answers.{Answer, refused_with, cleared_client}

-- the call that is made: what is asked, with these bytes lent
abbrev pub call_of : Ask → List ℕ → List ℕ → List ℕ → Call
call_of a m tape buffer = record { ask = a; memory = length m; words = words_of tape; buffer = length buffer }

-- bytes that are handed out stand at the start of the buffer; what is behind them stays as it was
abbrev pub handed_to : List ℕ → List ℕ → List ℕ
handed_to buffer bs = bs ++ drop (length bs) buffer

-- what an answer reports where words are counted: of a save "the form's length (0 if refused)", of any other call the words taken
abbrev pub reported : Ask → ℕ → List ℕ → ℕ
reported (opening h) n bs = n
reported (request k b cs) n bs = n
reported turn n bs = n
reported (completion c cs) n bs = n
reported collect n bs = n
reported save n bs = length bs
reported (load form) n bs = n

-- a refusal reports nothing
pub reported-none : (a : Ask) → reported a 0 [] ≡ 0
reported-none (opening h) = refl
reported-none (request k b bs) = refl
reported-none turn = refl
reported-none (completion c bs) = refl
reported-none collect = refl
reported-none save = refl
reported-none (load form) = refl

abbrev pub command_of : Answer → Command
command_of r = cmd r.kind r.partition r.level r.slot

-- The numbers of a request while none is in hand, which the state does not read: an accepted open, collect or load leaves zeros, a turn, completion
-- or save what was there. (After an accepted request one is in hand)
abbrev pub unasked : Ask → Request → Request
unasked (opening h) r = no_request
unasked (request k b bs) r = r
unasked turn r = r
unasked (completion c bs) r = r
unasked collect r = no_request
unasked save r = r
unasked (load form) r = no_request

-- The call's answer r, and the memory m' and the buffer b' after it, against the rules' step from the state s; c is the client that a refusal hands back
pub record Meets (c : Client) (s : State) (a : Ask) (m tape b : List ℕ) (r : Answer) (m' b' : List ℕ) : Type 0 where
  pub number : r.number ≡ (step s (call_of a m tape b)).1.number
  pub taken : r.taken ≡ reported a (step s (call_of a m tape b)).1.taken (step s (call_of a m tape b)).1.bytes
  pub command : command_of r ≡ (step s (call_of a m tape b)).1.command
  pub found : r.found ≡ found_number (step s (call_of a m tape b)).1.found
  pub state : state_of r.client m' ≡ (step s (call_of a m tape b)).0
  pub idle : r.number ≡ 0 → r.client.request.kind ≡ 0 → r.client.request ≡ unasked a c.request
  pub buffer : b' ≡ handed_to b (step s (call_of a m tape b)).1.bytes
  -- a refusal changes no byte of client and memory, and no call those past what the shape needs
  pub refused : (r.number ≡ 0 → ⊥) → (m' ≡ m) × (r.client ≡ c)
  pub tail : drop (needed (state_of r.client m').shape) m' ≡ drop (needed (state_of r.client m').shape) m

-- ---- How a call comes to meet them

-- it is refused
pub meets-no : (c : Client) (s : State) (a : Ask) (m tape b : List ℕ) (n : ℕ) → n ≡ number s (call_of a m tape b) → (n ≡ 0 → ⊥) → state_of c m ≡ refuse s a
    → Meets c s a m tape b (refused_with n c) m b
unfolding refused found_number
meets-no c s a m tape b n e z k =
    let r = step-refused s (call_of a m tape b) (λ x. z (e ∙ x)) in
    record {
      number = e ∙ sym (ap (λ (x : State × Outcome). x.1.number) r);
      taken = sym (ap (λ (x : State × Outcome). reported a x.1.taken x.1.bytes) r ∙ reported-none a);
      command = sym (ap (λ (x : State × Outcome). x.1.command) r);
      found = sym (ap (λ (x : State × Outcome). found_number x.1.found) r);
      state = k ∙ sym (ap (λ (x : State × Outcome). x.0) r);
      idle = λ x. absurd (z x);
      buffer = sym (ap (λ (x : State × Outcome). handed_to b x.1.bytes) r);
      refused = λ x. (refl, refl);
      tail = refl;
    }

-- it is accepted
pub record Accepts (c : Client) (s : State) (a : Ask) (m tape b : List ℕ) (r : Answer) (m' b' : List ℕ) : Type 0 where
  pub yes : number s (call_of a m tape b) ≡ 0
  pub number : r.number ≡ 0
  pub taken : r.taken ≡ reported a (taken_of (draws (bounds s a) (words_of tape))) (handed s a (act s a (numbers_of (draws (bounds s a) (words_of tape)))))
  pub command : command_of r ≡ sent_command s a
  pub found : r.found ≡ found_number (handed_found s a)
  pub idle : r.client.request.kind ≡ 0 → r.client.request ≡ unasked a c.request
  pub state : state_of r.client m' ≡ act s a (numbers_of (draws (bounds s a) (words_of tape)))
  pub buffer : b' ≡ handed_to b (handed s a (act s a (numbers_of (draws (bounds s a) (words_of tape)))))
  pub tail : drop (needed (state_of r.client m').shape) m' ≡ drop (needed (state_of r.client m').shape) m

pub meets-yes : (c : Client) (s : State) (a : Ask) (m tape b : List ℕ) (r : Answer) (m' b' : List ℕ) → Accepts c s a m tape b r m' b' → Meets c s a m tape b r m' b'
unfolding accepted
meets-yes c s a m tape b r m' b' k =
    let q = step-accepted s (call_of a m tape b) k.yes in
    record {
      number = k.number ∙ sym (ap (λ (x : State × Outcome). x.1.number) q);
      taken = k.taken ∙ sym (ap (λ (x : State × Outcome). reported a x.1.taken x.1.bytes) q);
      command = k.command ∙ sym (ap (λ (x : State × Outcome). x.1.command) q);
      found = k.found ∙ sym (ap (λ (x : State × Outcome). found_number x.1.found) q);
      state = k.state ∙ sym (ap (λ (x : State × Outcome). x.0) q);
      idle = λ _. k.idle;
      buffer = k.buffer ∙ sym (ap (λ (x : State × Outcome). handed_to b x.1.bytes) q);
      refused = λ x. absurd (x k.number);
      tail = k.tail;
    }

-- a client of zeros stands for the closed state, whatever the memory
module _ (m : List ℕ) where
  one-zero : (x : ℕ) → fit 1 x ≡ 0
  one-zero x = omega (arith, fit-lt 1 x (omega arith))

  none-zero : (bound base x : ℕ) → fit bound (window base 0 m x) ≡ 0
  none-zero bound base x = ap (fit bound) (window-past base 0 m x (omega arith)) ∙ fit-zero bound

  partition-zero : ◌≡◌ {A = ℕ → ℕ} (λ b. fit 0 (window 192 0 m b)) (λ b. 0)
  partition-zero = fun_ext (λ b. none-zero 0 192 b)

  place-zero : ◌≡◌ {A = ℕ → Place} (λ b. place_of 0 (fit (slots 0) (window (192 + 0) 0 m b))) (λ b. nowhere)
  place-zero = fun_ext (λ b. ap (place_of 0) (none-zero (slots 0) (192 + 0) b) ∙ place-nowhere 0)

  counter-zero : ◌≡◌ {A = ℕ → ℕ} (λ q. fit 1 (window 128 64 m q)) (λ q. 0)
  counter-zero = fun_ext (λ q. one-zero (window 128 64 m q))

  table-zero : (base : ℕ) (bound : ℕ → ℕ) → ◌≡◌ {A = ℕ → ℕ} (λ x. fit (bound x) (window base 0 m x)) (λ x. 0)
  table-zero base bound = fun_ext (λ x. none-zero (bound x) base x)

  bytes-zero : (f : ℕ → List ℕ) → bytes_in closed.shape f ≡ (λ b. [])
  unfolding bytes_in closed
  bytes-zero f = fun_ext (λ b. rw (le-ltb b 0 (omega arith)))

  pub closed_is : state_of cleared_client m ≡ closed
  unfolding state_of view tables_of closed rows below count request_of bytes_in
  closed_is = λ k. record {
    shape = record { N = 0; P = 0; L = 0; B = 0; E = 0; W = 0 };
    partition = partition-zero k;
    place = place-zero k;
    bytes = bytes-zero (block_table closed.shape m) k;
    waiting = [];
    counter = counter-zero k;
    order = table-zero (order_at closed.shape) (λ x. slots (level_at closed.shape x)) k;
    mark = table-zero (mark_at closed.shape) (λ x. 2) k;
    holds = table-zero (holds_at closed.shape) (λ x. 0 + 1) k;
    queue = [];
    begun = 0;
    cursor = 0;
    sent = 0;
    outstanding = [];
    request = none;
  }
