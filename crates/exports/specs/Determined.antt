-- The contract of an exported call says all of the number that it answers and every byte of state and buffer after it: two that meet it from the same
-- bytes are the same. (Of the memory it says what it stands for: docs/MEMORY.md names the bytes that are free.)
use Rattle.std.specs.Prelude.{◌≡◌, List, [], ◌++◌, ℕ, ◌+◌, ◌*◌, ◌/◌, ◌%◌, drop}
use Rattle.std.proofs.Math.Path.{ap, sym}
use Rattle.std.proofs.Common.{◌∙◌, arith}
use Rattle.std.proofs.Math.Option.{get_or}
use Rattle.std.proofs.Math.Decide.{ℕ_discrete}
use Rattle.std.proofs.Math.ListN.{length}
use Rattle.rules.specs.State as R
use Rattle.rules.specs.State.{State, Command, closed}
use Rattle.rules.specs.Questions.{Ask}
use Rattle.memory.specs.Words.{word_at}
use Rattle.memory.specs.Fits.{shape_of}
use Rattle.client.specs.declared.Client.{Client}
use Rattle.client.specs.declared.Request.{Request}
use Rattle.client.specs.View.{state_of, view}
use Rattle.client.specs.Rows.{length-rows}
use Rattle.client.specs.Readings.{jobs-count, waiting-count, hand_of, hand-none, hand-some, same-found}
use Rattle.contract.specs.Answers.{cleared_client}
use Rattle.contract.specs.Meets.{Meets, command_of}
use Rattle.report.specs.Page.{page}
use Rattle.codec.specs.Codec.{state_length, Between, answer_of}
use Rattle.exports.specs.Exported.{looked_at, client_in, Exported, Started}
use Rattle.exports.specs.Idle.{Idle, none-kind}
use Rattle.exports.specs.Paged.{Paged, told}

-- ---- The client

-- a client is given by the state that it stands for and, while no request is in hand, by what is left of one
module _ (c d : Client) (m n : List ℕ) (e : state_of c m ≡ state_of d n) where
  same_out : c.out ≡ d.out
  unfolding state_of view
  same_out = sym (length-rows _ c.out) ∙ ap (λ (s : State). length s.outstanding) e ∙ length-rows _ d.out

  same_numbers : (shape_of c.shape ≡ shape_of d.shape) × (c.cursor ≡ d.cursor) × (c.sent ≡ d.sent) × (c.begun ≡ d.begun)
  unfolding state_of view
  same_numbers = (ap (λ (s : State). s.shape) e, ap (λ (s : State). s.cursor) e, ap (λ (s : State). s.sent) e, ap (λ (s : State). s.begun) e)

  same-hand : (c.request.kind ≡ 0 → ⊥) → (d.request.kind ≡ 0 → ⊥) → c.request ≡ d.request
  same-hand x y =
      let f : hand_of c m ≡ hand_of d n = ap (λ o. get_or o (hand_of c m)) (sym (hand-some c m x) ∙ ap (λ (s : State). s.request) e ∙ hand-some d n y) in
      let g = same-found c.request.found d.request.found (ap (λ (r : R.Request). r.found) f) in
      λ i. record { kind = (f i).kind; block = (f i).block; next = (f i).next; evict = (f i).evict; level = (f i).level; found = g i; awaits = (f i).awaits }

  same-request : (a : Ask) (r : Request) → Idle a r c → Idle a r d → c.request ≡ d.request
  same-request a r i j = go (ℕ_discrete c.request.kind 0)
    where
      go : Dec (c.request.kind ≡ 0) → c.request ≡ d.request
      go (yes z) = i z ∙ sym (j (none-kind d n (ap (λ (s : State). s.request) (sym e) ∙ hand-none c m z)))
      go (no x) = same-hand x (λ z. x (none-kind c m (ap (λ (s : State). s.request) e ∙ hand-none d n z)))

  same-client : (a : Ask) (r : Request) → Idle a r c → Idle a r d → c ≡ d
  same-client a r i j =
      let s = same_numbers in
      let q = same-request a r i j in
      let jobs = sym (jobs-count c m) ∙ ap (λ (s : State). length s.queue) e ∙ jobs-count d n in
      let waiting = sym (waiting-count c m) ∙ ap (λ (s : State). length s.waiting) e ∙ waiting-count d n in
      let out = same_out in
      λ k. record {
        shape = record { n = (s.0 k).N; p = (s.0 k).P; l = (s.0 k).L; b = (s.0 k).B; e = (s.0 k).E; w = (s.0 k).W };
        request = q k;
        jobs = jobs k;
        begun = s.3 k;
        cursor = s.1 k;
        sent = s.2 k;
        waiting = waiting k;
        out = out k;
      }

-- ---- The answer

-- a number is given by what is read off it: the parts above a place are given by those above the next
module _ (u v : ℕ) where
  same-high : u / 268435456 % 16 ≡ v / 268435456 % 16 → u / 4294967296 ≡ v / 4294967296 → u / 268435456 ≡ v / 268435456
  same-high a b = omega arith

  same-slot : u / 131072 % 2048 ≡ v / 131072 % 2048 → u / 268435456 ≡ v / 268435456 → u / 131072 ≡ v / 131072
  same-slot a b = omega arith

  same-level : u / 8192 % 16 ≡ v / 8192 % 16 → u / 131072 ≡ v / 131072 → u / 8192 ≡ v / 8192
  same-level a b = omega arith

  same-partition : u / 128 % 64 ≡ v / 128 % 64 → u / 8192 ≡ v / 8192 → u / 128 ≡ v / 128
  same-partition a b = omega arith

  same_kind : u / 32 % 4 ≡ v / 32 % 4 → u / 128 ≡ v / 128 → u / 32 ≡ v / 32
  same_kind a b = omega arith

  same_number : u % 32 ≡ v % 32 → u / 32 ≡ v / 32 → u ≡ v
  same_number a b = omega arith

  -- number, words or length, command, and where a block was found are all of it
  same_parts : (x y : Client) → (answer_of u x).number ≡ (answer_of v y).number → (answer_of u x).taken ≡ (answer_of v y).taken → command_of (answer_of u x) ≡ command_of (answer_of v y)
      → (answer_of u x).found ≡ (answer_of v y).found → u ≡ v
  same_parts x y n t o p =
      let high = same-slot (ap (λ (z : Command). z.slot) o) (same-high p t) in
      let low = same-partition (ap (λ (z : Command). z.partition) o) (same-level (ap (λ (z : Command). z.level) o) high) in
      same_number n (same_kind (ap (λ (z : Command). z.kind) o) low)

module _ (c : Client) (s : State) (a : Ask) (m tape b : List ℕ) (u v : ℕ) (x y : Client) (m' n' b' d' : List ℕ)
    (k : Meets c s a m tape b (answer_of u x) m' b') (l : Meets c s a m tape b (answer_of v y) n' d') where
  same_answer : u ≡ v
  same_answer = same_parts u v x y (k.number ∙ sym l.number) (k.taken ∙ sym l.taken) (k.command ∙ sym l.command) (k.found ∙ sym l.found)

  -- a refused call hands back c
  same_left : x ≡ y
  same_left = go (ℕ_discrete (u % 32) 0)
    where
      go : Dec (u % 32 ≡ 0) → x ≡ y
      go (yes z) = same-client x y m' n' (k.state ∙ sym l.state) a c.request (k.idle z) (l.idle (rw same_answer at z))
      go (no n) = (k.refused n).1 ∙ sym (l.refused (λ z. n (rw same_answer z))).1

-- ---- The bytes of the state: the client that they say, and the words between its numbers

abbrev pub SameState : List ℕ → List ℕ → Type 0
SameState st st' = (client_in st ≡ client_in st') × Between (word_at st) (word_at st')

-- A request, turn, completion, collect or save: every byte of the buffer too
pub determined : (a : Ask) (st m tape b : List ℕ) (u v : ℕ) (st' st'' m' m'' b' b'' : List ℕ) → length st ≡ state_length
    → Exported a st m tape b u st' m' b' → Exported a st m tape b v st'' m'' b'' → (u ≡ v) × SameState st' st'' × (b' ≡ b'')
determined a st m tape b u v st' st'' m' m'' b' b'' l x y =
    let c = client_in st in
    let s = state_of c m in (
      same_answer c s a m (looked_at tape) b u v (client_in st') (client_in st'') m' m'' b' b'' (x.meets l) (y.meets l),
      (same_left c s a m (looked_at tape) b u v (client_in st') (client_in st'') m' m'' b' b'' (x.meets l) (y.meets l), (λ k. y.between k ∙ sym (x.between k))),
      (x.meets l).buffer ∙ sym (y.meets l).buffer,
    )

-- An open or a load
pub determined-start : (a : Ask) (st m tape : List ℕ) (u v : ℕ) (st' st'' m' m'' : List ℕ) → length st ≡ state_length
    → Started a st m tape u st' m' → Started a st m tape v st'' m'' → (u ≡ v) × SameState st' st''
determined-start a st m tape u v st' st'' m' m'' l x y = (answer, go (ℕ_discrete (u % 32) 0))
  where
    answer : u ≡ v
    answer = same_answer cleared_client closed a m (looked_at tape) [] u v (client_in st') (client_in st'') m' m'' [] [] (x.meets l) (y.meets l)

    go : Dec (u % 32 ≡ 0) → SameState st' st''
    go (yes z) = (
      same_left cleared_client closed a m (looked_at tape) [] u v (client_in st') (client_in st'') m' m'' [] [] (x.meets l) (y.meets l),
      (λ k. y.between (rw answer at z) k ∙ sym (x.between z k)),
    )
    go (no n) = let e = x.refused n ∙ sym (y.refused (λ z. n (rw answer z))) in (ap client_in e, (λ k. ap (λ s. word_at s (k * 2 + 1)) (sym e)))

-- A page: the answer, and every byte of the buffer
module _ (st m b : List ℕ) (u v : ℕ) (b' b'' : List ℕ) (x : Paged st m b u b') (y : Paged st m b v b'') where
  same-page-number : length st ≡ state_length → u % 32 ≡ v % 32
  same-page-number l = (x.shows l).asked ∙ sym (y.shows l).asked

  same-page : (l : length st ≡ state_length) → Dec (u % 32 ≡ 0) → ((told u).taken ≡ (told v).taken) × (b' ≡ b'')
  same-page l (yes z) =
      let p = (x.shows l).accepted z in
      let q = (y.shows l).accepted (sym (same-page-number l) ∙ z) in
      let size = p.0 ∙ sym q.0 in
      (size, p.1 ∙ ap (λ n. page (state_of (client_in st) m) ++ drop n b) size ∙ sym q.1)
  same-page l (no n) =
      let p = (x.shows l).refused n in
      let q = (y.shows l).refused (λ z. n (same-page-number l ∙ z)) in
      (p.0 ∙ sym q.0, p.1 ∙ sym q.1)

  pub determined-page : (u ≡ v) × (b' ≡ b'')
  determined-page = go (ℕ_discrete (length st) state_length)
    where
      go : Dec (length st ≡ state_length) → (u ≡ v) × (b' ≡ b'')
      go (yes l) = let w = same-page l (ℕ_discrete (u % 32) 0) in (same_parts u v cleared_client cleared_client (same-page-number l) w.0 (x.command ∙ sym y.command) (x.found ∙ sym y.found), w.1)
      go (no n) = ((x.other n).0 ∙ sym (y.other n).0, (x.other n).1 ∙ sym (y.other n).1)
