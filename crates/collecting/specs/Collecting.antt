-- Collect: the request in hand, and the state that each part of the call leaves.
use Rattle.std.specs.Prelude.{◌≡◌, false, not, ◌&&◌, List, [], ◌∷◌, ◌++◌, length, replicate, take, eqb, if◌then◌else◌}
use Rattle.std.proofs.Math.Path.{refl, ap, sym}
use Rattle.std.proofs.Common.{◌∙◌, subst, append_assoc, pow_pos}
use Rattle.std.proofs.Math.Bool.{true, true≢false}
use Rattle.std.proofs.Math.Option.{Option, none, some, get_or}
use Prim.Native.Nat.{ℕ, zero, suc, ◌+◌, ◌-◌, ◌*◌, ◌≤◌, ◌<◌}
use native.Mathlib.Omega.{arith}
use borrow.Author.Tests.{ne_eqb, le-ltb, eqb-true}
use Rattle.lists.specs.Search.{any, member, keep, count}
use Rattle.lists.specs.Tables.{put}
use Rattle.rules.specs.Shape.{Shape, slots, cell}
use Rattle.rules.specs.State as R
use Rattle.rules.specs.State.{State, Command, write, nowhere, found_nowhere, found_number}
use Rattle.rules.specs.Setters.{◌▷◌, set_partition, set_place, set_bytes, set_waiting, set_holds, set_queue, set_request}
use Rattle.rules.specs.Ranges.{others}
use Rattle.rules.specs.Blocks.{is_nowhere, zeros, contents}
use Rattle.rules.specs.Request.{held, release}
use Rattle.rules.specs.Reader.{costs, levels_left}
use Rattle.rules.specs.Collect.{finished, emptied, finish, collected, answer, carried}
use Rattle.rules.specs.Questions.{collect, Call, in_hand, questions, number}
use Rattle.rules.proofs.Laws.Answers.{accepted-passed}
use Rattle.rules.specs.Laws.Waiting.{Waits}
use Rattle.memory.specs.Tables.{Tables, tables_of, with_blocks, with_holds, with_place, with_partition}
use Rattle.memory.specs.Fits.{shape_of}
use Rattle.client.specs.declared.Client.{Client}
use Rattle.client.specs.View.{state_of, view, found_by, request_of, place_of, level_of}
use Rattle.client.specs.Readings.{hand_of, hand-none, hand-some, hand-held, number-as}
use Rattle.client.specs.Changes.{view-bytes, view-holds, view-place, view-partition, place-nowhere, level-le, nowhere-is}
use Rattle.client.specs.Ready.{Asked}
use Rattle.client.specs.Moves.{no_request, with_request, with_waiting, with_jobs, Room, Stands, stands, then as next}
use Rattle.tape.specs.Tape.{words_of}
use Rattle.contract.specs.Buffers.{filled}
use Rattle.contract.specs.Meets.{handed_to}
use Rattle.ready.specs.Usable.{Usable, usable}

-- a held request is not finished
pub unfinished-held : (s : State) (r : R.Request) → held r ≡ true → finished s r ≡ false
unfolding finished
unfinished-held s r h = rw h

-- the call, by the length of its buffer
abbrev pub call_with : List ℕ → ℕ → Call
call_with m len = record { ask = collect; memory = length m; words = words_of []; buffer = len }

-- what the code goes by with a request in hand
pub record Hand (c : Client) (m : List ℕ) : Type 0 where
  pub room : Room c m
  pub asked : Asked (shape_of c.shape) c.request
  pub jobs : c.jobs ≤ 62
  pub out : c.out ≤ 32
  pub waiting : c.waiting ≤ c.shape.n
  pub fewer : length (others (state_of c m).waiting c.request.block) < c.shape.n

few : (e : ℕ) (xs : List ℕ) (r : R.Request) (o : Option R.Request) → o ≡ some r → Waits e xs o → length (others xs r.block) < e
few e xs r o q w = let y : Waits e xs (some r) = subst (Waits e xs) q w in y.1

module _ (c : Client) (m : List ℕ) where
  -- the questions about it
  pub asked-none : c.request.kind ≡ 0 → in_hand (λ r. true) (state_of c m).request ≡ false
  unfolding in_hand
  asked-none e = ap (in_hand (λ r. true)) (hand-none c m e)

  pub asked-some : (c.request.kind ≡ 0 → ⊥) → in_hand (λ r. true) (state_of c m).request ≡ true
  unfolding in_hand
  asked-some n = ap (in_hand (λ r. true)) (hand-some c m n)

  pub asked-finished : (c.request.kind ≡ 0 → ⊥) → in_hand (finished (state_of c m)) (state_of c m).request ≡ finished (state_of c m) (hand_of c m)
  unfolding in_hand
  asked-finished n = ap (in_hand (finished (state_of c m))) (hand-some c m n)

  pub hand : Usable c m → (c.request.kind ≡ 0 → ⊥) → Hand c m
  unfolding state_of view
  hand u n =
      let a = u.asked n in
      let f = few c.shape.e (state_of c m).waiting (hand_of c m) (state_of c m).request (hand-some c m n) u.range.cache in
      record {
        room = u.room;
        asked = a.0;
        jobs = a.1;
        out = omega (arith, u.counts.out, u.window);
        waiting = omega (arith, u.counts.waiting, u.places);
        fewer = omega (arith, f, u.places);
      }

  pub hand-kept : (m' : List ℕ) → Hand c m → length m' ≡ length m → (state_of c m').waiting ≡ (state_of c m).waiting → Hand c m'
  hand-kept m' f l w = record {
    room = rw l f.room;
    asked = f.asked;
    jobs = f.jobs;
    out = f.out;
    waiting = f.waiting;
    fewer = rw w f.fewer;
  }

  pub size_is : (state_of c m).shape.B ≡ c.shape.b
  unfolding state_of view
  size_is = refl

  -- where the number is 0, all answers are yes
  pub record Passed (len : ℕ) : Type 0 where
    pub some : c.request.kind ≡ 0 → ⊥
    pub free : c.request.found ≡ 0 → ⊥
    pub hand : Hand c m
    pub size : len ≡ c.shape.b

  pub collect-passed : (len : ℕ) → number (state_of c m) (call_with m len) ≡ 0 → Passed len
  unfolding questions
  collect-passed len e =
      let y = accepted-passed (state_of c m) (call_with m len) e in
      let some : c.request.kind ≡ 0 → ⊥ = λ z. true≢false (sym y.1.0 ∙ asked-none z) in
      let done : finished (state_of c m) (hand_of c m) ≡ true = sym (asked-finished some) ∙ y.1.1.0 in
      record { some = some; free = λ z. true≢false (sym done ∙ unfinished-held (state_of c m) (hand_of c m) (hand-held c m z)); hand = hand (usable c m y.0) some; size = eqb-true len (state_of c m).shape.B y.1.1.1.0 ∙ size_is }

  -- what the accepted call leaves and hands out
  pub collected-is : (c.request.kind ≡ 0 → ⊥) → release (collected (state_of c m).request (state_of c m)) ≡ finish (hand_of c m) (state_of c m)
  unfolding collected finish
  collected-is n = ap (λ o. release (collected o (state_of c m))) (hand-some c m n)

  pub found-is : (c.request.kind ≡ 0 → ⊥) → (c.request.found ≡ 0 → ⊥) → c.request.found - 1 ≡ found_number (carried (state_of c m).request)
  unfolding carried found_by
  found-is n f = go c.request.found f ∙ sym (ap (λ o. found_number (carried o)) (hand-some c m n))
    where
      go : (x : ℕ) → (x ≡ 0 → ⊥) → x - 1 ≡ found_number (get_or (found_by x) found_nowhere)
      go zero f = absurd (f refl)
      go (suc x) f = let e : suc x - 1 ≡ x = omega arith in e ∙ sym (number-as x)

  pub answer-is : (xs ys : List ℕ) → (c.request.kind ≡ 0 → ⊥) → ys ≡ contents (state_of c m) c.request.block → length xs ≡ length ys → ys ≡ handed_to xs (answer (state_of c m) (state_of c m).request)
  unfolding answer
  answer-is xs ys n e l = sym (filled xs ys l) ∙ ap (handed_to xs) (e ∙ sym (ap (answer (state_of c m)) (hand-some c m n)))

-- ---- Whether it is finished

-- more than there are is all
pub take_long : (k : ℕ) (xs : List Command) → length xs ≤ k → take k xs ≡ xs
take_long zero [] l = refl
take_long zero (x ∷ xs) l = absurd (omega arith)
take_long (suc k) [] l = refl
take_long (suc k) (x ∷ xs) l = ap (λ r. x ∷ r) (take_long k xs (omega arith))

module _ (s : State) (r : R.Request) (p : ℕ) (e : s.partition r.block ≡ p) (h : held r ≡ false) where
  abbrev levels : List ℕ
  levels = keep (costs s p) (count r.level (s.shape.L - r.level))

  left_is : levels_left s r ≡ levels
  unfolding levels_left
  left_is = ap (λ q. keep (costs s q) (count r.level (s.shape.L - r.level))) e

  pub unfinished-reads : (ℓ : ℕ) (ls : List ℕ) → levels ≡ ℓ ∷ ls → finished s r ≡ false
  unfolding finished
  unfinished-reads ℓ ls f = rw (h, left_is, f, ne_eqb (suc (length ls)) 0 (λ z. omega arith))

  pub finished-sent : levels ≡ [] → finished s r ≡ not (any (λ (c : Command). eqb c.partition p) (take r.awaits s.outstanding))
  unfolding finished
  finished-sent f = rw (h, left_is, f, e)

-- ---- What is handed out

module _ (s : State) (b : ℕ) where
  pub contents-zeros : (is_nowhere (s.place b) && not (member b s.waiting)) ≡ true → contents s b ≡ replicate s.shape.B 0
  unfolding contents zeros
  contents-zeros e = rw e

  pub contents-bytes : (is_nowhere (s.place b) && not (member b s.waiting)) ≡ false → contents s b ≡ s.bytes b
  unfolding contents
  contents-bytes e = rw e

-- ---- The states that the parts of the call leave

abbrev pub new_bytes : R.Request → List ℕ → State → State
new_bytes r bs s = set_bytes (put r.block (if eqb r.kind write then r.bytes else bs) s.bytes) s

abbrev pub empty_slot : ℕ → ℕ → State → State
empty_slot b p s = set_holds (emptied (cell s.shape p) (s.place b) s.holds) s

abbrev pub moved : ℕ → ℕ → State → State
moved b next s = s ▷ set_place (put b nowhere s.place) ▷ set_partition (put b next s.partition)

abbrev pub renewed : ℕ → State → State
renewed b s = set_waiting (others s.waiting b ++ (b ∷ [])) s

abbrev pub queued : ℕ → ℕ → State → State
queued p evict s = s ▷ set_queue (s.queue ++ (p ∷ evict ∷ [])) ▷ set_request none

pub record Settled (c : Client) (m₀ m : List ℕ) (r : Client) : Type 0 where
  pub client : r ≡ with_waiting (length (others (state_of c m₀).waiting c.request.block) + 1) c
  pub stands : Stands r m₀ m (renewed c.request.block (moved c.request.block c.request.next (state_of c m₀)))

pub record Queued (c : Client) (m₀ m : List ℕ) (p evict : ℕ) (r : Client) : Type 0 where
  pub shape : r.shape ≡ c.shape
  pub request : r.request ≡ no_request
  pub stands : Stands r m₀ m (queued p evict (state_of c m₀))

pub finish-is : (r : R.Request) (s : State) (p : ℕ) (bs : List ℕ) → s.partition r.block ≡ p → bs ≡ contents s r.block
    → queued p r.evict (renewed r.block (moved r.block r.next (empty_slot r.block p (new_bytes r bs s)))) ≡ finish r s
unfolding finish
finish-is r s p bs e f = rw (f, ← e)

-- a move after another one
pub after : (f : State → State) (c c' : Client) (m₀ m m' : List ℕ) (s : State) → c'.shape ≡ c.shape → Stands c m₀ m s → Stands c' m m' (f (state_of c m)) → Stands c' m₀ m' (f s)
after f c c' m₀ m m' s e a b = next c c' m₀ m m' s (f s) e a (record { state = b.state ∙ ap f a.state; tail = b.tail })

module _ (c : Client) (m₀ m : List ℕ) where
  abbrev t : Tables
  t = tables_of (shape_of c.shape) m₀

  abbrev s : State
  s = state_of c m₀

  pub bytes-stand : (b : ℕ) (v : List ℕ) → b < c.shape.n → tables_of (shape_of c.shape) m ≡ with_blocks (put b v t.blocks) t → Stands c m₀ m (set_bytes (put b v s.bytes) s)
  unfolding state_of tables_of
  bytes-stand b v l e = stands c m₀ m _ _ e refl (view-bytes c t b v l)

  pub moved-stand : (b next : ℕ) (m₁ : List ℕ) → next < c.shape.p → tables_of (shape_of c.shape) m₁ ≡ with_place (put b 0 t.place) t
      → tables_of (shape_of c.shape) m ≡ with_partition (put b next (tables_of (shape_of c.shape) m₁).partition) (tables_of (shape_of c.shape) m₁) → Stands c m₀ m (moved b next s)
  unfolding state_of tables_of
  moved-stand b next m₁ l e f =
      let u : Tables = with_place (put b 0 t.place) t in
      stands c m₀ m (with_partition (put b next u.partition) u) _ (f ∙ ap (λ (x : Tables). with_partition (put b next x.partition) x) e) refl
      (view-partition c u b next l ∙ ap (λ (x : State). set_partition (put b next x.partition) x) (view-place c t b 0 (pow_pos (c.shape.l + 1)) ∙ ap (λ y. set_place (put b y s.place) s) (place-nowhere c.shape.l)))

-- a slot's number is its level's and the slot
emptied-at : (h : Shape) (p x : ℕ) (f : ℕ → ℕ) → 2 ≤ x → emptied (cell h p) (place_of h.L x) f ≡ put (p * slots h.L + x) 0 f
unfolding emptied place_of cell
emptied-at h p x f l =
    let e : p * slots h.L + slots (level_of h.L x) + (x - slots (level_of h.L x)) ≡ p * slots h.L + x = omega (arith, level-le h.L x l) in
    rw (le-ltb x 2 l, e)

module _ (c : Client) (m₀ m : List ℕ) (b p x : ℕ) (e : (state_of c m₀).place b ≡ place_of c.shape.l x) where
  pub slot-none : x < 2 → Stands c m₀ m₀ (empty_slot b p (state_of c m₀))
  unfolding emptied
  slot-none l = record { state = sym (ap (λ y. set_holds (emptied (cell (state_of c m₀).shape p) y (state_of c m₀).holds) (state_of c m₀)) (e ∙ nowhere-is c.shape.l x l)); tail = refl }

  pub slot-some : 2 ≤ x → tables_of (shape_of c.shape) m ≡ with_holds (put (p * slots c.shape.l + x) 0 (tables_of (shape_of c.shape) m₀).holds) (tables_of (shape_of c.shape) m₀)
      → Stands c m₀ m (empty_slot b p (state_of c m₀))
  unfolding state_of view tables_of
  slot-some l f = stands c m₀ m _ _ f refl
      (view-holds c (tables_of (shape_of c.shape) m₀) (p * slots c.shape.l + x) 0 (omega arith)
      ∙ sym (ap (λ g. set_holds g (state_of c m₀)) (ap (λ y. emptied (cell (shape_of c.shape) p) y (state_of c m₀).holds) e ∙ emptied-at (shape_of c.shape) p x (state_of c m₀).holds l)))

pub settled : (c r : Client) (m₀ m₁ m : List ℕ) → Stands c m₀ m₁ (moved c.request.block c.request.next (state_of c m₀))
    → r ≡ with_waiting (length (others (state_of c m₁).waiting c.request.block) + 1) c → Stands r m₁ m (renewed c.request.block (state_of c m₁)) → Settled c m₀ m r
settled c r m₀ m₁ m a e f = record {
  client = e ∙ ap (λ (s : State). with_waiting (length (others s.waiting c.request.block) + 1) c) a.state;
  stands = after (renewed c.request.block) c r m₀ m₁ m _ (ap (λ (x : Client). x.shape) e) a f;
}

pub queued-stand : (c d e : Client) (m₀ m₁ m : List ℕ) (p evict : ℕ) → d ≡ with_jobs (c.jobs + 1) c → Stands d m₀ m₁ (set_queue ((state_of c m₀).queue ++ (p ∷ [])) (state_of c m₀))
    → e ≡ with_jobs (d.jobs + 1) d → Stands e m₁ m (set_queue ((state_of d m₁).queue ++ (evict ∷ [])) (state_of d m₁)) → Queued c m₀ m p evict (with_request no_request e)
unfolding state_of view request_of
queued-stand c d e m₀ m₁ m p evict x a y b =
    let s = state_of c m₀ in
    let z : e.shape ≡ d.shape = ap (λ (k : Client). k.shape) y in
    let both = after (λ (s : State). set_queue (s.queue ++ (evict ∷ [])) s) d e m₀ m₁ m _ z a b in
    record {
      shape = z ∙ ap (λ (k : Client). k.shape) x;
      request = refl;
      stands = record {
        state = ap (set_request none) (both.state ∙ ap (λ q. set_queue q s) (append_assoc s.queue (p ∷ []) (evict ∷ [])));
        tail = both.tail;
      };
    }
