-- A turn and a completion first do what docs/RULES.md says of them, and then a request that no job holds any longer is released: what they promise between the two.
use Rattle.std.specs.Prelude.{◌≡◌, true, Result, Ok, Err, IfOk, List, ℕ, length, drop, leb}
use Rattle.std.proofs.Math.Path.{refl, ap}
use Rattle.std.proofs.Common.{sym, ◌∙◌, subst, arith, le-leb}
use Rattle.std.proofs.Math.Decide.{ℕ_discrete}
use Rattle.lists.specs.Tests.{and-true}
use Rattle.rules.specs.State.{State, found_number}
use Rattle.rules.specs.Draws.{draws}
use Rattle.rules.specs.Memory.{needed}
use Rattle.rules.specs.Request.{release}
use Rattle.rules.specs.Questions.{Ask, bounds, number, ready}
use Rattle.rules.specs.Run.{act, perform, sent_command, handed, handed_found, taken_of, numbers_of}
use Rattle.rules.specs.Laws.Range.{InRange}
use Rattle.rules.proofs.Laws.Range.{facts-range}
use Rattle.rules.proofs.Laws.Released.{handed-release}
use Rattle.memory.specs.Fits.{shape_of}
use Rattle.client.specs.declared.Client.{Client}
use Rattle.client.specs.Moves.{Room}
use Rattle.client.specs.View.{state_of}
use Rattle.tape.specs.Tape.{words_of}
use Rattle.contract.specs.declared.Accepted.{Accepted}
use Rattle.contract.specs.declared.Refusal.{Refusal}
use Rattle.contract.specs.Answers.{Answer, answered}
use Rattle.contract.specs.Meets.{Meets, meets-yes, call_of, command_of, handed_to, reported, unasked}
use Rattle.releasing.specs.Released.{Releasable, releasable, Released}

-- the same answer with another client
abbrev pub with_client : Client → Answer → Answer
with_client d r =
    record { number = r.number; taken = r.taken; kind = r.kind; partition = r.partition; level = r.level; slot = r.slot; found = r.found; client = d }

-- what an accepted call leaves; a request may be released then
pub record Performed (c : Client) (s : State) (a : Ask) (m tape b : List ℕ) (r : Answer) (m' b' : List ℕ) : Type 0 where
  pub yes : number s (call_of a m tape b) ≡ 0
  pub taken : r.taken ≡ reported a (taken_of (draws (bounds s a) (words_of tape))) (handed s a (perform s a (numbers_of (draws (bounds s a) (words_of tape)))))
  pub command : command_of r ≡ sent_command s a
  pub found : r.found ≡ found_number (handed_found s a)
  pub state : state_of r.client m' ≡ perform s a (numbers_of (draws (bounds s a) (words_of tape)))
  pub idle : r.client.request.kind ≡ 0 → r.client.request ≡ unasked a c.request
  pub buffer : b' ≡ handed_to b (handed s a (perform s a (numbers_of (draws (bounds s a) (words_of tape)))))
  pub tail : drop (needed (state_of r.client m').shape) m' ≡ drop (needed (state_of r.client m').shape) m
  pub ready : ready (state_of r.client m') (length m') ≡ true

pub record Performs (c : Client) (s : State) (a : Ask) (m tape b : List ℕ) (r : Answer) (m' b' : List ℕ) : Type 0 where
  pub refused : (r.number ≡ 0 → ⊥) → Meets c s a m tape b r m' b'
  pub accepted : r.number ≡ 0 → Performed c s a m tape b r m' b'

-- the first question is answered yes again where client and memory stand for a state in range, of the shape that c has
module _ (c d : Client) (m m' : List ℕ) (s : State) (room : Room c m) (long : length m' ≡ length m) (e : state_of d m' ≡ s) (h : s.shape ≡ shape_of c.shape) (f : InRange s) where
  enough : leb (needed (state_of d m').shape) (length m') ≡ true
  enough =
      let k : (state_of d m').shape ≡ shape_of c.shape = ap (λ (x : State). x.shape) e ∙ h in
      ap (λ x. leb (needed x) (length m')) k ∙ le-leb (needed (shape_of c.shape)) (length m') (unfold needed in (omega (arith, room.long, long)))

  pub ready-after : ready (state_of d m') (length m') ≡ true
  ready-after = unfold ready in (and-true enough (facts-range (state_of d m') (subst InRange (sym e) f)))

-- once it is released, the call meets the rules
module _ (c : Client) (s : State) (a : Ask) (m tape b : List ℕ) (r : Answer) (m' b' : List ℕ) where
  pub released-meets : Performed c s a m tape b r m' b' → r.number ≡ 0 → (d : Client) → state_of d m' ≡ release (state_of r.client m') → (d.request.kind ≡ 0 → d.request ≡ unasked a c.request)
      → Meets c s a m tape b (with_client d r) m' b'
  unfolding act
  released-meets p z d e i =
      let shape : (state_of d m').shape ≡ (state_of r.client m').shape = ap (λ (x : State). x.shape) e in
      meets-yes c s a m tape b (with_client d r) m' b' (record {
        yes = p.yes;
        number = z;
        taken = p.taken ∙ ap (reported a (taken_of (draws (bounds s a) (words_of tape)))) (sym (handed-release s a (perform s a (numbers_of (draws (bounds s a) (words_of tape))))));
        command = p.command;
        found = p.found;
        idle = i;
        state = e ∙ ap release p.state;
        buffer = p.buffer ∙ ap (handed_to b) (sym (handed-release s a (perform s a (numbers_of (draws (bounds s a) (words_of tape))))));
        tail = rw shape p.tail;
      })

-- an accepted one leaves what a release asks for
pub performed-releasable : (c : Client) (s : State) (a : Ask) (m tape b : List ℕ) (r : Result Accepted Refusal) (m' b' : List ℕ) → Performs c s a m tape b (answered c r) m' b' → IfOk r (λ x. Releasable x.client m')
performed-releasable c s a m tape b (Ok x) m' b' p = releasable x.client m' (p.accepted refl).ready
performed-releasable c s a m tape b (Err e) m' b' p = tt

-- the answer x, of which a request that is released is all that the answer r lacks
pub record Settled (r : Answer) (m : List ℕ) (x : Answer) : Type 0 where
  pub answer : x ≡ with_client x.client r
  pub accepted : r.number ≡ 0 → Released r.client m x.client
  pub refused : (r.number ≡ 0 → ⊥) → x.client ≡ r.client

pub settled-meets : (c : Client) (s : State) (a : Ask) (m tape b : List ℕ) (r x : Answer) (m' b' : List ℕ) → Performs c s a m tape b r m' b' → Settled r m' x → Meets c s a m tape b x m' b'
settled-meets c s a m tape b r x m' b' p k = rw k.answer (go (ℕ_discrete r.number 0))
  where
    go : Dec (r.number ≡ 0) → Meets c s a m tape b (with_client x.client r) m' b'
    go (yes z) =
        let f = k.accepted z in
        let e = p.accepted z in
        released-meets c s a m tape b r m' b' e z x.client f.state (λ y. f.idle y ∙ e.idle (ap (λ (q : Client). q.request.kind) (sym f.found) ∙ y))
    go (no n) = rw (k.refused n) (p.refused n)
