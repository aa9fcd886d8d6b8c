-- Until a request is released, a turn and a completion hand back how far the client is; the rest of the request, and the shape, stay in the bytes as they
-- are.
use Rattle.std.specs.Prelude.{◌≡◌, Bool, List, [], ℕ, eqb, if◌then◌else◌}
use Rattle.std.proofs.Math.Path.{refl, ap}
use Rattle.std.proofs.Common.{sym, true≢false}
use Rattle.std.proofs.Math.Bool.{true, false}
use Rattle.std.proofs.Math.Option.{none, some, get_or}
use Rattle.lists.specs.Search.{is_none}
use Rattle.rules.specs.State.{write}
use Rattle.rules.specs.Setters.{set_request}
use Rattle.rules.proofs.Laws.Asked.{asked}
use Rattle.client.specs.declared.Client.{Client}
use Rattle.client.specs.declared.Request.{Request}
use Rattle.client.specs.View.{state_of, view, hand_by, request_of}
use Rattle.client.specs.Moves.{at_level}
use Rattle.codec.specs.Codec.{progressed}

-- two requests that ask for the same differ in their level and in what they await alone
module _ (c d : Request) (bs bs' : List ℕ) where
  abbrev mixed : Request
  mixed = at_level d.level d.awaits c

  same-hand : asked (some (hand_by d bs')) ≡ asked (some (hand_by c bs)) → hand_by mixed bs' ≡ hand_by d bs'
  same-hand e =
      let f = sym (ap (λ o. get_or o (hand_by d bs')) e) in
      λ k. record { kind = (f k).kind; block = (f k).block; bytes = if eqb (f k).kind write then bs' else []; next = (f k).next; evict = (f k).evict; level = d.level; found = (f k).found; awaits = d.awaits }

  same-request : asked (request_of d bs') ≡ asked (request_of c bs) → request_of mixed bs' ≡ request_of d bs'
  unfolding request_of is_none
  same-request e = go (eqb c.kind 0) (eqb d.kind 0) e
    where
      go : (x y : Bool) → asked (if y then none else some (hand_by d bs')) ≡ asked (if x then none else some (hand_by c bs)) → (if x then none else some (hand_by mixed bs')) ≡ (if y then none else some (hand_by d bs'))
      go true true e = refl
      go true false e = absurd (true≢false (sym (ap is_none e)))
      go false true e = absurd (true≢false (ap is_none e))
      go false false e = ap some (same-hand e)

-- so the bytes stand for the same state
pub same-state : (c d : Client) (m m' : List ℕ) → c.shape ≡ d.shape → asked (state_of d m').request ≡ asked (state_of c m).request → state_of (progressed c d) m' ≡ state_of d m'
unfolding state_of view
same-state c d m m' e h = rw e (ap (λ o. set_request o (state_of d m')) (same-request c.request d.request _ _ h))
