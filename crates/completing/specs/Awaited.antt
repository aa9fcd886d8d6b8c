-- A completion takes its command out of those that the request awaits.
use Rattle.std.specs.Prelude.{◌≡◌, Bool, List, ℕ, ◌-◌, eqb, if◌then◌else◌}
use Rattle.std.proofs.Math.Path.{refl, ap, sym}
use Rattle.std.proofs.Common.{◌∙◌, true≢false, eq-eqb, ne_eqb}
use Rattle.std.proofs.Math.Bool.{true, false}
use Rattle.std.proofs.Math.Option.{none, some, map}
use Rattle.std.proofs.Math.Decide.{ℕ_discrete}
use Rattle.std.proofs.Math.Dec.{ltb}
use Rattle.lists.specs.Search.{first_left}
use Rattle.rules.specs.State as R
use Rattle.rules.specs.State.{State, Command}
use Rattle.rules.specs.Setters.{set_request}
use Rattle.rules.specs.Completion.{is_command, awaits_less}
use Rattle.memory.specs.Fits.{shape_of}
use Rattle.memory.specs.Tables.{tables_of}
use Rattle.client.specs.declared.Client.{Client}
use Rattle.client.specs.declared.Request.{Request}
use Rattle.client.specs.Moves.{with_request, awaiting}
use Rattle.client.specs.Readings.{hand_of, hand-none, hand-some}
use Rattle.client.specs.View.{state_of, view, hand_by, request_of}

-- the request once the command at place j is completed; of kind 0 there is none
abbrev pub lessened : ℕ → Request → Request
lessened j r = if eqb r.kind 0 then r else (if ltb j r.awaits then awaiting (r.awaits - 1) r else r)

-- its kind stays, and without one every number does
pub lessened-idle : (j : ℕ) (r : Request) → (lessened j r).kind ≡ 0 → lessened j r ≡ r
lessened-idle j r = go (eqb r.kind 0) refl (ltb j r.awaits)
  where
    go : (a : Bool) → eqb r.kind 0 ≡ a → (b : Bool) → (if a then r else (if b then awaiting (r.awaits - 1) r else r)).kind ≡ 0
        → (if a then r else (if b then awaiting (r.awaits - 1) r else r)) ≡ r
    go true e b k = refl
    go false e true k = absurd (let z : true ≡ false = sym (eq-eqb r.kind 0 k) ∙ e in true≢false z)
    go false e false k = refl

module _ (c : Client) (m : List ℕ) (d : Command) (j : ℕ) (left : (k : ℕ) → first_left (is_command d) k (state_of c m).outstanding ≡ (if ltb j k then k - 1 else k)) where
  abbrev s : State
  s = state_of c m

  bs : List ℕ
  bs = (tables_of (shape_of c.shape) m).blocks c.shape.n

  asked_is : (r : Request) → state_of (with_request r c) m ≡ set_request (request_of r bs) s
  unfolding state_of view bs
  asked_is r = refl

  less : (r : Request) (b : Bool) → (r.kind ≡ 0 → ⊥) → request_of (if b then awaiting (r.awaits - 1) r else r) bs
      ≡ some (record {
        kind = r.kind;
        block = r.block;
        bytes = (hand_by r bs).bytes;
        next = r.next;
        evict = r.evict;
        level = r.level;
        found = (hand_by r bs).found;
        awaits = if b then r.awaits - 1 else r.awaits;
      })
  unfolding request_of
  less r true n = rw (ne_eqb r.kind 0 n)
  less r false n = rw (ne_eqb r.kind 0 n)

  pub lessened-is : state_of (with_request (lessened j c.request) c) m ≡ set_request (map (awaits_less d s.outstanding) s.request) s
  lessened-is = asked_is (lessened j c.request) ∙ ap (λ o. set_request o s) (go (ℕ_discrete c.request.kind 0))
    where
      r : Request
      r = c.request

      same : hand_of c m ≡ hand_by r bs
      same = unfold bs in refl

      go : Dec (r.kind ≡ 0) → request_of (lessened j r) bs ≡ map (awaits_less d s.outstanding) s.request
      go (yes z) = ap (λ t. request_of (if t then r else (if ltb j r.awaits then awaiting (r.awaits - 1) r else r)) bs) (eq-eqb r.kind 0 z) ∙ none-asked z ∙ sym (ap (map (awaits_less d s.outstanding)) (hand-none c m z))
        where
          none-asked : r.kind ≡ 0 → request_of r bs ≡ none
          none-asked z = unfold request_of in (rw (eq-eqb r.kind 0 z))
      go (no n) =
          ap (λ t. request_of (if t then r else (if ltb j r.awaits then awaiting (r.awaits - 1) r else r)) bs) (ne_eqb r.kind 0 n) ∙ less r (ltb j r.awaits) n
          ∙ ap (λ k. some (record {
            kind = r.kind;
            block = r.block;
            bytes = (hand_by r bs).bytes;
            next = r.next;
            evict = r.evict;
            level = r.level;
            found = (hand_by r bs).found;
            awaits = k;
          })) (sym (left r.awaits))
          ∙ ap (λ (h : R.Request). some (awaits_less d s.outstanding h)) (sym same)
          ∙ sym (ap (map (awaits_less d s.outstanding)) (hand-some c m n))
