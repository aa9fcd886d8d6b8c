-- What a release asks for and what it leaves.
use Rattle.std.specs.Prelude.{◌≡◌, Bool, ◌&&◌, List, ℕ, suc, ◌+◌, ◌≤◌, ◌<◌, length, eqb, if◌then◌else◌}
use Rattle.std.proofs.Math.Path.{refl, sym}
use Rattle.std.proofs.Common.{ap, ◌∙◌, arith, pow_pos}
use Rattle.std.proofs.Math.Bool.{true, false, not}
use Rattle.std.proofs.Math.Option.{Option, none, some, map}
use Rattle.std.proofs.Math.Decide.{ℕ_discrete}
use borrow.Author.Tests.{eqb-false, ne_eqb, lt-ltb, le-ltb}
use Rattle.lists.specs.Search.{member}
use Rattle.rules.specs.Shape.{slots}
use Rattle.rules.specs.State as R
use Rattle.rules.specs.State.{State, found_number}
use Rattle.rules.specs.Setters.{set_request}
use Rattle.rules.specs.Blocks.{found_at, look_up}
use Rattle.rules.specs.Request.{held_for, blocked, held, with_found, released_in, release}
use Rattle.rules.specs.Questions.{ready}
use Rattle.memory.specs.Tables.{tables_of}
use Rattle.memory.specs.Fits.{shape_of, fit, fit-lt}
use Rattle.client.specs.declared.Client.{Client}
use Rattle.client.specs.Moves.{with_request, at_found, Room, Stands}
use Rattle.client.specs.Readings.{hand_of, hand-none, hand-some, hand-held, hand-released, place-as, as_number, out-count}
use Rattle.client.specs.View.{state_of, view, place_of, found_by, hand_by, request_of}
use Rattle.ready.specs.Usable.{usable}
use Rattle.reading.specs.Slots.{level-of}

-- the client's counts fit, and so does the block of a request in hand
pub record Releasable (c : Client) (m : List ℕ) : Type 0 where
  pub room : Room c m
  pub jobs : c.jobs ≤ 64
  pub begun : c.begun ≤ 64
  pub waiting : c.waiting ≤ c.shape.n
  pub out : c.out ≤ 32
  pub block : (c.request.kind ≡ 0 → ⊥) → c.request.block < c.shape.n

pub releasable : (c : Client) (m : List ℕ) → ready (state_of c m) (length m) ≡ true → Releasable c m
releasable c m e =
    let u = usable c m e in
    record { room = u.room; jobs = u.jobs; begun = u.counts.begun; waiting = omega (arith, u.counts.waiting, u.places); out = omega (arith, u.counts.out, u.window); block = λ n. (u.asked n).0.block }

-- The client r after it, with the memory as it was
pub record Released (c : Client) (m : List ℕ) (r : Client) : Type 0 where
  pub state : state_of r m ≡ release (state_of c m)
  -- no other numbers change than these two, and they only with a request in hand
  pub found : r ≡ with_request (at_found r.request.found r.request.awaits c.request) c
  pub idle : r.request.kind ≡ 0 → r.request ≡ c.request
  pub low : c.request.found < 65536 → r.request.found < 65536
  pub few : c.request.awaits < 65536 → r.request.awaits < 65536

-- after a move to the state s
pub released-stands : {c r : Client} {m₀ m : List ℕ} {s : State} → Stands c m₀ m s → Released c m r → Stands r m₀ m (release s)
released-stands a b = record { state = b.state ∙ ap release a.state; tail = rw (ap (λ (x : Client). x.shape) b.found) a.tail }

-- ---- Where a block is found

module _ (c : Client) (m : List ℕ) (b x : ℕ) (e : x ≡ fit (slots c.shape.l) ((tables_of (shape_of c.shape) m).place b)) where
  pub found-level : (ℓ : ℕ) → 2 ≤ x → slots ℓ ≤ x → x < slots (suc ℓ) → ℓ + 3 ≡ suc (found_number (look_up (state_of c m) b))
  unfolding look_up found_at found_number place_of
  found-level ℓ l a k =
      let z = level-of c.shape.l x ℓ (omega (arith, e, fit-lt (slots c.shape.l) ((tables_of (shape_of c.shape) m).place b) (pow_pos (c.shape.l + 1)))) a k in
      rw (place-as c m b x e, le-ltb x 2 l, z) (omega arith)

  pub found-cache : x < 2 → member b (state_of c m).waiting ≡ true → 2 ≡ suc (found_number (look_up (state_of c m) b))
  unfolding look_up found_at found_number place_of
  found-cache l w = rw (place-as c m b x e, w, lt-ltb x 2 l)

  pub found_nowhere_lem : x < 2 → member b (state_of c m).waiting ≡ false → 1 ≡ suc (found_number (look_up (state_of c m) b))
  unfolding look_up found_at found_number place_of
  found_nowhere_lem l w = rw (place-as c m b x e, w, lt-ltb x 2 l)

-- ---- What a release leaves

release-same : (s : State) (o : Option R.Request) → s.request ≡ o → map (released_in s) o ≡ o → release s ≡ s
release-same s o e k = ap (λ o. set_request (map (released_in s) o) s) e ∙ ap (λ o. set_request o s) (k ∙ sym e)

module _ (c : Client) (m : List ℕ) where
  abbrev s : State
  s = state_of c m

  pub unasked : c.request.kind ≡ 0 → release s ≡ s
  unasked e = release-same s none (hand-none c m e) refl

  module _ (n : c.request.kind ≡ 0 → ⊥) where
    pub found_before : (c.request.found ≡ 0 → ⊥) → release s ≡ s
    found_before f = release-same s (some (hand_of c m)) (hand-some c m n) (unfold released_in in (rw (hand-released c m f)))

    pub still-held : held_for s (s.partition c.request.block) ≡ true → release s ≡ s
    still-held w = release-same s (some (hand_of c m)) (hand-some c m n) (unfold released_in blocked in (rw w (go (held (hand_of c m)))))
      where
        go : (t : Bool) → some (if t && not true then with_found (look_up s c.request.block) (length s.outstanding) (hand_of c m) else hand_of c m) ≡ some (hand_of c m)
        go true = refl
        go false = refl

    module _ (x : ℕ) (f : c.request.found ≡ 0) (w : held_for s (s.partition c.request.block) ≡ false) (e : x ≡ suc (found_number (look_up s c.request.block))) where
      looks-up : released_in s (hand_of c m) ≡ with_found (look_up s c.request.block) (length s.outstanding) (hand_of c m)
      unfolding released_in blocked
      looks-up = rw (hand-held c m f, w)

      hand-found : hand_by (at_found x c.out c.request) ((tables_of (shape_of c.shape) m).blocks c.shape.n) ≡ with_found (look_up s c.request.block) (length s.outstanding) (hand_of c m)
      hand-found =
          let y : found_by x ≡ some (look_up s c.request.block) = ap found_by e ∙ (unfold found_by in (ap some (as_number (look_up s c.request.block)))) in
          let r = hand_of c m in
          λ i. record { kind = r.kind; block = r.block; bytes = r.bytes; next = r.next; evict = r.evict; level = r.level; found = y i; awaits = sym (out-count c m) i }

      asked-some : request_of (at_found x c.out c.request) ((tables_of (shape_of c.shape) m).blocks c.shape.n) ≡ some (hand_by (at_found x c.out c.request) ((tables_of (shape_of c.shape) m).blocks c.shape.n))
      unfolding request_of
      asked-some = rw (ne_eqb c.request.kind 0 n)

      asked_is : state_of (with_request (at_found x c.out c.request) c) m ≡ set_request (request_of (at_found x c.out c.request) ((tables_of (shape_of c.shape) m).blocks c.shape.n)) s
      unfolding state_of view
      asked_is = refl

      pub released : state_of (with_request (at_found x c.out c.request) c) m ≡ release s
      released = asked_is ∙ ap (λ o. set_request o s) (asked-some ∙ ap some (hand-found ∙ sym looks-up)) ∙ sym (ap (λ o. set_request (map (released_in s) o) s) (hand-some c m n))

-- ---- Where none is held nothing changes

pub not-held : (c : Client) (m : List ℕ) → (if eqb c.request.kind 0 then false else eqb c.request.found 0) ≡ false → Released c m c
not-held c m e = record { state = sym (go (ℕ_discrete c.request.kind 0)); found = refl; idle = λ _. refl; low = λ l. l; few = λ l. l }
  where
    go : Dec (c.request.kind ≡ 0) → release (state_of c m) ≡ state_of c m
    go (yes z) = unasked c m z
    go (no n) = found_before c m n (eqb-false c.request.found 0 (sym (ap (λ t. if t then false else eqb c.request.found 0) (ne_eqb c.request.kind 0 n)) ∙ e))
