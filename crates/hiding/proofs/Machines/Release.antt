-- A request is released alike in the three machines: that it ceases to be held is public, and where its block was found is not.
use Rattle.std.specs.Prelude.{◌≡◌, Bool, true, false, ◌&&◌, List, ℕ, length, if◌then◌else◌}
use Rattle.std.proofs.Math.Path.{refl, fun_ext}
use Rattle.std.proofs.Common.{ap, sym}
use Rattle.std.proofs.Math.Bool.{not}
use Rattle.std.proofs.Math.Option.{Option, none, some, map}
use Rattle.lists.specs.Search.{is_none, any, member}
use Rattle.rules.specs.Blocks.{found_at, look_up}
use Rattle.rules.proofs.Laws.Released.{released-same}
use Rattle.rules.specs.Completion.{awaits_less, completed}
use Rattle.rules.specs.Jobs.{joined, top_of}
use Rattle.rules.specs.Request.{held, undrawn_only, worn, is_source, held_for, blocked, with_found, released_in, release}
use Rattle.rules.specs.Setters.{set_request}
use Rattle.rules.specs.State.{State, Command, Request, Found, Place, nowhere, stored, found_nowhere}
use Rattle.hiding.specs.Machines.Public.{present, public_found, public_request, blank, hide}
use Rattle.hiding.specs.Machines.Middle.{level_only, forget}

pub held-public : (r : Request) → held (public_request r.evict r.level r.found r.awaits) ≡ held r
unfolding held is_none
held-public r = go r.found
  where
    go : (o : Option Found) → is_none (public_found o) ≡ is_none o
    go none = refl
    go (some x) = refl

-- ---- the middle machine knows where a block is found

look_up-forget : (s : State) (b : ℕ) → look_up (forget s) b ≡ look_up s b
unfolding look_up found_at
look_up-forget s b = go (s.place b) (member b s.waiting)
  where
    go : (x : Place) (t : Bool) → found_at (level_only x) t ≡ found_at x t
    go nowhere t = refl
    go (stored ℓ i) t = refl

released-forget : (s : State) (r : Request) → released_in (forget s) r ≡ released_in s r
unfolding released_in blocked held_for undrawn_only worn is_source top_of joined
released-forget s r = rw (look_up-forget s r.block)

pub forget-release : (s : State) → forget (release s) ≡ release (forget s)
forget-release s = ap (λ g. set_request (map g s.request) (forget s)) (fun_ext (λ r. sym (released-forget s r)))

-- ---- what is public

module _ (s : State) where
  blocked-hide : (r : Request) → s.request ≡ some r → blocked (hide s) (public_request r.evict r.level r.found r.awaits) ≡ blocked s r
  unfolding blocked held_for undrawn_only worn is_source top_of joined
  blocked-hide r e = rw e

  look_up-hide : (b : ℕ) → look_up (hide s) b ≡ found_nowhere
  unfolding look_up found_at member any
  look_up-hide b = refl

  released-blank : (o : Option Request) → s.request ≡ o → blank (map (released_in s) o) ≡ map (released_in (hide s)) (blank o)
  unfolding released_in
  released-blank none e = refl
  released-blank (some r) e = rw (held-public r, blocked-hide r e, look_up-hide 0) (go (held r && not (blocked s r)))
    where
      pr : Request
      pr = public_request r.evict r.level r.found r.awaits

      go : (t : Bool) → blank (some (if t then with_found (look_up s r.block) (length s.outstanding) r else r)) ≡ some (if t then with_found found_nowhere (length s.outstanding) pr else pr)
      go true = refl
      go false = refl

  pub hide-release : hide (release s) ≡ release (hide s)
  hide-release = rw (released-same (present s.partition) (λ r x n. refl) s s.request, released-blank s.request refl)

-- a command completed is awaited no more
less-present : (f : ℕ → ℕ) (c : Command) (os : List Command) (o : Option Request) → present f (map (awaits_less c os) o) ≡ present f o
less-present f c os none = refl
less-present f c os (some r) = refl

less-blank : (c : Command) (os : List Command) (o : Option Request) → blank (map (awaits_less c os) o) ≡ map (awaits_less c os) (blank o)
less-blank c os none = refl
less-blank c os (some r) = refl

pub hide-completed : (c : Command) (s : State) → hide (completed c s) ≡ completed c (hide s)
unfolding completed
hide-completed c s = rw (less-present s.partition c s.outstanding s.request, less-blank c s.outstanding s.request)
