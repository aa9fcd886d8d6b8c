-- After every call a request that is held is held by the rule: one that may be released is released by the call that makes it so. And which jobs a request
-- that is not held may be beside.
use Rattle.std.specs.Prelude.{◌≡◌, Bool, ◌&&◌, ℕ, ◌≤◌, length, eqb, if◌then◌else◌}
use Rattle.std.proofs.Math.Path.{refl, ap}
use Rattle.std.proofs.Common.{sym, ◌∙◌, ⊎_elim, true≢false, arith, eqb-true}
use Rattle.std.proofs.Math.Bool.{true, false, not}
use Rattle.std.proofs.Math.Option.{Option, none, some, map}
use Rattle.std.proofs.lemmas.Bool.{eqb-false}
use Rattle.lists.specs.Search.{is_none}
use Rattle.lists.specs.Tests.{and-true}
use Rattle.rules.specs.Jobs.{queued, begun_with, joined, top_of}
use Rattle.rules.specs.Blocks.{look_up}
use Rattle.rules.specs.Draws.{draws}
use Rattle.rules.proofs.Laws.Answers.{step-accepted, step-refused, open-first, load-first}
use Rattle.rules.specs.Questions.{Ask, opening, request, turn, completion, collect, save, load, Call, bounds, number}
use Rattle.rules.specs.Request.{undrawn_only, is_source, worn, held_for, blocked, held, with_found, released_in, release}
use Rattle.rules.specs.Run
use Rattle.rules.specs.Run.{act, step}
use Rattle.rules.specs.State.{State, Request, closed}
use Rattle.reachable.proofs.Pending.{queued-none}
use Rattle.reachable.proofs.Reached.{Was, reachable, live, shut}
use Rattle.reachable.specs.Terms.{CallsLeft, opened, called, loaded}

-- a request that is held is held by the rule
abbrev pub Settled : State → Type 0
Settled s = (r : Request) → s.request ≡ some r → held r ≡ true → blocked s r ≡ true

pub no-request : (r : Request) → none ≡ some r → ⊥
no-request r e = let z : ◌≡◌ {A = ℕ} 0 1 = cc in omega arith

pub closed-hand : (s : State) → s ≡ closed → (r : Request) → s.request ≡ some r → ⊥
closed-hand s w r e = let z : s.request ≡ none = unfold closed in (ap (λ (x : State). x.request) w) in no-request r (sym z ∙ e)

pub closed-settled : Settled closed
closed-settled r e h = absurd (no-request r (unfold closed in e))

release-settles : (s : State) → Settled (release s)
unfolding blocked held_for undrawn_only worn is_source top_of joined
release-settles s r e h = go s.request e
  where
    first : {x y : Request} → some x ≡ some y → x ≡ y
    first w = cc

    one : (x : Request) (t : Bool) → (held x && not (blocked s x)) ≡ t → (if t then with_found (look_up s x.block) (length s.outstanding) x else x) ≡ r → blocked s r ≡ true
    one x true k w = absurd (true≢false (sym h ∙ ap held (sym w) ∙ unfold held is_none in refl))
    one x false k w = by (blocked s r) refl
      where
        by : (t : Bool) → blocked s r ≡ t → blocked s r ≡ true
        by true u = u
        by false u = absurd (true≢false (sym (and-true h (ap not u)) ∙ ap (λ (y : Request). held y && not (blocked s y)) (sym w) ∙ k))

    go : (o : Option Request) → map (released_in s) o ≡ some r → blocked s r ≡ true
    go none w = absurd (no-request r w)
    go (some x) w = one x (held x && not (blocked s x)) refl (first (unfold released_in in w))

pub step-settles : (s : State) (c : Call) → Settled s → Settled (step s c).0
step-settles s c l = go (eqb (number s c) 0) refl
  where
    refused : (a : Ask) → Settled (Run.refuse s a)
    refused (opening h) = unfold Run.refuse in closed-settled
    refused (request k b bs) = unfold Run.refuse in l
    refused turn = unfold Run.refuse in l
    refused (completion c bs) = unfold Run.refuse in l
    refused collect = unfold Run.refuse in l
    refused save = unfold Run.refuse in l
    refused (load form) = unfold Run.refuse in closed-settled

    go : (t : Bool) → eqb (number s c) 0 ≡ t → Settled (step s c).0
    go true e = rw (step-accepted s c (eqb-true (number s c) 0 e)) (unfold Run.accepted act in (release-settles (Run.perform s c.ask (Run.numbers_of (draws (bounds s c.ask) c.words)))))
    go false e = rw (step-refused s c (eqb-false (number s c) 0 e)) (refused c.ask)

-- no request is held too long in a state that calls left
pub left-settled : {s : State} → CallsLeft s → Settled s
left-settled (opened s c h e z) = rw (z, open-first s c h e) (step-settles closed c closed-settled)
left-settled (called c l o z) = rw z (step-settles _ c (left-settled l))
left-settled (loaded {u = u} s c d l e a z) = rw (z, load-first s c (step u d).1.bytes a) (step-settles closed c closed-settled)

module _ (left : State) (calls : CallsLeft left) where
  -- P7: "The run counts as one job for look-ups during a rebuild": of the partition of a request that is not held no jobs are queued but those of the run at
  -- the front; before it begins, but one
  pub released-run : (r : Request) → left.request ≡ some r → held r ≡ false → queued left.queue (left.partition r.block) ≤ begun_with left.begun 1
  released-run r e u = go (reachable calls)
    where
      go : Was left → queued left.queue (left.partition r.block) ≤ begun_with left.begun 1
      go (live f) = ⊎_elim (λ n. omega (arith, queued-none (left.partition r.block) left.queue n)) (λ a. a.1) (f.released r e u)
      go (shut w) = absurd (closed-hand left w r e)
