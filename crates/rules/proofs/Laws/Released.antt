-- What a release leaves as it was.
use Rattle.std.specs.Prelude.{◌≡◌, Bool, ◌&&◌, [], ℕ, eqb, length, if◌then◌else◌}
use Rattle.std.proofs.Math.Path.{refl}
use Rattle.std.proofs.Common.{ap, sym, ◌∙◌}
use Rattle.std.proofs.Math.Bool.{true, false, not}
use Rattle.std.proofs.Math.Option.{Option, none, some, map}
use Rattle.lists.specs.Search.{is_none}
use Rattle.rules.specs.Blocks.{holder, slot_bytes, zeros, look_up}
use Rattle.rules.specs.Request.{blocked, held, with_found, released_in, release}
use Rattle.rules.specs.Silent.{held_only, without_found, unseen_in, release_unseen}
use Rattle.rules.specs.Questions.{Ask, opening, request, turn, completion, collect, save, load}
use Rattle.rules.specs.Run.{written, handed}
use Rattle.rules.specs.Turn.{decide, command}
use Rattle.rules.specs.Setters.{set_request}
use Rattle.rules.specs.State.{State, Command, write, Request, Found, found_nowhere}

-- a request without where its block was found
abbrev pub without : Option Request → Option Request
without o = map held_only o

-- whatever does not look at where the block was found, nor at what the request awaits
pub released-same : {A : Type 0} (g : Option Request → A) → ((r : Request) (x : Found) (n : ℕ) → g (some (with_found x n r)) ≡ g (some r)) → (s : State) (o : Option Request) →
    g (map (released_in s) o) ≡ g o
unfolding released_in
released-same g e s none = refl
released-same g e s (some r) = go (held r && not (blocked s r))
  where
    go : (t : Bool) → g (some (if t then with_found (look_up s r.block) (length s.outstanding) r else r)) ≡ g (some r)
    go true = e r (look_up s r.block) (length s.outstanding)
    go false = refl

-- what is written does not depend on the request in hand
pub written_same : (s : State) (o : Option Request) (c : Command) → written (set_request o s) c ≡ written s c
unfolding written holder
written_same s o c = go (eqb c.kind write) (holder s c.partition c.level c.slot)
  where
    go : (t : Bool) (b : Option ℕ) → (if t then slot_bytes (set_request o s) b else []) ≡ (if t then slot_bytes s b else [])
    go true none = unfold slot_bytes zeros in refl
    go true (some b) = unfold slot_bytes in refl
    go false b = refl

pub written-release : (s : State) (c : Command) → written (release s) c ≡ written s c
written-release s c = written_same s (map (released_in s) s.request) c

-- so is what is handed out
pub handed-release : (s : State) (a : Ask) (s' : State) → handed s a (release s') ≡ handed s a s'
unfolding handed
handed-release s (opening h) s' = refl
handed-release s (request k b bs) s' = refl
handed-release s turn s' = written-release s' (command (decide s))
handed-release s (completion c bs) s' = refl
handed-release s collect s' = refl
handed-release s save s' = refl
handed-release s (load form) s' = refl

-- a release that looks nothing up leaves the same but for what was found
pub unseen-release : (s : State) → without_found (release_unseen s) ≡ without_found (release s)
unseen-release s = ap (λ o. set_request o s) (go s.request)
  where
    one : (r : Request) (t : Bool) → without (some (if t then with_found found_nowhere (length s.outstanding) r else r))
        ≡ without (some (if t then with_found (look_up s r.block) (length s.outstanding) r else r))
    one r true = unfold held is_none in refl
    one r false = refl

    go : (o : Option Request) → without (map (unseen_in s) o) ≡ without (map (released_in s) o)
    go none = refl
    go (some r) = unfold unseen_in released_in in (one r (held r && not (blocked s r)))

-- and what is handed out
pub handed-unseen : (s : State) (a : Ask) (s' : State) → handed s a (release_unseen s') ≡ handed s a s'
unfolding handed
handed-unseen s (opening h) s' = refl
handed-unseen s (request k b bs) s' = refl
handed-unseen s turn s' = written_same s' (map (unseen_in s') s'.request) (command (decide s))
handed-unseen s (completion c bs) s' = refl
handed-unseen s collect s' = refl
handed-unseen s save s' = refl
handed-unseen s (load form) s' = refl

-- without a request none is released
pub release-none : (s : State) → s.request ≡ none → release s ≡ s
release-none s e = ap (λ (o : Option Request). set_request o s) (ap (map (released_in s)) e ∙ sym e)
