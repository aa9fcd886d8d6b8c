-- The partition reader's lists at each release, compared with an independent implementation. Written by plain/src/bin/sessions.rs.
-- Document 02, P6. The reads are those that turns told from the release to its collect, in sessions with look-ups while a partition is rebuilt.
use Rattle.std.specs.Prelude.{◌≡◌, refl, Bool, true, false, not, ◌&&◌, List, [], ◌∷◌, ℕ}
use Rattle.std.proofs.Math.Option.{Option, none, some}
use Rattle.rules.specs.Reader.{read_partition}
use Rattle.rules.specs.Request.{held}
use Rattle.rules.specs.Questions.{Call}
use Rattle.rules.specs.Run.{step}
use Rattle.rules.specs.State.{State, Request, closed}
use Rattle.rules.specs.Unfold.{model}
use Rattle.rules.proofs.Checked.SessionsE.{session10-calls}
use Rattle.rules.proofs.Checked.SessionsF.{session11-calls}
use Rattle.rules.proofs.Checked.SessionsG.{session13-calls}

-- a released request is in hand
unfoldable released : Option Request → Bool
released none = false
released (some r) = not (held r)

unfoldable list_of : State → Option Request → List (ℕ × ℕ)
list_of s none = []
list_of s (some r) = read_partition s r.block

-- the lists of a run, one for each call after which a request is released that was not before
unfoldable lists : State → List Call → List (List (ℕ × ℕ))
lists s [] = []
lists s (c ∷ cs) = elim (released (step s c).0.request && not (released s.request)) [ true ↦ list_of (step s c).0 (step s c).0.request ∷ lists (step s c).0 cs | false ↦ lists (step s c).0 cs ]

-- own slot in a source; another block of a source; dummy of a source; source with none unread; own slot in another level; dummy of another level
reads10 : lists closed session10-calls ≡ ([] ∷ ((1, 1) ∷ []) ∷ [] ∷ ((1, 0) ∷ (2, 5) ∷ []) ∷ ((0, 0) ∷ (1, 1) ∷ (2, 1) ∷ []) ∷ [])
unfolding model session10-calls released list_of lists
reads10 = refl

-- dummy of a source; block read by the job, another item read; dummy of another level
reads11 : lists closed session11-calls ≡ ([] ∷ [] ∷ ((1, 2) ∷ []) ∷ ((1, 0) ∷ []) ∷ ((0, 1) ∷ (1, 1) ∷ []) ∷ [])
unfolding model session11-calls released list_of lists
reads11 = refl

-- block read by the job, no item unread; source with none unread; dummy of another level
reads13 : lists closed session13-calls ≡ ([] ∷ [] ∷ ((0, 0) ∷ (1, 3) ∷ []) ∷ ((0, 1) ∷ []) ∷ ((1, 3) ∷ []) ∷ [] ∷ [])
unfolding model session13-calls released list_of lists
reads13 = refl
