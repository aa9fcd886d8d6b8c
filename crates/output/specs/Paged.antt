-- The page that an input leaves.
use Rattle.std.specs.Prelude.{◌≡◌, true, List, [], ℕ, if◌then◌else◌}
use Rattle.report.specs.Page.{page, shown}
use Rattle.session.specs.Session.{memory_room, left}
use Rattle.session.specs.Opened.{opened, opened-ready}
use Rattle.output.specs.declared.Output.{Output}
use Rattle.output.specs.Printed.{cut}

-- Document 02, P1: "A program takes a session and at its end prints only this", the page of the state that its lines leave. The session ends with the input or
-- with a malformed line; the host has these bytes at its start
unfoldable pub paged : List ℕ → List ℕ → List ℕ
paged host input = shown (left host (cut [] input)).state memory_room

-- "Without an accepted O it prints nothing"; after one, the page is that of the store of the last: each accepted O starts a new one
pub page-opened : (host input : List ℕ) → paged host input ≡ (if opened host (cut [] input) then page (left host (cut [] input)).state else [])
unfolding paged shown
page-opened host input = rw (opened-ready host (cut [] input))

-- A text may be handed to the writer as the page: it is that of the state which some input leaves, and the output is silent
pub record PageDue (text : List ℕ) (o : Output) : Type 0 where
  pub silent : o.silent ≡ true
  pub host : List ℕ
  pub input : List ℕ
  pub bytes : text ≡ paged host input
