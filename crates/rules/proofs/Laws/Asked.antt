-- A read for a request is decided with one in hand only. Until it is released, a turn and a completion change no more of it than the level from which its
-- reads go on, and what it awaits. A load brings none.
use Rattle.std.specs.Prelude.{◌≡◌, Bool, true, false, ◌||◌, List, [], ◌∷◌, ℕ, suc, length, eqb, if◌then◌else◌}
use Rattle.std.proofs.Math.Path.{refl}
use Rattle.std.proofs.Common.{ap, sym, ◌∙◌, true≢false}
use Rattle.std.proofs.Math.Option.{Option, none, some, get_or}
use Rattle.lists.specs.Search.{any}
use Rattle.rules.specs.Completion.{complete}
use Rattle.rules.specs.Form.Loading.{loaded, state_in, loaded_form}
use Rattle.rules.specs.Form.Reading.{Form, get_form}
use Rattle.rules.specs.Form.Sums.{out_of_blocks}
use Rattle.rules.proofs.Laws.Shapes.{unawaited, complete-keeps}
use Rattle.rules.specs.Questions.{turn, completion}
use Rattle.rules.specs.Jobs.{levels_of, write_at}
use Rattle.rules.specs.Rebuild.{unread, do_rebuild}
use Rattle.rules.specs.Request.{pass_level, released_for}
use Rattle.rules.specs.Run.{perform}
use Rattle.rules.specs.Shape.{Shape}
use Rattle.rules.specs.State.{State, closed, Command, Request}
use Rattle.rules.specs.Turn.{Step, idle, no_dummy, read_for_request, read_for_job, rebuild, write_next, gather_step, rebuild_step, next_write, write_step, job_step, request_step, decide, do_step, mark_read, send}

-- a read for a request
unfoldable for_request : Step → Bool
for_request idle = false
for_request no_dummy = false
for_request (read_for_request q ℓ i) = true
for_request (read_for_job q ℓ i) = false
for_request (rebuild q t) = false
for_request (write_next q t i) = false

job-not : (s : State) (qs : List ℕ) → for_request (job_step s qs) ≡ false
unfolding for_request job_step gather_step rebuild_step next_write write_step
job-not s [] = refl
job-not s (q ∷ qs) =
    go (eqb s.sent 0) (unread s q) (any (λ c. eqb c.partition q) s.outstanding || released_for s.partition s.request q) (write_at (levels_of s q) s.sent)
  where
    go : (a : Bool) (o : Option (ℕ × ℕ)) (b : Bool) (w : Option (ℕ × ℕ))
        → for_request (if a then gather_step q o (if b then idle else rebuild q (levels_of s q)) else next_write q w) ≡ false
    go true none true w = refl
    go true none false w = refl
    go true (some p) b w = refl
    go false o b none = refl
    go false o b (some p) = refl

-- .. is decided with a request in hand only
pub reads-asked : (s : State) (q ℓ i : ℕ) → decide s ≡ read_for_request q ℓ i → s.request ≡ none → ⊥
unfolding decide request_step for_request
reads-asked s q ℓ i e n = true≢false (sym (ap for_request e) ∙ ap (λ o. for_request (get_or (request_step s o) (job_step s s.queue))) n ∙ job-not s s.queue)

-- a request but for that level and what it awaits
abbrev pub asked : Option Request → Option Request
asked none = none
asked (some r) = some (record { kind = r.kind; block = r.block; bytes = r.bytes; next = r.next; evict = r.evict; level = 0; found = r.found; awaits = 0 })

pass-asked : (ℓ n : ℕ) (o : Option Request) → asked (pass_level ℓ n o) ≡ asked o
unfolding pass_level
pass-asked ℓ n none = refl
pass-asked ℓ n (some r) = refl

step-asked : (s : State) (x : Step) (js : List ℕ) → asked (do_step x js s).request ≡ asked s.request
unfolding do_step mark_read send do_rebuild
step-asked s idle js = refl
step-asked s no_dummy js = refl
step-asked s (read_for_request q ℓ i) js = pass-asked ℓ (suc (length s.outstanding)) s.request
step-asked s (read_for_job q ℓ i) js = refl
step-asked s (rebuild q t) js = refl
step-asked s (write_next q t i) js = refl

pub turn-asked : (s : State) (js : List ℕ) → asked (perform s turn js).request ≡ asked s.request
unfolding perform
turn-asked s js = step-asked s (decide s) js

pub completion-asked : (s : State) (c : Command) (bs js : List ℕ) → asked (perform s (completion c bs) js).request ≡ asked s.request
unfolding perform
completion-asked s c bs js = sym (less (complete c bs s).request) ∙ ap (λ (x : Shape × Option Request). asked x.1) (complete-keeps s c bs) ∙ less s.request
  where
    less : (o : Option Request) → asked (unawaited o) ≡ asked o
    less none = refl
    less (some r) = refl

pub loaded-idle : (form : List ℕ) → (loaded_form form).request ≡ none
unfolding loaded_form state_in loaded
loaded-idle form = go (get_form (out_of_blocks form))
  where
    go : (o : Option (Form × List ℕ)) → (state_in o).request ≡ none
    go none = unfold closed in refl
    go (some x) = refl
