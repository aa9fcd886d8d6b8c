use mathlib.Core.Path.{refl, ap, ◌∙◌}
use Prim.Native.Nat.{◌+◌, ◌*◌, ◌≤◌}
use native.Mathlib.Omega.{arith}
use lib.ListN.{length, replicate}
use Rattle.rules.specs.Form.Sums.{out_of_blocks}
use Rattle.rules.specs.Memory.{needed}
use Rattle.memory.specs.Fits.{shape_of, Fits, fits}
use Rattle.memory.specs.Parts.{replaced, cleared-tables}
use Rattle.memory.specs.Tables.{tables_of}
use Rattle.forms.specs.At.{wait_count}
use Rattle.forms.specs.Blocks.{blocks_at}
use Rattle.loading.specs.Restored.{put_form}
use Rattle.loading.specs.Loading.{LoadsAs, jobs_by, form_by, by-jobs, by-within, by-needed, restored-as}
use Rattle.loading.proofs.restore.Goals as goal
use Rattle.loading.proofs.restore.Goals.{After-shape-h}

-- the form loads with the shape that is read, for which the memory is long enough
as-loads : (c : After-shape-h) → LoadsAs c.args.form.now c.shape-h.result
as-loads c = record { whole = c.requires.0; loads = c.requires.1; shape = c.shape-h.ensures }

long : (c : After-shape-h) → needed (shape_of c.shape-h.result) ≤ length c.args.m.now
long c = by-needed _ _ (as-loads c) _ c.requires.2

room : (c : After-shape-h) → Fits (shape_of c.shape-h.result) (length c.args.m.now)
room c = fits _ _ (by-within _ _ (as-loads c)) (long c)

few : (c : After-shape-h) → jobs_by (out_of_blocks c.args.form.now) (shape_of c.shape-h.result) ≤ 64
few c = by-jobs _ _ (as-loads c)

pub needed-n-requires : goal.needed-n-requires
needed-n-requires c = by-within _ _ (as-loads c)

pub clear-requires : goal.clear-requires
clear-requires c = omega (arith, long (goal.at.clear-requires c).After-shape-h, c.needed-n.ensures)

pub overflow_mul-queue : goal.overflow_mul-queue
overflow_mul-queue c = omega (arith, (room (goal.at.overflow_mul-queue c).After-shape-h).partitions)

pub overflow_add-queue : goal.overflow_add-queue
overflow_add-queue c = omega (arith, (room (goal.at.overflow_add-queue c).After-shape-h).partitions)

pub number-jobs-requires : goal.number-jobs-requires
number-jobs-requires c = omega (arith, (room (goal.at.number-jobs-requires c).After-shape-h).partitions)

pub overflow_add-queue-2 : goal.overflow_add-queue-2
overflow_add-queue-2 c = omega (arith, (room (goal.at.overflow_add-queue-2 c).After-shape-h).partitions)

pub overflow_add-queue-3 : goal.overflow_add-queue-3
overflow_add-queue-3 c = omega (arith, (room (goal.at.overflow_add-queue-3 c).After-shape-h).partitions, few (goal.at.overflow_add-queue-3 c).After-shape-h, c.number-jobs.ensures.0)

pub waiting-waiting-requires : goal.waiting-waiting-requires
waiting-waiting-requires c = omega (arith, (room (goal.at.waiting-waiting-requires c).After-shape-h).blocks, (room (goal.at.waiting-waiting-requires c).After-shape-h).partitions, few (goal.at.waiting-waiting-requires c).After-shape-h, c.number-jobs.ensures.0)

pub fill-requires : goal.fill-requires
fill-requires c =
    let a = c.args in
    let p = out_of_blocks a.form.now in
    let h = c.shape-h.result in
    let f = room (goal.at.fill-requires c).After-shape-h in
    let j = c.number-jobs.ensures.0 in
    (as-loads (goal.at.fill-requires c).After-shape-h, omega (arith, f), j, c.waiting-waiting.ensures.0 ∙ ap (λ n. wait_count (blocks_at p h.n (13 + h.p * 2 + 2 + n * 2))) j)

pub returns : goal.returns
returns c =
    let a = c.args in
    let p = out_of_blocks a.form.now in
    let h = c.shape-h.result in
    let j = c.number-jobs.ensures.0 in
    let w = c.waiting-waiting.ensures.0 ∙ ap (λ n. wait_count (blocks_at p h.n (13 + h.p * 2 + 2 + n * 2))) j in
    let e = ap (tables_of (shape_of h)) (c.clear.ensures ∙ ap (λ n. replaced 0 a.m.now (replicate n 0)) c.needed-n.ensures) ∙ cleared-tables (shape_of h) a.m.now (long (goal.at.returns c).After-shape-h) in
    rw c.resting.ensures (restored-as a.form.now h (as-loads (goal.at.returns c).After-shape-h) a.m.now _ c.number-jobs.result c.waiting-waiting.result j w (c.fill.ensures ∙ ap (put_form (form_by p (shape_of h))) e), refl)
