use mathlib.Core.Path.{◌≡◌, ap, sym, ◌∙◌}
use mathlib.Core.List.{◌++◌}
use Rattle.lists.specs.Search.{member}
use Rattle.rules.specs.Form.Payload.{block_bytes, place_bytes}
use mathlib.Core.Bool.{false}
use Prim.Native.Nat.{◌+◌}
use native.Mathlib.Omega.{arith}
use lib.ListN.{length, length-append}
use lib.Pow.{pow_pos}
use Rattle.rules.specs.Shape.{slots}
use Rattle.rules.specs.Form.Numbers.{little, form_of, slot_width}
use Rattle.rules.proofs.Laws.Form.Fits.{block-length}
use Rattle.memory.specs.Tables.{tables_of}
use Rattle.memory.specs.Fits.{shape_of, fit-lt}
use Rattle.client.specs.View.{state_of, place_of}
use Rattle.client.specs.Readings.{partition-is, place-as}
use Rattle.cache.specs.Marks.{bit-yes, bit-no}
use Rattle.lists.specs.Written.{followed, same_text}
use Rattle.saving.specs.Parts.{width_of}
use Rattle.saving.specs.Entries.{block-waits, block-else}
use Rattle.saving.proofs.payload.block.Goals as goal
use Rattle.saving.proofs.payload.block.Goals.{After-get-x, Then-marks-b-eq1}

-- what is written for a block that waits, and for another
waits : (c : Then-marks-b-eq1) → let a = c.args in block_bytes (width_of a.c.shape) (state_of a.c a.m.now) a.b ≡ little 2 c.get.result ++ little 1 254
waits c =
    let p = c.get in
    let s = state_of c.args.c c.args.m.now in
    block-waits (width_of c.args.c.shape) s c.args.b p.result (partition-is c.args.c c.args.m.now c.args.b p.result p.ensures)
    (bit-yes (member c.args.b s.waiting) (sym (c.requires.2 c.args.b (omega arith)) ∙ c.if-marks-b-eq1.true))

idle : (c : After-get-x) → let a = c.args in block_bytes (width_of a.c.shape) (state_of a.c a.m.now) a.b ≡ little 2 c.get.result ++ place_bytes (width_of a.c.shape) false (place_of a.c.shape.l c.get-x.result)
idle c =
    let p = c.get in
    let s = state_of c.args.c c.args.m.now in
    block-else (width_of c.args.c.shape) s c.args.b p.result (partition-is c.args.c c.args.m.now c.args.b p.result p.ensures) c.args.c.shape.l c.get-x.result
    (bit-no (member c.args.b s.waiting) (λ e. c.if-marks-b-eq1.false (c.requires.2 c.args.b (omega arith) ∙ e))) (place-as c.args.c c.args.m.now c.args.b c.get-x.result c.get-x.ensures)

pub number-k-requires : goal.number-k-requires
number-k-requires c = let a = c.args in omega (arith, block-length (width_of a.c.shape) (state_of a.c a.m.now) a.b)

pub byte-requires : goal.byte-requires
unfolding little
byte-requires c = omega (arith, ap length (waits (goal.at.byte-requires c).Then-marks-b-eq1), c.number-k.ensures.place, c.number-k.ensures.size)

pub returns-then-marks-b-eq1 : goal.returns-then-marks-b-eq1
returns-then-marks-b-eq1 c = same_text (sym (waits (goal.at.returns-then-marks-b-eq1 c).Then-marks-b-eq1)) (followed c.number-k.ensures c.byte.ensures)

pub place-requires : goal.place-requires
unfolding slot_width form_of
place-requires c =
    let n = c.args.c.shape.l in
    let low = fit-lt (slots n) ((tables_of (shape_of c.args.c.shape) c.args.m.now).place c.args.b) (pow_pos (n + 1)) in
    let size = length-append (little 2 c.get.result) (place_bytes 1 false (place_of n c.get-x.result)) in
    (c.requires.0.levels, omega (arith, c.get-x.ensures, low), omega (arith, ap length (idle (goal.at.place-requires c).After-get-x), size, c.number-k.ensures.place, c.number-k.ensures.size))

pub returns : goal.returns
unfolding slot_width form_of
returns c = same_text (sym (idle (goal.at.returns c).After-get-x)) (followed c.number-k.ensures c.place.ensures)
