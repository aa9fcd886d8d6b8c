use mathlib.Core.Path.{◌≡◌, sym, ◌∙◌}
use mathlib.Core.Bool.{false}
use Rattle.lists.specs.Search.{member}
use Rattle.client.specs.View.{place_of, state_of}
use native.Mathlib.Omega.{arith}
use Rattle.rules.specs.Form.Numbers.{form_of, slot_width}
use Rattle.client.specs.Readings.{place-as}
use Rattle.cache.specs.Marks.{bit-yes, bit-no}
use Rattle.saving.specs.Parts.{width_of}
use Rattle.saving.specs.Sizes.{waits-size, nowhere-size, stored-size}
use Rattle.saving.proofs.sizes.place.Goals as goal
use Rattle.saving.proofs.sizes.place.Goals.{After-get, Else-marks-b-eq1}

-- the block does not wait, and its place is what was read
idle : (c : Else-marks-b-eq1) → let a = c.args in member a.b (state_of a.c a.m.now).waiting ≡ false
idle c = bit-no (member c.args.b (state_of c.args.c c.args.m.now).waiting) (λ e. c.if-marks-b-eq1.false (c.requires.2 c.args.b (omega arith) ∙ e))

read : (c : After-get) → let a = c.args in (state_of a.c a.m.now).place a.b ≡ place_of a.c.shape.l c.get.result
read c = let a = c.args in place-as a.c a.m.now a.b c.get.result c.get.ensures

pub returns-then-marks-b-eq1 : goal.returns-then-marks-b-eq1
returns-then-marks-b-eq1 c =
    let s = state_of c.args.c c.args.m.now in
    (sym (waits-size (width_of c.args.c.shape) s c.args.b (bit-yes (member c.args.b s.waiting) (sym (c.requires.2 c.args.b (omega arith)) ∙ c.if-marks-b-eq1.true))), omega arith)

pub returns-then-get-lt2 : goal.returns-then-get-lt2
returns-then-get-lt2 c =
    let a = c.args in
    (sym (nowhere-size (width_of a.c.shape) (state_of a.c a.m.now) a.b a.c.shape.l c.get.result (idle (goal.at.returns-then-get-lt2 c).Else-marks-b-eq1) (read (goal.at.returns-then-get-lt2 c).After-get) c.if-get-lt2.true), omega arith)

pub returns : goal.returns
unfolding slot_width form_of
returns c =
    let a = c.args in
    (sym (stored-size (width_of a.c.shape) (state_of a.c a.m.now) a.b a.c.shape.l c.get.result (idle (goal.at.returns c).Else-marks-b-eq1) (read (goal.at.returns c).After-get) (omega arith)), omega arith)
