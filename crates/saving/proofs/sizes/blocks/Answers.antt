use native.Mathlib.Omega.{arith}
use Rattle.lists.specs.Search.{below, count}
use Rattle.rules.specs.Form.Numbers.{each}
use Rattle.rules.specs.Form.Payload.{block_bytes}
use Rattle.rules.proofs.Laws.Form.Fits.{block-length}
use Rattle.client.specs.View.{state_of}
use Rattle.saving.specs.Parts.{width_of}
use Rattle.saving.specs.Sizes.{each-grows}
use Rattle.saving.proofs.sizes.blocks.Goals as goal

pub loop-i-init : goal.loop-i-init
unfolding each below count
loop-i-init c = omega arith

pub loop-i-preserved : goal.loop-i-preserved
loop-i-preserved c =
    let a = c.args in
    let i = c.loop-i.i in
    let w = width_of a.c.shape in
    let s = state_of a.c a.m.now in
    omega (arith, each-grows (block_bytes w s) i, block-length w s i, c.place.ensures.0)
