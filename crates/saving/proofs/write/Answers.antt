use mathlib.Core.Path.{◌≡◌, ap, ◌∙◌}
use Prim.Native.Nat.{◌*◌}
use native.Mathlib.Omega.{arith}
use lib.ListN.{length}
use Rattle.rules.specs.Form.Payload.{payload}
use Rattle.rules.specs.Form.Sums.{block_count}
use Rattle.rules.proofs.Laws.Form.Sums.{count-le}
use Rattle.client.specs.View.{state_of}
use Rattle.saving.specs.Saving.{form-length, form-out}
use Rattle.saving.proofs.write.Goals as goal

pub write-n-requires : goal.write-n-requires
write-n-requires c =
    let s = state_of c.args.c c.args.m.now in
    (c.requires.0, c.requires.1, c.requires.2, c.requires.3, omega (arith, c.requires.5, form-length s, count-le (length (payload s))))

pub spread-requires : goal.spread-requires
spread-requires c =
    let w = c.write-n.ensures in
    let s = state_of c.args.c c.args.m.now in
    let place : c.write-n.result ≡ length (payload s) = omega (arith, w.place) in
    (omega (arith, w.place, c.requires.4), omega (arith, c.requires.5, form-length s, ap (λ n. block_count n * 512) place, w.size))

pub returns : goal.returns
returns c =
    let a = c.args in
    c.spread.ensures ∙ form-out (state_of a.c a.m.now) a.buffer.now c.write-n.new.buffer c.write-n.result c.write-n.ensures
