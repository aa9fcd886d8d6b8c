use mathlib.Core.Path.{ap, sym}
use native.Mathlib.Omega.{arith}
use Rattle.client.specs.View.{state_of, view}
use Rattle.printing.specs.Columns.{last_line}
use Rattle.lists.specs.Written.{followed, same_text}
use Rattle.report.specs.Page.{page}
use Rattle.report.specs.Laws.{lines-length, end-figures, end-small}
use Rattle.report.proofs.put.Goals as goal

pub last-requires : goal.last-requires
last-requires c =
    let s = state_of c.args.c c.args.m.now in
    let k = end-small s c.count.new.table c.count.ensures c.requires.0.range in
    let w = c.partitions-at.ensures in
    let n = lines-length s c.requires.0.range c.args.c.shape.p (unfold state_of view in omega arith) in
    (omega arith, omega arith, omega arith, omega (arith, w.place, w.size))

pub returns : goal.returns
unfolding page state_of view
returns c =
    let s = state_of c.args.c c.args.m.now in
    let same = sym (end-figures s c.count.new.table c.count.ensures) in
    followed c.partitions-at.ensures (same_text (ap last_line same) c.last.ensures)
