use mathlib.Core.Path.{◌≡◌, sym, ap, ◌∙◌}
use mathlib.Core.Option.{some}
use Prim.Native.Nat.{◌<◌}
use native.Mathlib.Omega.{arith}
use Rattle.memory.specs.Words.{word_at}
use Rattle.memory.specs.Fits.{fit, fit-lt}
use Rattle.levels.specs.Items.{free_at, item_at, items-hit, items-miss, items-done}
use Rattle.levels.proofs.lowest_item.Goals as goal
use Rattle.levels.proofs.lowest_item.Goals.{After-fit-i, After-is_free}

-- what was read in a turn of the loop
item : (c : After-fit-i) → let a = c.args in c.fit-i.result ≡ item_at a.n (word_at a.order.now) c.loop-k.k
item c = c.fit-i.ensures ∙ ap (fit _) c.word.ensures.0

inside : (c : After-fit-i) → c.fit-i.result < c.args.n
inside c = rw c.fit-i.ensures (fit-lt _ _ (omega arith))

tested : (c : After-is_free) → let a = c.args in
    c.is_free.result ≡ free_at a.bound (word_at a.holds.now) (word_at a.marks.now) (item_at a.n (word_at a.order.now) c.loop-k.k)
tested c = let a = c.args in c.is_free.ensures ∙ ap (free_at a.bound (word_at a.holds.now) (word_at a.marks.now)) (c.fit-i.ensures ∙ ap (fit _) c.word.ensures.0)

pub is_free-requires : goal.is_free-requires
is_free-requires c = let l = inside c in omega arith

pub returns-then-is_free : goal.returns-then-is_free
returns-then-is_free c =
    let a = c.args in
    let l = c.loop-k in
    ap some (item (goal.at.returns-then-is_free c).After-fit-i) ∙ sym (items-hit a.n a.bound _ _ _ l.k (omega arith) (sym (tested (goal.at.returns-then-is_free c).After-is_free) ∙ c.if-is_free.true)) ∙ l.invariant

pub loop-k-preserved : goal.loop-k-preserved
loop-k-preserved c =
    let a = c.args in
    let l = c.loop-k in
    sym (items-miss a.n a.bound _ _ _ l.k (omega arith) (sym (tested (goal.at.loop-k-preserved c).After-is_free) ∙ c.if-is_free.false)) ∙ l.invariant

pub returns : goal.returns
returns c = sym (items-done _ _ _ _ _ _ c.loop-k-test.false) ∙ c.loop-k.invariant
