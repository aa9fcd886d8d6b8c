use Prim.Native.Nat.{◌+◌, ◌-◌, ◌*◌}
use Rattle.rules.specs.Form.Sums.{out_of_blocks}
use Rattle.forms.specs.At.{numbers_at}
use Rattle.loading.proofs.tables.numbers.Given as goal

abbrev pub ghost-lay : goal.ghost-lay
ghost-lay a = λ i. numbers_at (out_of_blocks a.number.0.now.bytes.now) 2 (a.n - i) (a.number.1.now + i * 2)
