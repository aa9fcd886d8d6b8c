use Prim.Native.Nat.{◌+◌, ◌-◌}
use Rattle.rules.specs.Form.Sums.{out_of_blocks}
use Rattle.forms.specs.At.{bytes_at}
use Rattle.loading.proofs.tables.order.Given as goal

abbrev pub ghost-lay : goal.ghost-lay
ghost-lay a = λ i. bytes_at (out_of_blocks a.number.0.now.bytes.now) (a.n - i) (a.number.1.now + i)
