use mathlib.Core.Path.{sym}
use Rattle.tape.specs.Tape.{length-words}
use Rattle.tape.proofs.words.Goals as goal

pub returns : goal.returns
returns c = sym (length-words c.args.t.now)
