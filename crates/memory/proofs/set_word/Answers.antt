use mathlib.Core.Path.{refl}
use Rattle.memory.specs.Words.{set_word}
use Rattle.memory.proofs.set_word.Goals as goal

pub returns : goal.returns
unfolding set_word
returns c = rw c.to_le_bytes-bytes.ensures refl
