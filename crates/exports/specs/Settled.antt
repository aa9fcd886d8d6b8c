-- What a turn and a completion hand back: a request is released in the bytes of the state, once the rest is stored there.
use Rattle.std.specs.Prelude.{◌≡◌, List, ℕ}
use Rattle.memory.specs.Words.{word_at}
use Rattle.contract.specs.Answers.{Answer}
use Rattle.releasing.specs.Released.{Released}
use Rattle.codec.specs.Codec.{client_of, Between, packed}

-- the words w of a state, and w' after a request is released
pub record ReleasedIn (w : ℕ → ℕ) (m : List ℕ) (w' : ℕ → ℕ) : Type 0 where
  pub released : Released (client_of w) m (client_of w')
  pub between : Between w w'

-- `stored` makes the words after an accepted call of those before it, and then a request is released
pub record HandedBackReleased (stored : (ℕ → ℕ) → ℕ → ℕ) (r : Answer) (m : List ℕ) (u : ℕ) (st st' : List ℕ) : Type 0 where
  pub answer : u ≡ packed r
  pub accepted : r.number ≡ 0 → ReleasedIn (stored (word_at st)) m (word_at st')
  pub refused : (r.number ≡ 0 → ⊥) → st' ≡ st
