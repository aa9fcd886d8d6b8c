-- Blocks of B bytes behind the tables, and a part of the memory that is replaced.
use Rattle.std.specs.Prelude.{◌≡◌, true, false, List, ℕ, ◌+◌, ◌*◌, ◌≤◌, ◌<◌, leb, take, drop, set, replicate}
use Rattle.std.proofs.Common.{sym, ap, ◌∙◌, arith, drop-set-lt, le-leb}
use Rattle.std.proofs.Math.Path.{fun_ext}
use Rattle.std.proofs.Math.Decide.{dec_lt}
use Rattle.std.proofs.lemmas.Bool.{lt-leb}
use Rattle.rules.specs.Shape.{Shape, slots}
use Rattle.rules.specs.Memory.{needed}
use Rattle.memory.specs.Words.{set_word}

-- the cells of all levels of all partitions
abbrev pub cells : Shape → ℕ
cells h = h.P * slots h.L

-- the first byte of the blocks, and of block b
abbrev pub blocks_at : Shape → ℕ
blocks_at h = 384 + 6 * h.N + 6 * cells h

abbrev pub block_start : Shape → ℕ → ℕ
block_start h b = blocks_at h + b * h.B

unfoldable pub block_table : Shape → List ℕ → ℕ → List ℕ
block_table h m b = elim (leb b h.N) [ true ↦ take h.B (drop (block_start h b) m) | false ↦ replicate h.B 0 ]

module _ (h : Shape) (m : List ℕ) where
  pub block-is : (b : ℕ) → b ≤ h.N → block_table h m b ≡ take h.B (drop (block_start h b) m)
  unfolding block_table
  block-is b l = rw (le-leb b h.N l, block_table)

  pub block-past : (b : ℕ) → h.N < b → block_table h m b ≡ replicate h.B 0
  unfolding block_table
  block-past b l = rw (lt-leb b h.N l, block_table)

-- A number stored before byte n leaves what is from there on
drop-word : (n : ℕ) (m : List ℕ) (k v : ℕ) → k * 2 + 1 < n → drop n (set_word m k v) ≡ drop n m
unfolding set_word
drop-word n m k v l = drop-set-lt n (set m (k * 2) _) (k * 2 + 1) _ l ∙ drop-set-lt n m (k * 2) _ (omega arith)

module _ (h : Shape) (m : List ℕ) (k v : ℕ) (l : k * 2 + 1 < blocks_at h) where
  pub block-else : block_table h (set_word m k v) ≡ block_table h m
  block-else = fun_ext (λ b. go b (dec_lt h.N b))
    where
      go : (b : ℕ) → Dec (h.N < b) → block_table h (set_word m k v) b ≡ block_table h m b
      go b (yes g) = block-past h (set_word m k v) b g ∙ sym (block-past h m b g)
      go b (no g) = block-is h (set_word m k v) b (omega arith) ∙ ap (take h.B) (drop-word (block_start h b) m k v (omega arith)) ∙ sym (block-is h m b (omega arith))

  pub drop-else : drop (needed h) (set_word m k v) ≡ drop (needed h) m
  unfolding needed
  drop-else = drop-word (needed h) m k v (omega arith)
