-- The memory from its start, as far as it is lent: it stands for the same state as the whole where it has what the shape needs.
use Rattle.std.specs.Prelude.{◌≡◌, List, ◌++◌, ℕ, ◌+◌, ◌*◌, ◌≤◌, ◌<◌, length, take, drop}
use Rattle.std.proofs.Common.{sym, ap, ◌∙◌, arith, length-drop}
use Rattle.std.proofs.Math.Path.{fun_ext}
use Rattle.std.proofs.Math.Decide.{dec_lt}
use Rattle.std.proofs.Math.ListN.{get_or-append}
use Rattle.std.proofs.lemmas.List.{take-append-le, drop-append-le}
use Rattle.rules.specs.Shape.{Shape}
use Rattle.rules.specs.Memory.{needed}
use Rattle.memory.specs.Words.{word_at, window, window-in, window-past}
use Rattle.memory.specs.Blocks.{cells, block_start, block_table, block-is, block-past}
use Rattle.memory.specs.Tables.{tables_of, queue_at, kinds_at, spots_at, counter_at, partition_at, place_at, waiting_at, order_at, holds_at, mark_at}
use Rattle.memory.specs.Fits.{shape_of}
use Rattle.client.specs.declared.Client.{Client}
use Rattle.client.specs.View.{state_of, view}
use Rattle.contract.specs.Buffers.{block_last}

module _ (m rest : List ℕ) where
  word-lent : (k : ℕ) → k * 2 + 1 < length m → word_at (m ++ rest) k ≡ word_at m k
  unfolding word_at
  word-lent k l = rw (get_or-append m rest 0 (k * 2) (omega arith), get_or-append m rest 0 (k * 2 + 1) l)

  window-lent : (base n : ℕ) → (base + n) * 2 ≤ length m → window base n (m ++ rest) ≡ window base n m
  window-lent base n l = fun_ext (λ i. go i (dec_lt i n))
    where
      go : (i : ℕ) → Dec (i < n) → window base n (m ++ rest) i ≡ window base n m i
      go i (yes k) = window-in base n (m ++ rest) i k ∙ word-lent (base + i) (omega arith) ∙ sym (window-in base n m i k)
      go i (no k) = window-past base n (m ++ rest) i (omega arith) ∙ sym (window-past base n m i (omega arith))

module _ (h : Shape) (m : List ℕ) (long : needed h ≤ length m) where
  block-lent : (rest : List ℕ) → block_table h (m ++ rest) ≡ block_table h m
  block-lent rest = fun_ext (λ b. go b (dec_lt h.N b))
    where
      go : (b : ℕ) → Dec (h.N < b) → block_table h (m ++ rest) b ≡ block_table h m b
      go b (yes k) = block-past h (m ++ rest) b k ∙ sym (block-past h m b k)
      go b (no k) =
          let e : block_start h b + h.B ≤ length m = omega (arith, block_last h b (omega arith)) in
          block-is h (m ++ rest) b (omega arith)
          ∙ ap (take h.B) (drop-append-le (block_start h b) m rest (omega arith))
          ∙ take-append-le h.B (drop (block_start h b) m) rest (omega (arith, length-drop (block_start h b) m))
          ∙ sym (block-is h m b (omega arith))

-- all tables but the tail are the same
pub state-lent : (c : Client) (m rest : List ℕ) → needed (state_of c m).shape ≤ length m → state_of c (m ++ rest) ≡ state_of c m
unfolding state_of view tables_of needed
state-lent c m rest long =
    let h = shape_of c.shape in
    λ k. view c (record {
      queue = window-lent m rest (queue_at h) 64 (omega arith) k;
      kinds = window-lent m rest (kinds_at h) 32 (omega arith) k;
      spots = window-lent m rest (spots_at h) 32 (omega arith) k;
      counter = window-lent m rest (counter_at h) 64 (omega arith) k;
      partition = window-lent m rest (partition_at h) h.N (omega arith) k;
      place = window-lent m rest (place_at h) h.N (omega arith) k;
      waiting = window-lent m rest (waiting_at h) h.N (omega arith) k;
      order = window-lent m rest (order_at h) (cells h) (omega arith) k;
      holds = window-lent m rest (holds_at h) (cells h) (omega arith) k;
      mark = window-lent m rest (mark_at h) (cells h) (omega arith) k;
      blocks = block-lent h m long rest k;
      tail = m;
    })
