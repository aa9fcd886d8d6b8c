-- A part of the memory, replaced: one block, or all that a shape needs. The list is as a lent part of a slice leaves it.
use Rattle.std.specs.Prelude.{◌≡◌, ◌⊎◌, take, replicate}
use Rattle.std.proofs.Math.Path.{sym, ap, fun_ext}
use Rattle.std.proofs.Common.{◌∙◌, inl, inr, ⊎_elim, length-take-le, drop-drop}
use mathlib.Core.List.{List, ◌++◌}
use Prim.Native.Nat.{ℕ, suc, ◌+◌, ◌-◌, ◌*◌, ◌≤◌, ◌<◌}
use Rattle.std.proofs.Math.Nat.{suc-mul, mul-le-mul_right}
use native.Mathlib.Omega.{arith}
use Rattle.std.proofs.Math.Decide.{ℕ_discrete, dec_lt}
use Rattle.std.proofs.Math.ListN.{length, drop, get_or, length-append, length-drop, length-take, get_or-replicate, get_or-append}
use Rattle.std.proofs.lemmas.List.{length-replicate}
use Rattle.std.proofs.Math.Seq.{get_or-append-add, get_or-take, get_or-drop, ext_get_or}
use Rattle.lists.specs.Tables.{put, put_same, put_other}
use Rattle.rules.specs.Shape.{Shape}
use Rattle.rules.specs.Memory.{needed}
use Rattle.memory.specs.Words.{word_at, window, window-in, window-past}
use Rattle.memory.specs.Blocks.{blocks_at, block_start, block_table, block-is, block-past}
use Rattle.memory.specs.Tables.{Tables, tables_of, tables_by, start_of, size_of, with_blocks}
use Rattle.memory.specs.Stored.{end-table}

-- the list t, with v in the place of its elements from a on
unfoldable pub replaced : ℕ → List ℕ → List ℕ → List ℕ
replaced a t v = take a t ++ (v ++ drop (length v) (drop a t))

module _ (a : ℕ) (t v : List ℕ) (fits : a + length v ≤ length t) where
  front : length (take a t) ≡ a
  front = length-take-le a t (omega arith)

  pub length-replaced : length (replaced a t v) ≡ length t
  unfolding replaced
  length-replaced = rw (length-append, length-append, length-drop, length-drop, front) (omega arith)

  pub replaced-before : (i : ℕ) → i < a → get_or (replaced a t v) i 0 ≡ get_or t i 0
  unfolding replaced
  replaced-before i h = get_or-append (take a t) _ 0 i (rw front h) ∙ get_or-take a t i 0 h

  pub replaced-inside : (i : ℕ) → i < length v → get_or (replaced a t v) (a + i) 0 ≡ get_or v i 0
  unfolding replaced
  replaced-inside i h =
      ap (λ (k : ℕ). get_or (replaced a t v) (k + i) 0) (sym front)
      ∙ get_or-append-add (take a t) (v ++ drop (length v) (drop a t)) i 0
      ∙ get_or-append v (drop (length v) (drop a t)) 0 i h

  pub replaced-after : (i : ℕ) → a + length v ≤ i → get_or (replaced a t v) i 0 ≡ get_or t i 0
  unfolding replaced
  replaced-after i h =
      let e : i ≡ length (take a t) + (length v + (i - a - length v)) = omega (arith, front) in
      let f : a + length v + (i - a - length v) ≡ i = omega arith in
      ap (λ (k : ℕ). get_or (replaced a t v) k 0) e
      ∙ get_or-append-add (take a t) (v ++ drop (length v) (drop a t)) (length v + (i - a - length v)) 0
      ∙ get_or-append-add v (drop (length v) (drop a t)) (i - a - length v) 0
      ∙ ap (λ (s : List ℕ). get_or s (i - a - length v) 0) (drop-drop (length v) a t)
      ∙ get_or-drop (a + length v) t (i - a - length v) 0
      ∙ ap (λ (k : ℕ). get_or t k 0) f

  -- n elements from p on, where all of them lie outside the part, or all in it
  pub part-outside : (p n : ℕ) → ((i : ℕ) → i < n → p + i < a ⊎ (a + length v ≤ p + i)) → take n (drop p (replaced a t v)) ≡ take n (drop p t)
  part-outside p n out = ext_get_or 0 _ _ same (λ i l. at i l)
    where
      same : length (take n (drop p (replaced a t v))) ≡ length (take n (drop p t))
      same = length-take n (drop p (replaced a t v)) ∙ rw (length-drop p (replaced a t v), length-replaced) (sym (length-take n (drop p t) ∙ rw (length-drop p t)))

      at : (i : ℕ) → i < length (take n (drop p (replaced a t v))) → get_or (take n (drop p (replaced a t v))) i 0 ≡ get_or (take n (drop p t)) i 0
      at i l =
          let k : i < n = omega (arith, length-take n (drop p (replaced a t v))) in
          get_or-take n (drop p (replaced a t v)) i 0 k ∙ get_or-drop p (replaced a t v) i 0
          ∙ ⊎_elim (λ x. replaced-before (p + i) x) (λ x. replaced-after (p + i) x) (out i k)
          ∙ sym (get_or-take n (drop p t) i 0 k ∙ get_or-drop p t i 0)

  pub drop-after : (n : ℕ) → a + length v ≤ n → drop n (replaced a t v) ≡ drop n t
  drop-after n l = ext_get_or 0 _ _ (length-drop n (replaced a t v) ∙ rw length-replaced (sym (length-drop n t)))
      (λ i k. get_or-drop n (replaced a t v) i 0 ∙ replaced-after (n + i) (omega arith) ∙ sym (get_or-drop n t i 0))

-- ---- A block stored

module _ (h : Shape) (m : List ℕ) (long : needed h ≤ length m) (b : ℕ) (lb : b ≤ h.N) (v : List ℕ) (lv : length v ≡ h.B) where
  -- the block lies before the tail
  block_last : block_start h b + h.B ≤ needed h
  unfolding needed
  block_last = omega (arith, mul-le-mul_right h.B (more lb), suc-mul b h.B)
    where
      more : b ≤ h.N → suc b ≤ h.N + 1
      more l = omega arith

  pub block-end : block_start h b + h.B ≤ length m
  block-end = omega (arith, block_last)

  room : block_start h b + length v ≤ length m
  room = rw lv block-end

  m' : List ℕ
  m' = replaced (block_start h b) m v

  word-before : (k : ℕ) → k * 2 + 1 < blocks_at h → word_at m' k ≡ word_at m k
  unfolding word_at m'
  word-before k l = rw (replaced-before (block_start h b) m v room (k * 2) (omega arith), replaced-before (block_start h b) m v room (k * 2 + 1) (omega arith))

  window-before : (base n : ℕ) → (base + n) * 2 ≤ blocks_at h → window base n m' ≡ window base n m
  window-before base n l = fun_ext (λ i. go i (dec_lt i n))
    where
      go : (i : ℕ) → Dec (i < n) → window base n m' i ≡ window base n m i
      go i (yes k) = window-in base n m' i k ∙ word-before (base + i) (omega arith) ∙ sym (window-in base n m i k)
      go i (no k) = window-past base n m' i (omega arith) ∙ sym (window-past base n m i (omega arith))

  -- two blocks lie apart
  apart : (x : ℕ) → (x ≡ b → ⊥) → (i : ℕ) → i < h.B → block_start h x + i < block_start h b ⊎ (block_start h b + length v ≤ block_start h x + i)
  apart x n i l = go (dec_lt x b)
    where
      go : Dec (x < b) → block_start h x + i < block_start h b ⊎ (block_start h b + length v ≤ block_start h x + i)
      go (yes k) = inl (omega (arith, mul-le-mul_right h.B k, suc-mul x h.B))
      go (no k) = inr (omega (arith, mul-le-mul_right h.B (above n k), suc-mul b h.B))
        where
          above : (x ≡ b → ⊥) → ¬ (x < b) → suc b ≤ x
          above n k = omega arith

  block_here : take h.B (drop (block_start h b) m') ≡ v
  unfolding m'
  block_here = ext_get_or 0 _ v (omega (arith, length-take h.B (drop (block_start h b) m'), length-drop (block_start h b) m', length-replaced (block_start h b) m v room, block-end))
      (λ i l. let k : i < h.B = omega (arith, length-take h.B (drop (block_start h b) m')) in
      get_or-take h.B (drop (block_start h b) m') i 0 k ∙ get_or-drop (block_start h b) m' i 0 ∙ replaced-inside (block_start h b) m v room i (omega arith))

  block-set : block_table h m' ≡ put b v (block_table h m)
  unfolding m'
  block-set = fun_ext (λ x. go x (ℕ_discrete x b) (dec_lt h.N x))
    where
      go : (x : ℕ) → Dec (x ≡ b) → Dec (h.N < x) → block_table h m' x ≡ put b v (block_table h m) x
      go x (yes e) d = rw e (block-is h m' b lb ∙ block_here ∙ sym (put_same b v (block_table h m)))
      go x (no n) (yes g) = block-past h m' x g ∙ sym (block-past h m x g) ∙ sym (put_other b v (block_table h m) x n)
      go x (no n) (no g) = block-is h m' x (omega arith) ∙ part-outside (block_start h b) m v room (block_start h x) h.B (apart x n) ∙ sym (block-is h m x (omega arith)) ∙ sym (put_other b v (block_table h m) x n)

  tail-same : drop (needed h) m' ≡ drop (needed h) m
  unfolding m'
  tail-same = drop-after (block_start h b) m v room (needed h) (rw lv block_last)

  -- a block stored changes that block and nothing else
  pub set-blocks : tables_of h (replaced (block_start h b) m v) ≡ with_blocks (put b v (tables_of h m).blocks) (tables_of h m)
  unfolding tables_of m'
  set-blocks = λ k. tables_by (λ t. window-before (start_of h t) (size_of h t) (end-table h t) k) (block-set k) (tail-same k)

-- ---- All that a shape needs, cleared

-- what is there when every byte before the tail is 0
unfoldable pub empty : Shape → List ℕ → Tables
empty h rest = tables_by (λ t i. 0) (λ b. replicate h.B 0) rest

module _ (h : Shape) (m : List ℕ) (long : needed h ≤ length m) where
  clean : List ℕ
  clean = replaced 0 m (replicate (needed h) 0)

  all : length {A = ℕ} (replicate (needed h) 0) ≡ needed h
  all = length-replicate (needed h) 0

  room-all : 0 + length {A = ℕ} (replicate (needed h) 0) ≤ length m
  room-all = omega (arith, all)

  clean_at : (i : ℕ) → i < needed h → get_or clean i 0 ≡ 0
  unfolding clean
  clean_at i l = let e : i ≡ 0 + i = omega arith in ap (λ (k : ℕ). get_or clean k 0) e ∙ replaced-inside 0 m (replicate (needed h) 0) room-all i (rw all l) ∙ get_or-replicate (needed h) i 0 0 l

  window-clean : (base n : ℕ) → (base + n) * 2 ≤ blocks_at h → window base n clean ≡ (λ i. 0)
  unfolding needed word_at
  window-clean base n l = fun_ext (λ i. go i (dec_lt i n))
    where
      go : (i : ℕ) → Dec (i < n) → window base n clean i ≡ 0
      go i (yes k) = window-in base n clean i k ∙ rw (clean_at ((base + i) * 2) (omega arith), clean_at ((base + i) * 2 + 1) (omega arith))
      go i (no k) = window-past base n clean i (omega arith)

  block-clean : (b : ℕ) → b ≤ h.N → take h.B (drop (block_start h b) clean) ≡ replicate h.B 0
  unfolding clean
  block-clean b lb = ext_get_or 0 _ _ (long_as ∙ sym (length-replicate h.B 0)) (λ i l. at i (omega (arith, long_as)))
    where
      last : block_start h b + h.B ≤ needed h
      last = block_last h m long b lb (replicate h.B 0) (length-replicate h.B 0)

      long_as : length (take h.B (drop (block_start h b) clean)) ≡ h.B
      long_as = omega (arith, last, length-take h.B (drop (block_start h b) clean), length-drop (block_start h b) clean, length-replaced 0 m (replicate (needed h) 0) room-all)

      at : (i : ℕ) → i < h.B → get_or (take h.B (drop (block_start h b) clean)) i 0 ≡ get_or (replicate h.B 0) i 0
      at i l = get_or-take h.B (drop (block_start h b) clean) i 0 l ∙ get_or-drop (block_start h b) clean i 0 ∙ clean_at (block_start h b + i) (omega (arith, last)) ∙ sym (get_or-replicate h.B i 0 0 l)

  blocks-clean : block_table h clean ≡ (λ b. replicate h.B 0)
  blocks-clean = fun_ext (λ b. go b (dec_lt h.N b))
    where
      go : (b : ℕ) → Dec (h.N < b) → block_table h clean b ≡ replicate h.B 0
      go b (yes g) = block-past h clean b g
      go b (no g) = block-is h clean b (omega arith) ∙ block-clean b (omega arith)

  -- bytes cleared leave every table empty, and the tail as it was
  pub cleared-tables : tables_of h (replaced 0 m (replicate (needed h) 0)) ≡ empty h (drop (needed h) m)
  unfolding tables_of empty clean
  cleared-tables = λ k. tables_by (λ t. window-clean (start_of h t) (size_of h t) (end-table h t) k) (blocks-clean k)
      (drop-after 0 m (replicate (needed h) 0) room-all (needed h) (omega (arith, all)) k)

-- ---- A part from a to e, as a lent part of a slice leaves it
pub part-put : (a e : ℕ) (t v : List ℕ) → length v ≡ e - a → take a t ++ (v ++ drop (e - a) (drop a t)) ≡ replaced a t v
unfolding replaced
part-put a e t v l = rw l
