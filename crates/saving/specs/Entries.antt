-- What is written for one block, one slot and one waiting block, by the numbers that the code reads.
use Rattle.std.specs.Prelude.{◌≡◌, true, false, List, [], ◌∷◌, ◌++◌, length}
use Rattle.std.proofs.Math.Path.{ap}
use Rattle.std.proofs.Common.{sym, ◌∙◌, mod-eq_of_lt, length-append, pow_mono}
use Prim.Native.Nat.{ℕ, suc, ◌+◌, ◌-◌, ◌^◌, ◌≤◌, ◌<◌}
use native.Mathlib.Omega.{arith}
use Rattle.std.proofs.Math.Decide.{dec_lt}
use Rattle.lists.specs.Search.{member}
use Rattle.rules.specs.Shape.{slots, cell}
use Rattle.rules.specs.State.{State}
use Rattle.rules.specs.Memory.{needed}
use Rattle.rules.specs.Form.Numbers.{little}
use Rattle.rules.specs.Form.Payload.{place_bytes, block_bytes, waiter_bytes}
use Rattle.rules.proofs.Laws.Form.Numbers.{length-little}
use Rattle.rules.proofs.Laws.Layout.{cell-from}
use Rattle.memory.specs.Tables.{tables_of}
use Rattle.memory.specs.Fits.{shape_of, fit}
use Rattle.client.specs.declared.Client.{Client}
use Rattle.client.specs.View.{state_of, view, place_of}
use Rattle.client.specs.Changes.{place_is, nowhere-is}
use Rattle.client.specs.Moves.{Room}
use Rattle.contract.specs.Buffers.{state-whole}
use Rattle.saving.specs.Parts.{mark_in, waiting_in, waiter_in}

-- a byte is as it is
pub byte_small : (x : ℕ) → x < 256 → little 1 x ≡ x ∷ []
unfolding little
byte_small x l = ap (λ y. y ∷ []) (mod-eq_of_lt l)

-- ---- A block

pub nowhere-bytes : (w n x : ℕ) → x < 2 → place_bytes w false (place_of n x) ≡ little 1 255
unfolding place_bytes little
nowhere-bytes w n x l = ap (place_bytes w false) (nowhere-is n x l)

module _ (n x ℓ : ℕ) (some : 2 ≤ x) (top : x < slots n) (from : 2 ^ (ℓ + 1) ≤ x - 2 + 2) (to : x - 2 + 2 < 2 ^ (ℓ + 2)) where
  pub level-lt : ℓ < n
  level-lt = go (dec_lt ℓ n)
    where
      go : Dec (ℓ < n) → ℓ < n
      go (yes l) = l
      go (no l) = absurd (omega (arith, pow_mono {i = n + 1} {j = ℓ + 1} (omega arith)))

  pub stored_bytes : (w : ℕ) → n ≤ 8 → place_bytes w false (place_of n x) ≡ little 1 ℓ ++ little w (x - slots ℓ)
  unfolding place_bytes
  stored_bytes w few =
      let e : ℓ + 2 ≡ suc (ℓ + 1) = omega arith in
      let double : x - 2 + 2 < 2 ^ suc (ℓ + 1) = rw e at to in
      let k : slots ℓ + (x - slots ℓ) ≡ x = omega arith in
      ap (place_bytes w false) (ap (place_of n) (sym k) ∙ place_is n ℓ (x - slots ℓ) level-lt (omega arith))
      ∙ ap (λ xs. xs ++ little w (x - slots ℓ)) (sym (byte_small ℓ (omega (arith, level-lt))))

module _ (w : ℕ) (s : State) (b p : ℕ) (part : s.partition b ≡ p) where
  pub block-waits : member b s.waiting ≡ true → block_bytes w s b ≡ little 2 p ++ little 1 254
  unfolding block_bytes place_bytes little
  block-waits e = rw (part, e)

  pub block-else : (n x : ℕ) → member b s.waiting ≡ false → s.place b ≡ place_of n x → block_bytes w s b ≡ little 2 p ++ place_bytes w false (place_of n x)
  unfolding block_bytes
  block-else n x e place = rw (part, e, place)

-- ---- A slot

module _ (c : Client) (m : List ℕ) (q ℓ base i x : ℕ) (start : base ≡ cell (shape_of c.shape) q ℓ 0) (e : x ≡ fit 2 ((tables_of (shape_of c.shape) m).mark (base + i))) where
  pub mark-byte : little 1 (1 - x) ≡ mark_in (state_of c m) q ℓ i
  unfolding state_of view
  mark-byte =
      byte_small (1 - x) (omega arith)
      ∙ ap (λ y. (1 - y) ∷ []) (e ∙ ap (λ k. fit 2 ((tables_of (shape_of c.shape) m).mark k)) (ap (λ y. y + i) start ∙ cell-from (shape_of c.shape) q ℓ i))

-- ---- A waiting block

pub waiter-length : (c : Client) (m : List ℕ) (i : ℕ) → Room c m → length (waiter_in c m i) ≡ 4 + c.shape.b
unfolding waiter_bytes state_of view
waiter-length c m i r =
    let b = waiting_in c m i in
    length-append (little 2 b) (little 2 i ++ (state_of c m).bytes b)
    ∙ omega (arith, length-little 2 b, length-append (little 2 i) ((state_of c m).bytes b), length-little 2 i, state-whole c m (unfold needed in r.long) b)
