-- The slots of a shape that is served fit into the host's bytes.
use Rattle.std.specs.Prelude.{◌≡◌, true, ℕ, suc, ◌+◌, ◌-◌, ◌*◌, ◌^◌, ◌≤◌, leb}
use Rattle.std.proofs.Common.{ap, ◌∙◌, suc-mul, mul-le-mul_right, pow-suc, add-one, arith, pow_mono, leb-true}
use Rattle.lists.specs.Tests.{and_l, and_r}
use Rattle.rules.specs.Shape.{Shape, slots, offset}
use Rattle.rules.specs.State.{cmd}
use Rattle.rules.proofs.Laws.Levels.{two-slots}
use Rattle.session.specs.Session.{most_blocks, host_room, serves, start}
use Rattle.session.specs.Answers.{Slot}

pub slots-most : (ℓ : ℕ) → ℓ ≤ 8 → slots ℓ ≤ 512
slots-most ℓ l = pow_mono {i = ℓ + 1} {j = 9} (omega arith)

-- a product of bounded numbers is bounded
pub product_le : (a b c d : ℕ) → a ≤ c → b ≤ d → a * b ≤ c * d
product_le a b c d k l = omega (arith, mul-le-mul_right b k, swapped)
  where
    swap : (x y : ℕ) → x * y ≡ y * x
    swap x y = omega arith

    swapped : c * b ≤ c * d
    swapped = omega (arith, mul-le-mul_right c l, swap b c, swap d c)

pub room-served : (h : Shape) → serves h ≡ true → h.P * (slots h.L - 2) * h.B ≤ host_room
unfolding serves
room-served h e = leb-true (h.P * (slots h.L - 2) * h.B) host_room (and_r (leb h.N most_blocks) (leb (h.P * (slots h.L - 2) * h.B) host_room) e)

pub blocks-served : (h : Shape) → serves h ≡ true → h.N ≤ 64
unfolding serves
blocks-served h e = leb-true h.N most_blocks (and_l (leb h.N most_blocks) (leb (h.P * (slots h.L - 2) * h.B) host_room) e)

-- where a slot is, counted in slots: the code's sum, its parts and the bytes up to its end
pub record Spot (h : Shape) (q ℓ i : ℕ) : Type 0 where
  pub top : 2 ≤ slots h.L
  pub most : slots h.L ≤ 512
  pub own : 2 ≤ slots ℓ
  pub row : q * (slots h.L - 2) ≤ 64 * 512
  pub spot : (slots ℓ - 2) + i + 1 ≤ slots h.L - 2
  pub bytes : (q * (slots h.L - 2) + (slots ℓ - 2) + i) * h.B + h.B ≤ host_room
  pub start : (q * (slots h.L - 2) + (slots ℓ - 2) + i) * h.B ≡ start h (cmd 0 q ℓ i)

pub spot : (h : Shape) (q ℓ i : ℕ) → Slot h (cmd 0 q ℓ i) → Spot h q ℓ i
unfolding start offset
spot h q ℓ i f =
    let top = two-slots h.L in
    let most = slots-most h.L f.levels in
    let own = two-slots ℓ in
    let row = product_le q (slots h.L - 2) 64 512 (omega (arith, f.partition, f.partitions)) (omega arith) in
    let above : slots ℓ + slots ℓ ≤ slots h.L = doubled in
    let within : (slots ℓ - 2) + i + 1 ≤ slots h.L - 2 = omega (arith, f.slot) in
    record {
      top = top;
      most = most;
      own = own;
      row = row;
      spot = within;
      bytes = ended within;
      start = ap (λ n. n * h.B) (moved (q * (slots h.L - 2)) (slots ℓ - 2) i);
    }
  where
    moved : (a b c : ℕ) → a + b + c ≡ a + (b + c)
    moved a b c = omega arith

    twice : (k : ℕ) → 2 ^ (k + 1) ≡ 2 ^ k * 2
    twice k = ap (λ n. 2 ^ n) (add-one k) ∙ pow-suc 2 k

    doubled : slots ℓ + slots ℓ ≤ slots h.L
    doubled = omega (arith, pow_mono {i = ℓ + 1 + 1} {j = h.L + 1} (omega (arith, f.level)), twice (ℓ + 1))

    ended : (slots ℓ - 2) + i + 1 ≤ slots h.L - 2 → (q * (slots h.L - 2) + (slots ℓ - 2) + i) * h.B + h.B ≤ host_room
    ended w =
        let rows : q * (slots h.L - 2) + (slots h.L - 2) ≤ h.P * (slots h.L - 2) = omega (arith, mul-le-mul_right (slots h.L - 2) f.partition, suc-mul q (slots h.L - 2)) in
        let n : suc (q * (slots h.L - 2) + (slots ℓ - 2) + i) ≤ h.P * (slots h.L - 2) = omega arith in
        omega (arith, mul-le-mul_right h.B n, suc-mul (q * (slots h.L - 2) + (slots ℓ - 2) + i) h.B, room-served h f.serves)
