-- How long the parts of a payload are.
use Rattle.std.specs.Prelude.{◌≡◌, refl, Bool, true, List, length}
use Rattle.std.proofs.Math.Path.{ap}
use Rattle.std.proofs.Common.{sym, ◌∙◌, mod-eq_of_lt, mul-add, mul-le-mul, length-append}
use Rattle.std.proofs.Math.Bool.{false}
use Prim.Native.Nat.{ℕ, zero, suc, ◌+◌, ◌-◌, ◌*◌, ◌/◌, ◌%◌, ◌^◌, ◌≤◌, ◌<◌}
use Rattle.std.proofs.Math.Nat.{mod-one, mod-lt}
use native.Mathlib.Omega.{arith}
use Rattle.std.proofs.lemmas.Nat.{mod-pow-add}
use borrow.Author.Tests.{eqb-true, eqb-false, le-ltb}
use Rattle.lists.specs.Search.{below, count, member}
use Rattle.lists.specs.Lengths.{length-below}
use Rattle.rules.specs.Shape.{slots}
use Rattle.rules.specs.State.{State}
use Rattle.rules.specs.Levels.{filled}
use Rattle.rules.specs.Form.Numbers.{each}
use Rattle.rules.specs.Form.Payload.{place_bytes, block_bytes, payload}
use Rattle.rules.proofs.Laws.Form.Numbers.{length-little, length-each}
use Rattle.rules.proofs.Laws.Form.Fits.{all_any, level-length}
use Rattle.client.specs.declared.Client.{Client}
use Rattle.client.specs.View.{state_of, place_of, level_of}
use Rattle.client.specs.Changes.{nowhere-is}
use Rattle.client.specs.Moves.{Room}
use Rattle.saving.specs.Parts.{width_of, counter_in, job_in, level_in, partition_in, waiter_in, each_last, parts-length}
use Rattle.saving.specs.Entries.{waiter-length}

-- one number more
pub each-grows : (f : ℕ → List ℕ) (i : ℕ) → length (each f (below (i + 1))) ≡ length (each f (below i)) + length (f i)
each-grows f i = ap length (each_last f i) ∙ length-append (each f (below i)) (f i)

-- where each has n bytes
each-size : (f : ℕ → List ℕ) (n k : ℕ) → ((i : ℕ) → length (f i) ≡ n) → length (each f (below k)) ≡ k * n
each-size f n k h = length-each f n (all_any (below k) h) ∙ ap (λ j. j * n) (length-below k)

-- ---- Places

pub waits-size : (w : ℕ) (s : State) (b : ℕ) → member b s.waiting ≡ true → length (place_bytes w (member b s.waiting) (s.place b)) ≡ 1
unfolding place_bytes
waits-size w s b e = rw e

pub nowhere-size : (w : ℕ) (s : State) (b n x : ℕ) → member b s.waiting ≡ false → s.place b ≡ place_of n x → x < 2 → length (place_bytes w (member b s.waiting) (s.place b)) ≡ 1
unfolding place_bytes
nowhere-size w s b n x e p l = rw (e, p, nowhere-is n x l)

pub stored-size : (w : ℕ) (s : State) (b n x : ℕ) → member b s.waiting ≡ false → s.place b ≡ place_of n x → 2 ≤ x → length (place_bytes w (member b s.waiting) (s.place b)) ≡ 1 + w
unfolding place_bytes place_of
stored-size w s b n x e p l = rw (e, p, le-ltb x 2 l) (omega (arith, length-little w (x - slots (level_of n x))))

-- ---- Levels

module _ (w : ℕ) (s : State) (q : ℕ) where
  abbrev digits : ℕ
  digits = s.counter q

  -- the levels below n are the counter's n lowest digits
  low-levels : (n : ℕ) → length (each (level_in w s q) (below n)) ≡ (w + 1) * (2 * (digits % 2 ^ n))
  low-levels zero = unfold each below count in (rw (mod-one digits) (omega arith))
  low-levels (suc n) = next (low-levels n)
    where
      e : 1 + n ≡ suc n
      e = omega arith

      up : 2 ^ (n + 1) ≡ 2 * 2 ^ n
      up = let z : n + 1 ≡ suc n = omega arith in ap (λ k. 2 ^ k) z ∙ omega arith

      all : digits % 2 ^ suc n ≡ (digits / 2 ^ n % 2) * 2 ^ n + digits % 2 ^ n
      all = ap (λ k. digits % 2 ^ k) (sym e) ∙ mod-pow-add digits 1 n

      one : (t : Bool) → filled digits n ≡ t → length (level_in w s q n) ≡ (w + 1) * (2 * ((digits / 2 ^ n % 2) * 2 ^ n))
      one true h = unfold level_in filled in (
          rw (h, eqb-true (digits / 2 ^ n % 2) 1 h) (level-length w s q n ∙ ap (λ k. (w + 1) * k) (up ∙ omega arith))
          )
      one false h = unfold level_in filled in (
          let z : digits / 2 ^ n % 2 ≡ 0 = omega (arith, eqb-false (digits / 2 ^ n % 2) 1 h, mod-lt (digits / 2 ^ n) {m = 2} (omega arith)) in
          rw (h, z) (omega arith)
          )

      next : length (each (level_in w s q) (below n)) ≡ (w + 1) * (2 * (digits % 2 ^ n)) → length (each (level_in w s q) (below (suc n))) ≡ (w + 1) * (2 * (digits % 2 ^ suc n))
      next ih =
          let z : n + 1 ≡ suc n = omega arith in
          let d : 2 * ((digits / 2 ^ n % 2) * 2 ^ n + digits % 2 ^ n) ≡ 2 * ((digits / 2 ^ n % 2) * 2 ^ n) + 2 * (digits % 2 ^ n) = omega arith in
          ap (λ k. length (each (level_in w s q) (below k))) (sym z) ∙ each-grows (level_in w s q) n
          ∙ (λ i. ih i + one (filled digits n) refl i)
          ∙ omega (arith, mul-add (w + 1) (2 * ((digits / 2 ^ n % 2) * 2 ^ n)) (2 * (digits % 2 ^ n)), ap (λ k. (w + 1) * k) d, ap (λ k. (w + 1) * (2 * k)) all)

  pub partition-size : digits < 2 ^ s.shape.L → length (partition_in w s q) ≡ (w + 1) * (2 * digits)
  unfolding partition_in
  partition-size l = low-levels s.shape.L ∙ ap (λ k. (w + 1) * (2 * k)) (mod-eq_of_lt l)

-- ---- All of it

module _ (c : Client) (m : List ℕ) (r : Room c m) (blocks levels : ℕ) where
  pub payload-size : blocks ≡ length (each (block_bytes (width_of c.shape) (state_of c m)) (below c.shape.n))
      → levels ≡ length (each (partition_in (width_of c.shape) (state_of c m)) (below c.shape.p))
      → 15 + 2 * c.shape.p + 2 * c.jobs + blocks + levels + c.waiting * (4 + c.shape.b) ≡ length (payload (state_of c m))
  payload-size e d = omega (
    arith,
    parts-length c m,
    each-size (counter_in c m) 2 c.shape.p (λ i. length-little 2 _),
    each-size (job_in c m) 2 c.jobs (λ i. length-little 2 _),
    each-size (waiter_in c m) (4 + c.shape.b) c.waiting (λ i. waiter-length c m i r),
  )

-- the records of the cache are short enough for their sizes to be added
pub waiters-few : (n m b : ℕ) → n ≤ m → m ≤ 4096 → b ≤ 512 → n * (4 + b) ≤ 2113536
waiters-few n m b l u v =
    let few : n ≤ 4096 = omega arith in
    let short : 4 + b ≤ 516 = omega arith in
    mul-le-mul few short
