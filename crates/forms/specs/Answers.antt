-- The questions about a form's blocks, levels and records, one after the other.
use Rattle.std.specs.Prelude.{◌≡◌, Some, None, Bool, ◌&&◌, List, ℕ, ◌+◌, ◌-◌, ◌≤◌, ◌<◌, eqb, length, drop, replicate}
use Rattle.std.proofs.Math.Path.{refl}
use Rattle.std.proofs.Math.Bool.{true, false}
use Rattle.std.proofs.Math.Dec.{ltb}
use borrow.Author.Tests.{le-leb, lt-leb, lt-ltb, le-ltb}
use Rattle.lists.specs.Search.{all}
use Rattle.lists.specs.Tests.{every}
use Rattle.rules.specs.Shape.{Shape}
use Rattle.forms.specs.At.{wait_count}
use Rattle.forms.specs.Blocks.{blocks_at, counter_in, all_stand}
use Rattle.forms.specs.Asked.{records_end, records_fit, body_fits, behind_levels}
use Rattle.forms.specs.Once.{fresh_in}
use Rattle.forms.specs.Records.{numbers_by, away}

module _ (p : List ℕ) (N B b n a : ℕ) where
  pub records-long : length p < records_end p B n a → records_fit p N B b n a ≡ false
  unfolding records_fit every
  records-long l = rw (lt-leb (records_end p B n a) (length p) l)

  module _ (l : records_end p B n a ≤ length p) where
    pub records-short : 508 ≤ length p - records_end p B n a → records_fit p N B b n a ≡ false
    unfolding records_fit every
    records-short k = rw (le-leb (records_end p B n a) (length p) l, le-ltb (length p - records_end p B n a) 508 k)

    pub records-are : length p - records_end p B n a < 508 → records_fit p N B b n a
        ≡ (fresh_in (λ x. ltb x N) (away (replicate 4096 0) 0 (blocks_at p N b)) (numbers_by p (4 + B) n a) && fresh_in (λ x. ltb x n) (replicate 4096 0) (numbers_by p (4 + B) n (a + 2)) && all (eqb 0) (drop (records_end p B n a) p))
    unfolding records_fit every
    records-are k = rw (le-leb (records_end p B n a) (length p) l, lt-ltb (length p - records_end p B n a) 508 k) (go (fresh_in (λ x. ltb x N) (away (replicate 4096 0) 0 (blocks_at p N b)) (numbers_by p (4 + B) n a)) _ _)
      where
        go : (x y z : Bool) → (x && (y && (z && true))) ≡ (x && y && z)
        go true true true = refl
        go true true false = refl
        go true false z = refl
        go false y z = refl

module _ (p : List ℕ) (h : Shape) (b : ℕ) where
  pub body-placed : all_stand h (counter_in p h.P) (replicate 32768 0) (blocks_at p h.N b) ≡ false → body_fits p h b ≡ false
  unfolding body_fits every
  body-placed e = rw e

  module _ (e : all_stand h (counter_in p h.P) (replicate 32768 0) (blocks_at p h.N b) ≡ true) where
    pub body-many : h.E < wait_count (blocks_at p h.N b) → body_fits p h b ≡ false
    unfolding body_fits every
    body-many l = rw (e, lt-leb (wait_count (blocks_at p h.N b)) h.E l)

    module _ (l : wait_count (blocks_at p h.N b) ≤ h.E) where
      pub body-level : behind_levels p h b ≡ None → body_fits p h b ≡ false
      unfolding body_fits every
      body-level k = rw (e, le-leb (wait_count (blocks_at p h.N b)) h.E l, k)

      pub body_is : (a : ℕ) → behind_levels p h b ≡ Some a → body_fits p h b ≡ records_fit p h.N h.B b (wait_count (blocks_at p h.N b)) a
      unfolding body_fits every
      body_is a k = rw (e, le-leb (wait_count (blocks_at p h.N b)) h.E l, k) (last (records_fit p h.N h.B b (wait_count (blocks_at p h.N b)) a))
        where
          last : (t : Bool) → (t && true) ≡ t
          last true = refl
          last false = refl
