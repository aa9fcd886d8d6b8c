-- Numbers and lists that were written are read back.
use Rattle.std.specs.Prelude.{◌≡◌, List, [], ◌∷◌, ◌++◌, map, ℕ, zero, suc, ◌*◌, ◌/◌, ◌^◌, ◌<◌, length}
use Rattle.std.proofs.Math.Path.{refl}
use Rattle.std.proofs.Common.{ap, sym, ◌∙◌, append_assoc, div-add-mod', div-lt_iff_lt-mul, pow-suc, zero-lt-suc}
use Rattle.std.proofs.Math.Option.{Option, some}
use native.Mathlib.Omega.{arith}
use Rattle.std.proofs.Math.ListN.{length-append}
use Rattle.lists.specs.All.{All, nil, cons}
use Rattle.rules.specs.Form.Numbers.{little, value, each}
use Rattle.rules.specs.Form.Reading.{and_then, get_bytes, get_number, get_each}

pub length-little : (n x : ℕ) → length (little n x) ≡ n
unfolding little
length-little zero x = refl
length-little (suc n) x = ap suc (length-little n (x / 256))

pub value-little : (n x : ℕ) → x < 256 ^ n → value (little n x) ≡ x
unfolding little value
value-little zero x h = omega arith
value-little (suc n) x h =
    let r : value (little n (x / 256)) ≡ x / 256 = value-little n (x / 256) ((div-lt_iff_lt-mul (zero-lt-suc 255)).1 (rw (pow-suc 256 n) at h)) in
    rw r (omega (arith, div-add-mod' x 256))

-- bytes
pub get-bytes : (xs r : List ℕ) → get_bytes (length xs) (xs ++ r) ≡ some (xs, r)
unfolding get_bytes and_then
get-bytes [] r = refl
get-bytes (x ∷ xs) r = rw (get-bytes xs r)

pub get-number : (w x : ℕ) (r : List ℕ) → x < 256 ^ w → get_number w (little w x ++ r) ≡ some (x, r)
unfolding get_number and_then
get-number w x r h = rw (bytes, value-little w x h)
  where
    bytes : get_bytes w (little w x ++ r) ≡ some (little w x, r)
    bytes = ap (λ n. get_bytes n (little w x ++ r)) (sym (length-little w x)) ∙ get-bytes (little w x) r

-- each of a list
module _ {K A : Type 0} (g : K → List ℕ → Option (A × List ℕ)) (p : K → List ℕ) (f : K → A) where
  abbrev pub Reads : K → Type 0
  Reads k = (r : List ℕ) → g k (p k ++ r) ≡ some (f k, r)

  pub get-each : {ks : List K} → All Reads ks → (r : List ℕ) → get_each g ks (each p ks ++ r) ≡ some (map f ks, r)
  unfolding get_each each and_then
  get-each nil r = refl
  get-each (cons {x = k} {xs = ks} h t) r = rw (append_assoc (p k) (each p ks) r, h (each p ks ++ r), get-each t r)

-- what a list's elements have written
module _ {A : Type 0} where
  pub length-each : (p : A → List ℕ) (n : ℕ) {xs : List A} → All (λ x. length (p x) ≡ n) xs → length (each p xs) ≡ length xs * n
  unfolding each
  length-each p n nil = omega arith
  length-each p n (cons {x = x} {xs = xs} h t) = omega (arith, length-append (p x) (each p xs), h, length-each p n t)
