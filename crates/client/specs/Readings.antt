-- What the code reads of the client and of the tables is what the state has.
use Rattle.std.specs.Prelude.{◌≡◌, true, List, length, get_or}
use Rattle.std.proofs.Math.Path.{refl, ap, sym}
use Rattle.std.proofs.Common.{◌∙◌, arith, eq-eqb, ne_eqb, lt-ltb}
use Rattle.std.proofs.Math.Bool.{false}
use Rattle.std.proofs.Math.Option.{Option, none, some}
use Prim.Native.Nat.{ℕ, zero, suc, ◌+◌, ◌^◌, ◌<◌}
use Rattle.lists.specs.Search.{is_none}
use Rattle.rules.specs.Shape.{slots}
use Rattle.rules.specs.State as R
use Rattle.rules.specs.Request.{held}
use Rattle.memory.specs.Tables.{Tables, tables_of}
use Rattle.memory.specs.Fits.{shape_of, fit}
use Rattle.client.specs.declared.Client.{Client}
use Rattle.client.specs.View.{state_of, view, found_as, found_by, hand_by, request_of, bytes_in, place_of}
use Rattle.client.specs.Rows.{length-rows, get_d_rows}

-- a number says where a block was found, and back
pub number-as : (n : ℕ) → R.found_number (found_as n) ≡ n
unfolding R.found_number found_as
number-as zero = refl
number-as (suc zero) = refl
number-as (suc (suc ℓ)) = omega arith

pub as_number : (x : R.Found) → found_as (R.found_number x) ≡ x
unfolding found_as R.found_number
as_number R.found_nowhere = refl
as_number R.found_cache = refl
as_number (R.found_level ℓ) = let e : ℓ + 2 ≡ suc (suc ℓ) = omega arith in ap found_as e

abbrev number_by : Option R.Found → ℕ
number_by none = 0
number_by (some x) = suc (R.found_number x)

number_by_lem : (n : ℕ) → number_by (found_by n) ≡ n
unfolding found_by
number_by_lem zero = refl
number_by_lem (suc n) = ap suc (number-as n)

pub same-found : (n k : ℕ) → found_by n ≡ found_by k → n ≡ k
same-found n k e = sym (number_by_lem n) ∙ ap number_by e ∙ number_by_lem k

-- how many jobs are queued, blocks wait and commands are outstanding
module _ (c : Client) (t : Tables) where
  pub jobs-are : length (view c t).queue ≡ c.jobs
  unfolding view
  jobs-are = length-rows _ c.jobs

  pub waiting-are : length (view c t).waiting ≡ c.waiting
  unfolding view
  waiting-are = length-rows _ c.waiting

  pub out-are : length (view c t).outstanding ≡ c.out
  unfolding view
  out-are = length-rows _ c.out

module _ (c : Client) (m : List ℕ) where
  pub jobs-count : length (state_of c m).queue ≡ c.jobs
  unfolding state_of
  jobs-count = jobs-are c (tables_of (shape_of c.shape) m)

  pub waiting-count : length (state_of c m).waiting ≡ c.waiting
  unfolding state_of
  waiting-count = waiting-are c (tables_of (shape_of c.shape) m)

  pub out-count : length (state_of c m).outstanding ≡ c.out
  unfolding state_of
  out-count = out-are c (tables_of (shape_of c.shape) m)

  -- the request in hand
  abbrev pub hand_of : R.Request
  hand_of = hand_by c.request ((tables_of (shape_of c.shape) m).blocks c.shape.n)

  pub hand-none : c.request.kind ≡ 0 → (state_of c m).request ≡ none
  unfolding state_of view request_of
  hand-none e = rw (eq-eqb c.request.kind 0 e)

  pub hand-some : (c.request.kind ≡ 0 → ⊥) → (state_of c m).request ≡ some hand_of
  unfolding state_of view request_of
  hand-some n = rw (ne_eqb c.request.kind 0 n)

  -- it is held while its number is 0
  pub hand-held : c.request.found ≡ 0 → held hand_of ≡ true
  unfolding held is_none found_by
  hand-held e = ap (λ x. is_none (found_by x)) e

  pub hand-released : (c.request.found ≡ 0 → ⊥) → held hand_of ≡ false
  unfolding held is_none found_by
  hand-released n = go c.request.found n
    where
      go : (x : ℕ) → (x ≡ 0 → ⊥) → is_none (found_by x) ≡ false
      go zero n = absurd (n refl)
      go (suc x) n = refl

  -- numbers of the tables
  pub partition-is : (b p : ℕ) → p ≡ fit c.shape.p ((tables_of (shape_of c.shape) m).partition b) → (state_of c m).partition b ≡ p
  unfolding state_of view
  partition-is b p e = sym e

  pub counter-is : (q x : ℕ) → x ≡ fit (2 ^ c.shape.l) ((tables_of (shape_of c.shape) m).counter q) → (state_of c m).counter q ≡ x
  unfolding state_of view
  counter-is q x e = sym e

  pub place-as : (b x : ℕ) → x ≡ fit (slots c.shape.l) ((tables_of (shape_of c.shape) m).place b) → (state_of c m).place b ≡ place_of c.shape.l x
  unfolding state_of view
  place-as b x e = ap (place_of c.shape.l) (sym e)

  pub bytes-as : (b : ℕ) → b < c.shape.n → (state_of c m).bytes b ≡ (tables_of (shape_of c.shape) m).blocks b
  unfolding state_of view bytes_in
  bytes-as b l = rw (lt-ltb b c.shape.n l)

  pub waiting-at : (j : ℕ) → j < c.waiting → get_or (state_of c m).waiting j 0 ≡ fit c.shape.n ((tables_of (shape_of c.shape) m).waiting j)
  unfolding state_of view
  waiting-at j l = get_d_rows (λ i. fit c.shape.n ((tables_of (shape_of c.shape) m).waiting i)) c.waiting j 0 l
