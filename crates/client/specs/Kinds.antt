-- The kinds of requests and of commands, by their numbers.
use Rattle.std.specs.Prelude.{◌≡◌, refl, true, false, ℕ, zero, suc, ◌≤◌, eqb, leb, Result, MatchResult}
use Rattle.std.proofs.Common.{arith}
use Rattle.std.proofs.lemmas.Bool.{lt-leb}
use Rattle.lists.specs.Tests.{between, and-false}
use Rattle.rules.specs.State.{read, write}
use Rattle.rules.specs.Ranges.{is_kind}
use Rattle.client.specs.declared.Kind.{Kind}
use Rattle.client.specs.declared.Kind.TheVariants.{Read, Write}
use Rattle.client.specs.contracts.Kind.{the_type}
use denote.Enum.Bare.{sameb}
use Rattle.client.specs.declared.NoKind.{NoKind}

-- "Kinds are 1 read and 2 write"
abbrev pub kind_number : Kind → ℕ
kind_number Read = read
kind_number Write = write

-- the kind with this number, or an error for a number of none
abbrev pub Says : ℕ → Result Kind NoKind → Type 0
Says n r = MatchResult r (λ k. kind_number k ≡ n) (λ e. is_kind n ≡ false)

pub kind-range : (k : Kind) → (1 ≤ kind_number k) × (kind_number k ≤ 2)
kind-range k = grind arith

pub named_kind : (k : Kind) → is_kind (kind_number k) ≡ true
unfolding is_kind between
named_kind Read = refl
named_kind Write = refl

-- a number that is none of the two
pub no-kind : (n : ℕ) → (n ≡ read → ⊥) → (n ≡ write → ⊥) → is_kind n ≡ false
unfolding is_kind between
no-kind zero a b = refl
no-kind (suc zero) a b = absurd (a refl)
no-kind (suc (suc zero)) a b = absurd (b refl)
no-kind (suc (suc (suc n))) a b = and-false (leb 1 (suc (suc (suc n)))) (lt-leb (suc (suc (suc n))) 2 (omega arith))

-- kinds are the same if their numbers are
pub same-kind : (k j : Kind) → sameb the_type k j ≡ eqb (kind_number k) (kind_number j)
same-kind Read Read = refl
same-kind Read Write = refl
same-kind Write Read = refl
same-kind Write Write = refl
