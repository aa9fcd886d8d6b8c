-- Slots and commands: which one it is, and lists of commands in different slots.
use Rattle.std.specs.Prelude.{◌≡◌, refl, Bool, true, false, ◌&&◌, List, [], ◌∷◌, ◌++◌, ℕ, eqb}
use Rattle.std.proofs.Math.Decide.{ℕ_discrete}
use Rattle.std.proofs.Common.{eqb-true, eq-eqb}
use Rattle.lists.specs.All.{All, nil, cons, all_append, all_without}
use Rattle.lists.specs.Search.{without, without-yes, without-no}
use Rattle.lists.specs.Tests.{and_l, and_r, and-true}
use Rattle.rules.specs.Completion.{is_command}
use Rattle.rules.specs.State.{Command, cmd}
use Rattle.reachable.specs.Terms.{Apart, Elsewhere, none_apart, one_apart, One}

pub apart_snoc : {cs : List Command} (c : Command) → Apart cs → All (λ d. Elsewhere d c) cs → Apart (cs ++ (c ∷ []))
apart_snoc c none_apart nil = one_apart nil none_apart
apart_snoc c (one_apart a t) (cons h k) = one_apart (all_append a (cons h nil)) (apart_snoc c t k)

pub apart-without : (p : Command → Bool) {cs : List Command} → Apart cs → Apart (without p cs)
unfolding without
apart-without p none_apart = none_apart
apart-without p (one_apart {c = c} {cs = cs} a t) = go (p c) refl (apart-without p t)
  where
    go : (b : Bool) → p c ≡ b → Apart (without p cs) → Apart (without p (c ∷ cs))
    go true e k = rw (without-yes p c cs e) t
    go false e k = rw (without-no p c cs e) (one_apart (all_without p a) k)

-- Whether two slots are one
pub dec_one : (p m j q ℓ i : ℕ) → Dec (One p m j q ℓ i)
dec_one p m j q ℓ i = go (ℕ_discrete p q) (ℕ_discrete m ℓ) (ℕ_discrete j i)
  where
    go : Dec (p ≡ q) → Dec (m ≡ ℓ) → Dec (j ≡ i) → Dec (One p m j q ℓ i)
    go (yes a) (yes b) (yes c) = yes (a, b, c)
    go (no a) b c = no (λ w. a w.0)
    go (yes a) (no b) c = no (λ w. b w.1)
    go (yes a) (yes b) (no c) = no (λ w. c w.2)

-- Which command it is
pub command-is : (c d : Command) → is_command c d ≡ true → (c.kind ≡ d.kind) × One c.partition c.level c.slot d.partition d.level d.slot
unfolding is_command
command-is c d e =
    let a = and_l (eqb c.kind d.kind && eqb c.partition d.partition && eqb c.level d.level) (eqb c.slot d.slot) e in
    let b = and_l (eqb c.kind d.kind && eqb c.partition d.partition) (eqb c.level d.level) a in
    let k = and_l (eqb c.kind d.kind) (eqb c.partition d.partition) b in (
      eqb-true c.kind d.kind k,
      (
        eqb-true c.partition d.partition (and_r (eqb c.kind d.kind) (eqb c.partition d.partition) b),
        eqb-true c.level d.level (and_r (eqb c.kind d.kind && eqb c.partition d.partition) (eqb c.level d.level) a),
        eqb-true c.slot d.slot (and_r (eqb c.kind d.kind && eqb c.partition d.partition && eqb c.level d.level) (eqb c.slot d.slot) e),
      ),
    )

pub is-command : (c d : Command) → c.kind ≡ d.kind → One c.partition c.level c.slot d.partition d.level d.slot → is_command c d ≡ true
unfolding is_command
is-command c d k w = and-true (and-true (and-true (eq-eqb c.kind d.kind k) (eq-eqb c.partition d.partition w.0)) (eq-eqb c.level d.level w.1)) (eq-eqb c.slot d.slot w.2)

pub same-command : (c d : Command) → c.kind ≡ d.kind → One c.partition c.level c.slot d.partition d.level d.slot → c ≡ d
same-command c d k w = go c.kind d.kind c.partition d.partition c.level d.level c.slot d.slot k w.0 w.1 w.2
  where
    go : (k k' q q' ℓ ℓ' i i' : ℕ) → k ≡ k' → q ≡ q' → ℓ ≡ ℓ' → i ≡ i' → cmd k q ℓ i ≡ cmd k' q' ℓ' i'
    go k k' q q' ℓ ℓ' i i' a b c d = rw (a, b, c, d)
