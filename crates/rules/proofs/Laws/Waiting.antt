-- The blocks that wait fit the cache, with the request's own.
use Rattle.std.specs.Prelude.{◌≡◌, Bool, true, false, ◌||◌, not, List, [], ◌∷◌, ℕ, suc, ◌≤◌, ◌<◌, length, eqb, ltb}
use Rattle.std.proofs.Math.Path.{refl}
use Rattle.std.proofs.Common.{ap, sym, ◌∙◌, true≢false, arith, eqb-true, eq-eqb, ne_eqb, le-leb, ltb-true, lt-ltb}
use Rattle.std.proofs.Math.Option.{Option, none, some}
use Rattle.std.proofs.lemmas.Bool.{eqb-false}
use Rattle.lists.specs.Search.{keep, any, member, without, keep-yes, keep-no}
use Rattle.rules.specs.Request
use Rattle.rules.specs.Rebuild
use Rattle.rules.specs.State.{Request}
use Rattle.rules.specs.Ranges.{cache_fits, others}
use Rattle.lists.specs.Tests.{and-true, or_left, or_right}
use Rattle.lists.specs.Lengths.{without-length, keep-le, keep-without-le}
use Rattle.rules.specs.Laws.Waiting.{Waits}

pub waits-fits : (e : ℕ) (xs : List ℕ) (r : Option Request) → Waits e xs r → cache_fits e xs r ≡ true
unfolding cache_fits
waits-fits e xs none h = le-leb (length xs) e h
waits-fits e xs (some r) h = and-true (le-leb (length xs) e h.0) (lt-ltb (length (others xs r.block)) e h.1)

pub waits-more : (e n : ℕ) (xs : List ℕ) (r : Option Request) → e ≤ n → Waits e xs r → Waits n xs r
waits-more e n xs none le h = omega arith
waits-more e n xs (some r) le h = omega arith

others-member : (b : ℕ) (xs : List ℕ) → member b xs ≡ true → length (others xs b) < length xs
unfolding keep member any others
others-member b [] h = absurd (true≢false (sym h))
others-member b (x ∷ xs) h = go (eqb b x) (eqb x b) refl refl h (others-member b xs) (keep-le (λ a. not (eqb a b)) xs)
  where
    go : (t u : Bool) → eqb b x ≡ t → eqb x b ≡ u → (t || member b xs) ≡ true → (member b xs ≡ true → length (others xs b) < length xs)
        → length (others xs b) ≤ length xs → length (others (x ∷ xs) b) < suc (length xs)
    go t true d e m ih le = rw (keep-no (λ a. not (eqb a b)) x xs (ap not e)) (omega arith)
    go true false d e m ih le = absurd (true≢false (sym (eq-eqb x b (sym (eqb-true b x d))) ∙ e))
    go false false d e m ih le = let h = ih m in rw (keep-yes (λ a. not (eqb a b)) x xs (ap not e)) (omega arith)

-- Every accepted call keeps the invariant
pub waits-le : (e : ℕ) (xs : List ℕ) (r : Option Request) → Waits e xs r → length xs ≤ e
waits-le e xs none h = h
waits-le e xs (some r) h = h.0

pub others-room : (e b : ℕ) (xs : List ℕ) → length xs ≤ e → (ltb (length xs) e || member b xs) ≡ true → length (others xs b) < e
unfolding others
others-room e b xs le h = go (ltb (length xs) e) refl h (keep-le (λ a. not (eqb a b)) xs)
  where
    go : (t : Bool) → ltb (length xs) e ≡ t → (t || member b xs) ≡ true → length (others xs b) ≤ length xs → length (others xs b) < e
    go true d h k = omega (arith, ltb-true (length xs) e d)
    go false d h k = omega (arith, others-member b xs h)

pub pass-waits : (e ℓ n : ℕ) (xs : List ℕ) (r : Option Request) → Waits e xs r → Waits e xs (Request.pass_level ℓ n r)
unfolding Request.pass_level
pass-waits e ℓ n xs none h = h
pass-waits e ℓ n xs (some r) h = h

leave-one : (e : ℕ) (xs : List ℕ) (b : ℕ) (r : Option Request) → Waits e xs r → Waits e (without (eqb b) xs) r
unfolding others
leave-one e xs b none h = omega (arith, without-length (eqb b) xs)
leave-one e xs b (some r) h = omega (arith, without-length (eqb b) xs, keep-without-le (eqb b) (λ a. not (eqb a r.block)) xs)

pub leave-waits : (e : ℕ) (xs bs : List ℕ) (r : Option Request) → Waits e xs r → Waits e (Rebuild.leave bs xs) r
unfolding Rebuild.leave
leave-waits e xs [] r h = h
leave-waits e xs (b ∷ bs) r h = leave-waits e (without (eqb b) xs) bs r (leave-one e xs b r h)

-- where b does not wait, the others are all
others-none : (b : ℕ) (xs : List ℕ) → member b xs ≡ false → length (others xs b) ≡ length xs
unfolding member any others
others-none b [] h = unfold keep in refl
others-none b (x ∷ xs) h = go (eqb b x) refl h (others-none b xs)
  where
    go : (t : Bool) → eqb b x ≡ t → (t || member b xs) ≡ false → (member b xs ≡ false → length (others xs b) ≡ length xs) → length (others (x ∷ xs) b) ≡ suc (length xs)
    go true e m ih = absurd (true≢false m)
    go false e m ih = rw (keep-yes (λ a. not (eqb a b)) x xs (ap not (ne_eqb x b (λ w. eqb-false b x e (sym w))))) (ap suc (ih m))

pub room-others : (e b : ℕ) (xs : List ℕ) → length (others xs b) < e → (ltb (length xs) e || member b xs) ≡ true
room-others e b xs h = go (member b xs) refl
  where
    go : (t : Bool) → member b xs ≡ t → (ltb (length xs) e || t) ≡ true
    go true m = or_right (ltb (length xs) e) true refl
    go false m = or_left (ltb (length xs) e) false (lt-ltb (length xs) e (omega (arith, others-none b xs m)))
