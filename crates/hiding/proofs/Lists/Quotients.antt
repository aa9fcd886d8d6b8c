-- A word below the limit of m is a quotient and a number below m. Words that settle draws, with other numbers: the same words are passed over,
-- and the quotients are the same.
use Rattle.std.specs.Prelude.{◌≡◌, true, false, List, [], ◌∷◌, ℕ, suc, ◌+◌, ◌*◌, ◌/◌, ◌≤◌, ◌<◌, length, ltb}
use Rattle.std.proofs.Math.Path.{refl}
use Rattle.std.proofs.Common.{ap, ap₂, ◌∙◌, subst, mod-eq_of_lt, div-add-mod', div-lt_iff_lt-mul, mul-le-mul_right, arith, lt-ltb, le-ltb}
use Rattle.std.proofs.Math.Nat.{mul-add-mod_self_right, mul-add-div_right, div-eq_of_lt}
use Rattle.lists.specs.All.{All, cons}
use Rattle.rules.specs.Draws.{limit, draw, Drew}
use Rattle.rules.proofs.Laws.Draws.{Settles, done, takes, passes, limit-le}
use Rattle.rules.proofs.Laws.Bounds.{Few}

-- ---- One word

-- the word's quotient, with number j
abbrev numbered : ℕ → ℕ → ℕ → ℕ
numbered m w j = w / m * m + j

numbered-limit : (m w j : ℕ) → j < m → w < limit m → numbered m w j < limit m
unfolding limit
numbered-limit m w j l k =
    let p : 0 < m = omega arith in
    let q : w / m < 65536 / m = (div-lt_iff_lt-mul p).1 k in
    let x : suc (w / m) * m ≤ 65536 / m * m = mul-le-mul_right m q in
    omega arith

numbered-draw : (m w j : ℕ) → j < m → draw m (numbered m w j) ≡ j
unfolding draw
numbered-draw m w j l = mul-add-mod_self_right (w / m) m j ∙ mod-eq_of_lt l

numbered-quotient : (m w j : ℕ) → j < m → numbered m w j / m ≡ w / m
numbered-quotient m w j l = mul-add-div_right (omega arith) (w / m) j ∙ (rw (div-eq_of_lt l) (omega arith))

numbered-own : (m w : ℕ) → numbered m w (draw m w) ≡ w
unfolding draw
numbered-own m w = div-add-mod' w m

-- ---- Words that settle draws

unfoldable pub renumber : List ℕ → List ℕ → List ℕ → List ℕ
renumber [] ws js = ws
renumber (m ∷ ms) [] js = []
renumber (m ∷ ms) (w ∷ ws) [] = w ∷ ws
renumber (m ∷ ms) (w ∷ ws) (j ∷ js) = elim (ltb w (limit m)) [ true ↦ numbered m w j ∷ renumber ms ws js | false ↦ w ∷ renumber (m ∷ ms) ws (j ∷ js) ]

renumber-takes : (m w j : ℕ) (ms ws js : List ℕ) → w < limit m → renumber (m ∷ ms) (w ∷ ws) (j ∷ js) ≡ numbered m w j ∷ renumber ms ws js
unfolding renumber
renumber-takes m w j ms ws js l = rw (lt-ltb w (limit m) l, renumber)

renumber-passes : (m w j : ℕ) (ms ws js : List ℕ) → limit m ≤ w → renumber (m ∷ ms) (w ∷ ws) (j ∷ js) ≡ w ∷ renumber (m ∷ ms) ws (j ∷ js)
unfolding renumber
renumber-passes m w j ms ws js l = rw (le-ltb w (limit m) l, renumber)

-- they settle the draws with these numbers
pub renumber-settles : {ms ds js : List ℕ} → Settles ms ds js → (ks : List ℕ) → Drew ms ks → Settles ms (renumber ms ds ks) ks
renumber-settles done [] p = unfold renumber in done
renumber-settles done (k ∷ ks) p = absurd p
renumber-settles (takes l x) [] p = absurd p
renumber-settles (takes {m = m} {w = w} {ms = ms} {ws = ws} l x) (k ∷ ks) p =
    rw (renumber-takes m w k ms ws ks l)
    (subst (λ n. Settles (m ∷ ms) (numbered m w k ∷ renumber ms ws ks) (n ∷ ks)) (numbered-draw m w k p.0) (takes (numbered-limit m w k p.0 l) (renumber-settles x ks p.1)))
renumber-settles (passes l x) [] p = absurd p
renumber-settles (passes {m = m} {w = w} {ms = ms} {ws = ws} l x) (k ∷ ks) p = rw (renumber-passes m w k ms ws ks l) (passes l (renumber-settles x (k ∷ ks) p))

-- with their own numbers they stay
pub renumber-own : {ms ds js : List ℕ} → Settles ms ds js → renumber ms ds js ≡ ds
renumber-own done = unfold renumber in refl
renumber-own (takes {m = m} {w = w} {ms = ms} {ws = ws} {js = js} l x) = renumber-takes m w (draw m w) ms ws js l ∙ ap₂ (λ v vs. v ∷ vs) (numbered-own m w) (renumber-own x)
renumber-own (passes {m = m} {w = w} {ms = ms} {ws = ws} {js = []} l x) = absurd (none x)
  where
    none : {m : ℕ} {ms ws : List ℕ} → Settles (m ∷ ms) ws [] → ⊥
    none (passes l x) = none x
renumber-own (passes {m = m} {w = w} {ms = ms} {ws = ws} {js = j ∷ js} l x) = renumber-passes m w j ms ws js l ∙ ap (λ vs. w ∷ vs) (renumber-own x)

-- and the numbers put last count
pub renumber-twice : {ms ds js : List ℕ} → Settles ms ds js → (ks ls : List ℕ) → Drew ms ks → Drew ms ls → renumber ms (renumber ms ds ks) ls ≡ renumber ms ds ls
renumber-twice done [] ls p q = unfold renumber in refl
renumber-twice done (k ∷ ks) ls p q = absurd p
renumber-twice (takes l x) [] ls p q = absurd p
renumber-twice (takes l x) (k ∷ ks) [] p q = absurd q
renumber-twice (takes {m = m} {w = w} {ms = ms} {ws = ws} l x) (k ∷ ks) (i ∷ ls) p q =
    rw (renumber-takes m w k ms ws ks l, renumber-takes m w i ms ws ls l, renumber-takes m (numbered m w k) i ms (renumber ms ws ks) ls (numbered-limit m w k p.0 l))
    (ap₂ (λ v vs. v ∷ vs) (ap (λ a. a * m + i) (numbered-quotient m w k p.0)) (renumber-twice x ks ls p.1 q.1))
renumber-twice (passes l x) [] ls p q = absurd p
renumber-twice (passes l x) (k ∷ ks) [] p q = absurd q
renumber-twice (passes {m = m} {w = w} {ms = ms} {ws = ws} l x) (k ∷ ks) (i ∷ ls) p q =
    rw (renumber-passes m w k ms ws ks l, renumber-passes m w i ms ws ls l, renumber-passes m w i ms (renumber (m ∷ ms) ws (k ∷ ks)) ls l)
    (ap (λ vs. w ∷ vs) (renumber-twice x (k ∷ ks) (i ∷ ls) p q))

-- they are as many
pub renumber-length : {ms ds js : List ℕ} → Settles ms ds js → (ks : List ℕ) → Drew ms ks → length (renumber ms ds ks) ≡ length ds
renumber-length done [] p = unfold renumber in refl
renumber-length done (k ∷ ks) p = absurd p
renumber-length (takes l x) [] p = absurd p
renumber-length (takes {m = m} {w = w} {ms = ms} {ws = ws} l x) (k ∷ ks) p = rw (renumber-takes m w k ms ws ks l) (ap suc (renumber-length x ks p.1))
renumber-length (passes l x) [] p = absurd p
renumber-length (passes {m = m} {w = w} {ms = ms} {ws = ws} l x) (k ∷ ks) p = rw (renumber-passes m w k ms ws ks l) (ap suc (renumber-length x (k ∷ ks) p))

-- and of 16 bits
pub renumber-short : {ms ds js : List ℕ} → Settles ms ds js → (ks : List ℕ) → Drew ms ks → All (λ w. w < 65536) ds → All (λ w. w < 65536) (renumber ms ds ks)
renumber-short done [] p a = unfold renumber in a
renumber-short done (k ∷ ks) p a = absurd p
renumber-short (takes l x) [] p a = absurd p
renumber-short (takes {m = m} {w = w} {ms = ms} {ws = ws} l x) (k ∷ ks) p (cons h a) =
    let here : numbered m w k < 65536 = omega (arith, numbered-limit m w k p.0 l, limit-le m) in
    rw (renumber-takes m w k ms ws ks l) (cons here (renumber-short x ks p.1 a))
renumber-short (passes l x) [] p a = absurd p
renumber-short (passes {m = m} {w = w} {ms = ms} {ws = ws} l x) (k ∷ ks) p (cons h a) = rw (renumber-passes m w k ms ws ks l) (cons h (renumber-short x (k ∷ ks) p a))

-- no fewer words than draws
pub settles-le : {ms ds js : List ℕ} → Settles ms ds js → length ms ≤ length ds
settles-le done = omega arith
settles-le (takes l x) = omega (arith, settles-le x)
settles-le (passes l x) = omega (arith, settles-le x)

-- the numbers 0
abbrev pub zeros : List ℕ → List ℕ
zeros [] = []
zeros (m ∷ ms) = 0 ∷ zeros ms

pub zeros-drew : (ms : List ℕ) → All Few ms → Drew ms (zeros ms)
zeros-drew [] f = tt
zeros-drew (m ∷ ms) (cons h f) = (h.0, zeros-drew ms f)
