-- What a call trades: hidden values and draws before it, for draws and hidden values after it, one to one.
use Rattle.std.specs.Prelude.{◌≡◌, refl, ◌↔◌, List, [], ◌∷◌, ◌++◌, ℕ, length, take, drop}
use Rattle.std.proofs.Common.{ap, sym, subst, arith, take-append-drop}
use Rattle.lists.specs.Parts.{take-first, drop-first}
use Rattle.rules.specs.Draws.{Drew}
use Rattle.matching.specs.Match.{Match}
use Rattle.matching.specs.Trades.{None, Trades}

-- nothing is traded
abbrev pub stays : {D H : Type 0} {Before : H → Type 0} {Drawn Legal : D → Type 0} {After : D → H → Type 0} →
    ((d : D) → Drawn d ↔ Legal d) → ((d : D) (o : H) → Legal d → Before o ↔ After d o) → Trades Before Drawn Legal After
stays a b = record {
  f = λ x. (x.1, x.0);
  g = λ y. (y.1, y.0);
  f-ok = λ x p. let l = (a x.1).0 p.1 in (l, (b x.1 x.0 l).0 p.0);
  g-ok = λ y p. ((b y.0 y.1 p.0).1 p.1, (a y.0).1 p.0);
  g-f = λ x p. refl;
  f-g = λ y p. refl;
  same = λ x p. refl;
}

-- a trade under other names of what is drawn and of the state after it
abbrev pub renamed : {D E H : Type 0} (Before : H → Type 0) (Legal : E → Type 0) {Drawn Drawn' : D → Type 0} {After After' : E → H → Type 0} →
    ((d : D) → Drawn' d ↔ Drawn d) → ((e : E) (o : H) → After e o ↔ After' e o) → Trades Before Drawn Legal After → Trades Before Drawn' Legal After'
renamed Before Legal a b m = record {
  f = m.f;
  g = m.g;
  f-ok = λ x p. let r = m.f-ok x (p.0, (a x.1).0 p.1) in (r.0, (b (m.f x).0 (m.f x).1).0 r.1);
  g-ok = λ y p. let r = m.g-ok y (p.0, (b y.0 y.1).1 p.1) in (r.0, (a (m.g y).1).1 r.1);
  g-f = λ x p. m.g-f x (p.0, (a x.1).0 p.1);
  f-g = λ y p. m.f-g y (p.0, (b y.0 y.1).1 p.1);
  same = λ x p. refl;
}

-- a trade under an invariant I, and what is seen of it: what the lazy machine shows with the draws that the trade gives
abbrev pub telling : {D E H O : Type 0} (I : Type 0) (Before : H → Type 0) (Drawn : D → Type 0) (Legal : E → Type 0) (After : E → H → Type 0)
    (b : Trades Before Drawn Legal After) (w : E → O) →
    Match {X = H × D} {Y = E × H}
    (λ x. I × (Before x.0 × Drawn x.1))
    (λ y. I × (Legal y.0 × After y.0 y.1))
    (λ x. w (b.f x).0) (λ y. w y.0)
telling I Before Drawn Legal After b w = record {
  f = b.f;
  g = b.g;
  f-ok = λ x p. (p.0, b.f-ok x p.1);
  g-ok = λ y p. (p.0, b.g-ok y p.1);
  g-f = λ x p. b.g-f x p.1;
  f-g = λ y p. b.f-g y p.1;
  same = λ x p. refl;
}

pub none-drew : (d : List ℕ) → Drew [] d ↔ None d
none-drew [] = (λ p. refl, λ p. tt)
none-drew (x ∷ d) = (λ p. absurd p, λ p. absurd (omega (arith, ap length p)))

-- ---- One trade after the other: of what both draw, the one list behind the other

module _ {H : Type 0} (n k : ℕ) (Before Between After : H → Type 0) (Drawn₁ Legal₁ Drawn₂ Legal₂ : List ℕ → Type 0)
    (long-d : (d : List ℕ) → Drawn₁ d → length d ≡ n) (long-e : (e : List ℕ) → Legal₁ e → length e ≡ k)
    (a : Trades {D = List ℕ} {E = List ℕ} {H = H} Before Drawn₁ Legal₁ (λ e. Between)) (b : Trades {D = List ℕ} {E = List ℕ} {H = H} Between Drawn₂ Legal₂ (λ e. After))
  where
    abbrev pub in_turn-f : H × List ℕ → List ℕ × H
    in_turn-f x =
        let y = a.f (x.0, take n x.1) in
        let z = b.f (y.1, drop n x.1) in
        (y.0 ++ z.0, z.1)

    abbrev pub in_turn-g : List ℕ × H → H × List ℕ
    in_turn-g y =
        let x = b.g (drop k y.0, y.1) in
        let w = a.g (take k y.0, x.0) in
        (w.0, w.1 ++ x.1)

    pub in_turn-f-ok : (x : H × List ℕ) → Before x.0 × (Drawn₁ (take n x.1) × Drawn₂ (drop n x.1)) → (Legal₁ (take k (in_turn-f x).0) × Legal₂ (drop k (in_turn-f x).0)) × After (in_turn-f x).1
    in_turn-f-ok x p =
        let y = a.f (x.0, take n x.1) in
        let z = b.f (y.1, drop n x.1) in
        let r = a.f-ok (x.0, take n x.1) (p.0, p.1.0) in
        let t = b.f-ok (y.1, drop n x.1) (r.1, p.1.1) in
        ((subst Legal₁ (sym (take-first y.0 z.0 k (long-e y.0 r.0))) r.0, subst Legal₂ (sym (drop-first y.0 z.0 k (long-e y.0 r.0))) t.0), t.1)

    pub in_turn-g-ok : (y : List ℕ × H) → (Legal₁ (take k y.0) × Legal₂ (drop k y.0)) × After y.1 → Before (in_turn-g y).0 × (Drawn₁ (take n (in_turn-g y).1) × Drawn₂ (drop n (in_turn-g y).1))
    in_turn-g-ok y p =
        let x = b.g (drop k y.0, y.1) in
        let w = a.g (take k y.0, x.0) in
        let t = b.g-ok (drop k y.0, y.1) (p.0.1, p.1) in
        let r = a.g-ok (take k y.0, x.0) (p.0.0, t.0) in
        (r.0, (subst Drawn₁ (sym (take-first w.1 x.1 n (long-d w.1 r.1))) r.1, subst Drawn₂ (sym (drop-first w.1 x.1 n (long-d w.1 r.1))) t.1))

    pub in_turn-g-f : (x : H × List ℕ) → Before x.0 × (Drawn₁ (take n x.1) × Drawn₂ (drop n x.1)) → in_turn-g (in_turn-f x) ≡ x
    in_turn-g-f x p =
        let y = a.f (x.0, take n x.1) in
        let z = b.f (y.1, drop n x.1) in
        let r = a.f-ok (x.0, take n x.1) (p.0, p.1.0) in
        let l = long-e y.0 r.0 in
        rw (take-first y.0 z.0 k l, drop-first y.0 z.0 k l, b.g-f (y.1, drop n x.1) (r.1, p.1.1), a.g-f (x.0, take n x.1) (p.0, p.1.0), take-append-drop n x.1)

    pub in_turn-f-g : (y : List ℕ × H) → (Legal₁ (take k y.0) × Legal₂ (drop k y.0)) × After y.1 → in_turn-f (in_turn-g y) ≡ y
    in_turn-f-g y p =
        let x = b.g (drop k y.0, y.1) in
        let w = a.g (take k y.0, x.0) in
        let t = b.g-ok (drop k y.0, y.1) (p.0.1, p.1) in
        let r = a.g-ok (take k y.0, x.0) (p.0.0, t.0) in
        let l = long-d w.1 r.1 in
        rw (take-first w.1 x.1 n l, drop-first w.1 x.1 n l, a.f-g (take k y.0, x.0) (p.0.0, t.0), b.f-g (drop k y.0, y.1) (p.0.1, p.1), take-append-drop k y.0)

    abbrev pub in_turn : Trades {D = List ℕ} {E = List ℕ} {H = H} Before (λ d. Drawn₁ (take n d) × Drawn₂ (drop n d)) (λ e. Legal₁ (take k e) × Legal₂ (drop k e)) (λ e. After)
    in_turn = record { f = in_turn-f; g = in_turn-g; f-ok = in_turn-f-ok; g-ok = in_turn-g-ok; g-f = in_turn-g-f; f-g = in_turn-f-g; same = λ x p. refl }
