-- What a call trades: hidden values and draws before it, for draws and hidden values after it, one to one.
use Rattle.std.specs.Prelude.{◌≡◌, List, [], ℕ}
use Rattle.matching.specs.Match.{Match}

-- a trade, with no word of what is seen of it: hidden values H, what the full machine draws D, what the lazy one draws E
abbrev pub Trades : {D E H : Type 0} → (H → Type 0) → (D → Type 0) → (E → Type 0) → (E → H → Type 0) → Type 0
Trades {D} {E} {H} Before Drawn Legal After =
    Match {X = H × D} {Y = E × H} {O = Unit {0}}
    (λ x. Before x.0 × Drawn x.1)
    (λ y. Legal y.0 × After y.0 y.1)
    (λ x. tt) (λ y. tt)

-- nothing is drawn
abbrev pub None : List ℕ → Type 0
None ds = ds ≡ []
