-- Showing a position and covering it again are each other's inverses. Positions.antt makes a trade of them.
use Rattle.std.specs.Prelude.{◌≡◌, refl, List, [], ◌∷◌, ℕ}
use Rattle.lists.specs.Tables.{put, put_same, put-put, put-own}
use Rattle.matching.specs.Positions.{Positions, cover, show}

module _ (b : ℕ) where
  pub cover-show : (x : Positions × List ℕ) → cover b (show b x) ≡ x
  cover-show (pos, []) = refl
  cover-show (pos, d ∷ ds) = rw (put-put b (pos b) d pos, put-own b pos, put_same b d pos)

  pub show-cover : (y : List ℕ × Positions) → show b (cover b y) ≡ y
  show-cover ([], pos) = refl
  show-cover (p ∷ ds, pos) = rw (put-put b (pos b) p pos, put-own b pos, put_same b p pos)

-- position 1 of a table of fives, with 3 drawn for it: five is shown, and three is hidden in its place
shown-five : ((show 1 (λ b. 5, 3 ∷ 4 ∷ [])).0 ≡ 5 ∷ 4 ∷ []) × ((show 1 (λ b. 5, 3 ∷ 4 ∷ [])).1 1 ≡ 3)
unfolding put
shown-five = (refl, refl)
