-- The blocks that a rebuild takes from the cache are the first that wait for its partition, and those leave it.
use Rattle.std.specs.Prelude.{◌≡◌, refl, Bool, List, [], ◌∷◌, ℕ, zero, suc, take}
use Rattle.std.proofs.Common.{ap, sym, ◌∙◌}
use Rattle.lists.specs.Search.{keep, without, without_first}
use Rattle.lists.specs.Leaving.{without-nobody, first-kept}
use Rattle.rules.specs.Rebuild.{leave}

pub leave-first : (p : ℕ → Bool) (k : ℕ) (xs : List ℕ) → leave (take k (keep p xs)) xs ≡ without_first p k xs
unfolding leave without_first
leave-first p zero xs = refl
leave-first p (suc k) xs = go (keep p xs) refl (leave-first p k xs) (leave-first p k (without p xs))
  where
    go : (ys : List ℕ) → keep p xs ≡ ys → leave (take k (keep p xs)) xs ≡ without_first p k xs → leave (take k (keep p (without p xs))) (without p xs) ≡ without_first p k (without p xs)
        → leave (take (suc k) ys) xs ≡ without_first p k (without p xs)
    go [] e same ih = none k (rw e at same) ∙ ap (without_first p k) (sym (without-nobody p xs e))
      where
        none : (k : ℕ) → leave (take k []) xs ≡ without_first p k xs → leave [] xs ≡ without_first p k xs
        none zero s = s
        none (suc k) s = s
    go (b ∷ bs) e same ih = let f = first-kept p xs b bs e in ap (leave (take k bs)) f.gone ∙ rw f.rest at ih
