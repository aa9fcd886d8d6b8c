-- The questions that are left of a well-formed request, and on which of them its number may depend. Names.antt has it of states.
use Rattle.std.specs.Prelude.{◌≡◌, refl, ◌⊎◌, Bool, true, false, [], ◌∷◌, ℕ}
use Rattle.std.proofs.Common.{ap, inl, inr}
use Rattle.rules.specs.Questions.{first_no}

-- what is left to ask of a well-formed request: whether the state is ready, no request is in hand, the queue has room, the cache has room for the
-- block, and words are enough
unfoldable pub asks : Bool → Bool → Bool → Bool → Bool → ℕ
asks r n j x w = first_no ((r, 2) ∷ (n, 4) ∷ (j, 7) ∷ (x, 8) ∷ (w, 3) ∷ [])

-- only the cache's question may differ
pub either : (r n j x y v w : Bool) → (r ≡ true → v ≡ w) → (asks r n j x v ≡ asks r n j y w) ⊎ ((asks r n j x v ≡ 8) ⊎ (asks r n j y w ≡ 8))
unfolding asks first_no
either false n j x y v w e = inl refl
either true false j x y v w e = inl refl
either true true false x y v w e = inl refl
either true true true true true v w e = inl (ap (asks true true true true) (e refl))
either true true true false y v w e = inr (inl refl)
either true true true true false v w e = inr (inr refl)
