-- Lists whose elements have ever greater values, and what a search finds in them.
use Rattle.std.specs.Prelude.{◌≡◌, refl, Bool, true, false, List, [], ◌∷◌, ◌++◌, ℕ, ◌<◌}
use Rattle.std.proofs.Common.{ap, sym, ◌∙◌, arith}
use Rattle.std.proofs.Math.Option.{some}
use Rattle.lists.specs.Search.{find, find-yes, find-no}
use Rattle.lists.specs.All.{All, nil, cons, all_append, all_map}

module _ {A : Type 0} (f : A → ℕ) where
  pub data Ascends : List A → Type 0 where
    none-ascends : Ascends []
    one-ascends : {x : A} {xs : List A} → All (λ y. f x < f y) xs → Ascends xs → Ascends (x ∷ xs)

  pub ascends-append : {xs ys : List A} → Ascends xs → Ascends ys → All (λ x. All (λ y. f x < f y) ys) xs → Ascends (xs ++ ys)
  ascends-append none-ascends b nil = b
  ascends-append (one-ascends h a) b (cons k t) = one-ascends (all_append h k) (ascends-append a b t)

  -- what is found has the least value of those that pass
  pub find-least : (p : A → Bool) {xs : List A} → Ascends xs → (x : A) → find p xs ≡ some x → All (λ y. f y < f x → p y ≡ false) xs
  find-least p none-ascends x e = nil
  find-least p (one-ascends {x = y} {xs = xs} h a) x e = go (p y) refl (find-least p a x)
    where
      go : (t : Bool) → p y ≡ t → (find p xs ≡ some x → All (λ z. f z < f x → p z ≡ false) xs) → All (λ z. f z < f x → p z ≡ false) (y ∷ xs)
      go true k ih =
          let w : y ≡ x = same (sym (find-yes p y xs k) ∙ e) in
          let v : f y ≡ f x = ap f w in
          let here : f y < f x → p y ≡ false = λ l. absurd (omega arith) in
          cons here (all_map (λ z g l. absurd (omega arith)) h)
        where
          same : some y ≡ some x → y ≡ x
          same q = cc
      go false k ih = cons (λ l. k) (ih (sym (find-no p y xs k) ∙ e))
