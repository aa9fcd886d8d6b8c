-- Hidden values, one for each key: a trade of the value at one key is a trade of them all.
use Rattle.std.specs.Prelude.{◌≡◌, ◌↔◌}
use Rattle.std.proofs.Math.Path.{refl, fun_ext}
use Rattle.std.proofs.Common.{sym, ◌∙◌}
use Rattle.std.proofs.Math.Logic.{ite}
use Rattle.matching.specs.Trades.{Trades}
use Rattle.matching.specs.Keyed.{Key, key-discrete, update}

module _ {A : Type 0} where
  pub update_same : (k : Key) (x : A) (f : Key → A) → update k x f k ≡ x
  unfolding update
  update_same k x f = go (key-discrete k k)
    where
      go : (d : Dec (k ≡ k)) → ite d x (f k) ≡ x
      go (yes e) = refl
      go (no e) = absurd (e refl)

  pub update_other : (k : Key) (x : A) (f : Key → A) (j : Key) → ¬ (j ≡ k) → update k x f j ≡ f j
  unfolding update
  update_other k x f j n = go (key-discrete j k)
    where
      go : (d : Dec (j ≡ k)) → ite d x (f j) ≡ f j
      go (yes e) = absurd (n e)
      go (no e) = refl

  -- a family is another with the value at k replaced
  pub update-is : (k : Key) (x : A) (f g : Key → A) → g k ≡ x → ((j : Key) → ¬ (j ≡ k) → g j ≡ f j) → g ≡ update k x f
  update-is k x f g a b = fun_ext (λ j. go j (key-discrete j k))
    where
      go : (j : Key) → Dec (j ≡ k) → g j ≡ update k x f j
      go j (yes e) = rw (e, update_same k x f) a
      go j (no e) = rw (update_other k x f j e) (b j e)

  pub update-update : (k : Key) (x y : A) (f : Key → A) → update k x (update k y f) ≡ update k x f
  update-update k x y f = update-is k x f (update k x (update k y f)) (update_same k x (update k y f)) (λ j e. update_other k x (update k y f) j e ∙ update_other k y f j e)

  pub update-own : (k : Key) (f : Key → A) → update k (f k) f ≡ f
  update-own k f = sym (update-is k (f k) f f refl (λ j e. refl))

  pub update_all : (G : Key → A → Type 0) (k : Key) (x : A) (f : Key → A) → G k x → ((j : Key) → ¬ (j ≡ k) → G j (f j)) → (j : Key) → G j (update k x f j)
  update_all G k x f a b j = go (key-discrete j k)
    where
      go : Dec (j ≡ k) → G j (update k x f j)
      go (yes e) = rw (e, update_same k x f) a
      go (no e) = rw (update_other k x f j e) (b j e)

-- a trade at k
module _ {A D E : Type 0} (k : Key)
    (F : Key → A → Type 0) (G : E → Key → A → Type 0)  -- what the hidden values have to be, before and after
    (Drawn : D → Type 0) (Legal : E → Type 0)
    (rest : (e : E) → Legal e → (j : Key) → ¬ (j ≡ k) → (x : A) → F j x ↔ G e j x)
    (m : Trades {D = D} {E = E} {H = A} (F k) Drawn Legal (λ e. G e k))
  where
    abbrev pub trade_at-f : (Key → A) × D → E × (Key → A)
    trade_at-f x =
        let y = m.f (x.0 k, x.1) in
        (y.0, update k y.1 x.0)

    abbrev pub trade_at-g : E × (Key → A) → (Key → A) × D
    trade_at-g y =
        let x = m.g (y.0, y.1 k) in
        (update k x.0 y.1, x.1)

    abbrev pub trade_at : Trades {D = D} {E = E} {H = Key → A} (λ x. (j : Key) → F j (x j)) Drawn Legal (λ e y. (j : Key) → G e j (y j))
    trade_at = record {
      f = trade_at-f;
      g = trade_at-g;
      f-ok = λ x a.
          let y = m.f (x.0 k, x.1) in
          let b = m.f-ok (x.0 k, x.1) (a.0 k, a.1) in
          (b.0, update_all (G y.0) k y.1 x.0 b.1 (λ j n. (rest y.0 b.0 j n (x.0 j)).0 (a.0 j)));
      g-ok = λ y a.
          let x = m.g (y.0, y.1 k) in
          let b = m.g-ok (y.0, y.1 k) (a.0, a.1 k) in
          (update_all F k x.0 y.1 b.0 (λ j n. (rest y.0 a.0 j n (y.1 j)).1 (a.1 j)), b.1);
      g-f = λ x a.
          let y = m.f (x.0 k, x.1) in
          rw (update_same k y.1 x.0, m.g-f (x.0 k, x.1) (a.0 k, a.1), update-update k (x.0 k) y.1 x.0, update-own k x.0);
      f-g = λ y a.
          let x = m.g (y.0, y.1 k) in
          rw (update_same k x.0 y.1, m.f-g (y.0, y.1 k) (a.0, a.1 k), update-update k (y.1 k) x.0 y.1, update-own k y.1);
      same = λ x a. refl;
    }
