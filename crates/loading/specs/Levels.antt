-- The filled levels of a form, put into the tables one after the other.
use Rattle.std.specs.Prelude.{◌≡◌, true, false, List, [], ◌∷◌, ◌++◌, map, ℕ, ◌+◌, ◌-◌, ◌*◌, ◌≤◌, ◌<◌}
use Rattle.std.proofs.Math.Path.{refl, ap, sym}
use Rattle.std.proofs.Common.{◌∙◌, subst, pow_mono}
use native.Mathlib.Omega.{arith}
use Rattle.lists.specs.Search.{below, count}
use Rattle.lists.specs.Tables.{put_all}
use Rattle.rules.specs.Form.Loading.{lay_over, orders_of, marks_of}
use Rattle.rules.specs.Form.Numbers.{each}
use Rattle.rules.specs.Form.Reading.{Level}
use Rattle.rules.specs.Levels.{filled}
use Rattle.rules.specs.Shape.{Shape, slots, cell}
use Rattle.memory.specs.declared.tables.Table.TheVariants.{Order, Mark}
use Rattle.memory.specs.Tables.{Tables, with_order, with_mark}
use Rattle.forms.specs.At.{bytes_at, level_at, level_size, each_at, size_at}
use Rattle.forms.specs.Levels.{ones-are}
use Rattle.forms.specs.Lists.{size-append, each_append}
use Rattle.forms.specs.Passes.{key_at, key-none, key-some, each_left, each_none, each_all}
use Rattle.loading.specs.Laid.{laid, laid-is}

pub few-slots : (ℓ : ℕ) → ℓ < 8 → slots ℓ ≤ 256
few-slots ℓ l = pow_mono {i = ℓ + 1} {j = 8} (omega arith)

-- "Each filled level's order and read marks"
unfoldable pub put_levels : Shape → List Level → Tables → Tables
put_levels h ls t = with_mark (lay_over t.mark (marks_of h ls)) (with_order (lay_over t.order (orders_of h ls)) t)

-- the levels with these keys, the first of which is at byte a
unfoldable pub levels_put : Shape → List ℕ → List (ℕ × ℕ) → ℕ → Tables → Tables
levels_put h p ks a t = put_levels h (each_at (level_at p 1) (level_size 1) ks a) t

put-again : (h : Shape) (ls ms : List Level) (t : Tables) → put_levels h ms (put_levels h ls t) ≡ put_levels h (ls ++ ms) t
unfolding put_levels orders_of marks_of lay_over
put-again h [] ms t = refl
put-again h (l ∷ ls) ms t = put-again h ls ms (with_mark (put_all (cell h l.partition l.level 0) (map (λ m. 1 - m) l.marks) t.mark) (with_order (put_all (cell h l.partition l.level 0) l.order t.order) t))

module _ (h : Shape) (p : List ℕ) where
  -- some levels, and those behind them
  levels-more : (ks js : List (ℕ × ℕ)) (a : ℕ) (t : Tables) → levels_put h p js (a + size_at (level_size 1) ks a) (levels_put h p ks a t) ≡ levels_put h p (ks ++ js) a t
  unfolding levels_put
  levels-more ks js a t = put-again h (each_at (level_at p 1) (level_size 1) ks a) _ t ∙ ap (λ ls. put_levels h ls t) (sym (each_append (level_size 1) (level_at p 1) ks js a))

  levels-none : (a : ℕ) (t : Tables) → levels_put h p [] a t ≡ t
  unfolding levels_put put_levels each_at lay_over orders_of marks_of
  levels-none a t = refl

  -- one level: its order, and its marks behind it
  levels-one : (q ℓ a : ℕ) (t : Tables) → laid Mark (cell h q ℓ 0) (map (λ x. 1 - x) (bytes_at p (slots ℓ) (a + slots ℓ))) (laid Order (cell h q ℓ 0) (bytes_at p (slots ℓ) a) t) ≡ levels_put h p ((q, ℓ) ∷ []) a t
  unfolding levels_put put_levels each_at lay_over orders_of marks_of level_at
  levels-one q ℓ a t =
      let e : slots ℓ ≡ slots ℓ * 1 = omega arith in
      laid-is Mark (cell h q ℓ 0) (map (λ x. 1 - x) (bytes_at p (slots ℓ) (a + slots ℓ))) (laid Order (cell h q ℓ 0) (bytes_at p (slots ℓ) a) t)
      ∙ ap (λ (x : Tables). with_mark (put_all (cell h q ℓ 0) (map (λ x. 1 - x) (bytes_at p (slots ℓ) (a + slots ℓ))) x.mark) x) (laid-is Order (cell h q ℓ 0) (bytes_at p (slots ℓ) a) t)
      ∙ (λ k. with_mark (put_all (cell h q ℓ 0) (map (λ x. 1 - x) (bytes_at p (slots ℓ) (a + e k))) t.mark) (with_order (put_all (cell h q ℓ 0) (sym (ones-are p (slots ℓ) a) k) t.order) t))

  -- ---- Levels in turn

  -- levels are left, from byte a on: they lead to the byte and the tables to which others would, from byte b on
  pub record Leads (ks : List (ℕ × ℕ)) (a : ℕ) (t : Tables) (js : List (ℕ × ℕ)) (b : ℕ) (u : Tables) : Type 0 where
    pub byte : a + size_at (level_size 1) ks a ≡ b + size_at (level_size 1) js b
    pub tables : levels_put h p ks a t ≡ levels_put h p js b u

  -- some of them are put
  leads-more : (ks is js : List (ℕ × ℕ)) (a a' b : ℕ) (t t' u : Tables) → a' ≡ a + size_at (level_size 1) ks a → t' ≡ levels_put h p ks a t → Leads (ks ++ is) a t js b u → Leads is a' t' js b u
  leads-more ks is js a a' b t t' u e d l = record {
    byte =
        let n : a + size_at (level_size 1) ks a + size_at (level_size 1) is (a + size_at (level_size 1) ks a) ≡ a + (size_at (level_size 1) ks a + size_at (level_size 1) is (a + size_at (level_size 1) ks a)) = omega arith in
        ap (λ k. k + size_at (level_size 1) is k) e ∙ n ∙ ap (λ k. a + k) (sym (size-append (level_size 1) ks is a)) ∙ l.byte;
    tables = (λ k. levels_put h p is (e k) (d k)) ∙ levels-more ks is a t ∙ l.tables;
  }

  -- none is left
  leads-none : (js : List (ℕ × ℕ)) (a b : ℕ) (t u : Tables) → Leads [] a t js b u → (a ≡ b + size_at (level_size 1) js b) × (t ≡ levels_put h p js b u)
  unfolding size_at
  leads-none js a b t u l = (omega (arith, l.byte), sym (levels-none a t) ∙ l.tables)

  -- a loop over the first n numbers, each of which has keys: at first all are left, then all but the first i, at last none
  module _ (g : ℕ → List (ℕ × ℕ)) (n : ℕ) where
    pub leads-all : (a : ℕ) (t : Tables) → Leads (each g (count 0 (n - 0))) a t (each g (below n)) a t
    leads-all a t = record { byte = ap (λ ks. a + size_at (level_size 1) ks a) (each_all g n); tables = ap (λ ks. levels_put h p ks a t) (each_all g n) }

    pub leads-next : (i : ℕ) (js : List (ℕ × ℕ)) (a a' b : ℕ) (t t' u : Tables) → i < n → a' ≡ a + size_at (level_size 1) (g i) a → t' ≡ levels_put h p (g i) a t
        → Leads (each g (count i (n - i))) a t js b u → Leads (each g (count (i + 1) (n - (i + 1)))) a' t' js b u
    leads-next i js a a' b t t' u l e d k = leads-more (g i) (each g (count (i + 1) (n - (i + 1)))) js a a' b t t' u e d (subst (λ ks. Leads ks a t js b u) (each_left g n i l) k)

    pub leads-end : (i : ℕ) (js : List (ℕ × ℕ)) (a b : ℕ) (t u : Tables) → n ≤ i → Leads (each g (count i (n - i))) a t js b u → (a ≡ b + size_at (level_size 1) js b) × (t ≡ levels_put h p js b u)
    leads-end i js a b t u l k = leads-none js a b t u (subst (λ ks. Leads ks a t js b u) (each_none g n i l) k)

  -- a level that is not filled, and one that is
  pub level-none : (q c ℓ a : ℕ) (t : Tables) → filled c ℓ ≡ false → (a ≡ a + size_at (level_size 1) (key_at q c ℓ) a) × (t ≡ levels_put h p (key_at q c ℓ) a t)
  unfolding size_at
  level-none q c ℓ a t e = rw (key-none q c ℓ e) (omega arith, sym (levels-none a t))

  pub level-put : (q c ℓ a n b : ℕ) (t t₁ t₂ : Tables) → filled c ℓ ≡ true → n ≡ slots ℓ → b ≡ cell h q ℓ 0 → t₁ ≡ laid Order b (bytes_at p n a) t → t₂ ≡ laid Mark b (map (λ x. 1 - x) (bytes_at p n (a + n))) t₁
      → (a + n + n ≡ a + size_at (level_size 1) (key_at q c ℓ) a) × (t₂ ≡ levels_put h p (key_at q c ℓ) a t)
  unfolding size_at level_size
  level-put q c ℓ a n b t t₁ t₂ e z y k l = rw (key-some q c ℓ e) (
    omega arith,
    l ∙ ap (laid Mark b (map (λ x. 1 - x) (bytes_at p n (a + n)))) k ∙ (λ i. laid Mark (y i) (map (λ x. 1 - x) (bytes_at p (z i) (a + z i))) (laid Order (y i) (bytes_at p (z i) a) t)) ∙ levels-one q ℓ a t,
  )
