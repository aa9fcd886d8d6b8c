-- The levels of a form in turn: the byte behind them, or none if one of them is not right.
use Rattle.std.proofs.Math.Path.{◌≡◌, refl, ap}
use Rattle.std.proofs.Common.{sym, ◌∙◌, pow_mono}
use Rattle.std.specs.Prelude.{Option, Some, None, Bool, ◌&&◌, ℕ, suc, ◌+◌, ◌-◌, ◌*◌, ◌^◌, ◌≤◌, ◌<◌, leb, if◌then◌else◌}
use Rattle.std.proofs.Math.Bool.{true, false}
use mathlib.Core.List.{List, [], ◌∷◌, ◌++◌, map}
use native.Mathlib.Omega.{arith}
use Rattle.lists.specs.Search.{all, keep, below, count, keep-yes, keep-no}
use Rattle.lists.specs.Tests.{every}
use Rattle.rules.specs.Form.Numbers.{each}
use Rattle.rules.specs.Form.Payload.{filled_levels}
use Rattle.rules.specs.Form.Reading.{Level}
use Rattle.rules.proofs.Laws.Layout.{stride-le}
use Rattle.rules.specs.Levels.{filled}
use Rattle.rules.specs.Shape.{Shape, slots, cell}
use Rattle.forms.specs.At.{bytes_at, level_at, level_size, each_at, size_at}
use Rattle.forms.specs.Levels.{is_order, marks_fit, held_in, level_fits, ones-are}
use Rattle.forms.specs.Lists.{count_left, count_none, size-append, each_append}

-- ---- Levels in turn

module _ (h : Shape) (p seen : List ℕ) where
  abbrev all_fit : List (ℕ × ℕ) → ℕ → Bool
  all_fit ks a = all (level_fits h seen) (each_at (level_at p 1) (level_size 1) ks a)

  unfoldable pub passed : List (ℕ × ℕ) → ℕ → Option ℕ
  passed ks a = if all_fit ks a then Some (a + size_at (level_size 1) ks a) else None

  fit_append : (ks js : List (ℕ × ℕ)) (a : ℕ) → all_fit (ks ++ js) a ≡ (all_fit ks a && all_fit js (a + size_at (level_size 1) ks a))
  unfolding all
  fit_append ks js a = ap (all (level_fits h seen)) (each_append (level_size 1) (level_at p 1) ks js a) ∙ both (each_at (level_at p 1) (level_size 1) ks a)
    where
      rest : List Level
      rest = each_at (level_at p 1) (level_size 1) js (a + size_at (level_size 1) ks a)

      assoc : (x y z : Bool) → (x && (y && z)) ≡ ((x && y) && z)
      assoc true y z = refl
      assoc false y z = refl

      both : (ls : List Level) → all (level_fits h seen) (ls ++ rest) ≡ (all (level_fits h seen) ls && all (level_fits h seen) rest)
      both [] = refl
      both (l ∷ ls) = ap (λ t. level_fits h seen l && t) (both ls) ∙ assoc (level_fits h seen l) (all (level_fits h seen) ls) (all (level_fits h seen) rest)

  pub pass-stop : (ks js : List (ℕ × ℕ)) (a : ℕ) → passed ks a ≡ None → passed (ks ++ js) a ≡ None
  unfolding passed
  pass-stop ks js a e = go (all_fit ks a) refl e
    where
      go : (t : Bool) → all_fit ks a ≡ t → ◌≡◌ {A = Option ℕ} (if t then Some (a + size_at (level_size 1) ks a) else None) None
          → ◌≡◌ {A = Option ℕ} (if all_fit (ks ++ js) a then Some (a + size_at (level_size 1) (ks ++ js) a) else None) None
      go true k z = absurd (cc)
      go false k z = rw (fit_append ks js a, k)

  pub pass-more : (ks js : List (ℕ × ℕ)) (a b : ℕ) → passed ks a ≡ Some b → passed (ks ++ js) a ≡ passed js b
  unfolding passed
  pass-more ks js a b e = go (all_fit ks a) refl e
    where
      from : ℕ → Option ℕ
      from c = if all_fit js c then Some (c + size_at (level_size 1) js c) else None

      go : (t : Bool) → all_fit ks a ≡ t → ◌≡◌ {A = Option ℕ} (if t then Some (a + size_at (level_size 1) ks a) else None) (Some b)
          → (if all_fit (ks ++ js) a then Some (a + size_at (level_size 1) (ks ++ js) a) else None) ≡ from b
      go true k z =
          let same : a + size_at (level_size 1) ks a ≡ b = cc in
          let e : a + (size_at (level_size 1) ks a + size_at (level_size 1) js (a + size_at (level_size 1) ks a)) ≡ a + size_at (level_size 1) ks a + size_at (level_size 1) js (a + size_at (level_size 1) ks a) = omega arith in
          rw (fit_append ks js a, k, size-append (level_size 1) ks js a) (ap (λ c. if all_fit js (a + size_at (level_size 1) ks a) then Some c else None) e) ∙ ap from same
      go false k z = absurd (cc)

  pub pass-none : (a : ℕ) → passed [] a ≡ Some a
  unfolding passed each_at size_at all
  pass-none a = let e : a + 0 ≡ a = omega arith in ap Some e

  -- one level
  pass-one : (q ℓ a : ℕ) → passed ((q, ℓ) ∷ []) a ≡ (if level_fits h seen (level_at p 1 (q, ℓ) a) then Some (a + slots ℓ + slots ℓ) else None)
  unfolding passed each_at size_at all level_size
  pass-one q ℓ a = go (level_fits h seen (level_at p 1 (q, ℓ) a))
    where
      go : (t : Bool) → (if t && true then Some (a + (slots ℓ * 1 + slots ℓ + 0)) else None) ≡ (if t then Some (a + slots ℓ + slots ℓ) else None)
      go true = let e : a + (slots ℓ * 1 + slots ℓ + 0) ≡ a + slots ℓ + slots ℓ = omega arith in ap Some e
      go false = refl

  pub pass-yes : (q ℓ a : ℕ) → level_fits h seen (level_at p 1 (q, ℓ) a) ≡ true → passed ((q, ℓ) ∷ []) a ≡ Some (a + slots ℓ + slots ℓ)
  pass-yes q ℓ a e = pass-one q ℓ a ∙ rw e

  pub pass-no : (q ℓ a : ℕ) → level_fits h seen (level_at p 1 (q, ℓ) a) ≡ false → passed ((q, ℓ) ∷ []) a ≡ None
  pass-no q ℓ a e = pass-one q ℓ a ∙ rw e

  pub level-fits : (q ℓ a : ℕ) → level_fits h seen (level_at p 1 (q, ℓ) a)
      ≡ (is_order (slots ℓ) (bytes_at p (slots ℓ) a) && marks_fit seen (cell h q ℓ 0) (bytes_at p (slots ℓ) (a + slots ℓ)) && leb (held_in seen (cell h q ℓ 0) (slots ℓ)) (2 ^ ℓ))
  unfolding level_fits level_at every
  level-fits q ℓ a =
      let e : slots ℓ * 1 ≡ slots ℓ = omega arith in
      rw (ones-are p (slots ℓ) a, e) (go (is_order (slots ℓ) (bytes_at p (slots ℓ) a)) _ _)
    where
      go : (x y z : Bool) → (x && (y && (z && true))) ≡ (x && y && z)
      go true true true = refl
      go true true false = refl
      go true false z = refl
      go false y z = refl

-- a test of the byte behind them, which is no if there is none
abbrev pub holds_behind : Option ℕ → (ℕ → Bool) → Bool
holds_behind None t = false
holds_behind (Some a) t = t a

-- ---- Keys in turn

-- a level's key, if it is filled
unfoldable pub key_at : ℕ → ℕ → ℕ → List (ℕ × ℕ)
key_at q c ℓ = if filled c ℓ then (q, ℓ) ∷ [] else []

unfoldable pub keys_of : ℕ → (ℕ → ℕ) → ℕ → List (ℕ × ℕ)
keys_of L counter q = each (key_at q (counter q)) (below L)

pub key-none : (q c ℓ : ℕ) → filled c ℓ ≡ false → key_at q c ℓ ≡ []
unfolding key_at
key-none q c ℓ e = rw e

pub key-some : (q c ℓ : ℕ) → filled c ℓ ≡ true → key_at q c ℓ ≡ (q, ℓ) ∷ []
unfolding key_at
key-some q c ℓ e = rw e

module _ {A : Type 0} (g : ℕ → List A) where
  pub each_left : (n b : ℕ) → b < n → each g (count b (n - b)) ≡ g b ++ each g (count (b + 1) (n - (b + 1)))
  unfolding each
  each_left n b l = ap (each g) (count_left n b l)

  pub each_none : (n b : ℕ) → n ≤ b → each g (count b (n - b)) ≡ []
  unfolding each
  each_none n b l = ap (each g) (count_none n b l)

  pub each_all : (n : ℕ) → each g (count 0 (n - 0)) ≡ each g (below n)
  unfolding below
  each_all n = let e : n - 0 ≡ n = omega arith in ap (λ k. each g (count 0 k)) e

keep-keys : (q c : ℕ) (xs : List ℕ) → map (λ ℓ. (q, ℓ)) (keep (filled c) xs) ≡ each (key_at q c) xs
unfolding each keep
keep-keys q c [] = refl
keep-keys q c (x ∷ xs) = go (filled c x) refl (keep-keys q c xs)
  where
    go : (t : Bool) → filled c x ≡ t → map (λ ℓ. (q, ℓ)) (keep (filled c) xs) ≡ each (key_at q c) xs → map (λ ℓ. (q, ℓ)) (keep (filled c) (x ∷ xs)) ≡ key_at q c x ++ each (key_at q c) xs
    go true e ih = rw (keep-yes (filled c) x xs e, key-some q c x e) (ap (λ l. (q, x) ∷ l) ih)
    go false e ih = rw (keep-no (filled c) x xs e, key-none q c x e) ih

-- these are the filled levels
pub keys-are : (P L : ℕ) (counter : ℕ → ℕ) → each (keys_of L counter) (below P) ≡ filled_levels P L counter
unfolding filled_levels keys_of each
keys-are P L counter = sym (same (below P))
  where
    same : (qs : List ℕ) → each (λ q. map (λ ℓ. (q, ℓ)) (keep (filled (counter q)) (below L))) qs ≡ each (λ q. each (key_at q (counter q)) (below L)) qs
    same [] = refl
    same (q ∷ qs) = rw (keep-keys q (counter q) (below L), same qs)

-- a level's cells lie within all
pub cell_room : (h : Shape) (q ℓ : ℕ) → q < h.P → ℓ < h.L → cell h q ℓ 0 + slots ℓ ≤ h.P * slots h.L
unfolding cell
cell_room h q ℓ a b = omega (arith, stride-le h.P q (slots h.L) a, pow_mono {i = suc (ℓ + 1)} {j = h.L + 1} (omega arith))
