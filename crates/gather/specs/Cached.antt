-- The blocks that a rebuild takes from the cache, one after the other.
use Rattle.std.specs.Prelude.{◌≡◌, Bool, true, false, Option, Some, None, MatchOption, ℕ, zero, suc, ◌+◌, ◌-◌, ◌≤◌, ◌<◌, get_or, drop}
use Rattle.std.proofs.Math.Path.{refl, ap, sym}
use Rattle.std.proofs.Common.{◌∙◌, add-one, arith, take-append-drop, drop_of_length-le, drop-cons, eq-eqb, ne_eqb}
use mathlib.Core.List.{List, [], ◌∷◌, ◌++◌, append-nil, append_assoc}
use Rattle.std.proofs.Math.ListN.{length, take}
use Rattle.lists.specs.Search.{keep, keep-yes, keep-no}
use Rattle.lists.specs.Leaving.{keep-behind}
use Rattle.rules.specs.State.{State}
use Rattle.rules.specs.Rebuild.{gather_from}
use Rattle.memory.specs.Tables.{tables_of}
use Rattle.memory.specs.Fits.{shape_of, fit, fit-lt}
use Rattle.client.specs.declared.Client.{Client}
use Rattle.client.specs.View.{view, state_of}
use Rattle.client.specs.Readings.{waiting-at}
use Rattle.cache.specs.Longest.{waits_for, LongestAt, Longest}
use Rattle.gather.specs.Gathered.{Ascending, inserted}
use Rattle.gather.specs.Kept.{from-none, from-ascends, from_block}

-- the block at place i, if it waits for q
abbrev pub BlockFor : State → ℕ → ℕ → Option ℕ → Type 0
BlockFor s q i r = MatchOption r (waits_for s q (get_or s.waiting i 0) ≡ false) (λ b. (get_or s.waiting i 0 ≡ b) × (waits_for s q b ≡ true) × (b < s.shape.N))

module _ (c : Client) (m : List ℕ) (q i b x : ℕ) (inside : i < c.waiting) (some : 1 ≤ c.shape.n) (read : b ≡ fit c.shape.n ((tables_of (shape_of c.shape) m).waiting i))
    (of : x ≡ fit c.shape.p ((tables_of (shape_of c.shape) m).partition b)) where
  block-is : get_or (state_of c m).waiting i 0 ≡ b
  block-is = waiting-at c m i inside ∙ sym read

  for-is : (state_of c m).partition b ≡ x
  for-is = unfold state_of view in (sym of)

  pub block-none : (x ≡ q → ⊥) → BlockFor (state_of c m) q i None
  block-none n = rw (block-is, ne_eqb ((state_of c m).partition b) q (λ e. n (sym for-is ∙ e)))

  pub block-some : x ≡ q → BlockFor (state_of c m) q i (Some b)
  block-some e = (block-is, eq-eqb ((state_of c m).partition b) q (for-is ∙ e), unfold state_of view in (rw read (fit-lt c.shape.n ((tables_of (shape_of c.shape) m).waiting i) some)))

-- ---- The first r entries of the list are the blocks taken so far; of those from place i on that wait for q, k less the taken ones are still to be taken
pub record Takes (s : State) (q k : ℕ) (list : List ℕ) (r taken i : ℕ) : Type 0 where
  pub blocks : List ℕ
  pub here : take r list ≡ gather_from blocks [] s.shape.N
  pub rest : blocks ++ take (k - taken) (keep (waits_for s q) (drop i s.waiting)) ≡ take k (keep (waits_for s q) s.waiting)
  pub le : r ≤ taken
  pub most : taken ≤ k

module _ (s : State) (q k : ℕ) where
  abbrev p : ℕ → Bool
  p = waits_for s q

  abbrev W : List ℕ
  W = s.waiting

  pub takes-start : (list : List ℕ) (first : ℕ) → LongestAt s q first → Takes s q k list 0 0 first
  takes-start list first f = record {
    blocks = [];
    here = sym (from-none s.shape.N);
    rest = let z : k - 0 ≡ k = omega arith in rw z (ap (take k) (sym (keep-behind p (take first W) (drop first W) f.before) ∙ ap (keep p) (take-append-drop first W)));
    le = omega arith;
    most = omega arith;
  }

  pub takes-ascends : (list : List ℕ) (r taken i : ℕ) → Takes s q k list r taken i → Ascending (take r list)
  takes-ascends list r taken i x = rw x.here (from-ascends s.shape.N x.blocks [])

  next : (i : ℕ) → i < length W → drop i W ≡ get_or W i 0 ∷ drop (i + 1) W
  next i inside = drop-cons W i 0 inside ∙ ap (λ n. get_or W i 0 ∷ drop n W) (sym (add-one i))

  -- a block that waits for q is taken, and others are passed over
  pub takes-more : (list list' : List ℕ) (r r' taken i b : ℕ) → i < length W → taken < k → BlockFor s q i (Some b) → take r' list' ≡ inserted b (take r list) → r' ≤ r + 1 → Takes s q k list r taken i → Takes s q k list' r' (taken + 1) (i + 1)
  takes-more list list' r r' taken i b inside room f put up x =
      let u : k - taken ≡ suc (k - (taken + 1)) = omega arith in record {
        blocks = x.blocks ++ (b ∷ []);
        here = put ∙ ap (inserted b) x.here ∙ from_block s.shape.N x.blocks b f.2;
        rest = append_assoc x.blocks (b ∷ []) (take (k - (taken + 1)) (keep p (drop (i + 1) W)))
            ∙ ap (λ l. x.blocks ++ l) (sym (ap (λ l. take (k - taken) (keep p l)) (next i inside ∙ ap (λ y. y ∷ drop (i + 1) W) f.0) ∙ ap (take (k - taken)) (keep-yes p b (drop (i + 1) W) f.1) ∙ ap (λ n. take n (b ∷ keep p (drop (i + 1) W))) u)) ∙ x.rest;
        le = omega (arith, x.le);
        most = omega arith;
      }

  pub takes-no : (list : List ℕ) (r taken i : ℕ) → i < length W → BlockFor s q i None → Takes s q k list r taken i → Takes s q k list r taken (i + 1)
  takes-no list r taken i inside f x = record {
    blocks = x.blocks;
    here = x.here;
    rest = ap (λ l. x.blocks ++ take (k - taken) l) (sym (ap (keep p) (next i inside) ∙ keep-no p (get_or W i 0) (drop (i + 1) W) f)) ∙ x.rest;
    le = x.le;
    most = x.most;
  }

  none : (n : ℕ) → take {A = ℕ} n [] ≡ []
  none zero = refl
  none (suc n) = refl

  keep-nil : keep p [] ≡ []
  keep-nil = unfold keep in refl

  -- none waits for q
  pub takes-none : (list : List ℕ) → Longest s q None → take 0 list ≡ gather_from (take k (keep p W)) [] s.shape.N
  takes-none list e = sym (ap (λ bs. gather_from bs [] s.shape.N) (ap (take k) e ∙ none k) ∙ from-none s.shape.N)

  -- enough are taken, or there are no more
  pub takes-enough : (list : List ℕ) (r taken i : ℕ) → k ≤ taken → Takes s q k list r taken i → take r list ≡ gather_from (take k (keep p W)) [] s.shape.N
  takes-enough list r taken i l x =
      let z : k - taken ≡ 0 = omega arith in
      x.here ∙ ap (λ bs. gather_from bs [] s.shape.N) (sym (append-nil x.blocks) ∙ ap (λ n. x.blocks ++ take n (keep p (drop i W))) (sym z) ∙ x.rest)

  pub takes_all : (list : List ℕ) (r taken i : ℕ) → length W ≤ i → Takes s q k list r taken i → take r list ≡ gather_from (take k (keep p W)) [] s.shape.N
  takes_all list r taken i l x =
      x.here ∙ ap (λ bs. gather_from bs [] s.shape.N) (sym (append-nil x.blocks) ∙ ap (λ ys. x.blocks ++ ys) (sym (ap (λ ys. take (k - taken) (keep p ys)) (drop_of_length-le W {i = i} l) ∙ ap (take (k - taken)) keep-nil ∙ none (k - taken))) ∙ x.rest)
