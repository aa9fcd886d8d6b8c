-- The blocks that have waited longest for a partition leave the cache, and those behind them move up.
use Rattle.std.specs.Prelude.{◌≡◌, refl, Bool, true, false, ◌&&◌, None, List, [], ◌∷◌, ◌++◌, ℕ, zero, suc, ◌+◌, ◌-◌, ◌≤◌, ◌<◌, take, drop, eqb, ltb, if◌then◌else◌}
use Rattle.std.proofs.Common.{ap, sym, ◌∙◌, append-nil, append_assoc, add-one, arith, take-append-drop, drop_of_length-le, drop-cons, lt-ltb, le-ltb}
use Rattle.std.proofs.Math.Decide.{dec_lt}
use Rattle.lists.specs.Search.{keep, without_first}
use Rattle.lists.specs.Tables.{put, put_other}
use Rattle.lists.specs.Leaving.{without-first-none, without-first-yes, without-first-no, without-first-behind}
use Rattle.rules.specs.Setters.{set_waiting}
use Rattle.rules.specs.Rebuild.{leave}
use Rattle.rules.proofs.Laws.Leaving.{leave-first}
use Rattle.memory.specs.declared.Shape.{Shape}
use Rattle.memory.specs.Tables as M
use Rattle.memory.specs.Tables.{tables_of}
use Rattle.memory.specs.Fits.{shape_of, fit, fit-lt}
use Rattle.client.specs.declared.Client.{Client}
use Rattle.client.specs.View.{rows, view, state_of}
use Rattle.client.specs.Rows.{length-rows, get_d_rows, rows_take}
use Rattle.client.specs.Changes.{fitted, fit-push}
use Rattle.client.specs.Readings.{waiting-count}
use Rattle.client.specs.Moves.{with_waiting, Stands}
use Rattle.cache.specs.Longest.{waits_for, LongestAt, Longest}
use Rattle.cache.specs.Waiting.{blocks_in, waiting-stands}

-- block b is for q, by the tables
abbrev pub is_for : Shape → List ℕ → ℕ → ℕ → Bool
is_for h m q b = eqb (fit h.p ((tables_of (shape_of h) m).partition b)) q

-- ---- One block: it leaves, or moves up

pub record MovedUp (h : Shape) (m m' : List ℕ) (q i gone k r : ℕ) : Type 0 where
  pub count : r ≡ (if ltb gone k && is_for h m q (blocks_in h m i) then gone + 1 else gone)
  pub tables : tables_of (shape_of h) m' ≡ (if ltb gone k && is_for h m q (blocks_in h m i) then tables_of (shape_of h) m else M.with_waiting (put (i - gone) (blocks_in h m i) (tables_of (shape_of h) m).waiting) (tables_of (shape_of h) m))

-- ---- All of them: of the first i blocks those that stay are the first, and of those behind them k less the ones that are gone are still to leave
pub record Leaves (h : Shape) (q k n : ℕ) (m₀ m : List ℕ) (gone i : ℕ) : Type 0 where
  pub blocks : ℕ → ℕ
  pub tables : tables_of (shape_of h) m ≡ M.with_waiting blocks (tables_of (shape_of h) m₀)
  pub le : gone ≤ i
  pub most : gone ≤ k
  pub kept : rows (fitted h.n blocks) (i - gone) ++ without_first (is_for h m₀ q) (k - gone) (drop i (rows (blocks_in h m₀) n)) ≡ without_first (is_for h m₀ q) k (rows (blocks_in h m₀) n)
  pub rest : (x : ℕ) → i ≤ x → fitted h.n blocks x ≡ blocks_in h m₀ x

module _ (h : Shape) (q k n : ℕ) (m₀ : List ℕ) where
  abbrev g : ℕ → ℕ
  g = blocks_in h m₀

  abbrev p : ℕ → Bool
  p = is_for h m₀ q

  leaves-start : (first : ℕ) → first ≤ n → keep p (take first (rows g n)) ≡ [] → Leaves h q k n m₀ m₀ 0 first
  leaves-start first l e = record {
    blocks = (tables_of (shape_of h) m₀).waiting;
    tables = refl;
    le = omega arith;
    most = omega arith;
    kept =
        let a : first - 0 ≡ first = omega arith in
        let b : k - 0 ≡ k = omega arith in
        rw (a, b) (ap (λ xs. xs ++ without_first p k (drop first (rows g n))) (sym (rows_take g n first l))
        ∙ sym (without-first-behind p k (take first (rows g n)) (drop first (rows g n)) e) ∙ ap (without_first p k) (take-append-drop first (rows g n)));
    rest = λ x u. refl;
  }

  module _ (m m' : List ℕ) (gone i r : ℕ) (some : 1 ≤ h.n) (inside : i < n) (s : Leaves h q k n m₀ m gone i) (j : MovedUp h m m' q i gone k r) where
    same : blocks_in h m i ≡ g i
    same = ap (λ x. fit h.n (x.waiting i)) s.tables ∙ s.rest i (omega arith)

    tested : is_for h m q (blocks_in h m i) ≡ p (g i)
    tested = ap (λ b. is_for h m q b) same ∙ ap (λ x. eqb (fit h.p (x.partition (g i))) q) s.tables

    next : drop i (rows g n) ≡ g i ∷ drop (i + 1) (rows g n)
    next = drop-cons (rows g n) i 0 (rw (length-rows g n) inside) ∙ ap (λ x. x ∷ drop (suc i) (rows g n)) (get_d_rows g n i 0 inside) ∙ ap (λ y. g i ∷ drop y (rows g n)) (sym (add-one i))

    -- it leaves
    goes : gone < k → p (g i) ≡ true → r ≡ gone + 1 → tables_of (shape_of h) m' ≡ tables_of (shape_of h) m → Leaves h q k n m₀ m' r (i + 1)
    goes l e c t =
        let a : k - gone ≡ suc (k - (gone + 1)) = omega arith in
        let b : (i + 1) - (gone + 1) ≡ i - gone = omega arith in
        rw c (record {
          blocks = s.blocks;
          tables = t ∙ s.tables;
          le = omega (arith, s.le);
          most = omega arith;
          kept = rw b (ap (λ xs. rows (fitted h.n s.blocks) (i - gone) ++ xs) (sym (ap (without_first p (k - gone)) next ∙ ap (λ d. without_first p d (g i ∷ drop (i + 1) (rows g n))) a ∙ without-first-yes p (k - (gone + 1)) (g i) (drop (i + 1) (rows g n)) e)) ∙ s.kept);
          rest = λ x u. s.rest x (omega arith);
        })

    -- it stays
    stays : without_first p (k - gone) (g i ∷ drop (i + 1) (rows g n)) ≡ g i ∷ without_first p (k - gone) (drop (i + 1) (rows g n)) → r ≡ gone
        → tables_of (shape_of h) m' ≡ M.with_waiting (put (i - gone) (blocks_in h m i) (tables_of (shape_of h) m).waiting) (tables_of (shape_of h) m) → Leaves h q k n m₀ m' r (i + 1)
    stays e c t =
        let v : ℕ = blocks_in h m i in
        let X : List ℕ = without_first p (k - gone) (drop (i + 1) (rows g n)) in
        let b : (i + 1) - gone ≡ (i - gone) + 1 = omega (arith, s.le) in
        rw c (record {
          blocks = put (i - gone) v s.blocks;
          tables = t ∙ ap (λ x. M.with_waiting (put (i - gone) v x.waiting) x) s.tables;
          le = omega (arith, s.le);
          most = s.most;
          kept = rw b (ap (λ xs. xs ++ X) (fit-push h.n some s.blocks (i - gone) v (fit-lt h.n _ some)) ∙ append_assoc (rows (fitted h.n s.blocks) (i - gone)) (v ∷ []) X
              ∙ ap (λ xs. rows (fitted h.n s.blocks) (i - gone) ++ xs) (ap (λ y. y ∷ X) same ∙ sym (ap (without_first p (k - gone)) next ∙ e)) ∙ s.kept);
          rest = λ x u. ap (fit h.n) (put_other (i - gone) v s.blocks x (λ d. omega (arith, s.le))) ∙ s.rest x (omega arith);
        })

    leaves-more : Leaves h q k n m₀ m' r (i + 1)
    leaves-more = go (dec_lt gone k) (p (g i)) refl (rw tested at j.count) (rw tested at j.tables)
      where
        go : Dec (gone < k) → (u : Bool) → p (g i) ≡ u → r ≡ (if ltb gone k && p (g i) then gone + 1 else gone)
            → tables_of (shape_of h) m' ≡ (if ltb gone k && p (g i) then tables_of (shape_of h) m else M.with_waiting (put (i - gone) (blocks_in h m i) (tables_of (shape_of h) m).waiting) (tables_of (shape_of h) m)) → Leaves h q k n m₀ m' r (i + 1)
        go (yes l) true e c t = goes l e (rw (lt-ltb gone k l, e) at c) (rw (lt-ltb gone k l, e) at t)
        go (yes l) false e c t = stays (without-first-no p (k - gone) (g i) (drop (i + 1) (rows g n)) e) (rw (lt-ltb gone k l, e) at c) (rw (lt-ltb gone k l, e) at t)
        go (no l) u e c t =
            let z : k - gone ≡ 0 = omega arith in
            stays (rw z (unfold without_first in refl)) (rw (le-ltb gone k (omega arith)) at c) (rw (le-ltb gone k (omega arith)) at t)

  leaves-done : (m : List ℕ) (gone i : ℕ) → n ≤ i → (s : Leaves h q k n m₀ m gone i) → rows (fitted h.n s.blocks) (i - gone) ≡ leave (take k (keep p (rows g n))) (rows g n)
  leaves-done m gone i l s =
      sym (append-nil (rows (fitted h.n s.blocks) (i - gone)))
      ∙ ap (λ xs. rows (fitted h.n s.blocks) (i - gone) ++ xs) (sym (ap (without_first p (k - gone)) (drop_of_length-le (rows g n) {i = i} (rw (length-rows g n) l)) ∙ without-first-none p (k - gone)))
      ∙ s.kept ∙ sym (leave-first p k (rows g n))

-- ---- By the client
module _ (c : Client) (q k : ℕ) (m₀ : List ℕ) where
  pub leaving-start : (first : ℕ) → LongestAt (state_of c m₀) q first → Leaves c.shape q k c.waiting m₀ m₀ 0 first
  leaving-start first f = leaves-start c.shape q k c.waiting m₀ first (omega (arith, f.inside, waiting-count c m₀)) (unfold state_of view in f.before)

  pub leaving-more : (m m' : List ℕ) (gone i r : ℕ) → 1 ≤ c.shape.n → i < c.waiting → Leaves c.shape q k c.waiting m₀ m gone i → MovedUp c.shape m m' q i gone k r → Leaves c.shape q k c.waiting m₀ m' r (i + 1)
  leaving-more m m' gone i r a b s j = leaves-more c.shape q k c.waiting m₀ m m' gone i r a b s j

  pub leaving-done : (m : List ℕ) (gone i : ℕ) → i ≡ c.waiting → Leaves c.shape q k c.waiting m₀ m gone i
      → Stands (with_waiting (c.waiting - gone) c) m₀ m (set_waiting (leave (take k (keep (waits_for (state_of c m₀) q) (state_of c m₀).waiting)) (state_of c m₀).waiting) (state_of c m₀))
  leaving-done m gone i e s =
      let d = leaves-done c.shape q k c.waiting m₀ m gone i (omega arith) s in
      waiting-stands c m₀ m s.blocks (c.waiting - gone) _ s.tables (rw e at d ∙ unfold state_of view in refl)

  -- none leaves where none waits for q
  pub leaving-none : Longest (state_of c m₀) q None → Stands c m₀ m₀ (set_waiting (leave (take k (keep (waits_for (state_of c m₀) q) (state_of c m₀).waiting)) (state_of c m₀).waiting) (state_of c m₀))
  unfolding leave
  leaving-none e = record { state = sym (ap (λ bs. set_waiting (leave bs (state_of c m₀).waiting) (state_of c m₀)) (ap (take k) e ∙ none k)); tail = refl }
    where
      none : (n : ℕ) → take {A = ℕ} n [] ≡ []
      none zero = refl
      none (suc n) = refl
