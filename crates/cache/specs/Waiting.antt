-- The blocks that wait, in their table.
use Rattle.std.specs.Prelude.{◌≡◌, Bool, true, false, not, Option, Some, None, MatchOption, is_some, unwrap_or, List, [], ◌∷◌, ◌++◌, ℕ, zero, suc, ◌+◌, ◌≤◌, ◌<◌, length, eqb, if◌then◌else◌}
use Rattle.std.proofs.Math.Path.{refl, sym, fun_ext}
use Rattle.std.proofs.Common.{ap, subst, ◌∙◌, true≢false, add-one, arith, below_none, below_more, eq-eqb, ne_eqb}
use Rattle.std.proofs.Math.Decide.{ℕ_discrete}
use mir.Val.{bool_byte}
use Rattle.lists.specs.Search.{any, member}
use Rattle.lists.specs.Tables.{put, put_same, put_other}
use Rattle.rules.specs.Ranges.{others}
use Rattle.rules.specs.Setters.{set_waiting}
use Rattle.memory.specs.declared.Shape.{Shape}
use Rattle.memory.specs.Tables as M
use Rattle.memory.specs.Tables.{tables_of}
use Rattle.memory.specs.Fits.{shape_of, fit}
use Rattle.client.specs.declared.Client.{Client}
use Rattle.client.specs.View.{rows, view, state_of}
use Rattle.client.specs.Rows.{length-rows, Kept, kept-none, kept-yes, kept-no, any-hit, any-miss}
use Rattle.client.specs.Changes.{fitted, fit-push, fit-kept}
use Rattle.client.specs.Moves.{with_waiting, Stands, stands}

abbrev pub blocks_in : Shape → List ℕ → ℕ → ℕ
blocks_in h m = fitted h.n (tables_of (shape_of h) m).waiting

module _ (c : Client) (m : List ℕ) where
  pub waiting-is : (state_of c m).waiting ≡ rows (blocks_in c.shape m) c.waiting
  unfolding state_of view
  waiting-is = refl

  pub partition-is : (i b r : ℕ) → b ≡ blocks_in c.shape m i → r ≡ fit c.shape.p ((tables_of (shape_of c.shape) m).partition b) → (state_of c m).partition (blocks_in c.shape m i) ≡ r
  unfolding state_of view
  partition-is i b r e f = sym (rw e at f)

-- only the table of those that wait is changed, to f
pub waiting-stands : (c : Client) (m₀ m : List ℕ) (f : ℕ → ℕ) (n : ℕ) (xs : List ℕ) → tables_of (shape_of c.shape) m ≡ M.with_waiting f (tables_of (shape_of c.shape) m₀) → rows (fitted c.shape.n f) n ≡ xs
    → Stands (with_waiting n c) m₀ m (set_waiting xs (state_of c m₀))
unfolding state_of view tables_of
waiting-stands c m₀ m f n xs e l = stands (with_waiting n c) m₀ m (M.with_waiting f (tables_of (shape_of c.shape) m₀)) _ e refl (ap (λ r. set_waiting r (view c (tables_of (shape_of c.shape) m₀))) l)

-- ---- The first place of a block among the first n
pub record FirstAt (f : ℕ → ℕ) (n b r : ℕ) : Type 0 where
  pub inside : r < n
  pub before : (x : ℕ) → x < r → eqb (f x) b ≡ false
  pub here : f r ≡ b

abbrev pub First : (ℕ → ℕ) → ℕ → ℕ → Option ℕ → Type 0
First f n b r = MatchOption r ((x : ℕ) → x < n → eqb (f x) b ≡ false) (FirstAt f n b)

-- none of those before it, or of all where it has none, is b
pub first-before : (f : ℕ → ℕ) (n b : ℕ) (r : Option ℕ) → First f n b r → (unwrap_or r n ≤ n) × ((x : ℕ) → x < unwrap_or r n → eqb (f x) b ≡ false)
first-before f n b None a = (omega arith, a)
first-before f n b (Some r) a = (omega (arith, a.inside), a.before)

-- it has one exactly where it is among them
pub waits-is : (c : Client) (m : List ℕ) (b : ℕ) (r : Option ℕ) → First (blocks_in c.shape m) c.waiting b r → is_some r ≡ member b (state_of c m).waiting
unfolding member
waits-is c m b None a = rw waiting-is (sym (any-miss (eqb b) _ _ (λ x h. ne_eqb b _ (λ e. true≢false (sym (eq-eqb _ b (sym e)) ∙ a x h)))))
waits-is c m b (Some r) a = rw waiting-is (sym (any-hit (eqb b) _ _ r a.inside (eq-eqb b _ (sym a.here))))

-- one that is not among them has no place
pub waits-not : (c : Client) (m : List ℕ) (b : ℕ) → member b (state_of c m).waiting ≡ false → First (blocks_in c.shape m) c.waiting b None
unfolding member
waits-not c m b e = λ x l. ne_eqb _ b (λ q. true≢false (sym (any-hit (eqb b) _ _ x l (eq-eqb b _ (sym q))) ∙ rw waiting-is at e))

-- ---- A count k of the entries that are b, of the first i of n: it is 0 where none is
pub record Counted (f : ℕ → ℕ) (n b k i : ℕ) : Type 0 where
  pub le : k ≤ i
  pub none : k ≡ 0 → (x : ℕ) → x < i → eqb b (f x) ≡ false
  pub some : 0 < k → any (eqb b) (rows f n) ≡ true

module _ (f : ℕ → ℕ) (n b : ℕ) where
  pub counted_none : Counted f n b 0 0
  counted_none = record { le = omega arith; none = λ e. below_none _; some = λ l. absurd (omega arith) }

  pub counted-more : (k i x : ℕ) → i < n → x ≡ f i → Counted f n b k i → Counted f n b (k + bool_byte (eqb x b)) (i + 1)
  counted-more k i x l e s = go (ℕ_discrete x b)
    where
      go : Dec (x ≡ b) → Counted f n b (k + bool_byte (eqb x b)) (i + 1)
      go (yes q) = rw (eq-eqb x b q) (record { le = omega (arith, s.le); none = λ z. absurd (omega arith); some = λ z. any-hit (eqb b) f n i l (eq-eqb b (f i) (sym q ∙ e)) })
      go (no q) = rw (ne_eqb x b q) (record { le = omega (arith, s.le); none = λ z. below_more _ _ (s.none (omega arith)) (ne_eqb b (f i) (λ p. q (e ∙ sym p))); some = λ z. s.some (omega arith) })

  counted-all : (k i : ℕ) → n ≤ i → Counted f n b k i → not (eqb k 0) ≡ any (eqb b) (rows f n)
  counted-all k i l s = go (ℕ_discrete k 0)
    where
      go : Dec (k ≡ 0) → not (eqb k 0) ≡ any (eqb b) (rows f n)
      go (yes e) = rw (eq-eqb k 0 e) (sym (any-miss (eqb b) f n (λ x u. s.none e x (omega arith))))
      go (no e) = rw (ne_eqb k 0 e) (sym (s.some (omega (arith, e))))

pub waits-counted : (c : Client) (m : List ℕ) (b k i : ℕ) → c.waiting ≤ i → Counted (blocks_in c.shape m) c.waiting b k i → not (eqb k 0) ≡ member b (state_of c m).waiting
unfolding member
waits-counted c m b k i l s = rw waiting-is (counted-all (blocks_in c.shape m) c.waiting b k i l s)

-- ---- One is renewed: the first k blocks are those of the first i that are not b
abbrev pub other : ℕ → ℕ → Bool
other b a = not (eqb a b)

pub record Renewing (h : Shape) (b : ℕ) (m₀ m : List ℕ) (k i : ℕ) : Type 0 where
  pub blocks : ℕ → ℕ
  pub tables : tables_of (shape_of h) m ≡ M.with_waiting blocks (tables_of (shape_of h) m₀)
  pub kept : Kept (other b) (blocks_in h m₀) (fitted h.n blocks) k i

-- entry i of the cache joins the first k, unless it is b: r are first then
pub record Joined (h : Shape) (m m' : List ℕ) (k i b r : ℕ) : Type 0 where
  pub count : r ≡ (if eqb (blocks_in h m i) b then k else k + 1)
  pub tables : tables_of (shape_of h) m' ≡ (if eqb (blocks_in h m i) b then tables_of (shape_of h) m else M.with_waiting (put k (blocks_in h m i) (tables_of (shape_of h) m).waiting) (tables_of (shape_of h) m))

-- nothing changes while b is not met
kept-all : (p : ℕ → Bool) (g : ℕ → ℕ) (j : ℕ) → ((x : ℕ) → x < j → p (g x) ≡ true) → Kept p g g j j
kept-all p g zero f = kept-none p g
kept-all p g (suc j) f = subst (λ (u : ℕ → ℕ). Kept p g u (suc j) (suc j)) same (rw (add-one j) at (kept-yes p g g j j (f j (omega arith)) (kept-all p g j (λ x l. f x (omega arith)))))
  where
    same : put j (g j) g ≡ g
    same = fun_ext (λ x. go x (ℕ_discrete x j))
      where
        go : (x : ℕ) → Dec (x ≡ j) → put j (g j) g x ≡ g x
        go x (yes e) = rw e (put_same j (g j) g)
        go x (no n) = put_other j (g j) g x n

pub renewing-from : (h : Shape) (b : ℕ) (m : List ℕ) (j : ℕ) → ((x : ℕ) → x < j → eqb (blocks_in h m x) b ≡ false) → Renewing h b m m j j
renewing-from h b m j f = record { blocks = (tables_of (shape_of h) m).waiting; tables = refl; kept = kept-all (other b) (blocks_in h m) j (λ x l. ap not (f x l)) }

pub renewing-more : (h : Shape) (b : ℕ) (m₀ m m' : List ℕ) (k i r : ℕ) → 1 ≤ h.n → Joined h m m' k i b r → Renewing h b m₀ m k i → Renewing h b m₀ m' r (i + 1)
renewing-more h b m₀ m m' k i r l j s = go (eqb (blocks_in h m i) b) refl j.count j.tables
  where
    same : blocks_in h m i ≡ fit h.n (s.blocks i)
    same = ap (λ x. fit h.n (x.waiting i)) s.tables

    go : (t : Bool) → eqb (blocks_in h m i) b ≡ t → r ≡ (if t then k else k + 1)
        → tables_of (shape_of h) m' ≡ (if t then tables_of (shape_of h) m else M.with_waiting (put k (blocks_in h m i) (tables_of (shape_of h) m).waiting) (tables_of (shape_of h) m)) → Renewing h b m₀ m' r (i + 1)
    go true e q t = record { blocks = s.blocks; tables = t ∙ s.tables; kept = rw q (kept-no (other b) (blocks_in h m₀) (fitted h.n s.blocks) k i (ap not (rw same at e)) s.kept) }
    go false e q t = record {
      blocks = put k (blocks_in h m i) s.blocks;
      tables = t ∙ ap (λ x. M.with_waiting (put k (blocks_in h m i) x.waiting) x) s.tables;
      kept = rw q (fit-kept h.n l s.blocks (other b) (blocks_in h m₀) k i (blocks_in h m i) same (ap not e) s.kept);
    }

module _ (c : Client) (b : ℕ) (m₀ m : List ℕ) (k i : ℕ) (e : i ≡ c.waiting) (s : Renewing c.shape b m₀ m k i) where
  abbrev rest : List ℕ
  rest = others (state_of c m₀).waiting b

  kept-is : rows (fitted c.shape.n s.blocks) k ≡ rest
  unfolding others
  kept-is = s.kept.kept ∙ rw (e, waiting-is)

  pub count-is : k ≡ length rest
  count-is = sym (length-rows _ k) ∙ ap length kept-is

  pub renewed : (m' : List ℕ) → 1 ≤ c.shape.n → b < c.shape.n → tables_of (shape_of c.shape) m' ≡ M.with_waiting (put k b (tables_of (shape_of c.shape) m).waiting) (tables_of (shape_of c.shape) m)
      → Stands (with_waiting (k + 1) c) m₀ m' (set_waiting (rest ++ (b ∷ [])) (state_of c m₀))
  renewed m' l u t = waiting-stands c m₀ m' (put k b s.blocks) (k + 1) (rest ++ (b ∷ [])) (t ∙ ap (λ x. M.with_waiting (put k b x.waiting) x) s.tables) (fit-push c.shape.n l s.blocks k b u ∙ ap (λ r. r ++ (b ∷ [])) kept-is)
