-- A hidden table of N positions below P. Two trades: one position is shown, and the one that is drawn for it is hidden in its place; and the
-- positions drawn at the start are the table.
use Rattle.std.specs.Prelude.{◌≡◌, refl, List, [], ◌∷◌, map, ℕ, ◌<◌, length, get_or, replicate}
use Rattle.std.proofs.Common.{sym, ◌∙◌, arith}
use Rattle.std.proofs.Math.Path.{fun_ext}
use Rattle.std.proofs.Math.Decide.{ℕ_discrete, dec_lt}
use Rattle.std.proofs.lemmas.List.{length-replicate, length-map}
use Rattle.std.proofs.Math.ListN.{get_or-eq_default}
use Rattle.lists.specs.Search.{below}
use Rattle.lists.specs.Lengths.{length-below}
use Rattle.lists.specs.Places.{map-get_or}
use Rattle.lists.specs.Members.{get_or-map-below}
use Rattle.lists.specs.Tables.{put, put_same, put_other}
use Rattle.rules.specs.Draws.{Drew}
use Rattle.rules.proofs.Laws.Orders.{drew-length, drew-each, each-drew}
use Rattle.matching.specs.Trades.{Trades, None}
use Rattle.matching.specs.Positions.{Placed, Positions, Zero, cover, show}
use Rattle.matching.proofs.Shown.{cover-show, show-cover}

placed-put : (N P b x : ℕ) (pos : Positions) → b < N → x < P → Placed N P pos → Placed N P (put b x pos)
placed-put N P b x pos l m p = (λ a k. go a k (ℕ_discrete a b), λ a k. put_other b x pos a (λ e. omega arith) ∙ p.1 a k)
  where
    go : (a : ℕ) → a < N → Dec (a ≡ b) → put b x pos a < P
    go a k (yes e) = rw (e, put_same b x pos) m
    go a k (no e) = rw (put_other b x pos a e) (p.0 a k)

-- ---- the position of b is shown: the first draw is below P, and any others, below ms, stay
module _ (b N P : ℕ) (ms : List ℕ) (l : b < N) where
  pub show-ok : (x : Positions × List ℕ) → Placed N P x.0 × Drew (P ∷ ms) x.1 → Drew (P ∷ ms) (show b x).0 × Placed N P (show b x).1
  show-ok (pos, []) p = absurd p.1
  show-ok (pos, d ∷ ds) p = ((p.0.0 b l, p.1.1), placed-put N P b d pos l p.1.0 p.0)

  pub cover-ok : (y : List ℕ × Positions) → Drew (P ∷ ms) y.0 × Placed N P y.1 → Placed N P (cover b y).0 × Drew (P ∷ ms) (cover b y).1
  cover-ok ([], pos) p = absurd p.0
  cover-ok (a ∷ ds, pos) p = (placed-put N P b a pos l p.0.0 p.1, (p.1.0 b l, p.0.1))

  abbrev pub position : Trades {D = List ℕ} {E = List ℕ} {H = Positions} (Placed N P) (Drew (P ∷ ms)) (Drew (P ∷ ms)) (λ e. Placed N P)
  position = record {
    f = show b;
    g = cover b;
    f-ok = show-ok;
    g-ok = cover-ok;
    g-f = λ x p. cover-show b x;
    f-g = λ y p. show-cover b y;
    same = λ x p. refl;
  }

-- ---- the start: N draws below P

module _ (N P : ℕ) where
  abbrev pub settle : Positions × List ℕ → List ℕ × Positions
  settle x = ([], λ b. get_or x.1 b 0)

  abbrev pub unsettle : List ℕ × Positions → Positions × List ℕ
  unsettle y = (λ b. 0, map y.1 (below N))

  pub settle-ok : (e : List ℕ) → Drew (replicate N P) e → Placed N P (λ b. get_or e b 0) × (map (λ b. get_or e b 0) (below N) ≡ e)
  settle-ok e p =
      let n : length e ≡ N = drew-length (replicate N P) e p ∙ length-replicate N P in
      ((drew-each N P e p, λ b l. get_or-eq_default e 0 (omega arith)), map-get_or e N n)

  pub unsettle-ok : (pos : Positions) → Placed N P pos → Drew (replicate N P) (map pos (below N)) × ((λ (b : ℕ). get_or (map pos (below N)) b 0) ≡ pos)
  unsettle-ok pos p = (
    each-drew N P (map pos (below N)) size (λ k l. rw (get_or-map-below pos N k 0 l) (p.0 k l)),
    fun_ext (λ b. go b (dec_lt b N)),
  )
    where
      size : length (map pos (below N)) ≡ N
      size = length-map (below N) pos ∙ length-below N

      go : (b : ℕ) → Dec (b < N) → get_or (map pos (below N)) b 0 ≡ pos b
      go b (yes l) = get_or-map-below pos N b 0 l
      go b (no l) = get_or-eq_default (map pos (below N)) 0 (omega (arith, size)) ∙ sym (p.1 b (omega arith))

  abbrev pub settled : Trades {D = List ℕ} {E = List ℕ} {H = Positions} Zero (Drew (replicate N P)) None (λ e. Placed N P)
  settled = record {
    f = settle;
    g = unsettle;
    f-ok = λ x p. (refl, (settle-ok x.1 p.1).0);
    g-ok = λ y p. (λ b. refl, (unsettle-ok y.1 p.1).0);
    g-f = λ x p i. (fun_ext {f = λ b. 0} {g = x.0} (λ b. sym (p.0 b)) i, (settle-ok x.1 p.1).1 i);
    f-g = λ y p i. (sym p.0 i, (unsettle-ok y.1 p.1).1 i);
    same = λ x p. refl;
  }
