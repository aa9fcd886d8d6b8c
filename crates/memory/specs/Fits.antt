-- A shape within bounds, and memory that is long enough for it.
use Rattle.std.specs.Prelude.{◌≡◌, Bool, true, false, ◌||◌, [], ◌∷◌, ℕ, ◌+◌, ◌*◌, ◌≤◌, ◌<◌, eqb, ltb, leb}
use Rattle.std.proofs.Common.{sym, true≢false, mul-le-mul, arith, inl, inr, pow_mono, eqb-true, leb-true, lt-ltb, le-ltb}
use Rattle.std.proofs.Math.Decide.{dec_lt}
use Rattle.lists.specs.Tests.{and_l, and_r, or-true, every-yes, between}
use Rattle.lists.specs.Search.{any, member}
use Rattle.rules.specs.Shape.{Shape, within, slots}
use Rattle.rules.specs.Memory.{needed}
use Rattle.memory.specs.declared.Shape.{Shape as Numbers}

-- the shape that six numbers say
abbrev pub shape_of : Numbers → Shape
shape_of h = record { N = h.n; P = h.p; L = h.l; B = h.b; E = h.e; W = h.w }

-- the bounds by which the cells of all levels of all partitions are counted
abbrev pub CellsFit : Numbers → Type 0
CellsFit h = (h.l ≤ 8) × (h.p ≤ 64) × (h.p * slots h.l ≤ 32768)

-- what the code goes by: each number's bounds, and that the memory is long enough
pub record Fits (h : Shape) (len : ℕ) : Type 0 where
  pub some_blocks : 1 ≤ h.N
  pub blocks : h.N ≤ 4096
  pub some_partitions : 1 ≤ h.P
  pub partitions : h.P ≤ 64
  pub some_levels : 1 ≤ h.L
  pub levels : h.L ≤ 8
  pub some_bytes : 1 ≤ h.B
  pub bytes : h.B ≤ 512
  pub stride : slots h.L ≤ 512
  pub cells : h.P * slots h.L ≤ 32768
  pub contents : (h.N + 1) * h.B ≤ 2097664
  pub long : 384 + 6 * h.N + 6 * (h.P * slots h.L) + (h.N + 1) * h.B ≤ len

pub parts-le : (p : ℕ) → member p (1 ∷ 2 ∷ 4 ∷ 8 ∷ 16 ∷ 32 ∷ 64 ∷ []) ≡ true → (1 ≤ p) × (p ≤ 64)
unfolding member any
parts-le p e = go p e
  where
    is : (n : ℕ) (r : Bool) → 1 ≤ n → n ≤ 64 → (eqb p n || r) ≡ true → (r ≡ true → (1 ≤ p) × (p ≤ 64)) → (1 ≤ p) × (p ≤ 64)
    is n r a b e k = elim (or-true (eqb p n) r e) [ inl q ↦ (omega (arith, eqb-true p n q), omega (arith, eqb-true p n q)) | inr q ↦ k q ]

    go : (q : ℕ) → (eqb p 1 || (eqb p 2 || (eqb p 4 || (eqb p 8 || (eqb p 16 || (eqb p 32 || (eqb p 64 || false))))))) ≡ true → (1 ≤ p) × (p ≤ 64)
    go q e = is 1 _ (omega arith) (omega arith) e (λ e. is 2 _ (omega arith) (omega arith) e (λ e. is 4 _ (omega arith) (omega arith) e (λ e. is 8 _ (omega arith) (omega arith) e
        (λ e. is 16 _ (omega arith) (omega arith) e (λ e. is 32 _ (omega arith) (omega arith) e (λ e. is 64 _ (omega arith) (omega arith) e (λ e. absurd (true≢false (sym e)))))))))

pub fits : (h : Shape) (len : ℕ) → within h ≡ true → needed h ≤ len → Fits h len
unfolding within between needed
fits h len e l =
    let y = every-yes _ e in
    let p = parts-le h.P y.1.0 in
    let n1 = leb-true 1 h.N (and_l _ _ y.0) in
    let n2 = leb-true h.N 4096 (and_r (leb 1 h.N) _ y.0) in
    let l1 = leb-true 1 h.L (and_l _ _ y.1.1.0) in
    let l2 = leb-true h.L 8 (and_r (leb 1 h.L) _ y.1.1.0) in
    let b1 = leb-true 1 h.B (and_l _ _ y.1.1.1.0) in
    let b2 = leb-true h.B 512 (and_r (leb 1 h.B) _ y.1.1.1.0) in
    let s : slots h.L ≤ 512 = pow_mono {i = h.L + 1} {j = 9} (omega arith) in
    record {
      some_blocks = n1;
      blocks = n2;
      some_partitions = p.0;
      partitions = p.1;
      some_levels = l1;
      levels = l2;
      some_bytes = b1;
      bytes = b2;
      stride = s;
      cells = mul-le-mul p.1 s;
      contents = mul-le-mul (more n2) b2;
      long = l;
    }
  where
    more : h.N ≤ 4096 → h.N + 1 ≤ 4097
    more k = omega arith

-- ---- Every number decodes to one in range
unfoldable pub fit : ℕ → ℕ → ℕ
fit bound x = elim (ltb x bound) [ true ↦ x | false ↦ 0 ]

pub fit-in : (bound x : ℕ) → x < bound → fit bound x ≡ x
unfolding fit
fit-in bound x h = rw (lt-ltb x bound h, fit)

pub fit-out : (bound x : ℕ) → bound ≤ x → fit bound x ≡ 0
unfolding fit
fit-out bound x h = rw (le-ltb x bound h, fit)

pub fit-lt : (bound x : ℕ) → 0 < bound → fit bound x < bound
fit-lt bound x h = go (dec_lt x bound)
  where
    go : Dec (x < bound) → fit bound x < bound
    go (yes l) = rw (fit-in bound x l) l
    go (no l) = rw (fit-out bound x (omega arith)) h

pub fit-le : (bound x : ℕ) → fit bound x ≤ x
fit-le bound x = go (dec_lt x bound)
  where
    go : Dec (x < bound) → fit bound x ≤ x
    go (yes l) = omega (arith, fit-in bound x l)
    go (no l) = omega (arith, fit-out bound x (omega arith))

pub fit-zero : (bound : ℕ) → fit bound 0 ≡ 0
fit-zero bound = go (dec_lt 0 bound)
  where
    go : Dec (0 < bound) → fit bound 0 ≡ 0
    go (yes l) = fit-in bound 0 l
    go (no l) = fit-out bound 0 (omega arith)
