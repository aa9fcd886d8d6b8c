-- What a change of a table or of the client changes of the state that they stand for.
use Rattle.std.specs.Prelude.{◌≡◌, refl, Bool, true, false, List, [], ◌∷◌, ◌++◌, ℕ, zero, suc, ◌+◌, ◌-◌, ◌*◌, ◌%◌, ◌^◌, ◌≤◌, ◌<◌, replicate, ltb, leb, if◌then◌else◌}
use Rattle.std.proofs.Math.Path.{ap, fun_ext}
use Rattle.std.proofs.Common.{sym, ◌∙◌, subst, mod-eq_of_lt, arith, pow_mono, leb-true, lt-ltb, le-ltb, le-leb}
use Rattle.std.proofs.Math.Nat.{add-mul-mod_self_right}
use Rattle.std.proofs.Math.Decide.{ℕ_discrete, dec_lt}
use Rattle.std.proofs.lemmas.Bool.{lt-leb}
use Rattle.lists.specs.Tables.{put, put_same, put_other}
use Rattle.rules.specs.Shape.{Shape, slots, cell}
use Rattle.rules.specs.State.{nowhere, stored}
use Rattle.rules.specs.Blocks.{is_nowhere}
use Rattle.rules.specs.Setters.{set_partition, set_place, set_bytes, set_counter, set_order, set_mark, set_holds, set_request}
use Rattle.rules.proofs.Laws.Levels.{two-slots}
use Rattle.rules.proofs.Laws.Layout.{offset-lt}
use Rattle.memory.specs.Tables.{Tables, with_partition, with_place, with_counter, with_order, with_mark, with_holds, with_blocks}
use Rattle.memory.specs.Closing.{closed_up, closed-low, closed_in, closed-past}
use Rattle.memory.specs.Fits.{shape_of, fit, fit-in, fit-lt}
use Rattle.client.specs.declared.Client.{Client}
use Rattle.client.specs.View.{level_of, place_of, level_at, request_of, bytes_in, rows, view}
use Rattle.client.specs.Rows.{drop_at, put_map, rows-push, shifted-all, Kept, kept-yes}

-- ---- Slots as numbers

-- the level of slots(level) + slot
pub level-is : (n ℓ i : ℕ) → ℓ < n → i < slots ℓ → level_of n (slots ℓ + i) ≡ ℓ
unfolding level_of
level-is zero ℓ i h k = absurd (omega arith)
level-is (suc n) ℓ i h k = go (ℕ_discrete ℓ n) (level-is n ℓ i)
  where
    go : Dec (ℓ ≡ n) → (ℓ < n → i < slots ℓ → level_of n (slots ℓ + i) ≡ ℓ) → level_of (suc n) (slots ℓ + i) ≡ ℓ
    go (yes e) ih = rw (e, le-leb (slots n) (slots n + i) (omega arith), level_of)
    go (no e) ih = rw (lt-leb (slots n) (slots ℓ + i) (omega (arith, pow_mono {i = suc (ℓ + 1)} {j = n + 1} (omega arith))), level_of) (ih (omega arith) k)

-- the level of a slot's number has its first slot there or before
pub level-le : (n x : ℕ) → 2 ≤ x → slots (level_of n x) ≤ x
unfolding level_of
level-le zero x l = omega arith
level-le (suc n) x l = go (leb (slots n) x) refl (level-le n x l)
  where
    go : (t : Bool) → leb (slots n) x ≡ t → slots (level_of n x) ≤ x → slots (level_of (suc n) x) ≤ x
    go true e ih = rw (e, level_of) (leb-true (slots n) x e)
    go false e ih = rw (e, level_of) ih

pub place_is : (n ℓ i : ℕ) → ℓ < n → i < slots ℓ → place_of n (slots ℓ + i) ≡ stored ℓ i
unfolding place_of
place_is n ℓ i h k =
    let e = level-is n ℓ i h k in
    let d : slots ℓ + i - slots ℓ ≡ i = omega arith in
    rw (le-ltb (slots ℓ + i) 2 (omega (arith, two-slots ℓ)), e, d)

pub nowhere-is : (n x : ℕ) → x < 2 → place_of n x ≡ nowhere
unfolding place_of
nowhere-is n x l = rw (lt-ltb x 2 l)

pub stored-not : (n x : ℕ) → 2 ≤ x → is_nowhere (place_of n x) ≡ false
unfolding is_nowhere place_of
stored-not n x l = rw (le-ltb x 2 l)

pub place-nowhere : (n : ℕ) → place_of n 0 ≡ nowhere
place-nowhere n = nowhere-is n 0 (omega arith)

mod-of : (x q m : ℕ) → x < m → (x + q * m) % m ≡ x
mod-of x q m h = add-mul-mod_self_right x q m ∙ mod-eq_of_lt h

-- the level of a cell
pub cell-level : (h : Shape) (q ℓ i : ℕ) → ℓ < h.L → i < slots ℓ → level_at h (cell h q ℓ i) ≡ ℓ
unfolding level_at cell
cell-level h q ℓ i hℓ hi =
    let e : q * slots h.L + slots ℓ + i ≡ slots ℓ + i + q * slots h.L = omega arith in
    let m : (q * slots h.L + slots ℓ + i) % slots h.L ≡ slots ℓ + i = rw e (mod-of (slots ℓ + i) q (slots h.L) (offset-lt h.L ℓ i hℓ hi)) in
    ap (level_of h.L) m ∙ level-is h.L ℓ i hℓ hi

-- ---- Tables

-- an entry in range is stored and read as it is
fit-put : (bound : ℕ → ℕ) (i v : ℕ) (f : ℕ → ℕ) → v < bound i → ◌≡◌ {A = ℕ → ℕ} (λ x. fit (bound x) (put i v f x)) (put i v (λ x. fit (bound x) (f x)))
fit-put bound i v f l = put_map (λ x y. fit (bound x) y) i v f ∙ ap (λ w. put i w (λ x. fit (bound x) (f x))) (fit-in (bound i) v l)

module _ (c : Client) (t : Tables) where
  abbrev h : Shape
  h = shape_of c.shape

  pub view-partition : (b v : ℕ) → v < h.P → view c (with_partition (put b v t.partition) t) ≡ set_partition (put b v (view c t).partition) (view c t)
  unfolding view
  view-partition b v l = ap (λ f. set_partition f (view c t)) (fit-put (λ x. h.P) b v t.partition l)

  pub view-place : (b v : ℕ) → v < slots h.L → view c (with_place (put b v t.place) t) ≡ set_place (put b (place_of h.L v) (view c t).place) (view c t)
  unfolding view
  view-place b v l = ap (λ f. set_place f (view c t))
      (put_map (λ x y. place_of h.L (fit (slots h.L) y)) b v t.place ∙ ap (λ w. put b (place_of h.L w) (view c t).place) (fit-in (slots h.L) v l))

  pub view-counter : (q v : ℕ) → v < 2 ^ h.L → view c (with_counter (put q v t.counter) t) ≡ set_counter (put q v (view c t).counter) (view c t)
  unfolding view
  view-counter q v l = ap (λ f. set_counter f (view c t)) (fit-put (λ x. 2 ^ h.L) q v t.counter l)

  pub view-mark : (x v : ℕ) → v < 2 → view c (with_mark (put x v t.mark) t) ≡ set_mark (put x v (view c t).mark) (view c t)
  unfolding view
  view-mark x v l = ap (λ f. set_mark f (view c t)) (fit-put (λ x. 2) x v t.mark l)

  pub view-holds : (x v : ℕ) → v ≤ h.N → view c (with_holds (put x v t.holds) t) ≡ set_holds (put x v (view c t).holds) (view c t)
  unfolding view
  view-holds x v l = ap (λ f. set_holds f (view c t)) (fit-put (λ x. h.N + 1) x v t.holds (omega arith))

  pub view-order : (q ℓ i v : ℕ) → ℓ < h.L → i < slots ℓ → v < slots ℓ
      → view c (with_order (put (cell h q ℓ i) v t.order) t) ≡ set_order (put (cell h q ℓ i) v (view c t).order) (view c t)
  unfolding view
  view-order q ℓ i v hℓ hi l = ap (λ f. set_order f (view c t)) (fit-put (λ x. slots (level_at h x)) (cell h q ℓ i) v t.order (rw (cell-level h q ℓ i hℓ hi) l))

  -- contents of a block; those of a request are of no block
  pub view-bytes : (b : ℕ) (v : List ℕ) → b < h.N → view c (with_blocks (put b v t.blocks) t) ≡ set_bytes (put b v (view c t).bytes) (view c t)
  unfolding view bytes_in
  view-bytes b v l = λ k. set_request (request_of c.request (same k)) (set_bytes (bytes-put k) (view c t))
    where
      same : put b v t.blocks h.N ≡ t.blocks h.N
      same = put_other b v t.blocks h.N (λ e. omega arith)

      bytes-put : bytes_in h (put b v t.blocks) ≡ put b v (bytes_in h t.blocks)
      bytes-put = put_map (λ x y. if ltb x h.N then y else replicate h.B 0) b v t.blocks ∙ ap (λ w. put b w (bytes_in h t.blocks)) (rw (lt-ltb b h.N l))

  pub view-asked : (v : List ℕ) → view c (with_blocks (put h.N v t.blocks) t) ≡ set_request (request_of c.request v) (view c t)
  unfolding view bytes_in
  view-asked v = λ k. set_request (request_of c.request (put_same h.N v t.blocks k)) (set_bytes (bytes_same k) (view c t))
    where
      bytes_same : bytes_in h (put h.N v t.blocks) ≡ bytes_in h t.blocks
      bytes_same = fun_ext (λ x. go x (dec_lt x h.N))
        where
          go : (x : ℕ) → Dec (x < h.N) → bytes_in h (put h.N v t.blocks) x ≡ bytes_in h t.blocks x
          go x (yes l) = rw (lt-ltb x h.N l) (put_other h.N v t.blocks x (λ e. omega arith))
          go x (no l) = rw (le-ltb x h.N (omega arith))

-- ---- Lists of numbers that are in range as they are read
abbrev pub fitted : ℕ → (ℕ → ℕ) → ℕ → ℕ
fitted bound f i = fit bound (f i)

module _ (bound : ℕ) (some : 0 < bound) (f : ℕ → ℕ) where
  pub fit-push : (n v : ℕ) → v < bound → rows (fitted bound (put n v f)) (n + 1) ≡ rows (fitted bound f) n ++ (v ∷ [])
  fit-push n v l = ap (λ g. rows g (n + 1)) (fit-put (λ x. bound) n v f l) ∙ rows-push (fitted bound f) n v

  fit-again : (i x v : ℕ) → v ≡ fit bound (f x) → ◌≡◌ {A = ℕ → ℕ} (fitted bound (put i v f)) (put i (fit bound (f x)) (fitted bound f))
  fit-again i x v e = rw e (fit-put (λ x. bound) i (fit bound (f x)) f (fit-lt bound (f x) some))

  -- an entry that moves is stored as it is read, and reads as it did
  pub fit-closed : (j n : ℕ) → j < n → rows (fitted bound (closed_up bound j (n - 1) f)) (n - 1) ≡ drop_at j (rows (fitted bound f) n)
  fit-closed j n l = shifted-all (fitted bound f) (fitted bound (closed_up bound j (n - 1) f)) j (n - 1) n l (omega arith) (record {
    low = λ x u. ap (fit bound) (closed-low bound j (n - 1) f x u);
    moved = λ x u w. ap (fit bound) (closed_in bound j (n - 1) f x u w) ∙ fit-in bound _ (fit-lt bound (f (x + 1)) some);
    rest = λ x u. ap (fit bound) (closed-past bound j (n - 1) f x (omega arith) u);
  })

  pub fit-kept : (p : ℕ → Bool) (g : ℕ → ℕ) (k i v : ℕ) → v ≡ fit bound (f i) → p v ≡ true → Kept p g (fitted bound f) k i → Kept p g (fitted bound (put k v f)) (k + 1) (i + 1)
  fit-kept p g k i v e t s = subst (λ h. Kept p g h (k + 1) (i + 1)) (sym (fit-again k i v e)) (kept-yes p g (fitted bound f) k i (rw e at t) s)

-- a slot below a cell's bound
pub view-slot : (c : Client) (t : Tables) (x v : ℕ) → v < slots (level_at (shape_of c.shape) x)
    → view c (with_order (put x v t.order) t) ≡ set_order (put x v (view c t).order) (view c t)
unfolding view
view-slot c t x v l = ap (λ f. set_order f (view c t)) (fit-put (λ x. slots (level_at (shape_of c.shape) x)) x v t.order l)
