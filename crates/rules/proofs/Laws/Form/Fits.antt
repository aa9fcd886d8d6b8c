-- No form is longer than the formula says.
use Rattle.std.specs.Prelude.{◌≡◌, Bool, true, false}
use Rattle.std.proofs.Math.Path.{refl, ap}
use Rattle.std.proofs.Common.{sym, ◌∙◌, mul-le-mul_right, mul-add, mul_assoc, mul_comm, add-mul, pow_mono}
use mathlib.Core.List.{List, [], ◌∷◌, ◌++◌, map, append_assoc}
use Rattle.std.proofs.Math.Option.{Option, none, some}
use Prim.Native.Nat.{ℕ, zero, suc, ◌+◌, ◌-◌, ◌*◌, ◌^◌, ◌≤◌}
use Rattle.std.proofs.Math.Nat.{mul-sub}
use native.Mathlib.Omega.{arith}
use Rattle.std.proofs.Math.ListN.{length, length-append}
use Rattle.std.proofs.lemmas.List.{length-map}
use Rattle.lists.specs.All.{All, nil, cons}
use Rattle.lists.specs.Distinct.{Mem, NoDup}
use Rattle.lists.specs.Lengths.{length-below}
use Rattle.lists.specs.Members.{nodup-le}
use Rattle.lists.specs.Search.{keep, below, count, member, keep-yes, keep-no}
use Rattle.rules.specs.Form.Longest.{longest_payload, longest}
use Rattle.rules.specs.Form.Numbers.{little, each, form_of, slot_width}
use Rattle.rules.specs.Form.Payload.{shape_numbers, place_bytes, block_bytes, filled_levels, order_slots, read_marks, level_bytes, waiters, waiter_bytes, payload, saved_form}
use Rattle.rules.proofs.Laws.Form.Numbers.{length-little, length-each}
use Rattle.rules.proofs.Laws.Form.Reads.{waiting-count}
use Rattle.rules.proofs.Laws.Form.Sums.{length-in-blocks, count-mono}
use Rattle.rules.proofs.Laws.Form.Tables.{waiters-length, waiters-all}
use Rattle.rules.specs.Laws.Range.{InRange, JobsIn}
use Rattle.rules.specs.Levels.{filled}
use Rattle.rules.specs.Shape.{Shape, cell, slots}
use Rattle.rules.specs.State.{State, Request, Place, nowhere, stored}

pub all_any : {A : Type 0} {P : A → Type 0} (xs : List A) → ((x : A) → P x) → All P xs
all_any [] f = nil
all_any (x ∷ xs) f = cons (f x) (all_any xs f)

module _ {A B : Type 0} where
  pub each_append : (f : A → List B) (xs ys : List A) → each f (xs ++ ys) ≡ each f xs ++ each f ys
  unfolding each
  each_append f [] ys = refl
  each_append f (x ∷ xs) ys = rw (each_append f xs ys) (sym (append_assoc (f x) (each f xs) (each f ys)))

  pub each-each : (f : A → List B) (g : ℕ → List A) (xs : List ℕ) → each f (each g xs) ≡ each (λ x. each f (g x)) xs
  unfolding each
  each-each f g [] = refl
  each-each f g (x ∷ xs) = each_append f (g x) (each g xs) ∙ ap (λ r. each f (g x) ++ r) (each-each f g xs)

  pub each_map : (f : A → List B) (g : ℕ → A) (xs : List ℕ) → each f (map g xs) ≡ each (λ x. f (g x)) xs
  unfolding each
  each_map f g [] = refl
  each_map f g (x ∷ xs) = rw (each_map f g xs)

each-le : (f : ℕ → List ℕ) (m : ℕ) {xs : List ℕ} → All (λ x. length (f x) ≤ m) xs → length (each f xs) ≤ length xs * m
unfolding each
each-le f m nil = omega arith
each-le f m (cons {x = x} {xs = xs} h t) = omega (arith, length-append (f x) (each f xs), each-le f m t)

-- ---- Blocks

place-length : (w : ℕ) (m : Bool) (x : Place) → length (place_bytes w m x) ≤ 1 + w
unfolding place_bytes
place-length w true x = omega arith
place-length w false nowhere = omega arith
place-length w false (stored ℓ i) = omega (arith, length-little w i)

waiting-length : (w : ℕ) (m : Bool) (x : Place) → m ≡ true → length (place_bytes w m x) ≡ 1
unfolding place_bytes
waiting-length w true x e = refl
waiting-length w false x e = absurd (let z : ◌≡◌ {A = ℕ} 0 1 = ap (λ b. elim b [ true ↦ 1 | false ↦ 0 ]) e in omega arith)

pub block-length : (w : ℕ) (s : State) (b : ℕ) → length (block_bytes w s b) ≡ 2 + length (place_bytes w (member b s.waiting) (s.place b))
unfolding block_bytes
block-length w s b = length-append (little 2 (s.partition b)) (place_bytes w (member b s.waiting) (s.place b)) ∙ omega (arith, length-little 2 (s.partition b))

-- a block that waits has w bytes less
blocks-length : (w : ℕ) (s : State) (xs : List ℕ) → length (each (block_bytes w s) xs) + length (keep (λ b. member b s.waiting) xs) * w ≤ length xs * (3 + w)
unfolding each keep
blocks-length w s [] = omega arith
blocks-length w s (b ∷ xs) = go (member b s.waiting) refl (blocks-length w s xs)
  where
    q : ℕ → Bool
    q a = member a s.waiting

    go : (t : Bool) → q b ≡ t → length (each (block_bytes w s) xs) + length (keep q xs) * w ≤ length xs * (3 + w)
        → length (block_bytes w s b ++ each (block_bytes w s) xs) + length (keep q (b ∷ xs)) * w ≤ suc (length xs) * (3 + w)
    go true e ih = rw (keep-yes q b xs e) (omega (arith, length-append (block_bytes w s b) (each (block_bytes w s) xs), block-length w s b, waiting-length w (member b s.waiting) (s.place b) e))
    go false e ih = rw (keep-no q b xs e) (omega (arith, length-append (block_bytes w s b) (each (block_bytes w s) xs), block-length w s b, place-length w (member b s.waiting) (s.place b)))

-- ---- Levels

spread : (w n : ℕ) → n * w + n ≡ (w + 1) * n
spread w n = omega (arith, mul_comm n w, add-mul w 1 n)

pub level-length : (w : ℕ) (s : State) (q ℓ : ℕ) → length (level_bytes w s (q, ℓ)) ≡ (w + 1) * slots ℓ
unfolding level_bytes order_slots read_marks
level-length w s q ℓ =
    let n : ℕ = slots ℓ in
    length-append (each (little w) (map (λ k. s.order (cell s.shape q ℓ k)) (below n))) (map (λ i. 1 - s.mark (cell s.shape q ℓ i)) (below n))
    ∙ omega (
      arith,
      spread w n,
      ap (λ m. m * w) (length-map (below n) (λ k. s.order (cell s.shape q ℓ k)) ∙ length-below n),
      length-each (little w) w (all_any (map (λ k. s.order (cell s.shape q ℓ k)) (below n)) (λ x. length-little w x)),
      length-map (below n) (λ k. s.order (cell s.shape q ℓ k)),
      length-map (below n) (λ i. 1 - s.mark (cell s.shape q ℓ i)),
      length-below n,
    )

double : (c a : ℕ) → c * slots (suc a) ≡ c * slots a + c * slots a
double c a =
    let e : suc a + 1 ≡ suc (a + 1) = omega arith in
    let d : 2 ^ suc (a + 1) ≡ 2 ^ (a + 1) + 2 ^ (a + 1) = omega (arith, pow_mono {i = a + 1} {j = suc (a + 1)} (omega arith)) in
    ap (λ n. c * 2 ^ n) e ∙ ap (λ n. c * n) d ∙ mul-add c (2 ^ (a + 1)) (2 ^ (a + 1))

-- the levels from a on, up to n of them
levels-length : (f : ℕ → List ℕ) (c : ℕ) (p : ℕ → Bool) → ((ℓ : ℕ) → length (f ℓ) ≡ c * slots ℓ) → (a n : ℕ) → length (each f (keep p (count a n))) + c * slots a ≤ c * slots (a + n)
unfolding count keep each
levels-length f c p e a zero = let z : c * slots a ≡ c * slots (a + 0) = ap (λ m. c * slots m) (plus-zero a) in omega arith
  where
    plus-zero : (a : ℕ) → a ≡ a + 0
    plus-zero a = omega arith
levels-length f c p e a (suc n) = go (p a) refl (levels-length f c p e (suc a) n)
  where
    more : c * slots (suc a + n) ≡ c * slots (a + suc n)
    more = let z : suc a + n ≡ a + suc n = omega arith in ap (λ m. c * slots m) z

    go : (t : Bool) → p a ≡ t → length (each f (keep p (count (suc a) n))) + c * slots (suc a) ≤ c * slots (suc a + n)
        → length (each f (keep p (a ∷ count (suc a) n))) + c * slots a ≤ c * slots (a + suc n)
    go true h ih = rw (keep-yes p a (count (suc a) n) h) (omega (arith, length-append (f a) (each f (keep p (count (suc a) n))), e a, double c a, more))
    go false h ih = rw (keep-no p a (count (suc a) n) h) (omega (arith, double c a, more))

-- all filled levels of all partitions
filled-length : (w : ℕ) (s : State) → length (each (level_bytes w s) (filled_levels s.shape.P s.shape.L s.counter)) ≤ (w + 1) * (s.shape.P * (slots s.shape.L - 2))
unfolding filled_levels
filled-length w s = rw (each-each (level_bytes w s) (λ q. map (λ ℓ. (q, ℓ)) (keep (filled (s.counter q)) (below s.shape.L))) (below s.shape.P)) (
    omega (arith, each-le (λ q. each (level_bytes w s) (map (λ ℓ. (q, ℓ)) (keep (filled (s.counter q)) (below s.shape.L)))) bound (all_any (below s.shape.P) one), ap (λ n. n * bound) (length-below s.shape.P), turned)
    )
  where
    bound : ℕ
    bound = (w + 1) * (slots s.shape.L - 2)

    turned : s.shape.P * ((w + 1) * (slots s.shape.L - 2)) ≡ (w + 1) * (s.shape.P * (slots s.shape.L - 2))
    turned = sym (mul_assoc s.shape.P (w + 1) (slots s.shape.L - 2)) ∙ ap (λ n. n * (slots s.shape.L - 2)) (mul_comm s.shape.P (w + 1)) ∙ mul_assoc (w + 1) s.shape.P (slots s.shape.L - 2)

    from_zero : (w + 1) * slots (0 + s.shape.L) ≡ (w + 1) * slots s.shape.L
    from_zero = let z : 0 + s.shape.L ≡ s.shape.L = omega arith in ap (λ m. (w + 1) * slots m) z

    minus : (c n : ℕ) → c * (n - 2) ≡ c * n - c * 2
    minus c n = mul-sub c n 2

    one : (q : ℕ) → length (each (level_bytes w s) (map (λ ℓ. (q, ℓ)) (keep (filled (s.counter q)) (below s.shape.L)))) ≤ (w + 1) * (slots s.shape.L - 2)
    one q = rw (each_map (level_bytes w s) (λ ℓ. (q, ℓ)) (keep (filled (s.counter q)) (below s.shape.L)), minus (w + 1) (slots s.shape.L)) (
        unfold below in (omega (arith, levels-length (λ ℓ. level_bytes w s (q, ℓ)) (w + 1) (filled (s.counter q)) (level-length w s q) 0 s.shape.L, from_zero))
        )

-- ---- All of it

-- m of n blocks wait: x bytes for their places, and their records
together : (n m w b x : ℕ) → m ≤ n → w ≤ 4 → x + m * w ≤ n * (3 + w) → x + m * (4 + b) ≤ (7 + b) * n
together n m w b x h v e =
    let d : ℕ = 4 + b - w in
    let p : m * (4 + b) ≡ m * w + m * d = ap (λ k. m * k) (split b w v) ∙ mul-add m w d in
    let q : n * (7 + b) ≡ n * (3 + w) + n * d = ap (λ k. n * k) (split' b w v) ∙ mul-add n (3 + w) d in
    omega (arith, p, q, mul_comm n (7 + b), mul-le-mul_right d h)
  where
    split : (b w : ℕ) → w ≤ 4 → 4 + b ≡ w + (4 + b - w)
    split b w v = omega arith

    split' : (b w : ℕ) → w ≤ 4 → 7 + b ≡ (3 + w) + (4 + b - w)
    split' b w v = omega arith

module _ (s : State) (f : InRange s) (u : NoDup s.waiting) (whole : (b : ℕ) → Mem b s.waiting → length (s.bytes b) ≡ s.shape.B) where
  abbrev h : Shape
  h = s.shape

  abbrev w : ℕ
  w = slot_width (form_of s.shape)

  jobs-le : length s.queue ≤ 64
  jobs-le = go s.request f.jobs
    where
      go : (o : Option Request) → JobsIn s.queue o → length s.queue ≤ 64
      go none k = k
      go (some x) k = omega arith

  waiters-bytes-length : length (each waiter_bytes (waiters s.bytes 0 s.waiting)) ≡ length s.waiting * (4 + h.B)
  unfolding waiter_bytes
  waiters-bytes-length = length-each _ (4 + h.B) (waiters-all s.bytes _ s.waiting 0 (λ b a m l v. length-append (little 2 b) (little 2 a ++ s.bytes b) ∙ omega (arith, length-little 2 b, length-append (little 2 a) (s.bytes b), length-little 2 a, whole b m)))
      ∙ ap (λ n. n * (4 + h.B)) (waiters-length s.bytes 0 s.waiting)

  width-le : w ≤ 4
  unfolding slot_width form_of
  width-le = omega arith

  abbrev eight : ℕ → ℕ → ℕ → ℕ → ℕ → ℕ → ℕ → ℕ → ℕ
  eight a b c d e x y z = a + (b + (c + (d + (e + (x + (y + z))))))

  payload-length : length (payload s) ≡ eight (length (little 1 (form_of h))) (length (each (little 2) (shape_numbers h))) (length (each (λ q. little 2 (s.counter q)) (below h.P)))
      (length (little 2 (length s.queue))) (length (each (little 2) s.queue)) (length (each (block_bytes w s) (below h.N)))
      (length (each (level_bytes w s) (filled_levels h.P h.L s.counter))) (length (each waiter_bytes (waiters s.bytes 0 s.waiting)))
  unfolding payload
  payload-length = simp length-append

  shape-length : length (each (little 2) (shape_numbers h)) ≡ 12
  unfolding shape_numbers
  shape-length = length-each (little 2) 2 (all_any _ (λ x. length-little 2 x))

  pub payload-fits : length (payload s) ≤ longest_payload h
  unfolding longest_payload
  payload-fits =
      let blocks : ℕ = length (each (block_bytes w s) (below h.N)) in
      let many : length (each (block_bytes w s) (below h.N)) + length s.waiting * w ≤ h.N * (3 + w) =
      rw (waiting-count h.N s.waiting u f.waiting, length-below h.N) at (blocks-length w s (below h.N)) in
      omega (
        arith,
        payload-length,
        length-little 1 (form_of h),
        shape-length,
        length-each (λ q. little 2 (s.counter q)) 2 (all_any (below h.P) (λ q. length-little 2 (s.counter q))),
        length-below h.P,
        length-little 2 (length s.queue),
        length-each (little 2) 2 (all_any s.queue (λ x. length-little 2 x)),
        jobs-le,
        filled-length w s,
        waiters-bytes-length,
        together h.N (length s.waiting) w h.B (length (each (block_bytes w s) (below h.N))) (nodup-le h.N s.waiting u f.waiting) width-le many,
      )

  -- "As long as the longest form of the shape would be": every form fits
  pub form-fits : length (saved_form s) ≤ longest h
  unfolding saved_form longest
  form-fits = omega (arith, length-in-blocks (payload s), count-mono (length (payload s)) (longest_payload h) payload-fits)
