-- A payload, read by where its parts lie: bytes past its end read as 0, and at last it is asked whether there are as many as were read.
use Rattle.std.specs.Prelude.{◌≡◌, Bool, true, false, eqb, if◌then◌else◌}
use Rattle.std.proofs.Math.Path.{refl, ap, subst}
use Rattle.std.proofs.Common.{◌∙◌, drop-cons, leb-true, leb-false, le-leb}
use mathlib.Core.List.{List, [], ◌∷◌}
use Rattle.std.proofs.Math.Option.{Option, none, some}
use Prim.Native.Nat.{ℕ, zero, suc, ◌+◌, ◌*◌, ◌≤◌}
use native.Mathlib.Omega.{arith}
use Rattle.std.proofs.Math.Dec.{leb}
use Rattle.std.proofs.Math.ListN.{length, get_or, drop}
use Rattle.std.proofs.Math.Seq.{drop-length}
use Rattle.std.proofs.lemmas.Bool.{lt-leb}
use Rattle.lists.specs.Lengths.{length-below}
use Rattle.lists.specs.Search.{keep, below}
use Rattle.rules.specs.Shape.{Shape, slots}
use Rattle.rules.specs.Form.Numbers.{value, slot_width}
use Rattle.rules.specs.Form.Payload.{filled_levels, Waiter}
use Rattle.rules.specs.Form.Reading.{and_then, get_bytes, get_number, get_each, get_numbers, shape_of, Spot, absent, waits, at, get_spot, get_block, Level, get_level, get_waiter, is_waiting, Form, get_form}

-- ---- Where things lie

module _ (p : List ℕ) where
  -- n bytes from a on
  unfoldable pub bytes_at : ℕ → ℕ → List ℕ
  bytes_at zero a = []
  bytes_at (suc n) a = get_or p a 0 ∷ bytes_at n (suc a)

  unfoldable pub number_at : ℕ → ℕ → ℕ
  number_at w a = value (bytes_at w a)

  -- n numbers of w bytes
  unfoldable pub numbers_at : ℕ → ℕ → ℕ → List ℕ
  numbers_at w zero a = []
  numbers_at w (suc n) a = number_at w a ∷ numbers_at w n (a + w)

  unfoldable pub spot_at : ℕ → ℕ → Spot
  spot_at w a = if eqb (get_or p a 0) 255 then absent else (if eqb (get_or p a 0) 254 then waits else at (get_or p a 0) (number_at w (suc a)))

  unfoldable pub spot_size : ℕ → ℕ → ℕ
  spot_size w a = if eqb (get_or p a 0) 255 then 1 else (if eqb (get_or p a 0) 254 then 1 else 1 + w)

  unfoldable pub block_at : ℕ → ℕ → ℕ × Spot
  block_at w a = (number_at 2 a, spot_at w (a + 2))

  unfoldable pub block_size : ℕ → ℕ → ℕ
  block_size w a = 2 + spot_size w (a + 2)

  unfoldable pub level_at : ℕ → ℕ × ℕ → ℕ → Level
  level_at w k a = record { partition = k.0; level = k.1; order = numbers_at w (slots k.1) a; marks = bytes_at (slots k.1) (a + slots k.1 * w) }

  unfoldable pub waiter_at : ℕ → ℕ → Waiter
  waiter_at n a = record { block = number_at 2 a; age = number_at 2 (a + 2); bytes = bytes_at n (a + 4) }

unfoldable pub level_size : ℕ → ℕ × ℕ → ℕ → ℕ
level_size w k a = slots k.1 * w + slots k.1

-- one thing after the other: what is read for each of a list, from a on, and how many bytes that is
module _ {K A : Type 0} (v : K → ℕ → A) (z : K → ℕ → ℕ) where
  unfoldable pub each_at : List K → ℕ → List A
  each_at [] a = []
  each_at (k ∷ ks) a = v k a ∷ each_at ks (a + z k a)

module _ {K : Type 0} (z : K → ℕ → ℕ) where
  unfoldable pub size_at : List K → ℕ → ℕ
  size_at [] a = 0
  size_at (k ∷ ks) a = z k a + size_at ks (a + z k a)

-- ---- Reading so is reading in turn

-- from a on, g reads x, which is z bytes
abbrev pub Reads : {A : Type 0} → List ℕ → (List ℕ → Option (A × List ℕ)) → ℕ → A → ℕ → Type 0
Reads p g a x z = a ≤ length p → g (drop a p) ≡ (if leb (a + z) (length p) then some (x, drop (a + z) p) else none)

pub reads-bind : {A B : Type 0} (p : List ℕ) (g : List ℕ → Option (A × List ℕ)) (f : A → List ℕ → Option (B × List ℕ)) (a : ℕ) (x : A) (z : ℕ) (y : B) (z' : ℕ)
    → Reads p g a x z → Reads p (f x) (a + z) y z' → Reads p (λ bs. and_then (g bs) f) a y (z + z')
unfolding and_then
reads-bind {A} {B} p g f a x z y z' r t l = rw (r l) (go (leb (a + z) (length p)) refl)
  where
    there : a + z + z' ≡ a + (z + z')
    there = omega arith

    go : (b : Bool) → leb (a + z) (length p) ≡ b → and_then (if b then some (x, drop (a + z) p) else none) f ≡ (if leb (a + (z + z')) (length p) then some (y, drop (a + (z + z')) p) else none)
    go true e = t (leb-true (a + z) (length p) e) ∙ ap (λ n. if leb n (length p) then some (y, drop n p) else none) there
    go false e = let w = leb-false (a + z) (length p) e in rw (lt-leb (a + (z + z')) (length p) (omega arith))

pub reads-done : {A : Type 0} (p : List ℕ) (a : ℕ) (x : A) → Reads p (λ bs. some (x, bs)) a x 0
reads-done p a x l = let e : a ≡ a + 0 = omega arith in rw (← e, le-leb a (length p) l)

pub reads-size : {A : Type 0} (p : List ℕ) (g : List ℕ → Option (A × List ℕ)) (a : ℕ) (x : A) (z z' : ℕ) → z ≡ z' → Reads p g a x z → Reads p g a x z'
reads-size p g a x z z' e r l = rw (← e) (r l)

-- ..and something made of it
pub reads-map : {A B : Type 0} (p : List ℕ) (g : List ℕ → Option (A × List ℕ)) (h : A → B) (a : ℕ) (x : A) (z : ℕ) → Reads p g a x z → Reads p (λ bs. and_then (g bs) (λ y r. some (h y, r))) a (h x) z
reads-map p g h a x z r =
    let e : z + 0 ≡ z = omega arith in
    reads-size p (λ bs. and_then (g bs) (λ y r. some (h y, r))) a (h x) (z + 0) z e (reads-bind p g (λ y r. some (h y, r)) a x z (h x) 0 r (reads-done p (a + z) (h x)))

-- a byte, and what is read behind it
pub reads-head : {A : Type 0} (p : List ℕ) (g : List ℕ → Option (A × List ℕ)) (f : ℕ → List ℕ → Option (A × List ℕ)) (a : ℕ) (x : A) (z : ℕ)
    → g [] ≡ none → ((y : ℕ) (bs : List ℕ) → g (y ∷ bs) ≡ f y bs) → Reads p (f (get_or p a 0)) (suc a) x z → Reads p g a x (suc z)
reads-head p g f a x z e k r l = go (leb (suc a) (length p)) refl
  where
    there : suc a + z ≡ a + suc z
    there = omega arith

    go : (t : Bool) → leb (suc a) (length p) ≡ t → g (drop a p) ≡ (if leb (a + suc z) (length p) then some (x, drop (a + suc z) p) else none)
    go true b =
        let w = leb-true (suc a) (length p) b in
        ap g (drop-cons p a 0 w) ∙ k (get_or p a 0) (drop (suc a) p) ∙ r w ∙ ap (λ n. if leb n (length p) then some (x, drop n p) else none) there
    go false b =
        let w = leb-false (suc a) (length p) b in
        let n : a ≡ length p = omega arith in
        ap g (ap (λ m. drop m p) n ∙ drop-length p) ∙ e ∙ rw (lt-leb (a + suc z) (length p) (omega arith))

-- ---- Each part

module _ (p : List ℕ) where
  pub bytes_read : (n a : ℕ) → Reads p (get_bytes n) a (bytes_at p n a) n
  unfolding get_bytes bytes_at
  bytes_read zero a = reads-done p a []
  bytes_read (suc n) a =
      reads-head p (get_bytes (suc n)) (λ x bs. and_then (get_bytes n bs) (λ xs r. some (x ∷ xs, r))) a (get_or p a 0 ∷ bytes_at p n (suc a)) n refl (λ y bs. refl)
      (reads-map p (get_bytes n) (λ xs. get_or p a 0 ∷ xs) (suc a) (bytes_at p n (suc a)) n (bytes_read n (suc a)))

  pub number_read : (w a : ℕ) → Reads p (get_number w) a (number_at p w a) w
  unfolding get_number number_at
  number_read w a = reads-map p (get_bytes w) value a (bytes_at p w a) w (bytes_read w a)

  -- one thing for each of a list
  module _ {K A : Type 0} (g : K → List ℕ → Option (A × List ℕ)) (v : K → ℕ → A) (z : K → ℕ → ℕ) (one : (k : K) (a : ℕ) → Reads p (g k) a (v k a) (z k a)) where
    pub each_read : (ks : List K) (a : ℕ) → Reads p (get_each g ks) a (each_at v z ks a) (size_at z ks a)
    unfolding get_each each_at size_at
    each_read [] a = reads-done p a []
    each_read (k ∷ ks) a =
        reads-bind p (g k) (λ x r. and_then (get_each g ks r) (λ xs r'. some (x ∷ xs, r'))) a (v k a) (z k a) (v k a ∷ each_at v z ks (a + z k a)) (size_at z ks (a + z k a)) (one k a)
        (reads-map p (get_each g ks) (λ xs. v k a ∷ xs) (a + z k a) (each_at v z ks (a + z k a)) (size_at z ks (a + z k a)) (each_read ks (a + z k a)))

  pub spot-read : (w a : ℕ) → Reads p (get_spot w) a (spot_at p w a) (spot_size p w a)
  unfolding get_spot spot_at spot_size
  spot-read w a = go (eqb x 255) (eqb x 254) refl refl
    where
      x : ℕ
      x = get_or p a 0

      f : ℕ → List ℕ → Option (Spot × List ℕ)
      f y bs = if eqb y 255 then some (absent, bs) else (if eqb y 254 then some (waits, bs) else and_then (get_number w bs) (λ i r. some (at y i, r)))

      behind : (y : Spot) (z : ℕ) → Reads p (f x) (suc a) y z → Reads p (get_spot w) a y (suc z)
      behind y z r = reads-head p (get_spot w) f a y z refl (λ y bs. refl) r

      go : (t u : Bool) → eqb x 255 ≡ t → eqb x 254 ≡ u → Reads p (get_spot w) a (if t then absent else (if u then waits else at x (number_at p w (suc a)))) (if t then 1 else (if u then 1 else 1 + w))
      go true u e d = behind absent 0 (rw e (reads-done p (suc a) absent))
      go false true e d = behind waits 0 (rw (e, d) (reads-done p (suc a) waits))
      go false false e d =
          let z : suc w ≡ 1 + w = omega arith in
          reads-size p (get_spot w) a (at x (number_at p w (suc a))) (suc w) (1 + w) z
          (behind (at x (number_at p w (suc a))) w (rw (e, d) (reads-map p (get_number w) (λ i. at x i) (suc a) (number_at p w (suc a)) w (number_read w (suc a)))))

  pub block_read : (w a : ℕ) → Reads p (get_block w) a (block_at p w a) (block_size p w a)
  unfolding get_block block_at block_size
  block_read w a =
      reads-bind p (get_number 2) (λ q r. and_then (get_spot w r) (λ y r'. some ((q, y), r'))) a (number_at p 2 a) 2 (number_at p 2 a, spot_at p w (a + 2)) (spot_size p w (a + 2)) (number_read 2 a)
      (reads-map p (get_spot w) (λ y. (number_at p 2 a, y)) (a + 2) (spot_at p w (a + 2)) (spot_size p w (a + 2)) (spot-read w (a + 2)))

  -- numbers of w bytes
  each_number : (w : ℕ) (ks : List ℕ) (a : ℕ) → Reads p (get_each (λ _. get_number w) ks) a (numbers_at p w (length ks) a) (length ks * w)
  unfolding get_each numbers_at
  each_number w [] a = let e : 0 ≡ 0 * w = omega arith in reads-size p (get_each {K = ℕ} (λ _. get_number w) []) a [] 0 (0 * w) e (reads-done p a [])
  each_number w (k ∷ ks) a =
      let e : w + length ks * w ≡ suc (length ks) * w = omega arith in
      reads-size p (get_each (λ _. get_number w) (k ∷ ks)) a (number_at p w a ∷ numbers_at p w (length ks) (a + w)) (w + length ks * w) (suc (length ks) * w) e
      (reads-bind p (get_number w) (λ x r. and_then (get_each (λ _. get_number w) ks r) (λ xs r'. some (x ∷ xs, r'))) a (number_at p w a) w (number_at p w a ∷ numbers_at p w (length ks) (a + w)) (length ks * w) (number_read w a)
      (reads-map p (get_each (λ _. get_number w) ks) (λ xs. number_at p w a ∷ xs) (a + w) (numbers_at p w (length ks) (a + w)) (length ks * w) (each_number w ks (a + w))))

  pub numbers-read : (w n a : ℕ) → Reads p (get_numbers w n) a (numbers_at p w n a) (n * w)
  unfolding get_numbers
  numbers-read w n a = subst (λ k. Reads p (get_numbers w n) a (numbers_at p w k a) (k * w)) (length-below n) (each_number w (below n) a)

  -- a level: its order, and its marks behind it
  pub level-read : (w : ℕ) (k : ℕ × ℕ) (a : ℕ) → Reads p (get_level w k) a (level_at p w k a) (level_size w k a)
  unfolding get_level level_at level_size get_numbers
  level-read w k a =
      let n : ℕ = slots k.1 in
      let o = numbers_at p w n a in
      reads-bind p (get_numbers w n) (λ o r. and_then (get_bytes n r) (λ m r'. some (record { partition = k.0; level = k.1; order = o; marks = m }, r'))) a o (n * w)
      (record { partition = k.0; level = k.1; order = o; marks = bytes_at p n (a + n * w) }) n (numbers-read w n a)
      (reads-map p (get_bytes n) (λ m. record { partition = k.0; level = k.1; order = o; marks = m }) (a + n * w) (bytes_at p n (a + n * w)) n (bytes_read n (a + n * w)))

  pub waiter-read : (n a : ℕ) → Reads p (get_waiter n) a (waiter_at p n a) (4 + n)
  unfolding get_waiter waiter_at
  waiter-read n a =
      let b = number_at p 2 a in
      let g = number_at p 2 (a + 2) in
      let e : 2 + (2 + n) ≡ 4 + n = omega arith in
      let d : a + 2 + 2 ≡ a + 4 = omega arith in
      reads-size p (get_waiter n) a (waiter_at p n a) (2 + (2 + n)) (4 + n) e
      (reads-bind p (get_number 2) (λ b r. and_then (get_number 2 r) (λ a r'. and_then (get_bytes n r') (λ x r''. some (record { block = b; age = a; bytes = x }, r'')))) a b 2 (waiter_at p n a) (2 + n) (number_read 2 a)
      (reads-bind p (get_number 2) (λ g r'. and_then (get_bytes n r') (λ x r''. some (record { block = b; age = g; bytes = x }, r''))) (a + 2) g 2 (waiter_at p n a) n (number_read 2 (a + 2))
      (subst (λ k. Reads {A = Waiter} p (λ r'. and_then (get_bytes n r') (λ x r''. some (record { block = b; age = g; bytes = x }, r''))) (a + 2 + 2) (record { block = b; age = g; bytes = bytes_at p n k }) n) d
      (reads-map p (get_bytes n) (λ x. record { block = b; age = g; bytes = x }) (a + 2 + 2) (bytes_at p n (a + 2 + 2)) n (bytes_read n (a + 2 + 2))))))

-- ---- All of it

-- how many of some blocks wait, as their places say
unfoldable pub wait_count : List (ℕ × Spot) → ℕ
wait_count xs = length (keep is_waiting xs)

module _ (p : List ℕ) where
  unfoldable pub shape_in : Shape
  shape_in = shape_of (numbers_at p 2 6 1)

  abbrev pub width_in : ℕ
  width_in = slot_width (number_at p 1 0)

  -- where the queue's length lies, the queue, the blocks
  abbrev pub length_from : ℕ
  length_from = 13 + shape_in.P * 2

  unfoldable pub jobs_in : ℕ
  jobs_in = number_at p 2 length_from

  abbrev pub blocks_from : ℕ
  blocks_from = length_from + 2 + jobs_in * 2

  unfoldable pub blocks_in : List (ℕ × Spot)
  blocks_in = each_at (λ _. block_at p width_in) (λ _. block_size p width_in) (below shape_in.N) blocks_from

  unfoldable pub counters_in : List ℕ
  counters_in = numbers_at p 2 shape_in.P 13

  -- the filled levels, by the counters
  unfoldable pub keys_in : List (ℕ × ℕ)
  keys_in = filled_levels shape_in.P shape_in.L (λ q. get_or counters_in q 0)

  unfoldable pub levels_from : ℕ
  levels_from = blocks_from + size_at (λ _. block_size p width_in) (below shape_in.N) blocks_from

  unfoldable pub records_from : ℕ
  records_from = levels_from + size_at (level_size width_in) keys_in levels_from

  unfoldable pub size_in : ℕ
  size_in = records_from + size_at (λ _ _. 4 + shape_in.B) (below (wait_count blocks_in)) records_from

  unfoldable pub form_at : Form
  form_at = record {
    number = number_at p 1 0;
    shape = shape_in;
    counters = counters_in;
    queue = numbers_at p 2 jobs_in (length_from + 2);
    blocks = blocks_in;
    levels = each_at (level_at p width_in) (level_size width_in) keys_in levels_from;
    waiters = each_at (λ _. waiter_at p shape_in.B) (λ _ _. 4 + shape_in.B) (below (wait_count blocks_in)) records_from;
  }

  abbrev at_blocks : ℕ
  at_blocks = size_at (λ _. block_size p width_in) (below shape_in.N) blocks_from

  abbrev at_levels : ℕ
  at_levels = size_at (level_size width_in) keys_in levels_from

  abbrev at_records : ℕ
  at_records = size_at (λ _ _. 4 + shape_in.B) (below (wait_count blocks_in)) records_from

  in-turn : Reads p get_form 0 form_at (1 + (12 + (shape_in.P * 2 + (2 + (jobs_in * 2 + (at_blocks + (at_levels + at_records)))))))
  unfolding get_form form_at shape_in jobs_in blocks_in counters_in keys_in levels_from records_from wait_count
  in-turn =
      reads-bind p (get_number 1) _ 0 (number_at p 1 0) 1 form_at (12 + (shape_in.P * 2 + (2 + (jobs_in * 2 + (at_blocks + (at_levels + at_records)))))) (number_read p 1 0)
      (reads-bind p (get_numbers 2 6) _ 1 (numbers_at p 2 6 1) 12 form_at (shape_in.P * 2 + (2 + (jobs_in * 2 + (at_blocks + (at_levels + at_records))))) (numbers-read p 2 6 1)
      (reads-bind p (get_numbers 2 shape_in.P) _ 13 counters_in (shape_in.P * 2) form_at (2 + (jobs_in * 2 + (at_blocks + (at_levels + at_records)))) (numbers-read p 2 shape_in.P 13)
      (reads-bind p (get_number 2) _ length_from jobs_in 2 form_at (jobs_in * 2 + (at_blocks + (at_levels + at_records))) (number_read p 2 length_from)
      (reads-bind p (get_numbers 2 jobs_in) _ (length_from + 2) (numbers_at p 2 jobs_in (length_from + 2)) (jobs_in * 2) form_at (at_blocks + (at_levels + at_records)) (numbers-read p 2 jobs_in (length_from + 2))
      (reads-bind p (get_each (λ b. get_block width_in) (below shape_in.N)) _ blocks_from blocks_in at_blocks form_at (at_levels + at_records)
      (each_read p (λ _. get_block width_in) (λ _. block_at p width_in) (λ _. block_size p width_in) (λ _ a. block_read p width_in a) (below shape_in.N) blocks_from)
      (reads-bind p (get_each (get_level width_in) keys_in) _ levels_from form_at.levels at_levels form_at at_records
      (each_read p (get_level width_in) (level_at p width_in) (level_size width_in) (level-read p width_in) keys_in levels_from)
      (reads-map p (get_each (λ k. get_waiter shape_in.B) (below (wait_count blocks_in))) _ records_from form_at.waiters at_records
      (each_read p (λ _. get_waiter shape_in.B) (λ _. waiter_at p shape_in.B) (λ _ _. 4 + shape_in.B) (λ _ a. waiter-read p shape_in.B a) (below (wait_count blocks_in)) records_from))))))))

  -- a form is read if there are as many bytes
  pub form-read : get_form p ≡ (if leb size_in (length p) then some (form_at, drop size_in p) else none)
  unfolding size_in levels_from records_from
  form-read =
      let e : 0 + (1 + (12 + (shape_in.P * 2 + (2 + (jobs_in * 2 + (at_blocks + (at_levels + at_records))))))) ≡ size_in = omega arith in
      in-turn (omega arith) ∙ ap (λ n. if leb n (length p) then some (form_at, drop n p) else none) e
