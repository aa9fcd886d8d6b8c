-- What a form holds, as the loops of the code write it: each part is that of the numbers 0 upward.
use Rattle.std.specs.Prelude.{◌≡◌, Bool, ℕ, zero, suc, ◌+◌, ◌-◌, ◌≤◌, ◌<◌, if◌then◌else◌}
use denote.Ref.{MutBor}
use denote.Param.Members.{Shared}
use Rattle.std.proofs.Math.Path.{refl, ap, sym, fun_ext}
use Rattle.std.proofs.Common.{subst, ◌∙◌, arith, add-one, length-append}
use Rattle.std.proofs.Math.Bool.{true, false}
use mathlib.Core.List.{List, [], ◌∷◌, ◌++◌, map, append-nil, append_assoc}
use Rattle.std.proofs.Math.ListN.{length}
use Rattle.lists.specs.Search.{keep, keep-yes, keep-no, below, count}
use Rattle.lists.specs.Lengths.{below_last}
use Rattle.rules.specs.Shape.{slots, cell}
use Rattle.rules.specs.State.{State}
use Rattle.rules.specs.Levels.{filled}
use Rattle.rules.specs.Form.Numbers.{little, each, form_of, slot_width}
use Rattle.rules.specs.Form.Payload.{shape_numbers, block_bytes, filled_levels, order_slots, read_marks, level_bytes, waiters, waiter_bytes, payload}
use Rattle.rules.proofs.Laws.Form.Fits.{each_append, each-each, each_map}
use Rattle.rules.proofs.Laws.Form.Numbers.{length-little}
use Rattle.memory.specs.Tables.{tables_of}
use Rattle.memory.specs.Fits.{shape_of, fit}
use Rattle.memory.specs.declared.Shape.{Shape as Numbers}
use Rattle.client.specs.declared.Client.{Client}
use Rattle.client.specs.View.{state_of, view, rows}
use Rattle.client.specs.Rows.{rows_snoc, length-rows}
use Rattle.client.specs.Readings.{jobs-count}
use Rattle.lists.specs.Written.{Written, followed, same_text}

-- ---- The parts

-- the bytes of a slot
abbrev pub width_of : Numbers → ℕ
width_of h = slot_width (form_of (shape_of h))

abbrev pub counter_in : Client → List ℕ → ℕ → List ℕ
counter_in c m q = little 2 ((state_of c m).counter q)

abbrev pub job_in : Client → List ℕ → ℕ → List ℕ
job_in c m i = little 2 (fit c.shape.p ((tables_of (shape_of c.shape) m).queue i))

-- the slot of item k, and whether slot i was read
abbrev pub order_in : ℕ → State → ℕ → ℕ → ℕ → List ℕ
order_in w s q ℓ k = little w (s.order (cell s.shape q ℓ k))

abbrev pub mark_in : State → ℕ → ℕ → ℕ → List ℕ
mark_in s q ℓ i = (1 - s.mark (cell s.shape q ℓ i)) ∷ []

-- a level that is not filled has none
unfoldable pub level_in : ℕ → State → ℕ → ℕ → List ℕ
level_in w s q ℓ = if filled (s.counter q) ℓ then level_bytes w s (q, ℓ) else []

unfoldable pub partition_in : ℕ → State → ℕ → List ℕ
partition_in w s q = each (level_in w s q) (below s.shape.L)

-- waiting block i, and its record
abbrev pub waiting_in : Client → List ℕ → ℕ → ℕ
waiting_in c m i = fit c.shape.n ((tables_of (shape_of c.shape) m).waiting i)

abbrev pub waiter_in : Client → List ℕ → ℕ → List ℕ
waiter_in c m i = waiter_bytes (record { block = waiting_in c m i; age = i; bytes = (state_of c m).bytes (waiting_in c m i) })

-- ---- One number more

module _ (f : ℕ → List ℕ) where
  each-one : (i : ℕ) → each f (i ∷ []) ≡ f i
  unfolding each
  each-one i = append-nil (f i)

  pub each_last : (i : ℕ) → each f (below (i + 1)) ≡ each f (below i) ++ f i
  each_last i = ap (each f) (below_last i) ∙ each_append f (below i) (i ∷ []) ∙ ap (λ r. each f (below i) ++ r) (each-one i)

  -- a part begins with that of fewer numbers
  each_more : (i d : ℕ) → length (each f (below i)) ≤ length (each f (below (i + d)))
  each_more i zero = let e : i + 0 ≡ i = omega arith in rw e (omega arith)
  each_more i (suc d) =
      let e : i + suc d ≡ i + d + 1 = omega arith in
      rw (e, each_last (i + d), length-append (each f (below (i + d))) (f (i + d))) (omega (arith, each_more i d))

  pub each-room : (i n : ℕ) → i < n → length (each f (below i)) + length (f i) ≤ length (each f (below n))
  each-room i n h =
      let e : i + 1 + (n - (i + 1)) ≡ n = omega arith in
      let l : length (each f (below (i + 1))) ≤ length (each f (below n)) = rw e at (each_more (i + 1) (n - (i + 1))) in
      omega (arith, ap length (each_last i), length-append (each f (below i)) (f i))

  -- where the parts of the numbers below i are written, there is room for the next, and then it is written too
  module _ (i n : ℕ) {a k : ℕ} {b d : List ℕ} (w : Written b a (each f (below i)) d k) where
    pub room : i < n → a + length (each f (below n)) ≤ length b → k + length (f i) ≤ length d
    room h l = omega (arith, each-room i n h, w.place, w.size)

    pub grown : {e : List ℕ} {r : ℕ} → Written d k (f i) e r → Written b a (each f (below (i + 1))) e r
    grown v = same_text (sym (each_last i)) (followed w v)

-- the same parts for each number below n
pub each-same : (f g : ℕ → List ℕ) (n : ℕ) → ((i : ℕ) → i < n → f i ≡ g i) → each f (below n) ≡ each g (below n)
each-same f g zero h = unfold each below count in refl
each-same f g (suc n) h = subst (λ k. each f (below k) ≡ each g (below k)) (add-one n)
    (each_last f n ∙ (λ i. each-same f g n (λ k l. h k (omega arith)) i ++ h n (omega arith) i) ∙ sym (each_last g n))

-- where f puts the part of each number below n, at a place of a buffer that has room for it
pub record Puts {F : Type 0} (g : Shared F (ℕ × (MutBor (List ℕ) × (ℕ × Unit {0}))) (ℕ × (MutBor (List ℕ) × Unit {0}))) (f : F) (n : ℕ) (part : ℕ → List ℕ) : Type 0 where
  pub may : (i : ℕ) (b : MutBor (List ℕ)) (k : ℕ) → i < n → k + length (part i) ≤ length b.now → g.pre f (i, (b, (k, tt)))
  pub does : (i : ℕ) (b : MutBor (List ℕ)) (k : ℕ) → i < n → k + length (part i) ≤ length b.now → (r : ℕ) (d : MutBor (List ℕ)) → g.post f (i, (b, (k, tt))) (r, (d, tt)) → Written b.now k (part i) d.now r

-- ---- The payload by its parts

module _ {A B : Type 0} where
  each_keep : (f : A → List B) (p : A → Bool) (xs : List A) → each f (keep p xs) ≡ each (λ x. if p x then f x else []) xs
  unfolding each keep
  each_keep f p [] = refl
  each_keep f p (x ∷ xs) = go (p x) refl (each_keep f p xs)
    where
      go : (t : Bool) → p x ≡ t → each f (keep p xs) ≡ each (λ x. if p x then f x else []) xs → each f (keep p (x ∷ xs)) ≡ (if t then f x else []) ++ each (λ x. if p x then f x else []) xs
      go true e h = rw (keep-yes p x xs e) (ap (λ r. f x ++ r) h)
      go false e h = rw (keep-no p x xs e) h

map_each : (f : ℕ → ℕ) (xs : List ℕ) → map f xs ≡ each (λ x. f x ∷ []) xs
unfolding each
map_each f [] = refl
map_each f (x ∷ xs) = ap (λ r. f x ∷ r) (map_each f xs)

level-parts : (w : ℕ) (s : State) (q ℓ : ℕ) → level_bytes w s (q, ℓ) ≡ each (order_in w s q ℓ) (below (slots ℓ)) ++ each (mark_in s q ℓ) (below (slots ℓ))
unfolding level_bytes order_slots read_marks
level-parts w s q ℓ = λ i. each_map (little w) (λ k. s.order (cell s.shape q ℓ k)) (below (slots ℓ)) i ++ map_each (λ k. 1 - s.mark (cell s.shape q ℓ k)) (below (slots ℓ)) i

-- a level that is filled, and one that is not
pub level-filled : (w : ℕ) (s : State) (q ℓ : ℕ) → filled (s.counter q) ℓ ≡ true → level_in w s q ℓ ≡ each (order_in w s q ℓ) (below (slots ℓ)) ++ each (mark_in s q ℓ) (below (slots ℓ))
unfolding level_in
level-filled w s q ℓ e = rw e (level-parts w s q ℓ)

pub level-empty : (w : ℕ) (s : State) (q ℓ : ℕ) → filled (s.counter q) ℓ ≡ false → level_in w s q ℓ ≡ []
unfolding level_in
level-empty w s q ℓ e = rw e

levels-parts : (w : ℕ) (s : State) → each (level_bytes w s) (filled_levels s.shape.P s.shape.L s.counter) ≡ each (partition_in w s) (below s.shape.P)
unfolding filled_levels partition_in level_in
levels-parts w s =
    each-each (level_bytes w s) (λ q. map (λ ℓ. (q, ℓ)) (keep (filled (s.counter q)) (below s.shape.L))) (below s.shape.P)
    ∙ ap (λ f. each f (below s.shape.P)) (fun_ext (λ q.
    each_map (level_bytes w s) (λ ℓ. (q, ℓ)) (keep (filled (s.counter q)) (below s.shape.L))
    ∙ each_keep (λ ℓ. level_bytes w s (q, ℓ)) (filled (s.counter q)) (below s.shape.L)))

-- one waiting block more
waiters-end : (bytes : ℕ → List ℕ) (a : ℕ) (xs : List ℕ) (b : ℕ) → waiters bytes a (xs ++ (b ∷ [])) ≡ waiters bytes a xs ++ (record { block = b; age = a + length xs; bytes = bytes b } ∷ [])
unfolding waiters
waiters-end bytes a [] b = let e : a ≡ a + 0 = omega arith in ap (λ n. record { block = b; age = n; bytes = bytes b } ∷ []) e
waiters-end bytes a (x ∷ xs) b =
    let e : suc a + length xs ≡ a + suc (length xs) = omega arith in
    ap (λ r. record { block = x; age = a; bytes = bytes x } ∷ r) (waiters-end bytes (suc a) xs b ∙ ap (λ n. waiters bytes (suc a) xs ++ (record { block = b; age = n; bytes = bytes b } ∷ [])) e)

waiters-parts : (bytes : ℕ → List ℕ) (g : ℕ → ℕ) (n : ℕ) → each waiter_bytes (waiters bytes 0 (rows g n)) ≡ each (λ i. waiter_bytes (record { block = g i; age = i; bytes = bytes (g i) })) (below n)
unfolding each rows below count waiters
waiters-parts bytes g zero = refl
waiters-parts bytes g (suc n) = subst (λ k. each waiter_bytes (waiters bytes 0 (rows g k)) ≡ each (λ i. waiter_bytes (record { block = g i; age = i; bytes = bytes (g i) })) (below k)) (add-one n) (next (waiters-parts bytes g n))
  where
    part : ℕ → List ℕ
    part i = waiter_bytes (record { block = g i; age = i; bytes = bytes (g i) })

    next : each waiter_bytes (waiters bytes 0 (rows g n)) ≡ each part (below n) → each waiter_bytes (waiters bytes 0 (rows g (n + 1))) ≡ each part (below (n + 1))
    next ih =
        let e : 0 + length (rows g n) ≡ n = omega (arith, length-rows g n) in
        ap (λ xs. each waiter_bytes (waiters bytes 0 xs)) (rows_snoc g n)
        ∙ ap (each waiter_bytes) (waiters-end bytes 0 (rows g n) (g n) ∙ ap (λ k. waiters bytes 0 (rows g n) ++ (record { block = g n; age = k; bytes = bytes (g n) } ∷ [])) e)
        ∙ each_append waiter_bytes (waiters bytes 0 (rows g n)) (record { block = g n; age = n; bytes = bytes (g n) } ∷ [])
        ∙ (λ i. ih i ++ append-nil (part n) i)
        ∙ sym (each_last part n)

seven : (a b c d e f g : List ℕ) → length (a ++ (b ++ (c ++ (d ++ (e ++ (f ++ g)))))) ≡ length a + (length b + (length c + (length d + (length e + (length f + length g)))))
seven a b c d e f g = simp length-append

module _ (c : Client) (m : List ℕ) where
  -- all parts, in their order
  unfoldable pub parts_of : List ℕ
  parts_of =
      (little 1 (form_of (shape_of c.shape)) ++ each (little 2) (shape_numbers (shape_of c.shape)))
      ++ (each (counter_in c m) (below c.shape.p)
      ++ (little 2 c.jobs
      ++ (each (job_in c m) (below c.jobs)
      ++ (each (block_bytes (width_of c.shape) (state_of c m)) (below c.shape.n)
      ++ (each (partition_in (width_of c.shape) (state_of c m)) (below c.shape.p)
      ++ each (waiter_in c m) (below c.waiting))))))

  pub payload-parts : payload (state_of c m) ≡ parts_of
  unfolding payload parts_of state_of view
  payload-parts =
      (λ i. little 1 (form_of (shape_of c.shape)) ++ (each (little 2) (shape_numbers (shape_of c.shape)) ++ (each (counter_in c m) (below c.shape.p)
      ++ (little 2 (jobs-count c m i) ++ (queue i ++ (each (block_bytes (width_of c.shape) (state_of c m)) (below c.shape.n)
      ++ (levels-parts (width_of c.shape) (state_of c m) i ++ records i)))))))
      ∙ sym (append_assoc (little 1 (form_of (shape_of c.shape))) (each (little 2) (shape_numbers (shape_of c.shape))) _)
    where
      queue : each (little 2) (state_of c m).queue ≡ each (job_in c m) (below c.jobs)
      queue = unfold state_of view rows in (each_map (little 2) (λ i. fit c.shape.p ((tables_of (shape_of c.shape) m).queue i)) (below c.jobs))

      records : each waiter_bytes (waiters (state_of c m).bytes 0 (state_of c m).waiting) ≡ each (waiter_in c m) (below c.waiting)
      records = unfold state_of view in (waiters-parts (state_of c m).bytes (waiting_in c m) c.waiting)

  -- how long they are
  pub head-length : length (little 1 (form_of (shape_of c.shape)) ++ each (little 2) (shape_numbers (shape_of c.shape))) ≡ 13
  unfolding little each shape_numbers
  head-length = refl

  pub parts-length : length (payload (state_of c m)) ≡
      13
      + (length (each (counter_in c m) (below c.shape.p))
      + (2
      + (length (each (job_in c m) (below c.jobs))
      + (length (each (block_bytes (width_of c.shape) (state_of c m)) (below c.shape.n))
      + (length (each (partition_in (width_of c.shape) (state_of c m)) (below c.shape.p))
      + length (each (waiter_in c m) (below c.waiting)))))))
  unfolding parts_of
  parts-length =
      let w = width_of c.shape in
      let s = state_of c m in
      ap length payload-parts
      ∙ seven (little 1 (form_of (shape_of c.shape)) ++ each (little 2) (shape_numbers (shape_of c.shape))) (each (counter_in c m) (below c.shape.p)) (little 2 c.jobs)
      (each (job_in c m) (below c.jobs)) (each (block_bytes w s) (below c.shape.n)) (each (partition_in w s) (below c.shape.p)) (each (waiter_in c m) (below c.waiting))
      ∙ omega (arith, head-length, length-little 2 c.jobs)
