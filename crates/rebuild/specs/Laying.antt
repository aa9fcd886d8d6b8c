-- The written levels of a rebuild, one after the other.
use Rattle.std.specs.Prelude.{◌≡◌, refl, true, false, List, [], ◌∷◌, ◌++◌, ℕ, zero, suc, min, ◌+◌, ◌-◌, ◌^◌, ◌≤◌, ◌<◌, length, take, drop}
use Rattle.std.proofs.Math.Path.{ap}
use Rattle.std.proofs.Common.{sym, ◌∙◌, subst, arith, length-drop, drop_of_length-le, pow_mono, drop-drop, drop_at, take_at, take_all}
use Rattle.std.proofs.Math.Decide.{dec_lt}
use Rattle.lists.specs.Search.{keep, keep-yes, keep-no}
use Rattle.lists.specs.Tables.{put_all-before}
use Rattle.rules.specs.Shape.{Shape, slots, cell}
use Rattle.rules.specs.State.{State}
use Rattle.rules.specs.Setters.{◌▷◌, set_place, set_waiting, set_order, set_mark, set_holds, set_begun, set_sent}
use Rattle.rules.specs.Draws.{new_order, draws, order_bounds}
use Rattle.rules.specs.Levels.{filled, down}
use Rattle.rules.specs.Jobs.{joined, top_of, orders_bounds}
use Rattle.rules.specs.Rebuild.{chosen, Fill, fills, new_places, write_levels, new_orders, new_marks, new_held, new_holds, leave, do_rebuild}
use Rattle.rules.specs.Run.{numbers_of, taken_of}
use Rattle.rules.specs.Memory.{needed}
use Rattle.rules.specs.Laws.Draws.{Enough}
use Rattle.rules.specs.Laws.Drawn.{Behind}
use Rattle.rules.proofs.Laws.Drawn.{draws-behind}
use Rattle.rules.proofs.Laws.Levels.{two-slots}
use Rattle.rules.proofs.Laws.Orders.{length-bounds, order-take}
use Rattle.memory.specs.Fits.{shape_of}
use Rattle.client.specs.declared.Client.{Client}
use Rattle.client.specs.View.{state_of}
use Rattle.client.specs.Moves.{Stands}
use Rattle.rebuild.specs.declared.Spent.{Spent}
use Rattle.rebuild.specs.Target.{Empty, level_written}
use Rattle.rebuild.specs.Steps.{emptied}

-- the tables after these levels are written: the rules' folds, table by table
abbrev pub laid : Shape → ℕ → List ℕ → List Fill → State → State
laid h q ls xs s =
    s ▷ set_place (new_places xs s.place)
    ▷ set_order (new_orders h q xs s.order)
    ▷ set_mark (new_marks h q ls s.mark)
    ▷ set_holds (new_held h q xs s.holds)

-- The tables' part of the rules' `do_rebuild`, for the levels ls up to `top`, the numbers js and the blocks bs
abbrev pub rebuilt : Shape → ℕ → ℕ → List ℕ → List ℕ → List ℕ → State → State
rebuilt h q top ls js bs s = laid h q ls (fills ls js bs) (emptied (cell h q 0 0) (slots (suc top) - 2) s)

pub rebuild-is : (q : ℕ) (ls js bs : List ℕ) (s : State) → do_rebuild q ls (fills ls js bs) s ≡
    rebuilt s.shape q (top_of s q) ls js bs s ▷ set_waiting (leave (chosen s q) s.waiting) ▷ set_begun (joined s q) ▷ set_sent 1
unfolding do_rebuild
rebuild-is q ls js bs s = refl

-- table by table is level by level
laid_next : (h : Shape) (q ℓ : ℕ) (ls js bs : List ℕ) (s : State)
    → laid h q (ℓ ∷ ls) (fills (ℓ ∷ ls) js bs) s ≡ laid h q ls (fills ls (drop (slots ℓ - 1) js) (drop (2 ^ ℓ) bs)) (level_written h q ℓ (take (2 ^ ℓ) bs) (new_order (slots ℓ) js) s)
unfolding fills new_places new_orders new_marks new_held write_levels
laid_next h q ℓ ls js bs s = refl

laid_none : (h : Shape) (q : ℕ) (js bs : List ℕ) (s : State) → laid h q [] (fills [] js bs) s ≡ s
unfolding fills new_places new_orders new_marks new_held write_levels
laid_none h q js bs s = refl

-- ---- The levels below l that are filled in `next` are left, after p was spent

abbrev pub levels_left : ℕ → ℕ → List ℕ
levels_left next l = keep (filled next) (down l)

-- what the words behind those spent give for them
abbrev numbers_left : ℕ → ℕ → List ℕ → Spent → List ℕ
numbers_left next l ws p = numbers_of (draws (orders_bounds (levels_left next l)) (drop p.words ws))

-- the tables once they are written, with the blocks behind those spent
abbrev pub whole : Client → ℕ → ℕ → List ℕ → List ℕ → ℕ → List ℕ → Spent → State
whole c q next bs ws l m p = laid (shape_of c.shape) q (levels_left next l) (fills (levels_left next l) (numbers_left next l ws p) (drop p.blocks bs)) (state_of c m)

pub record Unlaid (c : Client) (q next : ℕ) (bs ws : List ℕ) (l : ℕ) (m : List ℕ) (p : Spent) : Type 0 where
  pub enough : Enough (orders_bounds (levels_left next l)) (drop p.words ws)
  pub empty : Empty (cell (shape_of c.shape) q 0 0) (slots l - 2) (state_of c m)
  pub le : p.blocks ≤ length bs

-- Level t is written if it is filled in `next`, and then r is spent: what is left gives the same tables
pub record Lays (c : Client) (q next : ℕ) (bs ws : List ℕ) (t : ℕ) (m m' : List ℕ) (p r : Spent) : Type 0 where
  pub left : Unlaid c q next bs ws t m' r
  pub same : whole c q next bs ws t m' r ≡ whole c q next bs ws (suc t) m p
  pub tail : drop (needed (shape_of c.shape)) m' ≡ drop (needed (shape_of c.shape)) m

-- the cells of the levels below t come before those of level t
level-first : (h : Shape) (q t : ℕ) → cell h q 0 0 + (slots t - 2) ≡ cell h q t 0
unfolding cell
level-first h q t = omega (arith, two-slots t)

slots_next : (t : ℕ) → slots (suc t) ≡ slots t + slots t
slots_next t = omega (arith, pow_mono {i = suc t + 1} {j = suc (t + 1)} (omega arith), pow_mono {i = suc (t + 1)} {j = suc t + 1} (omega arith))

module _ (c : Client) (q next : ℕ) (bs ws : List ℕ) (t : ℕ) (m : List ℕ) (p : Spent) (u : Unlaid c q next bs ws (suc t) m p) where
  abbrev h : Shape
  h = shape_of c.shape

  abbrev ls : List ℕ
  ls = levels_left next t

  -- a level that is not filled
  pub level-passed : filled next t ≡ false → Lays c q next bs ws t m m p p
  level-passed e = record {
    left = record { enough = subst (λ xs. Enough (orders_bounds xs) (drop p.words ws)) is u.enough; empty = λ i l. u.empty i (omega (arith, slots_next t)); le = u.le };
    same = ap (λ xs. laid h q xs (fills xs (numbers_of (draws (orders_bounds xs) (drop p.words ws))) (drop p.blocks bs)) (state_of c m)) (sym is);
    tail = refl;
  }
    where
      is : levels_left next (suc t) ≡ ls
      is = unfold down in (keep-no (filled next) t (down t) e)

  -- and one that is
  module _ (e : filled next t ≡ true) where
    abbrev w : List ℕ
    w = drop p.words ws

    abbrev one : List ℕ
    one = order_bounds (slots t)

    is : levels_left next (suc t) ≡ t ∷ ls
    is = unfold down in (keep-yes (filled next) t (down t) e)

    behind : Behind one (orders_bounds ls) w
    behind = draws-behind one (orders_bounds ls) w (unfold orders_bounds in (subst (λ xs. Enough (orders_bounds xs) w) is u.enough))

    pub level-enough : Enough one w
    level-enough = behind.first

    pub level-empty : Empty (cell h q t 0) (slots t) (state_of c m)
    level-empty i l =
        let k : cell h q 0 0 + (slots t - 2 + i) ≡ cell h q t 0 + i = omega (arith, level-first h q t) in
        rw (← k) (u.empty (slots t - 2 + i) (omega (arith, slots_next t, two-slots t)))

    module _ (m' : List ℕ) (n r : ℕ) (share : n ≡ min (2 ^ t) (length bs - p.blocks)) (word : r ≡ p.words + taken_of (draws one w))
        (stands : Stands c m m' (level_written h q t (take n (drop p.blocks bs)) (new_order (slots t) (numbers_of (draws one w))) (state_of c m))) where
      abbrev spent : Spent
      spent = record { words = r; blocks = p.blocks + n }

      -- the words behind those of the order
      words-is : drop (taken_of (draws one w)) w ≡ drop r ws
      words-is = drop-drop (taken_of (draws one w)) p.words ws ∙ ap (λ k. drop k ws) (sym word)

      -- the numbers of the order, and those of the others
      numbers-are : numbers_of (draws (orders_bounds (t ∷ ls)) w) ≡ numbers_of (draws one w) ++ numbers_of (draws (orders_bounds ls) (drop r ws))
      unfolding orders_bounds
      numbers-are = behind.numbers ∙ ap (λ x. numbers_of (draws one w) ++ numbers_of (draws (orders_bounds ls) x)) words-is

      long : length (numbers_of (draws one w)) ≡ slots t - 1
      long = behind.long ∙ length-bounds (slots t)

      order_is : new_order (slots t) (numbers_of (draws (orders_bounds (t ∷ ls)) w)) ≡ new_order (slots t) (numbers_of (draws one w))
      order_is =
          sym (order-take (slots t) (numbers_of (draws (orders_bounds (t ∷ ls)) w)))
          ∙ ap (new_order (slots t)) (ap (take (slots t - 1)) numbers-are ∙ take_at (numbers_of (draws one w)) (numbers_of (draws (orders_bounds ls) (drop r ws))) (slots t - 1) long)

      others-are : drop (slots t - 1) (numbers_of (draws (orders_bounds (t ∷ ls)) w)) ≡ numbers_of (draws (orders_bounds ls) (drop r ws))
      others-are = ap (drop (slots t - 1)) numbers-are ∙ drop_at (numbers_of (draws one w)) (numbers_of (draws (orders_bounds ls) (drop r ws))) (slots t - 1) long

      -- its blocks, and the others
      have : length (drop p.blocks bs) ≡ length bs - p.blocks
      have = length-drop p.blocks bs

      blocks-are : take (2 ^ t) (drop p.blocks bs) ≡ take n (drop p.blocks bs)
      blocks-are = go (dec_lt (length bs - p.blocks) (2 ^ t))
        where
          go : Dec (length bs - p.blocks < 2 ^ t) → take (2 ^ t) (drop p.blocks bs) ≡ take n (drop p.blocks bs)
          go (yes l) = take_all (2 ^ t) (drop p.blocks bs) (omega (arith, have)) ∙ sym (take_all n (drop p.blocks bs) (omega (arith, have)))
          go (no l) = let z : 2 ^ t ≡ n = omega arith in ap (λ k. take k (drop p.blocks bs)) z

      rest-are : drop (2 ^ t) (drop p.blocks bs) ≡ drop (p.blocks + n) bs
      rest-are = go (dec_lt (length bs - p.blocks) (2 ^ t))
        where
          go : Dec (length bs - p.blocks < 2 ^ t) → drop (2 ^ t) (drop p.blocks bs) ≡ drop (p.blocks + n) bs
          go (yes l) = drop_of_length-le (drop p.blocks bs) {i = 2 ^ t} (omega (arith, have)) ∙ sym (drop_of_length-le bs {i = p.blocks + n} (omega (arith, u.le)))
          go (no l) = drop-drop (2 ^ t) p.blocks bs ∙ (let z : 2 ^ t ≡ n = omega arith in ap (λ k. drop (p.blocks + k) bs) z)

      below-first : (i : ℕ) → i < slots t - 2 → cell h q 0 0 + i < cell h q t 0
      below-first i l = omega (arith, level-first h q t)

      pub level-laid : Lays c q next bs ws t m m' p spent
      level-laid = record {
        left = record {
          enough = subst (λ x. Enough (orders_bounds ls) x) words-is behind.then;
          empty = λ i l. ap (λ (s : State). s.holds (cell h q 0 0 + i)) stands.state
              ∙ put_all-before (cell h q t 0) (new_holds (slots t) (take n (drop p.blocks bs)) (new_order (slots t) (numbers_of (draws one w)))) (state_of c m).holds (cell h q 0 0 + i) (below-first i l)
              ∙ u.empty i (omega (arith, slots_next t));
          le = omega (arith, u.le);
        };
        same =
            ap (λ s. laid h q ls (fills ls (numbers_of (draws (orders_bounds ls) (drop r ws))) (drop (p.blocks + n) bs)) s) stands.state
            ∙ sym (ap (λ xs. laid h q xs (fills xs (numbers_of (draws (orders_bounds xs) w)) (drop p.blocks bs)) (state_of c m)) is
            ∙ laid_next h q t ls (numbers_of (draws (orders_bounds (t ∷ ls)) w)) (drop p.blocks bs) (state_of c m)
            ∙ (λ i. laid h q ls (fills ls (others-are i) (rest-are i)) (level_written h q t (blocks-are i) (order_is i) (state_of c m))));
        tail = stands.tail;
      }

whole-none : (c : Client) (q next : ℕ) (bs ws m : List ℕ) (p : Spent) → whole c q next bs ws 0 m p ≡ state_of c m
unfolding down keep
whole-none c q next bs ws m p = laid_none (shape_of c.shape) q (numbers_left next 0 ws p) (drop p.blocks bs) (state_of c m)

-- the part of a list from place a on, as the code takes it
pub part-is : (a : ℕ) (xs : List ℕ) → take (length xs - a) (drop a xs) ≡ drop a xs
part-is a xs = take_all (length xs - a) (drop a xs) (omega (arith, length-drop a xs))

-- ---- All of them
module _ (c : Client) (q next top : ℕ) (bs ws : List ℕ) (m₀ m₁ : List ℕ) (a : Stands c m₀ m₁ (emptied (cell (shape_of c.shape) q 0 0) (slots (suc top) - 2) (state_of c m₀))) where
  abbrev start : Spent
  start = record { words = 0; blocks = 0 }

  pub laying-start : Enough (orders_bounds (levels_left next (suc top))) ws → Empty (cell (shape_of c.shape) q 0 0) (slots (suc top) - 2) (state_of c m₁) → Unlaid c q next bs ws (suc top) m₁ start
  laying-start e x = record { enough = e; empty = x; le = omega arith }

  pub laying-done : (m : List ℕ) (l : ℕ) (p : Spent) → l ≤ 0 → whole c q next bs ws l m p ≡ whole c q next bs ws (suc top) m₁ start → drop (needed (shape_of c.shape)) m ≡ drop (needed (shape_of c.shape)) m₁
      → Stands c m₀ m (rebuilt (shape_of c.shape) q top (levels_left next (suc top)) (numbers_of (draws (orders_bounds (levels_left next (suc top))) ws)) bs (state_of c m₀))
  laying-done m l p z e d = record {
    state = none l z e ∙ ap (λ s. laid (shape_of c.shape) q (levels_left next (suc top)) (fills (levels_left next (suc top)) (numbers_of (draws (orders_bounds (levels_left next (suc top))) ws)) bs) s) a.state;
    tail = d ∙ a.tail;
  }
    where
      none : (l : ℕ) → l ≤ 0 → whole c q next bs ws l m p ≡ whole c q next bs ws (suc top) m₁ start → state_of c m ≡ whole c q next bs ws (suc top) m₁ start
      none zero z e = sym (whole-none c q next bs ws m p) ∙ e
      none (suc l) z e = absurd (omega arith)
