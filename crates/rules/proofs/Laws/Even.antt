-- Document 02, "Even draws": every number below m is given by equally many words, 65,536 / m of them. A remainder of any word "favours small
-- numbers where the bound isn't a power of two".
use Rattle.std.specs.Prelude.{◌≡◌, refl, Bool, true, false, ◌&&◌, List, [], ◌∷◌, map, ℕ, suc, ◌+◌, ◌*◌, ◌/◌, ◌%◌, ◌≤◌, ◌<◌, length, get_or, eqb, ltb}
use Rattle.std.proofs.Common.{ap, sym, ◌∙◌, true≢false, div-add-mod', div-lt_iff_lt-mul, mod-eq_of_lt, mul_comm, suc-mul, mul-le-mul_right, div-mul-le_self, le_antisymm, arith, ltb-true, ltb-false, lt-ltb, eqb-true, eq-eqb}
use Rattle.std.proofs.Math.Option.{Option, none, some}
use Rattle.std.proofs.Math.Nat.{mul-add-mod_self_left, eq_of_mul-eq-mul_right}
use Rattle.std.proofs.lemmas.List.{length-map}
use Rattle.lists.specs.Search.{is_none, keep, below}
use Rattle.lists.specs.Lengths.{length-below}
use Rattle.lists.specs.Tests.{and_l, and_r, and-true}
use Rattle.lists.specs.All.{keep-passes}
use Rattle.lists.specs.Members.{all-mem, mem-keep, nodup-keep, nodup-below, nodup-sub, nodup-map, below-mem, mem_below, map-mem, mem-map}
use Rattle.rules.specs.Draws.{Drawn, limit, draw, drawn_first, pass_over, draws}
use Rattle.rules.specs.Laws.Draws.{drawn}
use Rattle.rules.proofs.Laws.Draws.{draws-takes, draws-passes}

-- the word w settles a draw below m, with the number j: exactly the words of which `draws` gives it
abbrev pub gives : ℕ → ℕ → ℕ → Bool
gives m j w = ltb w (limit m) && eqb (draw m w) j

pub gives-draws : (m j w : ℕ) → gives m j w ≡ true → draws (m ∷ []) (w ∷ []) ≡ some (drawn (j ∷ []) 1)
gives-draws m j w e =
    draws-takes m w [] [] (ltb-true w (limit m) (and_l _ _ e)) ∙ rw (eqb-true (draw m w) j (and_r (ltb w (limit m)) _ e)) (unfold draws drawn_first in refl)

pub draws-gives : (m j w : ℕ) → draws (m ∷ []) (w ∷ []) ≡ some (drawn (j ∷ []) 1) → gives m j w ≡ true
unfolding draws drawn_first pass_over is_none
draws-gives m j w e = go (ltb w (limit m)) refl
  where
    first : Option Drawn → ℕ
    first none = 0
    first (some d) = get_or d.numbers 0 0

    go : (t : Bool) → ltb w (limit m) ≡ t → gives m j w ≡ true
    go true k =
        let d = sym (draws-takes m w [] [] (ltb-true w (limit m) k)) ∙ e in
        and-true k (eq-eqb (draw m w) j (ap first d))
    go false k = absurd (true≢false (ap is_none (sym (draws-passes m w [] [] (ltb-false w (limit m) k)) ∙ e)))

module _ (b m j : ℕ) (l : j < m) where
  abbrev test : ℕ → Bool
  test w = ltb w (b / m * m) && eqb (w % m) j

  -- the words that give j are j, j + m, j + 2 m, ..
  abbrev word : ℕ → ℕ
  word q = q * m + j

  given_word : (w : ℕ) → test w ≡ true → (w / m < b / m) × (w ≡ word (w / m))
  given_word w e = (
    (div-lt_iff_lt-mul {k = m} (omega arith)).1 (ltb-true w (b / m * m) (and_l _ _ e)),
    sym (ap (λ r. w / m * m + r) (sym (eqb-true (w % m) j (and_r (ltb w (b / m * m)) _ e))) ∙ div-add-mod' w m),
  )

  word-given : (q : ℕ) → q < b / m → (word q < b) × (test (word q) ≡ true)
  word-given q k =
      let n : suc q * m ≤ b / m * m = mul-le-mul_right m k in
      let u : suc q * m ≡ q * m + m = suc-mul q m in
      let r : word q % m ≡ j = ap (λ x. (x + j) % m) (mul_comm q m) ∙ mul-add-mod_self_left m q j ∙ mod-eq_of_lt l in
      (omega (arith, div-mul-le_self b m), and-true (lt-ltb (word q) (b / m * m) (omega arith)) (eq-eqb (word q % m) j r))

  words-apart : (x y : ℕ) → word x ≡ word y → x ≡ y
  words-apart x y e = let d : x * m ≡ y * m = omega arith in eq_of_mul-eq-mul_right m (omega arith) x y d

  pub given_by : length (keep test (below b)) ≡ b / m
  given_by = le_antisymm up down
    where
      words : List ℕ
      words = map word (below (b / m))

      long : length words ≡ b / m
      long = simp length-map (length-below (b / m))

      up : length (keep test (below b)) ≤ b / m
      up = rw (← long) (nodup-sub (keep test (below b)) words (nodup-keep test (below b) (nodup-below b)) (λ x h.
          let g = given_word x (all-mem (keep-passes test (below b)) x h) in
          rw g.1 (map-mem word (x / m) (below (b / m)) (below-mem (b / m) (x / m) g.0))))

      down : b / m ≤ length (keep test (below b))
      down = rw (← long) (nodup-sub words (keep test (below b)) (nodup-map word (below (b / m)) words-apart (nodup-below (b / m))) (λ x h.
          let r = mem-map word x (below (b / m)) h in
          let g = word-given r.0 (mem_below (b / m) r.0 r.1.0) in
          rw r.1.1 (mem-keep test (below b) (word r.0) (below-mem b (word r.0) g.0) g.1)))

-- Of the words of 16 bits, 65,536 / m give the number j, whichever number below m it is
pub evenly : (m j : ℕ) → j < m → length (keep (gives m j) (below 65536)) ≡ 65536 / m
unfolding limit draw
evenly m j l = given_by 65536 m j l
