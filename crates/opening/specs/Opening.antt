-- Open: its number by the lengths lent, and the memory as it is filled.
use Rattle.std.specs.Prelude.{◌≡◌, Bool, List, [], ◌∷◌, ℕ, zero, suc, ◌+◌, ◌%◌, ◌^◌, ◌≤◌, ◌<◌, length, take, drop, get_or, leb, ltb, if◌then◌else◌}
use Rattle.std.proofs.Math.Path.{refl, ap, fun_ext}
use Rattle.std.proofs.Common.{sym, ◌∙◌, mod-lt, arith, length-take, get_or-take, leb-true}
use Rattle.std.proofs.Math.Bool.{true, false}
use Rattle.std.proofs.Math.Option.{none}
use Rattle.std.proofs.Math.Decide.{ℕ_discrete, dec_lt}
use Rattle.std.proofs.Math.ListN.{replicate, length-replicate}
use Rattle.std.proofs.lemmas.List.{get_or-replicate}
use Rattle.lists.specs.Search.{below, count}
use Rattle.lists.specs.Tables.{put, put_same, put_other}
use Rattle.rules.specs.Shape.{Shape, within, slots}
use Rattle.rules.specs.State.{closed, Place, nowhere}
use Rattle.rules.specs.Memory.{needed}
use Rattle.rules.specs.Draws.{draws}
use Rattle.rules.specs.Open.{fresh}
use Rattle.rules.specs.Questions.{opening, bounds, questions, first_no, number}
use Rattle.rules.specs.Run.{numbers_of, taken_of}
use Rattle.rules.proofs.Laws.Levels.{partitions-pos}
use Rattle.memory.specs.Tables.{Tables, tables_of, with_partition}
use Rattle.memory.specs.Parts.{empty}
use Rattle.memory.specs.Fits.{shape_of, fit, fit-in, fit-zero}
use Rattle.memory.specs.declared.Shape.{Shape as Numbers}
use Rattle.client.specs.declared.Client.{Client}
use Rattle.client.specs.View.{state_of, view, rows, request_of, bytes_in, place_of, level_at}
use Rattle.client.specs.Changes.{place-nowhere}
use Rattle.client.specs.Moves.{no_request}
use Rattle.rules.specs.Laws.Drawn.{Straight}
use Rattle.rules.proofs.Laws.Drawn.{straight-partitions, draws-enough, draws-number, length-numbers, taken-all}
use Rattle.tape.specs.Tape.{words_of, words-short}
use Rattle.contract.specs.Meets.{call_of}

unfoldable pub open_number : Shape → ℕ → ℕ → ℕ
open_number h len words = first_no ((within h, 1) ∷ (leb (needed h) len, 2) ∷ (leb h.N words, 3) ∷ [])

pub open-number : (h : Shape) (m tape : List ℕ) → number closed (call_of (opening h) m tape []) ≡ open_number h (length m) (length (words_of tape))
unfolding number questions open_number bounds
open-number h m tape = go (within h) refl
  where
    go : (t : Bool) → within h ≡ t → number closed (call_of (opening h) m tape []) ≡ open_number h (length m) (length (words_of tape))
    go false e = rw e (unfold first_no in refl)
    go true e = rw (draws-enough (replicate h.N h.P) (words_of tape) (straight-partitions h e h.N (words_of tape) (words-short tape)), length-replicate {A = ℕ} h.N h.P)

abbrev pub fresh_client : Numbers → Client
fresh_client h = record { shape = h; request = no_request; jobs = 0; begun = 0; cursor = 0; sent = 0; waiting = 0; out = 0 }

-- the numbers drawn
abbrev pub drawn_by : Numbers → List ℕ → List ℕ
drawn_by h tape = numbers_of (draws (replicate h.n h.p) (words_of tape))

-- all tables are empty but the partitions of the first i blocks
abbrev pub Filled : Numbers → ℕ → List ℕ → List ℕ → List ℕ → Type 0
Filled h i m₀ tape m = tables_of (shape_of h) m ≡ with_partition (λ b. get_or (take i (drawn_by h tape)) b 0) (empty (shape_of h) (drop (needed (shape_of h)) m₀))

-- one more partition
pub fill_step : (i : ℕ) (js : List ℕ) → i < length js → put i (get_or js i 0) (λ b. get_or (take i js) b 0) ≡ (λ b. get_or (take (i + 1) js) b 0)
fill_step i js l = fun_ext (λ b. go b (ℕ_discrete b i) (dec_lt b i))
  where
    go : (b : ℕ) → Dec (b ≡ i) → Dec (b < i) → put i (get_or js i 0) (λ b. get_or (take i js) b 0) b ≡ get_or (take (i + 1) js) b 0
    go b (yes e) d = rw e (put_same i (get_or js i 0) (λ b. get_or (take i js) b 0) ∙ sym (get_or-take (i + 1) js i 0 (omega arith)))
    go b (no e) (yes k) = put_other i (get_or js i 0) (λ b. get_or (take i js) b 0) b e ∙ get_or-take i js b 0 k ∙ sym (get_or-take (i + 1) js b 0 (omega arith))
    go b (no e) (no k) =
        put_other i (get_or js i 0) (λ b. get_or (take i js) b 0) b e
        ∙ past (take i js) b (omega (arith, length-take i js)) ∙ sym (past (take (i + 1) js) b (omega (arith, length-take (i + 1) js)))
      where
        past : (xs : List ℕ) (b : ℕ) → length xs ≤ b → get_or xs b 0 ≡ 0
        past [] b h = refl
        past (x ∷ xs) zero h = absurd (omega arith)
        past (x ∷ xs) (suc b) h = past xs b (omega arith)

-- ---- The state that the filled memory stands for

take_all : (n : ℕ) (js : List ℕ) → length js ≡ n → take n js ≡ js
take_all zero [] e = refl
take_all zero (x ∷ js) e = absurd (omega arith)
take_all (suc n) [] e = refl
take_all (suc n) (x ∷ js) e = ap (λ l. x ∷ l) (take_all n js (omega arith))

module _ (h : Numbers) (tape : List ℕ) (w : within (shape_of h) ≡ true) (enough : h.n ≤ length (words_of tape)) where
  abbrev H : Shape
  H = shape_of h

  straight : Straight (replicate h.n h.p) (words_of tape)
  straight = straight-partitions H w h.n (words_of tape) (words-short tape)

  enough' : length (replicate h.n h.p) ≤ length (words_of tape)
  enough' = omega (arith, length-replicate {A = ℕ} h.n h.p)

  pub drawn-length : length (drawn_by h tape) ≡ h.n
  drawn-length = length-numbers (replicate h.n h.p) (words_of tape) straight enough' ∙ length-replicate h.n h.p

  -- one word a block
  pub drawn-taken : taken_of (draws (replicate h.n h.p) (words_of tape)) ≡ h.n
  drawn-taken = taken-all (replicate h.n h.p) (words_of tape) straight enough' ∙ length-replicate h.n h.p

  pub drawn-number : (b : ℕ) → b < h.n → get_or (drawn_by h tape) b 0 ≡ get_or (words_of tape) b 0 % h.p
  drawn-number b l = draws-number (replicate h.n h.p) (words_of tape) straight enough' b (omega (arith, length-replicate {A = ℕ} h.n h.p)) ∙ ap (λ p. get_or (words_of tape) b 0 % p) (get_or-replicate h.n b h.p 0 l)

  drawn-lt : (b : ℕ) → get_or (drawn_by h tape) b 0 < h.p
  drawn-lt b = go (dec_lt b h.n)
    where
      past : (xs : List ℕ) (b : ℕ) → length xs ≤ b → get_or xs b 0 ≡ 0
      past [] b h = refl
      past (x ∷ xs) zero h = absurd (omega arith)
      past (x ∷ xs) (suc b) h = past xs b (omega arith)

      go : Dec (b < h.n) → get_or (drawn_by h tape) b 0 < h.p
      go (yes l) = rw (drawn-number b l) (mod-lt (get_or (words_of tape) b 0) (partitions-pos H w))
      go (no l) = rw (past (drawn_by h tape) b (omega (arith, drawn-length))) (partitions-pos H w)

  zeros : (bound : ℕ → ℕ) → ◌≡◌ {A = ℕ → ℕ} (λ x. fit (bound x) 0) (λ x. 0)
  zeros bound = fun_ext (λ x. fit-zero (bound x))

  partition-is : ◌≡◌ {A = ℕ → ℕ} (λ b. fit h.p (get_or (take h.n (drawn_by h tape)) b 0)) (λ b. get_or (drawn_by h tape) b 0)
  partition-is = fun_ext (λ b. rw (take_all h.n (drawn_by h tape) drawn-length) (fit-in h.p (get_or (drawn_by h tape) b 0) (drawn-lt b)))

  place_is : ◌≡◌ {A = ℕ → Place} (λ b. place_of h.l (fit (slots h.l) 0)) (λ b. nowhere)
  place_is = fun_ext (λ b. ap (place_of h.l) (fit-zero (slots h.l)) ∙ place-nowhere h.l)

  bytes-is : bytes_in H (λ b. replicate h.b 0) ≡ (λ b. replicate h.b 0)
  unfolding bytes_in
  bytes-is = fun_ext (λ b. same (ltb b h.n))
    where
      same : (t : Bool) → (if t then replicate h.b 0 else replicate h.b 0) ≡ replicate {A = ℕ} h.b 0
      same true = refl
      same false = refl

  pub fresh-is : (m₀ m : List ℕ) → Filled h h.n m₀ tape m → state_of (fresh_client h) m ≡ fresh H (drawn_by h tape)
  unfolding state_of view empty fresh rows below count request_of
  fresh-is m₀ m f = ap (view (fresh_client h)) f ∙ (λ k. record {
    shape = H;
    partition = partition-is k;
    place = place_is k;
    bytes = bytes-is k;
    waiting = [];
    counter = zeros (λ q. 2 ^ h.l) k;
    order = zeros (λ x. slots (level_at H x)) k;
    mark = zeros (λ x. 2) k;
    holds = zeros (λ x. h.n + 1) k;
    queue = [];
    begun = 0;
    cursor = 0;
    sent = 0;
    outstanding = [];
    request = none;
  })

  pub filled-tail : (m₀ m : List ℕ) → Filled h h.n m₀ tape m → drop (needed H) m ≡ drop (needed H) m₀
  unfolding tables_of empty
  filled-tail m₀ m f = ap (λ (t : Tables). t.tail) f

-- where the number is 0, all answers are yes
pub open-passed : (h : Shape) (len words : ℕ) → open_number h len words ≡ 0 → (within h ≡ true) × (needed h ≤ len) × (h.N ≤ words)
unfolding open_number first_no
open-passed h len words e = go (within h) (leb (needed h) len) (leb h.N words) refl refl refl e
  where
    go : (a b c : Bool) → within h ≡ a → leb (needed h) len ≡ b → leb h.N words ≡ c
        → ◌≡◌ {A = ℕ} (if a then (if b then (if c then 0 else 3) else 2) else 1) 0 → (within h ≡ true) × (needed h ≤ len) × (h.N ≤ words)
    go true true true x y z e = (x, leb-true (needed h) len y, leb-true h.N words z)
    go true true false x y z e = absurd (omega arith)
    go true false c x y z e = absurd (omega arith)
    go false b c x y z e = absurd (omega arith)

-- the cleared memory has the same tail, so that filling goes on from it
pub filled-from : (h : Numbers) (tape m₀ m : List ℕ) → Filled h 0 m₀ tape m → Filled h 0 m tape m
unfolding tables_of empty
filled-from h tape m₀ m f = f ∙ ap (λ t. with_partition (λ b. 0) (empty (shape_of h) t)) (sym (ap (λ (t : Tables). t.tail) f))

pub cleared-tail : (h : Numbers) (tape m₀ m : List ℕ) → Filled h 0 m₀ tape m → drop (needed (shape_of h)) m ≡ drop (needed (shape_of h)) m₀
unfolding tables_of empty
cleared-tail h tape m₀ m f = ap (λ (t : Tables). t.tail) f
