-- The questions of a save, and the form that it hands out.
use Rattle.std.specs.Prelude.{◌≡◌, Bool, ◌&&◌, List, [], ◌∷◌, ◌++◌, ℕ, ◌+◌, ◌-◌, ◌*◌, ◌≤◌, eqb, length, take, drop, if◌then◌else◌}
use Rattle.std.proofs.Math.Path.{refl}
use Rattle.std.proofs.Common.{ap, sym, ◌∙◌, true≢false, mul-le-mul, arith, drop-drop, eq-eqb, ne_eqb}
use Rattle.std.proofs.Math.Bool.{true, false}
use Rattle.std.proofs.Math.Option.{Option, none, some}
use Rattle.std.proofs.Math.Decide.{ℕ_discrete}
use Rattle.std.proofs.Math.Dec.{leb}
use Rattle.lists.specs.Search.{is_none}
use Rattle.lists.specs.Tests.{every, every-yes}
use Rattle.rules.specs.Shape.{slots}
use Rattle.rules.specs.State.{State, Request}
use Rattle.rules.specs.Form.Longest.{longest}
use Rattle.rules.specs.Form.Payload.{payload, saved_form}
use Rattle.rules.specs.Form.Sums.{block_count, in_blocks}
use Rattle.rules.proofs.Laws.Form.Sums.{count-le, length-in-blocks}
use Rattle.rules.proofs.Laws.Released.{release-none}
use Rattle.rules.specs.Questions.{save, ready, at_rest, questions, first_no, number}
use Rattle.rules.specs.Run.{act, perform}
use Rattle.memory.specs.declared.Shape.{Shape as Numbers}
use Rattle.client.specs.declared.Client.{Client}
use Rattle.client.specs.View.{state_of, view}
use Rattle.client.specs.Readings.{out-count, hand-none, hand-some}
use Rattle.contract.specs.Meets.{call_of, handed_to}
use Rattle.lists.specs.Written.{Written}

-- what the longest form is computed with
abbrev pub RoomFor : Numbers → Type 0
RoomFor h = (h.n ≤ 4096) × (h.p ≤ 64) × (h.l ≤ 8) × (h.b ≤ 512) × (slots h.l ≤ 512)

-- the number by the first two questions
unfoldable pub first_questions : State → ℕ → ℕ → ℕ
first_questions s memory buffer = first_no ((ready s memory && leb (longest s.shape) buffer, 2) ∷ (at_rest s, 16) ∷ [])

-- the two products of the longest form are small
pub products-small : (h : Numbers) (x : ℕ) → RoomFor h → x ≡ slots h.l → (h.p * (x - 2) ≤ 32768) × ((7 + h.b) * h.n ≤ 2125824)
products-small h x r e =
    let stride : x - 2 ≤ 512 = omega (arith, r.4) in
    let size : 7 + h.b ≤ 519 = omega (arith, r.3) in
    (mul-le-mul r.1 stride, mul-le-mul size r.0)

-- ---- At rest

idle-is : (c : Client) (m : List ℕ) → eqb c.request.kind 0 ≡ is_none (state_of c m).request
unfolding is_none
idle-is c m = go (ℕ_discrete c.request.kind 0)
  where
    go : Dec (c.request.kind ≡ 0) → eqb c.request.kind 0 ≡ is_none (state_of c m).request
    go (yes e) = eq-eqb c.request.kind 0 e ∙ sym (ap is_none (hand-none c m e))
    go (no n) = ne_eqb c.request.kind 0 n ∙ sym (ap is_none (hand-some c m n))

three : (a b d : Bool) → ((a && b) && d) ≡ (a && (b && (d && true)))
three true true true = refl
three true true false = refl
three true false d = refl
three false b d = refl

pub rest-is : (c : Client) (m : List ℕ) → ((eqb c.request.kind 0 && eqb c.out 0) && eqb c.begun 0) ≡ at_rest (state_of c m)
unfolding at_rest every state_of view
rest-is c m =
    three (eqb c.request.kind 0) (eqb c.out 0) (eqb c.begun 0)
    ∙ (λ i. idle-is c m i && (eqb (sym (out-count c m) i) 0 && (eqb c.begun 0 && true)))

none_of : (o : Option Request) → is_none o ≡ true → o ≡ none
unfolding is_none
none_of none e = refl
none_of (some r) e = absurd (true≢false (sym e))

-- a save of a state at rest leaves it
pub rest-kept : (s : State) (js : List ℕ) → at_rest s ≡ true → s ≡ act s save js
unfolding act perform at_rest
rest-kept s js e = sym (release-none s (none_of s.request (every-yes (is_none s.request ∷ eqb (length s.outstanding) 0 ∷ eqb s.begun 0 ∷ []) e).0))

-- ---- The questions

-- the number by the answers
abbrev pub one : Bool → ℕ
one z = if z then 0 else 2

abbrev two : Bool → Bool → ℕ
two x y = if x then (if y then 0 else 16) else 2

abbrev all : Bool → Bool → Bool → ℕ
all x y z = if x then (if y then one z else 16) else 2

module _ (s : State) (m b : List ℕ) where
  -- where the first two do not both pass, they decide
  pub first-decides : (first_questions s (length m) (length b) ≡ 0 → ⊥) → first_questions s (length m) (length b) ≡ number s (call_of save m [] b)
  unfolding first_questions number questions first_no
  first-decides n = go (ready s (length m) && leb (longest s.shape) (length b)) (at_rest s) (leb (length (saved_form s)) (length b)) n
    where
      go : (x y z : Bool) → (two x y ≡ 0 → ⊥) → two x y ≡ all x y z
      go true true z n = absurd (n refl)
      go true false z n = refl
      go false y z n = refl

  -- where they do, the length decides
  pub length-decides : first_questions s (length m) (length b) ≡ 0 → number s (call_of save m [] b) ≡ one (leb (length (saved_form s)) (length b))
  unfolding first_questions number questions first_no
  length-decides e = go (ready s (length m) && leb (longest s.shape) (length b)) (at_rest s) (leb (length (saved_form s)) (length b)) e
    where
      go : (x y z : Bool) → two x y ≡ 0 → all x y z ≡ one z
      go true true z e = refl
      go true false z e = absurd (omega arith)
      go false y z e = absurd (omega arith)

  pub first-yes : first_questions s (length m) (length b) ≡ 0 → (ready s (length m) ≡ true) × (at_rest s ≡ true)
  unfolding first_questions first_no
  first-yes e = go (ready s (length m)) (leb (longest s.shape) (length b)) (at_rest s) refl refl e
    where
      go : (r x y : Bool) → ready s (length m) ≡ r → at_rest s ≡ y → two (r && x) y ≡ 0 → (ready s (length m) ≡ true) × (at_rest s ≡ true)
      go true true true p q e = (p, q)
      go true true false p q e = absurd (omega arith)
      go true false y p q e = absurd (omega arith)
      go false x y p q e = absurd (omega arith)

-- ---- The form

pub form-length : (s : State) → length (saved_form s) ≡ block_count (length (payload s)) * 512
unfolding saved_form
form-length s = length-in-blocks (payload s)

-- a payload that is written at the start of the buffer, and cut into blocks there
pub form-out : (s : State) (b d : List ℕ) (n : ℕ) → Written b 0 (payload s) d n → handed_to d (in_blocks (take n d)) ≡ handed_to b (saved_form s)
unfolding saved_form
form-out s b d n w =
    let is : take n d ≡ payload s = w.bytes in
    ap (λ x. handed_to d (in_blocks x)) is ∙ ap (λ r. in_blocks (payload s) ++ r) behind
  where
    behind : drop (length (in_blocks (payload s))) d ≡ drop (length (in_blocks (payload s))) b
    behind =
        let l = length (in_blocks (payload s)) in
        let k : n + (l - n) ≡ l = omega (arith, w.place, length-in-blocks (payload s), count-le (length (payload s))) in
        ap (λ j. drop j d) (sym k) ∙ sym (drop-drop (l - n) n d) ∙ ap (drop (l - n)) w.behind ∙ drop-drop (l - n) n b ∙ ap (λ j. drop j b) k
