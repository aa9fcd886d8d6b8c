-- Request: its number by the client's numbers and the lengths lent, and the state that it leaves.
use Rattle.std.specs.Prelude.{◌≡◌, Bool, ◌&&◌, ◌||◌, List, [], ◌∷◌, ℕ, ◌%◌, ◌≤◌, ◌<◌, length, get_or, eqb, ltb, if◌then◌else◌}
use Rattle.std.proofs.Math.Path.{refl}
use Rattle.std.proofs.Common.{ap, sym, ◌∙◌, true≢false, arith}
use Rattle.std.proofs.Math.Bool.{true, false}
use Rattle.std.proofs.Math.Option.{none, some}
use Rattle.std.proofs.Math.Dec.{leb}
use borrow.Author.Tests.{eqb-true, ne_eqb, leb-true, ltb-true}
use Rattle.lists.specs.Tests.{and_l, and_r, and-false, between}
use Rattle.lists.specs.Search.{is_none, member}
use Rattle.lists.specs.Tables.{put, put-own}
use Rattle.rules.specs.State as R
use Rattle.rules.specs.State.{State, write}
use Rattle.rules.specs.Setters.{set_request}
use Rattle.rules.specs.Ranges.{is_kind, bytes_of}
use Rattle.rules.specs.Draws.{draws}
use Rattle.rules.specs.Request.{accept, release}
use Rattle.rules.specs.Questions.{request, ready, bounds, questions, first_no, number}
use Rattle.rules.specs.Run.{numbers_of, taken_of}
use Rattle.rules.proofs.Laws.Answers.{accepted-passed}
use Rattle.memory.specs.Tables.{tables_of, with_blocks}
use Rattle.memory.specs.Fits.{shape_of}
use Rattle.memory.specs.declared.Shape.{Shape as Numbers}
use Rattle.client.specs.declared.Client.{Client}
use Rattle.client.specs.View.{state_of, view, found_by, request_of}
use Rattle.client.specs.Readings.{jobs-count, waiting-count, hand-none}
use Rattle.client.specs.Changes.{view-asked}
use Rattle.client.specs.Moves.{with_request, Stands, stands}
use Rattle.rules.specs.Laws.Drawn.{Straight}
use Rattle.rules.proofs.Laws.Drawn.{straight-partitions, draws-enough, draws-number, taken-all}
use Rattle.rules.proofs.Laws.Kept.{given-in}
use Rattle.rules.specs.Shape.{within}
use Rattle.tape.specs.Tape.{words_of, words-short}
use Rattle.contract.specs.Meets.{call_of}
use Rattle.ready.specs.Usable.{Usable, usable}

unfoldable pub request_number : Client → List ℕ → ℕ → ℕ → ℕ → ℕ → ℕ
request_number c m k b len words = first_no
    ((ready (state_of c m) (length m) && is_kind k, 2)
    ∷ (eqb c.request.kind 0, 4)
    ∷ (ltb b c.shape.n, 5)
    ∷ (eqb len (bytes_of (shape_of c.shape) k), 6)
    ∷ (leb c.jobs 62, 7)
    ∷ (ltb c.waiting c.shape.e || member b (state_of c m).waiting, 8)
    ∷ (leb 2 words, 3) ∷ [])

-- the numbers drawn
abbrev pub drawn_by : Client → List ℕ → List ℕ
drawn_by c tape = numbers_of (draws (c.shape.p ∷ c.shape.p ∷ []) (words_of tape))

-- the state after an accepted request, before it is released
abbrev pub Taken : Client → List ℕ → ℕ → ℕ → List ℕ → List ℕ → State
Taken c m k b bs tape = accept k b bs (drawn_by c tape) (state_of c m)

-- block N has the contents of a write; for a read it is as it was
abbrev pub Kept : Numbers → ℕ → List ℕ → List ℕ → List ℕ → Type 0
Kept h k bs m₀ m = let t = tables_of (shape_of h) m₀ in
    tables_of (shape_of h) m ≡ with_blocks (put h.n (if eqb k write then bs else t.blocks h.n) t.blocks) t

-- no word is passed over
straight : (c : Client) (tape : List ℕ) → within (shape_of c.shape) ≡ true → Straight (c.shape.p ∷ c.shape.p ∷ []) (words_of tape)
straight c tape w = straight-partitions (shape_of c.shape) w 2 (words_of tape) (words-short tape)

pub drawn-taken : (c : Client) (tape : List ℕ) → within (shape_of c.shape) ≡ true → 2 ≤ length (words_of tape) → taken_of (draws (c.shape.p ∷ c.shape.p ∷ []) (words_of tape)) ≡ 2
drawn-taken c tape w l = taken-all (c.shape.p ∷ c.shape.p ∷ []) (words_of tape) (straight c tape w) l

-- ---- The number

module _ (c : Client) (m : List ℕ) where
  none_is : is_none (state_of c m).request ≡ eqb c.request.kind 0
  unfolding state_of view request_of is_none
  none_is = go (eqb c.request.kind 0) _
    where
      go : (t : Bool) (r : R.Request) → is_none (if t then none else some r) ≡ t
      go true r = refl
      go false r = refl

  shape_is : (state_of c m).shape ≡ shape_of c.shape
  unfolding state_of view
  shape_is = refl

  shape-within : ready (state_of c m) (length m) ≡ true → within (shape_of c.shape) ≡ true
  unfolding state_of view
  shape-within e = (given-in (state_of c m) (length m) e).shape

  pub request-number : (k b : ℕ) (bs tape : List ℕ) → number (state_of c m) (call_of (request k b bs) m tape []) ≡ request_number c m k b (length bs) (length (words_of tape))
  unfolding number questions request_number bounds
  request-number k b bs tape = go (ready (state_of c m) (length m)) refl
    where
      go : (t : Bool) → ready (state_of c m) (length m) ≡ t → number (state_of c m) (call_of (request k b bs) m tape []) ≡ request_number c m k b (length bs) (length (words_of tape))
      go false e = rw e (unfold first_no in refl)
      go true e = rw (shape_is, none_is, jobs-count c m, waiting-count c m, draws-enough (c.shape.p ∷ c.shape.p ∷ []) (words_of tape) (straight c tape (shape-within e)))

  -- of a number that is no kind it is 2
  pub request-other : (k b : ℕ) (bs tape : List ℕ) → is_kind k ≡ false → 2 ≡ number (state_of c m) (call_of (request k b bs) m tape [])
  unfolding number questions first_no
  request-other k b bs tape e = rw (and-false (ready (state_of c m) (length m)) e)

  -- where it is 0, all answers are yes
  pub record Asked (k b : ℕ) (bs tape : List ℕ) : Type 0 where
    pub usable : Usable c m
    pub shape : within (shape_of c.shape) ≡ true
    pub block : b < c.shape.n
    pub some : 1 ≤ k
    pub size : length bs ≡ bytes_of (shape_of c.shape) k
    pub words : 2 ≤ length (words_of tape)

  pub request-passed : (k b : ℕ) (bs tape : List ℕ) → number (state_of c m) (call_of (request k b bs) m tape []) ≡ 0 → Asked k b bs tape
  unfolding questions bounds is_kind between
  request-passed k b bs tape e =
      let y = accepted-passed (state_of c m) (call_of (request k b bs) m tape []) e in
      let ready' = and_l (ready (state_of c m) (length m)) (leb 1 k && leb k 2) y.0 in
      let kind = and_r (ready (state_of c m) (length m)) (leb 1 k && leb k 2) y.0 in
      let size = eqb-true (length bs) (bytes_of (state_of c m).shape k) y.1.1.1.0 in
      record {
        usable = usable c m ready';
        shape = shape-within ready';
        block = let l = ltb-true b (state_of c m).shape.N y.1.1.0 in rw shape_is at l;
        some = leb-true 1 k (and_l (leb 1 k) (leb k 2) kind);
        size = rw shape_is at size;
        words = leb-true 2 (length (words_of tape)) (sym (draws-enough (c.shape.p ∷ c.shape.p ∷ []) (words_of tape) (straight c tape (shape-within ready'))) ∙ (rw shape_is at y.1.1.1.1.1.1.0));
      }

-- ---- The state

pub kept_read : (h : Numbers) (k : ℕ) (bs m : List ℕ) → (k ≡ 2 → ⊥) → Kept h k bs m m
kept_read h k bs m n = rw (ne_eqb k 2 n) (ap (λ f. with_blocks f (tables_of (shape_of h) m)) (sym (put-own h.n (tables_of (shape_of h) m).blocks)))

nothing : (bs : List ℕ) → length bs ≡ 0 → [] ≡ bs
nothing [] e = refl
nothing (x ∷ bs) e = absurd (omega arith)

-- the contents of a request in hand
contents-is : (h : Numbers) (k : ℕ) (bs v : List ℕ) → length bs ≡ bytes_of (shape_of h) k → (if eqb k write then (if eqb k write then bs else v) else []) ≡ bs
unfolding bytes_of
contents-is h k bs v e = go (eqb k write) e
  where
    go : (t : Bool) → length bs ≡ (if t then h.b else 0) → (if t then (if t then bs else v) else []) ≡ bs
    go true e = refl
    go false e = nothing bs e

hand-is : (c : Client) (k b : ℕ) (bs v tape : List ℕ) (next evict : ℕ) → within (shape_of c.shape) ≡ true → 1 ≤ k → length bs ≡ bytes_of (shape_of c.shape) k → 2 ≤ length (words_of tape)
    → next ≡ get_or (words_of tape) 0 0 % c.shape.p → evict ≡ get_or (words_of tape) 1 0 % c.shape.p
    → request_of (record { kind = k; block = b; next = next; evict = evict; level = 0; found = 0; awaits = 0 }) (if eqb k write then bs else v)
    ≡ some (record { kind = k; block = b; bytes = bs; next = get_or (drawn_by c tape) 0 0; evict = get_or (drawn_by c tape) 1 0; level = 0; found = none; awaits = 0 })
unfolding request_of found_by
hand-is c k b bs v tape next evict h l e w n u =
    let ms : List ℕ = c.shape.p ∷ c.shape.p ∷ [] in
    let first = n ∙ sym (draws-number ms (words_of tape) (straight c tape h) w 0 (omega arith)) in
    let second = u ∙ sym (draws-number ms (words_of tape) (straight c tape h) w 1 (omega arith)) in
    rw (ne_eqb k 0 (λ z. omega arith)) (λ i. some (record { kind = k; block = b; bytes = contents-is c.shape k bs v e i; next = first i; evict = second i; level = 0; found = none; awaits = 0 }))

pub taken-stands : (c : Client) (m₀ m : List ℕ) (k b : ℕ) (bs tape : List ℕ) (next evict : ℕ) → Kept c.shape k bs m₀ m → within (shape_of c.shape) ≡ true → 1 ≤ k → length bs ≡ bytes_of (shape_of c.shape) k → 2 ≤ length (words_of tape)
    → next ≡ get_or (words_of tape) 0 0 % c.shape.p → evict ≡ get_or (words_of tape) 1 0 % c.shape.p
    → Stands (with_request (record { kind = k; block = b; next = next; evict = evict; level = 0; found = 0; awaits = 0 }) c) m₀ m (Taken c m₀ k b bs tape)
unfolding state_of view accept tables_of
taken-stands c m₀ m k b bs tape next evict t h l e w n u =
    let c' : Client = with_request (record { kind = k; block = b; next = next; evict = evict; level = 0; found = 0; awaits = 0 }) c in
    stands c' m₀ m _ (Taken c m₀ k b bs tape) t refl
    (view-asked c' (tables_of (shape_of c.shape) m₀) _ ∙ ap (λ r. set_request r (state_of c m₀)) (hand-is c k b bs _ tape next evict h l e w n u))

-- a request is in hand then
pub in-hand : (c r : Client) (m m' : List ℕ) (k b : ℕ) (bs tape : List ℕ) → state_of r m' ≡ release (Taken c m k b bs tape) → r.request.kind ≡ 0 → ⊥
unfolding accept is_none
in-hand c r m m' k b bs tape e z = true≢false (ap is_none (sym (hand-none r m' z) ∙ ap (λ (x : State). x.request) e))
