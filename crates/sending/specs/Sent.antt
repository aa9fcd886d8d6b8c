-- A turn by the step that it decides: its number, and what it leaves.
use Rattle.std.specs.Prelude.{◌≡◌, Bool, true, not, ◌||◌, List, [], ◌∷◌, ℕ, zero, suc, ◌+◌, ◌-◌, ◌≤◌, ◌<◌, length, get_or, replicate, take, eqb, if◌then◌else◌}
use Rattle.std.proofs.Math.Path.{refl, ap, sym}
use Rattle.std.proofs.Common.{◌∙◌, subst, add-one, arith}
use Rattle.std.proofs.Math.Bool.{false}
use Rattle.std.proofs.Math.Option.{none, some}
use Rattle.std.proofs.Math.Dec.{ltb}
use borrow.Author.Tests.{lt-ltb, le-ltb, eq-eqb, ne_eqb}
use Rattle.lists.specs.All.{All}
use Rattle.lists.specs.Search.{is_none, keep}
use Rattle.rules.specs.Shape.{slots, cell, offset}
use Rattle.rules.specs.State.{State, cmd, read, write, found_number}
use Rattle.rules.specs.Setters.{set_request, set_begun, set_cursor, set_sent, set_waiting}
use Rattle.rules.specs.Draws.{draws}
use Rattle.rules.specs.Levels.{filled as is_filled, down}
use Rattle.rules.specs.Jobs.{joined, levels_of, orders_bounds}
use Rattle.rules.specs.Request.{is_source, pass_level}
use Rattle.rules.specs.Blocks.{holder, slot_bytes, named, zeros}
use Rattle.rules.specs.Rebuild.{gathered, fills, leave, do_rebuild}
use Rattle.rules.specs.Turn.{Step, idle, no_dummy, read_for_request, read_for_job, rebuild, write_next, decide, command, step_bounds, mark_read, send, do_step}
use Rattle.rules.specs.Questions.{turn, ready, sends, possible, questions, first_no, number, bounds}
use Rattle.rules.specs.Run.{act, perform, sent_command, handed, handed_found, written, numbers_of, taken_of, refuse}
use Rattle.rules.specs.Laws.Draws.{Enough}
use Rattle.rules.specs.Laws.Answers.{opens}
use Rattle.rules.proofs.Laws.Asked.{reads-asked}
use Rattle.rules.specs.Laws.Decided.{Front, StepIn}
use Rattle.rules.proofs.Laws.Decided.{decide-in}
use Rattle.rules.proofs.Laws.Kept.{do_step-in}
use Rattle.rules.proofs.Laws.Shapes.{act-shape}
use Rattle.memory.specs.Fits.{shape_of, fit, fit-lt}
use Rattle.memory.specs.Tables.{tables_of}
use Rattle.client.specs.declared.Client.{Client}
use Rattle.client.specs.View.{state_of, view, hand_by, request_of, bytes_in}
use Rattle.client.specs.Readings.{hand-none, out-count}
use Rattle.client.specs.Moves.{at_level, with_request, with_begun, with_cursor, with_sent, with_out, Stands, restated, then as next}
use Rattle.tape.specs.Tape.{words_of}
use Rattle.ready.specs.Usable.{Usable}
use Rattle.contract.specs.Answers.{Answer, refused_with, accepted_with}
use Rattle.contract.specs.Buffers.{filled}
use Rattle.contract.specs.Meets.{call_of, handed_to, command_of, meets-no}
use Rattle.cache.specs.Longest.{waits_for}
use Rattle.rebuild.specs.Laying.{rebuilt, rebuild-is}
use Rattle.releasing.specs.Performs.{Performs, ready-after}
use Rattle.sending.specs.declared.Plan.{Plan}
use Rattle.sending.specs.Plans.{PlanOf}

-- what a turn decides is in range
abbrev pub Inside : Client → State → Step → Type 0
Inside c s idle = Unit {0}
Inside c s no_dummy = Unit {0}
Inside c s (read_for_request q ℓ i) = (q < c.shape.p) × (ℓ < c.shape.l) × (i < slots ℓ)
Inside c s (read_for_job q ℓ i) = (q < c.shape.p) × (ℓ < c.shape.l) × (i < slots ℓ) × Front s q
Inside c s (rebuild q ls) = (q < c.shape.p) × All (λ ℓ. ℓ < c.shape.l) ls × Front s q
Inside c s (write_next q t i) = (q < c.shape.p) × (t < c.shape.l) × (i < slots t) × (c.sent < slots c.shape.l - 2)

inside_of : (c : Client) (m : List ℕ) (x : Step) → StepIn (state_of c m) x → Inside c (state_of c m) x
unfolding state_of view
inside_of c m idle h = tt
inside_of c m no_dummy h = tt
inside_of c m (read_for_request q ℓ i) h = h
inside_of c m (read_for_job q ℓ i) h = h
inside_of c m (rebuild q ls) h = h
inside_of c m (write_next q t i) h = h

inside-in : (c : Client) (m : List ℕ) (x : Step) → Inside c (state_of c m) x → StepIn (state_of c m) x
unfolding state_of view
inside-in c m idle h = tt
inside-in c m no_dummy h = tt
inside-in c m (read_for_request q ℓ i) h = h
inside-in c m (read_for_job q ℓ i) h = h
inside-in c m (rebuild q ls) h = h
inside-in c m (write_next q t i) h = h

-- a turn that may be made, and the step that it decides
pub record Due (c : Client) (m : List ℕ) (x : Step) : Type 0 where
  pub ready : ready (state_of c m) (length m) ≡ true
  pub usable : Usable c m
  pub free : c.out < c.shape.w
  pub step : decide (state_of c m) ≡ x
  pub inside : Inside c (state_of c m) x

pub due : (c : Client) (m : List ℕ) (x : Step) → ready (state_of c m) (length m) ≡ true → Usable c m → c.out < c.shape.w → decide (state_of c m) ≡ x → Due c m x
due c m x r u f e = record { ready = r; usable = u; free = f; step = e; inside = inside_of c m x (subst (StepIn (state_of c m)) e (decide-in (state_of c m) u.range)) }

-- a turn that sends a read, whatever the tape and the buffer; one that sends a write without a draw, whatever the tape
abbrev pub Reads : Client → List ℕ → Answer → List ℕ → Type 0
Reads c m r m' = (tape b : List ℕ) → Performs c (state_of c m) turn m tape b r m' b

abbrev pub Writes : Client → List ℕ → List ℕ → Answer → List ℕ → List ℕ → Type 0
Writes c m b r m' b' = (tape : List ℕ) → Performs c (state_of c m) turn m tape b r m' b'

-- A turn of the client c leaves e, which stands for s; while no request is in hand, its numbers stay
pub record Left (c e : Client) (m m' : List ℕ) (s : State) : Type 0 where
  pub stands : Stands e m m' s
  pub idle : e.request.kind ≡ 0 → e.request ≡ c.request

-- ---- The number

module _ (c : Client) (m : List ℕ) where
  bytes-is : (state_of c m).shape.B ≡ c.shape.b
  unfolding state_of view
  bytes-is = refl

  window-is : (state_of c m).shape.W ≡ c.shape.w
  unfolding state_of view
  window-is = refl

module _ (c : Client) (m tape b : List ℕ) (x : Step) (d : Due c m x) where
  abbrev s : State
  s = state_of c m

  -- what is left to ask
  abbrev asked : List (Bool × ℕ)
  asked =
      (sends x, 10)
      ∷ (not (eqb (command x).kind write) || eqb (length b) c.shape.b, 15)
      ∷ (not (is_none (draws (step_bounds x) (words_of tape))), 3)
      ∷ (possible s x, 2) ∷ []

  pub turn-number : number s (call_of turn m tape b) ≡ first_no asked
  unfolding number questions bounds first_no
  turn-number = rw (d.ready, d.step, out-count c m, window-is c m, lt-ltb c.out c.shape.w d.free, bytes-is c m)

  -- a turn that is refused
  pub refuses : (n : ℕ) → first_no asked ≡ n → (n ≡ 0 → ⊥) → Performs c s turn m tape b (refused_with n c) m b
  unfolding refuse
  refuses n e z = record { refused = λ _. meets-no c s turn m tape b n (sym e ∙ sym turn-number) z refl; accepted = λ y. absurd (z y) }

  -- a turn that is accepted
  abbrev drawn : List ℕ
  drawn = numbers_of (draws (step_bounds x) (words_of tape))

  -- the state that it leaves answers the first question too
  left-ready : (e : Client) (m' js : List ℕ) → length m' ≡ length m → Left c e m m' (do_step x js s) → ready (state_of e m') (length m') ≡ true
  left-ready e m' js l f = ready-after c e m m' (do_step x js s) d.usable.room l f.stands.state shape (do_step-in s d.usable.range x js (inside-in c m x d.inside) (omega (arith, out-count c m, window-is c m, d.free)))
    where
      shape : (do_step x js s).shape ≡ shape_of c.shape
      shape = subst (λ y. (do_step y js s).shape ≡ shape_of c.shape) d.step (unfold act perform state_of view in (act-shape s turn js (unfold opens in refl)))

  pub accepts : (r : Answer) (m' b' : List ℕ) → first_no asked ≡ 0
      → r.number ≡ 0 → r.taken ≡ taken_of (draws (step_bounds x) (words_of tape)) → command_of r ≡ command x → r.found ≡ 0 → length m' ≡ length m
      → Left c r.client m m' (do_step x drawn s) → b' ≡ handed_to b (written (do_step x drawn s) (command x)) → Performs c s turn m tape b r m' b'
  unfolding bounds perform sent_command handed handed_found found_number state_of view
  accepts r m' b' e n t k u g f h = record {
    refused = λ z. absurd (z n);
    accepted = λ _. record {
      yes = turn-number ∙ e;
      taken = rw d.step t;
      command = rw d.step k;
      found = u;
      state = rw d.step f.stands.state;
      idle = f.idle;
      buffer = rw d.step h;
      tail = f.stands.tail;
      ready = left-ready r.client m' drawn g f;
    };
  }

-- ---- What a turn hands out

-- the bytes of a slot that holds nothing
pub slot-dummy : (c : Client) (m : List ℕ) (q l i x : ℕ) → x ≡ cell (shape_of c.shape) q l i → fit (c.shape.n + 1) ((tables_of (shape_of c.shape) m).holds x) ≡ 0
    → slot_bytes (state_of c m) (holder (state_of c m) q l i) ≡ replicate c.shape.b 0
unfolding state_of view holder named slot_bytes zeros
slot-dummy c m q l i x e z = ap (λ y. slot_bytes (state_of c m) (named (fit (c.shape.n + 1) ((tables_of (shape_of c.shape) m).holds y)))) (sym e) ∙ ap (λ v. slot_bytes (state_of c m) (named v)) z

-- and of one that holds a block
pub slot-block : (c : Client) (m : List ℕ) (q l i x v : ℕ) → x ≡ cell (shape_of c.shape) q l i → v ≡ fit (c.shape.n + 1) ((tables_of (shape_of c.shape) m).holds x) → (v ≡ 0 → ⊥)
    → slot_bytes (state_of c m) (holder (state_of c m) q l i) ≡ (tables_of (shape_of c.shape) m).blocks (v - 1)
unfolding state_of view holder named slot_bytes
slot-block c m q l i x v e z n =
    ap (λ y. slot_bytes (state_of c m) (named (fit (c.shape.n + 1) ((tables_of (shape_of c.shape) m).holds y)))) (sym e)
    ∙ ap (λ v. slot_bytes (state_of c m) (named v)) (sym z)
    ∙ go v n (rw z (fit-lt (c.shape.n + 1) ((tables_of (shape_of c.shape) m).holds x) (omega arith)))
  where
    go : (v : ℕ) → (v ≡ 0 → ⊥) → v < c.shape.n + 1 → slot_bytes (state_of c m) (named v) ≡ (tables_of (shape_of c.shape) m).blocks (v - 1)
    go zero n l = absurd (n refl)
    go (suc b) n l = unfold bytes_in in (rw (lt-ltb b c.shape.n (omega arith)) (ap (tables_of (shape_of c.shape) m).blocks (omega arith)))

pub handed-read : (b : List ℕ) (s : State) (q l i : ℕ) → b ≡ handed_to b (written s (cmd read q l i))
unfolding written
handed-read b s q l i = refl

pub handed-write : (b b' : List ℕ) (s : State) (q l i : ℕ) → length b ≡ length b' → b' ≡ slot_bytes s (holder s q l i) → b' ≡ handed_to b (written s (cmd write q l i))
unfolding written
handed-write b b' s q l i n e = e ∙ sym (filled b (slot_bytes s (holder s q l i)) (n ∙ ap length e))

-- ---- What it changes

left : {c e : Client} {m m' : List ℕ} {s : State} → (e.request.kind ≡ 0 → e.request ≡ c.request) → Stands e m m' s → Left c e m m' s
left i k = record { stands = k; idle = i }

-- a read for a request: there is one in hand
pub asked-for : (c : Client) (m : List ℕ) (q l i : ℕ) → Due c m (read_for_request q l i) → c.request.kind ≡ 0 → ⊥
asked-for c m q l i k z = reads-asked (state_of c m) q l i k.step (hand-none c m z)

-- the request goes on from the level above l
abbrev pub passed : ℕ → Client → Client
passed l c = with_request (at_level (l + 1) (c.out + 1) c.request) c

passed_is : (l n : ℕ) (c : Client) (m : List ℕ) → state_of (passed l (with_begun n c)) m ≡ set_begun n (set_request (pass_level l (suc (length (state_of c m).outstanding)) (state_of c m).request) (state_of c m))
passed_is l n c m = ap (λ k. state_of (with_request (at_level (l + 1) k c.request) (with_begun n c)) m) (omega (arith, out-count c m)) ∙ asked_is ∙ ap (λ o. set_begun n (set_request o (state_of c m))) (asked ∙ sym same)
  where
    bs : List ℕ
    bs = (tables_of (shape_of c.shape) m).blocks c.shape.n

    k : ℕ
    k = suc (length (state_of c m).outstanding)

    go : (t : Bool) → (if t then none else some (hand_by (at_level (l + 1) k c.request) bs)) ≡ pass_level l k (if t then none else some (hand_by c.request bs))
    go true = unfold pass_level in refl
    go false = unfold pass_level in (ap (λ n. some (hand_by (at_level n k c.request) bs)) (omega arith))

    asked : request_of (at_level (l + 1) k c.request) bs ≡ pass_level l k (request_of c.request bs)
    asked = unfold request_of in (go (eqb c.request.kind 0))

    asked_is : state_of (with_request (at_level (l + 1) k c.request) (with_begun n c)) m ≡ set_begun n (set_request (request_of (at_level (l + 1) k c.request) bs) (state_of c m))
    asked_is = unfold state_of view in refl

    same : pass_level l k (state_of c m).request ≡ pass_level l k (request_of c.request bs)
    same = unfold state_of view in refl

module _ (c d e : Client) (m m₁ m₂ : List ℕ) where
  abbrev S : State
  S = state_of c m

  pub request-sent : (q l i n : ℕ) → (c.request.kind ≡ 0 → ⊥) → Stands c m m₁ (mark_read q l i S) → n ≡ (if is_source S q l then joined S q else S.begun) → d ≡ passed l (with_begun n c) → e ≡ with_out (d.out + 1) d
      → Stands e m₁ m₂ (send (cmd 1 q l i) (state_of d m₁)) → (js : List ℕ) → Left c e m m₂ (do_step (read_for_request q l i) js S)
  unfolding do_step mark_read
  request-sent q l i n k a w x y b js =
      let shape : e.shape ≡ c.shape = ap (λ (z : Client). z.shape) y ∙ ap (λ (z : Client). z.shape) x in
      let kind : e.request.kind ≡ c.request.kind = ap (λ (z : Client). z.request.kind) y ∙ ap (λ (z : Client). z.request.kind) x in
      left (λ z. absurd (k (sym kind ∙ z))) (restated (next c e m m₁ m₂ _ _ shape a b) (ap (send (cmd 1 q l i)) (ap (λ z. state_of z m₁) x ∙ passed_is l n c m₁ ∙ ap (λ (z : State). set_begun n (set_request (pass_level l (suc (length z.outstanding)) z.request) z)) a.state
      ∙ ap (λ j. set_begun j (set_request (pass_level l (suc (length S.outstanding)) S.request) (mark_read q l i S))) w)))

  pub job-sent : (q l i n j : ℕ) → Stands c m m₁ (mark_read q l i S) → n ≡ suc (offset l i) → j ≡ joined S q → d ≡ with_cursor n (with_begun j c) → e ≡ with_out (d.out + 1) d → Stands e m₁ m₂ (send (cmd 1 q l i) (state_of d m₁))
      → (js : List ℕ) → Left c e m m₂ (do_step (read_for_job q l i) js S)
  unfolding do_step
  job-sent q l i n j a z w x y b js =
      let shape : e.shape ≡ c.shape = ap (λ (v : Client). v.shape) y ∙ ap (λ (v : Client). v.shape) x in
      left (λ _. ap (λ (v : Client). v.request) y ∙ ap (λ (v : Client). v.request) x)
      (restated (next c e m m₁ m₂ _ _ shape a b) (ap (send (cmd 1 q l i)) (ap (λ v. state_of v m₁) x ∙ cursor-is ∙ ap (λ v. set_cursor n (set_begun j v)) a.state ∙ (λ k. set_cursor (z k) (set_begun (w k) (mark_read q l i S))))))
    where
      cursor-is : state_of (with_cursor n (with_begun j c)) m₁ ≡ set_cursor n (set_begun j (state_of c m₁))
      cursor-is = unfold state_of view in refl

  pub write-sent : (q t i : ℕ) → d ≡ with_sent (c.sent + 1) c → e ≡ with_out (d.out + 1) d → Stands e m m₁ (send (cmd 2 q t i) (state_of d m))
      → (js : List ℕ) → Left c e m m₁ (do_step (write_next q t i) js S)
  unfolding do_step
  write-sent q t i x y b js =
      left (λ _. ap (λ (w : Client). w.request) y ∙ ap (λ (w : Client). w.request) x)
      (restated b (ap (send (cmd 2 q t i)) (ap (λ w. state_of w m) x ∙ sent_is)))
    where
      sent_is : state_of (with_sent (c.sent + 1) c) m ≡ set_sent (suc S.sent) S
      sent_is = unfold state_of view in (ap (λ n. set_sent n (state_of c m)) (add-one c.sent))

  pub rebuild-sent : (q t : ℕ) (ls js : List ℕ) → get_or ls 0 0 ≡ t → d.shape ≡ c.shape → d.request ≡ c.request → Stands d m m₁ (do_rebuild q ls (fills ls js (gathered S q)) S) → e ≡ with_out (d.out + 1) d → Stands e m₁ m₂ (send (cmd 2 q t 0) (state_of d m₁))
      → Left c e m m₂ (do_step (rebuild q ls) js S)
  unfolding do_step
  rebuild-sent q t ls js z h k a y b = left (λ _. ap (λ (v : Client). v.request) y ∙ k) (restated (next d e m m₁ m₂ _ _ (ap (λ (v : Client). v.shape) y) a b) (λ i. send (cmd 2 q (sym z i) 0) (a.state i)))

-- ---- Whole turns

module _ (c : Client) (m tape b : List ℕ) (x : Step) (d : Due c m x) where
  pub idle-number : x ≡ idle → first_no (asked c m tape b x d) ≡ 10
  unfolding first_no
  idle-number e = rw e (unfold sends in refl)

  pub lacks-number : x ≡ no_dummy → first_no (asked c m tape b x d) ≡ 2
  unfolding first_no
  lacks-number e = rw e (unfold sends command step_bounds possible draws is_none in refl)

  -- a read
  pub read-performs : (e : Client) (m' : List ℕ) (q l i : ℕ) → command x ≡ cmd 1 q l i → sends x ≡ true → possible (state_of c m) x ≡ true → step_bounds x ≡ []
      → length m' ≡ length m → Left c e m m' (do_step x (drawn c m tape b x d) (state_of c m)) → Performs c (state_of c m) turn m tape b (accepted_with e 0 1 q l i) m' b
  unfolding first_no draws is_none taken_of
  read-performs e m' q l i k g p n y f = accepts c m tape b x d (accepted_with e 0 1 q l i) m' b
      (rw (g, k, p, n)) refl (rw n) (sym k) refl y f (rw k (handed-read b (do_step x (drawn c m tape b x d) (state_of c m)) q l i))

  -- a write
  module _ (q l i : ℕ) (k : command x ≡ cmd 2 q l i) (g : sends x ≡ true) where
    pub other-buffer : (length b ≡ c.shape.b → ⊥) → first_no (asked c m tape b x d) ≡ 15
    unfolding first_no
    other-buffer n = rw (g, k, ne_eqb (length b) c.shape.b n)

    pub few_words : length b ≡ c.shape.b → draws (step_bounds x) (words_of tape) ≡ none → first_no (asked c m tape b x d) ≡ 3
    unfolding first_no is_none
    few_words e n = rw (g, k, eq-eqb (length b) c.shape.b e, n)

    pub no_room : length b ≡ c.shape.b → Enough (step_bounds x) (words_of tape) → possible (state_of c m) x ≡ false → first_no (asked c m tape b x d) ≡ 2
    unfolding first_no
    no_room e n p = rw (g, k, eq-eqb (length b) c.shape.b e, n, p)

    pub write-performs : (e : Client) (m' b' : List ℕ) (n : ℕ) → possible (state_of c m) x ≡ true → length b ≡ c.shape.b → Enough (step_bounds x) (words_of tape) → n ≡ taken_of (draws (step_bounds x) (words_of tape))
        → length m' ≡ length m → Left c e m m' (do_step x (drawn c m tape b x d) (state_of c m)) → length b ≡ length b' → b' ≡ slot_bytes (state_of e m') (holder (state_of e m') q l i)
        → Performs c (state_of c m) turn m tape b (accepted_with e n 2 q l i) m' b'
    unfolding first_no
    write-performs e m' b' n p h w t y f o z = accepts c m tape b x d (accepted_with e n 2 q l i) m' b'
        (rw (g, k, eq-eqb (length b) c.shape.b h, w, p)) refl t (sym k) refl y f (rw k (handed-write b b' (do_step x (drawn c m tape b x d) (state_of c m)) q l i o (z ∙ ap (λ s. slot_bytes s (holder s q l i)) f.stands.state)))

-- ---- The rebuild

-- the numbers that these words give for the orders of levels
abbrev pub drawn_of : List ℕ → List ℕ → List ℕ
drawn_of ls ws = numbers_of (draws (orders_bounds ls) ws)

pub rebuilt-stands : (c d : Client) (m m₁ m₂ : List ℕ) (q : ℕ) (p : Plan) (ws bs : List ℕ) → PlanOf c m q p → bs ≡ gathered (state_of c m) q → d.shape ≡ c.shape
    → Stands c m m₁ (rebuilt (shape_of c.shape) q p.top (keep (is_filled p.next) (down (suc p.top))) (drawn_of (keep (is_filled p.next) (down (suc p.top))) ws) bs (state_of c m))
    → Stands d m₁ m₂ (set_waiting (leave (take p.taken (keep (waits_for (state_of c m₁) q) (state_of c m₁).waiting)) (state_of c m₁).waiting) (state_of c m₁))
    → Stands (with_sent 1 (with_begun p.joined d)) m m₂ (do_rebuild q (levels_of (state_of c m) q) (fills (levels_of (state_of c m) q) (drawn_of (levels_of (state_of c m) q) ws) (gathered (state_of c m) q)) (state_of c m))
rebuilt-stands c d m m₁ m₂ q p ws bs k g h a b =
    restated (next c (with_sent 1 (with_begun p.joined d)) m m₁ m₂ _ (F (state_of c m₁)) h a (record { state = sent_is ∙ ap (λ z. set_sent 1 (set_begun p.joined z)) b.state; tail = b.tail }))
    (ap F a.state ∙ same)
  where
    s : State
    s = state_of c m

    F : State → State
    F z = set_sent 1 (set_begun p.joined (set_waiting (leave (take p.taken (keep (waits_for z q) z.waiting)) z.waiting) z))

    sent_is : state_of (with_sent 1 (with_begun p.joined d)) m₂ ≡ set_sent 1 (set_begun p.joined (state_of d m₂))
    sent_is = unfold state_of view in refl

    shape_is : shape_of c.shape ≡ s.shape
    shape_is = unfold state_of view in refl

    ls : List ℕ
    ls = keep (is_filled p.next) (down (suc p.top))

    same : F (rebuilt (shape_of c.shape) q p.top ls (drawn_of ls ws) bs s) ≡ do_rebuild q (levels_of s q) (fills (levels_of s q) (drawn_of (levels_of s q) ws) (gathered s q)) s
    same = (λ i. set_sent 1 (set_begun (k.joined i) (set_waiting (leave (k.taken i) s.waiting) (rebuilt (shape_is i) q (k.top i) (sym k.levels i) (drawn_of (sym k.levels i) ws) (g i) s)))) ∙ sym (rebuild-is q (levels_of s q) (drawn_of (levels_of s q) ws) (gathered s q) s)

-- ---- Turns that are refused before a step is decided
module _ (c : Client) (m tape b : List ℕ) where
  pub not-ready : ready (state_of c m) (length m) ≡ false → Performs c (state_of c m) turn m tape b (refused_with 2 c) m b
  unfolding refuse
  not-ready e = record { refused = λ _. meets-no c (state_of c m) turn m tape b 2 (sym (unfold number questions first_no in (rw e))) (λ z. omega arith) refl; accepted = λ z. absurd (omega arith) }

  pub window-full : ready (state_of c m) (length m) ≡ true → c.shape.w ≤ c.out → Performs c (state_of c m) turn m tape b (refused_with 9 c) m b
  unfolding refuse
  window-full e l = record { refused = λ _. meets-no c (state_of c m) turn m tape b 9 (sym (unfold number questions first_no in (rw (e, full)))) (λ z. omega arith) refl; accepted = λ z. absurd (omega arith) }
    where
      full : ltb (length (state_of c m).outstanding) (state_of c m).shape.W ≡ false
      full = le-ltb (length (state_of c m).outstanding) (state_of c m).shape.W (omega (arith, out-count c m, window-is c m))
