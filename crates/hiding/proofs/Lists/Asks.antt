-- What a call's number depends on, in a state that calls left: whether the words lent settle its draws, or nothing of them.
use Rattle.std.specs.Prelude.{◌≡◌, refl, Bool, true, false, not, ◌&&◌, ◌||◌, List, ℕ, ◌≤◌, length, eqb, leb, ltb, if◌then◌else◌}
use Rattle.std.proofs.Common.{true≢false, arith}
use Rattle.lists.specs.All.{All, nil, cons, all_replicate}
use Rattle.lists.specs.Search.{is_none, any, member}
use Rattle.lists.specs.Tests.{and_l}
use Rattle.rules.specs.Shape.{Shape, within}
use Rattle.rules.specs.State.{State, read, write}
use Rattle.rules.specs.Memory.{needed}
use Rattle.rules.specs.Ranges.{is_kind, bytes_of}
use Rattle.rules.specs.Draws.{limit, draws}
use Rattle.rules.specs.Turn.{decide, command}
use Rattle.rules.specs.Completion.{is_command}
use Rattle.rules.specs.Collect.{finished}
use Rattle.rules.specs.Questions.{Ask, opening, request, turn, completion, collect, Call, bounds, ready, sends, in_hand, questions, first_no, number, save, load, at_rest}
use Rattle.rules.proofs.Laws.Bounds.{Few, partitions-few, turn-few}
use Rattle.rules.proofs.Laws.Draws.{partitions-even}
use Rattle.rules.proofs.Laws.Kept.{given-in}
use Rattle.reachable.proofs.Never.{always-possible}
use Rattle.reachable.proofs.Reached.{Was, was-reached}
use Rattle.hiding.specs.Claim.{is_turn}
use Rattle.rules.specs.Form.Sums.{summed}
use Rattle.rules.specs.Form.Loading.{loads, loaded_form}
use Rattle.rules.specs.Form.Payload.{saved_form}
use Rattle.rules.specs.Form.Longest.{longest}

abbrev pub settled : List ℕ → List ℕ → Bool
settled ms ws = not (is_none (draws ms ws))

abbrev pub asking : Ask → ℕ → List ℕ → ℕ → Call
asking k m ws n = record { ask = k; memory = m; words = ws; buffer = n }

-- no word of 16 bits is passed over below such a bound
abbrev pub Even : ℕ → Type 0
Even m = 65536 ≤ limit m

pub data Asks (s : State) (k : Ask) (m n : ℕ) : Type 0 where
  asks-draws : All Few (bounds s k) → (is_turn k ≡ false → All Even (bounds s k)) →
      ((ws : List ℕ) → number s (asking k m ws n) ≡ (if settled (bounds s k) ws then 0 else 3)) → Asks s k m n
  asks-no : (j : ℕ) → eqb j 0 ≡ false → eqb j 3 ≡ false → ((ws : List ℕ) → number s (asking k m ws n) ≡ j) → Asks s k m n

even_shape : (h : Shape) → within h ≡ true → Even h.P
even_shape h e = omega (arith, partitions-even h e)

pub asks : (s : State) → Was s → (k : Ask) (m n : ℕ) → Asks s k m n
unfolding number questions first_no bounds is_turn
asks s v (opening h) m n = go (within h) refl (leb (needed h) m) refl
  where
    go : (t : Bool) → within h ≡ t → (u : Bool) → leb (needed h) m ≡ u → Asks s (opening h) m n
    go false e u f = asks-no 1 refl refl (λ ws. rw e)
    go true e false f = asks-no 2 refl refl (λ ws. rw (e, f))
    go true e true f = asks-draws (all_replicate Few h.N h.P (partitions-few h e)) (λ q. all_replicate Even h.N h.P (even_shape h e)) (λ ws. rw (e, f))
asks s v (request k b bs) m n =
    go (ready s m && is_kind k) refl (is_none s.request) refl (ltb b s.shape.N) refl (eqb (length bs) (bytes_of s.shape k)) refl
    (leb (length s.queue) 62) refl (ltb (length s.waiting) s.shape.E || member b s.waiting) refl
  where
    go : (t : Bool) → (ready s m && is_kind k) ≡ t → (u : Bool) → is_none s.request ≡ u → (x : Bool) → ltb b s.shape.N ≡ x →
        (y : Bool) → eqb (length bs) (bytes_of s.shape k) ≡ y → (z : Bool) → leb (length s.queue) 62 ≡ z →
        (o : Bool) → (ltb (length s.waiting) s.shape.E || member b s.waiting) ≡ o → Asks s (request k b bs) m n
    go false e u f x g y i z j o l = asks-no 2 refl refl (λ ws. rw e)
    go true e false f x g y i z j o l = asks-no 4 refl refl (λ ws. rw (e, f))
    go true e true f false g y i z j o l = asks-no 5 refl refl (λ ws. rw (e, f, g))
    go true e true f true g false i z j o l = asks-no 6 refl refl (λ ws. rw (e, f, g, i))
    go true e true f true g true i false j o l = asks-no 7 refl refl (λ ws. rw (e, f, g, i, j))
    go true e true f true g true i true j false l = asks-no 8 refl refl (λ ws. rw (e, f, g, i, j, l))
    go true e true f true g true i true j true l =
        let w = (given-in s m (and_l (ready s m) (is_kind k) e)).shape in
        let p = partitions-few s.shape w in
        let q = even_shape s.shape w in
        asks-draws (cons p (cons p nil)) (λ t. cons q (cons q nil)) (λ ws. rw (e, f, g, i, j, l))
asks s v turn m n =
    go (ready s m) refl (ltb (length s.outstanding) s.shape.W) refl (sends (decide s)) refl
    (not (eqb (command (decide s)).kind write) || eqb n s.shape.B) refl
  where
    go : (t : Bool) → ready s m ≡ t → (u : Bool) → ltb (length s.outstanding) s.shape.W ≡ u → (x : Bool) → sends (decide s) ≡ x →
        (y : Bool) → (not (eqb (command (decide s)).kind write) || eqb n s.shape.B) ≡ y → Asks s turn m n
    go false e u f x g y i = asks-no 2 refl refl (λ ws. rw e)
    go true e false f x g y i = asks-no 9 refl refl (λ ws. rw (e, f))
    go true e true f false g y i = asks-no 10 refl refl (λ ws. rw (e, f, g))
    go true e true f true g false i = asks-no 15 refl refl (λ ws. rw (e, f, g, i))
    go true e true f true g true i =
        asks-draws (turn-few s (given-in s m e)) (λ q. absurd (true≢false q)) (λ ws. rw (e, f, g, i, always-possible s (was-reached s m v e)))
asks s v (completion c bs) m n =
    go (ready s m && is_kind c.kind) refl (any (is_command c) s.outstanding) refl (eqb (length bs) (if eqb c.kind read then s.shape.B else 0)) refl
  where
    go : (t : Bool) → (ready s m && is_kind c.kind) ≡ t → (u : Bool) → any (is_command c) s.outstanding ≡ u →
        (x : Bool) → eqb (length bs) (if eqb c.kind read then s.shape.B else 0) ≡ x → Asks s (completion c bs) m n
    go false e u f x g = asks-no 2 refl refl (λ ws. rw e)
    go true e false f x g = asks-no 11 refl refl (λ ws. rw (e, f))
    go true e true f false g = asks-no 12 refl refl (λ ws. rw (e, f, g))
    go true e true f true g = asks-draws nil (λ q. nil) (λ ws. rw (e, f, g) (unfold draws is_none in refl))
asks s v save m n =
    go (ready s m && leb (longest s.shape) n) refl (at_rest s) refl (leb (length (saved_form s)) n) refl
  where
    go : (t : Bool) → (ready s m && leb (longest s.shape) n) ≡ t → (u : Bool) → at_rest s ≡ u → (x : Bool) → leb (length (saved_form s)) n ≡ x → Asks s save m n
    go false e u f x g = asks-no 2 refl refl (λ ws. rw e)
    go true e false f x g = asks-no 16 refl refl (λ ws. rw (e, f))
    go true e true f false g = asks-no 2 refl refl (λ ws. rw (e, f, g))
    go true e true f true g = asks-draws nil (λ q. nil) (λ ws. rw (e, f, g) (unfold draws is_none in refl))
asks s v (load form) m n =
    go (summed form) refl (loads form) refl (leb (needed (loaded_form form).shape) m) refl
  where
    go : (t : Bool) → summed form ≡ t → (u : Bool) → loads form ≡ u → (x : Bool) → leb (needed (loaded_form form).shape) m ≡ x → Asks s (load form) m n
    go false e u f x g = asks-no 17 refl refl (λ ws. rw e)
    go true e false f x g = asks-no 18 refl refl (λ ws. rw (e, f))
    go true e true f false g = asks-no 2 refl refl (λ ws. rw (e, f, g))
    go true e true f true g = asks-draws nil (λ q. nil) (λ ws. rw (e, f, g) (unfold draws is_none in refl))
asks s v collect m n =
    go (ready s m) refl (in_hand (λ r. true) s.request) refl (in_hand (finished s) s.request) refl (eqb n s.shape.B) refl
  where
    go : (t : Bool) → ready s m ≡ t → (u : Bool) → in_hand (λ r. true) s.request ≡ u → (x : Bool) → in_hand (finished s) s.request ≡ x →
        (y : Bool) → eqb n s.shape.B ≡ y → Asks s collect m n
    go false e u f x g y i = asks-no 2 refl refl (λ ws. rw e)
    go true e false f x g y i = asks-no 13 refl refl (λ ws. rw (e, f))
    go true e true f false g y i = asks-no 14 refl refl (λ ws. rw (e, f, g))
    go true e true f true g false i = asks-no 15 refl refl (λ ws. rw (e, f, g, i))
    go true e true f true g true i = asks-draws nil (λ q. nil) (λ ws. rw (e, f, g, i) (unfold draws is_none in refl))
