-- In a state that calls left, the number of a call, the bounds of its draws and its step are those of the public parts.
use Rattle.std.specs.Prelude.{◌≡◌, Bool, false, ◌&&◌, ◌||◌, length, replicate, eqb, ltb, if◌then◌else◌}
use Rattle.std.proofs.Math.Path.{refl, ap, sym}
use Rattle.std.proofs.Common.{◌∙◌, true≢false, arith}
use Rattle.std.proofs.Math.Bool.{true}
use mathlib.Core.List.{List, [], ◌∷◌}
use Rattle.std.proofs.Math.Option.{Option, none, some, get_or}
use Prim.Native.Nat.{ℕ}
use Rattle.std.proofs.lemmas.List.{length-replicate}
use Rattle.std.proofs.Math.Dec.{leb}
use borrow.Author.Tests.{leb-true, ltb-true, lt-ltb, le-leb, eq-eqb, ne_eqb}
use Rattle.std.proofs.Math.Decide.{ℕ_discrete}
use Rattle.lists.specs.All.{all_map, yes-all}
use Rattle.rules.specs.Form.Loading.{loads, loaded_form}
use Rattle.rules.specs.Form.Sums.{summed}
use Rattle.rules.specs.Form.Longest.{longest}
use Rattle.rules.specs.Form.Payload.{saved_form}
use Rattle.lists.specs.Members.{mem-member}
use Rattle.lists.specs.All.{nil, cons}
use Rattle.lists.specs.Search.{is_none, any, member}
use Rattle.lists.specs.Tests.{between, and_l, and_r, every-yes}
use Rattle.lists.specs.Distinct.{Mem}
use Rattle.rules.specs.Memory.{needed}
use Rattle.rules.proofs.Laws.Kept.{kind-read}
use Rattle.rules.specs.Blocks
use Rattle.rules.specs.Jobs.{joined, top_of, levels_of, write_at}
use Rattle.rules.proofs.Laws.Range.{range-facts}
use Rattle.rules.specs.Request.{held, is_source, released_for}
use Rattle.rules.specs.Reader.{condition, slot_read, costs, levels_left}
use Rattle.rules.specs.Shape.{Shape, within}
use Rattle.rules.specs.Rebuild
use Rattle.rules.specs.State.{State, Request, read}
use Rattle.rules.specs.Collect.{finished}
use Rattle.rules.specs.Turn
use Rattle.rules.specs.Turn.{Step, idle, no_dummy, read_for_request, read_for_job, rebuild, write_next, first_read, read_step, request_step, job_step, decide, command, step_bounds}
use Rattle.rules.specs.Questions.{possible, in_hand, sends, bounds, ready, questions, first_no, number, at_rest, save, load}
use Rattle.rules.specs.Ranges.{is_kind, bytes_of, in_range}
use Rattle.rules.proofs.Laws.Bounds.{Few, enough-zeros, partitions-few, turn-few}
use Rattle.hiding.specs.Machines.Rules.{number_r}
use Rattle.hiding.proofs.Orders.Decides.{OpenStep, decide-open}
use Rattle.hiding.specs.Machines.Needs.{Reachable}
use Rattle.hiding.proofs.Machines.Release.{held-public}
use Rattle.hiding.specs.Machines.Public.{Later, later-request, later-turn, later-completion, later-collect, ask, formed, public_ask, public_later, public_request, blank, hide, request_step_p, planned_p, checked, is_nil, decide_p, bounds_p, questions_p, number_p, later-save, later-reload, saving, saved, save_p}

-- ---- the step

-- a step without the slot of a request's read
abbrev pub slotless : Step → Step
slotless idle = idle
slotless no_dummy = no_dummy
slotless (read_for_request q ℓ x) = read_for_request q ℓ 0
slotless (read_for_job q ℓ x) = read_for_job q ℓ x
slotless (rebuild q ls) = rebuild q ls
slotless (write_next q t x) = write_next q t x

looks-hide : (s : State) (q : ℕ) (o : Option Request) → s.request ≡ o → released_for (hide s).partition (blank o) q ≡ released_for s.partition o q
unfolding released_for
looks-hide s q none e = refl
looks-hide s q (some r) e = rw (held-public r) (rw e)

job_step-hide : (s : State) (qs : List ℕ) → job_step (hide s) qs ≡ job_step s qs
unfolding job_step Rebuild.unread Rebuild.next_unread Turn.rebuild_step Turn.write_step Blocks.is_unread top_of levels_of joined
job_step-hide s [] = refl
job_step-hide s (q ∷ qs) = rw (looks-hide s q s.request refl)

-- a job's step has no slot to lose
job-slotless : (s : State) (qs : List ℕ) → slotless (job_step s qs) ≡ job_step s qs
unfolding job_step Turn.gather_step Turn.rebuild_step Turn.write_step Turn.next_write
job-slotless s [] = refl
job-slotless s (q ∷ qs) = go (eqb s.sent 0) (Rebuild.unread s q) (any (λ c. eqb c.partition q) s.outstanding || released_for s.partition s.request q) (write_at (levels_of s q) s.sent)
  where
    go : (t : Bool) (o : Option (ℕ × ℕ)) (a : Bool) (w : Option (ℕ × ℕ)) →
        let x = if t then Turn.gather_step q o (if a then idle else rebuild q (levels_of s q)) else Turn.next_write q w in
        slotless x ≡ x
    go true none true w = refl
    go true none false w = refl
    go true (some p) a w = refl
    go false o a none = refl
    go false o a (some p) = refl

costs-hide : (s : State) (r : Request) → s.request ≡ some r → costs (hide s) ((hide s).partition 0) ≡ costs s (s.partition r.block)
unfolding costs condition is_source top_of joined Blocks.is_unread
costs-hide s r e = rw e

left-hide : (s : State) (r : Request) → s.request ≡ some r → levels_left (hide s) (public_request r.evict r.level r.found r.awaits) ≡ levels_left s r
unfolding levels_left
left-hide s r e = rw (costs-hide s r e)

pub finished-hide : (s : State) (r : Request) → s.request ≡ some r → finished (hide s) (public_request r.evict r.level r.found r.awaits) ≡ finished s r
unfolding finished
finished-hide s r e = rw (held-public r, left-hide s r e) (rw e)

module _ (s : State) where
  -- the step of a state that lacks no dummy
  decide-some : (o : Option Request) → s.request ≡ o → possible s (get_or (request_step s o) (job_step s s.queue)) ≡ true →
      slotless (get_or (request_step s o) (job_step s s.queue)) ≡ get_or (request_step_p (hide s) (blank o)) (job_step (hide s) s.queue)
  unfolding request_step request_step_p first_read read_step possible
  decide-some none e p = job-slotless s s.queue ∙ sym (job_step-hide s s.queue)
  decide-some (some r) e p =
      rw (held-public r, left-hide s r e) (go (held r) (levels_left s r) p)
    where
      q : ℕ
      q = s.partition r.block

      at_level_lem : (ℓ : ℕ) (o : Option ℕ) → possible s (read_step q ℓ o) ≡ true → slotless (read_step q ℓ o) ≡ read_for_request ((hide s).partition 0) ℓ 0
      at_level_lem ℓ none p = absurd (true≢false (sym p))
      at_level_lem ℓ (some i) p = rw e

      go : (t : Bool) (ls : List ℕ) → possible s (get_or (if t then none else first_read q (slot_read s q (s.place r.block)) ls) (job_step s s.queue)) ≡ true →
          slotless (get_or (if t then none else first_read q (slot_read s q (s.place r.block)) ls) (job_step s s.queue))
          ≡ get_or (if t then none else first_read ((hide s).partition 0) (λ ℓ. some 0) ls) (job_step (hide s) s.queue)
      go true ls p = job-slotless s s.queue ∙ sym (job_step-hide s s.queue)
      go false [] p = job-slotless s s.queue ∙ sym (job_step-hide s s.queue)
      go false (ℓ ∷ ls) p = at_level_lem ℓ (slot_read s q (s.place r.block) ℓ) p

  decide-hide : possible s (decide s) ≡ true → slotless (decide s) ≡ planned_p (hide s)
  unfolding decide planned_p
  decide-hide p = decide-some s.request refl p

-- the slot plays no part in the bounds, in whether a command is sent, and in its kind
abbrev tells : Step → List ℕ × Bool × ℕ
tells x = (step_bounds x, sends x, (command x).kind)

slotless-tells : (x : Step) → tells (slotless x) ≡ tells x
unfolding step_bounds sends command
slotless-tells idle = refl
slotless-tells no_dummy = refl
slotless-tells (read_for_request q ℓ x) = refl
slotless-tells (read_for_job q ℓ x) = refl
slotless-tells (rebuild q ls) = refl
slotless-tells (write_next q t x) = refl

slotless-bounds : (x : Step) → step_bounds (slotless x) ≡ step_bounds x
slotless-bounds x = ap (λ (y : List ℕ × Bool × ℕ). y.0) (slotless-tells x)

slotless-sends : (x : Step) → sends (slotless x) ≡ sends x
slotless-sends x = ap (λ (y : List ℕ × Bool × ℕ). y.1) (slotless-tells x)

slotless-kind : (x : Step) → (command (slotless x)).kind ≡ (command x).kind
slotless-kind x = ap (λ (y : List ℕ × Bool × ℕ). y.2) (slotless-tells x)

-- a step that reads unread slots passes the check
is_nil-mem : (x : ℕ) (xs : List ℕ) → Mem x xs → is_nil xs ≡ false
unfolding is_nil
is_nil-mem x [] m = absurd m
is_nil-mem x (y ∷ ys) m = refl

checked-open : (s : State) (x : Step) → OpenStep s.shape s.mark x → checked (hide s) (slotless x) ≡ slotless x
unfolding checked
checked-open s idle o = refl
checked-open s no_dummy o = refl
checked-open s (read_for_request q ℓ x) o = rw (is_nil-mem x _ o)
checked-open s (read_for_job q ℓ x) o = rw (mem-member x _ o)
checked-open s (rebuild q ls) o = rw (lt-ltb q s.shape.P o.0, yes-all (all_map (λ ℓ k. lt-ltb ℓ s.shape.L k) o.1))
checked-open s (write_next q t x) o = refl

-- ---- the number

ready-in : (s : State) (m : ℕ) → in_range s ≡ true → ready s m ≡ leb (needed s.shape) m
unfolding ready
ready-in s m e = rw e (go (leb (needed s.shape) m))
  where
    go : (t : Bool) → (t && true) ≡ t
    go true = refl
    go false = refl

blocks-pos : (h : Shape) → within h ≡ true → ltb 0 h.N ≡ true
unfolding within between
blocks-pos h e = lt-ltb 0 h.N (leb-true 1 h.N (and_l (leb 1 h.N) (leb h.N 4096) (every-yes _ e).0))

-- question 8 is never answered no where 5 is answered yes
seven : (a o b c d e f : Bool) → (b ≡ true → e ≡ true) →
    first_no ((a, 2) ∷ (o, 4) ∷ (b, 5) ∷ (c, 6) ∷ (d, 7) ∷ (e, 8) ∷ (f, 3) ∷ []) ≡ first_no ((a, 2) ∷ (o, 4) ∷ (b, 5) ∷ (c, 6) ∷ (d, 7) ∷ (f, 3) ∷ [])
unfolding first_no
seven a o true c d e f k = rw (k refl)
seven a o false c d e f k = refl

none-blank : (o : Option Request) → is_none (blank o) ≡ is_none o
unfolding is_none
none-blank none = refl
none-blank (some r) = refl

pub formed-facts : (h : Shape) (k b n : ℕ) → formed h k b n ≡ true → (is_kind k ≡ true) × (ltb b h.N ≡ true) × (eqb n (bytes_of h k) ≡ true)
unfolding formed
formed-facts h k b n e =
    let r = and_r (is_kind k) (ltb b h.N && eqb n (bytes_of h k)) e in
    (and_l (is_kind k) (ltb b h.N && eqb n (bytes_of h k)) e, and_l (ltb b h.N) (eqb n (bytes_of h k)) r, and_r (ltb b h.N) (eqb n (bytes_of h k)) r)

-- where the buffer is long enough, the form fits
pub no-last-two : (a b c : Bool) → (a ≡ true → c ≡ true) → first_no ((a, 2) ∷ (b, 16) ∷ (c, 2) ∷ []) ≡ first_no ((a, 2) ∷ (b, 16) ∷ [])
unfolding first_no
no-last-two true b c f = rw (f refl)
no-last-two false b c f = refl

sixteen : (a b : Bool) → first_no ((a, 2) ∷ (b, 16) ∷ []) ≡ 0 → b ≡ true
unfolding first_no
sixteen true true e = refl
sixteen true false e = absurd (omega arith)
sixteen false b e = absurd (omega arith)

nothing-summed : summed [] ≡ false
unfolding summed
nothing-summed = refl

bytes_read : (h : Shape) → eqb 0 (bytes_of h read) ≡ true
unfolding bytes_of
bytes_read h = refl

module _ (h : Shape) (reach : Reachable h) (s : State) (k : reach.Holds s) where
  same_shape : s.shape ≡ h
  same_shape = reach.shape s k

  in-shape : within h ≡ true
  in-shape = rw (reach.shape s k) at (range-facts s (reach.range s k)).shape

  pub step-hide : slotless (decide s) ≡ decide_p (hide s)
  unfolding decide_p
  step-hide = rw (← decide-hide s (reach.able s k)) (sym (fits (decide s) (decide-open h reach s k)))
    where
      fits : (x : Step) → OpenStep s.shape s.mark x → checked (hide s) (slotless x) ≡ slotless x
      fits x o = checked-open s x o

  pub bounds-hide : (l : Later) → bounds s (ask s l) ≡ bounds_p (hide s) l
  unfolding bounds
  bounds-hide (later-request j b bs) = refl
  bounds-hide later-turn = sym (slotless-bounds (decide s)) ∙ ap step_bounds step-hide
  bounds-hide (later-completion c bs) = refl
  bounds-hide later-collect = refl
  bounds-hide later-save = refl
  bounds-hide (later-reload m n) = refl

  number-request : (j b : ℕ) (bs : List ℕ) (m w n : ℕ) → number_r s (later-request j b bs) m w n ≡ number_p (hide s) (public_later h (later-request j b bs)) m w n
  unfolding number questions bounds number_p questions_p
  number-request j b bs m w n = rw (ready-in s m (reach.range s k), enough-zeros (s.shape.P ∷ s.shape.P ∷ []) (cons few (cons few nil)) w)
      (seven _ _ _ _ _ _ _ room ∙ go (formed h j b (length bs)) refl)
    where
      few : Few s.shape.P
      few = partitions-few s.shape (range-facts s (reach.range s k)).shape

      room : ltb b s.shape.N ≡ true → (ltb (length s.waiting) s.shape.E || member b s.waiting) ≡ true
      room e = rw same_shape (reach.room s b k (ltb-true b h.N (rw same_shape at e)))

      go : (t : Bool) → formed h j b (length bs) ≡ t →
          first_no ((leb (needed s.shape) m && is_kind j, 2) ∷ (is_none s.request, 4) ∷ (ltb b s.shape.N, 5)
          ∷ (eqb (length bs) (bytes_of s.shape j), 6) ∷ (leb (length s.queue) 62, 7) ∷ (leb 2 w, 3) ∷ [])
          ≡ number_p (hide s) (public_ask t j b (length bs)) m w n
      go true e = let f = formed-facts h j b (length bs) e in
          rw (none-blank s.request, same_shape, f.0, f.1, f.2, kind-read, bytes_read h, blocks-pos h in-shape)
      go false e = simp (none-blank, length-replicate)

  number-turn : (m w n : ℕ) → number_r s later-turn m w n ≡ number_p (hide s) later-turn m w n
  unfolding first_no number questions bounds number_p questions_p
  number-turn m w n =
      rw (ready-in s m (reach.range s k), enough-zeros (step_bounds (decide s)) (turn-few s (range-facts s (reach.range s k))) w, reach.able s k, ← step-hide, slotless-sends (decide s), slotless-kind (decide s), slotless-bounds (decide s))

  in_hand-hide : (o : Option Request) → s.request ≡ o → in_hand (finished (hide s)) (blank o) ≡ in_hand (finished s) o
  unfolding in_hand
  in_hand-hide none e = refl
  in_hand-hide (some r) e = finished-hide s r e

  in_hand-true : (o : Option Request) → in_hand (λ r. true) (blank o) ≡ in_hand (λ r. true) o
  unfolding in_hand
  in_hand-true none = refl
  in_hand-true (some r) = refl

  -- a save
  rest-hide : at_rest (hide s) ≡ at_rest s
  unfolding at_rest
  rest-hide = rw (none-blank s.request)

  pub number-save : (m : ℕ) (ws : List ℕ) (n : ℕ) → number s (record { ask = save; memory = m; words = ws; buffer = n }) ≡ save_p (hide s) m n
  unfolding number questions save_p
  number-save m ws n = rw (ready-in s m (reach.range s k), rest-hide) (no-last-two _ _ _ room)
    where
      room : (leb (needed s.shape) m && leb (longest s.shape) n) ≡ true → leb (length (saved_form s)) n ≡ true
      room e = le-leb (length (saved_form s)) n (omega (arith, reach.fits s k, leb-true (longest s.shape) n (and_r (leb (needed s.shape) m) (leb (longest s.shape) n) e)))

  -- a save that is accepted is of a state at rest
  pub save-rests : (m n : ℕ) → save_p (hide s) m n ≡ 0 → at_rest s ≡ true
  unfolding save_p
  save-rests m n e = sym rest-hide ∙ sixteen _ _ e

  -- ..and what it writes
  pub saved-yes : (m n : ℕ) → save_p (hide s) m n ≡ 0 → saved s m n ≡ saved_form s
  unfolding saved
  saved-yes m n e = rw (eq-eqb (number s (saving m n)) 0 (number-save m [] n ∙ e))

  pub saved-no : (m n : ℕ) → ¬ (save_p (hide s) m n ≡ 0) → saved s m n ≡ []
  unfolding saved
  saved-no m n e = rw (ne_eqb (number s (saving m n)) 0 (λ z. e (sym (number-save m [] n) ∙ z)))

  -- the load of it
  reload-shape : at_rest s ≡ true → (loaded_form (saved_form s)).shape ≡ s.shape
  reload-shape e = let r = reach.reloads s k e in ap (λ (x : State). x.shape) r.2.0

  number-load : (form : List ℕ) (m w n : ℕ) → number s (record { ask = load form; memory = m; words = replicate w 0; buffer = n }) ≡ first_no ((summed form, 17) ∷ (loads form, 18) ∷ (leb (needed (loaded_form form).shape) m, 2) ∷ [])
  unfolding number questions
  number-load form m w n = refl

  pub number-reload : (m₀ n₀ m w n : ℕ) → number_r s (later-reload m₀ n₀) m w n ≡ number_p (hide s) (later-reload m₀ n₀) m w n
  unfolding number_p questions_p first_no
  number-reload m₀ n₀ m w n = number-load (saved s m₀ n₀) m w n ∙ go (ℕ_discrete (save_p (hide s) m₀ n₀) 0)
    where
      go : Dec (save_p (hide s) m₀ n₀ ≡ 0) → first_no ((summed (saved s m₀ n₀), 17) ∷ (loads (saved s m₀ n₀), 18) ∷ (leb (needed (loaded_form (saved s m₀ n₀)).shape) m, 2) ∷ [])
          ≡ first_no ((eqb (save_p (hide s) m₀ n₀) 0, 17) ∷ (leb (needed s.shape) m, 2) ∷ [])
      go (yes e) =
          let r = save-rests m₀ n₀ e in
          let l = reach.loadable s k r in
          rw (saved-yes m₀ n₀ e, eq-eqb (save_p (hide s) m₀ n₀) 0 e, l.0, l.1, reload-shape r)
      go (no e) = rw (saved-no m₀ n₀ e, ne_eqb (save_p (hide s) m₀ n₀) 0 e, nothing-summed)

  -- The number is that of the public parts
  pub number-hide : (l : Later) (m w n : ℕ) → number_r s l m w n ≡ number_p (hide s) (public_later h l) m w n
  unfolding number questions number_p questions_p
  number-hide (later-request j b bs) m w n = number-request j b bs m w n
  number-hide later-turn m w n = number-turn m w n
  number-hide (later-completion c bs) m w n = rw (ready-in s m (reach.range s k)) (simp length-replicate)
  number-hide later-collect m w n = rw (ready-in s m (reach.range s k), in_hand-hide s.request refl, in_hand-true s.request)
  number-hide later-save m w n = number-save m (replicate w 0) n ∙ (unfold save_p in refl)
  number-hide (later-reload m₀ n₀) m w n = number-reload m₀ n₀ m w n
