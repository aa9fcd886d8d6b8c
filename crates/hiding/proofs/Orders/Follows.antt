-- The rules' state after a call, as the middle machine has it: the state without its slots, what its unread items hold, and their slots.
use Rattle.std.specs.Prelude.{◌≡◌, Bool, true, false, take, drop, eqb, leb, if◌then◌else◌}
use Rattle.std.proofs.Math.Path.{refl, ap, fun_ext, sym}
use Rattle.std.proofs.Common.{◌∙◌, subst, arith, ne_eqb}
use mathlib.Core.List.{List, [], ◌∷◌, map}
use Rattle.std.proofs.Math.Option.{Option, none, some}
use Prim.Native.Nat.{ℕ, zero, suc, ◌+◌, ◌-◌, ◌^◌}
use Rattle.std.proofs.Math.Decide.{ℕ_discrete}
use Rattle.matching.specs.Keyed.{Key}
use Rattle.rules.specs.Laws.Form.Saveable.{over}
use Rattle.rules.specs.Form.Loading.{loaded_form}
use Rattle.rules.specs.Memory.{needed}
use Rattle.lists.specs.Tables.{put}
use Rattle.lists.specs.Members.{keep_same}
use Rattle.lists.specs.Search.{below, index_of}
use Rattle.lists.specs.Distinct.{index-mem}
use Rattle.rules.proofs.Laws.Answers.{accepted-passed}
use Rattle.rules.specs.Request.{accept, release, is_source}
use Rattle.rules.specs.Questions.{bounds, questions, in_hand, first_no}
use Rattle.rules.specs.Completion
use Rattle.rules.specs.Completion.{complete}
use Rattle.rules.specs.Jobs.{joined, top_of, levels_of}
use Rattle.rules.proofs.Laws.Levels.{levels-pos, top_lt}
use Rattle.rules.specs.Shape.{Shape, slots, cell}
use Rattle.rules.specs.Draws.{new_order, Drew}
use Rattle.rules.specs.Collect
use Rattle.rules.specs.Collect.{collected, finished}
use Rattle.rules.specs.State.{State, Command, Request, Place, nowhere, stored}
use Rattle.rules.specs.Turn
use Rattle.rules.specs.Turn.{Step, idle, no_dummy, read_for_request, read_for_job, rebuild, write_next, decide, step_bounds, do_step, command}
use Rattle.rules.specs.Blocks
use Rattle.rules.specs.Run.{act, perform, sent_command}
use Rattle.rules.specs.Rebuild
use Rattle.rules.specs.Rebuild.{gathered, new_place, item_place, new_places, fills}
use Rattle.rules.specs.Laws.Range.{InRange}
use Rattle.rules.proofs.Laws.Range.{range-facts}
use Rattle.matching.proofs.SlotReads.{arranges-mem}
use Rattle.reachable.specs.Live.{stored_in, is_below}
use Rattle.hiding.specs.Machines.Ideal.{slotted, lacking, nothing_sent, seen_if, rebuild_p}
use Rattle.hiding.specs.Machines.Middle
use Rattle.hiding.specs.Machines.Middle.{level_only, forget, chosen_m, gathered_m, fills_m, items_written, Items, next_step_m, perform_m, next_m, items_step, items_m, collected_m}
use Rattle.hiding.proofs.Orders.Trades.{HiddenOn, OpenP, rebuild-step, trade-orders, decide_p-open, trade_step, trade_if}
use Rattle.hiding.proofs.Orders.Number.{slotless, step-hide, bounds-hide, number-reload, save-rests, saved-yes}
use Rattle.hiding.proofs.Orders.Rank.{rank_is, in_order_lem}
use Rattle.hiding.specs.Machines.Rules.{on, number_r, called, bounds_r, next_r, seen_r, Orders, items_in, slots_in, items_of, orders_of, view}
use Rattle.hiding.proofs.Orders.Items.{orders-read, items-read, fits, levels-written, items-cleared, items_left}
use Rattle.hiding.specs.Machines.Public.{Later, later-request, later-turn, later-completion, later-collect, ask, hide, unread_in, decide_p, later-save, later-reload, saved, save_p, number_p, questions_p}
use Rattle.hiding.proofs.Unchanged.{Rest, complete-rest}
use Rattle.hiding.proofs.Machines.Release.{forget-release}
use Rattle.hiding.specs.Machines.Needs.{Reachable}

-- ---- what is forgotten plays no part

below-level : (top : ℕ) (x : Place) → is_below top (level_only x) ≡ is_below top x
unfolding is_below
below-level top nowhere = refl
below-level top (stored ℓ i) = refl

stored_in-forget : (s : State) (q top : ℕ) → stored_in (forget s) q top ≡ stored_in s q top
unfolding stored_in
stored_in-forget s q top = keep_same _ _ (below s.shape.N) (λ b m. rw (below-level top (s.place b)))

chosen-forget : (s : State) (q : ℕ) → chosen_m (forget s) q ≡ chosen_m s q
unfolding chosen_m joined
chosen-forget s q = rw (stored_in-forget s q s.shape.L)

gathered-forget : (s : State) (q : ℕ) → gathered_m (forget s) q ≡ gathered_m s q
unfolding gathered_m top_of joined
gathered-forget s q = keep_same _ _ (below s.shape.N) (λ b m. rw (chosen-forget s q, below-level (suc (top_of s q)) (s.place b)))

place-forget : (t : ℕ) (blocks o : List ℕ) (f : ℕ → Place) → (λ (b : ℕ). level_only (new_place t blocks o f b)) ≡ new_place t blocks [] (λ b. level_only (f b))
unfolding new_place item_place
place-forget t blocks o f = fun_ext (λ b. go (index_of b blocks) (f b))
  where
    go : (k : Option ℕ) (x : Place) → level_only (item_place t o k x) ≡ item_place t [] k (level_only x)
    go none x = refl
    go (some k) x = refl

-- ..level by level
places-forget : (ls js bs : List ℕ) (f : ℕ → Place) → (λ (b : ℕ). level_only (new_places (fills ls js bs) f b)) ≡ new_places (fills_m ls bs) (λ b. level_only (f b))
unfolding new_places fills fills_m
places-forget [] js bs f = refl
places-forget (ℓ ∷ ls) js bs f =
    places-forget ls (drop (2 ^ (ℓ + 1) - 1) js) (drop (2 ^ ℓ) bs) (new_place ℓ (take (2 ^ ℓ) bs) (new_order (2 ^ (ℓ + 1)) js) f)
    ∙ ap (new_places (fills_m ls (drop (2 ^ ℓ) bs))) (place-forget ℓ (take (2 ^ ℓ) bs) (new_order (2 ^ (ℓ + 1)) js) f)

put-forget : (b : ℕ) (f : ℕ → Place) → (λ (a : ℕ). level_only (put b nowhere f a)) ≡ put b nowhere (λ a. level_only (f a))
unfolding put
put-forget b f = fun_ext (λ a. go a (eqb a b) refl)
  where
    go : (a : ℕ) (t : Bool) → eqb a b ≡ t → level_only (put b nowhere f a) ≡ put b nowhere (λ a. level_only (f a)) a
    go a true e = rw (e, put)
    go a false e = rw (e, put)

-- a completion's bytes are those of no block, where no slot holds one
complete-forget : (s : State) (c : Command) (bs : List ℕ) → forget (complete c bs s) ≡ complete c bs (forget s)
unfolding complete Completion.complete_read Completion.complete_write Completion.completed Completion.gather_bytes Completion.finish_job Completion.end_job Completion.job_done Blocks.holder Blocks.named joined levels_of
complete-forget s c bs = go (eqb c.kind 1) (Blocks.holder s c.partition c.level c.slot) s.queue
  where
    s' : State
    s' = Completion.completed c s

    ended : (q : ℕ) (t : Bool) → forget (if t then Completion.end_job q s' else s') ≡ (if t then Completion.end_job q (forget s') else forget s')
    ended q true = refl
    ended q false = refl

    go : (t : Bool) (b : Option ℕ) (qs : List ℕ) → forget (if t then Completion.gather_bytes b bs s' else Completion.finish_job qs s') ≡ (if t then forget s' else Completion.finish_job qs (forget s'))
    go true none qs = refl
    go true (some b) qs = refl
    go false b [] = refl
    go false b (q ∷ qs) = ended q (Completion.job_done s' q)

-- ---- the state after a call, as the middle machine has it

-- the next state, what its items hold, and their slots
pub record Follows (s' m : State) (it : Items) (o : Orders) : Type 0 where
  pub state : forget s' ≡ m
  pub items : items_of s' ≡ it
  pub orders : orders_of s' ≡ o

pub follows-view : (s' m : State) (it : Items) (o : Orders) → Follows s' m it o → view (on s') ≡ (Middle.on m it, o)
follows-view s' m it o f = λ i. (Middle.on (f.state i) (f.items i), f.orders i)

release-follows : (s' m : State) (it : Items) (o : Orders) → Follows s' m it o → Follows (release s') (release m) it o
release-follows s' m it o f = record { state = forget-release s' ∙ ap release f.state; items = f.items; orders = f.orders }

module _ (h : Shape) (reach : Reachable h) (s : State) (k : reach.Holds s) (hid : HiddenOn (forget s) (orders_of s)) (d : List ℕ) where
  abbrev range_of : InRange s
  range_of = range-facts s (reach.range s k)

  -- what a step of a turn has to show
  abbrev pub StepFollows : (x : Step) → OpenP s.shape s.mark (slotless x) → Type 0
  StepFollows x p =
      let y = (trade_step (forget s) (items_of s) (slotless x) p).f (orders_of s, d) in
      (command x ≡ command (slotted (slotless x) y.0))
      × Follows (do_step x d s) (next_step_m (forget s) (slotless x) y.0) (items_step (forget s) (items_of s) (slotless x) y.0) y.1

  -- a request's read
  request-follows : (q ℓ x : ℕ) (p : OpenP s.shape s.mark (read_for_request q ℓ 0)) → decide s ≡ read_for_request q ℓ x → StepFollows (read_for_request q ℓ x) p
  unfolding do_step Turn.mark_read Turn.send is_source top_of joined
  request-follows q ℓ x p e =
      let r = rank_is h reach s k hid q ℓ x e in
      let m = in_order_lem h reach s k hid q ℓ x e in
      let g = (index-mem x (orders_of s (q, ℓ)) m).1 in
      rw (r, g) (
        refl,
        record {
          state = refl;
          items = items-read s range_of q ℓ x (hid (q, ℓ)).1 m;
          orders = orders-read s range_of q ℓ x (hid (q, ℓ)).1 m;
        },
      )

  -- a job's read
  job-follows : (q ℓ x : ℕ) (p : OpenP s.shape s.mark (read_for_job q ℓ x)) → StepFollows (read_for_job q ℓ x) p
  unfolding do_step Turn.mark_read Turn.send joined
  job-follows q ℓ x p =
      let m = arranges-mem x (unread_in s.shape s.mark (q, ℓ)) (orders_of s (q, ℓ)) (hid (q, ℓ)) p in (
        refl,
        record {
          state = refl;
          items = items-read s range_of q ℓ x (hid (q, ℓ)).1 m;
          orders = orders-read s range_of q ℓ x (hid (q, ℓ)).1 m;
        },
      )

  -- a rebuild
  rebuild-follows : (q : ℕ) (ls : List ℕ) (p : OpenP s.shape s.mark (rebuild q ls)) → decide s ≡ rebuild q ls → Drew (step_bounds (rebuild q ls)) d → StepFollows (rebuild q ls) p
  unfolding do_step Rebuild.do_rebuild Turn.send rebuild_p joined top_of
  rebuild-follows q ls p e b =
      let g = reach.gathers s q ls k e in
      let w = levels-written s.shape q p.0 ls p.1 d (gathered s q) ((rebuild-step s q ls d).0 b) s.mark s.order
      (Rebuild.cleared (cell s.shape q 0 0) (slots (suc (top_of s q)) - 2) s.holds) (fits s range_of) in
      rw (gathered-forget s q, chosen-forget s q, ← g.0, ← g.1) (
        refl,
        record {
          state = rw (places-forget ls d (gathered s q) s.place);
          items = w.1 ∙ ap (items_written q ls (gathered s q)) (items-cleared s range_of q (suc (top_of s q)) (top_lt s.shape (s.counter q) (joined s q) (levels-pos s.shape range_of.shape)) (λ ℓ i. reach.spent s q ls ℓ i k e));
          orders = w.0 ∙ sym (trade-orders s.shape q p.0 ls p.1 s.mark (orders_of s) d);
        },
      )

  write-follows : (q t x : ℕ) (p : OpenP s.shape s.mark (write_next q t x)) → Drew (step_bounds (write_next q t x)) d → StepFollows (write_next q t x) p
  unfolding do_step Turn.send
  write-follows q t x p b = (refl, record { state = refl; items = refl; orders = refl })

  idle-follows : (p : OpenP s.shape s.mark idle) → StepFollows idle p
  unfolding do_step
  idle-follows p = (refl, record { state = refl; items = refl; orders = refl })

  no_dummy-follows : (p : OpenP s.shape s.mark no_dummy) → StepFollows no_dummy p
  unfolding do_step
  no_dummy-follows p = (refl, record { state = refl; items = refl; orders = refl })

  pub step_follows : (x : Step) (p : OpenP s.shape s.mark (slotless x)) → decide s ≡ x → Drew (step_bounds x) d → StepFollows x p
  step_follows idle p e b = idle-follows p
  step_follows no_dummy p e b = no_dummy-follows p
  step_follows (read_for_request q ℓ x) p e b = request-follows q ℓ x p e
  step_follows (read_for_job q ℓ x) p e b = job-follows q ℓ x p
  step_follows (rebuild q ls) p e b = rebuild-follows q ls p e b
  step_follows (write_next q t x) p e b = write-follows q t x p b

  -- ---- the other calls

  complete-follows : (c : Command) (bs : List ℕ) → Follows (complete c bs s) (complete c bs (forget s)) (items_of s) (orders_of s)
  complete-follows c bs =
      let e = complete-rest s c bs in
      record {
        state = complete-forget s c bs;
        items = ap (λ (x : Rest). items_in x.shape x.mark x.order x.holds) e;
        orders = ap (λ (x : Rest). slots_in x.shape x.mark x.order) e;
      }

  collect-follows : (o : Option Request) → s.request ≡ o → in_hand (finished s) o ≡ true → Follows (collected o s) (collected_m o (forget s)) (items_of s) (orders_of s)
  unfolding collected collected_m Collect.finish in_hand
  collect-follows none e f = record { state = refl; items = refl; orders = refl }
  collect-follows (some r) e f = record {
    state = rw (put-forget r.block s.place);
    items = items_left s range_of (s.partition r.block) (s.place r.block) (λ ℓ i g. reach.left s r ℓ i k e f g);
    orders = refl;
  }

  -- a load of what was saved
  accepted-load : (m₀ n₀ m w j : ℕ) → number_r s (later-reload m₀ n₀) m w j ≡ 0 → save_p (hide s) m₀ n₀ ≡ 0
  unfolding number_p questions_p first_no
  accepted-load m₀ n₀ m w j e = go (ℕ_discrete (save_p (hide s) m₀ n₀) 0) (sym (number-reload h reach s k m₀ n₀ m w j) ∙ e)
    where
      go : Dec (save_p (hide s) m₀ n₀ ≡ 0) → first_no ((eqb (save_p (hide s) m₀ n₀) 0, 17) ∷ (leb (needed s.shape) m, 2) ∷ []) ≡ 0 → save_p (hide s) m₀ n₀ ≡ 0
      go (yes z) e = z
      go (no z) e = absurd (omega (arith, rw (ne_eqb (save_p (hide s) m₀ n₀) 0 z) at e))

  over-follows : (y : ℕ → List ℕ) (o : ℕ → ℕ) → slots_in s.shape s.mark o ≡ slots_in s.shape s.mark s.order → Follows (over y o s) (forget s) (items_of s) (orders_of s)
  unfolding items_in
  over-follows y o e = record { state = refl; items = ap (λ (f : Key → List ℕ). λ (x : Key). map (λ i. s.holds (cell s.shape x.0 x.1 i)) (f x)) e; orders = e }

  reload-follows : (m₀ n₀ : ℕ) → save_p (hide s) m₀ n₀ ≡ 0 → Follows (loaded_form (saved s m₀ n₀)) (forget s) (items_of s) (orders_of s)
  reload-follows m₀ n₀ e =
      let r = reach.reloads s k (save-rests h reach s k m₀ n₀ e) in
      rw (saved-yes h reach s k m₀ n₀ e, r.2.0) (over-follows r.0 r.1 r.2.1)

  -- what a call has to show
  abbrev pub CallFollows : ℕ → Later → Type 0
  CallFollows n l =
      let y = (trade_if n (forget s) (items_of s) l).f (orders_of s, d) in
      (seen_r n s l ≡ seen_if n (hide s) l y.0)
      × Follows (next_r n s l d) (next_m n (forget s) l y.0) (items_m n (forget s) (items_of s) l y.0) y.1

  abbrev TurnFollows : (z : Step) → OpenP s.shape s.mark z → Type 0
  TurnFollows z p =
      let y = (trade_step (forget s) (items_of s) z p).f (orders_of s, d) in
      (command (decide s) ≡ command (slotted z y.0))
      × Follows (do_step (decide s) d s) (next_step_m (forget s) z y.0) (items_step (forget s) (items_of s) z y.0) y.1

  turn-follows : Drew (step_bounds (decide s)) d → TurnFollows (decide_p (hide s)) (decide_p-open (hide s))
  turn-follows b = subst (λ z. (p : OpenP s.shape s.mark z) → TurnFollows z p) (step-hide h reach s k) (λ p. step_follows (decide s) p refl b) (decide_p-open (hide s))

  -- ..before a request is released
  abbrev pub PerformFollows : Later → Type 0
  PerformFollows l =
      let y = (trade_if 0 (forget s) (items_of s) l).f (orders_of s, d) in
      (seen_r 0 s l ≡ seen_if 0 (hide s) l y.0)
      × Follows (perform s (ask s l) d) (perform_m (forget s) l y.0) (items_m 0 (forget s) (items_of s) l y.0) y.1

  perform-follows : (l : Later) (m w j : ℕ) → number_r s l m w j ≡ 0 → Drew (bounds_r 0 s l) d → PerformFollows l
  unfolding perform bounds sent_command accept questions
  perform-follows (later-request t a bs) m w j e b = (refl, record { state = refl; items = refl; orders = refl })
  perform-follows later-turn m w j e b =
      let r = turn-follows b in
      (λ i. (0, bounds-hide h reach s k later-turn i, r.0 i), r.1)
  perform-follows (later-completion c bs) m w j e b = (refl, complete-follows c bs)
  perform-follows later-collect m w j e b = (refl, collect-follows s.request refl (accepted-passed s (called s later-collect m w j) e).1.1.0)
  perform-follows later-save m w j e b = (refl, record { state = refl; items = refl; orders = refl })
  perform-follows (later-reload m₀ n₀) m w j e b = (refl, reload-follows m₀ n₀ (accepted-load m₀ n₀ m w j e))

  pub call-follows : (n : ℕ) (l : Later) (m w j : ℕ) → number_r s l m w j ≡ n → Drew (bounds_r n s l) d → CallFollows n l
  unfolding act
  call-follows (suc n) l m w j e b = (λ i. (suc n, lacking (suc n) (bounds-hide h reach s k l i), nothing_sent), record { state = refl; items = refl; orders = refl })
  call-follows zero l m w j e b = let r = perform-follows l m w j e b in (r.0, release-follows _ _ _ _ r.1)
