-- Every state that calls left has what the stages need: the crate `reachable` gives it.
use Rattle.std.specs.Prelude.{◌≡◌, ◌||◌, Bool, ◌&&◌, ℕ, suc, ◌<◌, length, replicate, List, [], ◌∷◌, map, if◌then◌else◌}
use Rattle.std.proofs.Math.Path.{refl, fun_ext}
use Rattle.std.proofs.Common.{ap, sym, ◌∙◌, subst, true≢false, arith, ne_eqb, ltb-true, eqb-true}
use Rattle.std.proofs.Math.Bool.{true, false}
use Rattle.std.proofs.Math.Option.{some}
use Rattle.std.proofs.lemmas.List.{length-replicate}
use Rattle.std.proofs.Math.Dec.{ltb, eqb}
use Rattle.lists.specs.Search.{member, keep, below, keep-no}
use Rattle.matching.specs.Keyed.{Key}
use Rattle.rules.specs.Form.Loading.{loads, loaded_form}
use Rattle.rules.specs.Form.Payload.{saved_form}
use Rattle.rules.specs.Run.{act, perform}
use Rattle.rules.specs.Questions.{bounds, number, questions, save, load}
use Rattle.rules.specs.Draws.{Drew}
use Rattle.rules.specs.Levels.{filled}
use Rattle.rules.specs.Laws.Form.Saveable.{Saveable}
use Rattle.rules.proofs.Laws.Form.Back.{contents_of, orders_in, over-in, agrees, saved-summed, saved-loads, saved-back}
use Rattle.rules.proofs.Laws.Form.Fits.{form-fits}
use Rattle.rules.proofs.Laws.Shapes.{act-shape}
use Rattle.rules.proofs.Laws.Layout.{cell-inj}
use Rattle.rules.proofs.Laws.Orders.{drew-length}
use Rattle.lists.specs.Places.{map_same}
use Rattle.lists.specs.Members.{mem_below}
use Rattle.lists.specs.All.{All, nil, cons, map_below}
use Rattle.rules.proofs.Laws.Range.{facts-range}
use Rattle.rules.specs.Collect.{finished}
use Rattle.rules.proofs.Laws.Kept.{fresh_in_lem}
use Rattle.rules.specs.Laws.Reader.{slot_in}
use Rattle.rules.specs.Jobs.{joined, top_of}
use Rattle.rules.proofs.Laws.Levels.{levels-pos, top_lt}
use Rattle.rules.proofs.Laws.Decided.{decide-in}
use Rattle.rules.specs.Turn.{read_for_request, rebuild, decide}
use Rattle.rules.specs.State.{State, Request, stored}
use Rattle.rules.specs.Laws.Answers.{opens}
use Rattle.rules.proofs.Laws.Answers.{accepted-passed, Passed}
use Rattle.rules.specs.Rebuild
use Rattle.rules.specs.Rebuild.{gathered}
use Rattle.rules.specs.Shape.{Shape, slots, cell}
use Rattle.reachable.proofs.Decided.{RequestReads, Rebuilds, decided}
use Rattle.reachable.specs.Invariant.{Reached}
use Rattle.reachable.proofs.Consequences
use Rattle.reachable.proofs.Consequences.{finished-read, request-unread, slot-own, sources-read}
use Rattle.reachable.proofs.Kept.Open.{fresh_kept}
use Rattle.reachable.proofs.Reached.{act-kept, brings-other, save-passed, nothing-loads}
use Rattle.rules.proofs.Laws.Released.{release-none}
use Rattle.rules.proofs.Laws.Asked.{loaded-idle}
use Rattle.reachable.proofs.Never.{always-possible, room-or-waits}
use Rattle.reachable.proofs.Live.{counted-calm}
use Rattle.reachable.proofs.Slots.{front-in, gathered-stored, chosen-stored}
use Rattle.hiding.proofs.Unchanged.{fresh-shape}
use Rattle.hiding.specs.Machines.Public.{ask, Later, later-request, later-turn, later-completion, later-collect, later-save, later-reload, saving, saved, open_in}
use Rattle.hiding.specs.Machines.Middle.{gathered_m, chosen_m}
use Rattle.hiding.specs.Machines.Rules.{called, number_r, slots_in, item_slots}
use Rattle.hiding.specs.Machines.Needs.{Reachable}
use Rattle.reachable.proofs.Saved.{Rests, rest-facts, saveable, loaded-kept}

module _ (s : State) (f : Reached s) where
  -- the read that a turn decides on is for the request in hand
  reads : (q ℓ x : ℕ) → decide s ≡ read_for_request q ℓ x → RequestReads s q ℓ x
  reads q ℓ x d = rw d at (decided s)

  unread : (q ℓ x : ℕ) → decide s ≡ read_for_request q ℓ x → s.mark (cell s.shape q ℓ x) ≡ 1
  unread q ℓ x d = request-unread s f q ℓ x (reads q ℓ x d)

  own : (r : Request) (q ℓ x : ℕ) → decide s ≡ read_for_request q ℓ x → s.request ≡ some r → slot_in ℓ (s.place r.block) ≡ some x →
      (s.place r.block ≡ stored ℓ x) × (s.holds (cell s.shape q ℓ x) ≡ suc r.block)
  own r q ℓ x d e o =
      let p = slot-own ℓ x (s.place r.block) o in
      let w = reads q ℓ x d in
      let v : w.asked ≡ r = cc (w.in_hand, e) in
      let c : q ≡ s.partition r.block = sym w.part ∙ ap (λ (y : Request). s.partition y.block) v in
      (p, ap (λ z. s.holds (cell s.shape z ℓ x)) c ∙ (f.agree.placed r.block ℓ x (rw e at f.range.request).block p).1)

  owned : (r : Request) (q ℓ x i : ℕ) → decide s ≡ read_for_request q ℓ x → s.request ≡ some r → i < slots ℓ →
      s.mark (cell s.shape q ℓ i) ≡ 1 → s.holds (cell s.shape q ℓ i) ≡ suc r.block → s.place r.block ≡ stored ℓ i
  owned r q ℓ x i d e l m k =
      let b : (q < s.shape.P) × (ℓ < s.shape.L) × (x < slots ℓ) = rw d at (decide-in s f.range) in
      (f.agree.held q ℓ i r.block b.0 b.1 l k).1

  -- a rebuild gathers by slots what there is by places
  gathers : (q : ℕ) (ls : List ℕ) → decide s ≡ rebuild q ls → (gathered s q ≡ gathered_m s q) × (Rebuild.chosen s q ≡ chosen_m s q)
  unfolding gathered_m chosen_m
  gathers q ls d =
      let reb : Rebuilds s q ls = rw d at (decided s) in
      let hq = front-in s f q reb.rest reb.front in
      let c = chosen-stored s f q hq in
      (rw (← c) (gathered-stored s f q hq reb.calm), c)

  -- the levels up to t have no unread slot: its sources are read throughout, and the others are not live
  spent : (q : ℕ) (ls : List ℕ) (ℓ i : ℕ) → decide s ≡ rebuild q ls → ℓ < suc (top_of s q) → i < slots ℓ → ¬ (s.mark (cell s.shape q ℓ i) ≡ 1)
  unfolding top_of
  spent q ls ℓ i d l k m = go (filled (s.counter q) ℓ) refl
    where
      reb : Rebuilds s q ls
      reb = rw d at (decided s)

      low : ℓ < s.shape.L
      low = omega (arith, l, top_lt s.shape (s.counter q) (joined s q) (levels-pos s.shape f.range.shape))

      go : (t : Bool) → filled (s.counter q) ℓ ≡ t → ⊥
      go true e = omega (arith, sym m ∙ sources-read s f q ls reb ℓ i (omega arith) e k)
      go false e = omega (arith, sym m ∙ Consequences.spent s f q ℓ i low (ap (λ c. filled c ℓ) (counted-calm s q reb.calm) ∙ e) k)

  left : (r : Request) (ℓ i : ℕ) → s.request ≡ some r → finished s r ≡ true → s.place r.block ≡ stored ℓ i →
      ¬ (s.mark (cell s.shape (s.partition r.block) ℓ i) ≡ 1)
  left r ℓ i e fin p m = omega (arith, sym m ∙ finished-read s f r ℓ i e fin p)

room_for : (h : Shape) (s : State) (b : ℕ) → Reached s → s.shape ≡ h → h.E ≡ h.N → b < h.N → (ltb (length s.waiting) h.E || member b s.waiting) ≡ true
room_for h s b f e q l =
    subst (λ (h' : Shape). (ltb (length s.waiting) h'.E || member b s.waiting) ≡ true) e
    (room-or-waits s f (subst (λ (h' : Shape). h'.E ≡ h'.N) (sym e) q) b (subst (λ (h' : Shape). b < h'.N) (sym e) l))

-- ---- a load of what was saved just before

module _ (s : State) (f : Reached s) (r : Rests s) where
  abbrev v : Saveable s
  v = saveable s f r

  -- no slot of a level that is not filled is unread
  unfilled : (q ℓ i : ℕ) → q < s.shape.P → ℓ < s.shape.L → i < slots ℓ → filled (s.counter q) ℓ ≡ false → eqb (s.mark (cell s.shape q ℓ i)) 1 ≡ false
  unfilled q ℓ i hq hℓ hi e = ne_eqb (s.mark (cell s.shape q ℓ i)) 1 (λ z.
      let d = v.marked (cell s.shape q ℓ i) (λ w. omega (arith, sym z ∙ w)) in
      let c = cell-inj s.shape q d.part ℓ d.level i d.slot hℓ d.in_levels hi d.in_slots d.is_cell in
      true≢false (sym d.is_filled ∙ ap (λ x. filled (s.counter x) d.level) (sym c.0) ∙ ap (filled (s.counter q)) (sym c.1) ∙ e))

  level-slots : (k : Key) → k.0 < s.shape.P → k.1 < s.shape.L → (b : Bool) → filled (s.counter k.0) k.1 ≡ b
      → keep (λ i. eqb (s.mark (cell s.shape k.0 k.1 i)) 1) (map (λ j. orders_in s v (cell s.shape k.0 k.1 j)) (below (slots k.1)))
      ≡ keep (λ i. eqb (s.mark (cell s.shape k.0 k.1 i)) 1) (map (λ j. s.order (cell s.shape k.0 k.1 j)) (below (slots k.1)))
  level-slots k hq hℓ true e = ap (keep (λ i. eqb (s.mark (cell s.shape k.0 k.1 i)) 1))
      (map_same _ _ (below (slots k.1)) (λ j m. (agrees s v).orders k.0 k.1 j hq hℓ e (mem_below (slots k.1) j m)))
  level-slots k hq hℓ false e = none (orders_in s v) (over-in s v).orders ∙ sym (none s.order f.range.orders)
    where
      gone : (xs : List ℕ) → All (λ i. i < slots k.1) xs → keep (λ i. eqb (s.mark (cell s.shape k.0 k.1 i)) 1) xs ≡ []
      gone [] nil = unfold keep in refl
      gone (x ∷ xs) (cons l t) = keep-no (λ i. eqb (s.mark (cell s.shape k.0 k.1 i)) 1) x xs (unfilled k.0 k.1 x hq hℓ l e) ∙ gone xs t

      none : (o : ℕ → ℕ) → ((q ℓ i : ℕ) → q < s.shape.P → ℓ < s.shape.L → i < slots ℓ → o (cell s.shape q ℓ i) < slots ℓ)
          → keep (λ i. eqb (s.mark (cell s.shape k.0 k.1 i)) 1) (map (λ j. o (cell s.shape k.0 k.1 j)) (below (slots k.1))) ≡ []
      none o h = gone _ (map_below (λ i. i < slots k.1) (λ j. o (cell s.shape k.0 k.1 j)) (slots k.1) (λ j l. h k.0 k.1 j hq hℓ l))

  slots_same : slots_in s.shape s.mark (orders_in s v) ≡ slots_in s.shape s.mark s.order
  unfolding open_in item_slots
  slots_same = fun_ext (λ k. go k (ltb k.0 s.shape.P) (ltb k.1 s.shape.L) refl refl)
    where
      go : (k : Key) (a b : Bool) → ltb k.0 s.shape.P ≡ a → ltb k.1 s.shape.L ≡ b
          → (if a && b then keep (λ i. eqb (s.mark (cell s.shape k.0 k.1 i)) 1) (map (λ j. orders_in s v (cell s.shape k.0 k.1 j)) (below (slots k.1))) else [])
          ≡ (if a && b then keep (λ i. eqb (s.mark (cell s.shape k.0 k.1 i)) 1) (map (λ j. s.order (cell s.shape k.0 k.1 j)) (below (slots k.1))) else [])
      go k true true x y = level-slots k (ltb-true k.0 s.shape.P x) (ltb-true k.1 s.shape.L y) (filled (s.counter k.0) k.1) refl
      go k true false x y = refl
      go k false b x y = refl

-- what a load of what was saved brings
reload-kept : (s : State) → Reached s → (m n : ℕ) → loads (saved s m n) ≡ true → Reached (loaded_form (saved s m n)) × ((loaded_form (saved s m n)).shape ≡ s.shape)
unfolding saved
reload-kept s f m n = go (eqb (number s (saving m n)) 0) refl
  where
    go : (t : Bool) → eqb (number s (saving m n)) 0 ≡ t → loads (if t then saved_form s else []) ≡ true → Reached (loaded_form (if t then saved_form s else [])) × ((loaded_form (if t then saved_form s else [])).shape ≡ s.shape)
    go true e w =
        let r = rest-facts s (save-passed s save m [] n refl (accepted-passed s (saving m n) (eqb-true (number s (saving m n)) 0 e))).1 in
        rw (saved-back s (saveable s f r)) (loaded-kept s f r, refl)
    go false e w = absurd (true≢false (sym w ∙ nothing-loads))

load-act : (s : State) (form js : List ℕ) → act s (load form) js ≡ loaded_form form
unfolding act perform
load-act s form js = release-none (loaded_form form) (loaded-idle form)

load-passed : (s : State) (form : List ℕ) (m : ℕ) (ws : List ℕ) (n : ℕ) → Passed (questions s (load form) m ws n) → loads form ≡ true
unfolding questions
load-passed s form m ws n p = p.1.0

later-kept : (h : Shape) (s : State) → Reached s → s.shape ≡ h → (l : Later) (m w n : ℕ) (js : List ℕ) → number_r s l m w n ≡ 0 → Drew (bounds s (ask s l)) js → Reached (act s (ask s l) js) × ((act s (ask s l) js).shape ≡ h)
later-kept h s f q l m w n js e b = go l e b
  where
    plain : (l : Later) → opens (ask s l) ≡ false → number_r s l m w n ≡ 0 → Drew (bounds s (ask s l)) js → Reached (act s (ask s l) js) × ((act s (ask s l) js).shape ≡ h)
    plain l o e b = (act-kept s f (ask s l) m (replicate w 0) n js (accepted-passed s (called s l m w n) e) b (brings-other (ask s l) o), act-shape s (ask s l) js o ∙ q)

    reload : (m₀ n₀ : ℕ) → number_r s (later-reload m₀ n₀) m w n ≡ 0 → Reached (act s (load (saved s m₀ n₀)) js) × ((act s (load (saved s m₀ n₀)) js).shape ≡ h)
    reload m₀ n₀ e =
        let p = load-passed s (saved s m₀ n₀) m (replicate w 0) n (accepted-passed s (called s (later-reload m₀ n₀) m w n) e) in
        let x = reload-kept s f m₀ n₀ p in
        rw (load-act s (saved s m₀ n₀) js) (x.0, x.1 ∙ q)

    go : (l : Later) → number_r s l m w n ≡ 0 → Drew (bounds s (ask s l)) js → Reached (act s (ask s l) js) × ((act s (ask s l) js).shape ≡ h)
    go (later-request k c bs) e b = plain (later-request k c bs) (unfold opens in refl) e b
    go later-turn e b = plain later-turn (unfold opens in refl) e b
    go (later-completion c bs) e b = plain (later-completion c bs) (unfold opens in refl) e b
    go later-collect e b = plain later-collect (unfold opens in refl) e b
    go later-save e b = plain later-save (unfold opens in refl) e b
    go (later-reload m₀ n₀) e b = reload m₀ n₀ e

pub reached : (h : Shape) → h.E ≡ h.N → Reachable h
reached h q = record {
  Holds = λ s. Reached s × (s.shape ≡ h);
  start = λ js w b. (fresh_kept h js (drew-length (replicate h.N h.P) js b ∙ length-replicate h.N h.P) (fresh_in_lem h js w b), fresh-shape h js);
  kept = λ s l m w n js k e b. later-kept h s k.0 k.1 l m w n js e b;
  fits = λ s k. form-fits s k.0.range k.0.waiting.once (λ b m. k.0.tidy.whole b);
  loadable = λ s k e. let v = saveable s k.0 (rest-facts s e) in (saved-summed s v, saved-loads s v);
  reloads = λ s k e. let r = rest-facts s e in let v = saveable s k.0 r in (contents_of s v, orders_in s v, (saved-back s v, slots_same s k.0 r));
  shape = λ s k. k.1;
  range = λ s k. facts-range s k.0.range;
  able = λ s k. always-possible s k.0;
  room = λ s b k l. room_for h s b k.0 k.1 q l;
  gathers = λ s q ls k. gathers s k.0 q ls;
  spent = λ s q ls ℓ i k. spent s k.0 q ls ℓ i;
  unread = λ s q ℓ x k. unread s k.0 q ℓ x;
  own = λ s r q ℓ x k. own s k.0 r q ℓ x;
  owned = λ s r q ℓ x i k. owned s k.0 r q ℓ x i;
  left = λ s r ℓ i k. left s k.0 r ℓ i;
}
