-- Two lists that differ in bytes alone, from states that differ in bytes alone and that calls left: they are told the same, and use up the same words.
-- What a form has besides bytes is no bytes, so that a load of it, too, leaves states that differ in bytes alone.
use Rattle.std.specs.Prelude.{◌≡◌, refl, ◌⊎◌, Bool, true, false, List, [], ◌∷◌, map, ◌++◌, ℕ, zero, suc, leb, length, replicate}
use Rattle.std.proofs.Common.{ap, ap₂, sym, ◌∙◌, subst, inl, inr, true≢false}
use Rattle.lists.specs.Tests.{between, every}
use Rattle.rules.specs.Form.Loading.{lay, loaded_form, orders_of}
use Rattle.rules.specs.Form.Payload.{saved_form, order_slots, read_marks}
use Rattle.rules.proofs.Laws.Answers.{accepted-passed}
use Rattle.rules.proofs.Laws.Form.Back.{saved-back}
use Rattle.rules.proofs.Laws.Form.Reads.{form_in}
use Rattle.rules.specs.Memory.{needed}
use Rattle.rules.specs.Questions.{Ask, opening, request, turn, completion, collect, save, load, Call, number, at_rest}
use Rattle.rules.specs.Run.{Outcome, step, run, refused}
use Rattle.rules.specs.Setters.{set_order}
use Rattle.rules.specs.Shape.{within}
use Rattle.rules.specs.State.{State, closed}
use Rattle.reachable.specs.Invariant.{Reached}
use Rattle.reachable.proofs.Reached.{Was, shut, live, save-passed, was-reached}
use Rattle.reachable.proofs.Saved.{Rests, rest-facts, saveable}
use Rattle.hiding.specs.Claim.{is_turn, used, used_by, tape_of, told, words_in}
use Rattle.hiding.specs.Machines.Public
use Rattle.hiding.specs.Machines.Public.{Later, saving, saved, save_p}
use Rattle.hiding.specs.Lists.Fixed
use Rattle.hiding.specs.Lists.Fixed.{Listing, opens, later, Listed, ask_in, at, lend, Lends}
use Rattle.hiding.proofs.Lists.Saves.{save-stays, at-was}
use Rattle.hiding.proofs.Lists.Reloads.{call, save-asks, save-outcome, reloaded, reload-step}
use Rattle.hiding.proofs.Lists.Bytes.{NoForm, bare, bare_ask, length-zeros, none_bare, step-bare}

unfoldable pub head_or : {A : Type 0} → A → List A → A
head_or x [] = x
head_or x (y ∷ ys) = y

unfoldable pub tail_of : {A : Type 0} → List A → List A
tail_of [] = []
tail_of (y ∷ ys) = ys

-- ---- a call of a list

-- Two calls, from two states: what is told is the same, and so is what they leave, but for bytes
pub record Like (s s' : State) (c d : Call) : Type 0 where
  pub tells : told (step s c).1 ≡ told (step s' d).1
  pub next : bare (step s c).0 ≡ bare (step s' d).0

-- what is asked, with zeros for bytes
abbrev bare_later : Later → Later
bare_later (Public.later-request k b bs) = Public.later-request k b (replicate (length bs) 0)
bare_later Public.later-turn = Public.later-turn
bare_later (Public.later-completion c bs) = Public.later-completion c (replicate (length bs) 0)
bare_later Public.later-collect = Public.later-collect
bare_later Public.later-save = Public.later-save
bare_later (Public.later-reload m n) = Public.later-reload m n

abbrev pub bare_listing : Listing → Listing
bare_listing (opens h) = opens h
bare_listing (later l) = later (bare_later l)

bare_twice : (a : Ask) → bare_ask (bare_ask a) ≡ bare_ask a
bare_twice (opening h) = refl
bare_twice (request k b bs) = rw (length-zeros bs)
bare_twice turn = refl
bare_twice (completion c bs) = rw (length-zeros bs)
bare_twice collect = refl
bare_twice save = refl
bare_twice (load form) = refl

bare-formless : (a : Ask) → NoForm a → NoForm (bare_ask a)
bare-formless (opening h) f = tt
bare-formless (request k b bs) f = tt
bare-formless turn f = tt
bare-formless (completion c bs) f = tt
bare-formless collect f = tt
bare-formless save f = f
bare-formless (load form) f = f

rest-bare : (s : State) → at_rest (bare s) ≡ at_rest s
unfolding at_rest
rest-bare s = rw (none_bare s s.request)

save-bare : (s : State) (m n : ℕ) → save_p (bare s) m n ≡ save_p s m n
unfolding save_p
save-bare s m n = rw (rest-bare s)

-- a state without its bytes, with the orders that its form has
abbrev reordered : State → State
reordered s = set_order (lay (orders_of s.shape (form_in s).levels)) s

back-bare : (s : State) → Reached s → Rests s → bare (loaded_form (saved_form s)) ≡ reordered (bare s)
unfolding order_slots read_marks
back-bare s f r = ap bare (saved-back s (saveable s f r))

closed-shape : within closed.shape ≡ true → ⊥
unfolding closed within between every
closed-shape e = true≢false (sym e)

-- either both were closed, or neither
both-was : (s s' : State) → bare s ≡ bare s' → Was s → Was s' → ((s ≡ closed) × (s' ≡ closed)) ⊎ (Reached s × Reached s')
both-was s s' e (shut z) (shut z') = inl (z, z')
both-was s s' e (live f) (live f') = inr (f, f')
both-was s s' e (shut z) (live f) = absurd (closed-shape (ap (λ (x : State). within x.shape) (sym z) ∙ ap (λ (x : State). within x.shape) e ∙ f.range.shape))
both-was s s' e (live f) (shut z) = absurd (closed-shape (ap (λ (x : State). within x.shape) (sym z) ∙ ap (λ (x : State). within x.shape) (sym e) ∙ f.range.shape))

module _ (s s' : State) (e : bare s ≡ bare s') (l : Was s) (l' : Was s') (m : ℕ) (ws : List ℕ) (n : ℕ) where
  -- no form is in it
  plain : (a : Ask) → NoForm a → Like s s' (call a m ws n) (call (bare_ask a) m ws n)
  plain a f =
      let x = step-bare s (call a m ws n) f in
      let y = step-bare s' (call (bare_ask a) m ws n) (bare-formless a f) in
      let same : step (bare s) (call (bare_ask a) m ws n) ≡ step (bare s') (call (bare_ask (bare_ask a)) m ws n) = λ i. step (e i) (call (sym (bare_twice a) i) m ws n) in
      record {
        tells = sym x.tells ∙ ap (λ (r : State × Outcome). told r.1) same ∙ y.tells;
        next = sym x.next ∙ ap (λ (r : State × Outcome). bare r.0) same ∙ y.next;
      }

  same-save : (m : ℕ) (ws : List ℕ) (n : ℕ) → number s (call save m ws n) ≡ number s' (call save m ws n)
  same-save m ws n = go (both-was s s' e l l')
    where
      go : ((s ≡ closed) × (s' ≡ closed)) ⊎ (Reached s × Reached s') → number s (call save m ws n) ≡ number s' (call save m ws n)
      go (inl z) = ap (λ x. number x (call save m ws n)) (z.0 ∙ sym z.1)
      go (inr f) = save-asks s f.0 m ws n ∙ sym (save-bare s m n) ∙ ap (λ x. save_p x m n) e ∙ save-bare s' m n ∙ sym (save-asks s' f.1 m ws n)

  saves : Like s s' (call save m ws n) (call save m ws n)
  saves = record {
    tells = ap told (save-outcome s m ws n ∙ ap refused (same-save m ws n) ∙ sym (save-outcome s' m ws n));
    next = ap bare (save-stays s (call save m ws n) refl) ∙ e ∙ ap bare (sym (save-stays s' (call save m ws n) refl));
  }

  -- a load of what the save just before it has written
  reloads : (m₀ n₀ : ℕ) → Like s s' (call (load (saved s m₀ n₀)) m ws n) (call (load (saved s' m₀ n₀)) m ws n)
  reloads m₀ n₀ = go (number s (saving m₀ n₀)) refl (leb (needed s.shape) m) refl
    where
      memory : leb (needed s'.shape) m ≡ leb (needed s.shape) m
      memory = ap (λ (x : State). leb (needed x.shape) m) (sym e)

      states : (j : ℕ) → number s (saving m₀ n₀) ≡ j → (b : Bool) → (told (reloaded j b s).1 ≡ told (reloaded j b s').1) × (bare (reloaded j b s).0 ≡ bare (reloaded j b s').0)
      states (suc j) q b = (refl, refl)
      states zero q false = (refl, refl)
      states zero q true =
          let p = save-passed s save m₀ [] n₀ refl (accepted-passed s (saving m₀ n₀) q) in
          let p' = save-passed s' save m₀ [] n₀ refl (accepted-passed s' (saving m₀ n₀) (sym (same-save m₀ [] n₀) ∙ q)) in
          let x = back-bare s (was-reached s m₀ l p.0) (rest-facts s p.1) in
          let y = back-bare s' (was-reached s' m₀ l' p'.0) (rest-facts s' p'.1) in
          (refl, x ∙ ap reordered e ∙ sym y)

      go : (j : ℕ) → number s (saving m₀ n₀) ≡ j → (b : Bool) → leb (needed s.shape) m ≡ b → Like s s' (call (load (saved s m₀ n₀)) m ws n) (call (load (saved s' m₀ n₀)) m ws n)
      go j q b r =
          let x = reload-step s l m₀ n₀ m ws n j q b r in
          let y = reload-step s' l' m₀ n₀ m ws n j (sym (same-save m₀ [] n₀) ∙ q) b (memory ∙ r) in
          let z = states j q b in
          record {
            tells = ap (λ (r : State × Outcome). told r.1) x ∙ z.0 ∙ sym (ap (λ (r : State × Outcome). told r.1) y);
            next = ap (λ (r : State × Outcome). bare r.0) x ∙ z.1 ∙ sym (ap (λ (r : State × Outcome). bare r.0) y);
          }

  -- a call, and the same with zeros
  toward : (x : Listing) → Like s s' (call (ask_in s x) m ws n) (call (ask_in s' (bare_listing x)) m ws n)
  toward (opens h) = plain (opening h) tt
  toward (later (Public.later-request k b bs)) = plain (request k b bs) tt
  toward (later Public.later-turn) = plain turn tt
  toward (later (Public.later-completion c bs)) = plain (completion c bs) tt
  toward (later Public.later-collect) = plain collect tt
  toward (later Public.later-save) = saves
  toward (later (Public.later-reload m₀ n₀)) = reloads m₀ n₀

-- ---- lists

-- the same call, but for bytes
pub record Twin (a b : Listed) : Type 0 where
  pub ask : bare_listing a.ask ≡ bare_listing b.ask
  pub memory : a.memory ≡ b.memory
  pub words : a.words ≡ b.words
  pub buffer : a.buffer ≡ b.buffer

pub data Twins : List Listed → List Listed → Type 0 where
  none : Twins [] []
  more : {a b : Listed} {as' bs' : List Listed} → Twin a b → Twins as' bs' → Twins (a ∷ as') (b ∷ bs')

turn-bare : (s s' : State) (x : Listing) → is_turn (ask_in s x) ≡ is_turn (ask_in s' (bare_listing x))
unfolding is_turn
turn-bare s s' (opens h) = refl
turn-bare s s' (later (Public.later-request k b bs)) = refl
turn-bare s s' (later Public.later-turn) = refl
turn-bare s s' (later (Public.later-completion c bs)) = refl
turn-bare s s' (later Public.later-collect) = refl
turn-bare s s' (later Public.later-save) = refl
turn-bare s s' (later (Public.later-reload m₀ n₀)) = refl

module _ (a b : Listed) (t : Twin a b) (s s' : State) (e : bare s ≡ bare s') (l : Was s) (l' : Was s') (ws : List ℕ) where
  twin-like : Like s s' (lend (at s a) ws) (lend (at s' b) ws)
  twin-like =
      let x = toward s s refl l l a.memory ws a.buffer a.ask in
      let y = toward s' s (sym e) l' l b.memory ws b.buffer b.ask in
      let same : step s (call (ask_in s (bare_listing a.ask)) a.memory ws a.buffer) ≡ step s (call (ask_in s (bare_listing b.ask)) b.memory ws b.buffer) = λ i. step s (call (ask_in s (t.ask i)) (t.memory i) ws (t.buffer i)) in
      record {
        tells = x.tells ∙ ap (λ (r : State × Outcome). told r.1) same ∙ sym y.tells;
        next = x.next ∙ ap (λ (r : State × Outcome). bare r.0) same ∙ sym y.next;
      }

  twin-used : used (lend (at s a) ws) (step s (lend (at s a) ws)).1 ≡ used (lend (at s' b) ws) (step s' (lend (at s' b) ws)).1
  twin-used =
      let turn : is_turn (ask_in s a.ask) ≡ is_turn (ask_in s' b.ask) = turn-bare s s a.ask ∙ ap (λ x. is_turn (ask_in s x)) t.ask ∙ sym (turn-bare s' s b.ask) in
      λ i. used_by (turn i) ws (twin-like.tells i).0 (twin-like.tells i).1

abbrev pub Alike : State → List Call → State → List Call → Type 0
Alike s cs s' ds = (map told (run s cs) ≡ map told (run s' ds)) × (tape_of cs (run s cs) ≡ tape_of ds (run s' ds))

-- Lists that differ in bytes alone, lent the same words
pub twins-alike : (as' bs' : List Listed) → Twins as' bs' → (cs ds : List Call) (s s' : State) → Lends s as' cs → Lends s' bs' ds → words_in cs ≡ words_in ds
    → bare s ≡ bare s' → Was s → Was s' → Alike s cs s' ds
unfolding run tape_of head_or tail_of
twins-alike [] [] none [] [] s s' Fixed.none Fixed.none w e l l' = (refl, refl)
twins-alike (a ∷ as') (b ∷ bs') (more t ts) (c ∷ cs) (d ∷ ds) s s' m m' w e l l' =
    go s s' c d m m' w e l l' (λ r r' u v n x x'. twins-alike as' bs' ts cs ds r r' u v (ap tail_of w) n x x')
  where
    go : (s s' : State) (c d : Call) → Lends s (a ∷ as') (c ∷ cs) → Lends s' (b ∷ bs') (d ∷ ds) → words_in (c ∷ cs) ≡ words_in (d ∷ ds)
        → bare s ≡ bare s' → Was s → Was s'
        → ((r r' : State) → Lends r as' cs → Lends r' bs' ds → bare r ≡ bare r' → Was r → Was r' → Alike r cs r' ds)
        → Alike s (c ∷ cs) s' (d ∷ ds)
    go s s' c d (Fixed.more {ws = ws} x u) (Fixed.more {ws = vs} y v) w e l l' rest =
        let k = twin-like a b t s s' e l l' ws in
        let same : vs ≡ ws = sym (ap (head_or []) w) in
        let v' : Lends (step s' (lend (at s' b) ws)).0 bs' ds = subst (λ zs. Lends (step s' (lend (at s' b) zs)).0 bs' ds) same v in
        let r = rest (step s (lend (at s a) ws)).0 (step s' (lend (at s' b) ws)).0 u v' k.next (at-was s a ws l) (at-was s' b ws l') in
        subst (λ zs. Alike s (lend (at s a) ws ∷ cs) s' (lend (at s' b) zs ∷ ds)) (sym same) (
          ap₂ (λ o os. o ∷ os) k.tells r.0,
          ap₂ ◌++◌ (twin-used a b t s s' e l l' ws) r.1,
        )
twins-alike [] [] none [] (d ∷ ds) s s' _ x46 w e l l' = elim x46 [ ]
twins-alike [] [] none (c ∷ cs) ds s s' x40 _ w e l l' = elim x40 [ ]
twins-alike [] (b ∷ bs') x15 cs ds s s' _ _ w e l l' = elim x15 [ ]
twins-alike (a ∷ as') [] x11 cs ds s s' _ _ w e l l' = elim x11 [ ]
twins-alike (a ∷ as') (b ∷ bs') (more t ts) [] ds s s' x29 _ w e l l' = elim x29 [ ]
twins-alike (a ∷ as') (b ∷ bs') (more t ts) (c ∷ cs) [] s s' _ x33 w e l l' = elim x33 [ ]
