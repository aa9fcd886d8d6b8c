-- Two runs, over a cache of N places and over a smaller one, agree until the second answers 8.
use Rattle.std.specs.Prelude.{◌≡◌, refl, ℕ, ◌≤◌, ◌<◌, length}
use Rattle.std.proofs.Common.{ap, ap₂, ◌∙◌}
use Rattle.std.proofs.Math.Path.{sym, subst}
use mathlib.Core.List.{List, [], ◌∷◌, map}
use Rattle.std.proofs.Math.Option.{Option}
use native.Mathlib.Omega.{arith}
use Rattle.std.proofs.Math.Decide.{ℕ_discrete}
use borrow.Author.Tests.{le-leb}
use Rattle.lists.specs.All.{nil, cons}
use Rattle.lists.specs.Tests
use Rattle.rules.specs.Draws.{Drawn, draws}
use Rattle.rules.proofs.Laws.Answers.{accepted-passed, step-accepted, step-refused}
use Rattle.rules.specs.Memory
use Rattle.rules.specs.Open
use Rattle.rules.specs.Questions.{Ask, opening, request, turn, completion, collect, Call, bounds, questions, number, save, load}
use Rattle.rules.specs.Resumes.{Resumes, NoOpen}
use Rattle.rules.specs.Run
use Rattle.rules.specs.Run.{Outcome, act, step, run}
use Rattle.rules.specs.Shape
use Rattle.rules.specs.Shape.{Shape}
use Rattle.rules.specs.State.{State, closed, Command}
use Rattle.reachable.specs.Invariant.{Reached}
use Rattle.reachable.proofs.Reached.{shut, accepted-kept}
use Rattle.hiding.specs.Claim
use Rattle.hiding.specs.Claim.{outline, told, words_in, loading, with_cache, open_over, NoOpens, without_form, without_forms, AgreeUntil8, done, full, equal, Smaller}
use Rattle.hiding.specs.Lists.Fixed
use Rattle.hiding.specs.Lists.Fixed.{Listed, at, lend, Lends}
use Rattle.hiding.proofs.Lists.Saves.{last_save}
use Rattle.hiding.proofs.Lists.Twins
use Rattle.hiding.proofs.Lists.Twins.{head_or, tail_of, bare_listing, twins-alike}
use Rattle.hiding.proofs.Lists.Matched.{IsLater, Laters, zeroed}
use Rattle.hiding.proofs.Lists.Runs.{listing, listed, last_of, own, own_first, own_bare, own-lengths, follow, follows}
use Rattle.hiding.proofs.Lists.Served.{loading-outline}
use Rattle.hiding.proofs.Cache.Fits.{Fits}
use Rattle.hiding.proofs.Cache.Both.{Both, eight, onward, closing, both}
use Rattle.hiding.proofs.Cache.Over.{with_e}

-- ---- Both runs

-- equal outcomes but for forms, bytes and all
abbrev pub Agree : State → List Call → State → List Call → Type 0
Agree s cs s' ds = AgreeUntil8 (λ o. o) (without_forms cs (run s cs)) (without_forms ds (run s' ds))

agree_refl : (xs : List Outcome) → AgreeUntil8 (λ o. o) xs xs
agree_refl [] = done
agree_refl (x ∷ xs) = equal refl (agree_refl xs)

form-told : (a : Ask) (o : Outcome) → told (without_form a o) ≡ told o
form-told (opening h) o = refl
form-told (request k b bs) o = refl
form-told turn o = refl
form-told (completion c bs) o = refl
form-told collect o = refl
form-told save o = refl
form-told (load form) o = refl

form-number : (a : Ask) (o : Outcome) → (without_form a o).number ≡ o.number
form-number a o = ap (λ (x : ℕ × ℕ × Command). x.0) (form-told a o)

-- calls of one list from one state, with the same words, are the same
same-calls : (as' : List Listed) (s : State) (cs ds : List Call) → Lends s as' cs → Lends s as' ds → words_in cs ≡ words_in ds → cs ≡ ds
unfolding head_or tail_of
same-calls [] s [] [] Fixed.none Fixed.none e = refl
same-calls (a ∷ as') s (c ∷ cs) (d ∷ ds) (Fixed.more {ws = ws} x u) (Fixed.more {ws = vs} y v) e =
    let q : vs ≡ ws = sym (ap (head_or []) e) in
    let v' : Lends (step s (lend (at s a) ws)).0 as' ds = subst (λ zs. Lends (step s (lend (at s a) zs)).0 as' ds) q v in
    ap₂ (λ zs (xs : List Call). lend (at s a) zs ∷ xs) (sym q) (same-calls as' (step s (lend (at s a) ws)).0 cs ds u v' (ap tail_of e))
same-calls [] s [] (d ∷ ds) _ x10 e = elim x10 [ ]
same-calls [] s (c ∷ cs) ds x7 _ e = elim x7 [ ]
same-calls (a ∷ as') s [] ds x6 _ e = elim x6 [ ]
same-calls (a ∷ as') s (c ∷ cs) [] _ x10 e = elim x10 [ ]

module _ (e n : ℕ) (le : e ≤ n) (he : 1 ≤ e) where
  -- from one state over caches of n and of e places, e at most n
  cache-run : (as' : List Listed) → Laters as' → (s : State) → Fits e n s → Reached (with_e n s) → Reached (with_e e s) → (cs ds : List Call) →
      Lends (with_e n s) as' cs → Lends (with_e e s) as' ds → words_in cs ≡ words_in ds → Agree (with_e n s) cs (with_e e s) ds
  unfolding run head_or tail_of
  cache-run [] i s f rn re [] [] Fixed.none Fixed.none w = done
  cache-run (a ∷ as') i s f rn re (c ∷ cs) (d ∷ ds) (Fixed.more {ws = ws} x u) (Fixed.more {ws = vs} y v) w =
      subst (λ zs. Agree (with_e n s) (lend (at (with_e n s) a) ws ∷ cs) (with_e e s) (lend (at (with_e e s) a) zs ∷ ds)) (sym q)
      (go (both e n le he s f rn re a.memory ws a.buffer a.ask i.0) u v' (λ s' f' rn' re' u v. cache-run as' i.1 s' f' rn' re' cs ds u v (ap tail_of w)))
    where
      q : vs ≡ ws
      q = sym (ap (head_or []) w)

      large : Call
      large = lend (at (with_e n s) a) ws

      small : Call
      small = lend (at (with_e e s) a) ws

      v' : Lends (step (with_e e s) small).0 as' ds
      v' = subst (λ zs. Lends (step (with_e e s) (lend (at (with_e e s) a) zs)).0 as' ds) q v

      go : Both e n s large small → Lends (step (with_e n s) large).0 as' cs → Lends (step (with_e e s) small).0 as' ds →
          ((s' : State) → Fits e n s' → Reached (with_e n s') → Reached (with_e e s') → Lends (with_e n s') as' cs → Lends (with_e e s') as' ds → Agree (with_e n s') cs (with_e e s') ds) →
          Agree (with_e n s) (large ∷ cs) (with_e e s) (small ∷ ds)
      go (eight z) u v rest = full (form-number small.ask (step (with_e e s) small).1 ∙ z)
      go (onward o s' x y f' rn' re') u v rest =
          let r : Agree (step (with_e n s) large).0 cs (step (with_e e s) small).0 ds = rw (x, y) (rest s' f' rn' re' (rw x at u) (rw y at v)) in
          equal o r
      go (closing o x y) u v rest =
          let same : cs ≡ ds = same-calls as' closed cs ds (rw x at u) (rw y at v) (ap tail_of w) in
          let r : Agree (step (with_e n s) large).0 cs (step (with_e e s) small).0 ds = rw (x, y, same) (agree_refl (without_forms ds (run closed ds))) in
          equal o r
  cache-run [] i s f rn re [] (d ∷ ds) _ x14 w = elim x14 [ ]
  cache-run [] i s f rn re (c ∷ cs) ds x11 _ w = elim x11 [ ]
  cache-run (a ∷ as') i s f rn re [] ds x10 _ w = elim x10 [ ]
  cache-run (a ∷ as') i s f rn re (c ∷ cs) [] _ x14 w = elim x14 [ ]

-- ---- From the open

module _ (e : ℕ) (h : Shape) (he : 1 ≤ e) (le : e ≤ h.N) (m : ℕ) (ws : List ℕ) (k : ℕ) where
  within-E : Shape.within (with_cache e h) ≡ Shape.within (with_cache h.N h)
  unfolding Shape.within Tests.between
  within-E = rw (le-leb 1 e he, le-leb e h.N le, le-leb 1 h.N (omega arith), le-leb h.N h.N (omega arith))

  open-alike : number closed (open_over h.N h m ws k) ≡ number closed (open_over e h m ws k)
  unfolding number questions bounds Memory.needed
  open-alike = rw within-E

  abbrev large : Call
  large = open_over h.N h m ws k

  abbrev small : Call
  small = open_over e h m ws k

  -- one list after the open, whose calls may be any but an open
  smaller-cache : (as' : List Listed) → Laters as' → (cs ds : List Call) → Lends (step closed large).0 as' cs → Lends (step closed small).0 as' ds → words_in cs ≡ words_in ds →
      Agree closed (large ∷ cs) closed (small ∷ ds)
  unfolding run
  smaller-cache as' i cs ds u v w = go (ℕ_discrete (number closed small) 0)
    where
      d : Option Drawn
      d = draws (bounds closed (opening h)) ws

      s : State
      s = Open.fresh h (Run.numbers_of d)

      s-fits : Fits e h.N s
      s-fits = unfold Open.fresh in (record { room = omega arith; waits = omega arith })

      yes-one : (i : ℕ) → number closed (open_over i h m ws k) ≡ 0 → step closed (open_over i h m ws k) ≡ (with_e i s, (Run.accepted closed (opening h) d).1)
      yes-one i z = unfold Run.accepted Run.sent_command Run.handed Run.handed_found act Run.perform Open.fresh bounds in (step-accepted closed (open_over i h m ws k) z)

      no_one : (i : ℕ) → (number closed (open_over i h m ws k) ≡ 0 → ⊥) → step closed (open_over i h m ws k) ≡ (closed, Run.refused (number closed (open_over i h m ws k)))
      no_one i z = unfold Run.refuse in (step-refused closed (open_over i h m ws k) z)

      reached-one : (i : ℕ) → number closed (open_over i h m ws k) ≡ 0 → Reached (with_e i s)
      reached-one i z = subst Reached (ap (λ (r : State × Outcome). r.0) (sym (step-accepted closed (open_over i h m ws k) z) ∙ yes-one i z))
          (unfold Run.accepted in (accepted-kept closed (opening (with_cache i h)) m ws k (shut refl) (accepted-passed closed (open_over i h m ws k) z) tt))

      go : Dec (number closed small ≡ 0) → Agree closed (large ∷ cs) closed (small ∷ ds)
      go (yes z) =
          let z' = open-alike ∙ z in
          let x = ap (λ (r : State × Outcome). r.0) (yes-one h.N z') in
          let y = ap (λ (r : State × Outcome). r.0) (yes-one e z) in
          let r = cache-run e h.N le he as' i s s-fits (reached-one h.N z') (reached-one e z) cs ds (rw x at u) (rw y at v) w in
          rw (yes-one e z, yes-one h.N z') (equal refl r)
      go (no z) =
          let z' : ¬ (number closed large ≡ 0) = λ i. z (sym open-alike ∙ i) in
          let x = ap (λ (r : State × Outcome). r.0) (no_one h.N z') in
          let y = ap (λ (r : State × Outcome). r.0) (no_one e z) in
          let same : cs ≡ ds = same-calls as' closed cs ds (rw x at u) (rw y at v) w in
          rw (no_one e z, no_one h.N z', open-alike, same) (equal refl (agree_refl (without_forms ds (run closed ds))))

-- whatever was before an open
run-open : (s : State) (h : Shape) (e m n : ℕ) (ws : List ℕ) (cs : List Call) → run s (open_over e h m ws n ∷ cs) ≡ run closed (open_over e h m ws n ∷ cs)
unfolding run step number questions bounds Run.accepted act Run.perform Run.sent_command Run.handed Run.handed_found Run.refuse
run-open s h e m n ws cs = refl

-- ---- The calls of a run, as a list

laters : (cs : List Call) → NoOpens cs → (p : ℕ × ℕ) → Laters (own p cs)
laters [] nil p = tt
laters (c ∷ cs) (cons x l) p = (go c.ask x, laters cs l (last_of c))
  where
    go : (a : Ask) → NoOpen a → IsLater (listing p a)
    go (opening h) x = x
    go (request k b bs) x = tt
    go turn x = tt
    go (completion c bs) x = tt
    go collect x = tt
    go save x = tt
    go (load form) x = tt

-- which form a load is of plays no part
loading-listing : (p : ℕ × ℕ) (a : Ask) → listing p (loading [] a) ≡ listing p a
loading-listing p (opening h) = refl
loading-listing p (request k b bs) = refl
loading-listing p turn = refl
loading-listing p (completion c bs) = refl
loading-listing p collect = refl
loading-listing p save = refl
loading-listing p (load form) = refl

twins-words : {A : Type 0} {f : Ask → A} (cs ds : List Call) → Claim.Twins f cs ds → words_in cs ≡ words_in ds
twins-words [] [] Claim.none = refl
twins-words (c ∷ cs) (d ∷ ds) (Claim.more t ts) = ap₂ (λ (x : List ℕ) xs. x ∷ xs) t.words (twins-words cs ds ts)
twins-words {A = A} {f = f} [] (d ∷ ds) x'' = elim x'' [ ]
twins-words {A = A} {f = f} (c ∷ cs) [] x3 = elim x3 [ ]

same-own : (cs ds : List Call) → Claim.Twins (loading []) cs ds → (p : ℕ × ℕ) → own p cs ≡ own p ds
same-own [] [] Claim.none p = refl
same-own (c ∷ cs) (d ∷ ds) (Claim.more t ts) p =
    let ask : listing p c.ask ≡ listing p d.ask = sym (loading-listing p c.ask) ∙ ap (listing p) t.ask ∙ loading-listing p d.ask in
    let outlines : outline c.ask ≡ outline d.ask = sym (loading-outline [] c.ask) ∙ ap outline t.ask ∙ loading-outline [] d.ask in
    ap₂ (λ (x : Listed) xs. x ∷ xs) (λ i. record { ask = ask i; memory = t.memory i; words = length (t.words i); buffer = t.buffer i })
    (same-own cs ds ts (last_of c) ∙ (λ i. own (last_save (outlines i) (t.memory i) (t.buffer i)) ds))
same-own [] (d ∷ ds) x'' p = elim x'' [ ]
same-own (c ∷ cs) [] x3 p = elim x3 [ ]

like-own : (cs ds : List Call) → Claim.Twins outline cs ds → (p : ℕ × ℕ) → Twins.Twins (own p cs) (own p ds)
like-own [] [] Claim.none p = Twins.none
like-own (c ∷ cs) (d ∷ ds) (Claim.more t ts) p =
    Twins.more (record { ask = own_bare p c.ask ∙ ap (λ x. bare_listing (zeroed p x)) t.ask ∙ sym (own_bare p d.ask); memory = t.memory; words = ap length t.words; buffer = t.buffer })
    (subst (λ q. Twins.Twins (own (last_of c) cs) (own q ds)) (λ i. last_save (t.ask i) (t.memory i) (t.buffer i)) (like-own cs ds ts (last_of c)))
like-own [] (d ∷ ds) x'' p = elim x'' [ ]
like-own (c ∷ cs) [] x3 p = elim x3 [ ]

rest-lends : (s : State) (a : Listed) (as' : List Listed) (c : Call) (cs : List Call) → Lends s (a ∷ as') (c ∷ cs) → Lends (step s c).0 as' cs
rest-lends s a as' c cs (Fixed.more e l) = l

-- ---- What is told

agree-told : (cs ds : List Call) (s s' : State) → Agree s cs s' ds → AgreeUntil8 told (run s cs) (run s' ds)
unfolding run
agree-told [] [] s s' done = done
agree-told (c ∷ cs) (d ∷ ds) s s' (full z) = full (sym (form-number d.ask (step s' d).1) ∙ z)
agree-told (c ∷ cs) (d ∷ ds) s s' (equal z r) = equal (sym (form-told c.ask (step s c).1) ∙ ap told z ∙ form-told d.ask (step s' d).1) (agree-told cs ds (step s c).0 (step s' d).0 r)
agree-told [] (d ∷ ds) s s' x'' = elim x'' [ ]
agree-told (c ∷ cs) [] s s' x3 = elim x3 [ ]

same-told : (xs ys zs : List Outcome) → AgreeUntil8 told xs ys → map told ys ≡ map told zs → AgreeUntil8 told xs zs
unfolding head_or tail_of
same-told [] [] [] done e = done
same-told [] [] (z ∷ zs) done e = absurd (omega (arith, ap length e))
same-told (x ∷ xs) (y ∷ ys) [] a e = absurd (omega (arith, ap length e))
same-told (x ∷ xs) (y ∷ ys) (z ∷ zs) (full q) e = let o : told y ≡ told z = ap (head_or (told y)) e in full (ap (λ (o : ℕ × ℕ × Command). o.0) (sym o) ∙ q)
same-told (x ∷ xs) (y ∷ ys) (z ∷ zs) (equal q r) e = equal (q ∙ ap (head_or (told y)) e) (same-told xs ys zs r (ap tail_of e))
same-told [] (y ∷ ys) zs a e = elim a [ ]
same-told (x ∷ xs) [] zs a e = elim a [ ]

-- The second claim
pub smaller : Smaller
smaller = record {
  whole = λ h e he le m n ws cs ds l t s s' r r'. rw (run-open s h h.N m n ws cs, run-open s' h e m n ws ds) (whole h e he le m n ws cs ds l t (rw (run-open s h h.N m n ws cs) at r) (rw (run-open s' h e m n ws ds) at r'));
  tells = λ h e he le m n ws cs ds l t s s' r r'. rw (run-open s h h.N m n ws cs, run-open s' h e m n ws ds) (tells h e he le m n ws cs ds l t (rw (run-open s h h.N m n ws cs) at r) (rw (run-open s' h e m n ws ds) at r'));
}
  where
    whole : (h : Shape) (e : ℕ) → 1 ≤ e → e < h.N → (m n : ℕ) (ws : List ℕ) (cs ds : List Call) → NoOpens cs → Claim.Twins (loading []) cs ds →
        let A = open_over h.N h m ws n ∷ cs in
        let B = open_over e h m ws n ∷ ds in
        Resumes [] A (run closed A) → Resumes [] B (run closed B) → Agree closed A closed B
    whole h e he le m n ws cs ds l t r r' =
        let u = rest-lends closed _ (own (0, 0) cs) (open_over h.N h m ws n) cs (own_first (open_over h.N h m ws n ∷ cs) r) in
        let v = rest-lends closed _ (own (0, 0) ds) (open_over e h m ws n) ds (own_first (open_over e h m ws n ∷ ds) r') in
        smaller-cache e h he (omega arith) m ws n (own (0, 0) cs) (laters cs l (0, 0)) cs ds u (rw (← same-own cs ds t (0, 0)) at v) (twins-words cs ds t)

    tells : (h : Shape) (e : ℕ) → 1 ≤ e → e < h.N → (m n : ℕ) (ws : List ℕ) (cs ds : List Call) → NoOpens cs → Claim.Twins outline cs ds →
        let A = open_over h.N h m ws n ∷ cs in
        let B = open_over e h m ws n ∷ ds in
        Resumes [] A (run closed A) → Resumes [] B (run closed B) → AgreeUntil8 told (run closed A) (run closed B)
    tells h e he le m n ws cs ds l t r r' =
        let c = open_over h.N h m ws n in
        let d = open_over e h m ws n in
        let es = follow (step closed d).0 (own (0, 0) cs) cs in
        let f = follows (own (0, 0) cs) cs (own-lengths cs (0, 0)) (step closed d).0 in
        let u = rest-lends closed _ (own (0, 0) cs) c cs (own_first (c ∷ cs) r) in
        let a = smaller-cache e h he (omega arith) m ws n (own (0, 0) cs) (laters cs l (0, 0)) cs es u f.calls f.same in
        let itself : Twins.Twin (listed (0, 0) d) (listed (0, 0) d) = record { ask = refl; memory = refl; words = refl; buffer = refl } in
        let v : Lends closed (listed (0, 0) d ∷ own (0, 0) cs) (d ∷ es) = Fixed.more refl f.calls in
        let b = twins-alike (listed (0, 0) d ∷ own (0, 0) cs) (listed (0, 0) d ∷ own (0, 0) ds) (Twins.more itself (like-own cs ds t (0, 0))) (d ∷ es) (d ∷ ds) closed closed v (own_first (d ∷ ds) r')
        (ap (λ (xs : List (List ℕ)). ws ∷ xs) (sym f.same ∙ twins-words cs ds t)) refl (shut refl) (shut refl) in
        same-told (run closed (c ∷ cs)) (run closed (d ∷ es)) (run closed (d ∷ ds)) (agree-told (c ∷ cs) (d ∷ es) closed closed a) b.0
