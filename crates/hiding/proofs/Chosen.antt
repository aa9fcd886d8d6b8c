-- Calls that are chosen by what was told: a host that completes the commands it was sent names slots that depend on the tape, so its calls are no
-- list that is known beforehand. They may choose to save and to load: a load is of the run's own form. The tapes of two who choose alike are matched
-- as those of compared lists are: `chosen-from` has it from `Claim`, and from that what is told can be computed from a tape. With an honest host in both, demand 2 holds besides: `chosen-together`.
use Rattle.std.specs.Prelude.{◌≡◌, refl, Bool, true, false, List, [], ◌∷◌, map, ℕ, zero, suc, length, take, drop, eqb, ltb, if◌then◌else◌}
use Rattle.std.proofs.Common.{ap, ap₂, sym, ◌∙◌, subst, arith}
use Rattle.rules.specs.Questions.{Call}
use Rattle.rules.specs.Run.{step, run}
use Rattle.rules.specs.Shape.{Shape}
use Rattle.rules.specs.State.{State, read, closed}
use Rattle.matching.proofs.Flat.{FlatWatch}
use Rattle.hiding.specs.Claim
use Rattle.array.specs.Claim as Array
use Rattle.array.specs.Served.{served}
use Rattle.array.specs.Claim.{Slots, Host, Expected, Honest, Plain}
use Rattle.array.proofs.Theorem.{plain-array}
use Rattle.hiding.proofs.Honest.{list-plain, honest-run}
use Rattle.hiding.specs.Claim.{a_completion, Lent, first, Same, Compared, Tape, Lends, Gives, Matching, told, Claim}
use Rattle.hiding.proofs.Lists.Tapes.{words, wants, lent_on}
use Rattle.hiding.specs.Lists.Fixed.{at}
use Rattle.hiding.proofs.Lists.Matched.{zero_of, zeros, last_in}
use Rattle.hiding.proofs.Lists.Runs.{shown}
use Rattle.hiding.proofs.Lists.Twins.{head_or, tail_of}
use Rattle.hiding.proofs.Theorem.{hidden}
use Rattle.hiding.specs.Chosen.{Choice, Chosen, ChosenClaim, ChosenTogether, Plays, Told, Uses, opened, promptly, tape_in}

-- .. and two who choose alike choose alike with it
pub promptly-alike : (h : Shape) (m : ℕ) (σ τ : Choice) → ((os : List Told) → Same h (σ os) (τ os)) → (os : List Told) → Same h (promptly h m σ os) (promptly h m τ os)
promptly-alike h m σ τ alike [] = alike []
promptly-alike h m σ τ alike (o ∷ os) = go (ltb 0 o.2.kind)
  where
    c : Lent
    c = record { ask = a_completion o.2 (if eqb o.2.kind read then h.B else 0); memory = m; words = 0; buffer = 0 }

    go : (t : Bool) → Same h (if t then c else σ (o ∷ os)) (if t then c else τ (o ∷ os))
    go true = record { ask = Claim.completions; memory = refl; words = refl; buffer = refl }
    go false = alike (o ∷ os)

-- ---- The list of the calls chosen, by what is told

abbrev along : Choice → List Told → List Told → List Lent
along σ before [] = []
along σ before (o ∷ os) = σ before ∷ along σ (o ∷ before) os

-- what is told, by the tape: each call uses up the next of its words, and zeros stand for its bytes; p has memory and buffer of the save just before
unfoldable heard : Choice → List Told → ℕ × ℕ → ℕ → State → List ℕ → List Told
heard σ before p zero s t = []
heard σ before p (suc k) s t =
    let a = zero_of p (σ before) in
    let r = step s (lent_on (at s a) (take (wants s a t) t)) in
    told r.1 ∷ heard σ (told r.1 ∷ before) (last_in (σ before)) k r.0 (drop (wants s a t) t)

-- a run's calls are those of the list
chosen-lends : (σ : Choice) (cs : List Call) (before : List Told) (s : State) → Chosen σ before cs (run s cs) → Lends (along σ before (map told (run s cs))) cs
unfolding run
chosen-lends σ [] before s k = Claim.none
chosen-lends σ (c ∷ cs) before s k = go (c) k.0 (chosen-lends σ cs (told (step s c).1 ∷ before) (step s c).0 k.1)
  where
    go : (c : Call) → Lends (σ before ∷ []) (c ∷ []) → {as' : List Lent} {cs : List Call} → Lends as' cs → Lends (σ before ∷ as') (c ∷ cs)
    go c (Claim.more o e l) r = Claim.more o e r

lends-chosen : (σ : Choice) (cs : List Call) (before : List Told) (s : State) (os : List Told) → Lends (along σ before os) cs → map told (run s cs) ≡ os → Chosen σ before cs (run s cs)
unfolding run head_or tail_of
lends-chosen σ [] before s os l e = tt
lends-chosen σ (c ∷ cs) before s [] l e = absurd (omega (arith, ap length e))
lends-chosen σ (c ∷ cs) before s (o ∷ os) (Claim.more x y l) e =
    let z : told (step s c).1 ≡ o = ap (head_or o) e in
    (Claim.more x y Claim.none, subst (λ v. Chosen σ (v ∷ before) cs (run (step s c).0 cs)) (sym z) (lends-chosen σ cs (o ∷ before) (step s c).0 os l (ap tail_of e)))

-- what the machine that takes words shows of the list of what is told
watch-heard : (σ : Choice) (os before : List Told) (p : ℕ × ℕ) (s : State) (t : List ℕ) → os ≡ FlatWatch words wants s (zeros p (along σ before os)) t → os ≡ heard σ before p (length os) s t
unfolding heard head_or tail_of
watch-heard σ [] before p s t e = refl
watch-heard σ (o ∷ os) before p s t e =
    let a = zero_of p (σ before) in
    let r = step s (lent_on (at s a) (take (wants s a t) t)) in
    let u = drop (wants s a t) t in
    let z : o ≡ told r.1 = ap (head_or o) e in
    let y = watch-heard σ os (o ∷ before) (last_in (σ before)) r.0 u (ap tail_of e) in
    ap₂ (λ x xs. x ∷ xs) z (y ∙ ap (λ x. heard σ (x ∷ before) (last_in (σ before)) (length os) r.0 u) z)

-- ---- Two choices

along-compared : (h : Shape) (a : Lent) (σ τ : Choice) → ((os : List Told) → Same h (σ os) (τ os)) → (os : List Told) (o : Told) (before : List Told) →
    Compared h (along (opened a σ) (o ∷ before) os) (along (opened a τ) (o ∷ before) os)
along-compared h a σ τ k [] o before = Claim.none
along-compared h a σ τ k (x ∷ os) o before = Claim.more (k (o ∷ before)) (along-compared h a σ τ k os x (o ∷ before))

length_run : (cs : List Call) (s : State) → length (map told (run s cs)) ≡ length cs
unfolding run
length_run [] s = refl
length_run (c ∷ cs) s = ap suc (length_run cs (step s c).0)

lends-length : (as' : List Lent) (cs : List Call) → Lends as' cs → length cs ≡ length as'
lends-length [] [] Claim.none = refl
lends-length (a ∷ as') (c ∷ cs) (Claim.more x y l) = ap suc (lends-length as' cs l)
lends-length [] (c ∷ cs) x'' = elim x'' [ ]
lends-length (a ∷ as') [] x3 = elim x3 [ ]

along-length : (σ : Choice) (os before : List Told) → length (along σ before os) ≡ length os
along-length σ [] before = refl
along-length σ (o ∷ os) before = ap suc (along-length σ os (o ∷ before))

module _ (lists : Claim) where
  module _ (h : Shape) (q : h.E ≡ h.N) (m w n : ℕ) where
    -- the list by what is told
    abbrev list_of : Choice → List Told → List Lent
    list_of σ os = along (opened (first h m w n) σ) [] os

    abbrev heard_of : Choice → ℕ → List ℕ → List Told
    heard_of σ k t = heard (opened (first h m w n) σ) [] (0, 0) (suc k) closed t

    -- a run gives its tape to the list of what it is told
    plays-gives : (σ : Choice) (k : ℕ) (s : State) (cs : List Call) → Plays h m w n σ k s cs → Gives s (list_of σ (map told (run s cs))) (tape_in s cs) cs
    plays-gives σ k s cs p = record { calls = chosen-lends (opened (first h m w n) σ) cs [] s p.chosen; short = p.short; loads = p.loads; tape = refl }

    heard-is : (σ : Choice) (k : ℕ) (s : State) (cs : List Call) → Plays h m w n σ k s cs → map told (run s cs) ≡ heard_of σ k (tape_in s cs)
    heard-is σ k s cs p = go (map told (run s cs)) refl
      where
        go : (os : List Told) → map told (run s cs) ≡ os → map told (run s cs) ≡ heard_of σ k (tape_in s cs)
        go [] e = absurd (omega (arith, sym (ap length e) ∙ length_run cs s ∙ p.calls))
        go (o ∷ os) e =
            let as' = along (opened (first h m w n) σ) (o ∷ []) os in
            let g : Gives s (list_of σ (o ∷ os)) (tape_in s cs) cs = subst (λ xs. Gives s (list_of σ xs) (tape_in s cs) cs) e (plays-gives σ k s cs p) in
            let x = shown h m w n as' s (tape_in s cs) cs g in
            let y = watch-heard (opened (first h m w n) σ) (o ∷ os) [] (0, 0) closed (tape_in s cs) (sym e ∙ x) in
            e ∙ y ∙ ap (λ j. heard (opened (first h m w n) σ) [] (0, 0) j closed (tape_in s cs)) (sym (ap length e) ∙ length_run cs s ∙ p.calls)

    -- and a run of that list that is told so is chosen so
    gives-plays : (σ : Choice) (k : ℕ) (s : State) (os : List Told) → length os ≡ suc k → (t : List ℕ) (cs : List Call) → Gives s (list_of σ os) t cs → map told (run s cs) ≡ os
        → Plays h m w n σ k s cs
    gives-plays σ k s os e t cs g r = record {
      calls = lends-length (list_of σ os) cs g.calls ∙ along-length (opened (first h m w n) σ) os [] ∙ e;
      short = g.short;
      loads = g.loads;
      chosen = lends-chosen (opened (first h m w n) σ) cs [] s os g.calls r;
    }

    module _ (σ τ : Choice) (alike : (os : List Told) → Same h (σ os) (τ os)) (k : ℕ) (s s' : State) where
      -- the matching of the two lists, if this is told
      abbrev matched : (o : Told) (os : List Told) → Matching (Tape s (list_of σ (o ∷ os))) (Tape s' (list_of τ (o ∷ os)))
      matched o os = (lists h q m w n _ _ (along-compared h (first h m w n) σ τ alike os o []) s s').0

      abbrev forth : List Told → List ℕ → List ℕ
      forth [] t = t
      forth (o ∷ os) t = (matched o os).f t

      abbrev back : List Told → List ℕ → List ℕ
      back [] t = t
      back (o ∷ os) t = (matched o os).g t

      matched-told : (o : Told) (os : List Told) (t : List ℕ) (cs ds : List Call) →
          Gives s (list_of σ (o ∷ os)) t cs → Gives s' (list_of τ (o ∷ os)) ((matched o os).f t) ds → map told (run s cs) ≡ map told (run s' ds)
      matched-told o os = (lists h q m w n _ _ (along-compared h (first h m w n) σ τ alike os o []) s s').1

      -- the partner's run, for what is told; and back
      goes : (os : List Told) → length os ≡ suc k → (cs : List Call) (t : List ℕ) → Gives s (list_of σ os) t cs → map told (run s cs) ≡ os →
          (ds : List Call) × ((Plays h m w n τ k s' ds × (tape_in s' ds ≡ forth os t) × (map told (run s' ds) ≡ os)) × (back os (forth os t) ≡ t))
      goes [] l cs t g r = absurd (omega arith)
      goes (o ∷ os) l cs t g r =
          let a : Tape s (list_of σ (o ∷ os)) t = (cs, g) in
          let x = (matched o os).f-ok t a in
          let e : map told (run s' x.0) ≡ o ∷ os = sym (matched-told o os t cs x.0 g x.1) ∙ r in
          (x.0, ((gives-plays τ k s' (o ∷ os) l ((matched o os).f t) x.0 x.1 e, x.1.tape, e), (matched o os).g-f t a))

      comes : (os : List Told) → length os ≡ suc k → (ds : List Call) (t : List ℕ) → Gives s' (list_of τ os) t ds → map told (run s' ds) ≡ os →
          (cs : List Call) × ((Plays h m w n σ k s cs × (tape_in s cs ≡ back os t) × (map told (run s cs) ≡ os)) × (forth os (back os t) ≡ t))
      comes [] l ds t g r = absurd (omega arith)
      comes (o ∷ os) l ds t g r =
          let b : Tape s' (list_of τ (o ∷ os)) t = (ds, g) in
          let a = (matched o os).g-ok t b in
          let z = (matched o os).f-g t b in
          let e : map told (run s a.0) ≡ o ∷ os = matched-told o os ((matched o os).g t) a.0 ds a.1 (record { calls = g.calls; short = g.short; loads = g.loads; tape = g.tape ∙ sym z }) ∙ r in
          (a.0, ((gives-plays σ k s (o ∷ os) l ((matched o os).g t) a.0 a.1 e, a.1.tape, e), z))

      told-length : (σ : Choice) (s : State) (cs : List Call) → Plays h m w n σ k s cs → length (map told (run s cs)) ≡ suc k
      told-length σ s cs p = length_run cs s ∙ p.calls

      -- the matching of tapes, each by what it has its run told
      abbrev f : List ℕ → List ℕ
      f t = forth (heard_of σ k t) t

      abbrev g : List ℕ → List ℕ
      g t = back (heard_of τ k t) t

      f-is : (cs : List Call) → Plays h m w n σ k s cs → f (tape_in s cs) ≡ forth (map told (run s cs)) (tape_in s cs)
      f-is cs p = ap (λ os. forth os (tape_in s cs)) (sym (heard-is σ k s cs p))

      g-is : (ds : List Call) → Plays h m w n τ k s' ds → g (tape_in s' ds) ≡ back (map told (run s' ds)) (tape_in s' ds)
      g-is ds p = ap (λ os. back os (tape_in s' ds)) (sym (heard-is τ k s' ds p))

      ahead : (cs : List Call) → Plays h m w n σ k s cs →
          (ds : List Call) × ((Plays h m w n τ k s' ds × (tape_in s' ds ≡ f (tape_in s cs)) × (map told (run s' ds) ≡ map told (run s cs))) × (g (f (tape_in s cs)) ≡ tape_in s cs))
      ahead cs p =
          let os = map told (run s cs) in
          let x = goes os (told-length σ s cs p) cs (tape_in s cs) (plays-gives σ k s cs p) refl in
          let e : tape_in s' x.0 ≡ f (tape_in s cs) = x.1.0.1 ∙ sym (f-is cs p) in (
            x.0,
            (
              (x.1.0.0, e, x.1.0.2),
              ap g (sym e) ∙ g-is x.0 x.1.0.0 ∙ (λ i. back (x.1.0.2 i) (x.1.0.1 i)) ∙ x.1.1,
            ),
          )

      behind : (ds : List Call) → Plays h m w n τ k s' ds →
          (cs : List Call) × ((Plays h m w n σ k s cs × (tape_in s cs ≡ g (tape_in s' ds)) × (map told (run s cs) ≡ map told (run s' ds))) × (f (g (tape_in s' ds)) ≡ tape_in s' ds))
      behind ds p =
          let os = map told (run s' ds) in
          let x = comes os (told-length τ s' ds p) ds (tape_in s' ds) (plays-gives τ k s' ds p) refl in
          let e : tape_in s x.0 ≡ g (tape_in s' ds) = x.1.0.1 ∙ sym (g-is ds p) in (
            x.0,
            (
              (x.1.0.0, e, x.1.0.2),
              ap f (sym e) ∙ f-is x.0 x.1.0.0 ∙ (λ i. forth (x.1.0.2 i) (x.1.0.1 i)) ∙ x.1.1,
            ),
          )

      partners : Matching (Uses h m w n σ k s) (Uses h m w n τ k s')
      partners = record {
        f = f;
        g = g;
        f-ok = λ t d. let x = ahead d.0 d.1.0 in (x.0, (x.1.0.0, x.1.0.1 ∙ ap f d.1.1));
        g-ok = λ t d. let x = behind d.0 d.1.0 in (x.0, (x.1.0.0, x.1.0.1 ∙ ap g d.1.1));
        g-f = λ t d. subst (λ t. g (f t) ≡ t) d.1.1 (ahead d.0 d.1.0).1.1;
        f-g = λ t d. subst (λ t. f (g t) ≡ t) d.1.1 (behind d.0 d.1.0).1.1;
      }

      same-told : (cs ds : List Call) → Plays h m w n σ k s cs → Plays h m w n τ k s' ds → f (tape_in s cs) ≡ tape_in s' ds → map told (run s cs) ≡ map told (run s' ds)
      same-told cs ds p r e =
          let x = ahead cs p in
          sym x.1.0.2 ∙ heard-is τ k s' x.0 x.1.0.0 ∙ ap (heard_of τ k) (x.1.0.1 ∙ e) ∙ sym (heard-is τ k s' ds r)

  pub chosen-from : ChosenClaim
  unfolding partners
  chosen-from h q m w n σ τ alike k s s' = (partners h q m w n σ τ alike k s s', same-told h q m w n σ τ alike k s s')

pub chosen-hidden : ChosenClaim
chosen-hidden = chosen-from hidden.lists

-- ---- With demand 2

plays-plain : Array.Claim → (h : Shape) (m w n : ℕ) (σ : Choice) (k : ℕ) (s : State) (cs : List Call) → Plays h m w n σ k s cs →
    (host : Host) → Honest host cs (run s cs) → (x : Expected) → Plain x cs (run s cs)
unfolding run
plays-plain array h m w n σ k s [] p host y x = tt
plays-plain array h m w n σ k s (c ∷ cs) p host y x = list-plain array h m w n _ s (c ∷ cs) (chosen-lends (opened (first h m w n) σ) (c ∷ cs) [] s p.chosen) p.loads host y x

pub chosen-together-from : Array.Claim → ChosenClaim → ChosenTogether
chosen-together-from array chosen h q m w n σ τ alike k s s' =
    let y = chosen h q m w n σ τ alike k s s' in (
      y.0,
      λ cs ds p r e host host' a a' x x'. (y.1 cs ds p r e, plays-plain array h m w n σ k s cs p host a x, plays-plain array h m w n τ k s' ds r host' a' x'),
    )

pub chosen-together : ChosenTogether
chosen-together = chosen-together-from plain-array chosen-hidden

-- There are such runs: put the host's bytes into a run, and it is chosen as before, with the same tape, and the host is honest
pub chosen-served : (h : Shape) (m w n : ℕ) (σ : Choice) (k : ℕ) (s : State) (cs : List Call) → Plays h m w n σ k s cs → (x : Slots) →
    Plays h m w n σ k s (served x [] s cs) × (tape_in s (served x [] s cs) ≡ tape_in s cs) × Honest (record { last = x; has = x }) (served x [] s cs) (run s (served x [] s cs))
unfolding run
chosen-served h m w n σ k s [] p x = absurd (omega (arith, p.calls))
chosen-served h m w n σ k s (c ∷ cs) p x =
    let a = opened (first h m w n) σ in
    let os = map told (run s (c ∷ cs)) in
    let r = honest-run h m w n _ s (tape_in s (c ∷ cs)) (c ∷ cs) (record { calls = chosen-lends a (c ∷ cs) [] s p.chosen; short = p.short; loads = p.loads; tape = refl }) x in (
      record {
        calls = lends-length (along a [] os) (served x [] s (c ∷ cs)) r.0.calls ∙ along-length a os [] ∙ length_run (c ∷ cs) s ∙ p.calls;
        short = r.0.short;
        loads = r.0.loads;
        chosen = lends-chosen a (served x [] s (c ∷ cs)) [] s os r.0.calls r.1;
      },
      r.0.tape,
      r.2,
    )
