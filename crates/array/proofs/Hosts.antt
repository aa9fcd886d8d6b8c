-- Two hosts that the claim's premise covers: one takes a write's bytes when the turn sends it, one only when its completion is accepted.
use Rattle.std.specs.Prelude.{◌≡◌, refl, ◌⊎◌, Bool, true, false, List, [], ◌∷◌, ℕ, eqb, if◌then◌else◌}
use Rattle.std.proofs.Common.{sym, ◌∙◌, inl, inr, arith, eqb-true, eq-eqb, ne_eqb}
use Rattle.rules.specs.Resumes.{Resumes}
use Rattle.rules.specs.Questions.{Ask, opening, request, turn, completion, collect, save, load, Call}
use Rattle.rules.specs.Run.{Outcome, run}
use Rattle.rules.specs.Shape.{Shape}
use Rattle.rules.specs.State.{State, write}
use Rattle.reachable.proofs.Outstanding.{dec_one}
use Rattle.reachable.specs.Terms.{One}
use Rattle.array.specs.Claim.{Slots, sends, Brings, Honest, store, Expected, Plain}
use Rattle.array.proofs.Slots.{store-no, store-yes, store-not}
use Rattle.array.proofs.Theorem.{plain-array}
use Rattle.array.specs.Hosts.{AtCompletion, AtOnce, Fetches, landed, lands}

once-brings : (x : Slots) (a : Ask) → Fetches x a → Brings x x a
once-brings x (opening h) w = tt
once-brings x (request k b bs) w = tt
once-brings x turn w = tt
once-brings x (completion c bs) w = ((λ e. refl), w)
once-brings x collect w = tt
once-brings x save w = tt
once-brings x (load form) w = tt

pub at_once : (cs : List Call) (os : List Outcome) (x has : Slots) → AtOnce x cs os → Honest (record { last = x; has = has }) cs os
at_once [] os x has w = tt
at_once (c ∷ cs) [] x has w = tt
at_once (c ∷ cs) (o ∷ os) x has w = (x, ((λ q ℓ i. inr refl), (λ e. once-brings x c.ask (w.0 e)), at_once cs os (sends x o) x w.1))

lands-moves : (last x : Slots) (a : Ask) (q ℓ i : ℕ) → (lands last a x q ℓ i ≡ x q ℓ i) ⊎ (lands last a x q ℓ i ≡ last q ℓ i)
unfolding lands
lands-moves last x (opening h) q ℓ i = inl refl
lands-moves last x (request k b bs) q ℓ i = inl refl
lands-moves last x turn q ℓ i = inl refl
lands-moves last x (completion c bs) q ℓ i = go (eqb c.kind write) refl (dec_one q ℓ i c.partition c.level c.slot)
  where
    bytes : List ℕ
    bytes = last c.partition c.level c.slot

    go : (t : Bool) → eqb c.kind write ≡ t → Dec (One q ℓ i c.partition c.level c.slot) → (store c bytes x q ℓ i ≡ x q ℓ i) ⊎ (store c bytes x q ℓ i ≡ last q ℓ i)
    go false e d = inl (store-no c bytes x e q ℓ i)
    go true e (yes w) = inr (store-yes c bytes x (eqb-true c.kind write e) q ℓ i w ∙ rw (w.0, w.1, w.2))
    go true e (no w) = inl (store-not c bytes x q ℓ i w)
lands-moves last x collect q ℓ i = inl refl
lands-moves last x save q ℓ i = inl refl
lands-moves last x (load form) q ℓ i = inl refl

landed-moves : (last x : Slots) (a : Ask) (o : Outcome) (q ℓ i : ℕ) → (landed last a o x q ℓ i ≡ x q ℓ i) ⊎ (landed last a o x q ℓ i ≡ last q ℓ i)
unfolding landed
landed-moves last x a o q ℓ i = go (eqb o.number 0)
  where
    go : (t : Bool) → ((if t then lands last a x else x) q ℓ i ≡ x q ℓ i) ⊎ ((if t then lands last a x else x) q ℓ i ≡ last q ℓ i)
    go true = lands-moves last x a q ℓ i
    go false = inl refl

landed-brings : (last x : Slots) (a : Ask) (o : Outcome) → o.number ≡ 0 → Fetches x a → Brings last (landed last a o x) a
unfolding landed lands
landed-brings last x (opening h) o e w = tt
landed-brings last x (request k b bs) o e w = tt
landed-brings last x turn o e w = tt
landed-brings last x (completion c bs) o e w = rw (eq-eqb o.number 0 e) (
  (λ k. store-yes c (last c.partition c.level c.slot) x k c.partition c.level c.slot (refl, refl, refl)),
  (λ k. w k ∙ sym (store-no c (last c.partition c.level c.slot) x (ne_eqb c.kind write (λ z. let v : ◌≡◌ {A = ℕ} 1 2 = sym k ∙ z in omega arith)) c.partition c.level c.slot)),
)
landed-brings last x collect o e w = tt
landed-brings last x save o e w = tt
landed-brings last x (load form) o e w = tt

pub at-completion : (cs : List Call) (os : List Outcome) (last x : Slots) → AtCompletion last x cs os → Honest (record { last = last; has = x }) cs os
at-completion [] os last x w = tt
at-completion (c ∷ cs) [] last x w = tt
at-completion (c ∷ cs) (o ∷ os) last x w = (
  landed last c.ask o x,
  (landed-moves last x c.ask o, (λ e. landed-brings last x c.ask o e (w.0 e)), at-completion cs os (sends last o) (landed last c.ask o x) w.1),
)

-- ---- The theorem for each of them

pub plain-at-once : (s : State) (x : Slots) (m : Expected) (h : Shape) (c : Call) (cs : List Call) → c.ask ≡ opening h → Resumes [] (c ∷ cs) (run s (c ∷ cs)) → AtOnce x (c ∷ cs) (run s (c ∷ cs)) → Plain m (c ∷ cs) (run s (c ∷ cs))
plain-at-once s x m h c cs e r w = plain-array s (record { last = x; has = x }) m h c cs e r (at_once (c ∷ cs) (run s (c ∷ cs)) x x w)

pub plain-at-completion : (s : State) (last x : Slots) (m : Expected) (h : Shape) (c : Call) (cs : List Call) → c.ask ≡ opening h → Resumes [] (c ∷ cs) (run s (c ∷ cs)) → AtCompletion last x (c ∷ cs) (run s (c ∷ cs)) → Plain m (c ∷ cs) (run s (c ∷ cs))
plain-at-completion s last x m h c cs e r w = plain-array s (record { last = last; has = x }) m h c cs e r (at-completion (c ∷ cs) (run s (c ∷ cs)) last x w)
