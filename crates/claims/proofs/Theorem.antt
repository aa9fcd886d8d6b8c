-- Demands 2 and 3 for runs of exported calls.
use Rattle.std.specs.Prelude.{◌≡◌, refl, List, [], ◌∷◌, ◌++◌, map, ℕ, length}
use Rattle.std.proofs.Common.{ap, sym, subst, ◌∙◌}
use Rattle.std.proofs.lemmas.List.{length-map}
use Rattle.lists.specs.All.{nil, cons}
use Rattle.rules.specs.Silent.{untold}
use Rattle.rules.proofs.Laws.Silent.{opened-unseen}
use Rattle.rules.specs.Questions.{request, Call, number}
use Rattle.rules.specs.Resumes.{Resumes}
use Rattle.rules.specs.Run.{Outcome, run}
use Rattle.rules.specs.Shape.{Shape}
use Rattle.rules.specs.State.{State, closed}
use Rattle.tape.specs.Tape.{words-short}
use Rattle.client.specs.View.{state_of, view}
use Rattle.contract.specs.Meets.{call_of}
use Rattle.codec.specs.Codec.{state_length}
use Rattle.exports.specs.Exported.{client_in, looked_at}
use Rattle.rules.proofs.Laws.Answers.{open-first, step-number}
use Rattle.array.specs.Claim.{Honest, Plain}
use Rattle.array.proofs.Hosts.{at_once}
use Rattle.array.specs.Served.{served}
use Rattle.array.proofs.Served.{served-at-once, served-resumes}
use Rattle.array.proofs.Theorem.{plain-array}
use Rattle.hiding.specs.Claim.{Lent, first, Lends, Short, tape_of, Gives, told}
use Rattle.hiding.specs.Chosen.{Choice, opened, Chosen, Plays}
use Rattle.hiding.proofs.Chosen.{chosen-hidden}
use Rattle.hiding.proofs.Names.{only-eight}
use Rattle.hiding.proofs.Theorem.{hidden}
use Rattle.claims.specs.Claim.{Made, Contract, Called, Runs, Opens, FromOpen, call_made, outcome_of, OwnForms, used_up, Chooses, RulesClaim, UnseenClaim, ArrayClaim, ServedClaim, HidingClaim, HonestClaim, ChosenExported, CacheClaim, CacheBytesClaim, NamesClaim}
use Rattle.claims.proofs.Steps.{made-step}

-- from any bytes of state and memory: each call finds the state that the last one left
runs-are : (st m : List ℕ) (xs : List Made) → Runs st m xs → map outcome_of xs ≡ run (state_of (client_in st) m) (map call_made xs)
unfolding run
runs-are st m [] k = refl
runs-are st m (x ∷ xs) k =
    let y = made-step st m k.0 x k.1.0 in
    let z = runs-are x.state' (x.memory' ++ k.0) xs k.1.1 ∙ ap (λ s. run s (map call_made xs)) y.1 in
    λ i. y.0 i ∷ z i

-- a run that starts with an open has no regard for the state before it
from-closed : (s : State) (xs : List Made) → Opens xs → run s (map call_made xs) ≡ run closed (map call_made xs)
unfolding run
from-closed s [] o = absurd o
from-closed s (x ∷ xs) o = ap (λ (y : State × Outcome). y.1 ∷ run y.0 (map call_made xs)) (open-first s (call_made x) o.0 o.1)

pub exported-run : RulesClaim
exported-run xs r = runs-are r.state r.memory xs r.runs ∙ from-closed (state_of (client_in r.state) r.memory) xs r.opens

pub exported-unseen : UnseenClaim
exported-unseen [] r = absurd r.opens
exported-unseen (x ∷ xs) r = ap (map untold) (exported-run (x ∷ xs) r) ∙ opened-unseen closed (call_made x) r.opens.0 r.opens.1 (map call_made xs)

-- Demand 2
pub exported-array : ArrayClaim
exported-array [] r v host m w = absurd r.opens
exported-array (x ∷ xs) r v host m w =
    let cs = map call_made (x ∷ xs) in
    let e = exported-run (x ∷ xs) r in
    subst (Plain m cs) (sym e) (plain-array closed host m r.opens.0 (call_made x) (map call_made xs) r.opens.1 (subst (Resumes [] cs) e v) (subst (Honest host cs) e w))

-- ---- Demand 3

-- the words of exported calls are of 16 bits
short-made : (xs : List Made) → Short (map call_made xs)
short-made [] = nil
short-made (x ∷ xs) = cons (words-short (looked_at x.tape)) (short-made xs)

-- the run of the rules that an exported run is, with what it used up
pub gives-run : (as' : List Lent) (xs : List Made) → FromOpen xs → OwnForms xs → Lends as' (map call_made xs) → Gives closed as' (used_up xs) (map call_made xs)
gives-run as' xs r v l = record { calls = l; short = short-made xs; loads = subst (Resumes [] (map call_made xs)) (exported-run xs r) v; tape = ap (tape_of (map call_made xs)) (sym (exported-run xs r)) }

pub exported-hiding : HidingClaim
exported-hiding h e m w n as' bs' k =
    let y = hidden.lists h e m w n as' bs' k closed closed in (
      y.0,
      (λ t a.
          let b = y.0.f-ok t a in
          sym (hidden.tapes.long h m w n as' bs' k closed closed t (y.0.f t) a.0 b.0 a.1 b.1 (y.1 t a.0 b.0 a.1 b.1))),
      (λ xs ys q r f g u v p.
          ap (map told) (exported-run xs q)
          ∙ y.1 (used_up xs) (map call_made xs) (map call_made ys) (gives-run _ xs q f u) (rw p (gives-run _ ys r g v))
          ∙ sym (ap (map told) (exported-run ys r))),
    )

-- Served by an honest host
pub exported-served : ServedClaim
exported-served x h c cs k xs q e =
    let ds = served x [] closed (c ∷ cs) in
    rw (exported-run xs q, e) (served-resumes (c ∷ cs) closed x [], at_once ds (run closed ds) x x (served-at-once closed x [] h c cs k))

-- Both, with an honest host
pub exported-honest : HonestClaim
exported-honest h e m w n as' bs' k =
    let y = exported-hiding h e m w n as' bs' k in (
      y.0,
      (λ xs ys q r f g u v p host host' c d x x'. (y.2 xs ys q r f g u v p, exported-array xs q f host x c, exported-array ys r g host' x' d)),
    )

-- Calls that are chosen by what was told
pub plays-run : (h : Shape) (m w n : ℕ) (σ : Choice) (k : ℕ) (xs : List Made) → FromOpen xs → Chooses h m w n σ k xs → Plays h m w n σ k closed (map call_made xs)
plays-run h m w n σ k xs r c = record {
  calls = length-map xs call_made ∙ c.0;
  short = short-made xs;
  loads = subst (Resumes [] (map call_made xs)) (exported-run xs r) c.2;
  chosen = subst (Chosen (opened (first h m w n) σ) [] (map call_made xs)) (exported-run xs r) c.1;
}

pub exported-chosen : ChosenExported
exported-chosen h e m w n σ τ alike k =
    let y = chosen-hidden h e m w n σ τ alike k closed closed in (
      y.0,
      (λ xs ys q r a b u.
          let p = ap (λ os. y.0.f (tape_of (map call_made xs) os)) (sym (exported-run xs q)) ∙ u ∙ ap (tape_of (map call_made ys)) (exported-run ys r) in (
            ap (map told) (exported-run xs q) ∙ y.1 (map call_made xs) (map call_made ys) (plays-run h m w n σ k xs q a) (plays-run h m w n τ k ys r b) p ∙ sym (ap (map told) (exported-run ys r)),
            (λ host host' c d x x'. (exported-array xs q a.2 host x c, exported-array ys r b.2 host' x' d)),
          )),
    )

-- The smaller cache
own : (xs : List Made) → FromOpen xs → (cs : List Call) → map call_made xs ≡ cs → OwnForms xs → Resumes [] cs (run closed cs)
own xs r cs e f = subst (λ ds. Resumes [] ds (run closed ds)) e (subst (Resumes [] (map call_made xs)) (exported-run xs r) f)

pub exported-cache : CacheClaim
exported-cache h e lo hi m n ws cs ds k l xs ys q r f g u v =
    rw (exported-run xs q ∙ ap (run closed) u, exported-run ys r ∙ ap (run closed) v) (hidden.cache.tells h e lo hi m n ws cs ds k l closed closed (own xs q _ u f) (own ys r _ v g))

pub exported-cache-bytes : CacheBytesClaim
exported-cache-bytes h e lo hi m n ws cs ds k l xs ys q r f g u v =
    rw (exported-run xs q ∙ ap (run closed) u, exported-run ys r ∙ ap (run closed) v, u, v) (hidden.cache.whole h e lo hi m n ws cs ds k l closed closed (own xs q _ u f) (own ys r _ v g))

-- Requests and names
asked-number : (x : Made) (k b : ℕ) (bs : List ℕ) → x.ask ≡ request k b bs → Called x → length x.state ≡ state_length
    → (outcome_of x).number ≡ number (state_of (client_in x.state) x.memory) (call_of (request k b bs) x.memory (looked_at x.tape) x.buffer)
asked-number x k b bs e c l =
    let y : Contract (request k b bs) x = subst (λ a. Contract a x) e c.0 in
    (y.meets l).number ∙ step-number (state_of (client_in x.state) x.memory) (call_of (request k b bs) x.memory (looked_at x.tape) x.buffer)

pub exported-names : NamesClaim
unfolding state_of view
exported-names x y k b k' b' bs bs' e e' c c' l s m w f f' =
    let d = call_of (request k b bs) x.memory (looked_at x.tape) x.buffer in
    let d' = call_of (request k' b' bs') y.memory (looked_at y.tape) y.buffer in
    let z : number (state_of (client_in y.state) y.memory) d' ≡ number (state_of (client_in x.state) x.memory) d' = λ i. number (state_of (client_in (sym s i)) (sym m i)) d' in
    rw (asked-number x k b bs e c l, asked-number y k' b' bs' e' c' (ap length (sym s) ∙ l) ∙ z)
    (only-eight (state_of (client_in x.state) x.memory) d d' k b k' b' bs bs' refl refl f f' (ap length m) w (words-short (looked_at x.tape)) (words-short (looked_at y.tape)))
