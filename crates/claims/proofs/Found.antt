-- Where a block was found, for runs of exported calls.
use Rattle.std.specs.Prelude.{◌≡◌, false, List, [], ◌∷◌, ◌++◌, map, ℕ}
use Rattle.std.proofs.Common.{ap, sym, ◌∙◌, subst}
use Rattle.lists.specs.All.{All, nil, cons}
use Rattle.rules.specs.Laws.Answers.{opens}
use Rattle.rules.proofs.Laws.Answers.{open-first, step-number}
use Rattle.rules.specs.Laws.Found.{first_found, Between}
use Rattle.rules.proofs.Laws.Found.{found-when-released}
use Rattle.rules.specs.Questions.{request, collect, number}
use Rattle.rules.specs.Run.{Outcome, step, after}
use Rattle.rules.specs.State.{State, closed}
use Rattle.client.specs.View.{state_of}
use Rattle.exports.specs.Exported.{client_in}
use Rattle.claims.specs.Claim.{Made, Runs, Opens, call_made, outcome_of, FoundClaim}
use Rattle.claims.proofs.Steps.{made-step}

abbrev pub Quiet : Made → Type 0
Quiet z = (opens z.ask ≡ false) × (z.ask ≡ collect → (outcome_of z).number ≡ 0 → ⊥)

-- the number of a call is that of the rules
pub told-number : (s : State) (x : Made) → outcome_of x ≡ (step s (call_made x)).1 → (outcome_of x).number ≡ number s (call_made x)
told-number s x e = ap (λ (o : Outcome). o.number) e ∙ step-number s (call_made x)

-- the calls up to the collect, from the state that the request left
pub collected-found : (st m : List ℕ) (ys : List Made) (y : Made) → Runs st m (ys ++ (y ∷ [])) → All Quiet ys →
    Between (state_of (client_in st) m) (map call_made ys) × (outcome_of y ≡ (step (after (state_of (client_in st) m) (map call_made ys)) (call_made y)).1)
unfolding after
collected-found st m [] y k nil = (tt, (made-step st m k.0 y k.1.0).0)
collected-found st m (z ∷ ys) y k (cons q qs) =
    let w = made-step st m k.0 z k.1.0 in
    let s = state_of (client_in st) m in
    let r = collected-found z.state' (z.memory' ++ k.0) ys y k.1.1 qs in (
      (q.0, (λ e n. q.1 e (told-number s z w.0 ∙ n)), subst (λ t. Between t (map call_made ys)) w.1 r.0),
      subst (λ t. outcome_of y ≡ (step (after t (map call_made ys)) (call_made y)).1) w.1 r.1,
    )

-- from any state on
found_from : (st m : List ℕ) (xs ys : List Made) (x y : Made) (k b : ℕ) (bs : List ℕ) → Runs st m (xs ++ (x ∷ (ys ++ (y ∷ [])))) → x.ask ≡ request k b bs → (outcome_of x).number ≡ 0
    → All Quiet ys → y.ask ≡ collect → (outcome_of y).number ≡ 0 → (outcome_of y).found ≡ first_found (after (state_of (client_in st) m) (map call_made (xs ++ (x ∷ [])))) b (map call_made ys)
unfolding after
found_from st m [] ys x y k b bs r a n q c o =
    let s = state_of (client_in st) m in
    let w = made-step st m r.0 x r.1.0 in
    let f = collected-found x.state' (x.memory' ++ r.0) ys y r.1.1 q in
    let between : Between (step s (call_made x)).0 (map call_made ys) = subst (λ t. Between t (map call_made ys)) w.1 f.0 in
    let last : outcome_of y ≡ (step (after (step s (call_made x)).0 (map call_made ys)) (call_made y)).1 = subst (λ t. outcome_of y ≡ (step (after t (map call_made ys)) (call_made y)).1) w.1 f.1 in
    ap (λ (z : Outcome). z.found) last
    ∙ found-when-released s (call_made x) k b bs a (sym (told-number s x w.0) ∙ n) (map call_made ys) between (call_made y) c (sym (told-number _ y last) ∙ o)
found_from st m (z ∷ xs) ys x y k b bs r a n q c o =
    let w = made-step st m r.0 z r.1.0 in
    found_from z.state' (z.memory' ++ r.0) xs ys x y k b bs r.1.1 a n q c o ∙ ap (λ s. first_found (after s (map call_made (xs ++ (x ∷ [])))) b (map call_made ys)) w.1

-- the first call is an open, which has no regard for the state before it
pub after_open : (s : State) (xs ys : List Made) (x : Made) → Opens (xs ++ (x ∷ ys)) → after s (map call_made (xs ++ (x ∷ []))) ≡ after closed (map call_made (xs ++ (x ∷ [])))
unfolding after
after_open s [] ys x o = ap (λ (t : State × Outcome). t.0) (open-first s (call_made x) o.0 o.1)
after_open s (z ∷ xs) ys x o = ap (λ (t : State × Outcome). after t.0 (map call_made (xs ++ (x ∷ [])))) (open-first s (call_made z) o.0 o.1)

pub exported-found : FoundClaim
exported-found xs ys x y k b bs r a n q c o =
    found_from r.state r.memory xs ys x y k b bs r.runs a n q c o
    ∙ ap (λ s. first_found s b (map call_made ys)) (after_open (state_of (client_in r.state) r.memory) xs (ys ++ (y ∷ [])) x r.opens)
