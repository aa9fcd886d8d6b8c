-- The reads of a look-up, for runs of exported calls.
use Rattle.std.specs.Prelude.{◌≡◌, refl, true, false, List, [], ◌∷◌, ◌++◌, map, ℕ}
use Rattle.std.proofs.Common.{ap, sym, ◌∙◌, subst, true≢false}
use Rattle.std.proofs.Math.Option.{some}
use Rattle.lists.specs.All.{All, nil, cons}
use Rattle.rules.specs.Laws.Answers.{opens}
use Rattle.rules.proofs.Laws.Answers.{open-first}
use Rattle.rules.specs.Laws.Awaited.{Holds}
use Rattle.rules.specs.Laws.Found.{Between}
use Rattle.rules.specs.Questions.{collect, Call}
use Rattle.rules.specs.Reader.{read_partition}
use Rattle.rules.specs.Request.{held}
use Rattle.rules.specs.Run.{Outcome, step, run, after}
use Rattle.rules.specs.State.{State, closed, Command, Request}
use Rattle.client.specs.View.{state_of}
use Rattle.exports.specs.Exported.{client_in}
use Rattle.reachable.proofs.RequestReads.{reads_whole, told-whole}
use Rattle.reachable.proofs.ReadsRun.{leaves-hand}
use Rattle.reachable.specs.Terms.{CallsLeft, OfSaved, reads_sent, commands_told, as_read}
use Rattle.reachable.proofs.Theorems as Left
use Rattle.claims.specs.Claim.{Made, Runs, call_made, outcome_of, ReadsClaim}
use Rattle.claims.proofs.Found.{Quiet, told-number, collected-found}
use Rattle.claims.proofs.Steps.{made-step}

-- the outcomes of the calls that come first are those of the rules
first-told : (st m : List ℕ) (xs ys : List Made) → Runs st m (xs ++ ys) → map outcome_of xs ≡ run (state_of (client_in st) m) (map call_made xs)
unfolding run
first-told st m [] ys k = refl
first-told st m (x ∷ xs) ys k =
    let y = made-step st m k.0 x k.1.0 in
    let z = first-told x.state' (x.memory' ++ k.0) xs ys k.1.1 ∙ ap (λ s. run s (map call_made xs)) y.1 in
    λ i. y.0 i ∷ z i

abbrev Told : State → Request → List Made → Type 0
Told now r ys = (reads_sent now (map call_made ys) ≡ read_partition now r.block)
    × ((rest : List Command) × (commands_told (map outcome_of ys) ≡ map (as_read (now.partition r.block)) (read_partition now r.block) ++ rest))

-- x is called in a state that calls left
told_here : (st m : List ℕ) (ys : List Made) (x y : Made) (r : Request) → Runs st m (x ∷ (ys ++ (y ∷ []))) → let s = state_of (client_in st) m in
    CallsLeft s → Holds s.request → (step s (call_made x)).0.request ≡ some r → held r ≡ false → All Quiet ys → y.ask ≡ collect → (outcome_of y).number ≡ 0 → Told (step s (call_made x)).0 r ys
told_here st m ys x y r k l h e u q c o =
    let s = state_of (client_in st) m in
    let w = made-step st m k.0 x k.1.0 in
    let f = collected-found x.state' (x.memory' ++ k.0) ys y k.1.1 q in
    let os = first-told x.state' (x.memory' ++ k.0) ys (y ∷ []) k.1.1 ∙ ap (λ t. run t (map call_made ys)) w.1 in
    let between : Between (step s (call_made x)).0 (map call_made ys) = subst (λ t. Between t (map call_made ys)) w.1 f.0 in
    let last : outcome_of y ≡ (step (after (step s (call_made x)).0 (map call_made ys)) (call_made y)).1 = subst (λ t. outcome_of y ≡ (step (after t (map call_made ys)) (call_made y)).1) w.1 f.1 in
    let n = sym (told-number _ y last) ∙ o in
    let z = told-whole s l (call_made x) h r e u (map call_made ys) between (call_made y) c n in
    (reads_whole s l (call_made x) h r e u (map call_made ys) between (call_made y) c n, (z.0, ap commands_told os ∙ z.1))

-- from any state on, of whose calls the last is x
abbrev Reads : List Made → List Made → Made → Made → Request → State → Type 0
Reads xs ys x y r s = CallsLeft (after s (map call_made xs)) → Holds (after s (map call_made xs)).request → (after s (map call_made (xs ++ (x ∷ [])))).request ≡ some r → held r ≡ false
    → All Quiet ys → y.ask ≡ collect → (outcome_of y).number ≡ 0 → Told (after s (map call_made (xs ++ (x ∷ [])))) r ys

told-from : (st m : List ℕ) (xs ys : List Made) (x y : Made) (r : Request) → Runs st m (xs ++ (x ∷ (ys ++ (y ∷ [])))) → Reads xs ys x y r (state_of (client_in st) m)
unfolding after
told-from st m [] ys x y r k = told_here st m ys x y r k
told-from st m (z ∷ xs) ys x y r k = subst (Reads xs ys x y r) (made-step st m k.0 z k.1.0).1 (told-from z.state' (z.memory' ++ k.0) xs ys x y r k.1.1)

saved-calls : (xs : List Made) → All (λ (z : Made). OfSaved z.ask) xs → All (λ (c : Call). OfSaved c.ask) (map call_made xs)
saved-calls [] nil = nil
saved-calls (x ∷ xs) (cons k t) = cons k (saved-calls xs t)

-- the first call is an open, which has no regard for the state before it, and leaves no request in hand
pub exported-reads : ReadsClaim
unfolding after
exported-reads [] ys x y r k w h e u q c o =
    let z : opens x.ask ≡ true = ap opens k.opens.1 ∙ (unfold opens in refl) in
    absurd (true≢false (sym z ∙ leaves-hand closed (call_made x) r e))
exported-reads (z ∷ xs) ys x y r k (cons v w) h e u q c o =
    let s = state_of (client_in k.state) k.memory in
    let p = k.runs in
    let same = (made-step k.state k.memory p.0 z p.1.0).1 ∙ ap (λ (t : State × Outcome). t.0) (open-first s (call_made z) k.opens.0 k.opens.1) in
    subst (Reads xs ys x y r) same (told-from z.state' (z.memory' ++ p.0) xs ys x y r p.1.1) (Left.after_open closed (call_made z) k.opens.0 k.opens.1 (map call_made xs) (saved-calls xs w)) h e u q c o
