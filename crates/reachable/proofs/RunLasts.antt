-- Document 02, P7: that the number of jobs of a run is fixed, over lists of calls.
use Rattle.std.proofs.Math.Path.{◌≡◌, refl, ap, sym}
use Rattle.std.proofs.Common.{◌∙◌, arith}
use Rattle.std.specs.Prelude.{◌⊎◌, List, [], ◌∷◌, ℕ}
use Rattle.std.proofs.Math.Logic.{inl, inr}
use Rattle.std.proofs.Math.Bool.{false}
use Rattle.std.proofs.Math.ListN.{length}
use Rattle.lists.specs.All.{All, nil, cons}
use Rattle.rules.specs.Laws.Answers.{opens}
use Rattle.rules.specs.Questions.{completion, Call}
use Rattle.rules.specs.Run.{step, after}
use Rattle.rules.specs.State.{State, Command}
use Rattle.reachable.specs.Terms.{CallsLeft, called, Ends, Unended}
use Rattle.reachable.proofs.Runs.{run-fixed}

-- Over calls that are no opens and no loads: while no completion moves the queue, a run that has begun is of the jobs that it began with
pub run-lasts : (left : State) → CallsLeft left → (ds : List Call) → All (λ (d : Call). opens d.ask ≡ false) ds → Unended left ds → (left.begun ≡ 0 → ⊥) → (after left ds).begun ≡ left.begun
unfolding after
run-lasts left calls [] nil v n = refl
run-lasts left calls (d ∷ ds) (cons o os) v n = go (run-lasts (step left d).0 (called d calls o refl) ds os v.1) (run-fixed left calls d o n)
  where
    go : (((step left d).0.begun ≡ 0 → ⊥) → (after (step left d).0 ds).begun ≡ (step left d).0.begun) → ((step left d).0.begun ≡ left.begun) ⊎ ((c : Command) × (bs : List ℕ) × ((d.ask ≡ completion c bs) × Ends left (step left d).0)) → (after (step left d).0 ds).begun ≡ left.begun
    go later (inl w) = later (λ z. n (sym w ∙ z)) ∙ w
    go later (inr w) = let x = w.2.1 in absurd (omega (arith, x.fewer, x.some-jobs, ap length (v.0 w.0 w.1 w.2.0)))
