-- What waits fits into a cache of e places, and goes on to after every accepted call.
use Rattle.std.specs.Prelude.{◌≡◌, false, List, ℕ, suc, ◌≤◌, length}
use Rattle.std.proofs.Math.Path.{refl, ap}
use Rattle.std.proofs.Common.{true≢false, arith}
use Rattle.std.proofs.Math.Option.{Option, none, some}
use Rattle.std.proofs.Math.ListN.{length-append}
use Rattle.rules.specs.Completion.{complete}
use Rattle.rules.proofs.Laws.Kept.{released-waits}
use Rattle.rules.proofs.Laws.Shapes.{unawaited}
use Rattle.rules.specs.Laws.Waiting.{Waits}
use Rattle.rules.proofs.Laws.Waiting.{pass-waits, waits-le, others-room, leave-waits}
use Rattle.rules.specs.Questions.{Ask, opening, request, turn, completion, collect, questions, save, load}
use Rattle.rules.specs.Collect
use Rattle.rules.specs.Run
use Rattle.rules.specs.Run.{act}
use Rattle.rules.specs.Turn
use Rattle.rules.specs.Turn.{Step, idle, no_dummy, read_for_request, read_for_job, rebuild, write_next, decide, do_step}
use Rattle.rules.specs.State.{State, Request}
use Rattle.rules.specs.Rebuild
use Rattle.rules.specs.Laws.Answers.{opens}
use Rattle.rules.proofs.Laws.Answers.{Passed}
use Rattle.rules.specs.Request
use Rattle.hiding.proofs.Unchanged.{Rest, complete-rest}
use Rattle.hiding.proofs.Cache.Over.{with_e}

-- The invariant: the shape stays, and what waits fits
pub record Fits (e n : ℕ) (s : State) : Type 0 where
  pub room : n ≤ s.shape.N
  pub waits : Waits e s.waiting s.request

module _ (e n : ℕ) (s : State) (f : Fits e n s) where
  do_step-fits : (x : Step) (js : List ℕ) → Fits e n (do_step x js s)
  unfolding do_step Turn.mark_read Turn.send Rebuild.do_rebuild
  do_step-fits idle js = f
  do_step-fits no_dummy js = f
  do_step-fits (read_for_request q ℓ i) js = record { room = f.room; waits = pass-waits e ℓ (suc (length s.outstanding)) s.waiting s.request f.waits }
  do_step-fits (read_for_job q ℓ i) js = record { room = f.room; waits = f.waits }
  do_step-fits (rebuild q ls) js = record { room = f.room; waits = leave-waits e s.waiting (Rebuild.chosen s q) s.request f.waits }
  do_step-fits (write_next q t i) js = record { room = f.room; waits = f.waits }

  collected-fits : (r : Option Request) → s.request ≡ r → Fits e n (Collect.collected r s)
  unfolding Collect.collected Collect.finish
  collected-fits none q = f
  collected-fits (some r) q = record { room = f.room; waits = rw length-append (omega (arith, rw q at f.waits)) }

  -- what a request awaits plays no part
  less : (xs : List ℕ) (o : Option Request) → Waits e xs o → Waits e xs (unawaited o)
  less xs none h = h
  less xs (some r) h = h

  more : (xs : List ℕ) (o : Option Request) → Waits e xs (unawaited o) → Waits e xs o
  more xs none h = h
  more xs (some r) h = h

  perform-fits : (a : Ask) (m : ℕ) (ws : List ℕ) (k : ℕ) (js : List ℕ) → opens a ≡ false → Passed (questions (with_e e s) a m ws k) → Fits e n (Run.perform s a js)
  unfolding Run.perform questions opens Request.accept
  perform-fits (opening h) m ws k js o p = absurd (true≢false o)
  perform-fits (request j b bs) m ws k js o p = record {
    room = f.room;
    waits = let h = waits-le e s.waiting s.request f.waits in (h, others-room e b s.waiting h p.1.1.1.1.1.0);
  }
  perform-fits turn m ws k js o p = do_step-fits (decide s) js
  perform-fits (completion c bs) m ws k js o p =
      let q = complete-rest s c bs in
      record {
        room = rw (ap (λ (x : Rest). x.shape) q) f.room;
        waits = more (complete c bs s).waiting (complete c bs s).request (rw (ap (λ (x : Rest). x.request) q, ap (λ (x : Rest). x.waiting) q) (less s.waiting s.request f.waits));
      }
  perform-fits collect m ws k js o p = collected-fits s.request refl
  perform-fits save m ws k js o p = f
  perform-fits (load form) m ws k js o p = absurd (true≢false o)

release-fits : (e n : ℕ) (s : State) → Fits e n s → Fits e n (Request.release s)
release-fits e n s f = record { room = f.room; waits = released-waits s e s.waiting s.request f.waits }

pub act-fits : (e n : ℕ) (s : State) → Fits e n s → (a : Ask) (m : ℕ) (ws : List ℕ) (k : ℕ) (js : List ℕ) → opens a ≡ false → Passed (questions (with_e e s) a m ws k) → Fits e n (act s a js)
unfolding act
act-fits e n s f a m ws k js o p = release-fits e n (Run.perform s a js) (perform-fits e n s f a m ws k js o p)
