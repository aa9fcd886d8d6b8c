-- Document 02, P6: what is sent for a request from its release to its collect.
use Rattle.std.specs.Prelude.{◌≡◌, refl, ◌⊎◌, Bool, true, false, not, ◌&&◌, List, [], ◌∷◌, ◌++◌, map, ℕ, ◌-◌, eqb, length, if◌then◌else◌}
use Rattle.std.proofs.Math.Path.{ap}
use Rattle.std.proofs.Common.{sym, ◌∙◌, inl, inr, ⊎_elim, true≢false, append_assoc, arith, eqb-true}
use Rattle.std.proofs.lemmas.List.{map-append}
use Rattle.std.proofs.Math.Option
use Rattle.std.proofs.Math.Option.{Option, none, some}
use Rattle.std.proofs.Math.Dec.{ltb}
use Rattle.std.proofs.lemmas.Bool.{eqb-false}
use Rattle.lists.specs.Members.{keep-cons}
use Rattle.lists.specs.Search.{below, count, keep}
use Rattle.rules.specs.Blocks.{look_up}
use Rattle.rules.specs.Collect
use Rattle.rules.specs.Draws.{draws}
use Rattle.rules.specs.Laws.Answers.{opens}
use Rattle.rules.proofs.Laws.Answers.{accepted-passed, accepted-leaves, step-refused, refused-keeps, Passed}
use Rattle.rules.proofs.Laws.Asked.{loaded-idle}
use Rattle.rules.specs.Laws.Awaited.{Holds}
use Rattle.rules.proofs.Laws.Awaited.{perform-held}
use Rattle.rules.specs.Laws.Found.{Between}
use Rattle.rules.specs.Open.{fresh}
use Rattle.rules.specs.Questions.{Ask, opening, request, turn, completion, collect, save, load, Call, questions, bounds, number, in_hand}
use Rattle.rules.specs.Reader.{read_levels, read_partition}
use Rattle.rules.specs.Request
use Rattle.rules.specs.Request.{held, release, released_in, with_found}
use Rattle.rules.specs.Run
use Rattle.rules.specs.Run.{Outcome, step, run, after}
use Rattle.rules.specs.State.{State, Command, Request, closed}
use Rattle.reachable.proofs.Consequences.{finished-left}
use Rattle.reachable.specs.Invariant.{Reached}
use Rattle.reachable.proofs.Reached.{Was, was-reached, performed-kept, step-was, brings-other}
use Rattle.reachable.proofs.ReadsLeft.{remaining, remaining-none}
use Rattle.reachable.proofs.ReadsSent.{Goes, step-goes}
use Rattle.reachable.proofs.Settled.{no-request}
use Rattle.reachable.specs.Terms.{reads_by, reads_sent, commands_told, as_read}

-- what a list of calls tells: these reads and no more yet, or all that the reader has left, and then others
abbrev pub Told : ℕ → List Command → List (ℕ × ℕ) → List (ℕ × ℕ) → Type 0
Told q cs sent left = (cs ≡ map (as_read q) sent) ⊎ ((rest : List Command) × (cs ≡ map (as_read q) left ++ rest))

-- From s these calls are made while the request r stays in hand
pub record Sends (s : State) (cs : List Call) (r : Request) : Type 0 where
  pub asked : Request
  pub in_hand : (after s cs).request ≡ some asked
  pub unheld : held asked ≡ false
  pub block : asked.block ≡ r.block
  pub part : (after s cs).partition r.block ≡ s.partition r.block
  pub place : (after s cs).place r.block ≡ s.place r.block
  pub left : remaining s r ≡ reads_sent s cs ++ remaining (after s cs) asked
  pub tells : Told (s.partition r.block) (commands_told (run s cs)) (reads_sent s cs) (remaining s r)

pub run-sends : (cs : List Call) (s : State) → Was s → (r : Request) → s.request ≡ some r → held r ≡ false → Between s cs → Sends s cs r
unfolding run after reads_sent
run-sends [] s l r e u h = record { asked = r; in_hand = e; unheld = u; block = refl; part = refl; place = refl; left = refl; tells = inl (unfold commands_told keep in refl) }
run-sends (c ∷ cs) s l r e u h = go (step-goes s l r e u c h.0 h.1) (run-sends cs (step s c).0 (step-was s c (brings-other c.ask h.0) l))
  where
    go : (g : Goes s (step s c).0 r (reads_by s c) (step s c).1.command) → ((r : Request) → (step s c).0.request ≡ some r → held r ≡ false → Between (step s c).0 cs → Sends (step s c).0 cs r)
        → Sends s (c ∷ cs) r
    go g ih = record {
      asked = w.asked;
      in_hand = w.in_hand;
      unheld = w.unheld;
      block = w.block ∙ g.block;
      part = ap (after (step s c).0 cs).partition (sym g.block) ∙ w.part ∙ same;
      place = ap (after (step s c).0 cs).place (sym g.block) ∙ w.place ∙ ap (step s c).0.place g.block ∙ g.place;
      left = g.left ∙ ap (λ l. reads_by s c ++ l) w.left ∙ sym (append_assoc (reads_by s c) (reads_sent (step s c).0 cs) (remaining (after (step s c).0 cs) w.asked));
      tells = ⊎_elim (λ a. ⊎_elim (inl-inl a) (inl-inr a) tells) (λ a. inr (commands_told (run s (c ∷ cs)), ap (λ x. map (as_read q) x ++ commands_told (run s (c ∷ cs))) (sym a))) g.told;
    }
      where
        q : ℕ
        q = s.partition r.block

        w : Sends (step s c).0 cs g.asked
        w = ih g.asked g.in_hand g.unheld h.2

        same : (step s c).0.partition g.asked.block ≡ s.partition r.block
        same = ap (step s c).0.partition g.block ∙ g.part

        tells : Told (s.partition r.block) (commands_told (run (step s c).0 cs)) (reads_sent (step s c).0 cs) (remaining (step s c).0 g.asked)
        tells = rw same at w.tells

        split : commands_told (run s (c ∷ cs)) ≡ keep (λ (x : Command). ltb 0 x.kind) ((step s c).1.command ∷ []) ++ commands_told (run (step s c).0 cs)
        split = unfold commands_told run in (keep-cons (λ (x : Command). ltb 0 x.kind) (step s c).1.command (map (λ (o : Outcome). o.command) (run (step s c).0 cs)))

        inl-inl : keep (λ (x : Command). ltb 0 x.kind) ((step s c).1.command ∷ []) ≡ map (as_read (s.partition r.block)) (reads_by s c)
            → commands_told (run (step s c).0 cs) ≡ map (as_read (s.partition r.block)) (reads_sent (step s c).0 cs)
            → Told (s.partition r.block) (commands_told (run s (c ∷ cs))) (reads_by s c ++ reads_sent (step s c).0 cs) (remaining s r)
        inl-inl a b = inl (split ∙ ap (λ x. x ++ commands_told (run (step s c).0 cs)) a ∙ ap (λ x. map (as_read q) (reads_by s c) ++ x) b ∙ sym (map-append (as_read q) (reads_by s c) (reads_sent (step s c).0 cs)))

        inl-inr : keep (λ (x : Command). ltb 0 x.kind) ((step s c).1.command ∷ []) ≡ map (as_read (s.partition r.block)) (reads_by s c)
            → ((rest : List Command) × (commands_told (run (step s c).0 cs) ≡ map (as_read (s.partition r.block)) (remaining (step s c).0 g.asked) ++ rest))
            → Told (s.partition r.block) (commands_told (run s (c ∷ cs))) (reads_by s c ++ reads_sent (step s c).0 cs) (remaining s r)
        inl-inr a b = inr (
          b.0,
          split
              ∙ ap (λ x. x ++ commands_told (run (step s c).0 cs)) a
              ∙ ap (λ x. map (as_read q) (reads_by s c) ++ x) b.1
              ∙ sym (append_assoc (map (as_read q) (reads_by s c)) (map (as_read q) (remaining (step s c).0 g.asked)) b.0)
              ∙ ap (λ x. x ++ b.0) (sym (map-append (as_read q) (reads_by s c) (remaining (step s c).0 g.asked)))
              ∙ ap (λ x. map (as_read q) x ++ b.0) (sym g.left),
        )

-- the state that such calls leave
pub between-was : (cs : List Call) (s : State) → Was s → Between s cs → Was (after s cs)
unfolding after
between-was [] s l h = l
between-was (c ∷ cs) s l h = between-was cs (step s c).0 (step-was s c (brings-other c.ask h.0) l) h.2

-- ---- The release: a call after which the request in hand is released, and before which there was none, or a held one

one : {x y : Request} → some x ≡ some y → x ≡ y
one e = cc

-- neither an open nor a load leaves a request in hand
pub leaves-hand : (s : State) (k : Call) (r : Request) → (step s k).0.request ≡ some r → opens k.ask ≡ false
leaves-hand s k r e = go (eqb (number s k) 0) refl k.ask refl
  where
    js : List ℕ
    js = Run.numbers_of (draws (bounds s k.ask) k.words)

    none_left : (t : State) → t.request ≡ none → (release t).request ≡ none
    none_left t z = ap (Option.map (released_in t)) z

    empty : (a : Ask) → k.ask ≡ a → (t : Bool) → eqb (number s k) 0 ≡ t → ((Run.perform s a js).request ≡ none) → ((Run.refuse s a).request ≡ none) → ⊥
    empty a w true z x y = no-request r (sym (ap (λ (t : State). t.request) (accepted-leaves s k (eqb-true (number s k) 0 z)) ∙ none_left (Run.perform s k.ask js) (ap (λ b. (Run.perform s b js).request) w ∙ x)) ∙ e)
    empty a w false z x y = no-request r (sym (ap (λ (p : State × Outcome). p.0.request) (step-refused s k (eqb-false (number s k) 0 z)) ∙ ap (λ b. (Run.refuse s b).request) w ∙ y) ∙ e)

    go : (t : Bool) → eqb (number s k) 0 ≡ t → (a : Ask) → k.ask ≡ a → opens k.ask ≡ false
    go t z (opening h) w = absurd (empty (opening h) w t z (unfold Run.perform fresh in refl) (unfold Run.refuse closed in refl))
    go t z (request j b bs) w = ap opens w ∙ (unfold opens in refl)
    go t z turn w = ap opens w ∙ (unfold opens in refl)
    go t z (completion c bs) w = ap opens w ∙ (unfold opens in refl)
    go t z collect w = ap opens w ∙ (unfold opens in refl)
    go t z save w = ap opens w ∙ (unfold opens in refl)
    go t z (load form) w = absurd (empty (load form) w t z (unfold Run.perform in (loaded-idle form)) (unfold Run.refuse closed in refl))

-- a request that is released now has passed no level, and its block is found where it is
release-first : (s : State) → Reached s → Holds s.request → (r : Request) → (release s).request ≡ some r → held r ≡ false → (r.level ≡ 0) × (r.found ≡ some (look_up s r.block))
release-first s f n r e u = go s.request refl e
  where
    by : (x : Request) → s.request ≡ some x → (t : Bool) → (if t then with_found (look_up s x.block) (length s.outstanding) x else x) ≡ r → (r.level ≡ 0) × (r.found ≡ some (look_up s r.block))
    by x z true w = (ap (λ (y : Request). y.level) (sym w) ∙ ⊎_elim (λ k. k) (λ k. absurd (true≢false (sym (n x z) ∙ k))) (f.unheld x z), rw (← w) refl)
    by x z false w = absurd (true≢false (sym (n x z) ∙ ap held w ∙ u))

    go : (o : Option Request) → s.request ≡ o → Option.map (released_in s) o ≡ some r → (r.level ≡ 0) × (r.found ≡ some (look_up s r.block))
    go none z w = absurd (no-request r w)
    go (some x) z w = by x z (held x && not (Request.blocked s x)) (unfold released_in in (one w))

pub released-first : (s : State) → Was s → (k : Call) → Holds s.request → (r : Request) → (step s k).0.request ≡ some r → held r ≡ false → (r.level ≡ 0) × (r.found ≡ some (look_up (step s k).0 r.block))
unfolding look_up
released-first s l k n r e u = go (eqb (number s k) 0) refl
  where
    calls : opens k.ask ≡ false
    calls = leaves-hand s k r e

    js : List ℕ
    js = Run.numbers_of (draws (bounds s k.ask) k.words)

    go : (t : Bool) → eqb (number s k) 0 ≡ t → (r.level ≡ 0) × (r.found ≡ some (look_up (step s k).0 r.block))
    go true z =
        let w = eqb-true (number s k) 0 z in
        let y = release-first (Run.perform s k.ask js) (performed-kept s k.ask k.memory k.words k.buffer l (accepted-passed s k w) (brings-other k.ask calls)) (perform-held s k.ask js n) r (rw (accepted-leaves s k w) at e) u in
        (y.0, y.1 ∙ ap (λ (t : State). some (look_up t r.block)) (sym (accepted-leaves s k w)))
    go false z = absurd (true≢false (sym (n r (ap (λ (t : State). t.request) (sym (refused-keeps s k calls (eqb-false (number s k) 0 z))) ∙ e)) ∙ u))

-- Then the reader has all its reads left
pub remaining-all : (s : State) (r : Request) → r.level ≡ 0 → remaining s r ≡ read_partition s r.block
unfolding remaining read_partition below
remaining-all s r e = let z : s.shape.L - 0 ≡ s.shape.L = omega arith in ap (λ n. read_levels s r.block (count n (s.shape.L - n))) e ∙ ap (λ n. read_levels s r.block (count 0 n)) z

-- ---- The collect: the request is finished, so the reader has no read left
pub collect-none : (s : State) → Was s → (r : Request) → s.request ≡ some r → (n : Call) → n.ask ≡ collect → number s n ≡ 0 → remaining s r ≡ []
unfolding questions in_hand
collect-none s l r e n a k = go (rw a at (accepted-passed s n k))
  where
    go : Passed (questions s collect n.memory n.words n.buffer) → remaining s r ≡ []
    go p = remaining-none s r (finished-left s (was-reached s n.memory l p.0) r (ap (in_hand (Collect.finished s)) (sym e) ∙ p.1.1.0))
