-- A turn and a completion store the numbers that they change, and the bytes then say the same as if all that tell how far the client is were stored. So
-- they stand for the state that is left before a request is released.
use Rattle.std.specs.Prelude.{◌≡◌, Bool, true, false, ℕ, ◌%◌, length, eqb, if◌then◌else◌}
use Rattle.std.proofs.Math.Path.{refl, ap, sym}
use Rattle.std.proofs.Common.{◌∙◌, subst, true≢false, eqb-true}
use mathlib.Core.List.{List, []}
use Rattle.std.proofs.Math.Option.{Option, none, some}
use Rattle.std.proofs.Math.Decide.{ℕ_discrete}
use Rattle.std.proofs.lemmas.Bool.{eqb-false}
use Rattle.lists.specs.Search.{is_none}
use Rattle.lists.specs.Tables.{put}
use Rattle.rules.specs.Draws.{draws}
use Rattle.rules.specs.Laws.Answers.{opens}
use Rattle.rules.proofs.Laws.Asked.{asked, turn-asked, completion-asked}
use Rattle.rules.specs.Laws.Range.{InRange}
use Rattle.rules.proofs.Laws.Shapes.{act-shape, unawaited, complete-keeps}
use Rattle.rules.specs.Questions.{Ask, turn, completion, bounds, ready}
use Rattle.rules.specs.Run.{act, perform, sent_command, numbers_of}
use Rattle.rules.specs.Shape.{Shape}
use Rattle.rules.specs.State as R
use Rattle.rules.specs.State.{State, Command, read}
use Rattle.rules.specs.Turn.{decide, command}
use Rattle.memory.specs.Words.{word_at}
use Rattle.client.specs.declared.Client.{Client}
use Rattle.client.specs.declared.Request.{Request}
use Rattle.client.specs.View.{state_of, view, hand_by}
use Rattle.rules.specs.Completion.{complete}
use Rattle.client.specs.Readings.{jobs-count, waiting-count, hand-none, hand-some}
use Rattle.tape.specs.Tape.{words_of}
use Rattle.codec.specs.Codec.{state_length, client_of, with_turn, with_completion, between-turn, between-completion, progressed, low_shape, low_client, Small}
use Rattle.contract.specs.Answers.{Answer}
use Rattle.contract.specs.Meets.{unasked}
use Rattle.ready.specs.Usable.{usable}
use Rattle.releasing.specs.Performs.{Performed, Performs}
use Rattle.exports.specs.Exported.{looked_at, Exported}
use Rattle.exports.proofs.Exported.{shape_same}
use Rattle.exports.specs.Progress.{same-state}
use Rattle.exports.specs.Settled.{HandedBackReleased}
use Rattle.exports.proofs.Settled.{performs-small, exported-released}
use Rattle.exports.specs.Small.{low-shape, low-client}
use Rattle.exports.specs.Idle.{Idle, low_word, none-kind, progress-idle}
use Rattle.exports.specs.Stays.{step-queue, read_stays, write-stays, complete-waiting, read-done-stays}

cursor-is : (c : Client) (m : List ℕ) → (state_of c m).cursor ≡ c.cursor
unfolding state_of view
cursor-is c m = refl

sent_is : (c : Client) (m : List ℕ) → (state_of c m).sent ≡ c.sent
unfolding state_of view
sent_is c m = refl

begun-is : (c : Client) (m : List ℕ) → (state_of c m).begun ≡ c.begun
unfolding state_of view
begun-is c m = refl

-- a number of a request in hand
abbrev number_in : (R.Request → ℕ) → Option R.Request → ℕ
number_in g none = 0
number_in g (some r) = g r

-- two clients whose requests in hand have the same number; while there is none, its numbers stay
same_number : (f : Request → ℕ) (g : R.Request → ℕ) → ((r : Request) (bs : List ℕ) → g (hand_by r bs) ≡ f r) → (c d : Client) (m m' : List ℕ) → is_none (state_of d m').request ≡ is_none (state_of c m).request
    → number_in g (state_of d m').request ≡ number_in g (state_of c m).request → (d.request.kind ≡ 0 → d.request ≡ c.request) → f d.request ≡ f c.request
same_number f g h c d m m' e w i = go (ℕ_discrete d.request.kind 0) (ℕ_discrete c.request.kind 0)
  where
    none-too : (o : Option R.Request) → is_none o ≡ true → o ≡ none
    none-too none k = refl
    none-too (some r) k = absurd (true≢false (sym (unfold is_none in k)))

    go : Dec (d.request.kind ≡ 0) → Dec (c.request.kind ≡ 0) → f d.request ≡ f c.request
    go (yes z) x = ap f (i z)
    go (no n) (no x) = sym (h d.request _) ∙ ap (number_in g) (sym (hand-some d m' n)) ∙ w ∙ ap (number_in g) (hand-some c m x) ∙ h c.request _
    go (no n) (yes z) = absurd (n (none-kind d m' (none-too (state_of d m').request (e ∙ ap is_none (hand-none c m z) ∙ unfold is_none in refl))))

module _ (st m tape b : List ℕ) (a : Ask) (r : Answer) (m' b' : List ℕ) (k : Performed (client_of (word_at st)) (state_of (client_of (word_at st)) m) a m tape b r m' b') where
  abbrev c : Client
  c = client_of (word_at st)

  abbrev s : State
  s = state_of c m

  abbrev js : List ℕ
  js = numbers_of (draws (bounds s a) (words_of tape))

  -- counts of unchanged lists, and numbers of the bytes, are read again
  same-jobs : (perform s a js).queue ≡ s.queue → word_at st 26 ≡ r.client.jobs % 65536
  same-jobs e = sym (ap (λ x. x % 65536) (sym (jobs-count r.client m') ∙ ap (λ (x : State). length x.queue) k.state ∙ ap length e ∙ jobs-count c m) ∙ low_word st 26)

  same-waiting : (perform s a js).waiting ≡ s.waiting → word_at st 34 ≡ r.client.waiting % 65536
  same-waiting e = sym (ap (λ x. x % 65536) (sym (waiting-count r.client m') ∙ ap (λ (x : State). length x.waiting) k.state ∙ ap length e ∙ waiting-count c m) ∙ low_word st 34)

  same-cursor : (perform s a js).cursor ≡ s.cursor → word_at st 30 ≡ r.client.cursor % 65536
  same-cursor e =
      let g = sym (cursor-is r.client m') ∙ ap (λ (x : State). x.cursor) k.state ∙ e ∙ cursor-is c m in
      sym (ap (λ x. x % 65536) g ∙ low_word st 30)

  same_sent : (perform s a js).sent ≡ s.sent → word_at st 32 ≡ r.client.sent % 65536
  same_sent e =
      let g = sym (sent_is r.client m') ∙ ap (λ (x : State). x.sent) k.state ∙ e ∙ sent_is c m in
      sym (ap (λ x. x % 65536) g ∙ low_word st 32)

  same-begun : (perform s a js).begun ≡ s.begun → word_at st 28 ≡ r.client.begun % 65536
  same-begun e =
      let g = sym (begun-is r.client m') ∙ ap (λ (x : State). x.begun) k.state ∙ e ∙ begun-is c m in
      sym (ap (λ x. x % 65536) g ∙ low_word st 28)

  -- numbers of the request that are the same in hand
  same_asked : (f : Request → ℕ) (g : R.Request → ℕ) → ((r : Request) (bs : List ℕ) → g (hand_by r bs) ≡ f r) → unasked a c.request ≡ c.request
      → is_none (perform s a js).request ≡ is_none s.request → number_in g (perform s a js).request ≡ number_in g s.request → f r.client.request ≡ f c.request
  same_asked f g h n e w = same_number f g h c r.client m m' (ap (λ (x : State). is_none x.request) k.state ∙ e) (ap (λ (x : State). number_in g x.request) k.state ∙ w) (λ z. k.idle z ∙ n)

  level-kept : r.client.request.level ≡ c.request.level → word_at st 20 ≡ r.client.request.level % 65536
  level-kept e = sym (ap (λ x. x % 65536) e ∙ low_word st 20)

  awaits-kept : r.client.request.awaits ≡ c.request.awaits → word_at st 24 ≡ r.client.request.awaits % 65536
  awaits-kept e = sym (ap (λ x. x % 65536) e ∙ low_word st 24)

module _ (st m tape b : List ℕ) (r : Answer) (m' b' : List ℕ) (k : Performed (client_of (word_at st)) (state_of (client_of (word_at st)) m) turn m tape b r m' b') where
  abbrev d : Client
  d = r.client

  sent-kind : r.kind ≡ (command (decide (s st m tape b turn r m' b' k))).kind
  unfolding sent_command
  sent-kind = ap (λ (x : Command). x.kind) k.command

  abbrev s₀ : State
  s₀ = s st m tape b turn r m' b' k

  abbrev js₀ : List ℕ
  js₀ = js st m tape b turn r m' b' k

  abbrev w : ℕ → ℕ
  w = put 28 (d.begun % 65536) (put 36 (d.out % 65536) (word_at st))

  kept-jobs : word_at st 26 ≡ d.jobs % 65536
  unfolding perform
  kept-jobs = same-jobs st m tape b turn r m' b' k (step-queue s₀ (decide s₀) js₀)

  turn-read : r.kind ≡ 1 → client_of (put 30 (d.cursor % 65536) (put 24 (d.request.awaits % 65536) (put 20 (d.request.level % 65536) w))) ≡ progressed (client_of (word_at st)) (low_client d)
  unfolding put perform
  turn-read e =
      let f = read_stays s₀ (decide s₀) js₀ (sym sent-kind ∙ e) in
      let x = same_sent st m tape b turn r m' b' k f.0 in
      let y = same-waiting st m tape b turn r m' b' k f.1 in
      let g = progressed (client_of (word_at st)) (low_client d) in
      λ i. record { shape = g.shape; request = g.request; jobs = kept-jobs i; begun = g.begun; cursor = g.cursor; sent = x i; waiting = y i; out = g.out }

  turn-write : (r.kind ≡ 1 → ⊥) → client_of (put 34 (d.waiting % 65536) (put 32 (d.sent % 65536) w)) ≡ progressed (client_of (word_at st)) (low_client d)
  unfolding put perform
  turn-write n =
      let f = write-stays s₀ (decide s₀) js₀ (λ e. n (sent-kind ∙ e)) in
      let x = same-cursor st m tape b turn r m' b' k f.0 in
      let none₀ = ap is_none f.1 in
      let y = level-kept st m tape b turn r m' b' k (same_asked st m tape b turn r m' b' k (λ r. r.level) (λ r. r.level) (λ r bs. refl) refl none₀ (ap (number_in (λ r. r.level)) f.1)) in
      let z = awaits-kept st m tape b turn r m' b' k (same_asked st m tape b turn r m' b' k (λ r. r.awaits) (λ r. r.awaits) (λ r bs. refl) refl none₀ (ap (number_in (λ r. r.awaits)) f.1)) in
      let g = progressed (client_of (word_at st)) (low_client d) in
      λ i. record {
        shape = g.shape;
        request = record { kind = g.request.kind; block = g.request.block; next = g.request.next; evict = g.request.evict; level = y i; found = g.request.found; awaits = z i };
        jobs = kept-jobs i;
        begun = g.begun;
        cursor = x i;
        sent = g.sent;
        waiting = g.waiting;
        out = g.out;
      }

  pub turn-same : client_of (with_turn r.kind d (word_at st)) ≡ progressed (client_of (word_at st)) (low_client d)
  turn-same = go (eqb r.kind read) refl
    where
      go : (t : Bool) → eqb r.kind read ≡ t → client_of (if t then put 30 (d.cursor % 65536) (put 24 (d.request.awaits % 65536) (put 20 (d.request.level % 65536) w)) else put 34 (d.waiting % 65536) (put 32 (d.sent % 65536) w)) ≡ progressed (client_of (word_at st)) (low_client d)
      go true e = turn-read (eqb-true r.kind read e)
      go false e = turn-write (eqb-false r.kind read e)

-- what a request awaits is no matter of these
none-unawaited : (o : Option R.Request) → is_none (unawaited o) ≡ is_none o
unfolding is_none
none-unawaited none = refl
none-unawaited (some r) = refl

level-unawaited : (o : Option R.Request) → number_in (λ r. r.level) (unawaited o) ≡ number_in (λ r. r.level) o
level-unawaited none = refl
level-unawaited (some r) = refl

module _ (st m b : List ℕ) (x : Command) (bs : List ℕ) (r : Answer) (m' b' : List ℕ) (k : Performed (client_of (word_at st)) (state_of (client_of (word_at st)) m) (completion x bs) m [] b r m' b') where
  abbrev e : Client
  e = r.client

  abbrev s₁ : State
  s₁ = s st m [] b (completion x bs) r m' b' k

  abbrev v : ℕ → ℕ
  v = put 24 (e.request.awaits % 65536) (put 36 (e.out % 65536) (word_at st))

  kept-waiting : word_at st 34 ≡ e.waiting % 65536
  unfolding perform
  kept-waiting = same-waiting st m [] b (completion x bs) r m' b' k (complete-waiting s₁ x bs)

  kept-level : word_at st 20 ≡ e.request.level % 65536
  unfolding perform
  kept-level =
      let f = ap (λ (y : Shape × Option R.Request). y.1) (complete-keeps s₁ x bs) in
      let o = (complete x bs s₁).request in
      let none₁ = sym (none-unawaited o) ∙ ap is_none f ∙ none-unawaited s₁.request in
      let same₁ = sym (level-unawaited o) ∙ ap (number_in (λ r. r.level)) f ∙ level-unawaited s₁.request in
      level-kept st m [] b (completion x bs) r m' b' k (same_asked st m [] b (completion x bs) r m' b' k (λ r. r.level) (λ r. r.level) (λ r bs. refl) refl none₁ same₁)

  read-completed : x.kind ≡ 1 → client_of v ≡ progressed (client_of (word_at st)) (low_client e)
  unfolding put perform
  read-completed n =
      let f = read-done-stays s₁ x bs n in
      let jobs = same-jobs st m [] b (completion x bs) r m' b' k f.0 in
      let cursor = same-cursor st m [] b (completion x bs) r m' b' k f.1 in
      let sent = same_sent st m [] b (completion x bs) r m' b' k f.2 in
      let begun = same-begun st m [] b (completion x bs) r m' b' k f.3 in
      let g = progressed (client_of (word_at st)) (low_client e) in
      λ i. record {
        shape = g.shape;
        request = record { kind = g.request.kind; block = g.request.block; next = g.request.next; evict = g.request.evict; level = kept-level i; found = g.request.found; awaits = g.request.awaits };
        jobs = jobs i;
        begun = begun i;
        cursor = cursor i;
        sent = sent i;
        waiting = kept-waiting i;
        out = g.out;
      }

  write-completed : client_of (put 32 (e.sent % 65536) (put 30 (e.cursor % 65536) (put 28 (e.begun % 65536) (put 26 (e.jobs % 65536) v)))) ≡ progressed (client_of (word_at st)) (low_client e)
  unfolding put
  write-completed =
      let g = progressed (client_of (word_at st)) (low_client e) in
      λ i. record {
        shape = g.shape;
        request = record { kind = g.request.kind; block = g.request.block; next = g.request.next; evict = g.request.evict; level = kept-level i; found = g.request.found; awaits = g.request.awaits };
        jobs = g.jobs;
        begun = g.begun;
        cursor = g.cursor;
        sent = g.sent;
        waiting = kept-waiting i;
        out = g.out;
      }

  pub completion-same : client_of (with_completion x.kind e (word_at st)) ≡ progressed (client_of (word_at st)) (low_client e)
  completion-same = go (eqb x.kind read) refl
    where
      go : (t : Bool) → eqb x.kind read ≡ t → client_of (if t then v else put 32 (e.sent % 65536) (put 30 (e.cursor % 65536) (put 28 (e.begun % 65536) (put 26 (e.jobs % 65536) v)))) ≡ progressed (client_of (word_at st)) (low_client e)
      go true y = read-completed (eqb-true x.kind read y)
      go false y = write-completed

-- ---- The state that is left

module _ (st m tape b : List ℕ) (a : Ask) (four : opens a ≡ false) (r : Answer) (m' b' : List ℕ) (k : Performed (client_of (word_at st)) (state_of (client_of (word_at st)) m) a m tape b r m' b')
    (e : (js : List ℕ) → asked (perform (state_of (client_of (word_at st)) m) a js).request ≡ asked (state_of (client_of (word_at st)) m).request) (stored : (ℕ → ℕ) → ℕ → ℕ)
    (says : client_of (stored (word_at st)) ≡ progressed (client_of (word_at st)) (low_client r.client)) where
  in-range : InRange (state_of r.client m')
  in-range = (usable r.client m' k.ready).range

  low : state_of (low_client r.client) m' ≡ state_of r.client m'
  low = low-client r.client m' in-range

  left-asked : asked (state_of r.client m').request ≡ asked (state_of (client_of (word_at st)) m).request
  left-asked = ap (λ (x : State). asked x.request) k.state ∙ e _

  shape-low : (client_of (word_at st)).shape ≡ low_shape r.client.shape
  unfolding act state_of view
  shape-low =
      sym (shape_same r.client.shape (client_of (word_at st)).shape (ap (λ (x : State). x.shape) k.state ∙ act-shape (state_of (client_of (word_at st)) m) a _ four))
      ∙ sym (low-shape r.client.shape in-range.shape)

  pub same_left : state_of (client_of (stored (word_at st))) m' ≡ state_of r.client m'
  same_left = ap (λ x. state_of x m') says ∙ same-state (client_of (word_at st)) (low_client r.client) m m' shape-low (ap (λ (x : State). asked x.request) low ∙ left-asked) ∙ low

  pub idle-left : unasked a (client_of (word_at st)).request ≡ (client_of (word_at st)).request → Idle a (client_of (word_at st)).request (client_of (stored (word_at st)))
  idle-left n = subst (Idle a (client_of (word_at st)).request) (sym says) (λ y. progress-idle st r.client m m' left-asked (λ x. k.idle x ∙ n) y ∙ sym n)

  -- the first question is answered yes there too, so that a request may be released
  pub ready-left : ready (state_of (client_of (stored (word_at st))) m') (length m') ≡ true
  ready-left = rw same_left k.ready

-- ---- So they are handed back

module _ (st m tape b : List ℕ) (c : Client) (r : Answer) (m' b' : List ℕ) (e : c ≡ client_of (word_at st)) (k : Performs c (state_of c m) turn m (looked_at tape) b r m' b') where
  turned : Performs (client_of (word_at st)) (state_of (client_of (word_at st)) m) turn m (looked_at tape) b r m' b'
  turned = subst (λ x. Performs x (state_of x m) turn m (looked_at tape) b r m' b') e k

  pub turn_small : Small r
  turn_small = performs-small turn st m tape b r m' b' turned tt

  pub turn-ready : r.number ≡ 0 → ready (state_of (client_of (with_turn r.kind r.client (word_at st))) m') (length m') ≡ true
  turn-ready z = let p = turned.accepted z in ready-left st m (looked_at tape) b turn (unfold opens in refl) r m' b' p (turn-asked _) (with_turn r.kind r.client) (turn-same st m (looked_at tape) b r m' b' p)

  pub exported-turn : (u : ℕ) (st' : List ℕ) → length st ≡ state_length → HandedBackReleased (with_turn r.kind r.client) r m' u st st' → Exported turn st m tape b u st' m' b'
  exported-turn u st' l h = exported-released turn st m tape b r m' b' turned tt (with_turn r.kind r.client)
      (λ z. let p = turned.accepted z in same_left st m (looked_at tape) b turn (unfold opens in refl) r m' b' p (turn-asked _) (with_turn r.kind r.client) (turn-same st m (looked_at tape) b r m' b' p))
      (λ z. let p = turned.accepted z in idle-left st m (looked_at tape) b turn (unfold opens in refl) r m' b' p (turn-asked _) (with_turn r.kind r.client) (turn-same st m (looked_at tape) b r m' b' p) refl)
      u st' h l (between-turn r.kind r.client (word_at st))

module _ (st m : List ℕ) (x : Command) (bs : List ℕ) (c : Client) (r : Answer) (m' : List ℕ) (e : c ≡ client_of (word_at st)) (k : Performs c (state_of c m) (completion x bs) m [] [] r m' []) where
  done : Performs (client_of (word_at st)) (state_of (client_of (word_at st)) m) (completion x bs) m [] [] r m' []
  done = subst (λ y. Performs y (state_of y m) (completion x bs) m [] [] r m' []) e k

  pub completion-small : Small r
  completion-small = performs-small (completion x bs) st m [] [] r m' [] done tt

  pub completion-ready : r.number ≡ 0 → ready (state_of (client_of (with_completion x.kind r.client (word_at st))) m') (length m') ≡ true
  completion-ready z = let p = done.accepted z in ready-left st m [] [] (completion x bs) (unfold opens in refl) r m' [] p (completion-asked _ x bs) (with_completion x.kind r.client) (completion-same st m [] x bs r m' [] p)

  pub exported-completion : (u : ℕ) (st' : List ℕ) → length st ≡ state_length → HandedBackReleased (with_completion x.kind r.client) r m' u st st' → Exported (completion x bs) st m [] [] u st' m' []
  exported-completion u st' l h = exported-released (completion x bs) st m [] [] r m' [] done tt (with_completion x.kind r.client)
      (λ z. let p = done.accepted z in same_left st m [] [] (completion x bs) (unfold opens in refl) r m' [] p (completion-asked _ x bs) (with_completion x.kind r.client) (completion-same st m [] x bs r m' [] p))
      (λ z. let p = done.accepted z in idle-left st m [] [] (completion x bs) (unfold opens in refl) r m' [] p (completion-asked _ x bs) (with_completion x.kind r.client) (completion-same st m [] x bs r m' [] p) refl)
      u st' h l (between-completion x.kind r.client (word_at st))
