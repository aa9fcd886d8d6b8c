-- Completion: its questions, and what the command that is found comes to.
use Rattle.std.specs.Prelude.{◌≡◌, Bool, true, false, not, ◌&&◌, ◌⊎◌, ℕ, zero, suc, ◌+◌, ◌-◌, ◌^◌, ◌≤◌, ◌<◌, length, eqb, leb, ltb, if◌then◌else◌}
use Rattle.std.proofs.Math.Path.{refl, ap, sym}
use Rattle.std.proofs.Common.{◌∙◌, subst, inl, inr, arith, pow_pos}
use Rattle.std.proofs.Math.Bool.{true≢false}
use mathlib.Core.List.{List, [], ◌∷◌}
use Rattle.std.proofs.Math.Option.{Option, some, map}
use Rattle.std.specs.Int.Bits.{bit_and}
use borrow.Author.Tests.{eqb-true, eq-eqb, ne_eqb, leb-true}
use Rattle.lists.specs.Tests.{and_l, and_r, or-true, between}
use Rattle.lists.specs.Search.{any, keep, without, first_left, below, count}
use Rattle.lists.specs.All.{All, nil, cons}
use Rattle.lists.specs.Tables.{put}
use Rattle.rules.specs.Shape.{Shape, slots, cell}
use Rattle.rules.specs.State as R
use Rattle.rules.specs.State.{Command, cmd, read, write, found_number}
use Rattle.rules.specs.Setters.{set_request, set_outstanding, set_queue, set_counter, set_begun, set_cursor, set_sent}
use Rattle.rules.specs.Ranges.{is_kind}
use Rattle.rules.specs.Levels.{filled, joins, grown, down}
use Rattle.rules.specs.Jobs.{queued, begun_with, joined, levels_of, leave_queue, slot_count}
use Rattle.rules.specs.Blocks.{holder, named}
use Rattle.rules.specs.Completion.{is_command, awaits_less, completed, gather_bytes, complete_read, job_done, end_job, finish_job, complete_write, complete}
use Rattle.rules.specs.Draws.{draws}
use Rattle.rules.specs.Questions.{completion, ready, bounds, questions, first_no, number}
use Rattle.rules.specs.Run.{perform, refuse, sent_command, handed, handed_found, taken_of, numbers_of}
use Rattle.rules.specs.Laws.Range.{CommandIn}
use Rattle.rules.proofs.Laws.Single.Job.{alone-levels}
use Rattle.rules.proofs.Laws.Single.Levels.{joins-one, one_holds}
use Rattle.rules.specs.Laws.Single.Rules.{target}
use Rattle.rules.proofs.Laws.Kept.{complete-in}
use Rattle.rules.proofs.Laws.Shapes.{complete-keeps}
use Rattle.memory.specs.Tables.{tables_of, with_blocks, with_counter}
use Rattle.memory.specs.Fits.{shape_of, fit, fit-lt}
use Rattle.client.specs.declared.Client.{Client}
use Rattle.client.specs.View.{state_of, view, rows}
use Rattle.client.specs.Rows.{drop_at, length-rows}
use Rattle.client.specs.Changes.{view-bytes, view-counter}
use Rattle.client.specs.Moves.{Room, Stands, stands, then as next, with_request, with_jobs, with_begun, with_cursor, with_sent}
use Rattle.contract.specs.Answers.{refused_with, accepted_with}
use Rattle.contract.specs.Meets.{call_of, meets-no}
use Rattle.ready.specs.Usable.{Usable, usable}
use Rattle.releasing.specs.Performs.{Performs, ready-after}
use Rattle.jobs.specs.declared.Run.{Run}
use Rattle.jobs.specs.Queue.{jobs_in, queue-is}
use Rattle.jobs.specs.Runs.{RunOf, levels-are}
use Rattle.commands.specs.Outstanding.{OutstandingAt, of_kind}
use Rattle.commands.specs.Commands.{outstanding-is}
use Rattle.completing.specs.Awaited.{lessened, lessened-is}

-- ---- Its questions

-- the bytes that are asked for
abbrev pub wanted : Client → Command → ℕ
wanted c d = if eqb d.kind read then c.shape.b else 0

module _ (c : Client) (m : List ℕ) (d : Command) (bs : List ℕ) where
  abbrev asked : ℕ
  asked = number (state_of c m) (call_of (completion d bs) m [] [])

  refusal : (n : ℕ) → 1 ≤ n → n ≡ asked → Performs c (state_of c m) (completion d bs) m [] [] (refused_with n c) m []
  unfolding refuse
  refusal n l e = record { refused = λ z. meets-no c (state_of c m) (completion d bs) m [] [] n e z refl; accepted = λ z. absurd (omega arith) }

  pub no-ready : (ready (state_of c m) (length m) && is_kind d.kind) ≡ false → Performs c (state_of c m) (completion d bs) m [] [] (refused_with 2 c) m []
  unfolding number questions first_no
  no-ready e = refusal 2 (omega arith) (rw e)

  module _ (r : (ready (state_of c m) (length m) && is_kind d.kind) ≡ true) where
    pub no-command : any (is_command d) (state_of c m).outstanding ≡ false → Performs c (state_of c m) (completion d bs) m [] [] (refused_with 11 c) m []
    unfolding number questions first_no
    no-command e = refusal 11 (omega arith) (rw (r, e))

    module _ (a : any (is_command d) (state_of c m).outstanding ≡ true) where
      pub no_length : (length bs ≡ wanted c d → ⊥) → Performs c (state_of c m) (completion d bs) m [] [] (refused_with 12 c) m []
      unfolding number questions first_no state_of view
      no_length n = refusal 12 (omega arith) (rw (r, a, ne_eqb (length bs) (wanted c d) n))

      passed : length bs ≡ wanted c d → asked ≡ 0
      unfolding number questions first_no state_of view
      passed e = rw (r, a, eq-eqb (length bs) (wanted c d) e)

      -- all answers are yes, and the act leaves the rules' state, which answers the first question too
      pub yes : (c' : Client) (m' : List ℕ) → length bs ≡ wanted c d → (c'.request.kind ≡ 0 → c'.request ≡ c.request) → length m' ≡ length m → Stands c' m m' (complete d bs (state_of c m)) → Performs c (state_of c m) (completion d bs) m [] [] (accepted_with c' 0 0 0 0 0) m' []
      unfolding bounds draws taken_of numbers_of perform sent_command handed handed_found found_number
      yes c' m' e k l s = record {
        refused = λ n. absurd (n refl);
        accepted = λ _. record {
          yes = passed e;
          taken = refl;
          command = refl;
          found = refl;
          state = s.state;
          idle = k;
          buffer = refl;
          tail = unfold state_of view in s.tail;
          ready = left-ready;
        };
      }
        where
          u : Usable c m
          u = usable c m (and_l (ready (state_of c m) (length m)) (is_kind d.kind) r)

          shape : (complete d bs (state_of c m)).shape ≡ shape_of c.shape
          shape = ap (λ (y : Shape × Option R.Request). y.0) (complete-keeps (state_of c m) d bs) ∙ (unfold state_of view in refl)

          left-ready : ready (state_of c' m') (length m') ≡ true
          left-ready = ready-after c c' m m' (complete d bs (state_of c m)) u.room l s.state shape (complete-in (state_of c m) u.range d bs)

-- ---- The command

same-command : (h : Shape) (d x : Command) → is_command d x ≡ true → CommandIn h x → CommandIn h d
unfolding is_command
same-command h d x e k =
    let a = and_l (eqb d.kind x.kind && eqb d.partition x.partition && eqb d.level x.level) (eqb d.slot x.slot) e in
    let b = and_l (eqb d.kind x.kind && eqb d.partition x.partition) (eqb d.level x.level) a in
    let kind = eqb-true d.kind x.kind (and_l (eqb d.kind x.kind) (eqb d.partition x.partition) b) in
    let partition = eqb-true d.partition x.partition (and_r (eqb d.kind x.kind) (eqb d.partition x.partition) b) in
    let level = eqb-true d.level x.level (and_r (eqb d.kind x.kind && eqb d.partition x.partition) (eqb d.level x.level) a) in
    let slot = eqb-true d.slot x.slot (and_r (eqb d.kind x.kind && eqb d.partition x.partition && eqb d.level x.level) (eqb d.slot x.slot) e) in
    subst (CommandIn h) (λ i. cmd (sym kind i) (sym partition i) (sym level i) (sym slot i)) k

-- a command that is outstanding is in range
command-in : (h : Shape) (d : Command) {cs : List Command} → any (is_command d) cs ≡ true → All (CommandIn h) cs → CommandIn h d
unfolding any
command-in h d e nil = absurd (true≢false (sym e))
command-in h d e (cons {x = x} {xs = xs} k a) = go (or-true (is_command d x) (any (is_command d) xs) e) (λ z. command-in h d z a)
  where
    go : (is_command d x ≡ true) ⊎ (any (is_command d) xs ≡ true) → (any (is_command d) xs ≡ true → CommandIn h d) → CommandIn h d
    go (inl z) ih = same-command h d x z k
    go (inr z) ih = ih z

-- what the act goes by: the command is at place j
pub record Completes (c : Client) (m : List ℕ) (d : Command) (bs : List ℕ) (j : ℕ) : Type 0 where
  pub room : Room c m
  pub jobs : c.jobs ≤ 64
  pub begun : c.begun ≤ 64
  pub out : c.out ≤ 32
  pub place : j < c.out
  pub gone : without (is_command d) (state_of c m).outstanding ≡ drop_at j (state_of c m).outstanding
  pub left : (k : ℕ) → first_left (is_command d) k (state_of c m).outstanding ≡ (if ltb j k then k - 1 else k)
  pub range : CommandIn (shape_of c.shape) d
  pub long : length bs ≡ wanted c d

-- what the search for it asks
pub begins : (c : Client) (m : List ℕ) (kind : ℕ) → (ready (state_of c m) (length m) && is_kind kind) ≡ true → Room c m × (c.out ≤ 32) × (1 ≤ kind) × (kind ≤ 2)
unfolding is_kind between
begins c m kind e =
    let u = usable c m (and_l (ready (state_of c m) (length m)) (is_kind kind) e) in
    let k = and_r (ready (state_of c m) (length m)) (is_kind kind) e in
    (u.room, omega (arith, u.counts.out, u.window), leb-true 1 kind (and_l (leb 1 kind) (leb kind 2) k), leb-true kind 2 (and_r (leb 1 kind) (leb kind 2) k))

pub completes : (c : Client) (m : List ℕ) (d : Command) (bs : List ℕ) (j : ℕ) → (ready (state_of c m) (length m) && is_kind d.kind) ≡ true → OutstandingAt d (state_of c m).outstanding j → length bs ≡ wanted c d → Completes c m d bs j
unfolding state_of view
completes c m d bs j r o l =
    let u = usable c m (and_l (ready (state_of c m) (length m)) (is_kind d.kind) r) in
    record {
      room = u.room;
      jobs = u.jobs;
      begun = u.counts.begun;
      out = omega (arith, u.counts.out, u.window);
      place = omega (arith, o.place, ap length (outstanding-is c m) ∙ length-rows _ _);
      gone = o.gone;
      left = o.left;
      range = command-in (shape_of c.shape) d o.there u.range.outstanding;
      long = l;
    }

-- ---- A read

named_some : (b : ℕ) → (b ≡ 0 → ⊥) → named b ≡ some (b - 1)
unfolding named
named_some zero n = absurd (n refl)
named_some (suc b) n = let e : b ≡ suc b - 1 = omega arith in ap some e

-- the slot's cell is x, and b its entry
module _ (c : Client) (m : List ℕ) (q ℓ i x b : ℕ) (bs : List ℕ) (at : x ≡ cell (shape_of c.shape) q ℓ i) (entry : b ≡ fit (c.shape.n + 1) ((tables_of (shape_of c.shape) m).holds x)) where
  holder-is : holder (state_of c m) q ℓ i ≡ named b
  unfolding holder state_of view
  holder-is = rw (entry, at)

  pub stores-none : b ≡ 0 → Stands c m m (gather_bytes (holder (state_of c m) q ℓ i) bs (state_of c m))
  unfolding gather_bytes named
  stores-none z = record { state = sym (ap (λ o. gather_bytes o bs (state_of c m)) (holder-is ∙ ap named z)); tail = refl }

  pub stores_some : (m' : List ℕ) → (b ≡ 0 → ⊥) → tables_of (shape_of c.shape) m' ≡ with_blocks (put (b - 1) bs (tables_of (shape_of c.shape) m).blocks) (tables_of (shape_of c.shape) m)
      → Stands c m m' (gather_bytes (holder (state_of c m) q ℓ i) bs (state_of c m))
  unfolding gather_bytes state_of tables_of
  stores_some m' n t =
      let l : b < c.shape.n + 1 = rw entry (fit-lt (c.shape.n + 1) _ (omega arith)) in
      let u : b - 1 < c.shape.n = omega (arith, n) in
      stands c m m' _ _ t refl (view-bytes c (tables_of (shape_of c.shape) m) (b - 1) bs u ∙ sym (ap (λ o. gather_bytes o bs (state_of c m)) (holder-is ∙ named_some b n)))

-- ---- A write

-- a test that n passes if a level has so many slots
abbrev pub AllOfLevel : ℕ → Bool → Type 0
AllOfLevel n r = (t : ℕ) → t < 8 → n ≡ slots t → r ≡ true

pub none-of-level : AllOfLevel 0 false
none-of-level t l e = absurd (omega (arith, pow_pos (t + 1)))

-- the bit of a power of two is gone from the number before it
pub one_bit_lem : (n : ℕ) → AllOfLevel n (eqb (bit_and n (n - 1)) 0)
one_bit_lem n t l e = rw e (go t l)
  where
    go : (t : ℕ) → t < 8 → eqb (bit_and (slots t) (slots t - 1)) 0 ≡ true
    go zero l = refl
    go (suc zero) l = refl
    go (suc (suc zero)) l = refl
    go (suc (suc (suc zero))) l = refl
    go (suc (suc (suc (suc zero)))) l = refl
    go (suc (suc (suc (suc (suc zero))))) l = refl
    go (suc (suc (suc (suc (suc (suc zero)))))) l = refl
    go (suc (suc (suc (suc (suc (suc (suc zero))))))) l = refl
    go (suc (suc (suc (suc (suc (suc (suc (suc t)))))))) l = absurd (omega arith)

-- while the writes sent are not as many as the slots of some level, a job that runs alone is not done
pub not_done : (c : Client) (m : List ℕ) (q : ℕ) (one : Bool) → Room c m → c.begun ≡ 1 → AllOfLevel c.sent one → one ≡ false → job_done (state_of c m) q ≡ false
unfolding job_done state_of view
not_done c m q one r b f e =
    let h = shape_of c.shape in
    let s = state_of c m in
    let n = s.counter q in
    let k : n < 2 ^ c.shape.l = fit-lt (2 ^ c.shape.l) _ (pow_pos c.shape.l) in
    let alone : joined s q ≡ 1 = unfold joined begun_with in (ap (λ j. joins h n (begun_with j (queued s.queue q))) b ∙ joins-one h n k) in
    let t : target h n < 8 = unfold target in (omega (arith, r.levels, r.some_levels)) in
    let w : slot_count (levels_of s q) ≡ slots (target h n) = ap slot_count (alone-levels s q alone r.some_levels k) ∙ (one_holds h n r.some_levels k).1 in
    rw (w, ne_eqb c.sent (slots (target h n)) (λ z. true≢false (sym (f _ t z) ∙ e)))

pub done-is : (c : Client) (m : List ℕ) (q next w : ℕ) (r : Run) (writing : Bool) → RunOf c m q r → next ≡ grown (shape_of c.shape) r.counter r.joined → w ≡ slot_count (keep (filled next) (down (suc r.top)))
    → writing ≡ any (of_kind write) (state_of c m).outstanding → (eqb c.sent w && not writing) ≡ job_done (state_of c m) q
unfolding job_done
done-is c m q next w r writing f g e k = ap (λ x. eqb c.sent x && not writing) (e ∙ ap slot_count (sym (levels-are c m q r next f g))) ∙ (unfold state_of view in (rw k))

-- the counter grows
pub counted : (c : Client) (m m₁ : List ℕ) (q n : ℕ) (r : Run) → RunOf c m q r → n ≡ grown (shape_of c.shape) r.counter r.joined → n < 2 ^ c.shape.l
    → tables_of (shape_of c.shape) m₁ ≡ with_counter (put q n (tables_of (shape_of c.shape) m).counter) (tables_of (shape_of c.shape) m)
    → Stands c m m₁ (set_counter (put q (grown (state_of c m).shape ((state_of c m).counter q) (joined (state_of c m) q)) (state_of c m).counter) (state_of c m))
unfolding state_of view tables_of
counted c m m₁ q n r f g l t = stands c m m₁ _ _ t refl (view-counter c (tables_of (shape_of c.shape) m) q n l ∙ ap (λ x. set_counter (put q x (state_of c m).counter) (state_of c m)) (g ∙ ap (λ x. grown (shape_of c.shape) x r.joined) f.counter ∙ ap (grown (shape_of c.shape) ((state_of c m).counter q)) f.joined))

-- its jobs leave, and the next one has sent nothing
pub ended : (c d : Client) (m m₁ m₂ : List ℕ) (q j n : ℕ) → j ≡ joined (state_of c m) q → Stands c m m₁ (set_counter (put q (grown (state_of c m).shape ((state_of c m).counter q) (joined (state_of c m) q)) (state_of c m).counter) (state_of c m))
    → d ≡ with_jobs n c → Stands d m₁ m₂ (set_queue (leave_queue q j (state_of c m₁).queue) (state_of c m₁))
    → Stands (with_sent 0 (with_cursor 0 (with_begun 0 d))) m m₂ (end_job q (state_of c m))
unfolding end_job state_of view
ended c d m m₁ m₂ q j n a k e p = record {
  state = ap (λ s. set_sent 0 (set_cursor 0 (set_begun 0 s))) (p.state ∙ ap (λ s. set_queue (leave_queue q j s.queue) s) k.state ∙ ap (λ x. set_queue (leave_queue q x (state_of c m).queue) (set_counter (put q (grown (state_of c m).shape ((state_of c m).counter q) (joined (state_of c m) q)) (state_of c m).counter) (state_of c m))) a);
  tail = (next c d m m₁ m₂ _ _ (rw e) k p).tail;
}

module _ (c : Client) (m : List ℕ) where
  pub finish-none : c.jobs ≡ 0 → Stands c m m (finish_job (state_of c m).queue (state_of c m))
  unfolding finish_job rows below count
  finish-none z = record { state = sym (ap (λ qs. finish_job qs (state_of c m)) (queue-is c m ∙ ap (rows (jobs_in c.shape m)) z)); tail = refl }

  module _ (q : ℕ) (front : (state_of c m).queue ≡ q ∷ drop_at 0 (state_of c m).queue) where
    finish-is : (t : Bool) → job_done (state_of c m) q ≡ t → finish_job (state_of c m).queue (state_of c m) ≡ (if t then end_job q (state_of c m) else state_of c m)
    unfolding finish_job
    finish-is t e = ap (λ qs. finish_job qs (state_of c m)) front ∙ ap (λ t. if t then end_job q (state_of c m) else state_of c m) e

    pub finish-later : job_done (state_of c m) q ≡ false → Stands c m m (finish_job (state_of c m).queue (state_of c m))
    finish-later e = record { state = sym (finish-is false e); tail = refl }

    pub finish-now : (c' : Client) (m' : List ℕ) → job_done (state_of c m) q ≡ true → Stands c' m m' (end_job q (state_of c m)) → Stands c' m m' (finish_job (state_of c m).queue (state_of c m))
    finish-now c' m' e s = record { state = s.state ∙ sym (finish-is true e); tail = s.tail }

-- ---- Both: the command leaves the list first

module _ (c d : Client) (m m₁ : List ℕ) (x : Command) (bs : List ℕ) (j : ℕ) (k : Completes c m x bs j)
    (s : Stands d m m₁ (set_outstanding (drop_at j (state_of (with_request (lessened j c.request) c) m).outstanding) (state_of (with_request (lessened j c.request) c) m))) where
  left : state_of d m₁ ≡ completed x (state_of c m)
  unfolding completed
  left = s.state ∙ ap (λ (z : R.State). set_outstanding (drop_at j z.outstanding) z) (lessened-is c m x j k.left) ∙ ap (λ cs. set_outstanding cs (set_request (map (awaits_less x (state_of c m).outstanding) (state_of c m).request) (state_of c m))) (sym k.gone)

  pub read_done : (m₂ : List ℕ) → x.kind ≡ 1 → Stands d m₁ m₂ (gather_bytes (holder (state_of d m₁) x.partition x.level x.slot) bs (state_of d m₁)) → Stands d m m₂ (complete x bs (state_of c m))
  unfolding complete complete_read completed holder
  read_done m₂ e g = let a = next d d m m₁ m₂ _ _ refl s g in
      record {
        state = a.state ∙ ap (λ z. gather_bytes (holder z x.partition x.level x.slot) bs z) left ∙ sym (ap (λ t. if t then complete_read x bs (state_of c m) else complete_write x (state_of c m)) (eq-eqb x.kind 1 e));
        tail = a.tail;
      }

  pub write_done : (d₂ : Client) (m₂ : List ℕ) → d₂.shape ≡ d.shape → (x.kind ≡ 1 → ⊥) → Stands d₂ m₁ m₂ (finish_job (state_of d m₁).queue (state_of d m₁)) → Stands d₂ m m₂ (complete x bs (state_of c m))
  unfolding complete complete_write completed
  write_done d₂ m₂ h e g = let a = next d d₂ m m₁ m₂ _ _ h s g in
      record {
        state = a.state ∙ ap (λ z. finish_job z.queue z) left ∙ sym (ap (λ t. if t then complete_read x bs (state_of c m) else complete_write x (state_of c m)) (ne_eqb x.kind 1 e));
        tail = a.tail;
      }
