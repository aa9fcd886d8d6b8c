-- What was read and written so far is carried on by a turn, and is what the contracts of the end say.
use Rattle.std.specs.Prelude.{◌≡◌, refl, Bool, true, false, Option, Some, None, IfSome, Result, Ok, Err, IfOk, OnErr, List, [], ◌∷◌, ◌++◌, ℕ, zero, suc, ◌+◌, ◌-◌, ◌*◌, ◌^◌, ◌≤◌, ◌<◌, length, take, drop, if◌then◌else◌}
use Rattle.std.proofs.Common.{sym, ap, ◌∙◌, subst, arith, append_assoc, append-nil, take-append-drop, length-append, length-take-le, length-drop, true≢false, eq-eqb, eqb-true}
use Rattle.std.proofs.lemmas.List.{take-append-le}
use Rattle.std.proofs.Math.Seq.{take-nil}
use Rattle.std.specs.Io.KnownBytes.{Appends, Consumes, Keeps, IsAtEnd}
use Rattle.client.specs.View.{state_of}
use Rattle.report.specs.Page.{shown}
use Rattle.session.specs.Session as S
use Rattle.session.specs.Session.{left, memory_room}
use Rattle.stream.specs.declared.State.{State}
use Rattle.stream.specs.declared.Brought.{Brought}
use Rattle.stream.specs.declared.Brought.TheVariants.{Whole, Part, TooLong}
use Rattle.output.specs.Output.{out_room, total, total_most, Holds}
use Rattle.output.specs.Printed.{cut, printed}
use Rattle.output.specs.Paged.{paged}
use Rattle.output.specs.Sent as O
use Rattle.output.specs.Sent.{Sent, leaving}
use Rattle.output.proofs.Known.{appends-none, appends-then, consumes-none, consumes-then, consumes-kept, take-then}
use Rattle.session.specs.Answers.{Served}
use Rattle.lines.specs.Lines.{tape_room}
use Rattle.stream.specs.Stream.{Ready, Ended, Goes, Past, Buffers, buffers, Responds, Begun, Refilled}
use Rattle.stream.specs.Steps.{responds-does, begun-does}
use Rattle.stream.proofs.Turns.{rest-waits, whole-shut, long-shut, moved, with_len, with_done, line-turned, respond-turned, begin-turned, part_turned, long-turned}
use Rattle.stream.specs.History.{given, Follows, coming, kept_in, waiting, taken, Leaves, History, Turned, Followed}
use Rattle.stream.specs.Carried.{brought, Carries, Closed, Handed, Broken, Answered, PageShown, PageBroken}

-- the bytes that were read up to now, before a turn and after it
read-lists : (found : Brought) (past w : List ℕ) (r : State) (chunk : List ℕ) → Leaves found w r chunk → (past ++ w) ++ brought found r chunk ≡ (past ++ taken found w) ++ waiting r chunk
read-lists (Whole k i) past w r chunk e =
    append-nil (past ++ w)
    ∙ ap (λ t. past ++ t) (sym (take-append-drop (i + 1) w))
    ∙ sym (append_assoc past (take (i + 1) w) (drop (i + 1) w))
    ∙ ap (λ t. (past ++ take (i + 1) w) ++ t) (sym e)
read-lists (Part k) past w r chunk e = refl
read-lists TooLong past w r chunk e = append-nil (past ++ w) ∙ ap (λ t. t ++ w) (sym (append-nil past)) ∙ ap (λ t. (past ++ []) ++ t) (sym e)

-- what the first bytes print is the first of what all print
prints-more : (host past had : List ℕ) (f : List (List ℕ) → S.Given) → Follows host past f had → (x : List ℕ) → (q : List ℕ) × (printed host (past ++ x) ≡ printed host past ++ q)
prints-more host past had f goes x = ((f (cut had x)).1, ap (λ (g : S.Given). g.1) (goes x))

take-first : (k n : ℕ) (l : List ℕ) → k ≤ n → take k (take n l) ≡ take k l
take-first zero n l h = refl
take-first (suc k) zero l h = absurd (omega arith)
take-first (suc k) (suc n) [] h = refl
take-first (suc k) (suc n) (x ∷ l) h = ap (λ t. x ∷ t) (take-first k n l (omega arith))

-- the first bytes of a text that have left, and then k more of what the buffer holds
left-then : (text out : List ℕ) (gone at k : ℕ) → gone ≤ length text → drop gone text ≡ take at out → take gone text ++ take k (take at out) ≡ take (gone + k) text
left-then text out gone at k h e = ap (λ t. take gone text ++ take k t) (sym e) ∙ take-then gone k text h

sent-more : (quiet : Bool) (text text' out : List ℕ) (s r : State) (u w w' : Option (List ℕ)) → s.output.silent ≡ quiet → Holds text out s.output → ((q : List ℕ) × (text' ≡ text ++ q))
    → Sent s.output out r.output w w' → Appends u w (if quiet then [] else take s.output.gone text) → Appends u w' (if quiet then [] else take r.output.gone text')
sent-more true text text' out s r u w w' silent h more sent a =
    appends-then u w w' [] [] a (subst (λ b. Appends w w' (if b then [] else take (r.output.gone - s.output.gone) out)) silent sent.bytes)
sent-more false text text' out s r u w w' silent h more sent a =
    let k = r.output.gone - s.output.gone in
    let new : Appends w w' (take k out) = subst (λ b. Appends w w' (if b then [] else take k out)) silent sent.bytes in
    let long : s.output.gone ≤ length text = omega (arith, h.all) in
    let within : k ≤ s.output.at = omega (arith, sent.least, sent.most) in
    let all : s.output.gone + k ≡ r.output.gone = omega (arith, sent.least) in
    let size : r.output.gone ≤ length text = omega (arith, h.all, sent.most) in
    let joined : take s.output.gone text ++ take k out ≡ take r.output.gone text' =
    ap (λ t. take s.output.gone text ++ t) (sym (take-first k s.output.at out within))
    ∙ left-then text out s.output.gone s.output.at k long h.rest
    ∙ ap (λ n. take n text) all
    ∙ sym (take-append-le r.output.gone text more.0 size)
    ∙ ap (take r.output.gone) (sym more.1) in
    subst (Appends u w') joined (appends-then u w w' _ _ a new)

-- what was read is the bytes that were taken and those that wait, and what was written is what left
pub record Moved (host past : List ℕ) (quiet : Bool) (s : State) (chunk : List ℕ) (u u' w w' : Option (List ℕ)) : Type 0 where
  pub read : Consumes u u' (past ++ waiting s chunk)
  pub sent : Appends w w' (if quiet then [] else take s.output.gone (printed host past))

-- a turn takes or reads a byte, or ends the session
pub steps-on : (found : Brought) (past w w' : List ℕ) (turns : ℕ) → turns ≤ 2 * length past + length w → length w + 1 ≤ 2 * length (taken found w) + length w'
    → turns + 1 ≤ 2 * length (past ++ taken found w) + length w'
steps-on found past w w' turns h k = omega (arith, length-append past (taken found w))

module _ (host past : List ℕ) (quiet : Bool) (s : State) (chunk line : List ℕ) (b : Buffers) (h : History host past s chunk line b) (silent : s.output.silent ≡ quiet) (u u' w w' : Option (List ℕ)) (m : Moved host past quiet s chunk u u' w w') where
  -- a turn carries it on
  pub moved_on : s.done ≡ false → (r : State) (chunk' line' : List ℕ) (e : Buffers) (t : Turned s chunk line b r chunk' line' e) (u'' w'' : Option (List ℕ)) → Carries s chunk line b t.found r chunk' u' u'' w' w''
      → Moved host (past ++ taken t.found (waiting s chunk)) quiet r chunk' u u'' w w''
  moved_on going r chunk' line' e t u'' w'' c = record {
    read = subst (Consumes u u'') (read-lists t.found past (waiting s chunk) r chunk' t.leaves) (consumes-then u u' u'' _ _ m.read c.read);
    sent = sent-more quiet (printed host past) _ b.out s r w w' w'' silent h.text (prints-more host past (take s.len line) (coming s.first (kept_in s b)) (h.goes going) (taken t.found (waiting s chunk))) c.sent m.sent;
  }

  -- where a session is followed no further
  pub followed-handed : s.output.at ≤ out_room → total s.output ≤ total_most → Closed host past (waiting s chunk) s.failed u' → (f : Followed host quiet s b.memory b.out) × Handed host quiet f.input s u u' w w'
  followed-handed room count closed = (
    record { input = past; text = h.text; state = ap (λ (k : S.Session). k.state) (sym h.session); silent = silent; room = room; count = count },
    record { rest = waiting s chunk; read = m.read; sent = m.sent; closed = closed },
  )

  -- where a write failed, and nothing was read
  pub broken-off : {T E : Type 0} (result : Result T E) (u'' w'' : Option (List ℕ)) → Keeps u' u'' → O.Part (leaving s.output b.out) w' w'' → OnErr result (Broken host quiet u u'' w w'')
  broken-off (Ok x) u'' w'' keeps part = tt
  broken-off (Err x) u'' w'' keeps part = record { input = past; rest = waiting s chunk; read = consumes-kept u u' u'' _ m.read keeps; sent = first quiet silent m.sent }
    where
      first : (q : Bool) → s.output.silent ≡ q → Appends w w' (if q then [] else take s.output.gone (printed host past)) → O.Part (if q then [] else printed host past) w w''
      first true e a = (part.0, appends-then w w' w'' [] _ a (subst (λ b'. Appends w' w'' (take part.0 (if b' then [] else take s.output.at b.out))) e part.1))
      first false e a =
          let new : Appends w' w'' (take part.0 (take s.output.at b.out)) = subst (λ b'. Appends w' w'' (take part.0 (if b' then [] else take s.output.at b.out))) e part.1 in
          let long : s.output.gone ≤ length (printed host past) = omega (arith, h.text.all) in
          (s.output.gone + part.0, subst (Appends w w'') (left-then (printed host past) b.out s.output.gone s.output.at part.0 long h.text.rest) (appends-then w w' w'' _ _ a new))

-- ---- The end

module _ (host : List ℕ) (r : State) (memory out : List ℕ) (u u' w w' : Option (List ℕ)) where
  module _ (f : Followed host false r memory out) (h : Handed host false f.input r u u' w w') where
    -- what the buffer holds is handed over too
    pub run-sent : (w'' : Option (List ℕ)) → Appends w' w'' (take r.output.at out) → Appends w w'' (printed host f.input)
    run-sent w'' a = subst (Appends w w'') (ap (λ t. take r.output.gone (printed host f.input) ++ t) (sym f.text.rest) ∙ take-append-drop r.output.gone (printed host f.input)) (appends-then w w' w'' _ _ h.sent a)

    pub run-answered : (w'' : Option (List ℕ)) (n : ℕ) → n ≡ total r.output → Appends w' w'' (take r.output.at out) → Answered host u u' w w'' n
    run-answered w'' n e a = record {
      input = f.input;
      rest = h.rest;
      read = h.read;
      sent = run-sent w'' a;
      all = e ∙ sym f.text.all;
    }

    pub run-broken : (w'' : Option (List ℕ)) → O.Part (take r.output.at out) w' w'' → Broken host false u u' w w''
    run-broken w'' part =
        let long : r.output.gone ≤ length (printed host f.input) = omega (arith, f.text.all) in
        record {
          input = f.input;
          rest = h.rest;
          read = h.read;
          sent = (r.output.gone + part.0, subst (Appends w w'') (left-then (printed host f.input) out r.output.gone r.output.at part.0 long f.text.rest) (appends-then w w' w'' _ _ h.sent part.1));
        }

  module _ (f : Followed host true r memory out) (h : Handed host true f.input r u u' w w') where
    page-is : shown (state_of r.session.client memory) memory_room ≡ paged host f.input
    unfolding paged
    page-is = ap (λ s. shown s memory_room) f.state

    pub page-sent : (w'' : Option (List ℕ)) → Appends w' w'' (shown (state_of r.session.client memory) memory_room) → Appends w w'' (paged host f.input)
    page-sent w'' a = subst (Appends w w'') page-is (appends-then w w' w'' [] _ h.sent a)

    pub page-shown : (w'' : Option (List ℕ)) (n : ℕ) → n ≡ length (shown (state_of r.session.client memory) memory_room) → Appends w' w'' (shown (state_of r.session.client memory) memory_room) → PageShown host u u' w w'' n
    page-shown w'' n e a = record {
      input = f.input;
      rest = h.rest;
      read = h.read;
      sent = page-sent w'' a;
      all = e ∙ ap length page-is;
    }

    pub page-broken : (w'' : Option (List ℕ)) → O.Part (shown (state_of r.session.client memory) memory_room) w' w'' → PageBroken host u u' w w''
    page-broken w'' part = record {
      input = f.input;
      rest = h.rest;
      read = h.read;
      sent = (part.0, subst (λ t. Appends w w'' (take part.0 t)) page-is (appends-then w w' w'' [] _ h.sent part.1));
    }

-- nothing of the answers was written
pub page-unwritten : (host : List ℕ) (u u' w w' : Option (List ℕ)) → Broken host true u u' w w' → PageBroken host u u' w w'
page-unwritten host u u' w w' b = record { input = b.input; rest = b.rest; read = b.read; sent = (0, subst (Appends w w') (take-nil b.sent.0) b.sent.1) }

-- ---- The start, and a turn

-- nothing was read, and nothing written
pub moved-start : (host : List ℕ) (quiet : Bool) (s : State) (chunk : List ℕ) (u w : Option (List ℕ)) → s.from ≡ 0 → s.to ≡ 0 → s.output.gone ≡ 0 → Moved host [] quiet s chunk u u w w
moved-start host quiet s chunk u w from to gone = record {
  read = subst (Consumes u u) (sym (λ i. take (to i - from i) (drop (from i) chunk))) (consumes-none u);
  sent = go quiet;
}
  where
    go : (q : Bool) → Appends w w (if q then [] else take s.output.gone (printed host []))
    go true = appends-none w
    go false = subst (λ n. Appends w w (take n (printed host []))) (sym gone) (appends-none w)

pub if_ok_two : {T E : Type 0} {P Q Z : T → Type 0} (r : Result T E) → ((x : T) → P x → Q x → Z x) → IfOk r P → IfOk r Q → IfOk r Z
if_ok_two (Ok x) f p q = f x p q
if_ok_two (Err e) f p q = tt

pub if_ok_four : {T E : Type 0} {P Q Y V Z : T → Type 0} (r : Result T E) → ((x : T) → P x → Q x → Y x → V x → Z x) → IfOk r P → IfOk r Q → IfOk r Y → IfOk r V → IfOk r Z
if_ok_four (Ok x) f p q y v = f x p q y v
if_ok_four (Err e) f p q y v = tt

module _ (s : State) (chunk line : List ℕ) (b : Buffers) (going : s.done ≡ false) where
  module _ (k i : ℕ) (line' : List ℕ) (w : Ended (waiting s chunk) (take s.len line) k i line') (r : State) (e : Buffers) where
    newline-steps : waiting r chunk ≡ drop (i + 1) (waiting s chunk) → length (waiting s chunk) + 1 ≤ 2 * length (take (i + 1) (waiting s chunk)) + length (waiting r chunk)
    newline-steps y =
        let front : length (take (i + 1) (waiting s chunk)) ≡ i + 1 = length-take-le (i + 1) (waiting s chunk) (omega (arith, w.within)) in
        let back : length (waiting r chunk) ≡ length (waiting s chunk) - (i + 1) = ap length y ∙ length-drop (i + 1) (waiting s chunk) in
        omega (arith, w.within)

    pub respond-carried : s.first ≡ false → e.tape ≡ b.tape → Responds (moved (s.from + i + 1) s) (take k line') b r e → (u v v' : Option (List ℕ)) → Sent s.output b.out r.output v v'
        → (t : Turned s chunk line b r chunk line' e) × Carries s chunk line b t.found r chunk u u v v'
    unfolding respond-turned line-turned
    respond-carried first tape p u v v' sent = (
      respond-turned s chunk line b going k i line' w r e first tape p,
      record {
        read = consumes-none u;
        sent = sent;
        steps = λ z. newline-steps (rest-waits s chunk line b going k i line' w r e p.stays.from p.stays.to);
        closes = λ z x host past more h y.
            whole-shut host past s chunk line b h going k i line' w r chunk line' e (responds-does (moved (s.from + i + 1) s) (take k line') b r e first tape p) (p.first ∙ first) p.stays.len z (waiting r chunk ++ more);
      },
    )

    pub begin-carried : s.first ≡ true → Begun (moved (s.from + i + 1) s) (take k line') b r e → (u v v' : Option (List ℕ)) → Sent s.output b.out r.output v v'
        → (t : Turned s chunk line b r chunk line' e) × Carries s chunk line b t.found r chunk u u v v'
    unfolding begin-turned line-turned
    begin-carried first p u v v' sent = (
      begin-turned s chunk line b going k i line' w r e first p,
      record {
        read = consumes-none u;
        sent = sent;
        steps = λ z. newline-steps (rest-waits s chunk line b going k i line' w r e p.stays.from p.stays.to);
        closes = λ z x host past more h y.
            whole-shut host past s chunk line b h going k i line' w r chunk line' e (begun-does (moved (s.from + i + 1) s) (take k line') b r e first going p) p.first p.stays.len z (waiting r chunk ++ more);
      },
    )

  pub part-carried : Served s.session (take s.tape b.tape) → s.tape ≤ tape_room → (k : ℕ) (line' : List ℕ) → Goes (waiting s chunk) (take s.len line) k line' → (r : State) (chunk' out' : List ℕ) → Refilled (with_len k s) r
      → (u u' v v' : Option (List ℕ)) → Consumes u u' (take r.to chunk') → Sent s.output b.out r.output v v' → length chunk' ≡ 65536 → (r.to ≡ 0 → r.failed ≡ false → IsAtEnd u')
      → (t : Turned s chunk line b r chunk' line' (buffers b.tape b.memory b.host out')) × Carries s chunk line b t.found r chunk' u u' v v'
  unfolding part_turned
  part-carried served tape k line' w r chunk' out' f u u' v v' read sent size end =
      (part_turned s chunk line b going served tape k line' w r chunk' out' f, record { read = subst (Consumes u u') (sym waits) read; sent = sent; steps = more-waits; closes = dry })
    where
      zero-off : (n : ℕ) → n - 0 ≡ n
      zero-off n = omega arith

      waits : waiting r chunk' ≡ take r.to chunk'
      waits = (λ i. take (r.to - f.from i) (drop (f.from i) chunk')) ∙ ap (λ n. take n chunk') (zero-off r.to)

      -- what a read brought, if it is not the end
      more-waits : r.done ≡ false → length (waiting s chunk) + 1 ≤ 2 * length (waiting s chunk) + length (waiting r chunk')
      more-waits z =
          let some' : (r.to ≡ 0 → ⊥) = λ y. true≢false (sym (f.done ∙ eq-eqb r.to 0 y) ∙ z) in
          let long : length (waiting r chunk') ≡ r.to = ap length waits ∙ length-take-le r.to chunk' (omega (arith, f.to)) in
          omega arith

      -- at the input's end nothing waits, and the reader has nothing more
      dry : r.done ≡ true → r.failed ≡ false → (host past more : List ℕ) → History host past s chunk line b → u' ≡ Some more → given host ((past ++ waiting s chunk) ++ (waiting r chunk' ++ more)) ≡ given host (past ++ waiting s chunk)
      dry z x host past more h y =
          let zero' : r.to ≡ 0 = eqb-true r.to 0 (sym f.done ∙ z) in
          let gone : waiting r chunk' ≡ [] = waits ∙ ap (λ n. take n chunk') zero' in
          let none : more ≡ [] = subst IsAtEnd y (end zero' x) in
          (λ i. given host ((past ++ waiting s chunk) ++ (gone i ++ none i))) ∙ ap (given host) (append-nil (past ++ waiting s chunk))

  pub long-carried : Ready s b.tape → (line' : List ℕ) → Past (waiting s chunk) (take s.len line) → (u v : Option (List ℕ))
      → (t : Turned s chunk line b (with_done s) chunk line' b) × Carries s chunk line b t.found (with_done s) chunk u u v v
  unfolding long-turned
  long-carried p line' w u v = (
    long-turned s chunk line b going p line' w,
    record {
      read = consumes-none u;
      sent = record { least = omega arith; most = omega arith; bytes = none s.output.silent };
      steps = λ z. absurd (true≢false z);
      closes = λ z x host past more h y. rw (append-nil past) (long-shut host past s chunk line b h going w more);
    },
  )
    where
      nothing : (n : ℕ) → n - n ≡ 0
      nothing n = omega arith

      none : (q : Bool) → Appends v v (if q then [] else take (s.output.gone - s.output.gone) b.out)
      none true = appends-none v
      none false = subst (λ n. Appends v v (take n b.out)) (sym (nothing s.output.gone)) (appends-none v)

-- ---- All of the reader's bytes

-- `closed` says what the reader still has; with what was read that is all
all-given : (host input rest : List ℕ) (failed : Bool) (u u' : Option (List ℕ)) → Consumes u u' (input ++ rest) → Closed host input rest failed u' → IfSome u (λ xs. failed ≡ false → length xs < 4503599627370496 → given host xs ≡ given host input)
all-given host input rest failed None u' c k = tt
all-given host input rest failed (Some xs) None c k = absurd c
all-given host input rest failed (Some xs) (Some ys) c k =
    λ f l. ap (given host) c ∙ k f (omega (arith, ap length c, length-append (input ++ rest) ys)) ys refl

pub run-whole : (host input rest : List ℕ) (failed : Bool) (u u' w w' : Option (List ℕ)) → Consumes u u' (input ++ rest) → Closed host input rest failed u' → Appends w w' (printed host input)
    → IfSome u (λ xs. failed ≡ false → length xs < 2 ^ 52 → Appends w w' (printed host xs))
run-whole host input rest failed None u' w w' c k a = tt
run-whole host input rest failed (Some xs) u' w w' c k a = λ f l. subst (Appends w w') (sym (ap (λ (g : S.Given). g.1) (all-given host input rest failed (Some xs) u' c k f l))) a

pub page-whole : (host input rest : List ℕ) (failed : Bool) (u u' w w' : Option (List ℕ)) → Consumes u u' (input ++ rest) → Closed host input rest failed u' → Appends w w' (paged host input)
    → IfSome u (λ xs. failed ≡ false → length xs < 2 ^ 52 → Appends w w' (paged host xs))
unfolding paged
page-whole host input rest failed None u' w w' c k a = tt
page-whole host input rest failed (Some xs) u' w w' c k a = λ f l. subst (Appends w w') (sym (ap (λ (g : S.Given). shown g.0.state memory_room) (all-given host input rest failed (Some xs) u' c k f l))) a

-- a turn that ended the session says so, of the bytes that wait and those that the reader still has
pub closes-closed : (host input rest : List ℕ) (failed : Bool) (u' : Option (List ℕ)) → (failed ≡ false → (more : List ℕ) → u' ≡ Some more → given host (input ++ (rest ++ more)) ≡ given host input) → Closed host input rest failed u'
closes-closed host input rest failed u' f z l more y = ap (given host) (append_assoc input rest more) ∙ f z more y

-- where all turns were used, so much was read
pub turns-closed : (host input rest : List ℕ) (failed : Bool) (u' : Option (List ℕ)) (turns : ℕ) → 9007199254740992 ≤ turns → turns ≤ 2 * length input + length rest → Closed host input rest failed u'
turns-closed host input rest failed u' turns all h z l more y = absurd (omega (arith, length-append input rest))

pub on_err : {T E P : Type 0} (r : Result T E) → P → OnErr r P
on_err (Ok x) p = tt
on_err (Err e) p = p
