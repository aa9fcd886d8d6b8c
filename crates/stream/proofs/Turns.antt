-- A turn carries a history on.
use Rattle.std.specs.Prelude.{◌≡◌, Bool, ℕ, ◌+◌, ◌-◌, ◌≤◌, ◌<◌, length, take, drop, get_or}
use Rattle.std.proofs.Math.Path.{refl, ap}
use Rattle.std.proofs.Common.{sym, ◌∙◌, true≢false, add-one, arith, take-append-drop, get_or-take, length-take-le, eqb-true}
use Rattle.std.proofs.Math.Bool.{true, false}
use mathlib.Core.List.{List, [], ◌∷◌, ◌++◌, append-nil}
use Rattle.std.proofs.Math.ListN.{length-append}
use Rattle.std.proofs.Math.Seq.{take-suc, take-append_seam}
use Rattle.std.proofs.Math.Dec.{eqb}
use Rattle.client.specs.View.{state_of}
use Rattle.report.specs.Page.{shown}
use Rattle.lines.specs.Lines.{tape_room}
use Rattle.session.specs.Session as S
use Rattle.session.specs.Session.{ends, prints, session, leaves, left, begun, memory_room}
use Rattle.printing.specs.Laws.{text_room}
use Rattle.session.specs.Answers.{kept, fresh, fresh_kept, Served}
use Rattle.session.specs.TurnLine.{no_words}
use Rattle.stream.specs.declared.State.{State}
use Rattle.stream.specs.declared.Brought.TheVariants.{Whole, Part, TooLong}
use Rattle.output.specs.Output.{out_room, total, total_most, holds-none}
use Rattle.stream.specs.Stream.{line_room, Ready, Plain, Ended, Goes, Past, Buffers, buffers, Stays, Responds, Begun, Refilled}
use Rattle.output.specs.Printed.{cut, printed, Due}
use Rattle.output.specs.Paged.{paged, PageDue}
use Rattle.stream.specs.History.{given, behind_text, Follows, coming, kept_in, waiting, History, Turned, Followed, Prints, Pages}
use Rattle.stream.specs.Laws.{most, waits-behind}
use Rattle.stream.specs.Steps.{cut-plain, nothing-follows, line_gives, line-follows, part_gives, part-follows, until, Does, responds-does, begun-does}
use Rattle.stream.proofs.Long.{long-line, long-tape}

-- no line prints nothing, and leaves the session as it is
until_none : (done : Bool) (k : S.Session) → until done k [] ≡ (k, [])
unfolding prints leaves
until_none true k = refl
until_none false k = refl

-- the first bytes of plain ones
first_plain : (n : ℕ) (bytes : List ℕ) → Plain n bytes → Plain (length (take n bytes)) (take n bytes)
first_plain n bytes f j h e = let l : j < n = omega (arith, most n bytes) in f j l (sym (get_or-take n bytes j 0 l) ∙ e)

-- ---- A line that does not fit gives nothing, and nor do those behind it

long-gives : (first : Bool) (k : S.Session) (l : List ℕ) (ls : List (List ℕ)) → line_room < length l → coming first k (l ∷ ls) ≡ coming first k []
unfolding prints leaves session left ends
long-gives true k l ls h = rw (long-tape l h, session, left, long-line l h)
long-gives false k l ls h = rw (long-line l h)

module _ (f : List (List ℕ) → S.Given) (long : (l : List ℕ) (ls : List (List ℕ)) → line_room < length l → f (l ∷ ls) ≡ f []) where
  long-cut : (had bytes : List ℕ) → line_room < length had → f (cut had bytes) ≡ f []
  unfolding cut
  long-cut had [] h = refl
  long-cut had (x ∷ bytes) h = go (eqb x 10) refl (long-cut (had ++ (x ∷ [])) bytes (omega (arith, length-append had (x ∷ []))))
    where
      go : (t : Bool) → eqb x 10 ≡ t → f (cut (had ++ (x ∷ [])) bytes) ≡ f [] → f (cut had (x ∷ bytes)) ≡ f []
      go true e r = rw (e, cut) (long had (cut [] bytes) h)
      go false e r = rw (e, cut) r

  past-cut : (bytes had : List ℕ) → Past bytes had → f (cut had bytes) ≡ f []
  past-cut bytes had w =
      let n = line_room + 1 - length had in
      let size : length (take n bytes) ≡ n = length-take-le n bytes (omega (arith, w.more)) in
      ap (λ l. f (cut had l)) (sym (take-append-drop n bytes))
      ∙ ap f (cut-plain had (take n bytes) (drop n bytes) (first_plain n bytes w.plain))
      ∙ long-cut (had ++ take n bytes) (drop n bytes) (omega (arith, length-append had (take n bytes)))

-- ---- A turn

-- the state at which a whole line is answered
abbrev pub moved : ℕ → State → State
moved n s = record { session = s.session; tape = s.tape; first = s.first; done = s.done; failed = s.failed; from = n; to = s.to; len = 0; output = s.output }

-- the state at which a part of a line is taken, and at which a line does not fit
abbrev pub with_len : ℕ → State → State
with_len k s = record { session = s.session; tape = s.tape; first = s.first; done = s.done; failed = s.failed; from = s.from; to = s.to; len = k; output = s.output }

abbrev pub with_done : State → State
with_done s = record { session = s.session; tape = s.tape; first = s.first; done = true; failed = s.failed; from = s.from; to = s.to; len = s.len; output = s.output }

module _ (host past : List ℕ) (s : State) (chunk line : List ℕ) (b : Buffers) (h : History host past s chunk line b) (going : s.done ≡ false) where
  -- a newline is found, and the line is answered
  module _ (k i : ℕ) (line' : List ℕ) (w : Ended (waiting s chunk) (take s.len line) k i line') (r : State) (chunk' line'' : List ℕ) (e : Buffers)
      (d : Does (coming s.first (kept_in s b)) (take k line') s.output b.out (until r.done (kept_in r e)) r.output e.out) (first : r.first ≡ false) (len : r.len ≡ 0) where
    p : List ℕ
    p = take i (waiting s chunk)

    with_newline : take (i + 1) (waiting s chunk) ≡ p ++ (10 ∷ [])
    unfolding p
    with_newline = rw (add-one i, take-suc (waiting s chunk) i 0 w.within, w.newline)

    pub whole-history : History host (past ++ take (i + 1) (waiting s chunk)) r chunk' line'' e
    unfolding p
    whole-history = rw with_newline (record {
      text = rw (ap (λ (x : S.Given). x.1) now) (d.holds (printed host past) h.text);
      session = ap (λ (x : S.Given). x.0) now;
      goes = λ z more. next more ∙ ap (λ t. behind_text (printed host (past ++ (p ++ (10 ∷ [])))) (until t (kept_in r e) (cut [] more))) z ∙ (λ j. behind_text (printed host (past ++ (p ++ (10 ∷ [])))) (coming (sym first j) (kept_in r e) (cut (take (sym len j) line'') more)));
      over = λ z. nothing-follows host (past ++ (p ++ (10 ∷ []))) [] (until r.done (kept_in r e)) next (waiting r chunk') (ended z (cut [] (waiting r chunk')));
    })
      where
        one : (ls : List (List ℕ)) → coming s.first (kept_in s b) ((take s.len line ++ p) ∷ ls) ≡ behind_text d.text (until r.done (kept_in r e) ls)
        one ls = ap (λ l. coming s.first (kept_in s b) (l ∷ ls)) (sym w.text) ∙ d.gives ls

        plain : Plain (length p) p
        plain = first_plain i (waiting s chunk) w.plain

        now : given host (past ++ (p ++ (10 ∷ []))) ≡ (kept_in r e, printed host past ++ d.text)
        now = line_gives host past (take s.len line) (coming s.first (kept_in s b)) (h.goes going) p plain (until r.done (kept_in r e)) d.text one (kept_in r e) (until_none r.done (kept_in r e))

        next : Follows host (past ++ (p ++ (10 ∷ []))) (until r.done (kept_in r e)) []
        next = line-follows host past (take s.len line) (coming s.first (kept_in s b)) (h.goes going) p plain (until r.done (kept_in r e)) d.text one (kept_in r e) (until_none r.done (kept_in r e))

        ended : r.done ≡ true → (ls : List (List ℕ)) → until r.done (kept_in r e) ls ≡ until r.done (kept_in r e) []
        ended z ls = ap (λ t. until t (kept_in r e) ls) z ∙ sym (ap (λ t. until t (kept_in r e) []) z)

    -- a line that ends the session: whatever comes prints nothing
    pub whole-shut : r.done ≡ true → (more : List ℕ) → given host ((past ++ take (i + 1) (waiting s chunk)) ++ more) ≡ given host (past ++ take (i + 1) (waiting s chunk))
    unfolding p
    whole-shut z more = rw with_newline (nothing-follows host (past ++ (p ++ (10 ∷ []))) [] (until r.done (kept_in r e)) next more (ended (cut [] more)))
      where
        one : (ls : List (List ℕ)) → coming s.first (kept_in s b) ((take s.len line ++ p) ∷ ls) ≡ behind_text d.text (until r.done (kept_in r e) ls)
        one ls = ap (λ l. coming s.first (kept_in s b) (l ∷ ls)) (sym w.text) ∙ d.gives ls

        next : Follows host (past ++ (p ++ (10 ∷ []))) (until r.done (kept_in r e)) []
        next = line-follows host past (take s.len line) (coming s.first (kept_in s b)) (h.goes going) p (first_plain i (waiting s chunk) w.plain) (until r.done (kept_in r e)) d.text one (kept_in r e) (until_none r.done (kept_in r e))

        ended : (ls : List (List ℕ)) → until r.done (kept_in r e) ls ≡ until r.done (kept_in r e) []
        ended ls = ap (λ t. until t (kept_in r e) ls) z ∙ sym (ap (λ t. until t (kept_in r e) []) z)

  -- none is found, and more is read
  module _ (k : ℕ) (line' : List ℕ) (w : Goes (waiting s chunk) (take s.len line) k line') (r : State) (chunk' out' : List ℕ) (f : Refilled (with_len k s) r) where
    pub part-history : History host (past ++ waiting s chunk) r chunk' line' (buffers b.tape b.memory b.host out')
    part-history = record {
      text = rw (ap (λ (x : S.Given). x.1) now) (holds-none (printed host past) b.out out' s.output r.output h.text (omega (arith, f.at, f.gone)) f.at);
      session = ap (λ (x : S.Given). x.0) now ∙ h.session ∙ kept_now;
      goes = λ z more. next more ∙ (λ i. behind_text (printed host (past ++ waiting s chunk)) (coming (sym f.first i) (kept_now i) (cut (sym text i) more)));
      over = λ z. ap (λ l. given host ((past ++ waiting s chunk) ++ l)) (nothing z) ∙ ap (given host) (append-nil (past ++ waiting s chunk));
    }
      where
        now : given host (past ++ waiting s chunk) ≡ given host past
        now = part_gives host past (take s.len line) (coming s.first (kept_in s b)) (h.goes going) (waiting s chunk) w.plain

        next : Follows host (past ++ waiting s chunk) (coming s.first (kept_in s b)) (take s.len line ++ waiting s chunk)
        next = part-follows host past (take s.len line) (coming s.first (kept_in s b)) (h.goes going) (waiting s chunk) w.plain

        kept_now : kept_in s b ≡ kept_in r (buffers b.tape b.memory b.host out')
        kept_now = λ i. kept (sym f.session i) b.memory (take (sym f.tape i) b.tape) b.host

        text : take r.len line' ≡ take s.len line ++ waiting s chunk
        text = ap (λ n. take n line') f.len ∙ w.text

        nothing : r.done ≡ true → waiting r chunk' ≡ []
        nothing z =
            let none : r.to ≡ 0 = eqb-true r.to 0 (sym f.done ∙ z) in
            let size : r.to - r.from ≡ 0 = omega arith in
            ap (λ n. take n (drop r.from chunk')) size

  -- the line does not fit
  module _ (line' : List ℕ) (w : Past (waiting s chunk) (take s.len line)) where
    pub long-history : History host (past ++ []) (with_done s) chunk line' b
    long-history = record {
      text = rw (append-nil past) h.text;
      session = rw (append-nil past) h.session;
      goes = λ z. absurd (true≢false z);
      over = λ z. rw (append-nil past) (nothing-follows host past (take s.len line) (coming s.first (kept_in s b)) (h.goes going) (waiting s chunk) nothing);
    }
      where
        nothing : coming s.first (kept_in s b) (cut (take s.len line) (waiting s chunk)) ≡ coming s.first (kept_in s b) []
        nothing = past-cut (coming s.first (kept_in s b)) (long-gives s.first (kept_in s b)) (waiting s chunk) (take s.len line) w

  -- .. whatever comes behind it
  pub long-shut : Past (waiting s chunk) (take s.len line) → (more : List ℕ) → given host (past ++ (waiting s chunk ++ more)) ≡ given host past
  long-shut w more = nothing-follows host past (take s.len line) (coming s.first (kept_in s b)) (h.goes going) (waiting s chunk ++ more) (past-cut (coming s.first (kept_in s b)) (long-gives s.first (kept_in s b)) (waiting s chunk ++ more) (take s.len line) longer)
    where
      longer : Past (waiting s chunk ++ more) (take s.len line)
      longer = record {
        more = omega (arith, w.more, length-append (waiting s chunk) more);
        plain = λ j l e. w.plain j l (ap (λ t. get_or t j 0) (sym (take-append_seam (waiting s chunk) more)) ∙ get_or-take (length (waiting s chunk)) (waiting s chunk ++ more) j 0 (omega (arith, w.more)) ∙ e);
      }

-- ---- What a turn promises

module _ (s : State) (chunk line : List ℕ) (b : Buffers) (going : s.done ≡ false) where
  module _ (k i : ℕ) (line' : List ℕ) (w : Ended (waiting s chunk) (take s.len line) k i line') (r : State) (e : Buffers) where
    pub rest-waits : r.from ≡ s.from + i + 1 → r.to ≡ s.to → waiting r chunk ≡ drop (i + 1) (waiting s chunk)
    rest-waits f t = (λ j. take (t j - f j) (drop (f j) chunk)) ∙ waits-behind chunk s.from s.to i

    unfoldable pub line-turned : Ready r e.tape → total r.output ≤ total s.output + text_room → Stays (moved (s.from + i + 1) s) r → r.first ≡ false
        → Does (coming s.first (kept_in s b)) (take k line') s.output b.out (until r.done (kept_in r e)) r.output e.out → Turned s chunk line b r chunk line' e
    line-turned ready size stays first d = record {
      ready = ready;
      size = size;
      silent = stays.silent;
      found = Whole k i;
      brings = w;
      leaves = rest-waits stays.from stays.to;
      history = λ host past h. whole-history host past s chunk line b h going k i line' w r chunk line' e d first stays.len;
    }

    unfoldable pub respond-turned : s.first ≡ false → e.tape ≡ b.tape → Responds (moved (s.from + i + 1) s) (take k line') b r e → Turned s chunk line b r chunk line' e
    respond-turned first tape p = line-turned p.ready p.size p.stays (p.first ∙ first) (responds-does (moved (s.from + i + 1) s) (take k line') b r e first tape p)

    unfoldable pub begin-turned : s.first ≡ true → Begun (moved (s.from + i + 1) s) (take k line') b r e → Turned s chunk line b r chunk line' e
    begin-turned first p = line-turned p.ready p.size p.stays p.first (begun-does (moved (s.from + i + 1) s) (take k line') b r e first going p)

  unfoldable pub part_turned : Served s.session (take s.tape b.tape) → s.tape ≤ tape_room → (k : ℕ) (line' : List ℕ) → Goes (waiting s chunk) (take s.len line) k line' → (r : State) (chunk' out' : List ℕ) → Refilled (with_len k s) r → Turned s chunk line b r chunk' line' (buffers b.tape b.memory b.host out')
  part_turned v t k line' w r chunk' out' f = record {
    ready = record { served = rw (f.session, f.tape) v; tape = omega (arith, f.tape); from = omega (arith, f.from); to = f.to; len = omega (arith, f.len, w.room); at = omega (arith, f.at) };
    size = omega (arith, f.at, f.gone);
    silent = f.silent;
    found = Part k;
    brings = w;
    leaves = (f.from, f.at);
    history = λ host past h. part-history host past s chunk line b h going k line' w r chunk' out' f;
  }

  unfoldable pub long-turned : Ready s b.tape → (line' : List ℕ) → Past (waiting s chunk) (take s.len line) → Turned s chunk line b (with_done s) chunk line' b
  long-turned p line' w = record {
    ready = record { served = p.served; tape = p.tape; from = p.from; to = p.to; len = p.len; at = p.at };
    size = omega arith;
    silent = refl;
    found = TooLong;
    brings = w;
    leaves = refl;
    history = λ host past h. long-history host past s chunk line b h going line' w;
  }

-- ---- The start, and the end

-- nothing was taken, and nothing printed
pub history-start : (s : State) (chunk line : List ℕ) (b : Buffers) → s.session ≡ fresh → s.tape ≡ 0 → s.done ≡ false → s.first ≡ true → s.len ≡ 0 → s.output.at ≡ 0 → s.output.gone ≡ 0 → History b.host [] s chunk line b
unfolding printed cut session left
history-start s chunk line b new tape going first len at gone = record {
  text = record { all = omega arith; rest = ap (λ n. drop n []) gone ∙ ap (λ n. take n b.out) (sym at) };
  session = sym ((λ i. kept (new i) b.memory (take (tape i) b.tape) b.host) ∙ fresh_kept b.memory [] b.host ∙ ap (begun b.host) no_words);
  goes = λ z more. (λ i. coming (sym first i) (kept_in s b) (cut (take (sym len i) line) more));
  over = λ z. absurd (true≢false (sym z ∙ going));
}

-- what the buffer holds may be handed over
pub history-due : (host past : List ℕ) (s : State) (chunk line : List ℕ) (b : Buffers) → History host past s chunk line b → s.output.at ≤ out_room → total s.output ≤ total_most → Due b.out s.output
history-due host past s chunk line b h room count = record { room = room; count = count; host = host; input = past; holds = h.text }

-- the session that is kept has the state that was left
pub history-followed : (host past : List ℕ) (s : State) (chunk line : List ℕ) (b : Buffers) (quiet : Bool) → History host past s chunk line b → s.output.silent ≡ quiet → s.output.at ≤ out_room → total s.output ≤ total_most
    → Followed host quiet s b.memory b.out
history-followed host past s chunk line b quiet h silent room count = record { input = past; text = h.text; state = ap (λ (k : S.Session). k.state) (sym h.session); silent = silent; room = room; count = count }

module _ (host : List ℕ) (quiet : Bool) (r : State) (memory out : List ℕ) (f : Followed host quiet r memory out) where
  pub followed-due : Due out r.output
  followed-due = record { room = f.room; count = f.count; host = host; input = f.input; holds = f.text }

  -- what left and what is in the buffer is all that was printed
  pub followed-prints : (n : ℕ) → n ≡ total r.output → Prints host n
  followed-prints n e = record { input = f.input; all = e ∙ sym f.text.all }

  -- the page of the state that the client and the memory stand for is the one that the input leaves
  page-is : shown (state_of r.session.client memory) memory_room ≡ paged host f.input
  unfolding paged
  page-is = ap (λ s. shown s memory_room) f.state

  -- .. and may be handed over, if the output is silent
  pub followed-page : quiet ≡ true → (text : List ℕ) → text ≡ shown (state_of r.session.client memory) memory_room → PageDue text r.output
  followed-page silent text e = record { silent = f.silent ∙ silent; host = host; input = f.input; bytes = e ∙ page-is }

  pub followed-pages : (n : ℕ) → n ≡ length (shown (state_of r.session.client memory) memory_room) → Pages host n
  followed-pages n e = record { input = f.input; all = e ∙ ap length page-is }
