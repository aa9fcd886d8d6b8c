-- How a line's answer comes to be what the definition gives.
use Rattle.std.specs.Prelude.{◌≡◌, false, ℕ, ◌+◌, ◌*◌, ◌/◌, ◌-◌, ◌≤◌, ◌<◌, length, get_or, take, drop}
use Rattle.std.proofs.Math.Path.{refl, ap}
use Rattle.std.proofs.Common.{sym, ◌∙◌, arith, length-drop, drop-drop, get_or-drop, ext_get_or, take_all, eq-eqb, ne_eqb}
use mathlib.Core.List.{List, []}
use Rattle.std.proofs.Math.Decide.{ℕ_discrete}
use Rattle.rules.specs.Shape.{Shape}
use Rattle.rules.specs.State.{State}
use Rattle.rules.specs.Draws.{draws}
use Rattle.rules.proofs.Laws.Drawn.{taken-lent}
use Rattle.rules.specs.Questions.{Ask, request, Call, bounds, number}
use Rattle.rules.specs.Run.{Outcome, step, accepted, refused, numbers_of}
use Rattle.rules.specs.Laws.Answers.{opens}
use Rattle.rules.proofs.Laws.Answers.{step-accepted, refused-keeps, refused-outcome}
use Rattle.rules.proofs.Laws.Shapes.{act-shape}
use Rattle.memory.specs.Words.{word_at}
use Rattle.memory.specs.Fits.{shape_of}
use Rattle.client.specs.declared.Client.{Client}
use Rattle.client.specs.View.{state_of, view}
use Rattle.tape.specs.Tape.{words_of, length-words, word-is}
use Rattle.contract.specs.Answers.{Answer}
use Rattle.contract.specs.Meets.{Meets, call_of, reported}
use Rattle.printing.specs.Text.{number_text}
use Rattle.printing.specs.Laws.{text_room, number-le as number-text-le}
use Rattle.lists.specs.Written.{Written, same_text}
use Rattle.session.specs.Session as S
use Rattle.session.specs.Session.{serves, memory_room, call, went, answered, replied}
use Rattle.session.specs.declared.Session.{Session}
use Rattle.session.specs.declared.Printed.{Printed}
use Rattle.session.specs.Answers.{kept, Served, Gives, Asks}

-- ---- The tape

-- what is left of the tape, as bytes and as words
pub words-drop : (t : List ℕ) (k : ℕ) → k ≤ length (words_of t) → words_of (drop (k * 2) t) ≡ drop k (words_of t)
unfolding word_at
words-drop t k l = ext_get_or 0 _ _ same at
  where
    half : (a k : ℕ) → (a - k * 2) / 2 ≡ a / 2 - k
    half a k = omega arith

    same : length (words_of (drop (k * 2) t)) ≡ length (drop k (words_of t))
    same = length-words (drop (k * 2) t) ∙ ap (λ n. n / 2) (length-drop (k * 2) t) ∙ half (length t) k ∙ sym (length-drop k (words_of t) ∙ ap (λ n. n - k) (length-words t))

    byte : (i j : ℕ) → k * 2 + i ≡ j → get_or (drop (k * 2) t) i 0 ≡ get_or t j 0
    byte i j e = get_or-drop (k * 2) t i 0 ∙ ap (λ n. get_or t n 0) e

    later : (i : ℕ) → word_at (drop (k * 2) t) i ≡ word_at t (k + i)
    later i = rw (byte (i * 2) ((k + i) * 2) (omega arith), byte (i * 2 + 1) ((k + i) * 2 + 1) (omega arith))

    at : (i : ℕ) → i < length (words_of (drop (k * 2) t)) → get_or (words_of (drop (k * 2) t)) i 0 ≡ get_or (drop k (words_of t)) i 0
    at i h =
        let n = length-words (drop (k * 2) t) in
        let m = same ∙ length-drop k (words_of t) ∙ ap (λ n. n - k) (length-words t) in
        word-is (drop (k * 2) t) i (omega (arith, n)) ∙ later i ∙ sym (get_or-drop k (words_of t) i 0 ∙ word-is t (k + i) (omega (arith, m)))

-- no call takes more words than it is lent
pub step-taken : (s : State) (c : Call) → (step s c).1.taken ≤ length c.words
unfolding accepted refused
step-taken s c = go (ℕ_discrete (number s c) 0)
  where
    go : Dec (number s c ≡ 0) → (step s c).1.taken ≤ length c.words
    go (yes z) = rw (step-accepted s c z) (taken-lent (bounds s c.ask) c.words)
    go (no n) = rw (refused-outcome s c n) (omega arith)

-- no call but an open changes the shape
pub step-shape : (s : State) (c : Call) → opens c.ask ≡ false → (step s c).0.shape ≡ s.shape
unfolding accepted
step-shape s c four = go (ℕ_discrete (number s c) 0)
  where
    go : Dec (number s c ≡ 0) → (step s c).0.shape ≡ s.shape
    go (yes z) = ap (λ (x : State × Outcome). x.0.shape) (step-accepted s c z) ∙ act-shape s c.ask (numbers_of (draws (bounds s c.ask) c.words)) four
    go (no n) = ap (λ (x : State). x.shape) (refused-keeps s c four n)

-- the bytes of the words taken are within the tape
pub left_le : (s : Session) (tape : List ℕ) → Served s tape → s.taken * 2 ≤ length tape
left_le s tape f = omega (arith, f.taken, length-words tape)

-- lent from there on
pub left-whole : (k : ℕ) (tape : List ℕ) → take (length tape - k) (drop k tape) ≡ drop k tape
left-whole k tape = take_all (length tape - k) (drop k tape) (omega (arith, length-drop k tape))

-- ---- One call, on what is left of the tape: the bytes t

-- a call whose answer reports the words that it took
abbrev pub CountsWords : Ask → Type 0
CountsWords a = (n : ℕ) (bs : List ℕ) → reported a n bs ≡ n

module _ (s : Session) (m tape host t : List ℕ) (f : Served s tape) (left : t ≡ drop (s.taken * 2) tape) (long : length m ≡ memory_room) where
  words_left : words_of t ≡ drop s.taken (words_of tape)
  words_left = ap words_of left ∙ words-drop tape s.taken f.taken

  module _ (c : Client) (st : State) (a : Ask) (b : List ℕ) (r : Answer) (m' b' : List ℕ) (k : Meets c st a m t b r m' b') where
    -- the call, as the definition has it
    abbrev pub made : Call
    made = call a memory_room (drop s.taken (words_of tape)) (length b)

    pub made-is : call_of a m t b ≡ made
    made-is = λ i. record { ask = a; memory = long i; words = words_left i; buffer = length b }

    pub number_is : r.number ≡ (step st made).1.number
    number_is = k.number ∙ ap (λ y. (step st y).1.number) made-is

    -- it is refused: the line prints its number alone, and nothing changes
    pub call-no : (g : S.Given) → (r.number ≡ 0 → ⊥) → (p : Printed) → p.session ≡ s → (out out' : List ℕ) (at : ℕ) → Written out at (number_text r.number) out' p.at
        → Gives (answered (kept s m tape host) (step st made) g) tape out at p m' host out'
    unfolding answered
    call-no g n p e out out' at w =
        rw (ne_eqb (step st made).1.number 0 (λ z. n (number_is ∙ z))) (record {
          session = ap (λ x. kept x m' tape host) e ∙ ap (λ x. kept s x tape host) (k.refused n).0;
          text = same_text (ap number_text number_is) w;
          served = rw e f;
          room = omega (arith, w.place, number-text-le r.number);
        })

    -- what is kept after an accepted one
    abbrev pub later : Session
    later = record { client = r.client; taken = s.taken + r.taken }

    pub went-is : CountsWords a → kept later m' tape host ≡ went (kept s m tape host) (step st made)
    unfolding went
    went-is q = λ i. record { state = state-is i; words = words_are i; host = host }
      where
        state-is : state_of r.client m' ≡ (step st made).0
        state-is = k.state ∙ ap (λ y. (step st y).0) made-is

        words_are : drop (s.taken + r.taken) (words_of tape) ≡ drop (step st made).1.taken (drop s.taken (words_of tape))
        words_are = sym (drop-drop r.taken s.taken (words_of tape)) ∙ ap (λ n. drop n (drop s.taken (words_of tape))) (k.taken ∙ q _ _ ∙ ap (λ y. (step st y).1.taken) made-is)

    pub taken-le : CountsWords a → s.taken + r.taken ≤ length (words_of tape)
    taken-le q =
        let l = ap length words_left ∙ length-drop s.taken (words_of tape) in
        omega (arith, f.taken, k.taken ∙ q _ _, step-taken st (call_of a m t b))

    -- the shape that is left
    shape-left : shape_of r.client.shape ≡ (step st made).0.shape
    unfolding state_of view
    shape-left = ap (λ (x : State). x.shape) (k.state ∙ ap (λ y. (step st y).0) made-is)

    pub shape_same : st.shape ≡ shape_of s.client.shape → opens a ≡ false → shape_of r.client.shape ≡ shape_of s.client.shape
    shape_same e four = shape-left ∙ step-shape st made four ∙ e

    pub served-later : CountsWords a → st.shape ≡ shape_of s.client.shape → opens a ≡ false → Served later tape
    served-later q e four =
        let h = shape_same e four in
        record { serves = ap serves h ∙ f.serves; block = omega (arith, ap (λ (x : Shape). x.B) h, f.block); taken = taken-le q }

    pub call-yes : CountsWords a → r.number ≡ 0 → Served later tape → (text : List ℕ) → length text ≤ text_room → (p : Printed) → p.session ≡ later → (out out' : List ℕ) (at : ℕ) → Written out at text out' p.at
        → Gives (answered (kept s m tape host) (step st made) (went (kept s m tape host) (step st made), text)) tape out at p m' host out'
    unfolding answered
    call-yes q z l text short p e out out' at w =
        rw (eq-eqb (step st made).1.number 0 (sym number_is ∙ z)) (record {
          session = ap (λ x. kept x m' tape host) e ∙ went-is q;
          text = w;
          served = rw e l;
          room = omega (arith, w.place);
        })

-- ---- R and W

module _ (s : Session) (m tape t : List ℕ) (f : Served s tape) (left : t ≡ drop (s.taken * 2) tape) (long : length m ≡ memory_room) (kind block : ℕ) (bs : List ℕ) (r : Answer) (m' : List ℕ)
    (k : Meets s.client (state_of s.client m) (request kind block bs) m t [] r m' []) where
  shaped : (state_of s.client m).shape ≡ shape_of s.client.shape
  unfolding state_of view
  shaped = refl

  pub asked-no : (r.number ≡ 0 → ⊥) → (p : Printed) → p.session ≡ s → (out out' : List ℕ) (at : ℕ) → Written out at (number_text r.number) out' p.at → Asks s kind block bs m tape out at p m' out'
  unfolding replied
  asked-no n p e out out' at w host = call-no s m tape host t f left long s.client (state_of s.client m) (request kind block bs) [] r m' [] k _ n p e out out' at w

  pub asked-yes : r.number ≡ 0 → (p : Printed) → p.session ≡ record { client = r.client; taken = s.taken + r.taken } → (out out' : List ℕ) (at : ℕ) → Written out at (number_text 0) out' p.at → Asks s kind block bs m tape out at p m' out'
  unfolding replied
  asked-yes z p e out out' at w host =
      call-yes s m tape host t f left long s.client (state_of s.client m) (request kind block bs) [] r m' [] k (λ n bs. refl) z
      (served-later s m tape host t f left long s.client (state_of s.client m) (request kind block bs) [] r m' [] k (λ n bs. refl) shaped (unfold opens in refl))
      (number_text 0) (omega (arith, number-text-le 0)) p e out out' at w

  pub asked-taken : s.taken + r.taken ≤ length (words_of tape)
  asked-taken = taken-le s m tape [] t f left long s.client (state_of s.client m) (request kind block bs) [] r m' [] k (λ n bs. refl)
