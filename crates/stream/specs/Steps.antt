-- What the bytes that a turn takes do to a history.
use Rattle.std.specs.Prelude.{◌≡◌, refl, Bool, true, false, ℕ, suc, length, take, Option, None, Some}
use Rattle.std.proofs.Math.Path.{sym, ap}
use Rattle.std.proofs.Common.{◌∙◌, arith, ne_eqb}
use mathlib.Core.List.{List, [], ◌∷◌, ◌++◌, append_assoc, append-nil}
use Rattle.lines.specs.Lines.{line_of, tape_of}
use Rattle.session.specs.Session as S
use Rattle.session.specs.Session.{ends, gives, prints, session, leaves, left, begun}
use Rattle.session.specs.Answers.{kept, fresh, fresh_kept}
use Rattle.session.specs.TurnLine.{no_words}
use Rattle.session.specs.declared.Session.{Session}
use Rattle.stream.specs.declared.State.{State}
use Rattle.output.specs.declared.Output.{Output}
use Rattle.output.specs.Output.{Holds, holds-placed, holds_more}
use Rattle.stream.specs.Stream.{Plain, Buffers, buffers, Gives, Responds, Begun, Begins}
use Rattle.output.specs.Printed.{cut, printed}
use Rattle.stream.specs.History.{given, behind_text, Follows, coming, kept_in}

-- ---- The lines that bytes make

-- bytes without a newline make the line longer that has begun
pub cut-plain : (had p xs : List ℕ) → Plain (length p) p → cut had (p ++ xs) ≡ cut (had ++ p) xs
unfolding cut
cut-plain had [] xs f = ap (λ h. cut h xs) (sym (append-nil had))
cut-plain had (x ∷ p) xs f =
    rw (ne_eqb x 10 (f 0 (omega arith)), cut)
    (cut-plain (had ++ (x ∷ [])) p xs (λ j h. f (suc j) (omega arith)) ∙ ap (λ h. cut h xs) (append_assoc had (x ∷ []) p))

-- a newline ends it
cut-end : (had p more : List ℕ) → Plain (length p) p → cut had ((p ++ (10 ∷ [])) ++ more) ≡ (had ++ p) ∷ cut [] more
unfolding cut
cut-end had p more f = ap (cut had) (append_assoc p (10 ∷ []) more) ∙ cut-plain had p (10 ∷ more) f

-- lines, each with the newline that ends it
unfoldable pub joined : List (List ℕ) → List ℕ
joined [] = []
joined (l ∷ ls) = (l ++ (10 ∷ [])) ++ joined ls

-- lines without a newline in them
abbrev pub AllPlain : List (List ℕ) → Type 0
AllPlain [] = Unit {0}
AllPlain (l ∷ ls) = Plain (length l) l × AllPlain ls

-- `cut` is the inverse: lines, each with its newline, and behind them bytes without one make these lines
pub cut-joined : (ls : List (List ℕ)) (rest : List ℕ) → AllPlain ls → Plain (length rest) rest → cut [] (joined ls ++ rest) ≡ ls
unfolding joined cut
cut-joined [] rest f g = ap (cut []) (sym (append-nil rest)) ∙ cut-plain [] rest [] g
cut-joined (l ∷ ls) rest (h, f) g = ap (cut []) (append_assoc (l ++ (10 ∷ [])) (joined ls) rest) ∙ cut-end [] l (joined ls ++ rest) h ∙ ap (λ x. l ∷ x) (cut-joined ls rest f g)

-- ---- What follows

module _ (host past had : List ℕ) (f : List (List ℕ) → S.Given) (goes : Follows host past f had) where
  -- lines that give what no line gives
  pub nothing-follows : (bytes : List ℕ) → f (cut had bytes) ≡ f [] → given host (past ++ bytes) ≡ given host past
  unfolding cut
  nothing-follows bytes e = goes bytes ∙ ap (behind_text (printed host past)) e ∙ sym (ap (given host) (sym (append-nil past)) ∙ goes [])

  module _ (p : List ℕ) (plain : Plain (length p) p) where
    -- bytes with a newline behind them
    module _ (g : List (List ℕ) → S.Given) (text : List ℕ) (one : (ls : List (List ℕ)) → f ((had ++ p) ∷ ls) ≡ behind_text text (g ls)) (k : S.Session) (end : g [] ≡ (k, [])) where
      all : (more : List ℕ) → given host ((past ++ (p ++ (10 ∷ []))) ++ more) ≡ behind_text (printed host past ++ text) (g (cut [] more))
      all more =
          ap (given host) (append_assoc past (p ++ (10 ∷ [])) more)
          ∙ goes ((p ++ (10 ∷ [])) ++ more)
          ∙ ap (behind_text (printed host past)) (ap f (cut-end had p more plain) ∙ one (cut [] more))
          ∙ (λ i. ((g (cut [] more)).0, sym (append_assoc (printed host past) text (g (cut [] more)).1) i))

      pub line_gives : given host (past ++ (p ++ (10 ∷ []))) ≡ (k, printed host past ++ text)
      unfolding cut
      line_gives =
          ap (given host) (sym (append-nil (past ++ (p ++ (10 ∷ [])))))
          ∙ all []
          ∙ ap (behind_text (printed host past ++ text)) end
          ∙ (λ i. (k, append-nil (printed host past ++ text) i))

      pub line-follows : Follows host (past ++ (p ++ (10 ∷ []))) g []
      line-follows more = all more ∙ ap (λ (x : S.Given). behind_text x.1 (g (cut [] more))) (sym line_gives)

    -- bytes without one
    part : (more : List ℕ) → given host ((past ++ p) ++ more) ≡ behind_text (printed host past) (f (cut (had ++ p) more))
    part more = ap (given host) (append_assoc past p more) ∙ goes (p ++ more) ∙ ap (λ ls. behind_text (printed host past) (f ls)) (cut-plain had p more plain)

    pub part_gives : given host (past ++ p) ≡ given host past
    unfolding cut
    part_gives = nothing-follows p (ap f (ap (cut had) (sym (append-nil p)) ∙ cut-plain had p [] plain))

    pub part-follows : Follows host (past ++ p) f (had ++ p)
    part-follows more = part more ∙ ap (λ (x : S.Given). behind_text x.1 (f (cut (had ++ p) more))) (sym part_gives)

-- ---- What a line does

-- what lines give in a session that may have ended
abbrev pub until : Bool → S.Session → List (List ℕ) → S.Given
until true k ls = (k, [])
until false k ls = coming false k ls

-- A line prints a text, and the output's buffer has it behind what was there: lines give f before it, and g after it
pub record Does (f : List (List ℕ) → S.Given) (l : List ℕ) (o : Output) (out : List ℕ) (g : List (List ℕ) → S.Given) (r : Output) (out' : List ℕ) : Type 0 where
  pub text : List ℕ
  pub gives : (ls : List (List ℕ)) → f (l ∷ ls) ≡ behind_text text (g ls)
  pub holds : (t : List ℕ) → Holds t out o → Holds (t ++ text) out' r

-- a line that is no tape
gives_does : (t : Bool) (k : Session) (n : ℕ) (o : Output) (l : List ℕ) (b : Buffers) (r : State) (e : Buffers) → ends (line_of l) ≡ t → Gives t k n o l b r e
    → Does (coming false (kept k b.memory (take n b.tape) b.host)) l o b.out (until t (kept r.session e.memory (take n b.tape) e.host)) r.output e.out
unfolding prints leaves
gives_does true k n o l b r e q (u, v, w) = record {
  text = [];
  gives = λ ls. rw q (λ i. (kept (sym u i) (sym w i).memory (take n b.tape) (sym w i).host, []));
  holds = λ t h. rw (append-nil t, v, w) h;
}
gives_does false k n o l b r e q (p, (mid, (u, v, a))) = record {
  text = (gives (kept k b.memory (take n b.tape) b.host) (line_of l)).1;
  gives = λ ls. rw q (ap (λ x. behind_text (gives (kept k b.memory (take n b.tape) b.host) (line_of l)).1 (coming false x ls)) (sym a.session));
  holds = λ t h. holds_more t _ mid e.out p r.output (holds-placed t b.out mid o p h u.all u.same) v a.text.place a.text.bytes;
}

does-same : {f f' g g' : List (List ℕ) → S.Given} {l out out' : List ℕ} {o r : Output} → f ≡ f' → g ≡ g' → Does f l o out g r out' → Does f' l o out g' r out'
does-same {l = l} p q d = record { text = d.text; gives = λ ls. ap (λ h. h (l ∷ ls)) (sym p) ∙ d.gives ls ∙ ap (λ h. behind_text d.text (h ls)) q; holds = d.holds }

pub responds-does : (s : State) (l : List ℕ) (b : Buffers) (r : State) (e : Buffers) → s.first ≡ false → e.tape ≡ b.tape → Responds s l b r e
    → Does (coming s.first (kept_in s b)) l s.output b.out (until r.done (kept_in r e)) r.output e.out
responds-does s l b r e first q k =
    does-same (ap (λ t. coming t (kept_in s b)) (sym first)) (λ i. until (k.ended i) (kept r.session e.memory (take (sym k.tape i) (sym q i)) e.host))
    (gives_does (ends (line_of l)) s.session s.tape s.output l b r e refl k.gives)

-- the first line
pub begun-does : (s : State) (l : List ℕ) (b : Buffers) (r : State) (e : Buffers) → s.first ≡ true → s.done ≡ false → Begun s l b r e
    → Does (coming s.first (kept_in s b)) l s.output b.out (until r.done (kept_in r e)) r.output e.out
unfolding session left
begun-does s l b r e first going k = does-same (ap (λ t. coming t (kept_in s b)) (sym first)) refl (go (tape_of l) refl k.begins)
  where
    go : (t : Option (List ℕ)) → tape_of l ≡ t → Begins t s l b r e → Does (coming true (kept_in s b)) l s.output b.out (until r.done (kept_in r e)) r.output e.out
    go (Some ws) q (w, new, out, done, same) = record {
      text = [];
      gives = λ ls. rw (q, session, left, done, going) (ap (λ x. coming false x ls) (sym is));
      holds = λ t h. rw (append-nil t, out, same) h;
    }
      where
        is : kept_in r e ≡ begun b.host ws
        is = ap (λ x. kept x e.memory (take r.tape e.tape) e.host) new ∙ fresh_kept e.memory (take r.tape e.tape) e.host ∙ (λ i. begun (same i).host (w i))
    go None q (z, done, g) =
        let d = gives_does (ends (line_of l)) fresh 0 s.output l (buffers e.tape b.memory b.host b.out) r e refl g in
        does-same refl (λ i. until (done i) (kept r.session e.memory (take (sym z i) e.tape) e.host)) (record {
          text = d.text;
          gives = λ ls. rw (q, session, left) (ap (λ x. coming false x (l ∷ ls)) (sym (fresh_kept b.memory [] b.host ∙ ap (begun b.host) no_words)) ∙ d.gives ls);
          holds = d.holds;
        })
