-- What a function says that puts a text into a buffer from a place on.
use Rattle.std.specs.Prelude.{◌≡◌, refl, List, [], ◌++◌, ℕ, ◌+◌, length, take, drop}
use Rattle.std.proofs.Common.{sym, ap, subst, ◌∙◌, append_assoc, append-nil, arith, length-append, drop-drop}

-- from before to after, text was put at `at`, and `next` is the place behind it; what lies in front of the text and behind it is as it was
pub record Written (before : List ℕ) (at : ℕ) (text : List ℕ) (after : List ℕ) (next : ℕ) : Type 0 where
  pub place : next ≡ at + length text
  pub bytes : take next after ≡ take at before ++ text
  pub behind : drop next after ≡ drop next before
  pub size : length after ≡ length before

pub nothing : (a : List ℕ) (at : ℕ) → Written a at [] a at
nothing a at = record { place = omega arith; bytes = sym (append-nil (take at a)); behind = refl; size = refl }

pub same_text : {a b t u : List ℕ} {at k : ℕ} → t ≡ u → Written a at t b k → Written a at u b k
same_text {a} {b} {t} {u} {at} {k} e w = subst (λ (l : List ℕ). Written a at l b k) e w

-- one text, and another from the place behind it
pub followed : {a b d t u : List ℕ} {at k r : ℕ} → Written a at t b k → Written b k u d r → Written a at (t ++ u) d r
followed {a} {b} {d} {t} {u} {at} {k} {r} v w =
    record {
      place = omega (arith, length-append t u, v.place, w.place);
      bytes = w.bytes ∙ ap (λ (l : List ℕ). l ++ u) v.bytes ∙ append_assoc (take at a) t u;
      behind = w.behind ∙ from b ∙ ap (drop (length u)) v.behind ∙ sym (from a);
      size = w.size ∙ v.size;
    }
  where
    from : (l : List ℕ) → drop r l ≡ drop (length u) (drop k l)
    from l = ap (λ (n : ℕ). drop n l) w.place ∙ sym (drop-drop (length u) k l)
