-- One flat tape of numbers for a tape of chunks: a call's state says how many of the numbers to come are its own.
use Rattle.std.specs.Prelude.{◌≡◌, refl, List, [], ◌∷◌, ◌++◌, ℕ, length, take, drop}
use Rattle.std.proofs.Common.{ap, sym, ◌∙◌, append_assoc, append-nil, take_at, drop_at}
use Rattle.matching.specs.Match.{Match, flip, join}
use Rattle.matching.specs.Machine.{Machine, Tape, Watch}
use Rattle.matching.proofs.TwoLists.{Any}

abbrev pub concat : List (List ℕ) → List ℕ
concat [] = []
concat (d ∷ t) = d ++ concat t

module _ {C O : Type 0} (m : Machine C (List ℕ) O) (wants : m.State → C → List ℕ → ℕ) where
  -- the chunks of a flat tape
  abbrev pub cut : m.State → List C → List ℕ → List (List ℕ)
  cut s [] t = []
  cut s (c ∷ cs) t =
      let d = take (wants s c t) t in
      d ∷ cut (m.next s c d) cs (drop (wants s c t) t)

  -- the flat tapes are those of chunks
  abbrev pub FlatTape : m.State → List C → List ℕ → Type 0
  FlatTape s cs t = (ds : List (List ℕ)) × (Tape m Any s cs ds × (concat ds ≡ t))

  abbrev pub FlatWatch : m.State → List C → List ℕ → List O
  FlatWatch s cs t = Watch m s cs (cut s cs t)

  -- Inv holds of the states all along, and of such a state a chunk is known by what a tape begins with
  module _ (Inv : m.State → Type 0) (keep : (s : m.State) (c : C) (d : List ℕ) → Inv s → m.Legal s c d → Inv (m.next s c d))
      (size : (s : m.State) (c : C) (d t : List ℕ) → Inv s → m.Legal s c d → wants s c (d ++ t) ≡ length d)
    where
      -- whatever comes behind the tape
      pub cut-front : (s : m.State) (cs : List C) → Inv s → (t : List (List ℕ)) (x : List ℕ) → Tape m Any s cs t → cut s cs (concat t ++ x) ≡ t
      cut-front s [] i [] x p = refl
      cut-front s [] i (d ∷ t) x p = absurd p
      cut-front s (c ∷ cs) i [] x p = absurd p
      cut-front s (c ∷ cs) i (d ∷ t) x p =
          let n = size s c d (concat t ++ x) i p.0 in
          rw (append_assoc d (concat t) x, n, take_at d (concat t ++ x) (length d) refl, drop_at d (concat t ++ x) (length d) refl, cut-front (m.next s c d) cs (keep s c d i p.0) t x p.1)

      pub cut-flat : (s : m.State) (cs : List C) → Inv s → (t : List (List ℕ)) → Tape m Any s cs t → cut s cs (concat t) ≡ t
      cut-flat s cs i t p = ap (cut s cs) (sym (append-nil (concat t))) ∙ cut-front s cs i t [] p

      -- no tape begins with another
      pub flat-alone : (s : m.State) (cs : List C) → Inv s → (t u x y : List ℕ) → FlatTape s cs t → FlatTape s cs u → t ++ x ≡ u ++ y → t ≡ u
      flat-alone s cs i t u x y p q e =
          let a : cut s cs (t ++ x) ≡ p.0 = ap (λ z. cut s cs (z ++ x)) (sym p.1.1) ∙ cut-front s cs i p.0 x p.1.0 in
          let b : cut s cs (u ++ y) ≡ q.0 = ap (λ z. cut s cs (z ++ y)) (sym q.1.1) ∙ cut-front s cs i q.0 y q.1.0 in
          sym p.1.1 ∙ ap concat (sym a ∙ ap (cut s cs) e ∙ b) ∙ q.1.1

      pub flat : (s : m.State) (cs : List C) → Inv s → Match (Tape m Any s cs) (FlatTape s cs) (Watch m s cs) (FlatWatch s cs)
      flat s cs i = record {
        f = concat;
        g = cut s cs;
        f-ok = λ t p. (t, (p, refl));
        g-ok = λ t p. back t p.0 p.1.0 p.1.1;
        g-f = cut-flat s cs i;
        f-g = λ t p. there t p.0 p.1.0 p.1.1;
        same = λ t p. ap (Watch m s cs) (sym (cut-flat s cs i t p));
      }
        where
          chunks : (t : List ℕ) (ds : List (List ℕ)) → Tape m Any s cs ds → concat ds ≡ t → cut s cs t ≡ ds
          chunks t ds p e = ap (cut s cs) (sym e) ∙ cut-flat s cs i ds p

          back : (t : List ℕ) (ds : List (List ℕ)) → Tape m Any s cs ds → concat ds ≡ t → Tape m Any s cs (cut s cs t)
          back t ds p e = rw (chunks t ds p e) p

          there : (t : List ℕ) (ds : List (List ℕ)) → Tape m Any s cs ds → concat ds ≡ t → concat (cut s cs t) ≡ t
          there t ds p e = ap concat (chunks t ds p e) ∙ e

      -- a matching of tapes of chunks is one of flat tapes
      pub flattened : (s s' : m.State) (A B : List C) → Inv s → Inv s' →
          Match (Tape m Any s A) (Tape m Any s' B) (Watch m s A) (Watch m s' B) →
          Match (FlatTape s A) (FlatTape s' B) (FlatWatch s A) (FlatWatch s' B)
      flattened s s' A B i i' k = join (flip (flat s A i)) (join k (flat s' B i'))
