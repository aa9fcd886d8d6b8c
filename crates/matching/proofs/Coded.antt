-- A machine W whose chunks are coded: each chunk is a public part of K and the draws of a machine R, one to one. R is asked each call as the
-- public part says. If R shows enough to tell which public parts fit, then two lists whose calls R is asked alike have the same tapes of W,
-- one to one, as soon as they have so for R, whatever the public parts.
use Rattle.std.specs.Prelude.{◌≡◌, refl, List, [], ◌∷◌, map}
use Rattle.std.proofs.Common.{ap, ap₂}
use Rattle.matching.specs.Match.{Match, flip, join}
use Rattle.matching.specs.Machine.{Machine, Tape, Watch}
use Rattle.matching.proofs.TwoLists.{Any}

-- the calls that R is asked
abbrev pub asked_all : {C K E : Type 0} → (C → K → E) → List C → List K → List E
asked_all asked [] ks = []
asked_all asked (c ∷ cs) [] = []
asked_all asked (c ∷ cs) (k ∷ ks) = asked c k ∷ asked_all asked cs ks

-- the public parts fit, call by call
abbrev pub Fits : {Q K O : Type 0} → (Q → K → O → Type 0) → List Q → List K → List O → Type 0
Fits Fit [] [] [] = Unit {0}
Fits Fit [] [] (o ∷ os) = ⊥
Fits Fit [] (k ∷ ks) os = ⊥
Fits Fit (q ∷ qs) [] os = ⊥
Fits Fit (q ∷ qs) (k ∷ ks) [] = ⊥
Fits Fit (q ∷ qs) (k ∷ ks) (o ∷ os) = Fit q k o × Fits Fit qs ks os

abbrev pub show_all : {Q K O S : Type 0} → (Q → K → O → S) → List Q → List K → List O → List S
show_all show [] ks os = []
show_all show (q ∷ qs) [] os = []
show_all show (q ∷ qs) (k ∷ ks) [] = []
show_all show (q ∷ qs) (k ∷ ks) (o ∷ os) = show q k o ∷ show_all show qs ks os

-- Calls C of W and E of R, chunks X of W and D of R, what is seen S of W and O of R, the public parts K of chunks and Q of calls
module _ {C E X D S O K Q : Type 0} (W : Machine C X S) (R : Machine E D O)
    (asked : C → K → E) (public_of : C → Q)
    (Fit : Q → K → O → Type 0)  -- which public parts of a chunk there are, by what R shows
    (show : Q → K → O → S)
    (code : W.State → C → X → K × D) (decode : W.State → C → K × D → X)
    (Rel : W.State → R.State → List C → Type 0)  -- what holds of the two states and of the calls to come
  where
    abbrev pub Coding : R.State → C → K × D → Type 0
    Coding r c y = R.Legal r (asked c y.0) y.1 × Fit (public_of c) y.0 (R.seen r (asked c y.0) y.1)

    -- one call
    pub record Codes (s : W.State) (r : R.State) (c : C) (cs : List C) : Type 0 where
      pub code_ok : (x : X) → W.Legal s c x → Coding r c (code s c x)
      pub decode-ok : (y : K × D) → Coding r c y → W.Legal s c (decode s c y)
      pub decode-code : (x : X) → W.Legal s c x → decode s c (code s c x) ≡ x
      pub code-decode : (y : K × D) → Coding r c y → code s c (decode s c y) ≡ y
      pub same : (x : X) → W.Legal s c x → let y = code s c x in W.seen s c x ≡ show (public_of c) y.0 (R.seen r (asked c y.0) y.1)
      pub next : (x : X) → W.Legal s c x → let y = code s c x in Rel (W.next s c x) (R.next r (asked c y.0) y.1) cs

    -- ---- a list of calls

    abbrev pub code_all : W.State → List C → List X → List K × List D
    code_all s [] t = ([], [])
    code_all s (c ∷ cs) [] = ([], [])
    code_all s (c ∷ cs) (x ∷ t) =
        let y = code s c x in
        let z = code_all (W.next s c x) cs t in
        (y.0 ∷ z.0, y.1 ∷ z.1)

    abbrev pub decode_all : W.State → List C → List K → List D → List X
    decode_all s [] ks ds = []
    decode_all s (c ∷ cs) [] ds = []
    decode_all s (c ∷ cs) (k ∷ ks) [] = []
    decode_all s (c ∷ cs) (k ∷ ks) (d ∷ ds) = let x = decode s c (k, d) in x ∷ decode_all (W.next s c x) cs ks ds

    -- a tape of R for the calls as the public parts say, and public parts that fit it
    abbrev pub Coded : R.State → List C → List K × List D → Type 0
    Coded r cs y = Tape R Any r (asked_all asked cs y.0) y.1 × Fits Fit (map public_of cs) y.0 (Watch R r (asked_all asked cs y.0) y.1)

    abbrev pub shown : R.State → List C → List K × List D → List S
    shown r cs y = show_all show (map public_of cs) y.0 (Watch R r (asked_all asked cs y.0) y.1)

    module _ (codes : (s : W.State) (r : R.State) (c : C) (cs : List C) → Rel s r (c ∷ cs) → Codes s r c cs) where
      there : (s : W.State) (r : R.State) (cs : List C) → Rel s r cs → (t : List X) → Tape W Any s cs t → Coded r cs (code_all s cs t)
      there s r [] k [] p = (tt, tt)
      there s r [] k (x ∷ t) p = absurd p
      there s r (c ∷ cs) k [] p = absurd p
      there s r (c ∷ cs) k (x ∷ t) p =
          let m = codes s r c cs k in
          let a = m.code_ok x p.0 in
          let b = there (W.next s c x) (R.next r (asked c (code s c x).0) (code s c x).1) cs (m.next x p.0) t p.1 in
          ((a.0, b.0), (a.1, b.1))

      there_back : (s : W.State) (r : R.State) (cs : List C) → Rel s r cs → (t : List X) → Tape W Any s cs t →
          decode_all s cs (code_all s cs t).0 (code_all s cs t).1 ≡ t
      there_back s r [] k [] p = refl
      there_back s r [] k (x ∷ t) p = absurd p
      there_back s r (c ∷ cs) k [] p = absurd p
      there_back s r (c ∷ cs) k (x ∷ t) p =
          let m = codes s r c cs k in
          rw (m.decode-code x p.0) (ap (λ u. x ∷ u) (there_back (W.next s c x) (R.next r (asked c (code s c x).0) (code s c x).1) cs (m.next x p.0) t p.1))

      alike : (s : W.State) (r : R.State) (cs : List C) → Rel s r cs → (t : List X) → Tape W Any s cs t → Watch W s cs t ≡ shown r cs (code_all s cs t)
      alike s r [] k t p = refl
      alike s r (c ∷ cs) k [] p = absurd p
      alike s r (c ∷ cs) k (x ∷ t) p =
          let m = codes s r c cs k in
          ap₂ (λ v vs. v ∷ vs) (m.same x p.0) (alike (W.next s c x) (R.next r (asked c (code s c x).0) (code s c x).1) cs (m.next x p.0) t p.1)

      -- back: the states of R by the code of the chunk are those by its parts
      back : (s : W.State) (r : R.State) (cs : List C) → Rel s r cs → (ks : List K) (ds : List D) → Coded r cs (ks, ds) →
          Tape W Any s cs (decode_all s cs ks ds) × (code_all s cs (decode_all s cs ks ds) ≡ (ks, ds))
      back s r [] k [] [] p = (tt, refl)
      back s r [] k [] (d ∷ ds) p = absurd p.0
      back s r [] k (a ∷ ks) [] p = absurd p.1
      back s r [] k (a ∷ ks) (d ∷ ds) p = absurd p.0
      back s r (c ∷ cs) k [] ds p = absurd p.1
      back s r (c ∷ cs) k (a ∷ ks) [] p = absurd p.0
      back s r (c ∷ cs) k (a ∷ ks) (d ∷ ds) p =
          let m = codes s r c cs k in
          let q : Coding r c (a, d) = (p.0.0, p.1.0) in
          let l = m.decode-ok (a, d) q in
          let e = m.code-decode (a, d) q in
          let n : Rel (W.next s c (decode s c (a, d))) (R.next r (asked c a) d) cs = rw e at (m.next (decode s c (a, d)) l) in
          let z = back (W.next s c (decode s c (a, d))) (R.next r (asked c a) d) cs n ks ds (p.0.1, p.1.1) in
          ((l, z.0), λ i. ((e i).0 ∷ (z.1 i).0, (e i).1 ∷ (z.1 i).1))

      -- W's tapes are the coded ones
      pub coded : (s : W.State) (r : R.State) (cs : List C) → Rel s r cs → Match (Tape W Any s cs) (Coded r cs) (Watch W s cs) (shown r cs)
      coded s r cs k = record {
        f = code_all s cs;
        g = λ y. decode_all s cs y.0 y.1;
        f-ok = there s r cs k;
        g-ok = λ y p. (back s r cs k y.0 y.1 p).0;
        g-f = there_back s r cs k;
        f-g = λ y p. (back s r cs k y.0 y.1 p).1;
        same = alike s r cs k;
      }

      -- with the same public parts, a matching of R's tapes is one of coded tapes
      renumbered : (r r' : R.State) (A B : List C) → map public_of A ≡ map public_of B →
          ((ks : List K) → Match (Tape R Any r (asked_all asked A ks)) (Tape R Any r' (asked_all asked B ks)) (Watch R r (asked_all asked A ks)) (Watch R r' (asked_all asked B ks))) →
          Match (Coded r A) (Coded r' B) (shown r A) (shown r' B)
      renumbered r r' A B e m = record {
        f = λ y. (y.0, (m y.0).f y.1);
        g = λ y. (y.0, (m y.0).g y.1);
        f-ok = λ y p. ((m y.0).f-ok y.1 p.0, rw (← (m y.0).same y.1 p.0, ← e) p.1);
        g-ok = λ y p. ((m y.0).g-ok y.1 p.0, rw (← (flip (m y.0)).same y.1 p.0, e) p.1);
        g-f = λ y p i. (y.0, (m y.0).g-f y.1 p.0 i);
        f-g = λ y p i. (y.0, (m y.0).f-g y.1 p.0 i);
        same = λ y p. ap₂ (λ qs os. show_all show qs y.0 os) e ((m y.0).same y.1 p.0);
      }

      -- The theorem
      pub coded-matched : (s s' : W.State) (r r' : R.State) (A B : List C) → Rel s r A → Rel s' r' B → map public_of A ≡ map public_of B →
          ((ks : List K) → Match (Tape R Any r (asked_all asked A ks)) (Tape R Any r' (asked_all asked B ks)) (Watch R r (asked_all asked A ks)) (Watch R r' (asked_all asked B ks))) →
          Match (Tape W Any s A) (Tape W Any s' B) (Watch W s A) (Watch W s' B)
      coded-matched s s' r r' A B k k' e m = join (coded s r A k) (join (renumbered r r' A B e m) (flip (coded s' r' B k')))
