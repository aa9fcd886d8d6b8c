-- A machine that draws. Its tapes, one chunk of draws a call, and what is seen of a run.
use Rattle.std.specs.Prelude.{◌≡◌, refl, List, [], ◌∷◌, map, ◌↔◌}
use Rattle.std.proofs.Common.{ap, ap₂}
use Rattle.matching.specs.Match.{Match, rename}
use Rattle.matching.specs.Machine.{Machine, Tape, Watch, along}

-- One machine follows another: Rel holds of their states all along. Then their tapes are the same tapes, and are seen alike.
module _ {C D O : Type 0} (R E : Machine C D O) (Rel : R.State → E.State → Type 0)
    (EndR : R.State → Type 0) (EndE : E.State → Type 0)
    (legal : (r : R.State) (q : E.State) (c : C) (d : D) → Rel r q → R.Legal r c d ↔ E.Legal q c d)
    (step : (r : R.State) (q : E.State) (c : C) (d : D) → Rel r q → R.Legal r c d →
    (R.seen r c d ≡ E.seen q c d) × Rel (R.next r c d) (E.next q c d))
    (end : (r : R.State) (q : E.State) → Rel r q → EndR r ↔ EndE q)
  where
    there : (r : R.State) (q : E.State) (cs : List C) (t : List D) → Rel r q → Tape R EndR r cs t → Tape E EndE q cs t
    there r q [] [] k p = (end r q k).0 p
    there r q [] (d ∷ t) k p = absurd p
    there r q (c ∷ cs) [] k p = absurd p
    there r q (c ∷ cs) (d ∷ t) k p = ((legal r q c d k).0 p.0, there (R.next r c d) (E.next q c d) cs t (step r q c d k p.0).1 p.1)

    back : (r : R.State) (q : E.State) (cs : List C) (t : List D) → Rel r q → Tape E EndE q cs t → Tape R EndR r cs t
    back r q [] [] k p = (end r q k).1 p
    back r q [] (d ∷ t) k p = absurd p
    back r q (c ∷ cs) [] k p = absurd p
    back r q (c ∷ cs) (d ∷ t) k p =
        let l = (legal r q c d k).1 p.0 in
        (l, back (R.next r c d) (E.next q c d) cs t (step r q c d k l).1 p.1)

    alike : (r : R.State) (q : E.State) (cs : List C) (t : List D) → Rel r q → Tape R EndR r cs t → Watch R r cs t ≡ Watch E q cs t
    alike r q [] t k p = refl
    alike r q (c ∷ cs) [] k p = refl
    alike r q (c ∷ cs) (d ∷ t) k p =
        let s = step r q c d k p.0 in
        ap₂ (λ o os. o ∷ os) s.0 (alike (R.next r c d) (E.next q c d) cs t s.1 p.1)

    pub follow : (r : R.State) (q : E.State) (cs : List C) → Rel r q →
        Match (Tape R EndR r cs) (Tape E EndE q cs) (Watch R r cs) (Watch E q cs)
    follow r q cs k = rename (λ t. there r q cs t k) (λ t. back r q cs t k) (λ t. alike r q cs t k)

module _ {C C' D O : Type 0} (see : C → C') (m : Machine C' D O) where
  pub along-tape : (End : m.State → Type 0) (s : m.State) (cs : List C) (t : List D) →
      Tape (along see m) End s cs t ≡ Tape m End s (map see cs) t
  along-tape End s [] [] = refl
  along-tape End s [] (d ∷ t) = refl
  along-tape End s (c ∷ cs) [] = refl
  along-tape End s (c ∷ cs) (d ∷ t) = ap (λ T. m.Legal s (see c) d × T) (along-tape End (m.next s (see c) d) cs t)

  pub along-watch : (s : m.State) (cs : List C) (t : List D) → Watch (along see m) s cs t ≡ Watch m s (map see cs) t
  along-watch s [] t = refl
  along-watch s (c ∷ cs) [] = refl
  along-watch s (c ∷ cs) (d ∷ t) = ap (λ os. m.seen s (see c) d ∷ os) (along-watch (m.next s (see c) d) cs t)
