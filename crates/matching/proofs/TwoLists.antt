-- Two lists of calls with the same public part have the same tapes, one to one, and partners are seen alike.
-- The real machine R defers its first hidden values to a machine M, and M its second to an ideal machine I that sees only the public part
-- of each call. So the tapes of a list are those of I on its public part, with the hidden values that are left at the end: the same
-- for both lists.
use Rattle.std.specs.Prelude.{◌≡◌, ◌↔◌, List, map}
use Rattle.std.proofs.Common.{sym, subst}
use Rattle.std.proofs.Math.Logic.Iff
use Rattle.matching.proofs.Deferred.{Trade, full, deferred}
use Rattle.matching.specs.Match.{Match, flip, join, rename, beside}
use Rattle.matching.specs.Machine.{Machine, Tape, Watch, along}
use Rattle.matching.proofs.Machine.{follow, along-tape, along-watch}

-- A machine R that is a lazy machine L with hidden values of H, whatever else its states hold
pub record Stage {C D E O : Type 0} (R : Machine C D O) (L : Machine C E O) (H : Type 0) : Type 1 where
  pub Inv : L.State → Type 0
  pub Hidden : L.State → H → Type 0
  pub Drawn : L.State → C → D → Type 0
  pub shown : L.State → H → C → D → O
  pub keep : (s : L.State) (c : C) (e : E) → Inv s → L.Legal s c e → Inv (L.next s c e)
  pub trade : (s : L.State) (c : C) → Trade L Inv Hidden Drawn shown s c
  pub Rel : R.State → L.State × H → Type 0
  pub legal : (r : R.State) (q : L.State × H) (c : C) (d : D) → Rel r q → R.Legal r c d ↔ Drawn q.0 c d
  pub step : (r : R.State) (q : L.State × H) (c : C) (d : D) → Rel r q → Inv q.0 → Hidden q.0 q.1 → R.Legal r c d →
      (R.seen r c d ≡ shown q.0 q.1 c d) × Rel (R.next r c d) ((full L Inv Hidden Drawn shown keep trade).next q c d)

module _ {C D E O H : Type 0} {R : Machine C D O} {L : Machine C E O} (S : Stage R L H) where
  -- what holds of the two machines' states all along
  abbrev pub Stands : R.State → L.State × H → Type 0
  Stands r q = S.Rel r q × S.Inv q.0 × S.Hidden q.0 q.1

  -- a state at which a run starts admits one hidden value
  abbrev pub Only : L.State → H → Type 0
  Only s h = (h' : H) → S.Hidden s h' → h' ≡ h

  pub staged : (EndR : R.State → Type 0) (EndL : L.State → Type 0) →
      ((r : R.State) (q : L.State × H) → Stands r q → EndR r ↔ EndL q.0) →
      (r : R.State) (s : L.State) (h : H) → Stands r (s, h) → Only s h → (cs : List C) →
      Match {Y = List E × H} (Tape R EndR r cs) (λ y. Tape L (λ s'. EndL s' × S.Hidden s' y.1) s cs y.0)
      (Watch R r cs) (λ y. Watch L s cs y.0)
  staged EndR EndL end r s h k only cs =
      join
      (follow R (full L S.Inv S.Hidden S.Drawn S.shown S.keep S.trade) Stands EndR (λ q. EndL q.0)
      (λ r q c d a. S.legal r q c d a.0) on end r (s, h) cs k)
      (deferred L S.Inv S.Hidden S.Drawn S.shown S.keep S.trade EndL s h k.1 k.2 only cs)
    where
      on : (r : R.State) (q : L.State × H) (c : C) (d : D) → Stands r q → R.Legal r c d →
          (R.seen r c d ≡ S.shown q.0 q.1 c d) ×
          Stands (R.next r c d) ((full L S.Inv S.Hidden S.Drawn S.shown S.keep S.trade).next q c d)
      on r q c d a l =
          let x = ((S.trade q.0 c).f-ok (q.1, d) (a.1, (a.2, (S.legal r q c d a.0).0 l))).1 in
          let n = S.step r q c d a.0 a.1 a.2 l in
          (n.0, (n.1, S.keep q.0 c _ a.1 x.0, x.1))

abbrev pub Any : {A : Type 0} → A → Type 0
Any a = Unit

module _ {C C' D E G O H K : Type 0} (see : C → C') (I : Machine C' G O) {R : Machine C D O} {M : Machine C E O}
    (S : Stage R M H) (T : Stage M (along see I) K)
    (Rest : I.State → H → Type 0)  -- the first hidden values, by the ideal state alone
    (rest : (h : H) (m : M.State) (q : I.State × K) → Stands T m q → S.Hidden m h ↔ Rest q.0 h)
    (m : M.State) (h : H) (i : I.State) (k : K) (only : Only S m h) (mid : Stands T m (i, k)) (only' : Only T i k)
  where
    -- the ideal machine's tapes of a public list, with the hidden values that are left at the end
    abbrev pub Base : List C' → (List G × K) × H → Type 0
    Base ps y = Tape I (λ j. Rest j y.1 × T.Hidden j y.0.1) i ps y.0.0

    pub ideal : (r : R.State) → Stands S r (m, h) → (cs : List C) →
        Match (Tape R Any r cs) (Base (map see cs)) (Watch R r cs) (λ y. Watch I i (map see cs) y.0.0)
    ideal r a cs =
        join (staged S Any Any (λ r' q b. Iff.rfl) r m h a only cs)
        (join (beside (λ h'. staged T (λ m'. Unit × S.Hidden m' h') (λ j. Rest j h') (end h') m i k mid only' cs))
        (rename (λ y p. rw (along-tape see I (left y) i cs y.0.0) at p)
        (λ y p. rw (along-tape see I (left y) i cs y.0.0) p)
        (λ y p. along-watch see I i cs y.0.0)))
      where
        left : (List G × K) × H → I.State → Type 0
        left y j = Rest j y.1 × T.Hidden j y.0.1

        end : (h' : H) (m' : M.State) (q : I.State × K) → Stands T m' q → (Unit {0} × S.Hidden m' h') ↔ Rest q.0 h'
        end h' m' q b = (λ u. (rest h' m' q b).0 u.1, λ u. (tt, (rest h' m' q b).1 u))

    -- The theorem: two lists with the same public part, from any two states for which the first lazy state stands
    pub matched : (r r' : R.State) → Stands S r (m, h) → Stands S r' (m, h) → (A B : List C) → map see A ≡ map see B →
        Match (Tape R Any r A) (Tape R Any r' B) (Watch R r A) (Watch R r' B)
    matched r r' a a' A B p =
        let there = subst (λ ps. Match (Tape R Any r' B) (Base ps) (Watch R r' B) (λ y. Watch I i ps y.0.0)) (sym p) (ideal r' a' B) in
        join (ideal r a A) (flip there)
