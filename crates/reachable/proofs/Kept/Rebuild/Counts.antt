-- A rebuild: how many blocks a level and a partition store after it.
use Rattle.std.specs.Prelude.{◌≡◌, ◌⊎◌, true, List, ◌++◌, ℕ, suc, ◌^◌, ◌≤◌, ◌<◌, ◌-◌, length, get_or}
use Rattle.std.proofs.Common.{ap, ◌∙◌, arith, length-append}
use Rattle.std.proofs.Math.Path.{sym}
use Rattle.std.proofs.Math.Logic.{inl, inr, ⊎_elim}
use Rattle.std.proofs.Math.Decide.{ℕ_discrete}
use Rattle.lists.specs.Distinct.{Mem, index}
use Rattle.lists.specs.Members.{dec_mem, nodup-sub, member-append, append_right}
use Rattle.rules.specs.Jobs.{top_of}
use Rattle.rules.specs.Rebuild.{Fill, gathered, do_rebuild, chosen}
use Rattle.rules.specs.Shape.{Shape}
use Rattle.rules.specs.State.{State, stored}
use Rattle.reachable.proofs.Blocks.{at-why, is-in, why-at, in_is, stored-inj, nodup-at, in-why, why-in, is_below_lem, place-lt, lt-below, nodup-in}
use Rattle.rules.specs.Form.Loading.{stored_at, is_in}
use Rattle.reachable.specs.Invariant.{Reached, Room, Full}
use Rattle.reachable.proofs.Kept.Rebuild.Drawing.{Drawing, place_out, above-target, place_in, partition-in, front-lt, Here, fill-of, in-levels, written_is, nodup-fills}
use Rattle.reachable.proofs.Fills.{In, one-fill}
use Rattle.reachable.specs.Live
use Rattle.reachable.proofs.Slots.{gathered-why, chosen-room}

module _ (s : State) (f : Reached s) (q : ℕ) (ls : List ℕ) (xs : List Fill) (d : Drawing s q ls xs) where
  abbrev h : Shape
  h = s.shape

  abbrev s' : State
  s' = do_rebuild q ls xs s

  -- a block of a level after it: in the level's fill, or there before and above t
  data After (p ℓ b : ℕ) : Type 0 where
    moved : (x : Fill) → In x xs → Mem b x.blocks → p ≡ q → x.level ≡ ℓ → After p ℓ b
    rests : Mem b (stored_at s p ℓ) → (p ≡ q → top_of s q < ℓ) → After p ℓ b

  after-in : (p ℓ b : ℕ) → Mem b (stored_at s' p ℓ) → After p ℓ b
  unfolding do_rebuild
  after-in p ℓ b m =
      let y = at-why s' p ℓ b m in
      let x = is-in ℓ (s'.place b) y.2 in
      go y x (dec_mem b (gathered s q))
    where
      go : (b < h.N) × (s.partition b ≡ p) × (is_in ℓ (s'.place b) ≡ true) → (i : ℕ) × (s'.place b ≡ stored ℓ i) → Dec (Mem b (gathered s q)) → After p ℓ b
      go y x (yes g) =
          let z = d.home b g in
          let w = stored-inj z.0.level ℓ (get_or z.0.order (index b z.0.blocks) 0) x.0 (sym (place_in s f q ls xs d b z.0 z.1.0 z.1.1) ∙ x.1) in
          moved z.0 z.1.0 z.1.1 (sym y.1 ∙ partition-in s f q ls xs d b g) w.0
      go y x (no g) =
          let e = sym (place_out s f q ls xs d b g) ∙ x.1 in
          rests (why-at s p ℓ b y.0 y.1 (in_is ℓ x.0 (s.place b) e)) (λ w. above-target s f q ls xs d b ℓ x.0 y.0 g e (y.1 ∙ w))

  pub room-kept : Room s'
  room-kept p ℓ = go (ℕ_discrete p q) (dec_mem ℓ ls)
    where
      old : (Here s f q ls xs d p ℓ → ⊥) → length (stored_at s' p ℓ) ≤ 2 ^ ℓ
      old n = omega (arith, f.room p ℓ, nodup-sub (stored_at s' p ℓ) (stored_at s p ℓ) (nodup-at s' p ℓ) (λ b m. by b (after-in p ℓ b m)))
        where
          by : (b : ℕ) → After p ℓ b → Mem b (stored_at s p ℓ)
          by b (moved x m k w e) = absurd (n (sym w, rw (← e) (in-levels s f q ls xs d x m)))
          by b (rests m w) = m

      new : (x : Fill) → In x xs → p ≡ q → x.level ≡ ℓ → Mem ℓ ls → length (stored_at s' p ℓ) ≤ 2 ^ ℓ
      new x m w e n =
          let l = nodup-sub (stored_at s' p ℓ) x.blocks (nodup-at s' p ℓ) (λ b k. by b (after-in p ℓ b k)) in
          let l' : 2 ^ x.level ≡ 2 ^ ℓ = ap (λ n. 2 ^ n) e in
          omega (arith, (d.good x m).fit)
        where
          by : (b : ℕ) → After p ℓ b → Mem b x.blocks
          by b (moved y n k _ e') = let z : y ≡ x = one-fill xs y x n m (nodup-fills s f q ls xs d) (e' ∙ sym e) in rw (← z) k
          by b (rests _ u) = absurd (omega (arith, u w, (written_is s f q ls xs d ℓ n).0))

      go : Dec (p ≡ q) → Dec (Mem ℓ ls) → length (stored_at s' p ℓ) ≤ 2 ^ ℓ
      go (yes e) (yes k) = let x = fill-of s f q ls xs d ℓ k in new x.0 x.1.0 e x.1.1 k
      go (yes e) (no k) = old (λ w. k w.1)
      go (no e) k = old (λ w. e (sym w.0))

  pub full-kept : Full s'
  unfolding do_rebuild
  full-kept p = go (ℕ_discrete p q)
    where
      old : (b : ℕ) → Mem b (Live.stored_in s' p h.L) → Mem b (Live.stored_in s p h.L) ⊎ (Mem b (chosen s q) × (p ≡ q))
      old b m =
          let y = in-why s' p h.L b m in
          by y (dec_mem b (gathered s q))
        where
          by : (b < h.N) × (s.partition b ≡ p) × (Live.is_below h.L (s'.place b) ≡ true) → Dec (Mem b (gathered s q)) → Mem b (Live.stored_in s p h.L) ⊎ (Mem b (chosen s q) × (p ≡ q))
          by y (no g) = inl (why-in s p h.L b y.0 y.1 (ap (Live.is_below h.L) (sym (place_out s f q ls xs d b g)) ∙ y.2))
          by y (yes g) = ⊎_elim (λ e. inr (e, sym y.1 ∙ partition-in s f q ls xs d b g))
              (λ k. let x = is_below_lem (suc (top_of s q)) (s.place b) k.1 in
              let w = place-lt h.L x.0 x.1 (s.place b) (f.range.places b y.0) x.2.0 in
              inl (why-in s p h.L b y.0 y.1 (lt-below h.L x.0 x.1 (s.place b) x.2.0 w.0))) (gathered-why s f q (front-lt s f q ls xs d) d.step.calm b g)

      go : Dec (p ≡ q) → length (Live.stored_in s' p h.L) ≤ 2 ^ (h.L - 1)
      go (no w) = omega (arith, f.full p, nodup-sub (Live.stored_in s' p h.L) (Live.stored_in s p h.L) (nodup-in s' p h.L) (λ b m. ⊎_elim (λ k. k) (λ k. absurd (w k.1)) (old b m)))
      go (yes w) = omega (
        arith,
        chosen-room s f q (front-lt s f q ls xs d),
        ap (λ x. length (Live.stored_in s x h.L)) w,
        length-append (chosen s q) (Live.stored_in s p h.L),
        nodup-sub (Live.stored_in s' p h.L) (chosen s q ++ Live.stored_in s p h.L) (nodup-in s' p h.L) (λ b m. ⊎_elim
            (λ k. append_right b (chosen s q) (Live.stored_in s p h.L) k) (λ k. member-append b (chosen s q) (Live.stored_in s p h.L) k.0) (old b m)),
      )
