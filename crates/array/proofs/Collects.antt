-- A collect keeps the contents of every block (Collected has what it hands out); an open starts with zeros.
use Rattle.std.specs.Prelude.{◌≡◌, List, [], ◌∷◌, ℕ, ◌<◌, replicate}
use Rattle.std.proofs.Math.Path.{refl, sym}
use Rattle.std.proofs.Common.{ap, ◌∙◌, inl, ⊎_elim, ne_eqb}
use Rattle.std.proofs.Math.Bool.{true, not}
use Rattle.std.proofs.Math.Option.{some}
use Rattle.std.proofs.Math.Decide.{ℕ_discrete}
use Rattle.lists.specs.Distinct.{Mem}
use Rattle.lists.specs.Members.{append-mem, member-append, append_right, keep-mem, mem-keep}
use Rattle.lists.specs.Tables.{put_same, put_other}
use Rattle.rules.specs.Blocks
use Rattle.rules.specs.Collect.{finish, finished}
use Rattle.rules.specs.Open.{fresh}
use Rattle.rules.specs.Ranges.{others}
use Rattle.rules.specs.Shape.{Shape, cell}
use Rattle.rules.specs.State.{State, nowhere, stored, Request}
use Rattle.reachable.proofs.Blocks.{not-nowhere}
use Rattle.reachable.specs.Invariant.{Reached}
use Rattle.reachable.proofs.Kept.Collect.{other_block, place_other, partition-other}
use Rattle.reachable.specs.Live.{Target}
use Rattle.reachable.proofs.Pending.{front-more}
use Rattle.array.specs.Claim.{Slots, change}
use Rattle.array.specs.Contents.{Contents, Sent, Due}
use Rattle.array.proofs.Collected
use Rattle.array.proofs.Collected.{asked, array_same}
use Rattle.reachable.specs.Values.{Out}

-- A collect
module _ (s : State) (f : Reached s) (last has : Slots) (array : ℕ → List ℕ) (k : Contents s last has array) (r : Request) (in_hand : s.request ≡ some r)
    (done : finished s r ≡ true) where
  abbrev b : ℕ
  b = r.block

  abbrev array' : ℕ → List ℕ
  array' = change (some (asked s f last has array k r in_hand done)) array

  array-other : (x : ℕ) → ¬ (x ≡ b) → array' x ≡ array x
  array-other = Collected.array-other s f last has array k r in_hand done

  abbrev c' : State
  c' = finish r s

  bytes-other : (x : ℕ) → ¬ (x ≡ b) → c'.bytes x ≡ s.bytes x
  unfolding finish
  bytes-other x n = put_other b _ s.bytes x n

  target-was : (p ℓ : ℕ) → Target c' p ℓ → Target s p ℓ
  unfolding finish
  target-was p ℓ z = let x = f.begun z.1 in (sym (front-more s.queue (s.partition b ∷ r.evict ∷ []) p x.0 x.1 x.2.0) ∙ z.0, z.1, z.2)

  target-still : (p ℓ : ℕ) → Target s p ℓ → Target c' p ℓ
  unfolding finish
  target-still p ℓ z = let x = f.begun z.1 in (front-more s.queue (s.partition b ∷ r.evict ∷ []) p x.0 x.1 x.2.0 ∙ z.0, z.1, z.2)

  -- the other blocks
  module _ (x ℓ i : ℕ) (hx : x < s.shape.N) (e : c'.place x ≡ stored ℓ i) where
    other : ¬ (x ≡ b)
    other = other_block s f r in_hand done x ℓ i e

    e' : s.place x ≡ stored ℓ i
    e' = sym (place_other s f r in_hand done x other) ∙ e

    part : c'.partition x ≡ s.partition x
    part = partition-other s f r in_hand done x other

    value : s.bytes x ≡ array x → c'.bytes x ≡ array' x
    value v = bytes-other x other ∙ v ∙ sym (array-other x other)

    collect-drawn : Target c' (c'.partition x) ℓ → c'.bytes x ≡ array' x
    collect-drawn z = value (k.values.drawn x ℓ i hx e' (target-was (s.partition x) ℓ (rw part at z)))

    collect-known : ¬ (s.mark (cell s.shape (c'.partition x) ℓ i) ≡ 1) → ¬ Out s (c'.partition x) ℓ i → c'.bytes x ≡ array' x
    collect-known n o = value (k.values.known x ℓ i hx e' (rw part at n) (rw part at o))

    still-sent : Sent c' (c'.partition x) ℓ i → Sent s (s.partition x) ℓ i
    unfolding finish
    still-sent u = let v : Sent c' (s.partition x) ℓ i = rw part at u in (v.0, λ z. v.1 (target-still (s.partition x) ℓ z))

    collect-written : Sent c' (c'.partition x) ℓ i → last (c'.partition x) ℓ i ≡ array' x
    collect-written u = ap (λ p. last p ℓ i) part ∙ k.written x ℓ i hx e' (still-sent u) ∙ sym (array-other x other)

    collect-settled : Sent c' (c'.partition x) ℓ i → ¬ Due s (c'.partition x) ℓ i → has (c'.partition x) ℓ i ≡ array' x
    collect-settled u n = ap (λ p. has p ℓ i) part ∙ k.settled x ℓ i hx e' (still-sent u) (rw part at n) ∙ sym (array-other x other)

  pub collect-contents : Contents c' last has array'
  unfolding finish Blocks.zeros others
  collect-contents = record {
    absent = λ x hx e n. absent x hx e n (ℕ_discrete x b);
    values = record { waiting = λ x hx m. waiting x hx m (ℕ_discrete x b); drawn = collect-drawn; known = collect-known };
    written = collect-written;
    settled = collect-settled;
  }
    where
      absent : (x : ℕ) → x < s.shape.N → c'.place x ≡ nowhere → ¬ Mem x c'.waiting → Dec (x ≡ b) → Blocks.zeros s ≡ array' x
      absent x hx e n (yes w) = absurd (n (append_right x (others s.waiting b) (b ∷ []) (inl w)))
      absent x hx e n (no w) = k.absent x hx (sym (place_other s f r in_hand done x w) ∙ e) (λ m. n (member-append x (others s.waiting b) (b ∷ []) (mem-keep _ s.waiting x m (ap not (ne_eqb x b w))))) ∙ sym (array-other x w)

      waiting : (x : ℕ) → x < s.shape.N → Mem x c'.waiting → Dec (x ≡ b) → c'.bytes x ≡ array' x
      waiting x hx m (yes w) = ap c'.bytes w ∙ put_same b _ s.bytes ∙ array_same s f last has array k r in_hand done ∙ ap array' (sym w)
      waiting x hx m (no w) = bytes-other x w ∙ k.values.waiting x hx (⊎_elim (λ z. keep-mem _ s.waiting x z) (λ z. ⊎_elim (λ v. absurd (w v)) (λ v. absurd v) z) (append-mem x (others s.waiting b) (b ∷ []) m)) ∙ sym (array-other x w)

-- An open
pub fresh-contents : (h : Shape) (js : List ℕ) (last has : Slots) → Contents (fresh h js) last has (λ b. replicate h.B 0)
unfolding fresh Blocks.zeros
fresh-contents h js last has = record {
  absent = λ b hb e n. refl;
  values = record { waiting = λ b hb m. refl; drawn = λ b ℓ i hb e. absurd (not-nowhere ℓ i e); known = λ b ℓ i hb e. absurd (not-nowhere ℓ i e) };
  written = λ b ℓ i hb e. absurd (not-nowhere ℓ i e);
  settled = λ b ℓ i hb e. absurd (not-nowhere ℓ i e);
}
