-- Jobs that are not drawn, requests that have passed a level, and the reads of a level.
use Rattle.std.specs.Prelude.{◌≡◌, Bool, true, false, not, ◌&&◌, List, [], ◌∷◌, ◌++◌, ℕ, zero, suc, ◌+◌, ◌-◌, ◌≤◌, ◌<◌, length, eqb, ltb}
use Rattle.std.proofs.Math.Path.{refl, ap}
use Rattle.std.proofs.Common.{sym, ◌∙◌, subst, inl, inr, true≢false, arith, eqb-true, eq-eqb, ne_eqb, lt-ltb, ltb-true}
use Rattle.std.proofs.Math.Option.{Option, none, some}
use Rattle.std.proofs.Math.Decide.{ℕ_discrete}
use Rattle.lists.specs.Distinct.{Mem}
use Rattle.lists.specs.Lengths.{bit, without-one, keep-without-one, without-append, keep-without}
use Rattle.lists.specs.Members.{without-mem}
use Rattle.lists.specs.Search.{keep, without, without_first, keep-yes, keep-no}
use Rattle.lists.specs.Tables.{put, put_same, put_other}
use Rattle.lists.specs.Tests.{and_l, and_r, and-true}
use Rattle.lists.specs.Totals.{total-one, total-same}
use Rattle.rules.specs.Jobs.{queued, leave_queue}
use Rattle.rules.proofs.Laws.Layout.{cell-inj}
use Rattle.rules.specs.Request
use Rattle.rules.specs.Shape.{Shape, cell, slots}
use Rattle.rules.specs.State.{State, Request}
use Rattle.rules.specs.Request.{is_front}
use Rattle.rules.specs.Blocks.{reads_of}
use Rattle.reachable.specs.Live.{undrawn, pending, passed_by}

-- ---- How many jobs of q are queued

pub queued-here : (q : ℕ) (qs : List ℕ) → queued (q ∷ qs) q ≡ suc (queued qs q)
unfolding queued
queued-here q qs = ap length (keep-yes (eqb q) q qs (eq-eqb q q refl))

pub queued-else : (q p : ℕ) (qs : List ℕ) → ¬ (q ≡ p) → queued (p ∷ qs) q ≡ queued qs q
unfolding queued
queued-else q p qs n = ap length (keep-no (eqb q) p qs (ne_eqb q p n))

pub queued-more : (q : ℕ) (xs ys : List ℕ) → queued (xs ++ ys) q ≡ queued xs q + queued ys q
queued-more q [] ys = let z : queued [] q ≡ 0 = unfold queued keep in refl in omega (arith, z)
queued-more q (x ∷ xs) ys = go (ℕ_discrete q x) (queued-more q xs ys)
  where
    go : Dec (q ≡ x) → queued (xs ++ ys) q ≡ queued xs q + queued ys q → queued (x ∷ (xs ++ ys)) q ≡ queued (x ∷ xs) q + queued ys q
    go (yes e) h = rw (← e) (omega (arith, queued-here q (xs ++ ys), queued-here q xs))
    go (no e) h = omega (arith, queued-else q x (xs ++ ys) e, queued-else q x xs e)

pub queued-none : (q : ℕ) (qs : List ℕ) → ¬ Mem q qs → queued qs q ≡ 0
queued-none q [] n = unfold queued keep in refl
queued-none q (p ∷ qs) n = queued-else q p qs (λ e. n (inl e)) ∙ queued-none q qs (λ m. n (inr m))

pub queued-append : (qs xs : List ℕ) (q : ℕ) → queued qs q ≤ queued (qs ++ xs) q
queued-append qs xs q = omega (arith, queued-more q qs xs)

-- ---- Jobs leave the queue

pub leave-queue-mem : (x q j : ℕ) (qs : List ℕ) → Mem x (leave_queue q j qs) → Mem x qs
unfolding leave_queue without_first
leave-queue-mem x q zero qs m = m
leave-queue-mem x q (suc j) qs m = without-mem (eqb q) qs x (leave-queue-mem x q j (without (eqb q) qs) m)

-- those of other partitions stay, in their order, and of q there are j less
pub leave-queue-others : (q j : ℕ) (qs : List ℕ) → keep (λ p. not (eqb q p)) (leave_queue q j qs) ≡ keep (λ p. not (eqb q p)) qs
unfolding leave_queue without_first
leave-queue-others q zero qs = refl
leave-queue-others q (suc j) qs = leave-queue-others q j (without (eqb q) qs) ∙ keep-without (eqb q) (λ p. not (eqb q p)) (λ x e. ap not e) qs

pub leave-queue-same : (p q j : ℕ) (qs : List ℕ) → ¬ (p ≡ q) → queued (leave_queue q j qs) p ≡ queued qs p
unfolding leave_queue without_first queued
leave-queue-same p q zero qs n = refl
leave-queue-same p q (suc j) qs n = leave-queue-same p q j (without (eqb q) qs) n ∙ ap length (keep-without (eqb q) (eqb p) (λ x e. ne_eqb p x (λ w. n (w ∙ sym (eqb-true q x e)))) qs)

-- one job for q leaves
without-queued : (q : ℕ) (qs : List ℕ) → 1 ≤ queued qs q → suc (queued (without (eqb q) qs) q) ≡ queued qs q
unfolding queued
without-queued q qs l = keep-without-one (eqb q) qs l

pub leave-queue-less : (q j : ℕ) (qs : List ℕ) → j ≤ queued qs q → queued (leave_queue q j qs) q + j ≡ queued qs q
unfolding leave_queue without_first
leave-queue-less q zero qs l = omega arith
leave-queue-less q (suc j) qs l =
    let r = without-queued q qs (omega arith) in
    omega (arith, r, leave-queue-less q j (without (eqb q) qs) (omega (arith, r)))

pub leave-queue-length : (q j : ℕ) (qs : List ℕ) → j ≤ queued qs q → length (leave_queue q j qs) + j ≡ length qs
unfolding leave_queue without_first
leave-queue-length q zero qs l = omega arith
leave-queue-length q (suc j) qs l =
    let one : suc (length (without (eqb q) qs)) ≡ length qs = unfold queued in (without-one (eqb q) qs (omega (arith, l))) in
    omega (arith, one, leave-queue-length q j (without (eqb q) qs) (omega (arith, without-queued q qs (omega arith))))

pub leave-queue-append : (q j : ℕ) (qs xs : List ℕ) → j ≤ queued qs q → leave_queue q j (qs ++ xs) ≡ leave_queue q j qs ++ xs
unfolding leave_queue without_first
leave-queue-append q zero qs xs l = refl
leave-queue-append q (suc j) qs xs l =
    let one : without (eqb q) (qs ++ xs) ≡ without (eqb q) qs ++ xs = unfold queued in (without-append (eqb q) qs xs (omega (arith, l))) in
    ap (leave_queue q j) one ∙ leave-queue-append q j (without (eqb q) qs) xs (omega (arith, without-queued q qs (omega arith)))

-- ---- Jobs that are not drawn

pub undrawn-mem : (x : ℕ) (qs : List ℕ) (j n : ℕ) → Mem x (undrawn qs j n) → Mem x qs
unfolding undrawn
undrawn-mem x qs j zero m = m
undrawn-mem x [] j (suc n) m = m
undrawn-mem x (q ∷ qs) j (suc n) m = leave-queue-mem x q j (q ∷ qs) m

pub undrawn-busy : (qs : List ℕ) (j m n : ℕ) → (m ≡ 0 → ⊥) → (n ≡ 0 → ⊥) → undrawn qs j m ≡ undrawn qs j n
unfolding undrawn
undrawn-busy qs j zero n a b = absurd (a refl)
undrawn-busy qs j (suc m) zero a b = absurd (b refl)
undrawn-busy [] j (suc m) (suc n) a b = refl
undrawn-busy (q ∷ qs) j (suc m) (suc n) a b = refl

pub undrawn-rest : (q : ℕ) (rest : List ℕ) (j n : ℕ) → (n ≡ 0 → ⊥) → undrawn (q ∷ rest) j n ≡ leave_queue q j (q ∷ rest)
unfolding undrawn
undrawn-rest q rest j zero a = absurd (a refl)
undrawn-rest q rest j (suc n) a = refl

pub undrawn-calm : (qs : List ℕ) (j n : ℕ) → n ≡ 0 → undrawn qs j n ≡ qs
unfolding undrawn
undrawn-calm qs j n e = rw e

-- while writes are sent, the run's jobs are queued
abbrev pub Filled : List ℕ → ℕ → ℕ → Type 0
Filled qs j n = (n ≡ 0 → ⊥) → (q : ℕ) × (rest : List ℕ) × ((qs ≡ q ∷ rest) × (j ≤ queued qs q))

pub undrawn-append : (qs xs : List ℕ) (j n : ℕ) → Filled qs j n → undrawn (qs ++ xs) j n ≡ undrawn qs j n ++ xs
unfolding undrawn
undrawn-append qs xs j zero f = refl
undrawn-append [] xs j (suc n) f = let r = f (λ e. omega arith) in let z : ◌≡◌ {A = ℕ} 0 1 = no r.0 r.1 r.2.0 in absurd (omega arith)
  where
    no : (q : ℕ) (rest : List ℕ) → [] ≡ q ∷ rest → ◌≡◌ {A = ℕ} 0 1
    no q rest e = cc
undrawn-append (q ∷ qs) xs j (suc n) f = leave-queue-append q j (q ∷ qs) xs (by (f (λ e. omega arith)))
  where
    by : (p : ℕ) × (rest : List ℕ) × ((q ∷ qs ≡ p ∷ rest) × (j ≤ queued (q ∷ qs) p)) → j ≤ queued (q ∷ qs) q
    by r = let w : r.0 ≡ q = cc r.2.0 in subst (λ p. j ≤ queued (q ∷ qs) p) w r.2.1

pub front-append : (qs xs : List ℕ) (q : ℕ) → is_front qs q ≡ true → is_front (qs ++ xs) q ≡ true
unfolding is_front
front-append [] xs q e = absurd (true≢false (sym e))
front-append (p ∷ qs) xs q e = e

pub front-more : (qs xs : List ℕ) (q p : ℕ) (rest : List ℕ) → qs ≡ p ∷ rest → is_front (qs ++ xs) q ≡ is_front qs q
unfolding is_front
front-more qs xs q p rest e = rw e

pub bit_le : (a b : Bool) → (a ≡ true → b ≡ true) → bit a ≤ bit b
unfolding bit
bit_le true b h = rw (h refl) (omega arith)
bit_le false b h = omega arith

pub bit-yes : (a : Bool) → a ≡ true → bit a ≡ 1
unfolding bit
bit-yes a e = rw e

pub bit-no : (a : Bool) → ¬ (a ≡ true) → bit a ≡ 0
unfolding bit
bit-no true n = absurd (n refl)
bit-no false n = refl

pub pending-more : (s u : State) (p ℓ : ℕ) → queued (undrawn s.queue s.begun s.sent) p ≤ queued (undrawn u.queue u.begun u.sent) p
    → (passed_by s.partition s.request p ℓ ≡ true → passed_by u.partition u.request p ℓ ≡ true) → pending s p ℓ ≤ pending u p ℓ
unfolding pending
pending-more s u p ℓ a b = omega (arith, a, bit_le (passed_by s.partition s.request p ℓ) (passed_by u.partition u.request p ℓ) b)

-- one slot read
module _ (h : Shape) (q ℓ i : ℕ) (hℓ : ℓ < h.L) (hi : i < slots ℓ) (mark : ℕ → ℕ) (p m : ℕ) (hm : m < h.L) where
  pub mark-more : reads_of h (put (cell h q ℓ i) 0 mark) p m ≤ reads_of h mark p m + 1
  unfolding reads_of
  mark-more = total-one (slots m) i (λ j. 1 - mark (cell h p m j)) (λ j. 1 - put (cell h q ℓ i) 0 mark (cell h p m j)) at
      (λ j hj n. ap (λ v. 1 - v) (put_other (cell h q ℓ i) 0 mark (cell h p m j) (λ e. n (cell-inj h p q m ℓ j i hm hℓ hj hi e).2)))
    where
      at : 1 - put (cell h q ℓ i) 0 mark (cell h p m i) ≤ 1 - mark (cell h p m i) + 1
      at = go (ℕ_discrete (cell h p m i) (cell h q ℓ i))
        where
          go : Dec (cell h p m i ≡ cell h q ℓ i) → 1 - put (cell h q ℓ i) 0 mark (cell h p m i) ≤ 1 - mark (cell h p m i) + 1
          go (yes e) = omega (arith, ap (put (cell h q ℓ i) 0 mark) e ∙ put_same (cell h q ℓ i) 0 mark)
          go (no e) = omega (arith, put_other (cell h q ℓ i) 0 mark (cell h p m i) e)

  pub mark-same : ((p ≡ q) × (m ≡ ℓ) → ⊥) → reads_of h (put (cell h q ℓ i) 0 mark) p m ≡ reads_of h mark p m
  unfolding reads_of
  mark-same n = total-same (slots m) (λ j. 1 - put (cell h q ℓ i) 0 mark (cell h p m j)) (λ j. 1 - mark (cell h p m j))
      (λ j hj. ap (λ v. 1 - v) (put_other (cell h q ℓ i) 0 mark (cell h p m j) (λ e. let r = cell-inj h p q m ℓ j i hm hℓ hj hi e in n (r.0, r.1))))

-- A request that has passed a level
pub passed-why : (partition : ℕ → ℕ) (o : Option Request) (r : Request) (p m : ℕ) → o ≡ some r → passed_by partition o p m ≡ true → (partition r.block ≡ p) × (m < r.level)
unfolding passed_by
passed-why partition o r p m e k =
    let k' : (eqb (partition r.block) p && ltb m r.level) ≡ true = rw e at k in
    (eqb-true (partition r.block) p (and_l (eqb (partition r.block) p) (ltb m r.level) k'), ltb-true m r.level (and_r (eqb (partition r.block) p) (ltb m r.level) k'))

pub passed_none : (partition : ℕ → ℕ) (o : Option Request) (p m : ℕ) → o ≡ none → passed_by partition o p m ≡ false
unfolding passed_by
passed_none partition o p m e = rw e

pub passed-level : (partition : ℕ → ℕ) (o : Option Request) (r : Request) (ℓ n p m : ℕ) → o ≡ some r → partition r.block ≡ p → m < suc ℓ → passed_by partition (Request.pass_level ℓ n o) p m ≡ true
unfolding passed_by Request.pass_level
passed-level partition o r ℓ n p m e k l = rw e (and-true (eq-eqb (partition r.block) p k) (lt-ltb m (suc ℓ) l))
