-- A collect keeps the invariant.
use Rattle.std.proofs.Math.Path.{◌≡◌, refl, ap, sym, fun_ext}
use Rattle.std.proofs.Common.{◌∙◌, subst, eq-eqb}
use Rattle.std.specs.Prelude.{◌⊎◌, Bool, true, List, [], ◌∷◌, ◌++◌, eqb, if◌then◌else◌}
use Rattle.std.proofs.Math.Logic.{inl, inr, ⊎_elim}
use Rattle.std.proofs.Math.Bool.{false, not, true≢false}
use Rattle.std.proofs.Math.Option.{some, Option}
use Prim.Native.Nat.{ℕ, suc, ◌%◌, ◌^◌, ◌≤◌, ◌<◌, zero, ◌+◌}
use native.Mathlib.Omega.{arith}
use Rattle.std.proofs.Math.Decide.{ℕ_discrete}
use Rattle.lists.specs.All.{all_map, all_both, keep-passes, IfSome}
use Rattle.lists.specs.Distinct.{Mem}
use Rattle.lists.specs.Members.{all-mem, keep-mem, nodup-keep, nodup-snoc, nodup-sub, append-mem}
use Rattle.lists.specs.Lengths.{bit}
use Rattle.lists.specs.Tables.{put, put_same, put_other, put_has}
use Rattle.std.proofs.Math.ListN.{length}
use Rattle.rules.specs.Blocks
use Rattle.lists.specs.Totals.{total-le}
use Rattle.rules.specs.Jobs.{queued}
use Rattle.rules.specs.Collect
use Rattle.rules.specs.Collect.{finish, emptied}
use Rattle.rules.proofs.Laws.Lengths.{contents-length}
use Rattle.rules.proofs.Laws.Levels.{joins-le, joins-more, queued-front}
use Rattle.rules.specs.Laws.Range.{InRange, RequestIn}
use Rattle.rules.specs.Levels.{filled}
use Rattle.rules.specs.Ranges.{others, bytes_of}
use Rattle.rules.specs.Shape.{slots, Shape, cell, offset}
use Rattle.rules.specs.State.{State, Request, Place, nowhere, stored, write}
use Rattle.reachable.proofs.Blocks.{not-nowhere, stored-inj, at-why, why-at, in-why, why-in, nodup-at, nodup-in}
use Rattle.reachable.proofs.Consequences.{block-lt, finished-read, finished-aside, busy-begun}
use Rattle.reachable.specs.Invariant.{Reached, Waiting, Items, Agree, Room, Full, taken, Taken, holds_of, Reads, Unread, Commands, Tidy, SlotCell}
use Rattle.rules.specs.Form.Loading.{stored_at, is_in}
use Rattle.reachable.specs.Live
use Rattle.rules.specs.Request.{is_front}
use Rattle.reachable.specs.Live.{counted, drawn, pending, undrawn, Gathers, passed_by, Source}
use Rattle.reachable.proofs.Live.{counted-calm}
use Rattle.reachable.proofs.Pending.{Filled, front-more, front-append, queued-here, queued-more, undrawn-append, passed-why, queued-append}

module _ (s : State) (f : Reached s) (r : Request) (in_hand : s.request ≡ some r) (done : Collect.finished s r ≡ true) where
  abbrev h : Shape
  h = s.shape

  abbrev b : ℕ
  b = r.block

  abbrev s' : State
  s' = finish r s

  abbrev more : List ℕ
  more = s.partition b ∷ r.evict ∷ []

  hb : b < h.N
  hb = block-lt s f r in_hand

  some-queued : (q : ℕ) (rest : List ℕ) → s.queue ≡ q ∷ rest → 1 ≤ queued s.queue q
  some-queued q rest e = subst (λ qs. 1 ≤ queued qs q) (sym e) (queued-front q rest)

  filled-queue : Filled s.queue s.begun s.sent
  filled-queue n = let x = f.running (busy-begun s f n) in (x.0, x.1, (x.2.0, omega (arith, x.2.1, joins-le s.shape (s.counter x.0) (queued s.queue x.0) (some-queued x.0 x.1 x.2.0))))

  pub counted-kept : counted s' ≡ counted s
  counted-kept = fun_ext (λ p. go p (ℕ_discrete s.sent 0))
    where
      go : (p : ℕ) → Dec (s.sent ≡ 0) → counted s' p ≡ counted s p
      go p (yes e) = unfold finish in (counted-calm s' p e ∙ sym (counted-calm s p e))
      go p (no e) = let x = f.begun e in unfold finish counted drawn in (rw (front-more s.queue more p x.0 x.1 x.2.0))

  place_same : s'.place b ≡ nowhere
  unfolding finish
  place_same = put_same b nowhere s.place

  pub place_other : (x : ℕ) → ¬ (x ≡ b) → s'.place x ≡ s.place x
  unfolding finish
  place_other x n = put_other b nowhere s.place x n

  pub partition-other : (x : ℕ) → ¬ (x ≡ b) → s'.partition x ≡ s.partition x
  unfolding finish
  partition-other x n = put_other b r.next s.partition x n

  -- a block that has a place is another
  pub other_block : (x ℓ i : ℕ) → s'.place x ≡ stored ℓ i → ¬ (x ≡ b)
  other_block x ℓ i e w = not-nowhere ℓ i (sym place_same ∙ sym (ap s'.place w) ∙ e)

  waiting_kept : Waiting s'.waiting s'.place
  unfolding finish others
  waiting_kept = record {
    once = nodup-snoc (others s.waiting b) b (nodup-keep _ s.waiting f.waiting.once)
        (λ m. true≢false (sym (all-mem (keep-passes (λ a. not (eqb a b)) s.waiting) b m) ∙ ap not (eq-eqb b b refl)));
    absent = λ x m. go x (ℕ_discrete x b) (append-mem x (others s.waiting b) (b ∷ []) m);
  }
    where
      go : (x : ℕ) → Dec (x ≡ b) → Mem x (others s.waiting b) ⊎ Mem x (b ∷ []) → s'.place x ≡ nowhere
      go x (yes e) m = ap s'.place e ∙ place_same
      go x (no e) (inl m) = place_other x e ∙ f.waiting.absent x (keep-mem _ s.waiting x m)
      go x (no e) (inr (inl w)) = absurd (e w)
      go x (no e) (inr (inr w)) = absurd w

  -- a slot that held another block holds it still; one that holds a block held it before
  holds-other : (c x : ℕ) → s.holds c ≡ suc x → ¬ (x ≡ b) → s'.holds c ≡ suc x
  unfolding finish emptied
  holds-other c x e n = go (s.place b) refl
    where
      go : (y : Place) → s.place b ≡ y → emptied (cell h (s.partition b)) y s.holds c ≡ suc x
      go nowhere k = e
      go (stored m j) k = by (ℕ_discrete c (cell h (s.partition b) m j))
        where
          by : Dec (c ≡ cell h (s.partition b) m j) → put (cell h (s.partition b) m j) 0 s.holds c ≡ suc x
          by (yes w) = absurd (n (let z : suc x ≡ suc b = sym e ∙ ap s.holds w ∙ (f.agree.placed b m j hb k).1 in omega arith))
          by (no w) = put_other (cell h (s.partition b) m j) 0 s.holds c w ∙ e

  holds-before : (c x : ℕ) → s'.holds c ≡ suc x → (s.holds c ≡ suc x) × ((m j : ℕ) → s.place b ≡ stored m j → ¬ (c ≡ cell h (s.partition b) m j))
  unfolding finish emptied
  holds-before c x e = go (s.place b) refl e
    where
      go : (y : Place) → s.place b ≡ y → emptied (cell h (s.partition b)) y s.holds c ≡ suc x → (s.holds c ≡ suc x) × ((m j : ℕ) → s.place b ≡ stored m j → ¬ (c ≡ cell h (s.partition b) m j))
      go nowhere k e = (e, λ m j z w. not-nowhere m j (sym k ∙ z))
      go (stored m j) k e = by (ℕ_discrete c (cell h (s.partition b) m j))
        where
          by : Dec (c ≡ cell h (s.partition b) m j) → (s.holds c ≡ suc x) × ((m j : ℕ) → s.place b ≡ stored m j → ¬ (c ≡ cell h (s.partition b) m j))
          by (yes w) = absurd (let z : 0 ≡ suc x = sym (ap (put (cell h (s.partition b) m j) 0 s.holds) w ∙ put_same (cell h (s.partition b) m j) 0 s.holds) ∙ e in omega arith)
          by (no w) = (sym (put_other (cell h (s.partition b) m j) 0 s.holds c w) ∙ e, λ m' j' z v. let u = stored-inj m m' j j' (sym k ∙ z) in w (v ∙ rw (u.0, u.1)))

  -- a slot that holds nothing held nothing before, or has been read: the block's own slot
  holds-gone : (c : ℕ) → s'.holds c ≡ 0 → (s.holds c ≡ 0) ⊎ (s.mark c ≡ 0)
  unfolding finish emptied
  holds-gone c e = go (s.place b) refl e
    where
      go : (y : Place) → s.place b ≡ y → emptied (cell h (s.partition b)) y s.holds c ≡ 0 → (s.holds c ≡ 0) ⊎ (s.mark c ≡ 0)
      go nowhere k e = inl e
      go (stored m j) k e = by (ℕ_discrete c (cell h (s.partition b) m j))
        where
          by : Dec (c ≡ cell h (s.partition b) m j) → (s.holds c ≡ 0) ⊎ (s.mark c ≡ 0)
          by (yes w) = inr (ap s.mark w ∙ finished-read s f r m j in_hand done k)
          by (no w) = inl (sym (put_other (cell h (s.partition b) m j) 0 s.holds c w) ∙ e)

  items_kept : Items h (counted s') s.order s.mark s'.holds
  items_kept q ℓ hq hℓ e =
      let x = f.items q ℓ hq hℓ (rw counted-kept at e) in (
        x.0,
        record {
          few = x.1.few;
          blocks = λ k l hk z. ⊎_elim (x.1.blocks k l hk) (λ w. w) (holds-gone _ z);
          dummies = λ k l hk. none_more _ (x.1.dummies k l hk);
        },
      )
    where
      none_more : (c : ℕ) → s.holds c ≡ 0 → s'.holds c ≡ 0
      none_more c z = go (s'.holds c) refl
        where
          go : (v : ℕ) → s'.holds c ≡ v → s'.holds c ≡ 0
          go zero w = w
          go (suc x) w = absurd (omega (arith, (holds-before c x w).0))

  agree-kept : Agree h (counted s') s'.partition s'.place s'.holds
  agree-kept = record { placed = placed; held = held }
    where
      placed : (x ℓ i : ℕ) → x < h.N → s'.place x ≡ stored ℓ i → (filled (counted s' (s'.partition x)) ℓ ≡ true) × (s'.holds (cell h (s'.partition x) ℓ i) ≡ suc x)
      placed x ℓ i hx e =
          let n = other_block x ℓ i e in
          let a = f.agree.placed x ℓ i hx (sym (place_other x n) ∙ e) in
          rw (partition-other x n, counted-kept) (a.0, holds-other (cell h (s.partition x) ℓ i) x a.1 n)

      held : (q ℓ i x : ℕ) → q < h.P → ℓ < h.L → i < slots ℓ → s'.holds (cell h q ℓ i) ≡ suc x → (s'.partition x ≡ q) × (s'.place x ≡ stored ℓ i)
      held q ℓ i x hq hℓ hi k =
          let z = holds-before (cell h q ℓ i) x k in
          let a = f.agree.held q ℓ i x hq hℓ hi z.0 in
          let n : ¬ (x ≡ b) = λ w. z.1 ℓ i (sym (ap s.place w) ∙ a.1) (ap (λ p. cell h p ℓ i) (sym a.0 ∙ ap s.partition w)) in
          (partition-other x n ∙ a.0, place_other x n ∙ a.1)

  stays_at : (p ℓ x : ℕ) → Mem x (stored_at s' p ℓ) → Mem x (stored_at s p ℓ)
  stays_at p ℓ x m = go (ℕ_discrete x b) (unfold finish in (at-why s' p ℓ x m))
    where
      go : Dec (x ≡ b) → (x < h.N) × (s'.partition x ≡ p) × (is_in ℓ (s'.place x) ≡ true) → Mem x (stored_at s p ℓ)
      go (yes w) y = absurd (true≢false (sym y.2 ∙ ap (is_in ℓ) (ap s'.place w ∙ place_same) ∙ unfold is_in in refl))
      go (no w) y = why-at s p ℓ x y.0 (sym (partition-other x w) ∙ y.1) (ap (is_in ℓ) (sym (place_other x w)) ∙ y.2)

  stays-in : (p top x : ℕ) → Mem x (Live.stored_in s' p top) → Mem x (Live.stored_in s p top)
  stays-in p top x m = go (ℕ_discrete x b) (unfold finish in (in-why s' p top x m))
    where
      go : Dec (x ≡ b) → (x < h.N) × (s'.partition x ≡ p) × (Live.is_below top (s'.place x) ≡ true) → Mem x (Live.stored_in s p top)
      go (yes w) y = absurd (true≢false (sym y.2 ∙ ap (Live.is_below top) (ap s'.place w ∙ place_same) ∙ unfold Live.is_below in refl))
      go (no w) y = why-in s p top x y.0 (sym (partition-other x w) ∙ y.1) (ap (Live.is_below top) (sym (place_other x w)) ∙ y.2)

  room-kept : Room s'
  room-kept = λ p ℓ. omega (arith, f.room p ℓ, nodup-sub (stored_at s' p ℓ) (stored_at s p ℓ) (nodup-at s' p ℓ) (stays_at p ℓ))

  full-kept : Full s'
  full-kept = λ p. unfold finish in (omega (arith, f.full p, nodup-sub (Live.stored_in s' p h.L) (Live.stored_in s p h.L) (nodup-in s' p h.L) (stays-in p h.L)))

  taken-less : (c : ℕ) → taken (s'.holds c) ≤ taken (s.holds c)
  unfolding taken
  taken-less c = go (s'.holds c) refl
    where
      go : (v : ℕ) → s'.holds c ≡ v → taken v ≤ taken (s.holds c)
      go zero e = omega arith
      go (suc x) e = rw (holds-before c x e).0 (omega arith)

  taken-kept : Taken h s'.holds
  unfolding holds_of
  taken-kept p ℓ hp hℓ = omega (arith, f.taken p ℓ hp hℓ, total-le (slots ℓ) (λ i. taken (s'.holds (cell h p ℓ i))) (λ i. taken (s.holds (cell h p ℓ i))) (λ i hi. taken-less (cell h p ℓ i)))

  reads_kept : Reads s'
  unfolding finish bit pending passed_by
  reads_kept p m hp hm e = ⊎_elim (λ g. inl (front-append s.queue more p g.0, g.1, g.2)) (λ k. inr (omega (arith, less, ap (λ c. c p % 2 ^ m) counted-kept))) (f.reads p m hp hm (rw counted-kept at e))
    where
      jobs : queued (undrawn (s.queue ++ more) s.begun s.sent) p ≡ queued (undrawn s.queue s.begun s.sent) p + queued more p
      jobs = ap (λ qs. queued qs p) (undrawn-append s.queue more s.begun s.sent filled-queue) ∙ queued-more p (undrawn s.queue s.begun s.sent) more

      -- the read that the request has sent is now one of a job's
      one : (t : Bool) → passed_by s.partition s.request p m ≡ t → bit t ≤ queued more p
      one true k =
          let w = passed-why s.partition s.request r p m in_hand k in
          let z : queued more (s.partition b) ≡ suc (queued (r.evict ∷ []) (s.partition b)) = queued-here (s.partition b) (r.evict ∷ []) in
          let v : queued more p ≡ queued more (s.partition b) = ap (queued more) (sym w.0) in
          omega (arith, z, v)
      one false k = omega arith

      less : pending s p m ≤ pending s' p m
      less = omega (arith, jobs, one (passed_by s.partition s.request p m) refl)

  gathers-still : (p ℓ : ℕ) → Gathers s p ℓ → Gathers s' p ℓ
  unfolding finish
  gathers-still p ℓ k = (front-append s.queue more p k.0, k.1, k.2)

  unread-kept : Unread s'
  unfolding finish
  unread-kept x m j hx e =
      let n = other_block x m j e in
      let v = partition-other x n in
      ⊎_elim (λ k. inl (ap (λ p. s.mark (cell s.shape p m j)) v ∙ k))
      (λ k. ⊎_elim
      (λ a. let w : a.0 ≡ r = cc (a.1.0, in_hand) in absurd (n (sym a.1.1 ∙ ap (λ (y : Request). y.block) w)))
      (λ a. inr (inr (rw v (gathers-still (s.partition x) m a)))) k)
      (f.unread x m j hx (sym (place_other x n) ∙ e))

  still-scanned : (q ℓ i : ℕ) → is_front (s.queue ++ more) q ≡ true → s.sent ≡ 0 → Source s.shape (s.counter q) s.begun ℓ → i < slots ℓ → offset ℓ i < s.cursor
      → s.mark (cell s.shape q ℓ i) ≡ 0
  still-scanned q ℓ i a z l hi c = let x = f.running l.0 in f.scanned q ℓ i (sym (front-more s.queue more q x.0 x.1 x.2.0) ∙ a) z l hi c

  commands-kept : Commands s'
  unfolding finish
  commands-kept = all_map (λ c k. ⊎_elim
      (λ a. inl (record {
        kind = a.kind;
        is_read = a.is_read;
        full = a.full;
        whose = ⊎_elim
            (λ p. let w = passed-why s.partition s.request r c.partition c.level in_hand p in inr (gathers-still c.partition c.level (rw w.0 at (k.1 (sym w.0)).0)))
            (λ n. inr (gathers-still c.partition c.level n)) a.whose;
      }))
      (λ a. inr (record { kind = a.kind; front = front-append s.queue more c.partition a.front; busy = a.busy; goal = a.goal; slot = a.slot })) k.0)
      (all_both f.commands (finished-aside s f r in_hand done))

  whole-kept : (x : ℕ) → length (s'.bytes x) ≡ h.B
  unfolding finish
  whole-kept x = put_has (λ v. length v ≡ h.B) b _ s.bytes x (go (eqb r.kind write) refl) (f.tidy.whole x)
    where
      asked : (o : Option Request) → o ≡ some r → IfSome (RequestIn h) o → length r.bytes ≡ bytes_of h r.kind
      asked o e k = let k' : RequestIn h r = rw e at k in k'.bytes

      go : (t : Bool) → eqb r.kind write ≡ t → length (if t then r.bytes else Blocks.contents s b) ≡ h.B
      go true e = asked s.request in_hand f.range.request ∙ (unfold bytes_of in (rw e))
      go false e = contents-length s f.tidy.whole b

  held_kept : (c : ℕ) → ¬ (s'.holds c ≡ 0) → SlotCell h c
  held_kept c n = go (s'.holds c) refl
    where
      go : (v : ℕ) → s'.holds c ≡ v → SlotCell h c
      go zero e = absurd (n e)
      go (suc x) e = f.tidy.held c (λ z. omega (arith, sym (holds-before c x e).0 ∙ z))

  tidy-kept : Tidy s'
  unfolding finish
  tidy-kept = record {
    partitions = λ x l. partition-other x (λ w. omega (arith, w, hb)) ∙ f.tidy.partitions x l;
    places = λ x l. place_other x (λ w. omega (arith, w, hb)) ∙ f.tidy.places x l;
    counters = f.tidy.counters;
    marked = rw counted-kept f.tidy.marked;
    held = held_kept;
    whole = whole-kept;
  }

  pub collect-kept : InRange s' → Reached s'
  unfolding finish
  collect-kept range = record {
    range = range;
    waiting = waiting_kept;
    orders = unfold finish in (rw counted-kept f.orders);
    items = items_kept;
    agree = agree-kept;
    room = room-kept;
    full = full-kept;
    taken = taken-kept;
    begun = λ n. let x = f.begun n in (x.0, x.1 ++ more, (ap (λ l. l ++ more) x.2.0, x.2.1));
    running = λ n. let x = f.running n in (x.0, x.1 ++ more, (ap (λ l. l ++ more) x.2.0, omega (arith, x.2.1, joins-more s.shape (s.counter x.0) (queued s.queue x.0) _ (some-queued x.0 x.1 x.2.0) (queued-append s.queue more x.0))));
    unbegun = f.unbegun;
    reads = reads_kept;
    unheld = λ x e. let z : ◌≡◌ {A = ℕ} 0 1 = cc in absurd (omega arith);
    released = λ x e. let z : ◌≡◌ {A = ℕ} 0 1 = cc in absurd (omega arith);
    unworn = λ x e. let z : ◌≡◌ {A = ℕ} 0 1 = cc in absurd (omega arith);
    unawaited = λ x e. let z : ◌≡◌ {A = ℕ} 0 1 = cc in absurd (omega arith);
    unread = unread-kept;
    fetched = λ x m j e. let z : ◌≡◌ {A = ℕ} 0 1 = cc in absurd (omega arith);
    scanned = still-scanned;
    apart = f.apart;
    commands = commands-kept;
    tidy = tidy-kept;
  }
