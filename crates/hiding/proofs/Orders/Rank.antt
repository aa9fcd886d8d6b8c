-- The item that is read: its rank among the unread items is where its slot stands in the hidden order.
use Rattle.std.proofs.Math.Path.{◌≡◌, refl, ap, sym}
use Rattle.std.proofs.Common.{◌∙◌, inl, inr, ⊎_elim, eq-eqb, lt-ltb}
use Rattle.std.specs.Prelude.{Bool, ◌&&◌, List, [], ◌∷◌, map, ℕ, zero, suc, ◌<◌, length, get_or, eqb}
use Rattle.std.proofs.Math.Bool.{true, false}
use Rattle.std.proofs.Math.Option.{Option, none, some}
use native.Mathlib.Omega.{arith}
use Rattle.std.proofs.lemmas.List.{length-map}
use Rattle.lists.specs.Search.{keep, find, is_none, below, member, keep-yes, keep-no, find-yes, find-no}
use Rattle.lists.specs.Distinct.{Mem, index, index-mem, index_at, index-here, index-there}
use Rattle.lists.specs.Places.{index-map}
use Rattle.lists.specs.Members.{member-mem, mem-member, mem_below, map-mem, mem-map}
use Rattle.rules.proofs.Laws.Range.{range-facts}
use Rattle.rules.specs.Jobs.{joined, top_of}
use Rattle.rules.specs.Request.{is_source}
use Rattle.rules.specs.Reader.{dummy, lowest}
use Rattle.rules.specs.Laws.Reader.{slot_in, if_unread}
use Rattle.rules.specs.Laws.Decided.{StepIn}
use Rattle.rules.proofs.Laws.Decided.{decide-in}
use Rattle.rules.specs.Turn
use Rattle.rules.specs.Turn.{read_for_request, decide}
use Rattle.rules.specs.State.{State, Request, stored}
use Rattle.rules.specs.Blocks
use Rattle.rules.specs.Blocks.{named}
use Rattle.rules.specs.Shape.{Shape, slots, cell}
use Rattle.matching.specs.Keyed.{Key}
use Rattle.matching.specs.Reads.{Arranges}
use Rattle.matching.proofs.SlotReads.{arranges-mem}
use Rattle.reachable.proofs.Decided.{OwnSlot, DummySlot, ItemSlot, slot-here, if-unread, RequestReads, decided}
use Rattle.hiding.specs.Machines.Public.{unread_in}
use Rattle.hiding.specs.Machines.Middle.{wanted, clamp}
use Rattle.hiding.specs.Machines.Rules.{item_slots, items_in, orders_of, items_of}
use Rattle.hiding.specs.Machines.Needs.{Reachable}
use Rattle.hiding.proofs.Orders.Decides.{decide-open}
use Rattle.hiding.proofs.Orders.Unread.{open-in, open-mem}
use Rattle.hiding.proofs.Orders.Wanted.{wanted-block, wanted-dummy, wanted-item}

-- the first of the kept elements that has value 0
find-zero : (p : ℕ → Bool) (f : ℕ → ℕ) (xs : List ℕ) (x : ℕ) → find (λ i. p i && is_none (named (f i))) xs ≡ some x →
    Mem x (keep p xs) × (f x ≡ 0) × (get_or (keep p xs) (index 0 (map f (keep p xs))) 0 ≡ x)
find-zero p f [] x e = absurd (let z : ◌≡◌ {A = ℕ} 0 1 = unfold find in (cc) in omega arith)
find-zero p f (y ∷ ys) x e = go (p y) refl (f y) refl (find-zero p f ys x)
  where
    test : ℕ → Bool
    test i = p i && is_none (named (f i))

    tested : (t : Bool) (v : ℕ) → p y ≡ t → f y ≡ v → test y ≡ (t && is_none (named v))
    tested t v a b = rw (a, b)

    go : (t : Bool) → p y ≡ t → (v : ℕ) → f y ≡ v →
        (find test ys ≡ some x → Mem x (keep p ys) × (f x ≡ 0) × (get_or (keep p ys) (index 0 (map f (keep p ys))) 0 ≡ x)) →
        Mem x (keep p (y ∷ ys)) × (f x ≡ 0) × (get_or (keep p (y ∷ ys)) (index 0 (map f (keep p (y ∷ ys)))) 0 ≡ x)
    go true a zero b k =
        let g : find test (y ∷ ys) ≡ some y = find-yes test y ys (tested true zero a b ∙ unfold named is_none in refl) in
        let c : y ≡ x = cc (sym g ∙ e) in
        rw (keep-yes p y ys a, index-here 0 (f y) (map f (keep p ys)) (sym b)) (inl (sym c), rw (← c) b, c)
    go true a (suc v) b k =
        let g : find test (y ∷ ys) ≡ find test ys = find-no test y ys (tested true (suc v) a b ∙ unfold named is_none in refl) in
        let r = k (sym g ∙ e) in
        rw (keep-yes p y ys a, index-there 0 (f y) (map f (keep p ys)) (λ d. omega arith)) (inr r.0, r.1, r.2)
    go false a v b k =
        let g : find test (y ∷ ys) ≡ find test ys = find-no test y ys (tested false v a b) in
        rw (keep-no p y ys a) (k (sym g ∙ e))

-- ---- the item that a request reads

clamp-id : (n k : ℕ) → k < n → clamp n k ≡ k
unfolding clamp
clamp-id n k l = rw (lt-ltb k n l)

-- the first of the kept elements is what is found
find_head : (p : ℕ → Bool) (xs : List ℕ) (x : ℕ) → find p xs ≡ some x → index x (keep p xs) ≡ 0
find_head p [] x e = absurd (let z : ◌≡◌ {A = ℕ} 0 1 = unfold find in (cc) in omega arith)
find_head p (y ∷ ys) x e = go (p y) refl (find_head p ys x)
  where
    go : (t : Bool) → p y ≡ t → (find p ys ≡ some x → index x (keep p ys) ≡ 0) → index x (keep p (y ∷ ys)) ≡ 0
    go true u k = let c : x ≡ y = cc (sym (find-yes p y ys u) ∙ e) in rw (keep-yes p y ys u) (index-here x y (keep p ys) c)
    go false u k = rw (keep-no p y ys u) (k (sym (find-no p y ys u) ∙ e))

module _ (h : Shape) (reach : Reachable h) (s : State) (k : reach.Holds s)
    (hid : (j : Key) → Arranges (unread_in s.shape s.mark j) (orders_of s j)) (q ℓ x : ℕ) (e : decide s ≡ read_for_request q ℓ x)
  where
    abbrev hs : List ℕ
    hs = orders_of s (q, ℓ)

    abbrev at_slot : ℕ → ℕ
    at_slot i = s.holds (cell s.shape q ℓ i)

    in-range : (q < s.shape.P) × (ℓ < s.shape.L) × (x < slots ℓ)
    in-range = go (decide s) e (decide-in s (range-facts s (reach.range s k)))
      where
        go : (y : Turn.Step) → y ≡ read_for_request q ℓ x → StepIn s y → (q < s.shape.P) × (ℓ < s.shape.L) × (x < slots ℓ)
        go y f b = rw f at b

    open_step : Mem x (unread_in s.shape s.mark (q, ℓ))
    open_step = rw e at (decide-open h reach s k)

    pub in_order_lem : Mem x hs
    in_order_lem = arranges-mem x (unread_in s.shape s.mark (q, ℓ)) hs (hid (q, ℓ)) open_step

    -- an unread slot of the level: below the count of slots, and marked
    unread-slot : (y : ℕ) → Mem y hs → (y < slots ℓ) × (s.mark (cell s.shape q ℓ y) ≡ 1)
    unread-slot y m =
        let u = open-mem s.shape s.mark (λ k. below (slots k.1)) q ℓ y ((hid (q, ℓ)).2 y m) in
        (mem_below (slots ℓ) y u.0, u.1)

    its-is : items_of s (q, ℓ) ≡ map at_slot hs
    unfolding items_in
    its-is = refl

    reads : RequestReads s q ℓ x
    reads = rw e at (decided s)

    -- a slot that holds the request's block is its place
    place_of : (y : ℕ) → Mem y hs → at_slot y ≡ suc reads.asked.block → s.place reads.asked.block ≡ stored ℓ y
    place_of y m f = let u = unread-slot y m in reach.owned s reads.asked q ℓ x y k e reads.in_hand u.0 u.1 f

    rank-of : wanted (is_source s q ℓ) (some reads.asked) (map at_slot hs) ≡ index x hs
    rank-of = ⊎_elim of-block (⊎_elim of-dummy of-item) reads.slot
      where
        r : Request
        r = reads.asked

        b : ℕ
        b = r.block

        -- its block is there
        of-block : OwnSlot s b q ℓ x → wanted (is_source s q ℓ) (some r) (map at_slot hs) ≡ index x hs
        of-block f =
            let o = reach.own s r q ℓ x k e reads.in_hand f.0 in
            let p : s.place b ≡ stored ℓ x = o.0 in
            let v : at_slot x ≡ suc b = o.1 in
            let m : member (suc b) (map at_slot hs) ≡ true = mem-member (suc b) (map at_slot hs) (rw v at (map-mem at_slot x hs in_order_lem)) in
            wanted-block (is_source s q ℓ) r (map at_slot hs) m
            ∙ rw (← v) (index-map at_slot x hs in_order_lem (λ y m' d. same-slot y x (sym (place_of y m' (d ∙ v)) ∙ p)))
          where
            same-slot : (y z : ℕ) → stored ℓ y ≡ stored ℓ z → y ≡ z
            same-slot y z d = cc

        -- where it is not among the unread items
        not_there : ((y : ℕ) → Mem y hs → s.place b ≡ stored ℓ y → ⊥) → (t : Bool) → member (suc b) (map at_slot hs) ≡ t → member (suc b) (map at_slot hs) ≡ false
        not_there n false c = c
        not_there n true c =
            let y = mem-map at_slot (suc b) hs (member-mem (suc b) (map at_slot hs) c) in
            absurd (n y.0 y.1.0 (place_of y.0 y.1.0 (sym y.1.1)))

        -- it is not, and the slot is the lowest unread dummy's
        of-dummy : DummySlot s b q ℓ x → wanted (is_source s q ℓ) (some r) (map at_slot hs) ≡ index x hs
        of-dummy g =
            let d = dummy-at g.2 in
            let n : member (suc b) (map at_slot hs) ≡ false = not_there elsewhere (member (suc b) (map at_slot hs)) refl in
            let l = index-mem 0 (map at_slot hs) (rw d.1 at (map-mem at_slot x hs in_order_lem)) in
            let l' : index 0 (map at_slot hs) < length hs = omega (arith, l, length-map hs at_slot) in
            wanted-dummy (is_source s q ℓ) r (map at_slot hs) g.0 n ∙ sym (ap (λ z. index z hs) (sym d.2) ∙ index_at hs (index 0 (map at_slot hs)) (hid (q, ℓ)).1 l')
          where
            dummy-at : dummy s q ℓ ≡ some x → Mem x hs × (at_slot x ≡ 0) × (get_or hs (index 0 (map at_slot hs)) 0 ≡ x)
            dummy-at g = rw (open-in s.shape s.mark (item_slots s.shape s.order) q ℓ in-range.0 in-range.1)
                (find-zero (λ i. eqb (s.mark (cell s.shape q ℓ i)) 1) at_slot (item_slots s.shape s.order (q, ℓ)) x (unfold dummy Blocks.is_unread Blocks.holder item_slots in g))

            elsewhere : (y : ℕ) → Mem y hs → s.place b ≡ stored ℓ y → ⊥
            elsewhere y m p =
                let z : ◌≡◌ {A = Option ℕ} none (some y) = sym g.1 ∙ ap (slot_in ℓ) p ∙ slot-here ℓ y in
                let z' : ◌≡◌ {A = ℕ} 0 1 = cc in omega arith

        -- it is not, in a source, and the slot is the lowest unread item's
        of-item : ItemSlot s b q ℓ x → wanted (is_source s q ℓ) (some r) (map at_slot hs) ≡ index x hs
        of-item g =
            let n : member (suc b) (map at_slot hs) ≡ false = not_there elsewhere (member (suc b) (map at_slot hs)) refl in
            wanted-item (is_source s q ℓ) r (map at_slot hs) g.0 n ∙ sym (item-at g.2)
          where
            item-at : lowest s q ℓ ≡ some x → index x hs ≡ 0
            item-at g = rw (open-in s.shape s.mark (item_slots s.shape s.order) q ℓ in-range.0 in-range.1)
                (find_head (λ i. eqb (s.mark (cell s.shape q ℓ i)) 1) (item_slots s.shape s.order (q, ℓ)) x (unfold lowest Blocks.is_unread item_slots in g))

            elsewhere : (y : ℕ) → Mem y hs → s.place b ≡ stored ℓ y → ⊥
            elsewhere y m p =
                let u : Blocks.is_unread s q ℓ y ≡ true = unfold Blocks.is_unread in (eq-eqb (s.mark (cell s.shape q ℓ y)) 1 (unread-slot y m).1) in
                let v : slot_in ℓ (s.place b) ≡ some y = ap (slot_in ℓ) p ∙ slot-here ℓ y in
                let z : ◌≡◌ {A = Option ℕ} none (some y) = sym g.1 ∙ ap (if_unread (Blocks.is_unread s q ℓ)) v ∙ if-unread (Blocks.is_unread s q ℓ) y u in
                let z' : ◌≡◌ {A = ℕ} 0 1 = cc in omega arith

    -- the rank of the wanted item is the place of the slot that is read
    pub rank_is : clamp (length (unread_in s.shape s.mark (q, ℓ))) (wanted (is_source s q ℓ) s.request (items_of s (q, ℓ))) ≡ index x hs
    unfolding is_source top_of joined
    rank_is =
        let i : wanted (is_source s q ℓ) s.request (items_of s (q, ℓ)) ≡ index x hs = rw (its-is, reads.in_hand) rank-of in
        rw i (clamp-id _ (index x hs) (omega (arith, (hid (q, ℓ)).0, (index-mem x hs in_order_lem).0)))
