-- A level's items: what its slots hold, and where its blocks are, after one block more.
use Rattle.std.specs.Prelude.{◌≡◌, refl, List, [], ◌∷◌, ◌++◌, map, ℕ, zero, suc, ◌+◌, ◌≤◌, ◌<◌, take, set}
use Rattle.std.proofs.Math.Path.{ap, fun_ext}
use Rattle.std.proofs.Common.{sym, ◌∙◌, subst, inl, inr, add-one, length-set, ext_get_or, get_or-take, take-suc, length-take-le, get_or-set_same, get_or-set_other, eq-eqb, ne_eqb}
use Rattle.std.proofs.Math.Option.{Option, none, some}
use native.Mathlib.Omega.{arith}
use Rattle.std.proofs.Math.Decide.{ℕ_discrete}
use Rattle.std.proofs.Math.ListN.{length, get_or}
use Rattle.std.proofs.lemmas.List.{length-map}
use Rattle.lists.specs.Search.{index_of, index_from}
use Rattle.lists.specs.Lengths.{length-below}
use Rattle.lists.specs.All.{All}
use Rattle.lists.specs.Distinct.{Mem, NoDup, index, mem-at, index-mem, index_at, nodup-inj}
use Rattle.lists.specs.Members.{get_or-map-below, index_of-mem, index_of-none, dec_mem, all-mem}
use Rattle.lists.specs.Tables.{put, put_all, put_same, put_other}
use Rattle.rules.specs.State.{Place, stored}
use Rattle.rules.specs.Rebuild.{new_place, item_place, new_holds, item_holds}
use Rattle.lists.specs.Entries.{put_in, put_all-same}

-- an element more at the end
at-end : (xs : List ℕ) (b : ℕ) → get_or (map suc (xs ++ (b ∷ []))) (length xs) 0 ≡ suc b
at-end [] b = refl
at-end (x ∷ xs) b = at-end xs b

before-end : (xs : List ℕ) (b k : ℕ) → ¬ (k ≡ length xs) → get_or (map suc (xs ++ (b ∷ []))) k 0 ≡ get_or (map suc xs) k 0
before-end [] b zero n = absurd (n refl)
before-end [] b (suc k) n = refl
before-end (x ∷ xs) b zero n = refl
before-end (x ∷ xs) b (suc k) n = before-end xs b k (λ e. n (omega arith))

index-end : (k b : ℕ) (xs : List ℕ) → ¬ Mem b xs → index_from k b (xs ++ (b ∷ [])) ≡ some (k + length xs)
unfolding index_from
index-end k b [] n = let e : k ≡ k + 0 = omega arith in rw (eq-eqb b b refl, index_from) (ap some e)
index-end k b (x ∷ xs) n =
    let e : suc k + length xs ≡ k + suc (length xs) = omega arith in
    rw (ne_eqb b x (λ e. n (inl e)), index_from) (index-end (suc k) b xs (λ m. n (inr m)) ∙ ap some e)

index-before : (k x b : ℕ) (xs : List ℕ) → ¬ (x ≡ b) → index_from k x (xs ++ (b ∷ [])) ≡ index_from k x xs
unfolding index_from
index-before k x b [] n = rw (ne_eqb x b n, index_from)
index-before k x b (y ∷ xs) n = go (ℕ_discrete x y) (index-before (suc k) x b xs n)
  where
    go : Dec (x ≡ y) → index_from (suc k) x (xs ++ (b ∷ [])) ≡ index_from (suc k) x xs → index_from k x (y ∷ xs ++ (b ∷ [])) ≡ index_from k x (y ∷ xs)
    go (yes e) ih = rw (eq-eqb x y e, index_from)
    go (no e) ih = rw (ne_eqb x y e, index_from) ih

-- ---- The first k entries of a list
pub take_more : (l : List ℕ) (i : ℕ) → i < length l → take (i + 1) l ≡ take i l ++ (get_or l i 0 ∷ [])
take_more l i h = rw add-one (take-suc l i 0 h)

module _ (l : List ℕ) (k i : ℕ) (h : i < k) (room : k ≤ length l) where
  long : length (take k l) ≡ k
  long = length-take-le k l room

  pub entry_has : (P : ℕ → Type 0) → All P (take k l) → P (get_or l i 0)
  entry_has P a = subst P (get_or-take k l i 0 h) (all-mem a (get_or (take k l) i 0) (mem-at (take k l) i (omega (arith, long))))

  pub entry_new : NoDup (take k l) → ¬ Mem (get_or l i 0) (take i l)
  entry_new u m =
      let short : length (take i l) ≡ i = length-take-le i l (omega arith) in
      let r = index-mem (get_or l i 0) (take i l) m in
      let j = index (get_or l i 0) (take i l) in
      let e : get_or (take k l) j 0 ≡ get_or (take k l) i 0 =
      get_or-take k l j 0 (omega arith) ∙ sym (get_or-take i l j 0 (omega arith)) ∙ r.1 ∙ sym (get_or-take k l i 0 h) in
      let z = nodup-inj (take k l) j i u (omega (arith, long)) (omega (arith, long)) e in
      omega arith

-- ---- Places
pub place_none : (t : ℕ) (o : List ℕ) (f : ℕ → Place) → new_place t [] o f ≡ f
unfolding new_place item_place index_of index_from
place_none t o f = refl

pub place-more : (t b : ℕ) (xs o : List ℕ) (f : ℕ → Place) → ¬ Mem b xs → put b (stored t (get_or o (length xs) 0)) (new_place t xs o f) ≡ new_place t (xs ++ (b ∷ [])) o f
unfolding new_place item_place index_of
place-more t b xs o f n = fun_ext (λ x. go x (ℕ_discrete x b))
  where
    go : (x : ℕ) → Dec (x ≡ b) → put b (stored t (get_or o (length xs) 0)) (new_place t xs o f) x ≡ new_place t (xs ++ (b ∷ [])) o f x
    go x (yes e) =
        let z : 0 + length xs ≡ length xs = omega arith in
        rw e (put_same b (stored t (get_or o (length xs) 0)) (new_place t xs o f) ∙ sym (ap (λ i. item_place t o i (f b)) (index-end 0 b xs n ∙ ap some z)))
    go x (no e) = put_other b (stored t (get_or o (length xs) 0)) (new_place t xs o f) x e ∙ ap (λ i. item_place t o i (f x)) (sym (index-before 0 x b xs e))

-- ---- What slots hold
pub length-holds : (n : ℕ) (xs o : List ℕ) → length (new_holds n xs o) ≡ n
unfolding new_holds
length-holds n xs o = simp length-map (length-below n)

holds_at_lem : (n : ℕ) (xs o : List ℕ) (i : ℕ) → i < n → get_or (new_holds n xs o) i 0 ≡ item_holds xs (index_of i o)
unfolding new_holds
holds_at_lem n xs o i h = get_or-map-below (λ i. item_holds xs (index_of i o)) n i 0 h

-- a level that holds nothing
pub holds-none : (a n : ℕ) (o : List ℕ) (f : ℕ → ℕ) → ((i : ℕ) → i < n → f (a + i) ≡ 0) → f ≡ put_all a (new_holds n [] o) f
unfolding item_holds
holds-none a n o f h = put_all-same a (new_holds n [] o) f (λ i l.
    let k : i < n = omega (arith, length-holds n [] o) in
    h i k ∙ sym (holds_at_lem n [] o i k ∙ nothing (index_of i o)))
  where
    nothing : (x : Option ℕ) → item_holds [] x ≡ 0
    nothing none = refl
    nothing (some k) = refl

module _ (n b : ℕ) (xs o : List ℕ) (long : length o ≡ n) (u : NoDup o) (room : length xs < n) where
  abbrev slot : ℕ
  slot = get_or o (length xs) 0

  -- another slot than that of the new block holds what it did
  item-same : (x : ℕ) → ¬ (x ≡ slot) → Dec (Mem x o) → item_holds xs (index_of x o) ≡ item_holds (xs ++ (b ∷ [])) (index_of x o)
  unfolding item_holds
  item-same x d (yes m) =
      let k : ¬ (index x o ≡ length xs) = λ e. d (sym (index-mem x o m).1 ∙ ap (λ k. get_or o k 0) e) in
      rw (index_of-mem x o m) (sym (before-end xs b (index x o) k))
  item-same x d (no m) = rw (index_of-none x o m)

  item-new : item_holds (xs ++ (b ∷ [])) (index_of slot o) ≡ suc b
  unfolding item_holds
  item-new =
      let l : length xs < length o = omega arith in
      rw (index_of-mem slot o (mem-at o (length xs) l), index_at o (length xs) u l) (at-end xs b)

  item-more : (x : ℕ) → Dec (x ≡ slot) → x < n → get_or (set (new_holds n xs o) slot (suc b)) x 0 ≡ item_holds (xs ++ (b ∷ [])) (index_of x o)
  item-more x (yes e) h =
      let l : slot < length (new_holds n xs o) = omega (arith, length-holds n xs o) in
      rw e (get_or-set_same (new_holds n xs o) slot (suc b) 0 l ∙ sym item-new)
  item-more x (no d) h = get_or-set_other (new_holds n xs o) slot x (suc b) 0 d ∙ holds_at_lem n xs o x h ∙ item-same x d (dec_mem x o)

  pub holds_more : (a : ℕ) (f : ℕ → ℕ) → slot < n → put (a + slot) (suc b) (put_all a (new_holds n xs o) f) ≡ put_all a (new_holds n (xs ++ (b ∷ [])) o) f
  holds_more a f h = put_in a (new_holds n xs o) f slot (suc b) (omega (arith, length-holds n xs o)) ∙ ap (λ l. put_all a l f) same
    where
      same : set (new_holds n xs o) slot (suc b) ≡ new_holds n (xs ++ (b ∷ [])) o
      same = ext_get_or 0 _ _ (length-set (new_holds n xs o) slot (suc b) ∙ length-holds n xs o ∙ sym (length-holds n (xs ++ (b ∷ [])) o)) (λ x l.
          let k : x < n = omega (arith, length-set (new_holds n xs o) slot (suc b), length-holds n xs o) in
          item-more x (ℕ_discrete x slot) k ∙ sym (holds_at_lem n (xs ++ (b ∷ [])) o x k))
