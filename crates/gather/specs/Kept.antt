-- The blocks gathered so far, kept from all in their order, ascend, and grow by insertion.
use Rattle.std.specs.Prelude.{◌≡◌, Bool, false, ◌||◌, length}
use Rattle.std.proofs.Math.Path.{refl, ap, sym}
use Rattle.std.proofs.Common.{◌∙◌, arith, eq-eqb, ne_eqb}
use Rattle.std.proofs.Math.Bool.{true}
use Rattle.std.proofs.Math.Logic.{⊎_elim}
use mathlib.Core.List.{List, [], ◌∷◌, ◌++◌}
use Prim.Native.Nat.{ℕ, zero, suc, ◌+◌, ◌≤◌, ◌<◌}
use Rattle.std.proofs.Math.Decide.{ℕ_discrete}
use Rattle.std.proofs.Math.Dec.{eqb}
use Rattle.lists.specs.Tests.{or-true, or_left, or_right}
use Rattle.lists.specs.Search.{keep, below, count, member, any, keep-yes, keep-no}
use Rattle.lists.specs.All.{All, nil, cons, all_keep, all_map, keep-passes}
use Rattle.lists.specs.Members.{all-mem, count-from, keep-mem, mem-keep, keep_same, nodup-keep, nodup-count, nodup-sub, member-append, mem-member, member-mem}
use Rattle.rules.specs.Rebuild.{gather_from}
use Rattle.gather.specs.Gathered.{Ascending, inserted, added}
use Rattle.gather.specs.Inserted.{inserted-before, inserted-here, inserted-behind}

-- ---- Numbers that are kept from all below n

over : (p : ℕ → Bool) (a n : ℕ) → All (λ y. a < y) (keep p (count (suc a) n))
over p a n = all_keep p (all_map (λ y h. omega arith) (count-from (suc a) n))

kept-ascend : (p : ℕ → Bool) (a n : ℕ) → Ascending (keep p (count a n))
unfolding keep count
kept-ascend p a zero = tt
kept-ascend p a (suc n) = go (p a) refl (kept-ascend p (suc a) n)
  where
    go : (t : Bool) → p a ≡ t → Ascending (keep p (count (suc a) n)) → Ascending (keep p (a ∷ count (suc a) n))
    go true e k = rw (keep-yes p a (count (suc a) n) e) (over p a n, k)
    go false e k = rw (keep-no p a (count (suc a) n) e) k

inserted-first : (x : ℕ) (l : List ℕ) → All (λ y. x < y) l → inserted x l ≡ x ∷ l
inserted-first x [] nil = unfold inserted in refl
inserted-first x (y ∷ ys) (cons h t) = inserted-before x y ys h

-- one number more that passes
module _ (p r : ℕ → Bool) (x : ℕ) (passes : r x ≡ true) (same : (y : ℕ) → (y ≡ x → ⊥) → p y ≡ r y) where
  alike : (a n : ℕ) → x < a → keep p (count a n) ≡ keep r (count a n)
  alike a n h = keep_same p r (count a n) (λ y m. same y (λ e. omega (arith, all-mem (count-from a n) y m)))

  count-insert : (a n : ℕ) → a ≤ x → x < a + n → inserted x (keep p (count a n)) ≡ keep r (count a n)
  unfolding count
  count-insert a zero h k = absurd (omega arith)
  count-insert a (suc n) h k = go (ℕ_discrete a x) (p a) refl (λ u. count-insert (suc a) n u (omega arith))
    where
      xs : List ℕ
      xs = count (suc a) n

      go : Dec (a ≡ x) → (t : Bool) → p a ≡ t → (suc a ≤ x → inserted x (keep p xs) ≡ keep r xs) → inserted x (keep p (a ∷ xs)) ≡ keep r (a ∷ xs)
      go (yes e) true q ih =
          ap (inserted x) (keep-yes p a xs q) ∙ inserted-here x a (keep p xs) (sym e) ∙ ap (λ l. a ∷ l) (alike (suc a) n (omega arith)) ∙ sym (keep-yes r a xs (ap r e ∙ passes))
      go (yes e) false q ih =
          ap (inserted x) (keep-no p a xs q) ∙ inserted-first x (keep p xs) (rw (← e) (over p a n)) ∙ ap (λ l. x ∷ l) (alike (suc a) n (omega arith)) ∙ ap (λ y. y ∷ keep r xs) (sym e) ∙ sym (keep-yes r a xs (ap r e ∙ passes))
      go (no e) true q ih =
          ap (inserted x) (keep-yes p a xs q) ∙ inserted-behind x a (keep p xs) (omega arith) ∙ ap (λ l. a ∷ l) (ih (omega arith)) ∙ sym (keep-yes r a xs (sym (same a e) ∙ q))
      go (no e) false q ih =
          ap (inserted x) (keep-no p a xs q) ∙ ih (omega arith) ∙ sym (keep-no r a xs (sym (same a e) ∙ q))

  below-insert : (n : ℕ) → x < n → inserted x (keep p (below n)) ≡ keep r (below n)
  unfolding below
  below-insert n h = count-insert 0 n (omega arith) (omega arith)

kept-none : (p : ℕ → Bool) (xs : List ℕ) → ((x : ℕ) → p x ≡ false) → keep p xs ≡ []
kept-none p [] h = unfold keep in refl
kept-none p (x ∷ xs) h = keep-no p x xs (h x) ∙ kept-none p xs h

-- ---- The blocks below n that are among xs, or that an entry of es names

or_assoc : (a b d : Bool) → ((a || b) || d) ≡ (a || (b || d))
or_assoc true b d = refl
or_assoc false b d = refl

or-false : (a : Bool) → (a || false) ≡ a
or-false true = refl
or-false false = refl

member-snoc : (y : ℕ) (xs : List ℕ) (z : ℕ) → member y (xs ++ (z ∷ [])) ≡ (member y xs || eqb y z)
unfolding member any
member-snoc y [] z = or-false (eqb y z)
member-snoc y (x ∷ xs) z = ap (λ t. eqb y x || t) (member-snoc y xs z) ∙ sym (or_assoc (eqb y x) (member y xs) (eqb y z))

abbrev is_among : List ℕ → List ℕ → ℕ → Bool
is_among xs es b = member b xs || member (suc b) es

module _ (n : ℕ) where
  pub from-none : gather_from [] [] n ≡ []
  unfolding gather_from member any
  from-none = kept-none (λ b. false) (below n) (λ b. refl)

  pub from-ascends : (xs es : List ℕ) → Ascending (gather_from xs es n)
  unfolding gather_from below
  from-ascends xs es = kept-ascend (is_among xs es) 0 n

  -- an entry more
  pub from-entry : (xs es : List ℕ) (e : ℕ) → e ≤ n → added e (gather_from xs es n) ≡ gather_from xs (es ++ (e ∷ [])) n
  unfolding gather_from
  from-entry xs es e l = go e refl l
    where
      one : (b : ℕ) → is_among xs (es ++ (e ∷ [])) b ≡ (is_among xs es b || eqb (suc b) e)
      one b = ap (λ t. member b xs || t) (member-snoc (suc b) es e) ∙ sym (or_assoc (member b xs) (member (suc b) es) (eqb (suc b) e))

      other : (b : ℕ) → (suc b ≡ e → ⊥) → is_among xs es b ≡ is_among xs (es ++ (e ∷ [])) b
      other b d = sym (one b ∙ ap (λ t. is_among xs es b || t) (ne_eqb (suc b) e d) ∙ or-false (is_among xs es b))

      go : (x : ℕ) → e ≡ x → x ≤ n → added x (keep (is_among xs es) (below n)) ≡ keep (is_among xs (es ++ (e ∷ []))) (below n)
      go zero q l = unfold added in (keep_same (is_among xs es) (is_among xs (es ++ (e ∷ []))) (below n) (λ b m. other b (λ d. omega arith)))
      go (suc x) q l = unfold added in (below-insert (is_among xs es) (is_among xs (es ++ (e ∷ []))) x (one x ∙ or_right (is_among xs es x) _ (eq-eqb (suc x) e (sym q))) (λ b d. other b (λ u. d (omega arith))) n (omega arith))

  -- a block more
  pub from_block : (xs : List ℕ) (x : ℕ) → x < n → inserted x (gather_from xs [] n) ≡ gather_from (xs ++ (x ∷ [])) [] n
  unfolding gather_from
  from_block xs x l = below-insert (is_among xs []) (is_among (xs ++ (x ∷ [])) []) x (or_left _ _ (member-snoc x xs x ∙ or_right (member x xs) _ (eq-eqb x x refl)))
      (λ b d. ap (λ t. t || member (suc b) []) (sym (member-snoc b xs x ∙ ap (λ t. member b xs || t) (ne_eqb b x d) ∙ or-false (member b xs)))) n l

  -- entries more
  pub from_le : (xs es us : List ℕ) → length (gather_from xs es n) ≤ length (gather_from xs (es ++ us) n)
  unfolding gather_from below
  from_le xs es us = nodup-sub (keep (is_among xs es) (below n)) (keep (is_among xs (es ++ us)) (below n)) (nodup-keep (is_among xs es) (below n) (nodup-count 0 n))
      (λ b m. mem-keep (is_among xs (es ++ us)) (below n) b (keep-mem (is_among xs es) (below n) b m) (more b (all-mem (keep-passes (is_among xs es) (below n)) b m)))
    where
      more : (b : ℕ) → is_among xs es b ≡ true → is_among xs (es ++ us) b ≡ true
      more b e = ⊎_elim (or_left (member b xs) _) (λ m. or_right (member b xs) _ (mem-member (suc b) (es ++ us) (member-append (suc b) es us (member-mem (suc b) es m)))) (or-true (member b xs) _ e)
