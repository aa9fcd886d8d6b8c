-- A byte for each block of the store says whether it waits.
use Rattle.std.specs.Prelude.{◌≡◌, refl, Bool, true, false, List, [], ◌∷◌, ◌++◌, ℕ, ◌+◌, ◌<◌, length, get_or, set, replicate}
use Rattle.std.proofs.Common.{sym, ap, ◌∙◌, arith, get_or-set_same, get_or-set_other}
use Rattle.std.proofs.Math.Decide.{ℕ_discrete}
use Rattle.std.proofs.lemmas.List.{get_or-replicate}
use Rattle.lists.specs.Search.{any, member}
use Rattle.lists.specs.Lengths.{bit}
use Rattle.lists.specs.Members.{member-end-same, member-end-other}
use Rattle.client.specs.View.{rows}
use Rattle.client.specs.Rows.{rows_snoc}

-- a byte for each block of the largest store
abbrev pub marks_room : ℕ
marks_room = 4096

-- A byte for each block says whether it is in a list
abbrev pub Marked : List ℕ → List ℕ → Type 0
Marked xs marks = (b : ℕ) → b < marks_room → get_or marks b 0 ≡ bit (member b xs)

pub bit-yes : (t : Bool) → bit t ≡ 1 → t ≡ true
unfolding bit
bit-yes true e = refl
bit-yes false e = absurd (omega arith)

pub bit-no : (t : Bool) → (bit t ≡ 1 → ⊥) → t ≡ false
unfolding bit
bit-no true n = absurd (n refl)
bit-no false n = refl

pub marked-none : Marked [] (replicate marks_room 0)
unfolding member any bit
marked-none b l = get_or-replicate marks_room b 0 0 l

pub marked_more : (g : ℕ → ℕ) (i : ℕ) (marks : List ℕ) → length marks ≡ marks_room → g i < marks_room → Marked (rows g i) marks → Marked (rows g (i + 1)) (set marks (g i) 1)
unfolding bit
marked_more g i marks size l r b h = rw (rows_snoc g i) (go (ℕ_discrete b (g i)))
  where
    go : Dec (b ≡ g i) → get_or (set marks (g i) 1) b 0 ≡ bit (member b (rows g i ++ (g i ∷ [])))
    go (yes e) = rw (e, member-end-same (g i) (rows g i)) (get_or-set_same marks (g i) 1 0 (omega arith))
    go (no n) = get_or-set_other marks (g i) b 1 0 n ∙ r b h ∙ ap bit (sym (member-end-other b (g i) (rows g i) n))
