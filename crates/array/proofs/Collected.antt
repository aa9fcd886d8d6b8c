-- What a collect hands out are the contents of its block, and of the array only that block changes. Collects.antt keeps the contents by it.
use Rattle.std.specs.Prelude.{◌≡◌, Bool, ◌&&◌, List, ℕ, ◌<◌, eqb, if◌then◌else◌}
use Rattle.std.proofs.Math.Path.{refl, sym}
use Rattle.std.proofs.Common.{◌∙◌, arith}
use Rattle.std.proofs.Math.Bool.{true, false, not}
use Rattle.std.proofs.Math.Option.{some}
use Rattle.lists.specs.All.{any-all}
use Rattle.lists.specs.Members.{member-mem, not-member}
use Rattle.lists.specs.Search
use Rattle.lists.specs.Tables.{put, put_same, put_other}
use Rattle.rules.specs.Blocks
use Rattle.rules.specs.Collect.{finished}
use Rattle.rules.specs.Completion.{is_command}
use Rattle.rules.specs.State.{State, cmd, read, write, Place, nowhere, stored, Request}
use Rattle.reachable.proofs.Consequences.{block-lt, finished-read, finished-aside}
use Rattle.reachable.specs.Invariant.{Reached}
use Rattle.reachable.proofs.Outstanding.{command-is}
use Rattle.array.specs.Claim.{Slots, Asked, change}
use Rattle.array.specs.Contents.{Contents}

module _ (s : State) (f : Reached s) (last has : Slots) (array : ℕ → List ℕ) (k : Contents s last has array) (r : Request) (in_hand : s.request ≡ some r)
    (done : finished s r ≡ true) where
  abbrev b : ℕ
  b = r.block

  hb : b < s.shape.N
  hb = block-lt s f r in_hand

  -- a finished request has its block's contents
  pub collected-has : Blocks.contents s b ≡ array b
  unfolding Blocks.contents Blocks.is_nowhere
  collected-has = go (s.place b) refl (Search.member b s.waiting) refl
    where
      same : (ℓ m i j : ℕ) → ℓ ≡ m → i ≡ j → stored ℓ i ≡ stored m j
      same ℓ m i j v w = rw (v, w)

      go : (x : Place) → s.place b ≡ x → (t : Bool) → Search.member b s.waiting ≡ t → (if Blocks.is_nowhere x && not t then Blocks.zeros s else s.bytes b) ≡ array b
      go nowhere e true m = k.values.waiting b hb (member-mem b s.waiting m)
      go nowhere e false m = k.absent b hb e (not-member b s.waiting m)
      go (stored ℓ i) e t m = k.values.known b ℓ i hb e (λ z. omega (arith, z, finished-read s f r ℓ i in_hand done e))
          (λ z. let x = any-all (is_command (cmd read (s.partition b) ℓ i)) (finished-aside s f r in_hand done) z in
          let w = (command-is (cmd read (s.partition b) ℓ i) x.0 x.1.0).1 in
          (x.1.1 (sym w.0)).1 (e ∙ same ℓ x.0.level i x.0.slot w.1 w.2))

  abbrev pub asked : Asked
  asked = record { kind = r.kind; block = r.block; bytes = r.bytes }

  abbrev array' : ℕ → List ℕ
  array' = change (some asked) array

  pub array-other : (x : ℕ) → ¬ (x ≡ b) → array' x ≡ array x
  unfolding change
  array-other x n = go (eqb r.kind write)
    where
      go : (t : Bool) → (if t then put b r.bytes array else array) x ≡ array x
      go true = put_other b r.bytes array x n
      go false = refl

  pub array_same : (if eqb r.kind write then r.bytes else Blocks.contents s b) ≡ array' b
  unfolding change
  array_same = go (eqb r.kind write)
    where
      go : (t : Bool) → (if t then r.bytes else Blocks.contents s b) ≡ (if t then put b r.bytes array else array) b
      go true = sym (put_same b r.bytes array)
      go false = collected-has
