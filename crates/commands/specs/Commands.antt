-- The outstanding commands in their two tables.
use Rattle.std.specs.Prelude.{◌≡◌, refl, Bool, true, false, ◌&&◌, List, [], ◌∷◌, ◌++◌, ℕ, ◌+◌, ◌-◌, ◌*◌, ◌%◌, ◌≤◌, ◌<◌, take, eqb, ltb, if◌then◌else◌}
use Rattle.std.proofs.Common.{ap, ◌∙◌, subst, arith, pow_mono, eqb-true, eq-eqb, lt-ltb, le-ltb}
use Rattle.std.proofs.Math.Path.{sym, fun_ext}
use Rattle.std.proofs.Math.Bool.{and_assoc}
use Rattle.std.proofs.Math.Decide.{ℕ_discrete, dec_lt}
use Rattle.lists.specs.Tests.{and_l, and_r, and-true, both_true}
use Rattle.lists.specs.Search.{any}
use Rattle.lists.specs.Tables.{put, put_same, put_other}
use Rattle.rules.specs.Shape as R
use Rattle.rules.specs.Shape.{slots}
use Rattle.rules.specs.State.{Command, cmd, read, write}
use Rattle.rules.specs.Setters.{set_outstanding}
use Rattle.rules.specs.Completion.{is_command}
use Rattle.rules.specs.Turn.{send}
use Rattle.memory.specs.declared.Shape.{Shape}
use Rattle.memory.specs.Tables.{Tables, tables_of, with_kinds, with_spots}
use Rattle.memory.specs.Stored.{table-lt}
use Rattle.memory.specs.declared.tables.Table.TheVariants as table
use Rattle.memory.specs.Fits.{shape_of, fit, fit-in}
use Rattle.client.specs.declared.Client.{Client}
use Rattle.client.specs.View.{level_of, spot_of, command_by, rows, view, state_of, write_from}
use Rattle.client.specs.Rows.{drop_at, rows-push, rows_take, any-miss, Shifted, shifted_none, shifted-more, shifted-all}
use Rattle.rules.proofs.Laws.Layout.{offset-lt}
use Rattle.client.specs.Changes.{level-is, level-le}
use Rattle.client.specs.Ready.{command-range}
use Rattle.client.specs.Moves.{with_out, Room, Stands, stands}

abbrev pub command_in : Shape → List ℕ → ℕ → Command
command_in h m i = command_by (shape_of h) ((tables_of (shape_of h) m).kinds i) ((tables_of (shape_of h) m).spots i)

pub outstanding-is : (c : Client) (m : List ℕ) → (state_of c m).outstanding ≡ rows (command_in c.shape m) c.out
unfolding state_of view
outstanding-is c m = refl

pub all-taken : (c : Client) (m : List ℕ) → take c.out (state_of c m).outstanding ≡ (state_of c m).outstanding
all-taken c m = rw outstanding-is (rows_take (command_in c.shape m) c.out c.out (omega arith))

-- its kind, by the first of its numbers
abbrev pub kind_of : ℕ → ℕ
kind_of a = if ltb a write_from then read else write

module _ (h : Shape) (m : List ℕ) (i a : ℕ) where
  pub kind-is : a ≡ (tables_of (shape_of h) m).kinds i → (command_in h m i).kind ≡ kind_of a
  unfolding command_by
  kind-is e = rw e

  pub partition-is : (q : ℕ) → a ≡ (tables_of (shape_of h) m).kinds i → q ≡ fit h.p (a % write_from) → (command_in h m i).partition ≡ q
  unfolding command_by
  partition-is q e f = sym (rw e at f)

  -- what is read of the tables can be stored
  pub kind-lt : i < 32 → a ≡ (tables_of (shape_of h) m).kinds i → a < 65536
  kind-lt l e = rw e (table-lt (shape_of h) m table.Kinds i l)

  pub spot-lt-word : i < 32 → a ≡ (tables_of (shape_of h) m).spots i → a < 65536
  spot-lt-word l e = rw e (table-lt (shape_of h) m table.Spots i l)

-- a command by the number of its slot, slots(level) + slot
abbrev pub spot_command : ℕ → ℕ → ℕ → ℕ → Command
spot_command levels k q x = cmd k q (level_of levels x) (x - slots (level_of levels x))

pub spot-command : (levels k q ℓ i : ℕ) → ℓ < levels → i < slots ℓ → spot_command levels k q (slots ℓ + i) ≡ cmd k q ℓ i
spot-command levels k q ℓ i l u =
    let e : slots ℓ + i - slots ℓ ≡ i = omega arith in
    rw (level-is levels ℓ i l u, e)

-- equal slots have equal numbers
same_spot : (n x y : ℕ) → 2 ≤ x → 2 ≤ y → (eqb (level_of n x) (level_of n y) && eqb (x - slots (level_of n x)) (y - slots (level_of n y))) ≡ eqb x y
same_spot n x y l u = both_true _ _ there here
  where
    there : (eqb (level_of n x) (level_of n y) && eqb (x - slots (level_of n x)) (y - slots (level_of n y))) ≡ true → eqb x y ≡ true
    there e =
        let p = ap slots (eqb-true (level_of n x) (level_of n y) (and_l _ _ e)) in
        let d = eqb-true (x - slots (level_of n x)) (y - slots (level_of n y)) (and_r (eqb (level_of n x) (level_of n y)) _ e) in
        eq-eqb x y (omega (arith, level-le n x l, level-le n y u))

    here : eqb x y ≡ true → (eqb (level_of n x) (level_of n y) && eqb (x - slots (level_of n x)) (y - slots (level_of n y))) ≡ true
    here e = let q = eqb-true x y e in and-true (eq-eqb _ _ (ap (level_of n) q)) (eq-eqb _ _ (ap (λ z. z - slots (level_of n z)) q))

spot-two : (n x : ℕ) → 2 ≤ spot_of n x
unfolding spot_of
spot-two n x = go (dec_lt (fit (slots n) x) 2)
  where
    go : Dec (fit (slots n) x < 2) → 2 ≤ (if ltb (fit (slots n) x) 2 then 2 else fit (slots n) x)
    go (yes l) = rw (lt-ltb (fit (slots n) x) 2 l) (omega arith)
    go (no l) = rw (le-ltb (fit (slots n) x) 2 (omega arith)) (omega arith)

module _ (n x z : ℕ) (e : z ≡ fit (slots n) x) where
  pub spot-none : z < 2 → 2 ≡ spot_of n x
  unfolding spot_of
  spot-none l = rw (lt-ltb (fit (slots n) x) 2 (rw e at l))

  pub spot-some : 2 ≤ z → z ≡ spot_of n x
  unfolding spot_of
  spot-some l = rw (le-ltb (fit (slots n) x) 2 (rw e at l)) e

-- a command is compared by its kind, its partition and the number of its slot
pub is-command : (h : R.Shape) (k q y a x : ℕ) → 2 ≤ y → is_command (spot_command h.L k q y) (command_by h a x) ≡ (eqb k (kind_of a) && eqb q (fit h.P (a % write_from)) && eqb y (spot_of h.L x))
unfolding is_command command_by
is-command h k q y a x l =
    and_assoc (eqb k (kind_of a) && eqb q (fit h.P (a % write_from))) _ _ ∙ ap (λ t. eqb k (kind_of a) && eqb q (fit h.P (a % write_from)) && t) (same_spot h.L y (spot_of h.L x) l (spot-two h.L x))

-- the two numbers that a send stores are read as the command
stored_is : (h : R.Shape) (k q y : ℕ) → 1 ≤ k → k ≤ 2 → h.P ≤ 64 → q < h.P → 2 ≤ y → y < slots h.L → command_by h (q + write_from * (k - 1)) y ≡ spot_command h.L k q y
unfolding command_by spot_of
stored_is h k q y a b c d l u = λ z. spot_command h.L (kind-is (dec_lt k 2) z) (partition-is z) (spot_is z)
  where
    kind-is : Dec (k < 2) → kind_of (q + write_from * (k - 1)) ≡ k
    kind-is (yes e) = rw (lt-ltb (q + write_from * (k - 1)) write_from (omega arith)) (omega arith)
    kind-is (no e) = rw (le-ltb (q + write_from * (k - 1)) write_from (omega arith)) (omega arith)

    partition-is : fit h.P ((q + write_from * (k - 1)) % write_from) ≡ q
    partition-is = let e : (q + write_from * (k - 1)) % write_from ≡ q = omega arith in rw e (fit-in h.P q d)

    spot_is : (if ltb (fit (slots h.L) y) 2 then 2 else fit (slots h.L) y) ≡ y
    spot_is = rw (fit-in (slots h.L) y u, le-ltb y 2 l)

command-same : (d : Command) → is_command d d ≡ true
unfolding is_command
command-same d = rw (eq-eqb d.kind _ refl, eq-eqb d.partition _ refl, eq-eqb d.level _ refl, eq-eqb d.slot _ refl)

-- so one that has these numbers is the command
pub as-stored : (h : R.Shape) (k q y a x : ℕ) → 1 ≤ k → k ≤ 2 → h.P ≤ 64 → q < h.P → 2 ≤ y → y < slots h.L → (eqb a (q + write_from * (k - 1)) && eqb x y) ≡ true → is_command (spot_command h.L k q y) (command_by h a x) ≡ true
as-stored h k q y a x f g p d l u t =
    let e : command_by h a x ≡ spot_command h.L k q y = (λ z. command_by h (eqb-true a _ (and_l _ (eqb x y) t) z) (eqb-true x y (and_r (eqb a _) _ t) z)) ∙ stored_is h k q y f g p d l u in
    ap (is_command (spot_command h.L k q y)) e ∙ command-same _

-- no command out of range is outstanding
pub none-such : (c : Client) (m : List ℕ) (k q ℓ i : ℕ) → Room c m → (q < c.shape.p → ℓ < c.shape.l → slots ℓ ≤ i) → any (is_command (cmd k q ℓ i)) (state_of c m).outstanding ≡ false
unfolding is_command
none-such c m k q ℓ i r f = rw outstanding-is (any-miss (is_command (cmd k q ℓ i)) (command_in c.shape m) c.out (λ x l. go x (is_command (cmd k q ℓ i) (command_in c.shape m x)) refl))
  where
    go : (x : ℕ) (t : Bool) → is_command (cmd k q ℓ i) (command_in c.shape m x) ≡ t → t ≡ false
    go x false e = refl
    go x true e =
        let d = command_in c.shape m x in
        let n = command-range (shape_of c.shape) ((tables_of (shape_of c.shape) m).kinds x) ((tables_of (shape_of c.shape) m).spots x) r.some_levels r.some_partitions in
        let a = and_l (eqb k d.kind && eqb q d.partition && eqb ℓ d.level) (eqb i d.slot) e in
        let b = and_l (eqb k d.kind && eqb q d.partition) (eqb ℓ d.level) a in
        let w = eqb-true q d.partition (and_r (eqb k d.kind) (eqb q d.partition) b) in
        let p = eqb-true ℓ d.level (and_r (eqb k d.kind && eqb q d.partition) (eqb ℓ d.level) a) in
        let s = eqb-true i d.slot (and_r (eqb k d.kind && eqb q d.partition && eqb ℓ d.level) (eqb i d.slot) e) in
        absurd (omega (arith, n.level, n.slot, ap slots p, f (omega (arith, n.partition)) (omega (arith, n.level))))

-- ---- Changes

-- the numbers that are stored say the command
pub command-is : (h : R.Shape) (k q ℓ i : ℕ) → 1 ≤ k → k ≤ 2 → h.P ≤ 64 → q < h.P → ℓ < h.L → i < slots ℓ → command_by h (q + write_from * (k - 1)) (slots ℓ + i) ≡ cmd k q ℓ i
command-is h k q ℓ i a b c d l u = stored_is h k q (slots ℓ + i) a b c d (omega (arith, pow_mono {i = 1} {j = ℓ + 1} (omega arith))) (offset-lt h.L ℓ i l u) ∙ spot-command h.L k q ℓ i l u

-- only the two tables are changed
pub out-stands : (c : Client) (m₀ m : List ℕ) (f g : ℕ → ℕ) (n : ℕ) (ds : List Command) → tables_of (shape_of c.shape) m ≡ with_spots g (with_kinds f (tables_of (shape_of c.shape) m₀)) → rows (λ i. command_by (shape_of c.shape) (f i) (g i)) n ≡ ds
    → Stands (with_out n c) m₀ m (set_outstanding ds (state_of c m₀))
unfolding state_of view tables_of
out-stands c m₀ m f g n ds e l = stands (with_out n c) m₀ m (with_spots g (with_kinds f (tables_of (shape_of c.shape) m₀))) _ e refl (ap (λ r. set_outstanding r (view c (tables_of (shape_of c.shape) m₀))) l)

-- two tables with entry i changed in both, read entry by entry
put_both : (h : R.Shape) (i a x : ℕ) (f g : ℕ → ℕ) → ◌≡◌ {A = ℕ → Command} (λ j. command_by h (put i a f j) (put i x g j)) (put i (command_by h a x) (λ j. command_by h (f j) (g j)))
put_both h i a x f g = fun_ext (λ j. go j (ℕ_discrete j i))
  where
    go : (j : ℕ) → Dec (j ≡ i) → command_by h (put i a f j) (put i x g j) ≡ put i (command_by h a x) (λ j. command_by h (f j) (g j)) j
    go j (yes e) = rw e ((λ z. command_by h (put_same i a f z) (put_same i x g z)) ∙ sym (put_same i _ _))
    go j (no n) = (λ z. command_by h (put_other i a f j n z) (put_other i x g j n z)) ∙ sym (put_other i _ _ j n)

-- a command is stored behind the others
pub sent : (c : Client) (m₀ m m' : List ℕ) (k q ℓ i : ℕ) → 1 ≤ k → k ≤ 2 → c.shape.p ≤ 64 → q < c.shape.p → ℓ < c.shape.l → i < slots ℓ
    → tables_of (shape_of c.shape) m ≡ with_kinds (put c.out (q + write_from * (k - 1)) (tables_of (shape_of c.shape) m₀).kinds) (tables_of (shape_of c.shape) m₀)
    → tables_of (shape_of c.shape) m' ≡ with_spots (put c.out (slots ℓ + i) (tables_of (shape_of c.shape) m).spots) (tables_of (shape_of c.shape) m)
    → Stands (with_out (c.out + 1) c) m₀ m' (send (cmd k q ℓ i) (state_of c m₀))
unfolding send
sent c m₀ m m' k q ℓ i a b p d l u t t' =
    let h = shape_of c.shape in
    let o = tables_of h m₀ in
    out-stands c m₀ m' _ _ (c.out + 1) _ (t' ∙ ap (λ x. with_spots (put c.out (slots ℓ + i) x.spots) x) t)
    (ap (λ g. rows g (c.out + 1)) (put_both h c.out (q + write_from * (k - 1)) (slots ℓ + i) o.kinds o.spots)
    ∙ rows-push (command_in c.shape m₀) c.out _
    ∙ (λ z. sym (outstanding-is c m₀) z ++ (command-is h k q ℓ i a b p d l u z ∷ [])))

-- of the commands from place j on, those below i are as the ones behind them were
pub record Completing (h : Shape) (m₀ m : List ℕ) (j i : ℕ) : Type 0 where
  pub kinds : ℕ → ℕ
  pub spots : ℕ → ℕ
  pub tables : tables_of (shape_of h) m ≡ with_spots spots (with_kinds kinds (tables_of (shape_of h) m₀))
  pub shifted : Shifted (command_in h m₀) (λ x. command_by (shape_of h) (kinds x) (spots x)) j i

pub completing-none : (h : Shape) (m : List ℕ) (j : ℕ) → Completing h m m j j
completing-none h m j = record { kinds = (tables_of (shape_of h) m).kinds; spots = (tables_of (shape_of h) m).spots; tables = refl; shifted = shifted_none (command_in h m) j }

pub completing-more : (h : Shape) (m₀ m m' m'' : List ℕ) (j i a x : ℕ) → j ≤ i → a ≡ (tables_of (shape_of h) m).kinds (i + 1) → x ≡ (tables_of (shape_of h) m).spots (i + 1)
    → tables_of (shape_of h) m' ≡ with_kinds (put i a (tables_of (shape_of h) m).kinds) (tables_of (shape_of h) m)
    → tables_of (shape_of h) m'' ≡ with_spots (put i x (tables_of (shape_of h) m').spots) (tables_of (shape_of h) m')
    → Completing h m₀ m j i → Completing h m₀ m'' j (i + 1)
completing-more h m₀ m m' m'' j i a x l d e t t' s = record {
  kinds = put i a s.kinds;
  spots = put i x s.spots;
  tables = t' ∙ ap (λ o. with_spots (put i x o.spots) o) (t ∙ ap (λ o. with_kinds (put i a o.kinds) o) s.tables);
  shifted = subst (λ g. Shifted (command_in h m₀) g j (i + 1)) (sym (put_both (shape_of h) i a x s.kinds s.spots))
      (rw (d ∙ ap (λ (o : Tables). o.kinds (i + 1)) s.tables, e ∙ ap (λ (o : Tables). o.spots (i + 1)) s.tables) (shifted-more _ _ j i l s.shifted));
}

pub completed : (c : Client) (m₀ m : List ℕ) (j i : ℕ) → j < c.out → c.out ≤ i + 1 → Completing c.shape m₀ m j i → Stands (with_out (c.out - 1) c) m₀ m (set_outstanding (drop_at j (state_of c m₀).outstanding) (state_of c m₀))
completed c m₀ m j i l u s =
    out-stands c m₀ m s.kinds s.spots (c.out - 1) _ s.tables (shifted-all (command_in c.shape m₀) _ j i c.out l u s.shifted ∙ ap (drop_at j) (sym (outstanding-is c m₀)))
