-- The session's memory is enough for every shape that it serves; its host is one: a slot has the bytes last stored there; and what it prints before an open.
use Rattle.std.specs.Prelude.{◌≡◌, refl, ◌⊎◌, true, false, List, [], ℕ, suc, ◌+◌, ◌-◌, ◌*◌, ◌≤◌, ◌<◌, length, drop, leb}
use Rattle.std.proofs.Common.{ap, sym, ◌∙◌, inl, inr, suc-mul, mul-le-mul_right, mul-add, arith, length-take, length-drop, get_or-take, get_or-drop, ext_get_or, leb-true, eq-eqb, ne_eqb}
use Rattle.std.proofs.Math.Decide.{ℕ_discrete, dec_lt}
use Rattle.lists.specs.Tests.{between, every-yes, and_l}
use Rattle.rules.specs.Shape.{Shape, within, slots, cell, offset}
use Rattle.rules.specs.State.{Command, read, write, closed}
use Rattle.rules.specs.Questions.{request, turn, collect, Call}
use Rattle.rules.specs.Run.{Outcome, step}
use Rattle.rules.specs.Laws.Answers.{opens as opens_of}
use Rattle.rules.proofs.Laws.Answers.{step-number, closed-two}
use Rattle.rules.specs.Memory.{needed}
use Rattle.rules.proofs.Laws.Layout.{cell-inj}
use Rattle.rules.proofs.Laws.Levels.{two-slots}
use Rattle.memory.specs.Parts.{replaced, length-replaced, replaced-inside, part-outside}
use Rattle.session.specs.Session.{host_room, serves, memory_room, call, start, fetched, stored, answered, replied, turned, collected, gives, begun}
use Rattle.lines.specs.Lines.{Line, opens, reads, writes, turns, collects, malformed}
use Rattle.printing.specs.Text.{number_text}
use Rattle.session.specs.Answers.{Slot}
use Rattle.session.specs.Slots.{product_le, room-served, blocks-served, Spot, spot}
use Rattle.session.specs.OpenLine.{bounds}

-- "It serves N up to 64 and P × (2^(L+1) − 2) × B up to 16,384": the memory is long enough for each of these
pub served-fits : (h : Shape) → within h ≡ true → serves h ≡ true → needed h ≤ memory_room
unfolding needed within between
served-fits h w e =
    let p = (bounds h w).0 in
    let b = (bounds h w).2 in
    let s = two-slots h.L in
    let one : h.P * (slots h.L - 2) ≤ host_room = omega (arith, room-served h e, product-one (h.P * (slots h.L - 2)) h.B (some_byte h w)) in
    let cells : h.P * slots h.L ≤ host_room + 128 = omega (arith, twice h.P (slots h.L) s) in
    let blocks = product_le (h.N + 1) h.B 65 512 (omega (arith, blocks-served h e)) b in
    omega (arith, blocks-served h e)
  where
    product-one : (a b : ℕ) → 1 ≤ b → a ≤ a * b
    product-one a b l = omega (arith, product_le a 1 a b (omega arith) l)

    twice : (p s : ℕ) → 2 ≤ s → p * s ≡ p * (s - 2) + p * 2
    twice p s l = ap (λ n. p * n) (back s l) ∙ mul-add p (s - 2) 2
      where
        back : (s : ℕ) → 2 ≤ s → s ≡ (s - 2) + 2
        back s l = omega arith

    some_byte : (h : Shape) → within h ≡ true → 1 ≤ h.B
    some_byte h w = leb-true 1 h.B (and_l (leb 1 h.B) (leb h.B 512) (every-yes _ w).1.1.1.0)

-- ---- The host

-- where it is does not depend on the kind of a command
spotted : (h : Shape) (c : Command) → Slot h c → Spot h c.partition c.level c.slot
spotted h c f = spot h c.partition c.level c.slot (record { partition = f.partition; level = f.level; slot = f.slot; serves = f.serves; partitions = f.partitions; levels = f.levels; block = f.block })

-- a slot is within the host's bytes
end-le : (h : Shape) (c : Command) → Slot h c → start h c + h.B ≤ host_room
unfolding start
end-le h c f =
    let p = spotted h c f in
    omega (arith, p.bytes, p.start)

-- bytes that are put there are brought
put_same : (h : Shape) (c : Command) (host bytes : List ℕ) → Slot h c → length host ≡ host_room → length bytes ≡ h.B → fetched h c (replaced (start h c) host bytes) ≡ bytes
unfolding fetched
put_same h c host bytes f l n =
    let e = end-le h c f in
    let fits : start h c + length bytes ≤ length host = omega arith in
    let host' = replaced (start h c) host bytes in
    let size = length-take h.B (drop (start h c) host') in
    ext_get_or 0 _ bytes (omega (arith, size, length-drop (start h c) host', length-replaced (start h c) host bytes fits))
    (λ i k. let u : i < h.B = omega (arith, size) in
    get_or-take h.B (drop (start h c) host') i 0 u ∙ get_or-drop (start h c) host' i 0 ∙ replaced-inside (start h c) host bytes fits i (omega arith))

-- the same slot, of two commands
abbrev pub SameSlot : Command → Command → Type 0
SameSlot c d = (c.partition ≡ d.partition) × (c.level ≡ d.level) × (c.slot ≡ d.slot)

-- slots, counted, are different
place : Shape → Command → ℕ
place h c = c.partition * (slots h.L - 2) + offset c.level c.slot

row_same : (w q p a b : ℕ) → a < w → b < w → q * w + a ≡ p * w + b → q ≡ p
row_same w q p a b k l e = go (dec_lt q p) (dec_lt p q)
  where
    more : (q p a b : ℕ) → q < p → a < w → q * w + a ≡ p * w + b → ⊥
    more q p a b n k e = omega (arith, mul-le-mul_right w n, suc-mul q w)

    go : Dec (q < p) → Dec (p < q) → q ≡ p
    go (yes n) d = absurd (more q p a b n k e)
    go (no n) (yes m) = absurd (more p q b a m l (sym e))
    go (no n) (no m) = omega arith

place-inj : (h : Shape) (c d : Command) → Slot h c → Slot h d → place h c ≡ place h d → SameSlot c d
unfolding place offset cell
place-inj h c d f g e =
    let x = within-row c f in
    let y = within-row d g in
    let q = row_same (slots h.L - 2) c.partition d.partition _ _ x y e in
    cell-inj h c.partition d.partition c.level d.level c.slot d.slot f.level g.level f.slot g.slot
    (cells q (two-slots c.level) (two-slots d.level))
  where
    within-row : (c : Command) → Slot h c → (slots c.level - 2) + c.slot < slots h.L - 2
    within-row c f = omega (arith, (spotted h c f).spot)

    cells : c.partition ≡ d.partition → 2 ≤ slots c.level → 2 ≤ slots d.level → c.partition * slots h.L + slots c.level + c.slot ≡ d.partition * slots h.L + slots d.level + d.slot
    cells q u v =
        let r : c.partition * (slots h.L - 2) ≡ d.partition * (slots h.L - 2) = ap (λ n. n * (slots h.L - 2)) q in
        let t : c.partition * slots h.L ≡ d.partition * slots h.L = ap (λ n. n * slots h.L) q in
        omega arith

-- and no other slot is changed
put_other : (h : Shape) (c d : Command) (host bytes : List ℕ) → Slot h c → Slot h d → length host ≡ host_room → length bytes ≡ h.B → (SameSlot c d → ⊥)
    → fetched h d (replaced (start h c) host bytes) ≡ fetched h d host
unfolding fetched start place
put_other h c d host bytes f g l n ne =
    part-outside (start h c) host bytes (omega (arith, end-le h c f)) (start h d) h.B (λ i k. apart (dec_lt (place h d) (place h c)) i k)
  where
    apart : Dec (place h d < place h c) → (i : ℕ) → i < h.B → start h d + i < start h c ⊎ (start h c + length bytes ≤ start h d + i)
    apart (yes m) i k = inl (omega (arith, mul-le-mul_right h.B m, suc-mul (place h d) h.B))
    apart (no m) i k = inr (omega (arith, mul-le-mul_right h.B (above m), suc-mul (place h c) h.B))
      where
        above : ¬ (place h d < place h c) → suc (place h c) ≤ place h d
        above m = let no : place h c ≡ place h d → ⊥ = λ e. ne (place-inj h c d f g e) in omega arith

-- a slot has the bytes last stored there
pub fetched-same : (h : Shape) (o : Outcome) (host : List ℕ) → Slot h o.command → length host ≡ host_room → o.command.kind ≡ write → length o.bytes ≡ h.B → fetched h o.command (stored h o host) ≡ o.bytes
unfolding stored
fetched-same h o host f l w n = rw (eq-eqb o.command.kind write w) (put_same h o.command host o.bytes f l n)

-- and keeps them unless a write to it is completed
pub fetched-other : (h : Shape) (o : Outcome) (d : Command) (host : List ℕ) → Slot h o.command → Slot h d → length host ≡ host_room → (o.command.kind ≡ write → (length o.bytes ≡ h.B) × (SameSlot o.command d → ⊥))
    → fetched h d (stored h o host) ≡ fetched h d host
unfolding stored
fetched-other h o d host f g l other = go (ℕ_discrete o.command.kind write)
  where
    go : Dec (o.command.kind ≡ write) → fetched h d (stored h o host) ≡ fetched h d host
    go (yes w) = rw (eq-eqb o.command.kind write w) (put_other h o.command d host o.bytes f g l (other w).0 (other w).1)
    go (no n) = rw (ne_eqb o.command.kind write n)

-- ---- "Before an accepted O the other lines print 2"

two : (c : Call) → opens_of c.ask ≡ false → (step closed c).1.number ≡ 2
two c e = step-number closed c ∙ closed-two c e

pub before-open : (host ws : List ℕ) (l : Line) → (l ≡ malformed → ⊥) → ((h : Shape) → l ≡ opens h → ⊥) → gives (begun host ws) l ≡ (begun host ws, number_text 2)
unfolding gives replied turned collected answered begun opens_of
before-open host ws (opens h) m n = absurd (n h refl)
before-open host ws (reads b) m n = rw (two (call (request read b []) memory_room ws 0) refl)
before-open host ws (writes b bs) m n = rw (two (call (request write b bs) memory_room ws 0) refl)
before-open host ws turns m n = rw (two (call turn memory_room ws closed.shape.B) refl)
before-open host ws collects m n = rw (two (call collect memory_room ws closed.shape.B) refl)
before-open host ws malformed m n = absurd (m refl)
