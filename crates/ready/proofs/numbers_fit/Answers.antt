use mathlib.Core.Path.{◌≡◌, ap, sym, ◌∙◌}
use mathlib.Core.Bool.{true, false, ◌&&◌}
use native.Mathlib.Omega.{arith}
use lib.ListN.{length}
use Rattle.rules.specs.Questions.{ready}
use Rattle.memory.specs.Tables.{Tables, tables_of}
use Rattle.memory.specs.Fits.{shape_of, fits}
use Rattle.client.specs.Moves.{Room}
use Rattle.client.specs.View.{state_of}
use Rattle.client.specs.Ready.{counts_fit, hand_fits, own_waits, counts-facts}
use Rattle.ready.specs.Usable.{ready-is, part-within, part-long, places-le}
use Rattle.ready.proofs.numbers_fit.Goals as goal
use Rattle.ready.proofs.numbers_fit.Goals.{Else-not-counts_fit, Start}

room : (s : Start) → Room s.args.c s.args.m.now
room s = fits _ _ (part-within s.args.c s.args.m.now s.requires) (part-long s.args.c s.args.m.now s.requires)

abbrev tables : Start → Tables
tables s = tables_of (shape_of s.args.c.shape) s.args.m.now

-- the question, by its parts
parts : (s : Start) → let a = s.args in ready (state_of a.c a.m.now) (length a.m.now) ≡ (counts_fit a.c && hand_fits a.c (own_waits a.c (tables s)))
parts s = let a = s.args in ready-is a.c a.m.now (part-within a.c a.m.now s.requires) (part-long a.c a.m.now s.requires)

counted : (c : Else-not-counts_fit) → counts_fit c.args.c ≡ true
counted c = sym c.counts_fit.ensures ∙ c.if-not-counts_fit.false

pub counts_fit-requires : goal.counts_fit-requires
counts_fit-requires c = (room (goal.at.counts_fit-requires c).Start).levels

pub returns-then-not-counts_fit : goal.returns-then-not-counts_fit
returns-then-not-counts_fit c =
    let no : counts_fit c.args.c ≡ false = sym c.counts_fit.ensures ∙ c.if-not-counts_fit.true in
    sym (parts (goal.at.returns-then-not-counts_fit c).Start ∙ ap (λ t. t && hand_fits c.args.c (own_waits c.args.c (tables (goal.at.returns-then-not-counts_fit c).Start))) no)

pub hand_fits-requires : goal.hand_fits-requires
hand_fits-requires c =
    let a = c.args in
    (room (goal.at.hand_fits-requires c).Start, omega (arith, (counts-facts a.c (counted c)).waiting, places-le a.c (part-within a.c a.m.now c.requires)))

pub returns : goal.returns
returns c = c.hand_fits.ensures ∙ sym (parts (goal.at.returns c).Start ∙ rw (counted (goal.at.returns c).Else-not-counts_fit))
