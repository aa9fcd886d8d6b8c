use native.Mathlib.Omega.{arith}
use mathlib.Core.List.{List}
use Prim.Native.Nat.{ℕ, ◌≤◌, ◌<◌}
use mathlib.Core.Path.{◌≡◌}
use lib.ListN.{take, length, get_or}
use Rattle.std.proofs.Common.{Ok, Err, ap, ◌∙◌, length-take-le}
use Rattle.std.proofs.lemmas.List.Sorted.{searched}
use Rattle.gather.specs.Inserted.{ascending-le, spot-found, is-there, is-not, there, stored}
use Rattle.gather.proofs.insert.Goals as goal

pub returns-in-Ok : goal.returns-in-Ok
returns-in-Ok c =
    let a = c.args in
    let l = a.list.now in
    let i = c.in-Ok.field-0 in
    let xs : List ℕ = take a.k l in
    let f = searched xs a.x (Ok i) c.in-Ok.ensures.position (ascending-le xs c.requires.1) in
    let u : i < a.k = omega (arith, f.0, length-take-le a.k l (omega (arith, c.requires.0))) in
    let h : i ≤ a.k = omega arith in
    (there l a.k a.x i c.requires.0 h (spot-found a.x xs i c.requires.1 f.0 f.1) (is-there l a.k a.x i c.requires.0 h u f.1), omega arith, omega arith)

pub returns-in-Err : goal.returns-in-Err
returns-in-Err c =
    let a = c.args in
    let l = a.list.now in
    let i = c.in-Err.i in
    let xs : List ℕ = take a.k l in
    let n : length xs ≡ a.k = length-take-le a.k l (omega (arith, c.requires.0)) in
    let f = searched xs a.x (Err i) c.in-Err.ensures.position (ascending-le xs c.requires.1) in
    let w = c.copy_within.ensures in
    let h : i ≤ a.k = omega (arith, f.0, n) in
    (stored l a.k a.x i c.requires.0 h c.copy_within.new.self w.len (record { kept = λ j u. w.by_index.1 j 0 (omega arith); moved = λ j u v. w.by_index.0 j 0 (omega arith) (omega arith) ∙ ap (λ p. get_or l p 0) (omega arith) }) (record { less = f.1; others = λ j u v. omega (arith, f.2 j u v) }) (is-not l a.k a.x i c.requires.0 h (λ u. f.2 i (omega arith) (omega (arith, n)))), omega arith, omega arith)
