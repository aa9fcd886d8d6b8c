use mathlib.Core.Path.{ap, sym, ◌∙◌}
use Prim.Native.Nat.{◌+◌, ◌*◌, ◌^◌}
use native.Mathlib.Omega.{arith}
use lib.Dec.{eqb, leb, ltb}
use borrow.Author.Tests.{eq-eqb, ne_eqb, le-leb, lt-leb}
use lib.ListN.{get_or}
use Rattle.lists.specs.Search.{all}
use Rattle.lists.specs.Tests.{both_true}
use Rattle.rules.specs.Form.Loading.{loads}
use Rattle.rules.specs.Form.Sums.{out_of_blocks}
use Rattle.rules.specs.Shape.{within}
use Rattle.memory.specs.Fits.{shape_of}
use Rattle.forms.specs.Asked.{body_fits, loads-asked, loads-told, told-loads, refused}
use Rattle.forms.specs.At.{number_at, numbers_at}
use Rattle.forms.specs.Bounds.{bounds_of}
use Rattle.forms.proofs.form.is_form.Goals as goal

pub returns-then-byte-ne1 : goal.returns-then-byte-ne1
returns-then-byte-ne1 c =
    let f = c.args.form.now in
    refused (eqb (get_or (out_of_blocks f) 0 0) 1) (loads f) (ne_eqb (get_or (out_of_blocks f) 0 0) 1 (λ e. omega (arith, c.byte.ensures.0))) (λ y. eq-eqb (get_or (out_of_blocks f) 0 0) 1 (loads-asked f y).number)

pub returns-then-not-is_within : goal.returns-then-not-is_within
returns-then-not-is_within c =
    let f = c.args.form.now in
    let h = c.shape-h.result in
    refused (within (shape_of h)) (loads f) (sym c.is_within.ensures ∙ c.if-not-is_within.true) (λ y. (loads-told f (shape_of h) c.shape-h.ensures y).shape)

pub pow2-requires : goal.pow2-requires
pow2-requires c = let b = bounds_of c.shape-h.result (sym c.is_within.ensures ∙ c.if-not-is_within.false) in omega arith

pub are_below-requires : goal.are_below-requires
are_below-requires c = let b = bounds_of c.shape-h.result (sym c.is_within.ensures ∙ c.if-not-is_within.false) in omega arith

pub returns-then-not-are_below : goal.returns-then-not-are_below
returns-then-not-are_below c =
    let f = c.args.form.now in
    let h = c.shape-h.result in
    refused (all (λ x. ltb x (2 ^ h.l)) (numbers_at (out_of_blocks f) 2 h.p 13)) (loads f)
    (ap (λ z. all (λ x. ltb x z) (numbers_at (out_of_blocks f) 2 h.p 13)) (sym c.pow2.ensures.0) ∙ sym c.are_below.ensures ∙ c.if-not-are_below.true) (λ y. (loads-told f (shape_of h) c.shape-h.ensures y).counters)

pub overflow_mul-queue : goal.overflow_mul-queue
overflow_mul-queue c = let b = bounds_of c.shape-h.result (sym c.is_within.ensures ∙ c.if-not-is_within.false) in omega arith

pub overflow_add-queue : goal.overflow_add-queue
overflow_add-queue c = let b = bounds_of c.shape-h.result (sym c.is_within.ensures ∙ c.if-not-is_within.false) in omega arith

pub number-jobs-requires : goal.number-jobs-requires
number-jobs-requires c = let b = bounds_of c.shape-h.result (sym c.is_within.ensures ∙ c.if-not-is_within.false) in omega arith

pub returns-then-jobs-gt64 : goal.returns-then-jobs-gt64
returns-then-jobs-gt64 c =
    let f = c.args.form.now in
    let h = c.shape-h.result in
    let j = number_at (out_of_blocks f) 2 (13 + h.p * 2) in
    refused (leb j 64) (loads f) (lt-leb j 64 (omega (arith, c.number-jobs.ensures.0))) (λ y. le-leb j 64 (loads-told f (shape_of h) c.shape-h.ensures y).jobs)

pub overflow_add-queue-2 : goal.overflow_add-queue-2
overflow_add-queue-2 c = let b = bounds_of c.shape-h.result (sym c.is_within.ensures ∙ c.if-not-is_within.false) in omega arith

pub are_below-requires-2 : goal.are_below-requires-2
are_below-requires-2 c = let b = bounds_of c.shape-h.result (sym c.is_within.ensures ∙ c.if-not-is_within.false) in omega arith

pub returns-then-not-are_below-2 : goal.returns-then-not-are_below-2
returns-then-not-are_below-2 c =
    let f = c.args.form.now in
    let h = c.shape-h.result in
    let j = number_at (out_of_blocks f) 2 (13 + h.p * 2) in
    let no = sym c.are_below-2.ensures ∙ c.if-not-are_below-2.true in
    refused (all (λ x. ltb x h.p) (numbers_at (out_of_blocks f) 2 j (13 + h.p * 2 + 2))) (loads f)
    (ap (λ k. all (λ x. ltb x h.p) (numbers_at (out_of_blocks f) 2 k (13 + h.p * 2 + 2))) (sym c.number-jobs.ensures.0) ∙ no) (λ y. (loads-told f (shape_of h) c.shape-h.ensures y).queue)

pub overflow_add-queue-3 : goal.overflow_add-queue-3
overflow_add-queue-3 c = let b = bounds_of c.shape-h.result (sym c.is_within.ensures ∙ c.if-not-is_within.false) in omega arith

pub overflow_add-queue-4 : goal.overflow_add-queue-4
overflow_add-queue-4 c = let b = bounds_of c.shape-h.result (sym c.is_within.ensures ∙ c.if-not-is_within.false) in omega arith

pub has_body-requires : goal.has_body-requires
has_body-requires c = let b = bounds_of c.shape-h.result (sym c.is_within.ensures ∙ c.if-not-is_within.false) in (b, omega arith)

pub returns : goal.returns
returns c =
    let f = c.args.form.now in
    let p = out_of_blocks f in
    let h = c.shape-h.result in
    let j = number_at p 2 (13 + h.p * 2) in
    let n = c.number-jobs.ensures.0 in
    let body = c.has_body.ensures ∙ ap (λ k. body_fits p (shape_of h) (13 + h.p * 2 + 2 + k * 2)) n in
    both_true c.has_body.result (loads f)
    (λ y. told-loads f (shape_of h) c.shape-h.ensures (record {
      number = sym c.byte.ensures.0 ∙ omega arith;
      shape = sym c.is_within.ensures ∙ c.if-not-is_within.false;
      counters = ap (λ z. all (λ x. ltb x z) (numbers_at p 2 h.p 13)) (sym c.pow2.ensures.0) ∙ sym c.are_below.ensures ∙ c.if-not-are_below.false;
      jobs = omega (arith, n);
      queue = ap (λ k. all (λ x. ltb x h.p) (numbers_at p 2 k (13 + h.p * 2 + 2))) (sym n) ∙ sym c.are_below-2.ensures ∙ c.if-not-are_below-2.false;
      body = sym body ∙ y;
    }))
    (λ y. body ∙ (loads-told f (shape_of h) c.shape-h.ensures y).body)
