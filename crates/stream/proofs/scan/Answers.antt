use Rattle.std.proofs.Common.{◌≡◌, ◌+◌, ◌++◌, length, take, sym, ap, ◌∙◌, append-nil, arith, length-take-le, take_all}
use Rattle.stream.specs.Laws.{plain_more, appended}
use Rattle.stream.proofs.scan.Goals as goal

pub loop-i-init : goal.loop-i-init
loop-i-init c =
    let none : c.args.len + 0 ≡ c.args.len = omega arith in
    (omega arith, ap (λ n. take n c.args.line.now) none ∙ sym (append-nil (take c.args.len c.args.line.now)), λ j h e. absurd (omega arith))

pub returns-then-k-eq-LINE : goal.returns-then-k-eq-LINE
returns-then-k-eq-LINE c =
    let n : length (take c.args.len c.args.line.now) ≡ c.args.len = length-take-le _ _ (omega arith) in
    record { more = omega arith; plain = plain_more c.args.bytes.now c.loop-i.i _ c.loop-i.invariant.2 c.if-b-eq10.false (omega arith) }

pub loop-i-preserved : goal.loop-i-preserved
loop-i-preserved c =
    let a = c.args in
    let l = c.loop-i in
    let next : a.len + (l.i + 1) ≡ a.len + l.i + 1 = omega arith in (
      omega arith,
      rw next (appended l.line (take a.len a.line.now) a.bytes.now (a.len + l.i) l.i (omega arith) (omega arith) l.invariant.1),
      plain_more a.bytes.now l.i _ l.invariant.2 c.if-b-eq10.false (omega arith),
    )

pub returns : goal.returns
returns c =
    let a = c.args in
    let l = c.loop-i in
    let all : length a.bytes.now ≡ l.i = omega arith in
    record {
      room = omega arith;
      plain = λ j h. l.invariant.2 j (omega arith);
      text = ap (λ n. take (a.len + n) l.line) all ∙ l.invariant.1 ∙ ap (λ t. take a.len a.line.now ++ t) (take_all l.i a.bytes.now (omega arith));
    }
