use Rattle.std.specs.Prelude.{None, Some}
use Rattle.std.proofs.Common.{◌≡◌, refl, ◌*◌, ◌/◌, ◌≤◌, length, take, sym, arith}
use Rattle.std.proofs.lemmas.Result.{IfOk-weaker}
use Rattle.tape.specs.Tape.{words_of}
use Rattle.lines.specs.Lines.{tape_of}
use Rattle.session.specs.Answers.{fresh-served}
use Rattle.stream.specs.Laws.{words-first}
use Rattle.stream.proofs.begin.Goals as goal

pub returns-in-Some-clause-begun : goal.returns-in-Some-clause-begun
returns-in-Some-clause-begun g c =
    let p = c.requires.0 in
    let n = c.in-Some.k in
    let t = c.read_tape.new.tape in
    let few : n ≤ length t / 2 = omega (arith, c.in-Some.ensures.within) in
    let is : tape_of c.args.line.now ≡ Some (take n (words_of t)) = sym c.in-Some.ensures.words in
    let new = c.start-t.ensures in
    record {
      ready = record { served = rw new (fresh-served (take (n * 2) t)); tape = omega arith; from = p.from; to = p.to; len = p.len; at = p.at };
      size = omega arith;
      stays = record { from = refl; to = refl; len = refl; silent = refl };
      first = refl;
      begins = rw is (words-first n t few, new, refl, refl, refl);
    }

pub respond-requires : goal.respond-requires
respond-requires g c =
    let p = c.requires.0 in
    (record { served = rw c.start-t.ensures (fresh-served _); tape = omega arith; from = p.from; to = p.to; len = p.len; at = p.at }, c.requires.1)

pub returns-clause-begun : goal.returns-clause-begun
returns-clause-begun g c =
    let no : tape_of c.args.line.now ≡ None = sym c.in_default.ensures.words in
    IfOk-weaker c.respond.result _ _ (λ r e. record {
      ready = e.ready;
      size = e.size;
      stays = record { from = e.stays.from; to = e.stays.to; len = e.stays.len; silent = e.stays.silent };
      first = e.first;
      begins = rw no (e.tape, e.ended, rw c.start-t.ensures at e.gives);
    }) c.respond.ensures.responds
