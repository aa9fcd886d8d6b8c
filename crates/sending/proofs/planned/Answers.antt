use native.Mathlib.Omega.{arith}
use Rattle.sending.specs.Plans.{first-level}
use Rattle.sending.proofs.planned.Goals as goal

pub returns : goal.returns
returns c =
    let r = c.args in
    let f = c.requires.2 in
    record {
      joined = f.joined;
      top = f.top;
      level = f.level;
      levels = c.requires.3;
      head = first-level r.c r.m.now r.q r.run f (omega (arith, f.level));
      first = c.longest-first.ensures;
      taken = c.most_taken-taken.ensures.0;
      most = c.most_taken-taken.ensures.1;
    }
