use Rattle.exports.specs.Paged.{small, paged}
use Rattle.exports.proofs.rinwolfedd_page.Goals as goal

pub tell-requires : goal.tell-requires
tell-requires c =
    let a = c.args in
    let s = c.in-Some in
    let w = s.ensures.cases in
    small s.state.now a.memory.now a.buffer.now c.decode-c.result c.write.result c.write.new.out (rw w.same w.long) (rw (← c.decode-c.ensures) c.write.ensures)

pub returns : goal.returns
returns c =
    let a = c.args in
    let s = c.in-Some in
    let w = s.ensures.cases in
    rw (← w.same) (paged s.state.now a.memory.now a.buffer.now c.decode-c.result c.write.result c.write.new.out (rw w.same w.long) (rw (← c.decode-c.ensures) c.write.ensures) c.tell.result c.tell.ensures)
