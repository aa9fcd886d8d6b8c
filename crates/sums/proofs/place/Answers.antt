use Rattle.std.proofs.Common.{◌≡◌, ◌+◌, ◌-◌, ◌*◌, take, drop, ap, ◌∙◌, arith}
use Rattle.lists.specs.Written.{same_text}
use Rattle.sums.specs.Words.{little-four}
use Rattle.sums.specs.Spread.{block-put}
use Rattle.sums.proofs.place.Goals as goal

pub returns : goal.returns
returns c =
    let a = c.args in
    let size : a.k * 508 + 508 - a.k * 508 ≡ 508 = omega arith in
    block-put a.k c.sum-s.result (take 508 (drop (a.k * 508) a.buffer.now)) c.copy-end.ensures (same_text (c.to_le_bytes.ensures ∙ little-four c.sum-s.result) c.copy.ensures) (c.copy_from_slice.ensures.after ∙ ap (λ n. take n (drop (a.k * 508) a.buffer.now)) size) (omega arith) c.sum-s.ensures
