use Rattle.std.proofs.Common.{ℕ, ◌≡◌, ◌∙◌, ap, ◌+◌, ◌-◌, ◌++◌, take, drop, length, replicate, length-drop, length-take-le, arith}
use Rattle.std.proofs.lemmas.List.{length-replicate}
use Rattle.std.proofs.lemmas.Slice.{take-put_mid, drop-put_mid}
use borrow.Rule.Slice.PartMut.{same_len_mid}
use Rattle.printing.specs.Text.{blank}
use Rattle.printing.proofs.columns.blanks.Goals as goal

pub returns : goal.returns
returns c =
    let a = c.args in
    let k : ℕ = a.at + a.n - a.at in
    let few : length (take k (drop a.at a.out.now)) ≡ a.n = omega (arith, length-take-le k (drop a.at a.out.now), length-drop a.at a.out.now) in
    let text : c.fill.new.self ≡ replicate a.n blank = c.fill.ensures.after (λ y e. e) ∙ ap (λ m. replicate m blank) few in
    let size : length c.fill.new.self ≡ a.n = c.fill.ensures.len ∙ few in
    record {
      place = omega (arith, length-replicate a.n blank);
      bytes = take-put_mid a.at k a.out.now c.fill.new.self (a.at + a.n) (omega arith) (omega arith) ∙ ap (λ t. take a.at a.out.now ++ t) text;
      behind = drop-put_mid a.at k a.out.now c.fill.new.self (a.at + a.n) (omega arith) (omega arith) (omega arith);
      size = same_len_mid a.at k a.out.now c.fill.new.self c.fill.ensures.len;
    }
