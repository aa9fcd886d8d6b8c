-- What the output's buffer holds of all that was printed, and what left it.
use Rattle.std.specs.Prelude.{◌≡◌, List, ◌++◌, ℕ, ◌+◌, ◌≤◌, ◌<◌, length, take, drop}
use Rattle.std.proofs.Common.{sym, ap, ◌∙◌, arith, length-append, drop_of_length-le}
use Rattle.std.proofs.Math.Decide.{dec_lt}
use Rattle.std.proofs.lemmas.List.{drop-append-le}
use Rattle.printing.specs.Laws.{text_room}
use Rattle.output.specs.declared.Output.{Output}

abbrev pub out_room : ℕ
out_room = 65536

-- how many bytes were printed so far: those that left, and those that the buffer holds
abbrev pub total : Output → ℕ
total o = o.gone + o.at

-- the code counts no further
abbrev pub total_most : ℕ
total_most = 18446744073709551615

-- There is room for a text; no byte is lost; and the buffer is as it was, or all of it has left
pub record Placed (o : Output) (out : List ℕ) (r : Output) (out' : List ℕ) : Type 0 where
  pub room : r.at + text_room ≤ out_room
  pub all : total r ≡ total o
  pub silent : r.silent ≡ o.silent
  pub same : 0 < r.at → (r.at ≡ o.at) × (out' ≡ out)

-- Of all that was printed so far, the first bytes have left, and the others are what the buffer holds
pub record Holds (text out : List ℕ) (o : Output) : Type 0 where
  pub all : length text ≡ total o
  pub rest : drop o.gone text ≡ take o.at out

-- ---- Laws

module _ (text out out' : List ℕ) (o r : Output) (h : Holds text out o) (all : total r ≡ total o) where
  -- all of it has left
  pub holds-none : r.at ≡ 0 → Holds text out' r
  holds-none z = record {
    all = omega (arith, h.all);
    rest = drop_of_length-le text {i = r.gone} (omega (arith, h.all)) ∙ ap (λ n. take n out') (sym z);
  }

  -- what was in the buffer is where it was, or has left
  pub holds-placed : (0 < r.at → (r.at ≡ o.at) × (out' ≡ out)) → Holds text out' r
  holds-placed same = go (dec_lt 0 r.at)
    where
      go : Dec (0 < r.at) → Holds text out' r
      go (yes l) =
          let a : r.at ≡ o.at = (same l).0 in
          let g : r.gone ≡ o.gone = omega arith in
          record { all = omega (arith, h.all); rest = ap (λ n. drop n text) g ∙ h.rest ∙ (λ i. take (sym a i) (sym (same l).1 i)) }
      go (no l) = holds-none (omega arith)

-- a text that is written behind what is in the buffer, is in it too
pub holds_more : (text more out out' : List ℕ) (o r : Output) → Holds text out o → r.gone ≡ o.gone → r.at ≡ o.at + length more → take r.at out' ≡ take o.at out ++ more → Holds (text ++ more) out' r
holds_more text more out out' o r h g a w = record {
  all = length-append text more ∙ omega (arith, h.all);
  rest = ap (λ n. drop n (text ++ more)) g ∙ drop-append-le o.gone text more (omega (arith, h.all)) ∙ ap (λ t. t ++ more) h.rest ∙ sym w;
}
