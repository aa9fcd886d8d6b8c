-- A payload at the start of a buffer becomes blocks, from the last to the first.
use Rattle.std.specs.Prelude.{◌≡◌, ℕ, zero, suc, ◌+◌, ◌-◌, ◌*◌, ◌<◌, ◌≤◌, List, ◌++◌, length, take, drop, replicate, refl}
use Rattle.std.proofs.Math.Path.{ap, sym}
use Rattle.std.proofs.Common.{subst, ◌∙◌, append_assoc, length-append, drop_of_length-le, take-take, take-add, drop-drop, drop_at}
use native.Mathlib.Omega.{arith}
use Rattle.std.proofs.Math.Decide.{dec_lt}
use Rattle.std.proofs.Math.ListN.{length-drop}
use Rattle.std.proofs.lemmas.List.{length-replicate, replicate-append-replicate, drop-append-le}
use Rattle.std.proofs.Math.Seq.{length-take-le, take-append-le, drop-append-add}
use Rattle.rules.specs.Form.Numbers.{little}
use Rattle.rules.specs.Form.Sums.{block_sum, body_of, blocks, block_count, in_blocks}
use Rattle.rules.proofs.Laws.Form.Sums.{count-le, length-in-blocks}
use Rattle.rules.proofs.Laws.Form.Numbers.{length-little}
use Rattle.contract.specs.Meets.{handed_to}
use Rattle.lists.specs.Written.{Written, followed, same_text}
use Rattle.sums.specs.Puts.{written_is}

-- block k with this body
unfoldable pub block_of : ℕ → List ℕ → List ℕ
block_of k body = body ++ little 4 (block_sum k body)

-- a body is put, and its sum behind it
pub block-put : {b d f body : List ℕ} {a e r : ℕ} (k x : ℕ) (part : List ℕ) → Written b a body d e → Written d e (little 4 x) f r → body ≡ part → length body ≡ 508 → x ≡ block_sum k body
    → Written b a (block_of k part) f (a + 512)
unfolding block_of
block-put {b} {d} {f} {body} {a} {e} {r} k x part v w same size is =
    let text : body ++ little 4 x ≡ part ++ little 4 (block_sum k part) = λ i. same i ++ little 4 ((is ∙ ap (block_sum k) same) i) in
    let end : r ≡ a + 512 = omega (arith, v.place, w.place, length-little 4 x) in
    subst (λ n. Written b a (part ++ little 4 (block_sum k part)) f n) end (same_text text (followed v w))

-- ---- Zeros behind a payload

drop-zeros : (n z : ℕ) → ◌≡◌ {A = List ℕ} (drop n (replicate z 0)) (replicate (z - n) 0)
drop-zeros zero z = let e : z ≡ z - 0 = omega arith in ap (λ k. replicate k 0) e
drop-zeros (suc n) zero = let e : 0 ≡ 0 - suc n = omega arith in ap (λ k. replicate k 0) e
drop-zeros (suc n) (suc z) = let e : z - n ≡ suc z - suc n = omega arith in drop-zeros n z ∙ ap (λ k. replicate k 0) e

-- a body is filled up with zeros as it is
body-padded : (z : ℕ) (bs : List ℕ) → body_of (bs ++ replicate z 0) ≡ body_of bs
unfolding body_of
body-padded z bs =
    let e : z + 508 ≡ 508 + z = omega arith in
    ap (take 508) (
    append_assoc bs (replicate z 0) (replicate 508 0)
    ∙ ap (λ r. bs ++ r) (replicate-append-replicate z 508 0 ∙ ap (λ n. replicate n 0) e ∙ sym (replicate-append-replicate 508 z 0))
    ∙ sym (append_assoc bs (replicate 508 0) (replicate z 0))
    )
    ∙ take-append-le 508 (bs ++ replicate 508 0) (replicate z 0) (omega (arith, length-append bs (replicate 508 0), length-replicate {A = ℕ} 508 0))

drop-padded : (z : ℕ) (bs : List ℕ) → (y : ℕ) × (drop 508 (bs ++ replicate z 0) ≡ drop 508 bs ++ replicate y 0)
drop-padded z bs = go (dec_lt (length bs) 508)
  where
    go : Dec (length bs < 508) → (y : ℕ) × (drop 508 (bs ++ replicate z 0) ≡ drop 508 bs ++ replicate y 0)
    go (yes l) =
        let e : 508 ≡ length bs + (508 - length bs) = omega arith in (
          z - (508 - length bs),
          ap (λ n. drop n (bs ++ replicate z 0)) e ∙ drop-append-add bs (replicate z 0) (508 - length bs) ∙ drop-zeros (508 - length bs) z
              ∙ sym (ap (λ r. r ++ replicate (z - (508 - length bs)) 0) (drop_of_length-le bs {i = 508} (omega arith))),
        )
    go (no l) = (z, drop-append-le 508 bs (replicate z 0) (omega arith))

-- "the rest of the last block is zeros": they may stand behind the payload before it is cut
blocks-padded : (n k z : ℕ) (bs : List ℕ) → blocks n k (bs ++ replicate z 0) ≡ blocks n k bs
unfolding blocks
blocks-padded zero k z bs = refl
blocks-padded (suc n) k z bs =
    let d = drop-padded z bs in
    rw (body-padded z bs, d.1, blocks-padded n (suc k) d.0 (drop 508 bs))

-- ---- One block more

-- a part of the first elements
part_of : (n m : ℕ) (l : List ℕ) → n ≤ length l → drop n (take (n + m) l) ≡ take m (drop n l)
part_of n m l h = ap (drop n) (take-add n m l) ∙ drop_at (take n l) (take m (drop n l)) n (length-take-le n l h)

-- where the blocks from block k on are done: t is what the buffer had before, b what it has
pub record Spread (t : List ℕ) (count k : ℕ) (b : List ℕ) : Type 0 where
  pub few : k ≤ count
  pub size : length b ≡ length t
  pub front : take (k * 508) b ≡ take (k * 508) t
  pub done : drop (k * 512) b ≡ blocks (count - k) k (drop (k * 508) (take (count * 508) t)) ++ drop (count * 512) t

pub spread_at : {t b : List ℕ} {count j k : ℕ} → j ≡ k → Spread t count j b → Spread t count k b
spread_at {t} {b} {count} e s = subst (λ n. Spread t count n b) e s

module _ (t : List ℕ) (count : ℕ) where
  pub spread_none : Spread t count count t
  unfolding blocks
  spread_none = let e : count - count ≡ 0 = omega arith in record { few = omega arith; size = refl; front = refl; done = rw e }

  pub spread-all : (b : List ℕ) → Spread t count 0 b → b ≡ blocks count 0 (take (count * 508) t) ++ drop (count * 512) t
  spread-all b s = let e : count - 0 ≡ count = omega arith in rw e at s.done

  module _ (j : ℕ) (b d : List ℕ) (long : count * 512 ≤ length t) (s : Spread t count (j + 1) b) where
    abbrev p : List ℕ
    p = take (count * 508) t

    abbrev body : List ℕ
    body = take 508 (drop (j * 508) b)

    next : (j + 1) * 508 ≡ j * 508 + 508
    next = omega arith

    first : take (j * 508 + 508) b ≡ take (j * 508 + 508) p
    first =
        ap (λ n. take n b) (sym next) ∙ s.front ∙ ap (λ n. take n t) next
        ∙ sym (take-take (j * 508 + 508) (count * 508) t (omega (arith, s.few)))

    body_is : body ≡ take 508 (drop (j * 508) p)
    body_is =
        let l : length p ≡ count * 508 = length-take-le (count * 508) t (omega arith) in
        sym (part_of (j * 508) 508 b (omega (arith, s.size, s.few))) ∙ ap (drop (j * 508)) first ∙ part_of (j * 508) 508 p (omega (arith, l, s.few))

    whole : body_of (drop (j * 508) p) ≡ take 508 (drop (j * 508) p)
    unfolding body_of
    whole =
        let l : length p ≡ count * 508 = length-take-le (count * 508) t (omega arith) in
        take-append-le 508 (drop (j * 508) p) (replicate 508 0) (omega (arith, l, length-drop (j * 508) p, s.few))

    block-is : blocks (count - j) j (drop (j * 508) p) ≡ block_of j body ++ blocks (count - (j + 1)) (j + 1) (drop ((j + 1) * 508) p)
    unfolding blocks block_of
    block-is =
        let e : count - j ≡ suc (count - (j + 1)) = omega (arith, s.few) in
        let k : suc j ≡ j + 1 = omega arith in
        ap (λ n. blocks n j (drop (j * 508) p)) e
        ∙ (λ i. ((whole ∙ sym body_is) i ++ little 4 (block_sum j ((whole ∙ sym body_is) i))) ++ blocks (count - (j + 1)) (k i) ((drop-drop 508 (j * 508) p ∙ ap (λ n. drop n p) (sym next)) i))

    -- block j gets its body and its sum
    pub spread-more : Written b (j * 512) (block_of j (take 508 (drop (j * 508) b))) d (j * 512 + 512) → Spread t count j d
    spread-more w =
        let n : (j + 1) * 512 ≡ j * 512 + 512 = omega arith in
        let l : length (take (j * 512) b) ≡ j * 512 = length-take-le (j * 512) b (omega (arith, s.few, s.size)) in
        record {
          few = omega (arith, s.few);
          size = w.size ∙ s.size;
          front =
              sym (take-take (j * 508) (j * 512 + 512) d (omega arith)) ∙ ap (take (j * 508)) w.bytes
              ∙ take-append-le (j * 508) (take (j * 512) b) (block_of j body) (omega (arith, l)) ∙ take-take (j * 508) (j * 512) b (omega arith)
              ∙ sym (take-take (j * 508) ((j + 1) * 508) b (omega arith)) ∙ ap (take (j * 508)) s.front ∙ take-take (j * 508) ((j + 1) * 508) t (omega arith);
          done =
              ap (drop (j * 512)) (written_is w ∙ append_assoc (take (j * 512) b) (block_of j body) (drop (j * 512 + 512) b))
              ∙ drop_at (take (j * 512) b) (block_of j body ++ drop (j * 512 + 512) b) (j * 512) l
              ∙ ap (λ r. block_of j body ++ r) (ap (λ m. drop m b) (sym n) ∙ s.done)
              ∙ sym (append_assoc (block_of j body) (blocks (count - (j + 1)) (j + 1) (drop ((j + 1) * 508) p)) (drop (count * 512) t))
              ∙ ap (λ r. r ++ drop (count * 512) t) (sym block-is);
        }

-- ---- All of them

-- the n bytes of b, filled up with zeros and cut into blocks
pub spread-is : (b t d : List ℕ) (n e : ℕ) → block_count n * 512 ≤ length b → Written b n (replicate (block_count n * 508 - n) 0) t e → Spread t (block_count n) 0 d → d ≡ handed_to b (in_blocks (take n b))
spread-is b t d n e long w s =
    let c = block_count n in
    let le = count-le n in
    let l : length (take n b) ≡ n = length-take-le n b (omega arith) in
    let full : c * 508 ≡ e = omega (arith, w.place, length-replicate {A = ℕ} (c * 508 - n) 0) in
    let paid : take (c * 508) t ≡ take n b ++ replicate (c * 508 - n) 0 = ap (λ k. take k t) full ∙ w.bytes in
    let long_as : length (in_blocks (take n b)) ≡ c * 512 = length-in-blocks (take n b) ∙ ap (λ k. block_count k * 512) l in
    spread-all t c d s
    ∙ (λ i. (ap (blocks c 0) paid ∙ blocks-padded c 0 (c * 508 - n) (take n b) ∙ cut l) i ++ (behind full ∙ ap (λ k. drop k b) (sym long_as)) i)
  where
    cut : length (take n b) ≡ n → blocks (block_count n) 0 (take n b) ≡ in_blocks (take n b)
    cut l = unfold in_blocks in (ap (λ k. blocks (block_count k) 0 (take n b)) (sym l))

    behind : block_count n * 508 ≡ e → drop (block_count n * 512) t ≡ drop (block_count n * 512) b
    behind full =
        let k : e + (block_count n * 512 - e) ≡ block_count n * 512 = omega arith in
        ap (λ m. drop m t) (sym k) ∙ sym (drop-drop (block_count n * 512 - e) e t) ∙ ap (drop (block_count n * 512 - e)) w.behind ∙ drop-drop (block_count n * 512 - e) e b ∙ ap (λ m. drop m b) k
