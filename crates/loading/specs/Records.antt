-- The records of a form, put into the tables one after the other.
use Rattle.std.specs.Prelude.{◌≡◌, refl, List, [], ◌∷◌, ◌++◌, ℕ, ◌+◌, ◌-◌, ◌*◌, ◌/◌, ◌%◌, ◌≤◌, ◌<◌, length, take, drop, get_or}
use Rattle.std.proofs.Math.Path.{ap}
use Rattle.std.proofs.Common.{sym, ◌∙◌, append_assoc, arith, length-take, length-drop, length-append, get_or-take, get_or-drop, ext_get_or}
use Rattle.std.proofs.Math.Seq.{take-append_seam}
use Rattle.lists.specs.Search.{below, count}
use Rattle.lists.specs.Tables.{put}
use Rattle.rules.specs.Form.Payload.{Waiter}
use Rattle.rules.specs.Form.Sums.{out_of_blocks}
use Rattle.memory.specs.Tables.{Tables, with_waiting, with_blocks}
use Rattle.forms.specs.At.{bytes_at, number_at, waiter_at, each_at}
use Rattle.forms.specs.Bytes.{Whole, payload-length, payload-in}
use Rattle.forms.specs.Lists.{length-bytes, bytes-at, bytes-append, count_left, count_none}

-- a record of a block of the store, whose age has a place in the list of those that wait
abbrev pub InStore : ℕ → Waiter → Type 0
InStore n r = (r.block < n) × (r.age < n)

-- n records, the first of which is at byte a
abbrev pub records_at : List ℕ → ℕ → ℕ → ℕ → List Waiter
records_at p B n a = each_at (λ _. waiter_at p B) (λ _ _. 4 + B) (below n) a

-- ..and those from record i on, if that one is at byte a
abbrev pub records_left : List ℕ → ℕ → ℕ → ℕ → ℕ → List Waiter
records_left p B n i a = each_at (λ _. waiter_at p B) (λ _ _. 4 + B) (count i (n - i)) a

module _ (p : List ℕ) (B n i a : ℕ) where
  pub records-left : i < n → records_left p B n i a ≡ waiter_at p B a ∷ records_left p B n (i + 1) (a + (4 + B))
  unfolding each_at
  records-left l = ap (λ ks. each_at (λ _. waiter_at p B) (λ _ _. 4 + B) ks a) (count_left n i l)

  pub records-none : n ≤ i → records_left p B n i a ≡ []
  unfolding each_at
  records-none l = ap (λ ks. each_at (λ _. waiter_at p B) (λ _ _. 4 + B) ks a) (count_none n i l)

pub records-all : (p : List ℕ) (B n a : ℕ) → records_left p B n 0 a ≡ records_at p B n a
unfolding below
records-all p B n a = let e : n - 0 ≡ n = omega arith in ap (λ k. each_at (λ _. waiter_at p B) (λ _ _. 4 + B) (count 0 k) a) e

-- "Records of block, age and contents": the block waits in the place of its age, and has its contents
unfoldable pub put_record : Waiter → Tables → Tables
put_record r t = with_blocks (put r.block r.bytes t.blocks) (with_waiting (put r.age r.block t.waiting) t)

unfoldable pub put_records : List Waiter → Tables → Tables
put_records [] t = t
put_records (r ∷ rs) t = put_records rs (put_record r t)

pub records-put : (r : Waiter) (rs : List Waiter) (t : Tables) → put_records rs (put_record r t) ≡ put_records (r ∷ rs) t
unfolding put_records
records-put r rs t = refl

pub no-records : (t : Tables) → put_records [] t ≡ t
unfolding put_records
no-records t = refl

-- one record, by the numbers and bytes that are read
pub record-put : (p : List ℕ) (B at b a : ℕ) (v : List ℕ) (t t₁ t₂ : Tables) → b ≡ number_at p 2 at → a ≡ number_at p 2 (at + 2) → v ≡ bytes_at p B (at + 4)
    → t₁ ≡ with_waiting (put a b t.waiting) t → t₂ ≡ with_blocks (put b v t₁.blocks) t₁ → t₂ ≡ put_record (waiter_at p B at) t
unfolding put_record waiter_at
record-put p B at b a v t t₁ t₂ e d w k l =
    l ∙ ap (λ (x : Tables). with_blocks (put b v x.blocks) x) k ∙ (λ i. with_blocks (put (e i) (w i) t.blocks) (with_waiting (put (d i) (e i) t.waiting) t))

-- ---- All of them at once

-- each record puts its value into the place of its key
module _ {A : Type 0} (key : Waiter → ℕ) (value : Waiter → A) where
  unfoldable pub by_key : (ℕ → A) → List Waiter → ℕ → A
  by_key f [] = f
  by_key f (r ∷ rs) = by_key (put (key r) (value r) f) rs

abbrev pub by_age : (ℕ → ℕ) → List Waiter → ℕ → ℕ
by_age f rs = by_key (λ (r : Waiter). r.age) (λ (r : Waiter). r.block) f rs

abbrev pub by_block : (ℕ → List ℕ) → List Waiter → ℕ → List ℕ
by_block f rs = by_key (λ (r : Waiter). r.block) (λ (r : Waiter). r.bytes) f rs

pub records-are : (rs : List Waiter) (t : Tables) → put_records rs t ≡ with_blocks (by_block t.blocks rs) (with_waiting (by_age t.waiting rs) t)
unfolding put_records put_record by_key
records-are [] t = refl
records-are (r ∷ rs) t = records-are rs (put_record r t)

-- ---- Contents

-- bytes of the payload that are in one block lie in one piece
pub piece_is : (form : List ℕ) (n k : ℕ) → Whole form → k + n ≤ length (out_of_blocks form) → k % 508 + n ≤ 508 → take n (drop (k + k / 508 * 4) form) ≡ bytes_at (out_of_blocks form) n k
piece_is form n k w l i = ext_get_or 0 _ _ (long ∙ sym (length-bytes (out_of_blocks form) n k)) (λ j u. same j (omega (arith, long)))
  where
    fits : k + k / 508 * 4 + n ≤ length form
    fits = omega (arith, payload-length form)

    long : length (take n (drop (k + k / 508 * 4) form)) ≡ n
    long = omega (arith, fits, length-take n (drop (k + k / 508 * 4) form), length-drop (k + k / 508 * 4) form)

    same : (j : ℕ) → j < n → get_or (take n (drop (k + k / 508 * 4) form)) j 0 ≡ get_or (bytes_at (out_of_blocks form) n k) j 0
    same j u =
        let e : k + k / 508 * 4 + j ≡ k + j + (k + j) / 508 * 4 = omega arith in
        get_or-take n (drop (k + k / 508 * 4) form) j 0 u ∙ get_or-drop (k + k / 508 * 4) form j 0 ∙ ap (λ x. get_or form x 0) e
        ∙ sym (bytes-at (out_of_blocks form) n k j u ∙ payload-in form (k + j) w (omega (arith, fits)))

-- the first i bytes are there, and then a part behind them is put
pub more-there : (p : List ℕ) (k i e : ℕ) (dst v : List ℕ) → i ≤ e → e ≤ length dst → take i dst ≡ bytes_at p i k → v ≡ bytes_at p (e - i) (k + i) → take e (take i dst ++ (v ++ drop (e - i) (drop i dst))) ≡ bytes_at p e k
more-there p k i e dst v a b t w =
    let n : i + (e - i) ≡ e = omega arith in
    let l : length (take i dst ++ v) ≡ e = omega (arith, length-append (take i dst) v, ap length t, ap length w, length-bytes p i k, length-bytes p (e - i) (k + i)) in
    ap (take e) (sym (append_assoc (take i dst) v (drop (e - i) (drop i dst))))
    ∙ ap (λ m. take m ((take i dst ++ v) ++ drop (e - i) (drop i dst))) (sym l) ∙ take-append_seam (take i dst ++ v) (drop (e - i) (drop i dst))
    ∙ (λ j. t j ++ w j) ∙ bytes-append p i (e - i) k ∙ ap (λ m. bytes_at p m k) n
