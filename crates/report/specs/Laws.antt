-- A page has P + 1 lines of 28 characters and a newline, and no figure outgrows its columns.
use Rattle.std.specs.Prelude.{◌≡◌, Bool, true, false, get_or, take, drop, leb}
use Rattle.std.proofs.Math.Path.{refl, sym}
use Rattle.std.proofs.Common.{ap, ◌∙◌, arith, take-append-drop, take_at}
use mathlib.Core.List.{List, [], ◌∷◌, ◌++◌}
use Rattle.std.proofs.Math.Option.{Option, none, some}
use Prim.Native.Nat.{ℕ, zero, suc, ◌+◌, ◌*◌, ◌≤◌, ◌<◌}
use Rattle.std.proofs.Math.ListN.{length, length-append}
use Rattle.std.proofs.Math.Pow.{pow_mono}
use borrow.Author.Tests.{le-leb, lt-leb}
use Rattle.lists.specs.All.{All, nil, cons}
use Rattle.lists.specs.Search.{any, member}
use Rattle.lists.specs.Lengths.{keep-le}
use Rattle.rules.specs.State.{State, Request}
use Rattle.rules.specs.Memory.{needed}
use Rattle.rules.specs.Questions.{ready, first_no}
use Rattle.rules.specs.Figures.{nowhere_blocks, stored_blocks, waiting_blocks, in_partition, jobs_for, figures, all_figures}
use Rattle.rules.proofs.Laws.Figures.{places-add, jobs-class}
use Rattle.rules.proofs.Laws.Levels.{queued-le}
use Rattle.rules.specs.Laws.Range.{InRange, JobsIn}
use Rattle.rules.proofs.Laws.Kept.{given-in}
use Rattle.memory.specs.Fits.{Fits, fits}
use Rattle.client.specs.declared.Client.{Client}
use Rattle.client.specs.View.{view, state_of}
use Rattle.counting.specs.Counts.{most_partitions, entry_at, Counted}
use Rattle.printing.specs.Columns.{line_length, partition_line, last_line}
use Rattle.printing.specs.Widths.{Line28, partition-line, last_line_lem, line-length}
use Rattle.lists.specs.Written.{Written}
use Rattle.report.specs.Page.{partition_lines, page, page_room, shown, page_questions, page_number, Shows}

module _ (s : State) where
  in-le : (q : ℕ) (bs : List ℕ) → in_partition s q bs ≤ length bs
  unfolding in_partition
  in-le q bs = keep-le _ bs

  jobs-le : (q : ℕ) → jobs_for s q ≤ length s.queue
  unfolding jobs_for
  jobs-le q = queued-le s.queue q

-- with or without a request in hand
queue-le : (qs : List ℕ) (r : Option Request) → JobsIn qs r → length qs ≤ 64
queue-le qs none h = h
queue-le qs (some r) h = omega arith

module _ (s : State) (f : InRange s) where
  bounds : Fits s.shape (needed s.shape)
  bounds = fits s.shape (needed s.shape) f.shape (omega arith)

  -- ---- Each figure has at most four digits

  pub figures-fit : (q : ℕ) → q < s.shape.P → All (λ n. n < 10000) (figures s q)
  unfolding figures
  figures-fit q h =
      let counter : s.counter q < 10000 = omega (arith, f.counters q h, pow_mono {i = s.shape.L} {j = 8} bounds.levels) in
      let stored : in_partition s q (stored_blocks s) < 10000 = omega (arith, in-le s q (stored_blocks s), places-add s, bounds.blocks) in
      let waiting : in_partition s q (waiting_blocks s) < 10000 = omega (arith, in-le s q (waiting_blocks s), places-add s, bounds.blocks) in
      let queued : jobs_for s q < 10000 = omega (arith, jobs-le s q, queue-le s.queue s.request f.jobs) in
      cons counter (cons stored (cons waiting (cons queued nil)))

  pub all-figures-fit : All (λ n. n < 10000) (all_figures s)
  unfolding all_figures
  all-figures-fit =
      let nowhere : length (nowhere_blocks s) < 10000 = omega (arith, places-add s, bounds.blocks) in
      let stored : length (stored_blocks s) < 10000 = omega (arith, places-add s, bounds.blocks) in
      let waiting : length (waiting_blocks s) < 10000 = omega (arith, places-add s, bounds.blocks) in
      cons nowhere (cons stored (cons waiting nil))

  -- ---- "28 characters and a newline"

  pub each_line : (q : ℕ) → q < s.shape.P → Line28 (partition_line q (figures s q))
  unfolding figures
  each_line q h = partition-line q _ _ _ _ (omega (arith, bounds.partitions))

  pub end_line : Line28 (last_line (all_figures s))
  unfolding all_figures
  end_line = last_line_lem _ _ _

  pub lines-length : (n : ℕ) → n ≤ s.shape.P → length (partition_lines s n) ≡ line_length * n
  unfolding partition_lines
  lines-length zero h = refl
  lines-length (suc q) h = length-append (partition_lines s q) (partition_line q (figures s q)) ∙ omega (arith, lines-length q (omega arith), line-length _ (each_line q (omega arith)))

  pub page-length : length (page s) ≡ line_length * (s.shape.P + 1)
  unfolding page
  page-length = length-append (partition_lines s s.shape.P) (last_line (all_figures s)) ∙ omega (arith, lines-length s.shape.P (omega arith), line-length _ end_line)

-- by the client's number
pub client-page-length : (c : Client) (m : List ℕ) → InRange (state_of c m) → length (page (state_of c m)) ≡ line_length * (c.shape.p + 1)
unfolding state_of view
client-page-length c m f = page-length (state_of c m) f

-- the longest: 64 partitions
pub page-le : (s : State) (memory : ℕ) → ready s memory ≡ true → length (page s) ≤ page_room
page-le s memory e = let f = given-in s memory e in omega (arith, page-length s f, (bounds s f).partitions)

-- ---- The figures as they are counted

module _ (s : State) (t : List ℕ) (k : Counted s t) where
  pub line-figures : (q : ℕ) → q < most_partitions → figures s q ≡ s.counter q ∷ get_or t (entry_at 1 q) 0 ∷ get_or t (entry_at 2 q) 0 ∷ get_or t (entry_at 3 q) 0 ∷ []
  unfolding figures in_partition
  line-figures q h = λ i. s.counter q ∷ sym (k.stored.each q h) i ∷ sym (k.waiting.each q h) i ∷ (jobs-class s q ∙ sym (k.queued.each q h)) i ∷ []

  pub end-figures : all_figures s ≡ get_or t (entry_at 0 most_partitions) 0 ∷ get_or t (entry_at 1 most_partitions) 0 ∷ get_or t (entry_at 2 most_partitions) 0 ∷ []
  unfolding all_figures
  end-figures = λ i. sym k.nowhere.all i ∷ sym k.stored.all i ∷ sym k.waiting.all i ∷ []

  module _ (f : InRange s) where
    pub line_small : (q : ℕ) → q < s.shape.P → (s.counter q < 10000) × (get_or t (entry_at 1 q) 0 < 10000) × (get_or t (entry_at 2 q) 0 < 10000) × (get_or t (entry_at 3 q) 0 < 10000)
    line_small q h = four (rw (line-figures q (omega (arith, (bounds s f).partitions))) at (figures-fit s f q h))
      where
        four : {a b c d : ℕ} → All (λ n. n < 10000) (a ∷ b ∷ c ∷ d ∷ []) → (a < 10000) × (b < 10000) × (c < 10000) × (d < 10000)
        four (cons u (cons v (cons w (cons x nil)))) = (u, v, w, x)

    pub end-small : (get_or t (entry_at 0 most_partitions) 0 < 10000) × (get_or t (entry_at 1 most_partitions) 0 < 10000) × (get_or t (entry_at 2 most_partitions) 0 < 10000)
    end-small = three (rw end-figures at (all-figures-fit s f))
      where
        three : {a b c : ℕ} → All (λ n. n < 10000) (a ∷ b ∷ c ∷ []) → (a < 10000) × (b < 10000) × (c < 10000)
        three (cons u (cons v (cons w nil))) = (u, v, w)

-- ---- A text at the start of a buffer

pub written-first : (b t b' : List ℕ) (k : ℕ) → Written b 0 t b' k → b' ≡ t ++ drop k b
written-first b t b' k w = sym (take-append-drop k b') ∙ (λ i. w.bytes i ++ w.behind i)

-- ---- The answer

module _ (s : State) (memory : ℕ) (b : List ℕ) where
  -- refused: nothing is written
  pub shows-unready : ready s memory ≡ false → Shows s memory b 2 0 b
  unfolding page_number page_questions first_no
  shows-unready e = record { asked = rw e; accepted = λ z. absurd (omega arith); refused = λ n. (refl, refl) }

  pub shows-short : ready s memory ≡ true → length b < length (page s) → Shows s memory b 15 0 b
  unfolding page_number page_questions first_no
  shows-short e l = record { asked = rw (e, lt-leb (length (page s)) (length b) l); accepted = λ z. absurd (omega arith); refused = λ n. (refl, refl) }

  -- written
  pub shows-page : ready s memory ≡ true → length (page s) ≤ length b → (b' : List ℕ) (k : ℕ) → Written b 0 (page s) b' k → Shows s memory b 0 k b'
  unfolding page_number page_questions first_no
  shows-page e l b' k w = record { asked = rw (e, le-leb (length (page s)) (length b) l); accepted = λ z. (omega (arith, w.place), written-first b (page s) b' k w); refused = λ n. absurd (n refl) }

-- the numbers that it has
pub page-numbers : (s : State) (memory buffer : ℕ) → member (page_number s memory buffer) (0 ∷ 2 ∷ 15 ∷ []) ≡ true
unfolding page_number page_questions first_no member any
page-numbers s memory buffer = go (ready s memory) (leb (length (page s)) buffer)
  where
    go : (t u : Bool) → member (first_no ((t, 2) ∷ (u, 15) ∷ [])) (0 ∷ 2 ∷ 15 ∷ []) ≡ true
    go false u = refl
    go true false = refl
    go true true = refl

-- number and length are small
pub shows-small : (s : State) (memory : ℕ) (b : List ℕ) (number size : ℕ) (b' : List ℕ) → Shows s memory b number size b' → (number < 16) × (size < 65536)
unfolding page_number page_questions first_no
shows-small s memory b number size b' k = go (ready s memory) (leb (length (page s)) (length b)) refl refl
  where
    go : (t u : Bool) → ready s memory ≡ t → leb (length (page s)) (length b) ≡ u → (number < 16) × (size < 65536)
    go false u e d = let n : number ≡ 2 = k.asked ∙ rw e in (omega arith, omega (arith, (k.refused (λ z. omega arith)).0))
    go true false e d = let n : number ≡ 15 = k.asked ∙ rw (e, d) in (omega arith, omega (arith, (k.refused (λ z. omega arith)).0))
    go true true e d = let n : number ≡ 0 = k.asked ∙ rw (e, d) in (omega arith, omega (arith, (k.accepted n).0, page-le s memory e))

-- a buffer that every page fits into begins with the page that is shown, if there is one
pub shows-shown : (s : State) (memory : ℕ) (b : List ℕ) (number size : ℕ) (b' : List ℕ) → page_room ≤ length b → Shows s memory b number size b' → (size ≡ length (shown s memory)) × (take size b' ≡ shown s memory)
unfolding shown page_number page_questions first_no
shows-shown s memory b number size b' room k = go (ready s memory) refl
  where
    go : (t : Bool) → ready s memory ≡ t → (size ≡ length (shown s memory)) × (take size b' ≡ shown s memory)
    go true e =
        let n : number ≡ 0 = k.asked ∙ rw (e, le-leb (length (page s)) (length b) (omega (arith, page-le s memory e))) in
        let y = k.accepted n in
        rw e (y.0, ap (take size) y.1 ∙ take_at (page s) (drop size b) size (sym y.0))
    go false e =
        let n : number ≡ 2 = k.asked ∙ rw e in
        let y = k.refused (λ z. omega arith) in
        rw e (y.0, ap (λ n. take n b') y.0)
