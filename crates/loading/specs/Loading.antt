-- Load: its number, and the form by the shape that the code reads.
use Rattle.std.specs.Prelude.{◌≡◌, refl, Bool, true, false, ◌&&◌, List, [], ◌∷◌, ℕ, ◌+◌, ◌*◌, ◌%◌, ◌≤◌, eqb, leb, ltb, length, if◌then◌else◌}
use Rattle.std.proofs.Math.Path.{ap, sym}
use Rattle.std.proofs.Common.{◌∙◌, subst, arith, eqb-true, leb-true}
use Rattle.std.proofs.Math.ListN.{drop}
use Rattle.lists.specs.All.{All, all_map, all_both}
use Rattle.lists.specs.Search.{below}
use Rattle.lists.specs.Tests.{and_l, and_r}
use Rattle.rules.specs.Form.Loading.{loads, loaded_form, loaded}
use Rattle.rules.specs.Form.Numbers.{each}
use Rattle.rules.specs.Form.Payload.{Waiter}
use Rattle.rules.specs.Form.Reading.{Spot, Form}
use Rattle.rules.specs.Form.Sums.{summed, out_of_blocks}
use Rattle.rules.proofs.Laws.Asked.{loaded-idle}
use Rattle.rules.proofs.Laws.Form.Reads.{small}
use Rattle.rules.proofs.Laws.Released.{release-none}
use Rattle.rules.specs.Memory.{needed}
use Rattle.rules.specs.Questions.{load, questions, first_no, number}
use Rattle.rules.specs.Run.{act, perform}
use Rattle.rules.specs.Shape.{Shape, within}
use Rattle.rules.specs.State.{State, closed}
use Rattle.memory.specs.declared.Shape.{Shape as Numbers}
use Rattle.memory.specs.Fits.{shape_of}
use Rattle.memory.specs.Parts.{empty}
use Rattle.memory.specs.Tables.{tables_of}
use Rattle.client.specs.Moves.{resting_client, Stands, stands}
use Rattle.client.specs.View.{view}
use Rattle.contract.specs.Meets.{call_of}
use Rattle.forms.specs.Asked.{form_w, size_w, size-records, loads-facts, loads-made, loads-state}
use Rattle.forms.specs.At.{number_at, numbers_at, level_at, level_size, block_size, each_at, size_at, wait_count, shape_in}
use Rattle.forms.specs.Blocks.{blocks_at, counter_in}
use Rattle.forms.specs.Bytes.{Whole}
use Rattle.forms.specs.Cells.{PlacedIn}
use Rattle.forms.specs.Facts.{Made, Facts, unmapped}
use Rattle.forms.specs.Lists.{length-numbers}
use Rattle.forms.specs.Passes.{keys_of, keys-are}
use Rattle.loading.specs.Records.{InStore, records_at}
use Rattle.loading.specs.Restored.{put_form, restored, restored-tail}

unfoldable pub load_number : List ℕ → ℕ → ℕ
load_number form len = first_no ((summed form, 17) ∷ (loads form, 18) ∷ (leb (needed (loaded_form form).shape) len, 2) ∷ [])

pub load-number : (form m : List ℕ) → number closed (call_of (load form) m [] []) ≡ load_number form (length m)
unfolding number questions load_number
load-number form m = refl

-- where the number is 0, all answers are yes
pub load-passed : (form : List ℕ) (len : ℕ) → load_number form len ≡ 0 → (summed form ≡ true) × (loads form ≡ true) × (needed (loaded_form form).shape ≤ len)
unfolding load_number first_no
load-passed form len e = go (summed form) (loads form) (leb (needed (loaded_form form).shape) len) refl refl refl e
  where
    go : (a b c : Bool) → summed form ≡ a → loads form ≡ b → leb (needed (loaded_form form).shape) len ≡ c
        → ◌≡◌ {A = ℕ} (if a then (if b then (if c then 0 else 2) else 18) else 17) 0 → (summed form ≡ true) × (loads form ≡ true) × (needed (loaded_form form).shape ≤ len)
    go true true true x y z e = (x, y, leb-true (needed (loaded_form form).shape) len z)
    go true true false x y z e = absurd (omega arith)
    go true false c x y z e = absurd (omega arith)
    go false b c x y z e = absurd (omega arith)

pub summed-whole : (form : List ℕ) → summed form ≡ true → Whole form
unfolding summed
summed-whole form e = eqb-true (length form % 512) 0 (and_r (ltb 0 (length form)) _ (and_l (ltb 0 (length form) && eqb (length form % 512) 0) _ e))

-- its shape is the one that is read
pub loaded-shape : (form : List ℕ) → loads form ≡ true → (loaded_form form).shape ≡ shape_in (out_of_blocks form)
unfolding loaded
loaded-shape form e = ap (λ (s : State). s.shape) (loads-state form e)

-- it has no request in hand, and so none that is released
pub load-acts : (form js : List ℕ) → act closed (load form) js ≡ loaded_form form
unfolding act perform
load-acts form js = release-none (loaded_form form) (loaded-idle form)

-- ---- A form that loads, by the shape that is read and where its parts lie

abbrev pub jobs_by : List ℕ → Shape → ℕ
jobs_by p h = number_at p 2 (13 + h.P * 2)

abbrev pub from_by : List ℕ → Shape → ℕ
from_by p h = 13 + h.P * 2 + 2 + jobs_by p h * 2

abbrev pub blocks_by : List ℕ → Shape → List (ℕ × Spot)
blocks_by p h = blocks_at p h.N (from_by p h)

abbrev pub levels_by : List ℕ → Shape → ℕ
levels_by p h = from_by p h + size_at (λ _. block_size p 1) (below h.N) (from_by p h)

abbrev pub keys_by : List ℕ → Shape → List (ℕ × ℕ)
keys_by p h = each (keys_of h.L (counter_in p h.P)) (below h.P)

abbrev pub records_by : List ℕ → Shape → ℕ
records_by p h = levels_by p h + size_at (level_size 1) (keys_by p h) (levels_by p h)

abbrev form_with : List ℕ → Shape → List (ℕ × ℕ) → Form
form_with p h ks = record {
  number = number_at p 1 0;
  shape = h;
  counters = numbers_at p 2 h.P 13;
  queue = numbers_at p 2 (jobs_by p h) (13 + h.P * 2 + 2);
  blocks = blocks_by p h;
  levels = each_at (level_at p 1) (level_size 1) ks (levels_by p h);
  waiters = records_at p h.B (wait_count (blocks_by p h)) (levels_by p h + size_at (level_size 1) ks (levels_by p h));
}

unfoldable pub form_by : List ℕ → Shape → Form
form_by p h = form_with p h (keys_by p h)

pub record LoadsAs (form : List ℕ) (h : Numbers) : Type 0 where
  pub whole : Whole form
  pub loads : loads form ≡ true
  pub shape : shape_of h ≡ shape_in (out_of_blocks form)

module _ (form : List ℕ) (h : Numbers) (k : LoadsAs form h) where
  abbrev P : List ℕ
  P = out_of_blocks form

  abbrev H : Shape
  H = shape_of h

  form-by : form_w P 1 ≡ form_by P H
  unfolding form_by
  form-by = ap (form_with P (shape_in P)) (sym (keys-are (shape_in P).P (shape_in P).L (counter_in P (shape_in P).P))) ∙ ap (λ g. form_with P g (keys_by P g)) (sym k.shape)

  pub by-made : Made (form_by P H)
  by-made = subst Made form-by (loads-made form k.loads)

  pub by-facts : Facts (form_by P H) (drop (size_w P 1) P)
  by-facts = subst (λ f. Facts f (drop (size_w P 1) P)) form-by (loads-facts form k.loads).1

  pub by_state : loaded_form form ≡ loaded (form_by P H)
  by_state = loads-state form k.loads ∙ ap loaded form-by

  -- the records end in the payload
  pub by_end : records_by P H + wait_count (blocks_by P H) * (4 + h.b) ≤ length P
  by_end = subst (λ g. records_by P g + wait_count (blocks_by P g) * (4 + g.B) ≤ length P) (sym k.shape) (rw (keys-are (shape_in P).P (shape_in P).L (counter_in P (shape_in P).P)) (omega (arith, size-records P 1, (loads-facts form k.loads).0)))

  pub by-placed : All (PlacedIn H (counter_in P h.p)) (blocks_by P H)
  by-placed = unfold form_by in by-facts.placed

  pub by-jobs : jobs_by P H ≤ 64
  by-jobs = unfold form_by in omega (arith, by-facts.jobs, length-numbers P 2 (jobs_by P H) (13 + h.p * 2 + 2))

  -- no more than all blocks wait
  pub by-waiting : wait_count (blocks_by P H) ≤ h.n
  by-waiting = unfold form_by in omega (arith, by-facts.waiting, (small H by-facts.shape).cache)

  pub by-records : All (InStore h.n) (records_at P h.b (wait_count (blocks_by P H)) (records_by P H))
  by-records = unfold form_by in all_map (λ r v. (v.0.0, omega (arith, v.1, by-made.waiters, by-waiting))) (all_both (unmapped (λ (r : Waiter). r.block) _ by-facts.names_in) (unmapped (λ (r : Waiter). r.age) _ by-facts.ages_in))

  -- where the levels begin, and the records
  pub levels-as : (jobs levels : ℕ) → jobs ≡ jobs_by P H → levels ≡ 13 + h.p * 2 + 2 + jobs * 2 + size_at (λ _. block_size P 1) (below h.n) (13 + h.p * 2 + 2 + jobs * 2) → levels ≡ levels_by P H
  levels-as jobs levels e d = d ∙ ap (λ j. 13 + h.p * 2 + 2 + j * 2 + size_at (λ _. block_size P 1) (below h.n) (13 + h.p * 2 + 2 + j * 2)) e

  pub records-as : (levels a : ℕ) → levels ≡ levels_by P H → a ≡ levels + size_at (level_size 1) (keys_by P H) levels → a ≡ records_by P H
  records-as levels a e d = d ∙ ap (λ l. l + size_at (level_size 1) (keys_by P H) l) e

  pub by-within : within H ≡ true
  by-within = unfold form_by in by-facts.shape

  pub by-needed : (len : ℕ) → needed (loaded_form form).shape ≤ len → needed H ≤ len
  by-needed len l = subst (λ g. needed g ≤ len) (loaded-shape form k.loads ∙ sym k.shape) l

  -- the tables were cleared, and all of it was put into them
  pub restored-as : (m m' : List ℕ) (jobs waiting : ℕ) → jobs ≡ jobs_by P H → waiting ≡ wait_count (blocks_by P H) → tables_of H m' ≡ put_form (form_by P H) (empty H (drop (needed H) m)) → Stands (resting_client h jobs waiting) m m' (loaded_form form)
  unfolding form_by
  restored-as m m' jobs waiting j w e =
      let f = form_by P H in
      let rest = drop (needed H) m in
      let x = j ∙ sym (length-numbers P 2 (jobs_by P H) (13 + h.p * 2 + 2)) in
      let y = w ∙ sym by-made.waiters in
      stands (resting_client h jobs waiting) m m' (put_form f (empty H rest)) (loaded_form form) e
      (restored-tail h f.number f.counters f.queue f.blocks f.levels f.waiters rest)
      ((λ i. view (resting_client h (x i) (y i)) (put_form f (empty H rest))) ∙ restored h f.number f.counters f.queue f.blocks f.levels f.waiters by-made by-facts rest ∙ sym by_state)
