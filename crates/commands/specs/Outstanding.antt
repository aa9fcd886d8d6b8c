-- A command among those outstanding.
use Rattle.std.specs.Prelude.{◌≡◌, Bool, true, false, List, ℕ, ◌-◌, ◌<◌, length, eqb, ltb, if◌then◌else◌, Option, Some, None}
use Rattle.lists.specs.Search.{any, without, first_left}
use Rattle.rules.specs.State.{Command}
use Rattle.rules.specs.Completion.{is_command}
use Rattle.client.specs.View.{rows}
use Rattle.client.specs.Rows.{drop_at, length-rows, any-hit, without-first, left-first}

abbrev pub of_partition : ℕ → Command → Bool
of_partition q c = eqb c.partition q

abbrev pub of_kind : ℕ → Command → Bool
of_kind k c = eqb c.kind k

pub record OutstandingAt (d : Command) (cs : List Command) (j : ℕ) : Type 0 where
  pub place : j < length cs
  pub there : any (is_command d) cs ≡ true
  pub gone : without (is_command d) cs ≡ drop_at j cs
  pub left : (k : ℕ) → first_left (is_command d) k cs ≡ (if ltb j k then k - 1 else k)

abbrev pub Outstanding : Command → List Command → Option ℕ → Type 0
Outstanding d cs (Some j) = OutstandingAt d cs j
Outstanding d cs None = any (is_command d) cs ≡ false

pub outstanding-at : (d : Command) (cs : List Command) (g : ℕ → Command) (n j : ℕ) → cs ≡ rows g n → j < n → is_command d (g j) ≡ true → ((i : ℕ) → i < j → is_command d (g i) ≡ false) → OutstandingAt d cs j
outstanding-at d cs g n j e l h b = record {
  place = rw (e, length-rows) l;
  there = rw e (any-hit (is_command d) g n j l h);
  gone = rw e (without-first (is_command d) g n j l h b);
  left = λ k. rw e (left-first (is_command d) g n j k l h b);
}
