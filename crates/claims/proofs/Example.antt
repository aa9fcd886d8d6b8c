-- A run that is computed: an open of no shape, which answers 1 and hands back zeros, then a turn, which answers 2. The open is lent three bytes of
-- memory, the turn one of them.
use Rattle.std.specs.Prelude.{◌≡◌, refl, [], ◌∷◌, map, replicate}
use Rattle.std.proofs.Common.{arith}
use Rattle.rules.specs.Questions.{opening, turn, number}
use Rattle.rules.specs.Run.{refuse, refused}
use Rattle.rules.specs.Shape.{Shape}
use Rattle.rules.specs.State.{closed}
use Rattle.rules.specs.Unfold.{model}
use Rattle.client.specs.View.{state_of, found_as}
use Rattle.contract.specs.Answers.{cleared_client}
use Rattle.contract.specs.Meets.{Meets, call_of, meets-no, closed_is}
use Rattle.codec.specs.Codec.{answer_of, state_length}
use Rattle.exports.specs.Exported.{Exported, Opened}
use Rattle.exports.proofs.Exported.{zeros-say}
use Rattle.claims.specs.Claim.{Made, FromOpen, outcome_of, hands_out}

abbrev no_shape : Shape
no_shape = record { N = 0; P = 0; L = 0; B = 0; E = 0; W = 0 }

abbrev pub opened : Made
opened = record {
  ask = opening no_shape;
  state = replicate state_length 7;
  memory = 1 ∷ 2 ∷ 3 ∷ [];
  tape = [];
  buffer = [];
  answer = 1;
  state' = replicate state_length 0;
  memory' = 1 ∷ 2 ∷ 3 ∷ [];
  buffer' = [];
}

abbrev pub turned : Made
turned = record {
  ask = turn;
  state = replicate state_length 0;
  memory = 1 ∷ [];
  tape = 5 ∷ 6 ∷ [];
  buffer = 9 ∷ [];
  answer = 2;
  state' = replicate state_length 0;
  memory' = 1 ∷ [];
  buffer' = 9 ∷ [];
}

open-number : 1 ≡ number closed (call_of (opening no_shape) (1 ∷ 2 ∷ 3 ∷ []) [] [])
unfolding model
open-number = refl

turn-number : 2 ≡ number closed (call_of turn (1 ∷ []) (5 ∷ 6 ∷ []) (9 ∷ []))
unfolding model
turn-number = refl

open-meets : Meets cleared_client closed (opening no_shape) (1 ∷ 2 ∷ 3 ∷ []) [] [] (answer_of 1 cleared_client) (1 ∷ 2 ∷ 3 ∷ []) []
unfolding refuse
open-meets = meets-no cleared_client closed (opening no_shape) (1 ∷ 2 ∷ 3 ∷ []) [] [] 1 open-number (λ z. omega arith) (closed_is (1 ∷ 2 ∷ 3 ∷ []))

turn-meets : Meets cleared_client (state_of cleared_client (1 ∷ [])) turn (1 ∷ []) (5 ∷ 6 ∷ []) (9 ∷ []) (answer_of 2 cleared_client) (1 ∷ []) (9 ∷ [])
unfolding refuse
turn-meets = rw (closed_is (1 ∷ [])) (meets-no cleared_client closed turn (1 ∷ []) (5 ∷ 6 ∷ []) (9 ∷ []) 2 turn-number (λ z. omega arith) (closed_is (1 ∷ [])))

open-contract : Opened no_shape (replicate state_length 7) (1 ∷ 2 ∷ 3 ∷ []) [] 1 (replicate state_length 0) (1 ∷ 2 ∷ 3 ∷ [])
open-contract = record { meets = λ l. rw zeros-say open-meets; refused = λ n. refl; between = λ z. absurd (omega arith); other = λ n. absurd (n refl) }

turn-contract : Exported turn (replicate state_length 0) (1 ∷ []) (5 ∷ 6 ∷ []) (9 ∷ []) 2 (replicate state_length 0) (1 ∷ []) (9 ∷ [])
turn-contract = record { meets = λ l. rw zeros-say turn-meets; refused = λ n. refl; between = λ k. refl; other = λ n. absurd (n refl) }

pub example : FromOpen (opened ∷ turned ∷ [])
example = record {
  state = replicate state_length 7;
  memory = 1 ∷ 2 ∷ 3 ∷ 4 ∷ [];
  opens = (no_shape, refl);
  runs = (
    4 ∷ [],
    (
      record { bytes = refl; state = λ _. refl; memory = λ _. refl; called = (open-contract, refl) },
      (2 ∷ 3 ∷ 4 ∷ [], (record { bytes = refl; state = λ _. refl; memory = λ _. refl; called = (turn-contract, refl) }, tt)),
    ),
  );
}

pub example-told : map outcome_of (opened ∷ turned ∷ []) ≡ refused 1 ∷ refused 2 ∷ []
unfolding refused hands_out found_as
example-told = refl
