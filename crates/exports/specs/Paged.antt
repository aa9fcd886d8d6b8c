-- What the exported page's contract says.
use Rattle.std.specs.Prelude.{◌≡◌, refl, Result, Ok, Err, List, ℕ, ◌<◌, length}
use Rattle.std.proofs.Common.{ap, sym, ◌∙◌, subst, arith}
use Rattle.rules.specs.State.{cmd}
use Rattle.client.specs.declared.Client.{Client}
use Rattle.client.specs.View.{state_of}
use Rattle.contract.specs.declared.Refusal.{Refusal}
use Rattle.contract.specs.Answers.{Answer, answered_length, cleared_client}
use Rattle.contract.specs.Meets.{command_of}
use Rattle.codec.specs.Codec.{state_length, Small, packed, unpacked, answer_of}
use Rattle.report.specs.Page.{Shows}
use Rattle.report.specs.Laws.{shows-small}
use Rattle.exports.specs.Exported.{client_in}

-- the answer of a page: a number, and its length where a call has the words that it took
abbrev pub told : ℕ → Answer
told u = answer_of u cleared_client

-- The page of the store of state st and memory m in the buffer b, which is b' then; state and memory are only read
pub record Paged (st m b : List ℕ) (u : ℕ) (b' : List ℕ) : Type 0 where
  pub shows : length st ≡ state_length → Shows (state_of (client_in st) m) (length m) b (told u).number (told u).taken b'
  pub command : command_of (told u) ≡ cmd 0 0 0 0
  pub found : (told u).found ≡ 0
  -- a state of another length: 2, and nothing is written
  pub other : (length st ≡ state_length → ⊥) → (u ≡ 2) × (b' ≡ b)

-- with a state of another length it answers 2 at once
pub paged-length : {st m b : List ℕ} → (length st ≡ state_length → ⊥) → Paged st m b 2 b
paged-length n = record { shows = λ l. absurd (n l); command = refl; found = refl; other = λ _. (refl, refl) }

-- no command is told of, and nowhere
tells-length : (c : Client) (r : Result ℕ Refusal) → (command_of (answered_length c r) ≡ cmd 0 0 0 0) × ((answered_length c r).found ≡ 0)
tells-length c (Ok n) = (refl, refl)
tells-length c (Err e) = (refl, refl)

-- a length that has 32 bits
pub tells-small : (c : Client) (r : Result ℕ Refusal) → (answered_length c r).number < 32 → (answered_length c r).taken < 4294967296 → Small (answered_length c r)
tells-small c (Ok n) k t = record { number = k; taken = t; kind = omega arith; partition = omega arith; level = omega arith; slot = omega arith; found = omega arith }
tells-small c (Err e) k t = record { number = k; taken = t; kind = omega arith; partition = omega arith; level = omega arith; slot = omega arith; found = omega arith }

-- what is written, packed
module _ (st m b : List ℕ) (c : Client) (r : Result ℕ Refusal) (b' : List ℕ) (l : length st ≡ state_length)
    (k : Shows (state_of (client_in st) m) (length m) b (answered_length c r).number (answered_length c r).taken b') where
  pub small : Small (answered_length c r)
  small = let w = shows-small _ _ b _ _ b' k in tells-small c r (omega arith) (omega arith)

  pub paged : (u : ℕ) → u ≡ packed (answered_length c r) → Paged st m b u b'
  paged u e =
      let a = ap told e ∙ unpacked (answered_length c r) small cleared_client in
      let q = tells-length c r in
      record {
        shows = λ _. subst (λ (x : Answer). Shows (state_of (client_in st) m) (length m) b x.number x.taken b') (sym a) k;
        command = ap command_of a ∙ q.0;
        found = ap (λ (x : Answer). x.found) a ∙ q.1;
        other = λ n. absurd (n l);
      }
