-- A run in which each of the seven calls is accepted: a store is opened, saved and loaded into other bytes, as after a shutdown, and then one block of one byte
-- is asked to be written, collected, and stored. The function `accepted_run` of crate `callers` makes it, and ensures that there is one.
use Rattle.std.specs.Prelude.{◌≡◌, true, ℕ, ◌/◌, take, replicate, get_or}
use Rattle.std.proofs.Math.Path.{refl, ap}
use Rattle.std.proofs.Common.{sym, ◌∙◌, true≢false, arith}
use mathlib.Core.List.{List, [], ◌∷◌, ◌++◌, map}
use Rattle.std.proofs.Math.ListN.{length, length-take}
use Rattle.std.proofs.Math.Seq.{take_all}
use Rattle.lists.specs.Search.{below, count}
use Rattle.rules.specs.Laws.Answers.{opens}
use Rattle.rules.specs.Questions.{Call, opening, request, turn, completion, collect, save, load}
use Rattle.rules.specs.Resumes.{saved_by}
use Rattle.rules.specs.Run.{Outcome, run, refused}
use Rattle.rules.specs.State.{cmd, write, closed}
use Rattle.rules.specs.Unfold.{model, shape, call, out}
use Rattle.memory.specs.Words.{word_at}
use Rattle.tape.specs.Tape.{words_of}
use Rattle.codec.specs.Codec.{state_length}
use Rattle.exports.specs.Exported.{looked_at}
use Rattle.claims.specs.Claim.{Made, Called, made, Handed, FromOpen, OwnForms, call_made, hands_out, outcome_of}
use Rattle.claims.proofs.Theorem.{exported-run}
use Rattle.claims.specs.Accepted.{Accepted, form, told}

-- the same calls for the rules
abbrev two_words : List ℕ
two_words = 0 ∷ 0 ∷ []

abbrev opened : Call
opened = call (opening (shape 1 1 1 1 1 1)) 416 two_words 0

abbrev calls : List Call
calls =
    opened
    ∷ call save 416 [] 512
    ∷ call (load form) 416 [] 0
    ∷ call (request write 0 (7 ∷ [])) 416 two_words 0
    ∷ call collect 416 [] 1
    ∷ call turn 416 two_words 1
    ∷ call (completion (cmd write 0 0 0) []) 416 [] 0 ∷ []

told_is : run closed calls ≡ told
unfolding model
told_is = refl

saved : run closed (opened ∷ call save 416 [] 512 ∷ []) ≡ out 0 1 (cmd 0 0 0 0) [] ∷ out 0 0 (cmd 0 0 0 0) form ∷ []
unfolding model
saved = refl

-- two words of four zeros
pub zeros-words : words_of (looked_at (replicate 4 0)) ≡ 0 ∷ 0 ∷ []
unfolding words_of word_at below count
zeros-words = refl

-- a call that is lent all of the memory
whole : (x : Made) → length x.state ≡ state_length → Called x → Handed x.state (x.memory ++ []) [] x
whole x l c = record { bytes = l; state = λ _. refl; memory = λ _. refl; called = c }

-- a load, into bytes of its own
apart : (st m : List ℕ) (x : Made) → opens x.ask ≡ true → length x.state ≡ state_length → Called x → Handed st m [] x
apart st m x o l c = record { bytes = l; state = λ z. absurd (true≢false (sym o ∙ z)); memory = λ z. absurd (true≢false (sym o ∙ z)); called = c }

-- Calls with these arguments, each but the load handed what the last one left: the store is opened and saved
module _ (st m tape f : List ℕ) (words : words_of (looked_at tape) ≡ 0 ∷ 0 ∷ []) (bytes : length st ≡ state_length) (size : length m ≡ 416) (block : length f ≡ 512) (u₁ u₂ : ℕ) (st₁ m₁ f₂ : List ℕ)
    (c₁ : Called (made (opening (shape 1 1 1 1 1 1)) st m tape [] u₁ st₁ m₁ [])) (l₁ : length st₁ ≡ state_length)
    (c₂ : Called (made save st₁ m₁ [] f u₂ st₁ m₁ f₂)) (k₂ : length f₂ ≡ 512) where
  abbrev x₁ : Made
  x₁ = made (opening (shape 1 1 1 1 1 1)) st m tape [] u₁ st₁ m₁ []

  abbrev x₂ : Made
  x₂ = made save st₁ m₁ [] f u₂ st₁ m₁ f₂

  size₁ : length m₁ ≡ 416
  size₁ = c₁.1 ∙ size

  handed_out : (outcome_of x₂).bytes ≡ form
  unfolding words_of below count
  handed_out = ap (λ (os : List Outcome). (get_or os 1 (refused 0)).bytes) (
      exported-run (x₁ ∷ x₂ ∷ []) (record { state = st; memory = m ++ []; opens = (shape 1 1 1 1 1 1, refl); runs = ([], (whole x₁ bytes c₁, ([], (whole x₂ l₁ c₂, tt)))) })
      ∙ ap (run closed) (λ i. call (opening (shape 1 1 1 1 1 1)) (size i) (words i) 0 ∷ call save (size₁ i) [] (block i) ∷ []) ∙ saved
      )

  -- it is all of the buffer
  all-out : (outcome_of x₂).bytes ≡ f₂
  unfolding hands_out
  all-out =
      let e : length (take (u₂ / 4294967296) f₂) ≡ 512 = ap length handed_out in
      take_all (u₂ / 4294967296) f₂ (omega (arith, length-take (u₂ / 4294967296) f₂))

  form-is : f₂ ≡ form
  form-is = sym all-out ∙ handed_out

  -- .. and loaded, and then used
  module _ (st₂ m₂ b : List ℕ) (l₂ : length st₂ ≡ state_length) (size₂ : length m₂ ≡ 416) (one : length b ≡ 1) (u₃ u₄ u₅ u₆ u₇ : ℕ) (st₃ m₃ st₄ m₄ st₅ m₅ b₅ st₆ m₆ b₆ st₇ m₇ : List ℕ)
      (c₃ : Called (made (load f₂) st₂ m₂ [] [] u₃ st₃ m₃ [])) (l₃ : length st₃ ≡ state_length)
      (c₄ : Called (made (request write 0 (7 ∷ [])) st₃ m₃ tape [] u₄ st₄ m₄ [])) (l₄ : length st₄ ≡ state_length)
      (c₅ : Called (made collect st₄ m₄ [] b u₅ st₅ m₅ b₅)) (l₅ : length st₅ ≡ state_length) (k₅ : length b₅ ≡ 1)
      (c₆ : Called (made turn st₅ m₅ tape b₅ u₆ st₆ m₆ b₆)) (l₆ : length st₆ ≡ state_length)
      (c₇ : Called (made (completion (cmd write 0 0 0) []) st₆ m₆ [] [] u₇ st₇ m₇ [])) where
    abbrev x₃ : Made
    x₃ = made (load f₂) st₂ m₂ [] [] u₃ st₃ m₃ []

    abbrev x₄ : Made
    x₄ = made (request write 0 (7 ∷ [])) st₃ m₃ tape [] u₄ st₄ m₄ []

    abbrev x₅ : Made
    x₅ = made collect st₄ m₄ [] b u₅ st₅ m₅ b₅

    abbrev x₆ : Made
    x₆ = made turn st₅ m₅ tape b₅ u₆ st₆ m₆ b₆

    abbrev x₇ : Made
    x₇ = made (completion (cmd write 0 0 0) []) st₆ m₆ [] [] u₇ st₇ m₇ []

    abbrev xs : List Made
    xs = x₁ ∷ x₂ ∷ x₃ ∷ x₄ ∷ x₅ ∷ x₆ ∷ x₇ ∷ []

    from : FromOpen xs
    unfolding opens
    from = record {
      state = st;
      memory = m ++ [];
      opens = (shape 1 1 1 1 1 1, refl);
      runs = ([], (whole x₁ bytes c₁, ([], (whole x₂ l₁ c₂, ([], (apart st₁ (m₁ ++ []) x₃ refl l₂ c₃, ([], (whole x₄ l₃ c₄, ([], (whole x₅ l₄ c₅, ([], (whole x₆ l₅ c₆, ([], (whole x₇ l₆ c₇, tt))))))))))))));
    }

    own : OwnForms xs
    unfolding saved_by
    own = (tt, (tt, (sym all-out, (tt, (tt, (tt, (tt, tt)))))))

    made-are : map call_made xs ≡ calls
    unfolding words_of below count
    made-are =
        let size₃ : length m₃ ≡ 416 = c₃.1 ∙ size₂ in
        let size₄ : length m₄ ≡ 416 = c₄.1 ∙ size₃ in
        let size₅ : length m₅ ≡ 416 = c₅.1 ∙ size₄ in
        let size₆ : length m₆ ≡ 416 = c₆.1 ∙ size₅ in
        λ i.
        call (opening (shape 1 1 1 1 1 1)) (size i) (words i) 0
        ∷ call save (size₁ i) [] (block i)
        ∷ call (load (form-is i)) (size₂ i) [] 0
        ∷ call (request write 0 (7 ∷ [])) (size₃ i) (words i) 0
        ∷ call collect (size₄ i) [] (one i)
        ∷ call turn (size₅ i) (words i) (k₅ i)
        ∷ call (completion (cmd write 0 0 0) []) (size₆ i) [] 0 ∷ []

    pub accepted : Accepted
    accepted = (xs, (from, own, exported-run xs from ∙ ap (run closed) made-are ∙ told_is))
