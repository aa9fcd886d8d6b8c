-- While no request is in hand, the numbers of one in the bytes handed back are those that the call leaves (`unasked`).
use Rattle.std.specs.Prelude.{◌≡◌, refl, List, ℕ, ◌%◌}
use Rattle.std.proofs.Common.{ap, sym, ◌∙◌, true≢false, mod-eq_of_lt}
use Rattle.std.proofs.Math.Option.{Option, none, some}
use Rattle.std.proofs.Math.Decide.{ℕ_discrete}
use Rattle.lists.specs.Search.{is_none}
use Rattle.rules.specs.State as R
use Rattle.rules.specs.State.{State}
use Rattle.rules.specs.Questions.{Ask, opening, request, turn, completion, collect, save, load}
use Rattle.rules.proofs.Laws.Asked.{asked}
use Rattle.memory.specs.Words.{word_at, word_at-lt}
use Rattle.client.specs.declared.Client.{Client}
use Rattle.client.specs.declared.Request.{Request}
use Rattle.client.specs.View.{state_of}
use Rattle.client.specs.Readings.{hand-none, hand-some}
use Rattle.client.specs.Moves.{at_level}
use Rattle.contract.specs.Meets.{unasked}
use Rattle.codec.specs.Codec.{client_of, low_request, low_client, progressed}

-- the client x, where the numbers of a request were those of r before the call
abbrev pub Idle : Ask → Request → Client → Type 0
Idle a r x = x.request.kind ≡ 0 → x.request ≡ unasked a r

-- a client that stands for a state without a request has kind 0
pub none-kind : (c : Client) (m : List ℕ) → (state_of c m).request ≡ none → c.request.kind ≡ 0
unfolding is_none
none-kind c m e = go (ℕ_discrete c.request.kind 0)
  where
    go : Dec (c.request.kind ≡ 0) → c.request.kind ≡ 0
    go (yes z) = z
    go (no n) = absurd (true≢false (ap is_none (sym e ∙ hand-some c m n)))

asked-none : (o : Option R.Request) → asked o ≡ none → o ≡ none
unfolding is_none
asked-none none e = refl
asked-none (some r) e = absurd (true≢false (sym (ap is_none e)))

module _ (st : List ℕ) where
  abbrev given : Request
  given = (client_of (word_at st)).request

  -- numbers read off bytes are below 2^16
  pub low_word : (k : ℕ) → word_at st k % 65536 ≡ word_at st k
  low_word k = mod-eq_of_lt (word_at-lt st k)

  low-given : low_request given ≡ given
  low-given = λ i. record { kind = low_word 12 i; block = low_word 14 i; next = low_word 16 i; evict = low_word 18 i; level = low_word 20 i; found = low_word 22 i; awaits = low_word 24 i }

  low-unasked : (a : Ask) → low_request (unasked a given) ≡ unasked a given
  low-unasked (opening h) = refl
  low-unasked (request k b bs) = low-given
  low-unasked turn = low-given
  low-unasked (completion c bs) = low-given
  low-unasked collect = refl
  low-unasked save = low-given
  low-unasked (load form) = refl

  -- all numbers of the client d are stored
  pub rest-idle : (a : Ask) (d : Client) (m' : List ℕ) → state_of (low_client d) m' ≡ state_of d m' → (d.request.kind ≡ 0 → d.request ≡ unasked a given)
      → (low_request d.request).kind ≡ 0 → low_request d.request ≡ unasked a given
  rest-idle a d m' e k z = ap low_request (k (none-kind d m' (ap (λ (s : State). s.request) (sym e) ∙ hand-none (low_client d) m' z))) ∙ low-unasked a

  -- those that tell how far it is
  pub progress-idle : (d : Client) (m m' : List ℕ) → asked (state_of d m').request ≡ asked (state_of (client_of (word_at st)) m).request → (d.request.kind ≡ 0 → d.request ≡ given)
      → given.kind ≡ 0 → (progressed (client_of (word_at st)) (low_client d)).request ≡ given
  progress-idle d m m' e k z =
      let n : d.request.kind ≡ 0 = none-kind d m' (asked-none (state_of d m').request (e ∙ ap asked (hand-none (client_of (word_at st)) m z))) in
      ap (λ (r : Request). at_level (r.level % 65536) (r.awaits % 65536) given) (k n) ∙ (λ i. at_level (low_word 20 i) (low_word 24 i) given)
