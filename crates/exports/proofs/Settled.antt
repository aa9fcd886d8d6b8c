-- A turn and a completion release a request in the bytes of the state, once the rest is stored there.
use Rattle.std.specs.Prelude.{◌≡◌, false, List, ℕ, ◌%◌, eqb, length, if◌then◌else◌}
use Rattle.std.proofs.Math.Path.{refl}
use Rattle.std.proofs.Common.{ap, sym, ◌∙◌, subst, mod-eq_of_lt}
use Rattle.std.proofs.Math.Decide.{ℕ_discrete}
use Rattle.lists.specs.Tables.{put}
use Rattle.rules.specs.Questions.{Ask}
use Rattle.rules.specs.Request.{release}
use Rattle.rules.specs.State.{State}
use Rattle.memory.specs.Words.{word_at, word_at-lt}
use Rattle.client.specs.declared.Client.{Client}
use Rattle.client.specs.Moves.{at_found, with_request}
use Rattle.client.specs.View.{state_of}
use Rattle.contract.specs.Answers.{Answer}
use Rattle.contract.specs.Meets.{Meets}
use Rattle.releasing.specs.Released.{Released, not-held}
use Rattle.releasing.specs.Performs.{Performs, released-meets}
use Rattle.codec.specs.Codec.{state_length, client_of, with_found, Between, between-found, Small, packed, answer_of, unpacked}
use Rattle.exports.specs.Exported.{client_in, looked_at, Exported, Reports}
use Rattle.exports.proofs.Exported.{small-accepted, meets-small, meets-refused}
use Rattle.exports.specs.Idle.{Idle}
use Rattle.exports.specs.Settled.{HandedBackReleased, ReleasedIn}

-- nothing changes where none is held
pub none-held : (w : ℕ → ℕ) (m : List ℕ) → (if eqb (client_of w).request.kind 0 then false else eqb (client_of w).request.found 0) ≡ false → ReleasedIn w m w
none-held w m e = record { released = not-held (client_of w) m e; between = λ i. refl }

-- where the block was found and what the request awaits is stored
pub found-stored : (st m : List ℕ) (d : Client) (w' : ℕ → ℕ) → Released (client_in st) m d → w' ≡ with_found d.request.found d.request.awaits (word_at st) → ReleasedIn (word_at st) m w'
found-stored st m d w' r e =
    record { released = subst (Released (client_in st) m) (sym same) r; between = subst (Between (word_at st)) (sym e) (between-found d.request.found d.request.awaits (word_at st) (word_at st) (λ i. refl)) }
  where
    read : client_of (with_found d.request.found d.request.awaits (word_at st)) ≡ with_request (at_found (d.request.found % 65536) (d.request.awaits % 65536) (client_in st).request) (client_in st)
    read = unfold put in refl

    same : client_of w' ≡ d
    same =
        ap client_of e ∙ read ∙ ap (λ x. with_request (at_found x (d.request.awaits % 65536) (client_in st).request) (client_in st)) (mod-eq_of_lt (r.low (word_at-lt st 22)))
        ∙ ap (λ n. with_request (at_found d.request.found n (client_in st).request) (client_in st)) (mod-eq_of_lt (r.few (word_at-lt st 24))) ∙ sym r.found

-- What was performed, handed back so
module _ (a : Ask) (st m tape b : List ℕ) (r : Answer) (m' b' : List ℕ) (k : Performs (client_in st) (state_of (client_in st) m) a m (looked_at tape) b r m' b') (q : Reports a r) where
  abbrev s : State
  s = state_of (client_in st) m

  pub performs-small : Small r
  performs-small = elim (ℕ_discrete r.number 0) [ yes z ↦ (let p = k.accepted z in small-accepted s a m tape b r q _ p.yes z p.taken p.command p.found) | no n ↦ meets-small (client_in st) s a m tape b r m' b' (k.refused n) q ]

  module _ (stored : (ℕ → ℕ) → ℕ → ℕ) (same : r.number ≡ 0 → state_of (client_of (stored (word_at st))) m' ≡ state_of r.client m') (idle : r.number ≡ 0 → Idle a (client_in st).request (client_of (stored (word_at st)))) (u : ℕ) (st' : List ℕ) (h : HandedBackReleased stored r m' u st st') where
    met : Dec (r.number ≡ 0) → Meets (client_in st) s a m (looked_at tape) b (answer_of (packed r) (client_in st')) m' b'
    met (yes z) =
        let f = (h.accepted z).released in
        rw (unpacked r performs-small (client_in st')) (released-meets (client_in st) s a m (looked_at tape) b r m' b' (k.accepted z) z (client_in st') (f.state ∙ ap release (same z)) (λ y. f.idle y ∙ idle z (ap (λ (x : Client). x.request.kind) (sym f.found) ∙ y)))
    met (no n) = rw (h.refused n) (meets-refused (client_in st) s a m tape b r m' b' (k.refused n) q n)

    kept : Between (word_at st) (stored (word_at st)) → Dec (r.number ≡ 0) → Between (word_at st) (word_at st')
    kept between (yes z) = λ i. (h.accepted z).between i ∙ between i
    kept between (no n) = rw (h.refused n) (λ i. refl)

    pub exported-released : length st ≡ state_length → Between (word_at st) (stored (word_at st)) → Exported a st m tape b u st' m' b'
    exported-released l between = record {
      meets = λ _. rw h.answer (met (ℕ_discrete r.number 0));
      refused = λ n. h.refused (λ z. n (rw h.answer (ap (λ (x : Answer). x.number) (unpacked r performs-small (client_in st)) ∙ z)));
      between = kept between (ℕ_discrete r.number 0);
      other = λ n. absurd (n l);
    }
