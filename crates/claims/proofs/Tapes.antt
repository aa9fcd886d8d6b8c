-- What the tapes of words are to exported calls: every run's words are a tape, every tape is used up by the runs that are lent certain bytes, and a caller
-- that lends no word again uses up the beginning of its words.
use Rattle.std.specs.Prelude.{◌≡◌, refl, List, [], ◌∷◌, ◌++◌, map, ℕ, ◌≤◌, ◌<◌, length}
use Rattle.std.proofs.Common.{ap, sym, ◌∙◌}
use Rattle.lists.specs.All.{All, nil, cons}
use Rattle.rules.specs.Questions.{Ask, Call}
use Rattle.rules.specs.Run.{run}
use Rattle.rules.specs.Shape.{Shape}
use Rattle.rules.specs.State.{closed}
use Rattle.tape.specs.Tape.{words_of}
use Rattle.exports.specs.Exported.{most_words, looked_at}
use Rattle.hiding.specs.Claim
use Rattle.hiding.specs.Claim.{Lent, first, outline, Lends, Short, tape_of, Tape, words_in, serve, most}
use Rattle.hiding.proofs.Theorem.{hidden}
use Rattle.claims.specs.Claim.{Made, FromOpen, call_made, OwnForms, used_up, TapesClaim}
use Rattle.claims.proofs.Theorem.{exported-run, gives-run, plays-run}
use Rattle.claims.proofs.Words.{any-words}

-- bytes for the words of each call of a list
record Bytes (as' : List Lent) (wss tapes : List (List ℕ)) : Type 0 where
  bytes : All (λ tape. All (λ x. x < 256) tape) tapes
  counts : map (λ tape. length (words_of (looked_at tape))) tapes ≡ map (λ (a : Lent). a.words) as'
  words : map (λ tape. words_of (looked_at tape)) tapes ≡ wss

bytes-for : (as' : List Lent) (cs : List Call) → Lends as' cs → Short cs → All (λ (a : Lent). a.words ≤ most_words) as' → (tapes : List (List ℕ)) × Bytes as' (words_in cs) tapes
bytes-for [] [] Claim.none nil l = ([], record { bytes = nil; counts = refl; words = refl })
bytes-for (a ∷ as') (c ∷ cs) (Claim.more o e k) (cons h t) (cons l ls) =
    let x = any-words c.words h (rw e l) in
    let r = bytes-for as' cs k t ls in
    (x.0 ∷ r.0, record { bytes = cons x.1.0 r.1.bytes; counts = λ i. (ap length x.1.1 ∙ e) i ∷ r.1.counts i; words = λ i. x.1.1 i ∷ r.1.words i })
bytes-for [] (c ∷ cs) x6 _ l = elim x6 [ ]
bytes-for (a ∷ as') [] x6 _ l = elim x6 [ ]

-- the words of a run's calls are those of their bytes
words-made : (xs : List Made) → words_in (map call_made xs) ≡ map (λ tape. words_of (looked_at tape)) (map (λ (x : Made). x.tape) xs)
words-made [] = refl
words-made (x ∷ xs) = ap (λ wss. words_of (looked_at x.tape) ∷ wss) (words-made xs)

-- the tape of a run, by the rules' outcomes
used-run : (xs : List Made) → FromOpen xs → used_up xs ≡ tape_of (map call_made xs) (run closed (map call_made xs))
used-run xs r = ap (tape_of (map call_made xs)) (exported-run xs r)

tapes-given : (h : Shape) (m w n : ℕ) (bs' : List Lent) (t : List ℕ) → let as' = first h m w n ∷ bs' in Tape closed as' t → All (λ (a : Lent). a.words ≤ most_words) as' →
    (tapes : List (List ℕ)) × (All (λ tape. All (λ x. x < 256) tape) tapes
    × (map (λ tape. length (words_of (looked_at tape))) tapes ≡ map (λ (a : Lent). a.words) as')
    × ((xs : List Made) → FromOpen xs → OwnForms xs → Lends as' (map call_made xs) → map (λ (x : Made). x.tape) xs ≡ tapes → used_up xs ≡ t))
tapes-given h m w n bs' t k l =
    let as' = first h m w n ∷ bs' in
    let b = bytes-for as' k.0 k.1.calls k.1.short l in (
      b.0,
      (
        b.1.bytes,
        b.1.counts,
        (λ xs r v c e.
            used-run xs r
            ∙ (hidden.tapes.given h m w n bs' closed t k.0 k.1 (map call_made xs) c (words-made xs ∙ ap (map (λ tape. words_of (looked_at tape))) e ∙ b.1.words) (gives-run as' xs r v c).loads).tape),
      ),
    )

tapes-served : (as' : List Lent) (ks : List Ask) (ws : List ℕ) (xs : List Made) → FromOpen xs → map outline ks ≡ map (λ (a : Lent). a.ask) as' →
    All (λ w. w < 65536) ws → most as' ≤ length ws → map call_made xs ≡ serve closed [] as' ks ws → Tape closed as' (used_up xs) × ((rest : List ℕ) × (ws ≡ used_up xs ++ rest))
tapes-served as' ks ws xs r o h n e =
    let s = hidden.tapes.served closed as' ks ws o h n in
    let g = s.1.1.1 in
    let u : used_up xs ≡ s.0 = used-run xs r ∙ ap (λ cs. tape_of cs (run closed cs)) e ∙ g.tape in
    rw u ((serve closed [] as' ks ws, g), (s.1.0, s.1.1.0))

pub exported-tapes : TapesClaim
exported-tapes = record {
  of_run = λ as' xs r v l. (map call_made xs, gives-run as' xs r v l);
  of_choice = λ h m w n σ k xs r c. (map call_made xs, (plays-run h m w n σ k xs r c, sym (used-run xs r)));
  given = tapes-given;
  served = tapes-served;
}
