-- The client's state as words, and an answer as one number.
use Rattle.std.specs.Prelude.{◌≡◌, refl, ℕ, ◌+◌, ◌*◌, ◌/◌, ◌%◌, ◌<◌, Bool, true, false, List, length, eqb, if◌then◌else◌}
use Rattle.std.proofs.Math.Path.{fun_ext}
use Rattle.std.proofs.Common.{sym, ◌∙◌, arith}
use Rattle.std.proofs.Math.Decide.{ℕ_discrete}
use Rattle.rules.specs.State.{read}
use Rattle.lists.specs.Tables.{put, put_same, put_other}
use Rattle.memory.specs.Words.{word_at, set_word, word_same, word-other}
use Rattle.memory.specs.declared.Shape.{Shape}
use Rattle.client.specs.declared.Client.{Client}
use Rattle.client.specs.declared.Request.{Request}
use Rattle.client.specs.Moves.{at_level}
use Rattle.contract.specs.Answers.{Answer}

-- The state lies in 76 bytes
abbrev pub state_length : ℕ
state_length = 76

-- the client that they say. Number k is word 2k: four bytes for each number, of which the first two are used, so that the compiler reads each as it
-- was stored and not several at once
abbrev pub client_of : (ℕ → ℕ) → Client
client_of w = record {
  shape = record { n = w 0; p = w 2; l = w 4; b = w 6; e = w 8; w = w 10 };
  request = record { kind = w 12; block = w 14; next = w 16; evict = w 18; level = w 20; found = w 22; awaits = w 24 };
  jobs = w 26;
  begun = w 28;
  cursor = w 30;
  sent = w 32;
  waiting = w 34;
  out = w 36;
}

-- words with six numbers from number k on
abbrev pub with_six : ℕ → ℕ → ℕ → ℕ → ℕ → ℕ → ℕ → (ℕ → ℕ) → ℕ → ℕ
with_six k a b c d e f w =
    put ((k + 5) * 2) (f % 65536) (put ((k + 4) * 2) (e % 65536) (put ((k + 3) * 2) (d % 65536) (put ((k + 2) * 2) (c % 65536) (put ((k + 1) * 2) (b % 65536) (put (k * 2) (a % 65536) w)))))

-- words with the numbers of a shape; with those that say what a request asks for
abbrev pub with_shape : Shape → (ℕ → ℕ) → ℕ → ℕ
with_shape h w = with_six 0 h.n h.p h.l h.b h.e h.w w

abbrev pub with_asked : Request → (ℕ → ℕ) → ℕ → ℕ
with_asked r w = put 18 (r.evict % 65536) (put 16 (r.next % 65536) (put 14 (r.block % 65536) (put 12 (r.kind % 65536) w)))

-- words with the numbers that a turn changes, by the kind of the command that it sends; with those that a completion changes
abbrev pub with_turn : ℕ → Client → (ℕ → ℕ) → ℕ → ℕ
with_turn k c w =
    let v = put 28 (c.begun % 65536) (put 36 (c.out % 65536) w) in
    if eqb k read then put 30 (c.cursor % 65536) (put 24 (c.request.awaits % 65536) (put 20 (c.request.level % 65536) v)) else put 34 (c.waiting % 65536) (put 32 (c.sent % 65536) v)

abbrev pub with_completion : ℕ → Client → (ℕ → ℕ) → ℕ → ℕ
with_completion k c w =
    let v = put 24 (c.request.awaits % 65536) (put 36 (c.out % 65536) w) in
    if eqb k read then v else put 32 (c.sent % 65536) (put 30 (c.cursor % 65536) (put 28 (c.begun % 65536) (put 26 (c.jobs % 65536) v)))

-- words with where the request's block was found, and what it awaits
abbrev pub with_found : ℕ → ℕ → (ℕ → ℕ) → ℕ → ℕ
with_found x n w = put 24 (n % 65536) (put 22 (x % 65536) w)

-- words with the numbers that tell how far a client is, with those two; with all but its shape
abbrev pub with_progress : Client → (ℕ → ℕ) → ℕ → ℕ
with_progress c w = with_six 13 c.jobs c.begun c.cursor c.sent c.waiting c.out (with_found c.request.found c.request.awaits (put 20 (c.request.level % 65536) w))

abbrev pub with_rest : Client → (ℕ → ℕ) → ℕ → ℕ
with_rest c w = with_progress c (with_asked c.request w)

-- each number modulo 2^16
abbrev pub low_shape : Shape → Shape
low_shape h = record { n = h.n % 65536; p = h.p % 65536; l = h.l % 65536; b = h.b % 65536; e = h.e % 65536; w = h.w % 65536 }

abbrev pub low_request : Request → Request
low_request r = record {
  kind = r.kind % 65536;
  block = r.block % 65536;
  next = r.next % 65536;
  evict = r.evict % 65536;
  level = r.level % 65536;
  found = r.found % 65536;
  awaits = r.awaits % 65536;
}

abbrev pub low_client : Client → Client
low_client c = record {
  shape = low_shape c.shape;
  request = low_request c.request;
  jobs = c.jobs % 65536;
  begun = c.begun % 65536;
  cursor = c.cursor % 65536;
  sent = c.sent % 65536;
  waiting = c.waiting % 65536;
  out = c.out % 65536;
}

-- the same with another shape
abbrev pub reshaped : Shape → Client → Client
reshaped h c = record { shape = h; request = c.request; jobs = c.jobs; begun = c.begun; cursor = c.cursor; sent = c.sent; waiting = c.waiting; out = c.out }

-- how far d is, with c's request but for that, and c's shape
abbrev pub progressed : Client → Client → Client
progressed c d = record {
  shape = c.shape;
  request = at_level d.request.level d.request.awaits c.request;
  jobs = d.jobs;
  begun = d.begun;
  cursor = d.cursor;
  sent = d.sent;
  waiting = d.waiting;
  out = d.out;
}

-- numbers stored are read again
pub rest-is : (c : Client) (w : ℕ → ℕ) → client_of (with_rest c w) ≡ reshaped (client_of w).shape (low_client c)
unfolding put
rest-is c w = refl

pub stored_is : (c : Client) (w : ℕ → ℕ) → client_of (with_rest c (with_shape c.shape w)) ≡ low_client c
unfolding put
stored_is c w = refl

-- ..and the words between them stay
abbrev pub Between : (ℕ → ℕ) → (ℕ → ℕ) → Type 0
Between w w' = (k : ℕ) → w' (k * 2 + 1) ≡ w (k * 2 + 1)

between : (n v : ℕ) (w w' : ℕ → ℕ) → Between w w' → Between w (put (n * 2) v w')
between n v w w' h k = put_other (n * 2) v w' (k * 2 + 1) (λ e. omega arith) ∙ h k

between-six : (k a b c d e f : ℕ) (w w' : ℕ → ℕ) → Between w w' → Between w (with_six k a b c d e f w')
between-six k a b c d e f w w' h = between (k + 5) _ w _ (between (k + 4) _ w _ (between (k + 3) _ w _ (between (k + 2) _ w _ (between (k + 1) _ w _ (between k _ w w' h)))))

-- where the request's block was found, and what it awaits
pub between-found : (x n : ℕ) (w w' : ℕ → ℕ) → Between w w' → Between w (with_found x n w')
between-found x n w w' h = between 12 _ w _ (between 11 _ w w' h)

pub between-progress : (c : Client) (w w' : ℕ → ℕ) → Between w w' → Between w (with_progress c w')
between-progress c w w' h = between-six 13 c.jobs c.begun c.cursor c.sent c.waiting c.out w _ (between-found c.request.found c.request.awaits w _ (between 10 _ w w' h))

pub between-turn : (k : ℕ) (c : Client) (w : ℕ → ℕ) → Between w (with_turn k c w)
between-turn k c w = go (eqb k read)
  where
    v : ℕ → ℕ
    v = put 28 (c.begun % 65536) (put 36 (c.out % 65536) w)

    kept : Between w v
    kept = between 14 _ w _ (between 18 _ w w (λ k. refl))

    go : (t : Bool) → Between w (if t then put 30 (c.cursor % 65536) (put 24 (c.request.awaits % 65536) (put 20 (c.request.level % 65536) v)) else put 34 (c.waiting % 65536) (put 32 (c.sent % 65536) v))
    go true = between 15 _ w _ (between 12 _ w _ (between 10 _ w v kept))
    go false = between 17 _ w _ (between 16 _ w v kept)

pub between-completion : (k : ℕ) (c : Client) (w : ℕ → ℕ) → Between w (with_completion k c w)
between-completion k c w = go (eqb k read)
  where
    v : ℕ → ℕ
    v = put 24 (c.request.awaits % 65536) (put 36 (c.out % 65536) w)

    kept : Between w v
    kept = between 12 _ w _ (between 18 _ w w (λ k. refl))

    go : (t : Bool) → Between w (if t then v else put 32 (c.sent % 65536) (put 30 (c.cursor % 65536) (put 28 (c.begun % 65536) (put 26 (c.jobs % 65536) v))))
    go true = kept
    go false = between 16 _ w _ (between 15 _ w _ (between 14 _ w _ (between 13 _ w v kept)))

pub between-rest : (c : Client) (w w' : ℕ → ℕ) → Between w w' → Between w (with_rest c w')
between-rest c w w' h = between-progress c w _ (between 9 _ w _ (between 8 _ w _ (between 7 _ w _ (between 6 _ w w' h))))

pub between-shape : (h : Shape) (w : ℕ → ℕ) → Between w (with_shape h w)
between-shape h w = between-six 0 h.n h.p h.l h.b h.e h.w w w (λ k. refl)

-- an answer whose numbers have room in one number of 64 bits
pub record Small (r : Answer) : Type 0 where
  pub number : r.number < 32
  pub kind : r.kind < 4
  pub partition : r.partition < 64
  pub level : r.level < 16
  pub slot : r.slot < 2048
  pub found : r.found < 16
  pub taken : r.taken < 4294967296

-- ..as that number, and back
abbrev pub packed : Answer → ℕ
packed r = (r.number + 32 * r.kind + 128 * r.partition + 8192 * r.level + 131072 * r.slot + 268435456 * r.found) + 4294967296 * r.taken

abbrev pub answer_of : ℕ → Client → Answer
answer_of u c = record {
  number = u % 32;
  taken = u / 4294967296;
  kind = u / 32 % 4;
  partition = u / 128 % 64;
  level = u / 8192 % 16;
  slot = u / 131072 % 2048;
  found = u / 268435456 % 16;
  client = c;
}

-- what is packed can be read off again
pub unpacked : (r : Answer) → Small r → (x : Client)
    → answer_of (packed r) x ≡ record { number = r.number; taken = r.taken; kind = r.kind; partition = r.partition; level = r.level; slot = r.slot; found = r.found; client = x }
unpacked r f x = λ k. record {
  number = number_is k;
  taken = taken_is k;
  kind = kind-is k;
  partition = partition-is k;
  level = level-is k;
  slot = slot_is k;
  found = found-is k;
  client = x;
}
  where
    number_is : packed r % 32 ≡ r.number
    number_is = omega arith

    taken_is : packed r / 4294967296 ≡ r.taken
    taken_is = omega arith

    kind-is : packed r / 32 % 4 ≡ r.kind
    kind-is = omega arith

    partition-is : packed r / 128 % 64 ≡ r.partition
    partition-is = omega arith

    level-is : packed r / 8192 % 16 ≡ r.level
    level-is = omega arith

    slot_is : packed r / 131072 % 2048 ≡ r.slot
    slot_is = omega arith

    found-is : packed r / 268435456 % 16 ≡ r.found
    found-is = omega arith

-- a word stored among others
pub word-put : (m : List ℕ) (k v : ℕ) → k * 2 + 1 < length m → v < 65536 → word_at (set_word m k v) ≡ put k v (word_at m)
word-put m k v l f = fun_ext (λ x. go x (ℕ_discrete x k))
  where
    go : (x : ℕ) → Dec (x ≡ k) → word_at (set_word m k v) x ≡ put k v (word_at m) x
    go x (yes e) = rw e (word_same m k v l f ∙ sym (put_same k v (word_at m)))
    go x (no n) = word-other m k v x n ∙ sym (put_other k v (word_at m) x n)
