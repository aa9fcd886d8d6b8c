-- Answers as records.
use Rattle.std.specs.Prelude.{◌≡◌, ℕ, ◌≤◌, Result, Ok, Err}
use Rattle.std.proofs.Common.{arith}
use Rattle.client.specs.declared.Client.{Client}
use Rattle.client.specs.Moves.{no_request}
use Rattle.contract.specs.declared.Accepted.{Accepted}
use Rattle.contract.specs.declared.Refusal.{Refusal}
use Rattle.contract.specs.declared.Refusal.TheVariants.{Bounds, Unready, Words, InHand, Block, Contents, QueueFull, CacheFull, WindowFull, NothingToSend, NotOutstanding, Bytes, NoRequest, Unfinished, Buffer, NotAtRest, Sums, Form}

-- The number of a call (0 accepts), the words taken, the command sent (zeros for none), where a collected block was found, and the next state
pub record Answer : Type 0 where
  pub number : ℕ
  pub taken : ℕ
  pub kind : ℕ
  pub partition : ℕ
  pub level : ℕ
  pub slot : ℕ
  pub found : ℕ
  pub client : Client

-- A refusal's number: docs/RULES.md, "The five calls", and 16 to 18 of "Saving the client"
abbrev pub number_of : Refusal → ℕ
number_of Bounds = 1
number_of Unready = 2
number_of Words = 3
number_of InHand = 4
number_of Block = 5
number_of Contents = 6
number_of QueueFull = 7
number_of CacheFull = 8
number_of WindowFull = 9
number_of NothingToSend = 10
number_of NotOutstanding = 11
number_of Bytes = 12
number_of NoRequest = 13
number_of Unfinished = 14
number_of Buffer = 15
number_of NotAtRest = 16
number_of Sums = 17
number_of Form = 18

pub refusal-in : (e : Refusal) → (1 ≤ number_of e) × (number_of e ≤ 18)
refusal-in e = grind arith

pub refusal-some : (e : Refusal) → number_of e ≡ 0 → ⊥
refusal-some e z = omega (arith, refusal-in e)

abbrev pub refused_with : ℕ → Client → Answer
refused_with n c = record { number = n; taken = 0; kind = 0; partition = 0; level = 0; slot = 0; found = 0; client = c }

-- an accepted call that takes n words and sends the command of kind k to slot i of level l of partition q; one that sends none has zeros there
abbrev pub accepted_with : Client → ℕ → ℕ → ℕ → ℕ → ℕ → Answer
accepted_with c n k q l i = record { number = 0; taken = n; kind = k; partition = q; level = l; slot = i; found = 0; client = c }

-- an accepted collect, whose block was found where the number x says
abbrev pub collected_with : Client → ℕ → Answer
collected_with c x = record { number = 0; taken = 0; kind = 0; partition = 0; level = 0; slot = 0; found = x; client = c }

-- the answer of an accepted call
abbrev pub accepted_as : Accepted → Answer
accepted_as r = record { number = 0; taken = r.taken; kind = r.kind; partition = r.partition; level = r.level; slot = r.slot; found = r.found; client = r.client }

-- .. and of any call, of which a refusal leaves the client c
abbrev pub answered : Client → Result Accepted Refusal → Answer
answered c (Ok r) = accepted_as r
answered c (Err e) = refused_with (number_of e) c

-- .. of which the length alone is told, as of a save and of a page
abbrev pub answered_length : Client → Result ℕ Refusal → Answer
answered_length c (Ok n) = accepted_with c n 0 0 0 0
answered_length c (Err e) = refused_with (number_of e) c

-- the number of questions that are all answered yes, or of the first no
abbrev pub code_of : Result Unit Refusal → ℕ
code_of (Ok _) = 0
code_of (Err e) = number_of e

-- the closed state, all zeros
abbrev pub cleared_client : Client
cleared_client = record {
  shape = record { n = 0; p = 0; l = 0; b = 0; e = 0; w = 0 };
  request = no_request;
  jobs = 0;
  begun = 0;
  cursor = 0;
  sent = 0;
  waiting = 0;
  out = 0;
}
