-- Document 02, P6: "In every state that calls left, one definition in that order is proved to give exactly the reads sent." The definition is ReadPartition
-- of the partition reader (`read_partition`, rules/Reader). Which states these are is said in Terms (`CallsLeft`): after an open, and then through
-- any calls, refused ones among them, and loads of saved forms.
use Rattle.std.specs.Prelude.{◌≡◌, refl, ◌⊎◌, false, List, [], ◌++◌, map, ℕ, ◌-◌, ◌≤◌}
use Rattle.std.proofs.Math.Path.{ap}
use Rattle.std.proofs.Common.{sym, ◌∙◌, inl, inr, ⊎_elim, true≢false, append-nil, arith}
use Rattle.std.proofs.Math.Bool.{true}
use Rattle.std.proofs.lemmas.List.{map-append}
use Rattle.std.proofs.Math.Option.{some}
use Rattle.std.proofs.Math.Dec.{eqb}
use borrow.Author.Tests.{eq-eqb}
use Rattle.lists.specs.Search.{count}
use Rattle.rules.specs.Blocks.{is_unread}
use Rattle.rules.specs.Laws.Awaited.{Holds}
use Rattle.rules.specs.Laws.Found.{Between}
use Rattle.rules.specs.Laws.Reader.{level_in}
use Rattle.rules.proofs.Laws.Reader.{found-level}
use Rattle.rules.specs.Questions.{collect, Call, number}
use Rattle.rules.specs.Reader.{level_of, read_levels}
use Rattle.rules.specs.Request.{held, is_source}
use Rattle.rules.specs.Run.{step, run, after}
use Rattle.rules.specs.Shape.{cell}
use Rattle.rules.specs.State.{State, Command, stored, Found, Request}
use Rattle.rules.specs.Turn.{request_step}
use Rattle.reachable.proofs.Consequences.{block-lt}
use Rattle.reachable.specs.Invariant.{Own}
use Rattle.reachable.proofs.Live.{gathers-source}
use Rattle.reachable.proofs.Reached.{Was, live, shut, reachable}
use Rattle.reachable.proofs.ReadList
use Rattle.reachable.proofs.ReadsLeft.{remaining}
use Rattle.reachable.proofs.ReadsSent.{next-step}
use Rattle.reachable.proofs.ReadsRun.{Sends, run-sends, between-was, leaves-hand, released-first, collect-none}
use Rattle.reachable.proofs.Settled.{closed-hand}
use Rattle.reachable.specs.Terms.{CallsLeft, called, first_of, reads_sent, commands_told, as_read}

module _ (left : State) (calls : CallsLeft left) where
  -- The next read that is sent for a released request is the first that the reader gives for the levels that it has yet to pass; it sends none if
  -- the reader gives none
  pub next-read : (r : Request) → left.request ≡ some r → held r ≡ false
      → request_step left left.request ≡ first_of (left.partition r.block) (read_levels left r.block (count r.level (left.shape.L - r.level)))
  next-read r e u = go (reachable calls)
    where
      go : Was left → request_step left left.request ≡ first_of (left.partition r.block) (read_levels left r.block (count r.level (left.shape.L - r.level)))
      go (live f) = next-step left f r e u ∙ ap (first_of (left.partition r.block)) (unfold remaining in refl)
      go (shut w) = absurd (closed-hand left w r e)

  -- ReadReal of a level that is no source: the block's slot is unread there, until its read is sent
  pub own-unread : (r : Request) → left.request ≡ some r → (ℓ i : ℕ) → left.place r.block ≡ stored ℓ i → r.level ≤ ℓ → is_source left (left.partition r.block) ℓ ≡ false
      → is_unread left (left.partition r.block) ℓ i ≡ true
  unfolding is_unread
  own-unread r e ℓ i p l o = go (reachable calls)
    where
      go : Was left → eqb (left.mark (cell left.shape (left.partition r.block) ℓ i)) 1 ≡ true
      go (live f) = eq-eqb _ 1 (⊎_elim (λ m. m) (⊎_elim mine (λ g. absurd (true≢false (sym (gathers-source left f.running (left.partition r.block) ℓ g) ∙ o)))) (f.unread r.block ℓ i (block-lt left f r e) p))
        where
          mine : Own left r.block ℓ → left.mark (cell left.shape (left.partition r.block) ℓ i) ≡ 1
          mine k = let w : k.0 ≡ r = cc (k.1.0, e) in absurd (omega (arith, k.1.2, l, ap (λ (x : Request). x.level) w))
      go (shut w) = absurd (closed-hand left w r e)

  -- Over runs: call k is the one after which a request r is released, its own acceptance or a later one, and `now` is the state that k left; there the
  -- reader gives `list`. Calls ks follow, up to its collect: any but an open, a load or a collect that is accepted
  module _ (k : Call) (before : Holds left.request) (r : Request) (in_hand : (step left k).0.request ≡ some r) (u : held r ≡ false) (ks : List Call) (between : Between (step left k).0 ks) where
    abbrev now : State
    now = (step left k).0

    abbrev list : List (ℕ × ℕ)
    list = ReadList.list left calls k before r in_hand u ks between

    was : Was now
    was = reachable (called k calls (leaves-hand left k r in_hand) refl)

    sends : Sends now ks r
    sends = run-sends ks now was r in_hand u between

    whole : remaining now r ≡ list
    whole = ReadList.whole left calls k before r in_hand u ks between

    -- the reads that turns have sent for r are the first of the list, in its order
    pub reads_first : (rest : List (ℕ × ℕ)) × (reads_sent now ks ++ rest ≡ list)
    reads_first = (remaining (after now ks) sends.asked, sym sends.left ∙ whole)

    -- 1) is done once: the level that was found at the release (P2) is that of the block's place in every state up to the collect
    pub level-once : (x : Found) → r.found ≡ some x → level_of ((after now ks).place r.block) ≡ level_in x
    level-once x e =
        let y = (released-first left (reachable calls) k before r in_hand u).1 in
        ap level_of sends.place ∙ sym (found-level now r.block) ∙ ap level_in (same (sym y ∙ e))
      where
        same : {x y : Found} → some x ≡ some y → x ≡ y
        same w = cc

    -- what is told over the outcomes alone: the commands since the release are the first of the list's reads, or all of them and then others
    pub told-first : ((rest : List Command) × (commands_told (run now ks) ++ rest ≡ map (as_read (now.partition r.block)) list)) ⊎ ((rest : List Command) × (commands_told (run now ks) ≡ map (as_read (now.partition r.block)) list ++ rest))
    told-first = ⊎_elim (λ a. inl (
      map g (remaining (after now ks) sends.asked),
      ap (λ x. x ++ map g (remaining (after now ks) sends.asked)) a
          ∙ sym (map-append g (reads_sent now ks) (remaining (after now ks) sends.asked))
          ∙ ap (map g) (sym sends.left ∙ whole),
    ))
        (λ a. inr (a.0, a.1 ∙ ap (λ x. map g x ++ a.0) whole)) sends.tells
      where
        g : ℕ × ℕ → Command
        g = as_read (now.partition r.block)

    -- ..and when r is collected: by call n
    module _ (n : Call) (e : n.ask ≡ collect) (z : number (after now ks) n ≡ 0) where
      over : remaining (after now ks) sends.asked ≡ []
      over = collect-none (after now ks) (between-was ks now was between) sends.asked sends.in_hand n e z

      -- the reads that turns have sent for it are the whole list
      pub reads_whole : reads_sent now ks ≡ list
      reads_whole = sym (append-nil (reads_sent now ks)) ∙ ap (λ x. reads_sent now ks ++ x) (sym over) ∙ sym sends.left ∙ whole

      -- told: all of them, and then others
      pub told-whole : (rest : List Command) × (commands_told (run now ks) ≡ map (as_read (now.partition r.block)) list ++ rest)
      told-whole = ⊎_elim (λ b. ([], b ∙ ap (map g) reads_whole ∙ sym (append-nil (map g list)))) (λ b. (b.0, b.1 ∙ ap (λ x. map g x ++ b.0) whole)) sends.tells
        where
          g : ℕ × ℕ → Command
          g = as_read (now.partition r.block)
