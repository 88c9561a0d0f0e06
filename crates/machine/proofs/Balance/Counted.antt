-- What one event owes for the counts and the messages. An event takes its process from one stage to another, and at the
-- two stages the numbers compute: a start enters its stages, a fill and a take the stages that follow them, an end
-- leaves both. Main fills the envelope only when it is empty and takes only when it is full; a put keeps the message,
-- and its stage and outcome until it turns or ends.
use Prim.Native.Nat.{ℕ, ◌+◌}
use mathlib.Core.Path.{◌≡◌, refl, sym, ap, ◌∙◌}
use mathlib.Core.Bool.{Bool, true, false, not, ◌&&◌, beq, not-not, and-false}
use mathlib.Core.List.{[], ◌++◌, append-nil}
use lib.ListN.{length}
use lib.Dec.{eqb}
use borrow.Author.Tests.{eqb-true}
use Rattle.machine.specs.declared.Envelope.{Envelope}
use Rattle.machine.specs.declared.Process.{Process}
use Rattle.machine.specs.declared.Outcome.{Outcome}
use Rattle.machine.specs.declared.Outcome.TheVariants.{Moved, Got}
use Rattle.machine.specs.declared.Reaction.{Reaction}
use Rattle.machine.specs.Bytes.{bit}
use Rattle.machine.specs.Fields.{Status, full, empty, for}
use Rattle.machine.specs.Stages.{told, sending, filled, receiving}
use Rattle.machine.specs.Run.{outcome_number}
use Rattle.machine.specs.Balance.{filled_by, taken_by, own_message}
use Rattle.machine.specs.Events.{idle, ask, pass, mark_for, mark, unmark, clear, wanted, leave, set_markers}
use Rattle.machine.specs.Events.{forward, ends, relay, wait, end_put}
use Rattle.machine.specs.Events.{start_put, start_get, work, signal, receive, take_request, put, react}
use Rattle.machine.proofs.Laws.Lists.{and_first, and_second}
use Rattle.machine.proofs.Soundness.Ways.{choice, by_test, pass_keeps, by_stage, by_code}
use Rattle.machine.proofs.Soundness.Owed.{begun}
use Rattle.machine.proofs.Soundness.Settled.{Fits, told_each, at_stage}
use Rattle.machine.proofs.Balance.Clauses.{emptied}

-- ---- the counts at two stages

-- a set of stages: what is added enters it, and what is over leaves it
abbrev pub Level : (ℕ → Bool) → ℕ → Bool → ℕ → ℕ → Type 0
Level stages added over before after = bit (stages after) + bit over ≡ bit (stages before) + added

-- an event that takes its process from one stage to another, with outcome o
pub record StageCounts (code : ℕ) (o : Outcome) (before after : ℕ) : Type 0 where
  pub puts : Level sending (bit (eqb code 0 && not (eqb (outcome_number o) 0))) (eqb (outcome_number o) 4) before after
  pub gets : Level receiving (bit (eqb code 1 && not (eqb (outcome_number o) 0))) (eqb (outcome_number o) 5) before
      after
  pub fills : Level filled (length (filled_by o)) (eqb (outcome_number o) 4) before after
  pub takes : Level emptied (length (taken_by o)) (eqb (outcome_number o) 5) before after

-- from the four, each of which computes at two stages
counts : {code : ℕ} {o : Outcome} {before after : ℕ}
    → Level sending (bit (eqb code 0 && not (eqb (outcome_number o) 0))) (eqb (outcome_number o) 4) before after
    → Level receiving (bit (eqb code 1 && not (eqb (outcome_number o) 0))) (eqb (outcome_number o) 5) before after
    → Level filled (length (filled_by o)) (eqb (outcome_number o) 4) before after
    → Level emptied (length (taken_by o)) (eqb (outcome_number o) 5) before after
    → StageCounts code o before after
counts puts gets fills takes = record { puts = puts; gets = gets; fills = fills; takes = takes }

-- one event at p
module _ (e : Envelope) (p : Process) (fits : Fits e p) (m : ℕ) where
  -- what it counts, and what becomes of the messages
  abbrev Tallies : ℕ → Reaction → Type 0
  Tallies code r =
      StageCounts code r.outcome p.stage r.process.stage
      × (own_message e ++ filled_by r.outcome ≡ taken_by r.outcome ++ own_message r.envelope)

  -- no message filled or taken
  unfilled : own_message e ++ [] ≡ own_message e
  unfilled = append-nil (own_message e)

  nothing : (code : ℕ) → Tallies code (idle e p)
  nothing code = (counts (rw and-false) (rw and-false) refl refl, unfilled)

  -- ---- main's events

  start_put_lem : Tallies 0 (start_put m e p)
  unfolding start_put
  start_put_lem =
      by_test (Tallies 0) (eqb p.stage 0) _ _
      (λ found. (rw (eqb-true p.stage 0 found) (counts refl refl refl refl), unfilled)) (λ _. nothing 0)

  start_get_lem : Tallies 1 (start_get e p)
  unfolding start_get
  start_get_lem =
      by_test (Tallies 1) (eqb p.stage 0) _ _
      (λ found. (rw (eqb-true p.stage 0 found) (counts refl refl refl refl), unfilled)) (λ _. nothing 1)

  -- stage 3 has it empty, stage 8 full
  works : Tallies 2 (work e p)
  unfolding work
  works =
      by_test (Tallies 2) (eqb p.stage 3) _ _
      (λ found.
      let has = and_first (p.have && not e.full) true (at_stage e p fits 3 (eqb-true p.stage 3 found)).has in
      let is_empty : e.full ≡ false = sym (not-not _) ∙ ap not (and_second p.have (not e.full) has) in
      (rw (eqb-true p.stage 3 found) (counts refl refl refl refl), rw is_empty))
      (λ _. by_test (Tallies 2) (eqb p.stage 8) _ _
      (λ found.
      let is_full = and_second p.have e.full (at_stage e p fits 8 (eqb-true p.stage 8 found)).has in
      (rw (eqb-true p.stage 8 found) (counts refl refl refl refl), rw is_full))
      (λ _. nothing 2))

  -- ---- the get thread's events

  -- 1 to 2, 4 to 5, 6 to 7, 9 to 10: no set of stages is entered or left
  signals : Tallies 3 (signal e p)
  unfolding signal
  signals =
      by_test (Tallies 3) (told p.stage) _ _ (λ is_told. (next is_told, unfilled)) (λ _. nothing 3)
    where
      next : told p.stage ≡ true → StageCounts 3 Moved p.stage (p.stage + 1)
      next =
          told_each (λ (k : ℕ). StageCounts 3 Moved k (k + 1)) (counts refl refl refl refl) (counts refl refl refl refl)
          (counts refl refl refl refl) (counts refl refl refl refl) p.stage

  receives : Tallies 4 (receive e p)
  unfolding receive
  receives = choice (Tallies 4) p.arriving _ _ (counts refl refl refl refl, unfilled) (nothing 4)

  -- codes 5 and 6
  hears : (code : ℕ) (s : Status) → eqb code 0 ≡ false → eqb code 1 ≡ false → Tallies code (take_request s e p)
  unfolding take_request
  hears code s not_0 not_1 =
      choice (Tallies code) (for p.link s) _ _ (counts (rw not_0) (rw not_1) refl refl, unfilled) (nothing code)

  -- ---- put

  -- it hasn't ended: the outcome is still moved; the stage and the message stay
  abbrev Under : Reaction → Type 0
  Under r =
      (r.outcome ≡ Moved) × (r.process.stage ≡ p.stage) × (own_message r.envelope ≡ own_message e)

  ask_under : (s : Status) (r : Reaction) → Under r → Under (ask s r)
  unfolding ask
  ask_under s r h = choice Under (for r.process.itself s) _ _ h h

  mark_under : (r : Reaction) → Under r → Under (mark r)
  unfolding mark mark_for
  mark_under r h = choice Under (for r.process.mark (not r.envelope.full)) _ _ h h

  clear_under : (s : Status) (r : Reaction) → Under r → Under (clear s r)
  unfolding clear unmark
  clear_under s r h = choice Under (for r.process.mark s) _ _ h h

  forward_under : (r : Reaction) → Under r → Under (forward r)
  unfolding forward set_markers leave
  forward_under r h = choice Under (wanted (set_markers r).envelope) _ _ h h

  -- so it counts nothing
  under : (r : Reaction) → Under r → Tallies 7 r
  under r h = (rw (h.0, h.1) (counts refl refl refl refl), rw (h.0, h.2) unfilled)

  -- as it begins
  begins : Under (begun e p)
  begins = (refl, refl, refl)

  relays : Tallies 7 (relay (begun e p))
  unfolding relay
  relays =
      choice (Tallies 7) p.have _ _ (under (forward (begun e p)) (forward_under (begun e p) begins))
      (under (pass (begun e p)) (pass_keeps Under ask_under (begun e p) begins))

  -- where the envelope is as it waits for, it turns to the stage `next`
  waits : (s : Status) (next : ℕ) → StageCounts 7 Moved p.stage next → Tallies 7 (wait s next (begun e p))
  unfolding wait
  waits s next turn =
      choice (Tallies 7) p.have _ _
      (choice (Tallies 7) (beq e.full s) _ _ (turn, unfilled)
      (under (forward (mark (begun e p))) (forward_under (mark (begun e p)) (mark_under (begun e p) begins))))
      (under (pass (ask s (begun e p)))
      (pass_keeps Under ask_under (ask s (begun e p)) (ask_under s (begun e p) begins)))

  -- stages 5 and 10 clear and forward
  clears : (s : Status) → Under (forward (clear s (begun e p)))
  clears s = forward_under (clear s (begun e p)) (clear_under s (begun e p) begins)

  -- then an end leaves the stages of a put, or of a get
  sends : p.stage ≡ 5 → Tallies 7 (end_put (forward (clear empty (begun e p))))
  unfolding end_put ends
  sends here =
      let r = forward (clear empty (begun e p)) in
      choice (Tallies 7) r.leaves _ _ (rw here (counts refl refl refl refl), rw (clears empty).2 unfilled)
      (under r (clears empty))

  gets : p.stage ≡ 10 → Tallies 7 (ends Got (forward (clear full (begun e p))))
  unfolding ends
  gets here = (rw here (counts refl refl refl refl), rw (clears full).2 unfilled)

  puts : Tallies 7 (put e p)
  unfolding put
  puts =
      choice (Tallies 7) p.news _ _
      (by_stage (Tallies 7) p.stage (begun e p) (λ _. relays)
      (λ here. waits empty 3 (rw here (counts refl refl refl refl)))
      (λ here. waits full 8 (rw here (counts refl refl refl refl))) sends gets (λ _. under (begun e p) begins))
      (nothing 7)

  -- ---- any event, by its code

  reacts : (code : ℕ) → Tallies code (react code m e p)
  reacts =
      by_code Tallies m e p start_put_lem start_get_lem works signals receives (hears 5 full refl refl)
      (hears 6 empty refl refl) puts nothing

  pub react_counts : (code : ℕ)
      → StageCounts code (react code m e p).outcome p.stage (react code m e p).process.stage
  react_counts code = (reacts code).0

  pub react_messages : (code : ℕ)
      → own_message e ++ filled_by (react code m e p).outcome
      ≡ taken_by (react code m e p).outcome ++ own_message (react code m e p).envelope
  react_messages code = (reacts code).1
