-- Clause A at the process of an event: the holder at rest. A forward that keeps the envelope found it unwanted, so its
-- right had not asked for it either, since that would have set the marker; news are set by every event that could end
-- the rest, and cleared only by a put.
use Prim.Native.Nat.{ℕ, ◌≤◌}
use mathlib.Core.Path.{◌≡◌, refl, sym, subst, ◌∙◌}
use mathlib.Core.Bool.{Bool, true, false, beq, true≢false, false≢true}
use lib.Dec.{eqb}
use Rattle.machine.specs.declared.Envelope.{Envelope}
use Rattle.machine.specs.declared.Process.{Process}
use Rattle.machine.specs.declared.Reaction.{Reaction}
use Rattle.machine.specs.declared.Outcome.TheVariants.{Got}
use Rattle.machine.specs.Fields.{Status, full, empty, for}
use Rattle.machine.specs.Stages.{plain, told}
use Rattle.machine.specs.Events.{ask, pass, mark, clear, wanted, leave, set_markers, forward, ends, relay, wait}
use Rattle.machine.specs.Events.{end_put, start_put, start_get, work, signal, receive, take_request, put, react}
use Rattle.machine.proofs.Laws.Lists.{or_first, or_second}
use Rattle.machine.proofs.Soundness.Ways.{by_test, by_stage, every_code}
use Rattle.machine.proofs.Soundness.Sums.{marks_for}
use Rattle.machine.proofs.Soundness.Owed.{Owed, begun, begun_owed, ask_owed, pass_owed, forward_owed, clear_owed}
use Rattle.machine.proofs.Soundness.Owed.{off_stays, off_left}
use Rattle.machine.proofs.Soundness.Settled.{Fits, had_at, plain_each, other_status, waits_for, mark_waiting}
use Rattle.machine.proofs.Balance.Clauses.{resting, RestsOf, AtRest}
use Rattle.machine.proofs.Balance.Pairs.{either_for}
use Rattle.machine.proofs.Balance.Stages.{waits_for_none, waits_same, may_for, calm_restless}

-- the clause, of what an event comes to
abbrev Rested : Reaction → Type 0
Rested r = AtRest r.envelope r.process

-- the same where the stage is known
abbrev RestsWith : ℕ → Reaction → Type 0
RestsWith stage r =
    RestsOf stage r.envelope.full (wanted r.envelope) (for r.process.asked r.envelope.full)

-- and the process has the envelope
abbrev RestsAt : ℕ → Reaction → Type 0
RestsAt stage r = r.process.have ≡ true → RestsWith stage r

-- ---- a forward

-- what the right asked for sets its marker
asked_heeded : (s : Status) (r : Reaction) → for (set_markers r).envelope.marker s ≡ false
    → for r.process.asked s ≡ false
unfolding set_markers
asked_heeded s r off =
    or_second (for r.envelope.marker s) (for r.process.asked s)
    (sym (either_for r.envelope.marker r.process.asked s) ∙ off)

forward_rests : (r : Reaction) (stage : ℕ) → eqb stage 10 ≡ false → eqb stage (waits_for r.envelope.full) ≡ false
    → RestsAt stage (forward r)
unfolding forward set_markers leave wanted
forward_rests r stage over waits =
    by_test (RestsAt stage) (wanted (set_markers r).envelope) _ _ (λ _ had. absurd (false≢true had))
    (λ off _. record {
      over = over;
      waits = waits;
      unwanted = off;
      unasked =
          asked_heeded r.envelope.full r
          (or_first (for (set_markers r).envelope.marker r.envelope.full) _ off);
    })

-- ---- a put, by the stage that it finds

module _ (e : Envelope) (p : Process) (fits : Fits e p) where
  -- the put as it begins, and what it owes
  abbrev start : Reaction
  start = begun e p

  start_owed : Owed e p start
  start_owed = begun_owed e p fits.marked

  -- without the envelope nothing is claimed
  away : (r : Reaction) → Owed e p r → p.have ≡ false → Rested r
  away r o off had = absurd (true≢false (sym had ∙ off_stays e p r o off))

  -- a forward at a known stage
  rests_at : (r : Reaction) (k : ℕ) → r.process.stage ≡ k → RestsAt k r → Rested r
  rests_at r k here rests had _ _ =
      subst (λ (n : ℕ). RestsWith n r) (sym here) (rests had)

  -- stages 0, 1 and 6
  relay_rests : plain p.stage ≡ true → Rested (relay start)
  unfolding relay
  relay_rests is_plain =
      by_test Rested p.have _ _
      (λ had.
      rests_at (forward start) p.stage (forward_owed e p start had start_owed).stage_same
      (forward_rests start p.stage
      (plain_each (λ (k : ℕ). eqb k 10 ≡ false) refl refl refl p.stage is_plain)
      (plain_each (λ (k : ℕ). eqb k (waits_for e.full) ≡ false) (waits_for_none 0 refl refl e.full)
      (waits_for_none 1 refl refl e.full) (waits_for_none 6 refl refl e.full) p.stage is_plain)))
      (λ off. away (pass start) (pass_owed e p start start_owed) off)

  -- stages 2 and 7, waiting for s
  wait_rests : (s : Status) → p.stage ≡ waits_for s → Rested (wait s (may_for s) start)
  unfolding wait mark
  wait_rests s here =
      by_test Rested p.have _ _
      (λ had. by_test Rested (beq e.full s) _ _
      (λ _ _ _ is_resting. absurd (true≢false (sym is_resting ∙ may_restless s)))
      (λ differs.
      let m = mark_waiting e p fits s here (other_status e.full s differs) in
      rests_at (forward (mark start)) p.stage (forward_owed e p (mark start) had m).stage_same
      (forward_rests (mark start) p.stage (rw here (waiting_wants s))
      (rw (m.status_same, here) (waits_same s e.full ∙ differs)))))
      (λ off. away (pass (ask s start)) (pass_owed e p (ask s start) (ask_owed e p s start start_owed)) off)
    where
      waiting_wants : (s : Status) → eqb (waits_for s) 10 ≡ false
      waiting_wants true = refl
      waiting_wants false = refl

      may_restless : (s : Status) → resting (may_for s) ≡ false
      may_restless true = refl
      may_restless false = refl

  -- the count is at least the own mark
  module _ (own : (s : Status) → marks_for s p ≤ for e.marked s) where
    -- stage 5: where the envelope left nothing is claimed, else it stays in stage 5
    send_rests : p.stage ≡ 5 → Rested (end_put (forward (clear empty start)))
    unfolding end_put ends
    send_rests here =
        let had = had_at e p fits 5 here refl in
        let r = forward (clear empty start) in
        let o = forward_owed e p (clear empty start) had (clear_owed e p own empty start start_owed) in
        by_test Rested r.leaves _ _
        (λ left had. absurd (true≢false (sym had ∙ off_left e p r o left)))
        (λ _. rests_at r 5 (o.stage_same ∙ here)
        (forward_rests (clear empty start) 5 refl (waits_for_none 5 refl refl (clear empty start).envelope.full)))

    -- stage 10: the get ends, in stage 0
    get_rests : Rested (ends Got (forward (clear full start)))
    unfolding ends
    get_rests had _ _ =
        forward_rests (clear full start) 0 refl (waits_for_none 0 refl refl (clear full start).envelope.full) had

    put_rests : AtRest e p → Rested (put e p)
    unfolding put
    put_rests before =
        by_test Rested p.news _ _
        (λ _. by_stage Rested p.stage start relay_rests (wait_rests empty) (wait_rests full) send_rests
        (λ _. get_rests)
        (λ calm _ _ rests. absurd (calm_restless p.stage fits.range calm rests)))
        (λ _. before)

-- ---- the other events

-- the get thread sets news
signal_news : (e : Envelope) (p : Process) → told p.stage ≡ true → (signal e p).process.news ≡ true
unfolding signal
signal_news e p is_told = rw is_told

receive_news : (e : Envelope) (p : Process) → p.arriving ≡ true → (receive e p).process.news ≡ true
unfolding receive
receive_news e p comes = rw comes

request_news : (s : Status) (e : Envelope) (p : Process) → for p.link s ≡ true
    → (take_request s e p).process.news ≡ true
unfolding take_request
request_news s e p asked = rw asked

module _ (e : Envelope) (p : Process) (before : AtRest e p) where
  -- a stage that isn't resting claims nothing, and nor do news
  start_put_rests : (m : ℕ) → Rested (start_put m e p)
  unfolding start_put
  start_put_rests m =
      by_test Rested (eqb p.stage 0) _ _ (λ _ _ _ is_resting. absurd (false≢true is_resting)) (λ _. before)

  start_get_rests : Rested (start_get e p)
  unfolding start_get
  start_get_rests =
      by_test Rested (eqb p.stage 0) _ _ (λ _ _ _ is_resting. absurd (false≢true is_resting)) (λ _. before)

  work_rests : Rested (work e p)
  unfolding work
  work_rests =
      by_test Rested (eqb p.stage 3) _ _ (λ _ _ _ is_resting. absurd (false≢true is_resting))
      (λ _. by_test Rested (eqb p.stage 8) _ _ (λ _ _ _ is_resting. absurd (false≢true is_resting)) (λ _. before))

  -- where an event of the get thread is possible there are news, else it is idle
  news_rest : (b : Bool) (r : Reaction) → (b ≡ true → r.process.news ≡ true) → (b ≡ false → Rested r) → Rested r
  news_rest true r news idles = λ had quiet. absurd (true≢false (sym (news refl) ∙ quiet))
  news_rest false r news idles = idles refl

  signal_rests : Rested (signal e p)
  unfolding signal
  signal_rests = news_rest (told p.stage) (signal e p) (signal_news e p) (λ off. rw off before)

  receive_rests : Rested (receive e p)
  unfolding receive
  receive_rests = news_rest p.arriving (receive e p) (receive_news e p) (λ off. rw off before)

  request_rests : (s : Status) → Rested (take_request s e p)
  unfolding take_request
  request_rests s = news_rest (for p.link s) (take_request s e p) (request_news s e p) (λ off. rw off before)

-- any event, by its code
pub react_rests : (e : Envelope) (p : Process) → Fits e p → ((s : Status) → marks_for s p ≤ for e.marked s)
    → (code m : ℕ) → AtRest e p
    → AtRest (react code m e p).envelope (react code m e p).process
react_rests e p fits own code m before =
    every_code Rested code m e p (start_put_rests e p before m) (start_get_rests e p before) (work_rests e p before)
    (signal_rests e p before) (receive_rests e p before) (request_rests e p before) (put_rests e p fits own before)
    before
