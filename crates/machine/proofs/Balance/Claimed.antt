-- Clause B at the process of an event: a message is wanted or its sender still has it. No part of a put but a clear
-- lowers a marker or a count; the clear for full meets an empty envelope; and a put that filled it ends only where it
-- left, which it does only wanted.
use Prim.Native.Nat.{ℕ, suc, ◌+◌, ◌≤◌}
use mathlib.Core.Path.{◌≡◌, refl, sym, ap, ◌∙◌}
use mathlib.Core.Bool.{Bool, true, false, not, ◌&&◌, ◌||◌, beq, and-false, true≢false, false≢true}
use lib.Dec.{eqb}
use borrow.Author.Tests.{eqb-true}
use Rattle.machine.specs.declared.Pair.{Pair}
use Rattle.machine.specs.declared.Envelope.{Envelope}
use Rattle.machine.specs.declared.Process.{Process}
use Rattle.machine.specs.declared.Reaction.{Reaction}
use Rattle.machine.specs.declared.Outcome.TheVariants.{Got}
use Rattle.machine.specs.Fields.{Status, full, empty, for, either, with}
use Rattle.machine.specs.Stages.{told, filled}
use Rattle.machine.specs.Events.{idle, ask, pass, mark_for, mark, unmark, clear, positive, wanted, leave}
use Rattle.machine.specs.Events.{set_markers, forward, ends, relay, wait, end_put}
use Rattle.machine.specs.Events.{start_put, start_get, work, signal, receive, take_request, put, react}
use Rattle.machine.proofs.Laws.Lists.{and_first, or_second}
use Rattle.machine.proofs.Soundness.Ways.{by_test, choice, by_stage, every_code}
use Rattle.machine.proofs.Soundness.Sums.{marks_for}
use Rattle.machine.proofs.Soundness.Owed.{Owed, begun, begun_owed, ask_owed, pass_owed, forward_owed, clear_owed}
use Rattle.machine.proofs.Soundness.Settled.{Fits, told_each, at_stage, had_at, other_status, waits_for}
use Rattle.machine.proofs.Soundness.Settled.{mark_waiting}
use Rattle.machine.proofs.Balance.Clauses.{unclaimed}
use Rattle.machine.proofs.Balance.Pairs.{either_for}
use Rattle.machine.proofs.Balance.Stages.{may_for}
use Rattle.machine.proofs.Balance.Header.{pass_alone, ask_pass_alone}

-- what an event owes: if the envelope is unclaimed after it and its process isn't among those that filled it, both
-- were so before
abbrev pub Claims : Envelope → Process → Reaction → Type 0
Claims e p r =
    unclaimed r.envelope ≡ true → filled r.process.stage ≡ false
    → (unclaimed e ≡ true) × (filled p.stage ≡ false)

-- an event that changes neither
unmoved : (e : Envelope) (p : Process) → Claims e p (idle e p)
unmoved e p claim outside = (claim, outside)

-- ---- parts that lower no marker and no count

-- what was claimed stays so: unclaimed after a part, unclaimed before it
abbrev StaysWanted : Envelope → Envelope → Type 0
StaysWanted old new = unclaimed new ≡ true → unclaimed old ≡ true

-- what is full and not wanted, and was no less wanted
less_wanted : (status a b : Bool) → (a ≡ false → b ≡ false) → status && not a ≡ true → status && not b ≡ true
less_wanted true true b fewer e = absurd (false≢true e)
less_wanted true false b fewer e = ap not (fewer refl)
less_wanted false a b fewer e = e

-- one more is marked
mark_wanted : (m : Pair Bool) (c : Pair ℕ) (s t : Status)
    → for m t || positive (for (with c s (suc (for c s))) t) ≡ false
    → for m t || positive (for c t) ≡ false
mark_wanted m c true true off = absurd (true≢false (or_second m.full true off))
mark_wanted m c true false off = off
mark_wanted m c false true off = off
mark_wanted m c false false off = absurd (true≢false (or_second m.empty true off))

-- the right's wishes are added
heed_wanted : (m a : Pair Bool) (c : Bool) (t : Status) → for (either m a) t || c ≡ false → for m t || c ≡ false
heed_wanted m a c t off = fewer (for m t) (for a t) c (ap (λ (b : Bool). b || c) (sym (either_for m a t)) ∙ off)
  where
    fewer : (x y z : Bool) → (x || y) || z ≡ false → x || z ≡ false
    fewer true y z off = off
    fewer false true z off = absurd (true≢false off)
    fewer false false z off = off

mark_stays : (r : Reaction) → StaysWanted r.envelope (mark r).envelope
unfolding mark mark_for wanted
mark_stays r =
    let marked = for r.process.mark (not r.envelope.full) in
    by_test (λ (t : Reaction). StaysWanted r.envelope t.envelope) marked _ _ (λ _ off. off)
    (λ _. less_wanted r.envelope.full _ _
    (mark_wanted r.envelope.marker r.envelope.marked (not r.envelope.full) r.envelope.full))

forward_stays : (r : Reaction) → StaysWanted r.envelope (forward r).envelope
unfolding forward set_markers leave wanted
forward_stays r =
    choice (λ (t : Reaction). StaysWanted r.envelope t.envelope) (wanted (set_markers r).envelope) _ _ fewer fewer
  where
    fewer : StaysWanted r.envelope (set_markers r).envelope
    fewer = less_wanted r.envelope.full _ _ (heed_wanted r.envelope.marker _ _ r.envelope.full)

-- where a forward lets it leave, it is wanted
forward_wanted : (r : Reaction) → r.leaves ≡ false → (forward r).leaves ≡ true → wanted (forward r).envelope ≡ true
unfolding forward set_markers leave
forward_wanted r here =
    by_test (λ (t : Reaction). t.leaves ≡ true → wanted t.envelope ≡ true) (wanted (set_markers r).envelope) _ _
    (λ it_is_wanted _. it_is_wanted) (λ _ left. absurd (true≢false (sym left ∙ here)))

-- ---- a put, by the stage that it finds

-- a put in stage 5 ends only if the envelope left
send_stays : (r : Reaction) → r.leaves ≡ false → (end_put r).process.stage ≡ r.process.stage
unfolding end_put
send_stays r here = rw here

-- and leaves the envelope as the forward did
send_alone : (r : Reaction) → (end_put r).envelope ≡ r.envelope
unfolding end_put ends
send_alone r = choice (λ (t : Reaction). t.envelope ≡ r.envelope) r.leaves _ _ refl refl

-- a clear lets nothing leave
clear_stays : (s : Status) (r : Reaction) → (clear s r).leaves ≡ r.leaves
unfolding clear unmark
clear_stays s r = choice (λ (t : Reaction). t.leaves ≡ r.leaves) (for r.process.mark s) _ _ refl refl

-- full and wanted is claimed
wanted_claimed : (status is_wanted : Bool) → is_wanted ≡ true → status && not is_wanted ≡ true → ⊥
wanted_claimed status true on e = absurd (false≢true (sym (and-false status) ∙ e))
wanted_claimed status false on e = absurd (false≢true on)

module _ (e : Envelope) (p : Process) (fits : Fits e p) where
  abbrev start : Reaction
  start = begun e p

  start_owed : Owed e p start
  start_owed = begun_owed e p fits.marked

  -- where the stage stays and nothing is lowered
  same_stage : (r : Reaction) → r.process.stage ≡ p.stage → StaysWanted e r.envelope → Claims e p r
  same_stage r same stays claim outside = (stays claim, ap filled (sym same) ∙ outside)

  relay_claims : Claims e p (relay start)
  unfolding relay
  relay_claims =
      by_test (Claims e p) p.have _ _
      (λ had. same_stage (forward start) (forward_owed e p start had start_owed).stage_same (forward_stays start))
      (λ _. same_stage (pass start) (pass_owed e p start start_owed).stage_same
      (λ claim. sym (ap unclaimed (pass_alone start)) ∙ claim))

  wait_claims : (s : Status) → p.stage ≡ waits_for s → Claims e p (wait s (may_for s) start)
  unfolding wait
  wait_claims s here =
      by_test (Claims e p) p.have _ _
      (λ had. by_test (Claims e p) (beq e.full s) _ _
      (λ _ claim _. (claim, ap filled here ∙ waiting_unfilled s))
      (λ differs.
      let m = mark_waiting e p fits s here (other_status e.full s differs) in
      same_stage (forward (mark start)) (forward_owed e p (mark start) had m).stage_same
      (λ claim. mark_stays start (forward_stays (mark start) claim))))
      (λ _. same_stage (pass (ask s start)) (pass_owed e p (ask s start) (ask_owed e p s start start_owed)).stage_same
      (λ claim. sym (ap unclaimed (ask_pass_alone s start)) ∙ claim))
    where
      waiting_unfilled : (s : Status) → filled (waits_for s) ≡ false
      waiting_unfilled true = refl
      waiting_unfilled false = refl

  -- the count is at least the own mark
  module _ (own : (s : Status) → marks_for s p ≤ for e.marked s) where
    -- stage 5: where the envelope left it is wanted, else the put is still in stage 5
    send_claims : p.stage ≡ 5 → Claims e p (end_put (forward (clear empty start)))
    send_claims here claim outside = go r.leaves refl
      where
        r : Reaction
        r = forward (clear empty start)

        o : Owed e p r
        o =
            forward_owed e p (clear empty start) (had_at e p fits 5 here refl)
            (clear_owed e p own empty start start_owed)

        go : (b : Bool) → r.leaves ≡ b → (unclaimed e ≡ true) × (filled p.stage ≡ false)
        go true left =
            let it_is_wanted = forward_wanted (clear empty start) (clear_stays empty start) left in
            let unclaimed_here = sym (ap unclaimed (send_alone r)) ∙ claim in
            absurd (wanted_claimed r.envelope.full (wanted r.envelope) it_is_wanted unclaimed_here)
        go false stays = absurd (true≢false (sym (ap filled (send_stays r stays ∙ o.stage_same ∙ here)) ∙ outside))

    -- stage 10: the envelope is empty
    get_claims : p.stage ≡ 10 → Claims e p (ends Got (forward (clear full start)))
    unfolding ends
    get_claims here claim =
        let r = forward (clear full start) in
        let had = had_at e p fits 10 here refl in
        let o = forward_owed e p (clear full start) had (clear_owed e p own full start start_owed) in
        let is_full = and_first r.envelope.full (not (wanted r.envelope)) claim in
        absurd (emptied_full p.have e.full (at_stage e p fits 10 here).has (sym o.status_same ∙ is_full))
      where
        emptied_full : (had status : Bool) → (had && not status) && true ≡ true → status ≡ true → ⊥
        emptied_full had true has on = absurd (false≢true (sym (rw (and-false had)) ∙ has))
        emptied_full had false has on = absurd (false≢true on)

    put_claims : Claims e p (put e p)
    unfolding put
    put_claims =
        by_test (Claims e p) p.news _ _
        (λ _. by_stage (Claims e p) p.stage start (λ _. relay_claims) (wait_claims empty) (wait_claims full)
        send_claims get_claims (λ _. unmoved e p))
        (λ _. unmoved e p)

-- ---- the other events

-- a told stage that isn't filled next isn't filled now
told_filled : (stage : ℕ) → told stage ≡ true → filled (stage + 1) ≡ false → filled stage ≡ false
told_filled =
    told_each (λ (k : ℕ). filled (k + 1) ≡ false → filled k ≡ false) (λ _. refl) (λ five. five) (λ _. refl) (λ _. refl)

module _ (e : Envelope) (p : Process) where
  start_put_claims : (m : ℕ) → Claims e p (start_put m e p)
  unfolding start_put
  start_put_claims m =
      by_test (Claims e p) (eqb p.stage 0) _ _
      (λ found claim _. (claim, ap filled (eqb-true p.stage 0 found))) (λ _. unmoved e p)

  start_get_claims : Claims e p (start_get e p)
  unfolding start_get
  start_get_claims =
      by_test (Claims e p) (eqb p.stage 0) _ _
      (λ found claim _. (claim, ap filled (eqb-true p.stage 0 found))) (λ _. unmoved e p)

  -- a fill comes to stage 4, and a take leaves it empty
  work_claims : Claims e p (work e p)
  unfolding work
  work_claims =
      by_test (Claims e p) (eqb p.stage 3) _ _ (λ _ _ outside. absurd (true≢false outside))
      (λ _. by_test (Claims e p) (eqb p.stage 8) _ _ (λ _ claim _. absurd (false≢true claim))
      (λ _. unmoved e p))

  signal_claims : Claims e p (signal e p)
  unfolding signal
  signal_claims =
      by_test (Claims e p) (told p.stage) _ _
      (λ is_told claim outside. (claim, told_filled p.stage is_told outside)) (λ _. unmoved e p)

  receive_claims : Claims e p (receive e p)
  unfolding receive
  receive_claims = choice (Claims e p) p.arriving _ _ (unmoved e p) (unmoved e p)

  request_claims : (s : Status) → Claims e p (take_request s e p)
  unfolding take_request
  request_claims s = choice (Claims e p) (for p.link s) _ _ (unmoved e p) (unmoved e p)

-- any event, by its code
pub react_claims : (e : Envelope) (p : Process) → Fits e p → ((s : Status) → marks_for s p ≤ for e.marked s)
    → (code m : ℕ) → Claims e p (react code m e p)
react_claims e p fits own code m =
    every_code (Claims e p) code m e p (start_put_claims e p m) (start_get_claims e p) (work_claims e p)
    (signal_claims e p) (receive_claims e p) (request_claims e p) (put_claims e p fits own)
    (unmoved e p)
