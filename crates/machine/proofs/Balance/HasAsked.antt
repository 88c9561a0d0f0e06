-- Who needs s and has rested has asked for it, after any event at its own process. A start comes to a stage that waits
-- for nothing; main works only with the envelope; the get thread leaves news, or the envelope. A put without the
-- envelope passes on what it was asked, and asks for what it waits for; with it, the envelope stays, or it leaves and
-- takes every asked bit along, from a stage that waits for nothing or is marked for what it waits for.
use Prim.Native.Nat.{ℕ}
use mathlib.Core.Path.{◌≡◌, refl, sym, ap, ◌∙◌}
use mathlib.Core.Bool.{Bool, true, false, not, ◌||◌, beq, true≢false}
use lib.Dec.{eqb}
use borrow.Author.Tests.{eqb-true}
use Rattle.machine.specs.declared.Pair.{Pair}
use Rattle.machine.specs.declared.Envelope.{Envelope}
use Rattle.machine.specs.declared.Process.{Process}
use Rattle.machine.specs.declared.Outcome.{Outcome}
use Rattle.machine.specs.declared.Outcome.TheVariants.{Got}
use Rattle.machine.specs.declared.Reaction.{Reaction}
use Rattle.machine.specs.Lists.{every}
use Rattle.machine.specs.Fields.{Status, full, empty, for, with_stage}
use Rattle.machine.specs.Stages.{plain, told}
use Rattle.machine.specs.Events.{ask, pass_for, pass, mark_for, mark, unmark, clear, wanted, leave, set_markers}
use Rattle.machine.specs.Events.{forward, ends, relay, wait, end_put}
use Rattle.machine.specs.Events.{start_put, start_get, work, signal, receive, take_request, put, react}
use Rattle.machine.proofs.Laws.Lists.{and_first, and_second, either_way, same_bool}
use Rattle.machine.proofs.Soundness.Ways.{pass_for_keeps, pass_keeps, by_test, moving, by_stage, every_code}
use Rattle.machine.proofs.Soundness.Owed.{begun}
use Rattle.machine.proofs.Soundness.Settled.{Fits, other_status, needs, had_at, waits_for}
use Rattle.machine.proofs.Balance.Pairs.{none_for, set_on, set_keeps}
use Rattle.machine.proofs.Balance.Clauses.{HasAsked}
use Rattle.machine.proofs.Balance.Stages.{at_stages, waits_same}

-- ---- stages

-- a stage waits for one status
waits_one : (s t : Status) → eqb (waits_for s) (waits_for t) ≡ true → s ≡ t
waits_one s t e = sym (same_bool t s (sym (waits_same s t) ∙ e))

-- stages that wait for nothing: 0, 1, 5, 6, 10
abbrev free : ℕ → Bool
free stage = plain stage || eqb stage 5 || eqb stage 10

-- and so for neither status
free_waits : {A : Type 0} (stage : ℕ) (t : Status) → free stage ≡ true → eqb stage (waits_for t) ≡ true → A
free_waits stage t here waits =
    absurd (true≢false (sym here ∙ ap free (eqb-true stage (waits_for t) waits) ∙ neither t))
  where
    neither : (t : Status) → free (waits_for t) ≡ false
    neither true = refl
    neither false = refl

-- a turn to such a stage asks for nothing more
turn_asked : (k : ℕ) (t : Status) (p : Process) → free k ≡ true → HasAsked t p → HasAsked t (with_stage k p)
turn_asked k t p is_free h away rested =
    either_way (for p.asked t) _ (λ on. h away rested (rw on))
    (λ waits. free_waits k t is_free (and_first _ (not (for p.mark t)) waits))

-- nor does an end
ends_asked : (o : Outcome) (r : Reaction) (t : Status) → HasAsked t r.process → HasAsked t (ends o r).process
unfolding ends
ends_asked o r t = turn_asked 0 t r.process refl

-- ---- without the envelope: ask and pass

-- what is wanted, as the asked bits and the stage tell, was asked for
module _ (t : Status) (wants : Pair Bool → ℕ → Bool) where
  abbrev Meets : Reaction → Type 0
  Meets r = wants r.process.asked r.process.stage ≡ true → for r.process.itself t ≡ true

  ask_meets : (s : Status) (r : Reaction) → Meets r → Meets (ask s r)
  unfolding ask
  ask_meets s r h =
      by_test Meets (for r.process.itself s) _ _ (λ _. h) (λ _ w. set_keeps s t r.process.itself (h w))

  pass_for_meets : (s : Status) (r : Reaction) → Meets r → Meets (pass_for s r)
  pass_for_meets = pass_for_keeps Meets ask_meets

  pass_meets : (r : Reaction) → Meets r → Meets (pass r)
  pass_meets = pass_keeps Meets ask_meets

-- two wants: what the right asked for, and what the stage waits for
abbrev right_asked : Status → Pair Bool → ℕ → Bool
right_asked t asked stage = for asked t

abbrev stage_waits : Status → Pair Bool → ℕ → Bool
stage_waits t asked stage = eqb stage (waits_for t)

-- asking for s meets a wish for s
ask_sets : (s : Status) (r : Reaction) → for (ask s r).process.itself s ≡ true
unfolding ask
ask_sets s r =
    by_test (λ (x : Reaction). for x.process.itself s ≡ true) (for r.process.itself s) _ _ (λ on. on)
    (λ _. set_on s s r.process.itself refl)

-- so a pass meets what the right asked for
pass_for_answers : (s : Status) (r : Reaction) → Meets s (right_asked s) (pass_for s r)
unfolding pass_for
pass_for_answers s r =
    by_test (Meets s (right_asked s)) (for r.process.asked s) _ _ (λ _ _. ask_sets s r)
    (λ off on. absurd (true≢false (sym on ∙ off)))

pass_answers : (t : Status) (r : Reaction) → Meets t (right_asked t) (pass r)
unfolding pass
pass_answers true r = pass_for_meets full (right_asked full) empty (pass_for full r) (pass_for_answers full r)
pass_answers false r = pass_for_answers empty (pass_for full r)

-- and it is enough that what the stage waits for was asked for before
pass_asked : (t : Status) (r : Reaction) → Meets t (stage_waits t) r → HasAsked t (pass r).process
pass_asked t r h away rested =
    either_way (for (pass r).process.asked t) _ (pass_answers t r)
    (λ waits. pass_meets t (stage_waits t) r h (and_first _ _ waits))

-- as it is after asking for it
ask_waits : (s t : Status) (r : Reaction) → r.process.stage ≡ waits_for s → Meets t (stage_waits t) (ask s r)
unfolding ask
ask_waits s t r here =
    by_test (Meets t (stage_waits t)) (for r.process.itself s) _ _ (λ on w. rw (one w) at on)
    (λ _ w. set_on s t r.process.itself (one w))
  where
    one : eqb r.process.stage (waits_for t) ≡ true → s ≡ t
    one w = waits_one s t (rw here at w)

-- ---- with the envelope: forward

-- the asked bits go with the envelope
leave_unasked : (t : Status) (r : Reaction) → for (leave r).process.asked t ≡ false
unfolding leave
leave_unasked t r = none_for t

-- the envelope stays, or the asked bits go with it and what the stage waits for is marked
forward_asked : (t : Status) (r : Reaction) → r.process.have ≡ true
    → (eqb r.process.stage (waits_for t) ≡ true → for r.process.mark t ≡ true)
    → HasAsked t (forward r).process
unfolding forward set_markers leave
forward_asked t r had marked =
    by_test (λ (x : Reaction). HasAsked t x.process) (wanted (set_markers r).envelope) _ _
    (λ _ away rested. either_way (for (leave (set_markers r)).process.asked t) _
    (λ on. absurd (true≢false (sym on ∙ leave_unasked t (set_markers r))))
    (λ waits.
    let here = eqb r.process.stage (waits_for t) in
    let unmarked = not (for r.process.mark t) in
    absurd (true≢false (sym (and_second here unmarked waits) ∙ ap not (marked (and_first here unmarked waits))))))
    (λ _ away. absurd (true≢false (sym had ∙ away)))

-- after a mark at the stage that waits for the other status
mark_asked : (t : Status) (r : Reaction) → r.process.have ≡ true
    → r.process.stage ≡ waits_for (not r.envelope.full)
    → HasAsked t (forward (mark r)).process
unfolding mark mark_for
mark_asked t r had here =
    let s = not r.envelope.full in
    by_test (λ (x : Reaction). HasAsked t (forward x).process) (for r.process.mark s) _ _
    (λ on. forward_asked t _ had (λ w. rw (one w) at on))
    (λ _. forward_asked t _ had (λ w. set_on s t r.process.mark (one w)))
  where
    one : eqb r.process.stage (waits_for t) ≡ true → not r.envelope.full ≡ t
    one w = waits_one _ t (rw here at w)

-- after a clear at a stage that waits for nothing
clear_asked : (s t : Status) (r : Reaction) → r.process.have ≡ true → free r.process.stage ≡ true
    → HasAsked t (forward (clear s r)).process
unfolding clear unmark
clear_asked s t r had is_free =
    by_test (λ (x : Reaction). HasAsked t (forward x).process) (for r.process.mark s) _ _
    (λ _. forward_asked t _ had (free_waits r.process.stage t is_free))
    (λ _. forward_asked t _ had (free_waits r.process.stage t is_free))

-- one event at p, and what held there before
module _ (e : Envelope) (p : Process) (fits : Fits e p) (code m : ℕ) (t : Status) (before : HasAsked t p) where
  abbrev Asked : Reaction → Type 0
  Asked r = HasAsked t r.process

  -- a stage that needs the envelope isn't without it
  holds : {A : Type 0} (k : ℕ) → p.stage ≡ k → needs k ≡ true → p.have ≡ false → A
  holds k here needed away = absurd (true≢false (sym (had_at e p fits k here needed) ∙ away))

  -- ---- put

  -- stages 0, 1 and 6
  relay_asked : plain p.stage ≡ true → Asked (relay (begun e p))
  unfolding relay
  relay_asked is_plain =
      let is_free : free p.stage ≡ true = rw is_plain in
      by_test Asked p.have _ _ (λ had. forward_asked t (begun e p) had (free_waits p.stage t is_free))
      (λ _. pass_asked t (begun e p) (free_waits p.stage t is_free))

  -- stages 2 and 7: with the envelope it stays, or is marked for as it leaves; without it, it is asked for
  wait_asked : (s : Status) (next : ℕ) → p.stage ≡ waits_for s → Asked (wait s next (begun e p))
  unfolding wait
  wait_asked s next here =
      by_test Asked p.have _ _
      (λ had. by_test Asked (beq e.full s) _ _ (λ _ away. absurd (true≢false (sym had ∙ away)))
      (λ differs. mark_asked t (begun e p) had (here ∙ ap waits_for (sym (other_status e.full s differs)))))
      (λ _. pass_asked t (ask s (begun e p)) (ask_waits s t (begun e p) here))

  -- stage 5
  sends_asked : p.stage ≡ 5 → Asked (end_put (forward (clear empty (begun e p))))
  unfolding end_put
  sends_asked here =
      let h = clear_asked empty t (begun e p) (had_at e p fits 5 here refl) (ap free here) in
      by_test Asked (forward (clear empty (begun e p))).leaves _ _ (λ _. ends_asked _ _ t h) (λ _. h)

  -- stage 10
  gets_asked : p.stage ≡ 10 → Asked (ends Got (forward (clear full (begun e p))))
  gets_asked here =
      ends_asked Got _ t (clear_asked full t (begun e p) (had_at e p fits 10 here refl) (ap free here))

  -- every stage at which a put only clears its news needs the envelope
  calm_asked : moving p.stage ≡ false → Asked (begun e p)
  unfolding every
  calm_asked calm =
      let known = at_stages (λ k. moving k || needs k) refl p.stage fits.range in
      holds p.stage refl (rw calm at known)

  put_asked : Asked (put e p)
  unfolding put
  put_asked =
      by_test Asked p.news _ _
      (λ _. by_stage Asked p.stage (begun e p) relay_asked (wait_asked empty 3) (wait_asked full 8) sends_asked
      gets_asked calm_asked)
      (λ _. before)

  -- ---- the other events

  start_put_lem : Asked (start_put m e p)
  unfolding start_put
  start_put_lem = by_test Asked (eqb p.stage 0) _ _ (λ _. turn_asked 1 t p refl before) (λ _. before)

  start_get_lem : Asked (start_get e p)
  unfolding start_get
  start_get_lem = by_test Asked (eqb p.stage 0) _ _ (λ _. turn_asked 6 t p refl before) (λ _. before)

  -- main works with the envelope
  work_asked : Asked (work e p)
  unfolding work
  work_asked =
      by_test Asked (eqb p.stage 3) _ _ (λ found. holds 3 (eqb-true p.stage 3 found) refl)
      (λ _. by_test Asked (eqb p.stage 8) _ _ (λ found. holds 8 (eqb-true p.stage 8 found) refl) (λ _. before))

  -- the get thread leaves news, or the envelope
  signal_asked : Asked (signal e p)
  unfolding signal
  signal_asked = by_test Asked (told p.stage) _ _ (λ _ away rested. absurd (true≢false rested)) (λ _. before)

  receive_asked : Asked (receive e p)
  unfolding receive
  receive_asked = by_test Asked p.arriving _ _ (λ _ away. absurd (true≢false away)) (λ _. before)

  request_asked : (s : Status) → Asked (take_request s e p)
  unfolding take_request
  request_asked s = by_test Asked (for p.link s) _ _ (λ _ away rested. absurd (true≢false rested)) (λ _. before)

  -- any event, by its code
  pub react_asked : HasAsked t (react code m e p).process
  react_asked =
      every_code Asked code m e p start_put_lem start_get_lem work_asked signal_asked receive_asked request_asked
      put_asked
      before
