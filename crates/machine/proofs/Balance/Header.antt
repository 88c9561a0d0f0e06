-- The envelope changes only at the process that has it: without it an event at most asks. Stages 3, 5, 8 and 10, which
-- change it, have it.
use Prim.Native.Nat.{ℕ}
use mathlib.Core.Path.{◌≡◌, refl, ◌∙◌}
use mathlib.Core.Bool.{true}
use mathlib.Core.Logic.{◌⊎◌, inl, inr}
use lib.Dec.{eqb}
use borrow.Author.Tests.{eqb-true}
use Rattle.machine.specs.declared.Envelope.{Envelope}
use Rattle.machine.specs.declared.Process.{Process}
use Rattle.machine.specs.declared.Reaction.{Reaction}
use Rattle.machine.specs.Fields.{Status, full, empty, for}
use Rattle.machine.specs.Stages.{told}
use Rattle.machine.specs.Events.{ask, pass, relay, wait}
use Rattle.machine.specs.Events.{start_put, start_get, work, signal, receive, take_request, put, react}
use Rattle.machine.proofs.Soundness.Ways.{by_test, choice, pass_keeps, by_stage, every_code}
use Rattle.machine.proofs.Soundness.Owed.{begun}
use Rattle.machine.proofs.Soundness.Settled.{Fits, had_at}

-- ---- asking leaves the envelope alone

ask_alone : (s : Status) (r : Reaction) → (ask s r).envelope ≡ r.envelope
unfolding ask
ask_alone s r = choice (λ (t : Reaction). t.envelope ≡ r.envelope) (for r.process.itself s) _ _ refl refl

pub pass_alone : (r : Reaction) → (pass r).envelope ≡ r.envelope
pass_alone r =
    pass_keeps (λ (t : Reaction). t.envelope ≡ r.envelope) (λ s t same. ask_alone s t ∙ same) r refl

pub ask_pass_alone : (s : Status) (r : Reaction) → (pass (ask s r)).envelope ≡ r.envelope
ask_pass_alone s r = pass_alone (ask s r) ∙ ask_alone s r

-- ---- so every event

-- the process has the envelope, or the event leaves it as it was
abbrev pub OnlyHolder : Envelope → Process → Reaction → Type 0
OnlyHolder e p r = (p.have ≡ true) ⊎ (r.envelope ≡ e)

module _ (e : Envelope) (p : Process) (fits : Fits e p) where
  relay_only : OnlyHolder e p (relay (begun e p))
  unfolding relay
  relay_only = by_test (OnlyHolder e p) p.have _ _ inl (λ _. inr (pass_alone (begun e p)))

  wait_only : (s : Status) (next : ℕ) → OnlyHolder e p (wait s next (begun e p))
  unfolding wait
  wait_only s next = by_test (OnlyHolder e p) p.have _ _ inl (λ _. inr (ask_pass_alone s (begun e p)))

  put_only : OnlyHolder e p (put e p)
  unfolding put
  put_only =
      by_test (OnlyHolder e p) p.news _ _
      (λ _. by_stage (OnlyHolder e p) p.stage (begun e p) (λ _. relay_only) (λ _. wait_only empty 3)
      (λ _. wait_only full 8) (λ here. inl (had_at e p fits 5 here refl)) (λ here. inl (had_at e p fits 10 here refl))
      (λ _. inr refl))
      (λ _. inr refl)

  work_only : OnlyHolder e p (work e p)
  unfolding work
  work_only =
      by_test (OnlyHolder e p) (eqb p.stage 3) _ _
      (λ found. inl (had_at e p fits 3 (eqb-true p.stage 3 found) refl))
      (λ _. by_test (OnlyHolder e p) (eqb p.stage 8) _ _
      (λ found. inl (had_at e p fits 8 (eqb-true p.stage 8 found) refl)) (λ _. inr refl))

  start_put_only : (m : ℕ) → OnlyHolder e p (start_put m e p)
  unfolding start_put
  start_put_only m = choice (OnlyHolder e p) (eqb p.stage 0) _ _ (inr refl) (inr refl)

  start_get_only : OnlyHolder e p (start_get e p)
  unfolding start_get
  start_get_only = choice (OnlyHolder e p) (eqb p.stage 0) _ _ (inr refl) (inr refl)

  signal_only : OnlyHolder e p (signal e p)
  unfolding signal
  signal_only = choice (OnlyHolder e p) (told p.stage) _ _ (inr refl) (inr refl)

  receive_only : OnlyHolder e p (receive e p)
  unfolding receive
  receive_only = choice (OnlyHolder e p) p.arriving _ _ (inr refl) (inr refl)

  request_only : (s : Status) → OnlyHolder e p (take_request s e p)
  unfolding take_request
  request_only s = choice (OnlyHolder e p) (for p.link s) _ _ (inr refl) (inr refl)

  pub react_only_holder : (code m : ℕ) → OnlyHolder e p (react code m e p)
  react_only_holder code m =
      every_code (OnlyHolder e p) code m e p (start_put_only m) start_get_only work_only signal_only receive_only
      request_only put_only (inr refl)
