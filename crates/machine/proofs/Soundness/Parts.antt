-- A put keeps what its parts keep: what holds of the reaction so far, and is kept by each of ask, mark, clear, forward,
-- a new stage and the two endings, holds of the whole put.
use Prim.Native.Nat.{ℕ}
use mathlib.Core.Path.{◌≡◌, refl}
use mathlib.Core.Bool.{cond, beq}
use mathlib.Core.Logic.{◌⊎◌, inl, inr}
use Rattle.machine.specs.declared.Reaction.{Reaction}
use Rattle.machine.specs.declared.Outcome.{Outcome}
use Rattle.machine.specs.declared.Outcome.TheVariants.{Sent, Got}
use Rattle.machine.specs.Fields.{Status, full, empty, with_stage}
use Rattle.machine.specs.Events.{changed, ask, pass, mark, clear, forward, ends, relay, wait}
use Rattle.machine.specs.Events.{end_put, put_at}
use Rattle.machine.proofs.Soundness.Ways.{choice, pass_keeps, every_stage}

module _ (P : Reaction → Type 0) (asks : (s : Status) (r : Reaction) → P r → P (ask s r))
    (marks : (r : Reaction) → P r → P (mark r)) (clears : (s : Status) (r : Reaction) → P r → P (clear s r))
    (forwards : (r : Reaction) → P r → P (forward r))
    (turns : (next : ℕ) (r : Reaction) → P r → P (changed r r.envelope (with_stage next r.process)))
    (over : (o : Outcome) (r : Reaction) → (o ≡ Sent) ⊎ (o ≡ Got) → P r → P (ends o r)) where
  relay_keeps : (r : Reaction) → P r → P (relay r)
  unfolding relay
  relay_keeps r h = choice P r.process.have (forward r) (pass r) (forwards r h) (pass_keeps P asks r h)

  wait_keeps : (s : Status) (next : ℕ) (r : Reaction) → P r → P (wait s next r)
  unfolding wait
  wait_keeps s next r h =
      let on = changed r r.envelope (with_stage next r.process) in
      let right_one = beq r.envelope.full s in
      choice P r.process.have (cond right_one on (forward (mark r))) (pass (ask s r))
      (choice P right_one on (forward (mark r)) (turns next r h) (forwards (mark r) (marks r h)))
      (pass_keeps P asks (ask s r) (asks s r h))

  end_put_keeps : (r : Reaction) → P r → P (end_put r)
  unfolding end_put
  end_put_keeps r h = choice P r.leaves (ends Sent r) r (over Sent r (inl refl) h) h

  pub put_keeps : (stage : ℕ) (r : Reaction) → P r → P (put_at stage r)
  put_keeps stage r h =
      every_stage P stage r (relay_keeps r h) (wait_keeps empty 3 r h) (wait_keeps full 8 r h)
      (end_put_keeps (forward (clear empty r)) (forwards (clear empty r) (clears empty r h)))
      (over Got (forward (clear full r)) (inr refl) (forwards (clear full r) (clears full r h))) h
