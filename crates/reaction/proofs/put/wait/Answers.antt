-- Without the envelope ask and pass; with the one waited for go on; with the other mark and forward.
use Rattle.reaction.specs.Reaction.{so_far}
use Rattle.reaction.proofs.Made.{so_far_fits}
use Rattle.reaction.proofs.Stages.{wait_without, wait_same, wait_other}
use Rattle.reaction.proofs.put.wait.Goals as goal

pub returns-then-not-has_envelope : goal.returns-then-not-has_envelope
returns-then-not-has_envelope c =
    wait_without (so_far c.args.step.begun) c.has_envelope.ensures c.args.full c.if-not-has_envelope.true c.only.ensures
    c.pass.ensures

pub returns-then-is_full-full : goal.returns-then-is_full-full
returns-then-is_full-full c =
    rw c.so_far.ensures
    (wait_same (so_far c.args.step.begun) c.has_envelope.ensures c.args.full (so_far_fits c.args.step.begun)
    c.is_full.ensures c.if-not-has_envelope.false c.if-is_full-full.true c.requires
    c.stage.ensures c.with_stage.ensures)

pub returns : goal.returns
returns c =
    wait_other (so_far c.args.step.begun) c.has_envelope.ensures c.args.full (so_far_fits c.args.step.begun)
    c.is_full.ensures c.if-not-has_envelope.false c.if-is_full-full.false
    c.mark.ensures c.forward.ensures
