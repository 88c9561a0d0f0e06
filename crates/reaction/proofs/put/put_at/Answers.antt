-- Each arm of the decision is that arm of the rule, and the stages that no arm names do no more.
use mathlib.Core.Logic.{⊎_elim}
use borrow.Author.Rules.{rules}
use native.Mathlib.Omega.{arith}
use Rattle.reaction.specs.Reaction.{so_far}
use Rattle.reaction.proofs.Made.{so_far_fits}
use Rattle.reaction.proofs.Stages.{at_low, at_six, at_wait, at_five, at_ten, at_else}
use Rattle.reaction.proofs.put.put_at.Goals.{in-6-1, in_default+then-stage-lt2}
use Rattle.reaction.proofs.put.put_at.Goals as goal

pub wait-requires : goal.wait-requires
wait-requires c =
    ⊎_elim (λ two. omega (arith, c.stage-stage.ensures, two)) (λ seven. omega (arith, c.stage-stage.ensures, seven))
    c.in-2.is

pub returns-in-2 : goal.returns-in-2
returns-in-2 c = search (rules, at_wait)

pub returns-in-5 : goal.returns-in-5
returns-in-5 c =
    at_five (so_far c.args.step.begun) c.stage-stage.ensures c.in-5.is c.clear.ensures c.forward.ensures
    c.end_put.ensures

pub returns-in-10 : goal.returns-in-10
returns-in-10 c = search (rules, at_ten)

pub returns-in-3-to-4 : goal.returns-in-3-to-4
returns-in-3-to-4 c = rw c.so_far.ensures (search (rules, at_else, so_far_fits))

pub returns-in_default : goal.returns-in_default
returns-in_default c = rw c.so_far-in_default.ensures (search (rules, at_else, so_far_fits))

pub returns-in-0 : goal.returns-in-0
returns-in-0 c =
    elim c.in-0-1.branch [
      | in-6-1 w ↦ search (rules, at_six)
      | in_default+then-stage-lt2 w ↦ search (rules, at_low)
    ]
