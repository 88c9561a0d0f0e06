-- A verdict that refuses is handed on; else a run of the one event does what the rule says, and its word and record
-- tell what came of it.
use mathlib.Core.Path.{sym, ◌∙◌}
use borrow.Author.Rules.{rules}
use Rattle.step.proofs.Ways.{begins_whole, step_refused, may_turn, step_done}
use Rattle.step.proofs.step.Goals as goal

pub returns-in_default : goal.returns-in_default
returns-in_default c = let done = step_refused _ _
    (sym c.step_verdict-verdict.ensures ∙ c.unwrap_err.ensures) in record { answer = done.0; buffer = done.1 }

pub turns-word-requires : goal.turns-word-requires
turns-word-requires c =
    may_turn _ _ (sym c.step_verdict-verdict.ensures ∙ c.in-Ok.is) (search (rules, begins_whole))

pub returns : goal.returns
returns c = let done = step_done _ _ (sym c.step_verdict-verdict.ensures ∙ c.in-Ok.is)
    (λ k. search rules) (λ k. (c.type_inv.event k).fits)
    c.turns-word.ensures.answer c.turns-word.ensures.buffers c.outcome_in.ensures c.traffic_in.ensures in record
    { answer = done.0; buffer = done.1 }
