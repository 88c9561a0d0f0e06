-- Where the stage is 4 the envelope is filled, elsewhere emptied, each as the rule has it (Works).
use mathlib.Core.Path.{refl, sym, ◌∙◌}
use mathlib.Core.Bool.{true, false}
use borrow.Author.Tests.{eq-eqb, ne_eqb}
use Rattle.record.specs.Words.{stage_of}
use Rattle.event.proofs.Works.{works}
use Rattle.event.proofs.work.Goals as goal

pub returns-then-stage-eq4 : goal.returns-then-stage-eq4
returns-then-stage-eq4 c =
    rw (c.so_far.ensures, c.note-note.ensures)
    (works c.args.step.header c.args.step.own.word c.args.step.tidy c.args.step.header_tidy true
    (eq-eqb (stage_of c.args.step.own.word) 4 (sym c.stage.ensures ∙ c.if-stage-eq4.true)) refl c.filled.ensures.0
    (c.filled.ensures.1 ∙ c.note-note.ensures))

pub returns : goal.returns
returns c =
    rw c.so_far-2.ensures
    (works c.args.step.header c.args.step.own.word c.args.step.tidy c.args.step.header_tidy false
    (ne_eqb (stage_of c.args.step.own.word) 4 (λ is. c.if-stage-eq4.false (c.stage.ensures ∙ is))) refl
    c.emptied.ensures.0 c.emptied.ensures.1)
