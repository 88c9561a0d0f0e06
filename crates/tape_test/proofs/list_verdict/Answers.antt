-- What is left to test decides for all, since what came before is fine.
use mathlib.Core.Path.{sym, ◌∙◌}
use native.Mathlib.Omega.{arith}
use Rattle.machine.specs.declared.Refusal.TheVariants as refusal
use Rattle.machine.proofs.Laws.First.{first_on, first_found, first_end}
use Rattle.tape_test.proofs.Blocks.{event_test}
use Rattle.tape_test.proofs.Ways.{list_length_refused, events_start, test_refused, test_fine}
use Rattle.tape_test.proofs.Slots.{slots_are, list_slot}
use Rattle.tape_test.proofs.list_verdict.Goals as goal

pub returns-in_default : goal.returns-in_default
returns-in_default c =
    list_length_refused c.args.codes c.args.n c.args.list.now c.length_verdict-verdict.ensures
    c.in_default.is

pub loop-k-init : goal.loop-k-init
loop-k-init c = events_start c.args.codes c.args.n c.args.list.now c.length_verdict-verdict.ensures c.in-Ok.is

pub returns-then-not-fits : goal.returns-then-not-fits
returns-then-not-fits c =
    let list = c.args.list.now in
    let cut = c.as_chunks.ensures.front in
    let row = event_test c.args.codes c.args.n list in
    let k = c.loop-k.k in
    let fits = c.fits.ensures ∙ list_slot list cut c.args.codes c.args.n k c.loop-k-test.true in
    let event = test_refused (refusal.Event k) fits c.if-not-fits.true in
    sym (first_found row k _ (omega (arith, slots_are list cut)) event) ∙ c.loop-k.invariant

pub loop-k-preserved : goal.loop-k-preserved
loop-k-preserved c =
    let list = c.args.list.now in
    let cut = c.as_chunks.ensures.front in
    let row = event_test c.args.codes c.args.n list in
    let k = c.loop-k.k in
    let fits = c.fits.ensures ∙ list_slot list cut c.args.codes c.args.n k c.loop-k-test.true in
    let event = test_fine (refusal.Event k) fits c.if-not-fits.false in
    sym (first_on row k _ (omega (arith, slots_are list cut)) event) ∙ c.loop-k.invariant

pub returns : goal.returns
returns c =
    let list = c.args.list.now in
    let row = event_test c.args.codes c.args.n list in
    let all = slots_are list c.as_chunks.ensures.front in
    c.in-Ok.is ∙ sym (first_end row c.loop-k.k _ (omega (arith, all))) ∙ c.loop-k.invariant
