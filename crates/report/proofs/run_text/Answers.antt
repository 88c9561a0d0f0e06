-- A refused run has the tape's own refusal; after one that is done, lines, counts and the last line are the rules'
-- text, and stopped isn't refused.
use Prim.Native.Nat.{ℕ}
use mathlib.Core.List.{List}
use native.Mathlib.Omega.{arith}
use lib.ListN.{replicate}
use Rattle.text.proofs.Laws.{puts_is}
use Rattle.report.proofs.Ran.{zeros_room, run_refused, records_few_told, stopped_refused, stopped_says, run_done}
use Rattle.report.proofs.run_text.Goals as goal

-- the ledger before the run
abbrev blank : List ℕ
blank = replicate 48384 0

pub returns-in_default : goal.returns-in_default
returns-in_default c =
    puts_is
    (run_refused c.args.image.now c.args.tape.now blank c.requires.0 c.requires.1 (zeros_room 48384) _
    c.run-ran.ensures.answer c.unwrap_err.ensures)
    c.put_refusal.ensures

pub returns-in_default-at_rest : goal.returns-in_default-at_rest
returns-in_default-at_rest c =
    puts_is
    (stopped_refused c.args.image.now c.args.tape.now blank c.requires.0 c.requires.1 (zeros_room 48384) _
    c.run-ran.ensures.answer
    c.in-Ok.is
    (λ k. omega (arith, c.slice_known-1.given k))
    (λ k. omega (arith, c.type_inv.tape k))
    c.run-ran.ensures.buffer c.stopped-at_rest.result c.stopped-at_rest.ensures c.unwrap_err-in_default-at_rest.ensures)
    c.put_refusal-in_default-at_rest.ensures

pub put_ran-requires : goal.put_ran-requires
put_ran-requires c =
    let most =
    records_few_told c.args.image.now c.args.tape.now blank c.requires.0 c.requires.1 (zeros_room 48384) _
    c.run-ran.ensures.answer
    c.in-Ok.is in
    (omega (arith, most, c.requires.2), omega (arith, most, (zeros_room 48384), c.run-ran.auto))

pub returns : goal.returns
returns c =
    let ends =
    stopped_says c.args.image.now c.args.tape.now blank c.requires.0 c.requires.1 (zeros_room 48384) _
    c.run-ran.ensures.answer c.in-Ok.is
    (λ k. omega (arith, c.slice_known-1.given k))
    (λ k. omega (arith, c.type_inv.tape k))
    c.run-ran.ensures.buffer c.stopped-at_rest.result c.stopped-at_rest.ensures c.in-Ok-at_rest.is in
    puts_is
    (run_done c.args.image.now c.args.tape.now blank c.requires.0 c.requires.1 (zeros_room 48384) _
    c.run-ran.ensures.answer c.in-Ok.is
    (λ k. omega (arith, c.slice_known-1.given k))
    (λ k. omega (arith, c.type_inv.tape k))
    c.run-ran.ensures.records ends)
    c.put_ran.ensures
