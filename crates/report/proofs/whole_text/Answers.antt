-- Each refusal is the rule's first; past them the run's text is the whole one.
use Prim.Native.Nat.{ℕ}
use mathlib.Core.Path.{ap}
use mathlib.Core.List.{List}
use native.Mathlib.Omega.{arith}
use lib.ListN.{length, replicate, length-drop}
use Rattle.text.proofs.Laws.{puts_is}
use Rattle.report.proofs.Ran.{zeros_room}
use Rattle.report.proofs.Whole.{fresh_refused, length_refused, image_accepted}
use Rattle.report.proofs.Whole.{run_whole}
use Rattle.report.proofs.whole_text.Goals as goal

-- the image before the fresh ring is written
abbrev blank : List ℕ
blank = replicate 528 0

pub returns-in_default : goal.returns-in_default
returns-in_default c =
    puts_is
    (fresh_refused c.args.input.now blank (zeros_room 528) c.given.ensures.0 c.given-2.ensures.0 _
    c.fresh-fresh.ensures.answer c.unwrap_err.ensures)
    c.put_refusal.ensures

pub returns-then-too_long : goal.returns-then-too_long
returns-then-too_long c =
    puts_is (length_refused c.args.input.now blank (zeros_room 528) c.given.ensures.0 c.given-2.ensures.0 _
    c.fresh-fresh.ensures.answer c.in-Ok.is (omega arith))
    c.put_refusal-then-too_long.ensures

pub run_text-requires : goal.run_text-requires
run_text-requires c = (
  image_accepted c.args.input.now blank (zeros_room 528) c.given.ensures.0 c.given-2.ensures.0 _
      c.fresh-fresh.ensures.answer c.in-Ok.is c.fresh-fresh.ensures.buffer,
  omega (arith, ap length c.tape_in.ensures, length-drop 2 c.args.input.now),
  omega arith,
)

pub returns : goal.returns
returns c =
    puts_is
    (run_whole c.args.input.now blank (zeros_room 528) c.given.ensures.0 c.given-2.ensures.0 _
    c.fresh-fresh.ensures.answer c.in-Ok.is c.fresh-fresh.ensures.buffer (omega arith)
    c.tape_in.ensures)
    c.run_text.ensures
