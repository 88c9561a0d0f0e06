-- An accepted tape has 63 events a block but in the last, which has its count; and none where it has no block.
use mathlib.Core.Path.{◌∙◌}
use native.Mathlib.Omega.{arith}
use Rattle.tape_test.proofs.Ways.{none_counted, some_block, events_counted}
use Rattle.tape_test.proofs.event_count.Goals as goal

pub returns-then-tape-eq0 : goal.returns-then-tape-eq0
returns-then-tape-eq0 c =
    none_counted c.args.tape.now c.requires c.if-tape-eq0.true

pub overflow_sub-last : goal.overflow_sub-last
overflow_sub-last c =
    omega (arith, some_block c.args.tape.now c.requires c.if-tape-eq0.false)

pub read_at-requires : goal.read_at-requires
read_at-requires c =
    omega (arith, some_block c.args.tape.now c.requires c.if-tape-eq0.false)

pub returns : goal.returns
returns c =
    events_counted c.args.tape.now c.requires c.if-tape-eq0.false (c.from-count.ensures ∙ c.read_at.ensures)
