-- Each turn performs the events of a block, so the image, the counts, the traffic and the ledger are always what the
-- events so far come to; every block but the last is full.
use Prim.Native.Nat.{◌*◌, ◌<◌}
use native.Mathlib.Omega.{arith}
use borrow.Author.Rules.{rules}
use lib.ListN.{length-take}
use Rattle.replay.proofs.Progress.{blocks_there, block_cut, going_start, may_turn, traffic_small, going_on, played}
use Rattle.replay.proofs.replay.Goals as goal

pub slice_bounds-blocks-end : goal.slice_bounds-blocks-end
slice_bounds-blocks-end c =
    let there = blocks_there c.requires in
    omega (arith, length-take c.div_ceil.result c.as_chunks.result.0.now, c.as_chunks.ensures.front_len)

pub loop-b-init : goal.loop-b-init
loop-b-init c =
    going_start c.requires (λ i. (c.type_inv.image i).fits) (λ i. (c.type_inv.tape i).fits) (search rules)
    (search rules)

pub turns-word-requires : goal.turns-word-requires
turns-word-requires c =
    let some : 63 * c.loop-b.b < c.args.events =
    omega (arith, length-take c.div_ceil.result c.as_chunks.result.0.now) in
    may_turn c.loop-b.invariant
    (block_cut c.args.tape.now c.as_chunks.ensures.front c.div_ceil.result some c.loop-b-test.true c.min-used.ensures
    (omega arith))

pub carried_to-traffic-requires : goal.carried_to-traffic-requires
carried_to-traffic-requires c = traffic_small c.loop-b.invariant

pub loop-b-preserved : goal.loop-b-preserved
loop-b-preserved c =
    let some : 63 * c.loop-b.b < c.args.events =
    omega (arith, length-take c.div_ceil.result c.as_chunks.result.0.now) in
    going_on c.loop-b.invariant
    (block_cut c.args.tape.now c.as_chunks.ensures.front c.div_ceil.result some c.loop-b-test.true c.min-used.ensures
    (omega arith))
    c.turns-word.ensures.answer c.turns-word.ensures.buffers (search rules) c.added_to-counts.ensures
    c.carried_to-traffic.ensures

pub returns : goal.returns
returns c =
    let there = blocks_there c.requires in
    let done =
    played c.loop-b.invariant
    (omega (arith, length-take c.div_ceil.result c.as_chunks.result.0.now, c.as_chunks.ensures.front_len)) in
    record { answer = done.0; buffer = done.1.0; records = done.1.1 }
