-- After b blocks the start of the tape is the first b blocks of the load's, and where one more follows they were full:
-- the number drawn last is the third of event 63b - 1.
use Prim.Native.Nat.{◌*◌}
use mathlib.Core.Path.{refl, ◌∙◌}
use native.Mathlib.Omega.{arith}
use Rattle.machine.specs.Tape.{list_bytes, block_for}
use Rattle.machine.specs.Load.{drawn, load_events}
use Rattle.pack.proofs.Packed.{sealed_at}
use Rattle.pack.proofs.Rows.{joined_none, packed_more}
use Rattle.load.proofs.Drawn.{block_filled, last_filled}
use Rattle.load.proofs.Draws.draw_blocks.Goals as goal

pub loop-b-init : goal.loop-b-init
unfolding drawn
loop-b-init c =
    let list = list_bytes (load_events c.args.self.n c.args.self.last c.args.count) in
    record { same = refl; blocks = joined_none c.args.tape.now (block_for list); last = λ some. refl }

pub loop-b-preserved : goal.loop-b-preserved
loop-b-preserved c =
    let n = c.args.self.n in
    let seed = c.args.self.last in
    let list = list_bytes (load_events n seed c.args.count) in
    let from = c.loop-b.invariant.last (omega arith) in
    let block =
    block_filled n seed c.args.count c.loop-b.b (omega arith) c.loop-b.tape (omega arith) c.width_in-used.ensures.0
    (omega arith) (omega arith) from c.loop-b.invariant.same c.draw_events.ensures.events
    (sealed_at _ (512 * c.loop-b.b) c.loop-b.b c.width_in-used.result _ (omega arith)
    (omega arith) (omega arith) c.seal_block.ensures) in
    record {
      same = c.draw_events.ensures.same ∙ c.loop-b.invariant.same;
      blocks = packed_more list c.args.tape.now c.loop-b.b c.loop-b.invariant.blocks block;
      last =
          λ more.
          last_filled n seed c.args.count c.loop-b.b (omega arith) c.loop-b.tape (omega arith) c.width_in-used.ensures.0
          (omega arith) (omega arith) from (omega arith) c.draw_events.ensures.last;
    }
