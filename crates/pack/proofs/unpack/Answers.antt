-- After j blocks the start of the list is the events of the first j blocks, and `at` stands behind them.
use Prim.Native.Nat.{ℕ, ◌+◌, ◌-◌, ◌*◌, ◌<◌}
use mathlib.Core.Path.{◌≡◌, ap, ◌∙◌}
use mathlib.Core.List.{List}
use native.Mathlib.Omega.{arith}
use lib.ListN.{length-take}
use Rattle.machine.specs.Bytes.{splice}
use Rattle.pack.specs.Pack.{taken_from}
use Rattle.pack.proofs.Rows.{joined_none, block_at, taken_more}
use Rattle.pack.proofs.unpack.Goals as goal

pub loop-block-init : goal.loop-block-init
loop-block-init c =
    record { at = omega arith; taken = joined_none c.args.list.now (taken_from c.args.tape.now c.args.total) }

pub loop-block-preserved : goal.loop-block-preserved
loop-block-preserved c =
    let tape : List ℕ = c.args.tape.now in
    let whole : List (List ℕ) = c.as_chunks.result.0.now in
    let j : ℕ = c.loop-block.block-index in
    let count = length-take {A = List ℕ} c.args.blocks whole in
    let below : j < c.args.blocks = omega arith in
    let full : c.loop-block.at ≡ 504 * j = omega arith in
    let width : ℕ = 8 + c.min-used.result - 8 in
    let used : c.min-used.result ≡ width = omega arith in
    let events =
    block_at tape c.args.blocks _ j width below (omega arith) (omega arith) c.as_chunks.ensures.front in
    let copied = rw full at c.copy.ensures in
    record {
      at = omega arith;
      taken =
          taken_more tape c.args.list.now c.args.total j {used = width} (omega arith) (omega arith) (omega arith)
          c.loop-block.invariant.taken (copied ∙ ap (splice c.loop-block.list (504 * j)) events);
    }
