-- After i turns nothing waits exactly when the rule says so of the first i processes.
use Prim.Native.Nat.{ℕ, ◌+◌, ◌*◌, ◌<◌}
use mathlib.Core.Path.{ap, ◌∙◌}
use mathlib.Core.List.{List}
use native.Mathlib.Omega.{arith}
use Rattle.machine.specs.Bytes.{Bytes, number}
use Rattle.machine.proofs.Laws.Chunks.{chunk_in, chunk_number}
use Rattle.stopped.proofs.Words.{quiet_none, quiet_more}
use Rattle.stopped.proofs.are_quiet.Goals as goal

pub loop-record-init : goal.loop-record-init
loop-record-init c = quiet_none c.args.image.now

pub loop-record-preserved : goal.loop-record-preserved
loop-record-preserved c =
    let s = c.args.image.now in
    let i = c.loop-record.record-index in
    let small : Bytes s = λ k. omega (arith, c.type_inv.image k) in
    let below : i < c.args.n = omega (arith, c.as_chunks.ensures.front_len) in
    quiet_more s small c.args.n i c.loop-record.any c.loop-record.stages c.requires.2 below c.loop-record.invariant
    (c.read_at-word.ensures
    ∙ ap (λ (l : List ℕ). number l 0 8) (chunk_in s 16 _ c.as_chunks.ensures.front i c.loop-record-test.true)
    ∙ chunk_number s (16 + 8 * i))
