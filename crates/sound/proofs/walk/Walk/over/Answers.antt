-- With some records still to come the walk holds what the rules say of those behind them.
use mathlib.Core.Path.{◌≡◌}
use Prim.Native.Nat.{◌+◌, ◌-◌, ◌*◌, ◌/◌}
use native.Mathlib.Omega.{arith}
use lib.Dec.{eqb}
use lib.ListN.{length}
use Rattle.std.specs.Simd.{first_chunks}
use Rattle.machine.specs.Bytes.{part}
use Rattle.sound.proofs.Walked.{going_start, going_on}
use Rattle.sound.proofs.walk.Walk.over.Goals as goal

pub loop-i-init : goal.loop-i-init
loop-i-init c =
    let records = part c.args.image.now 16 (16 + 8 * c.args.n - 16) in
    let rest : c.into_iter-i-iterator.result.iter.iter.rest.now ≡ first_chunks 8 (length records / 8) records =
    cc (c.as_chunks.ensures.front) in
    let none : c.into_iter-i-iterator.result.iter.count ≡ 0 = cc in
    going_start c.args.image.now (eqb c.args.status 1) c.args.n (omega arith) none (omega arith) rest

pub loop-i-preserved : goal.loop-i-preserved
loop-i-preserved c =
    going_on (λ k. omega (arith, c.type_inv.image k)) c.args.status (omega arith) c.loop-i.invariant _ _
    c.in-Some.ensures.steps.1.0 c.in-Some.ensures.steps.0 c.in-Some.ensures.steps.1.1 c.read_at.ensures
    c.on-walk.ensures
