-- The part is zeros afterwards, and the rest is as it was.
use Prim.Native.Nat.{ℕ, ◌+◌, ◌-◌}
use native.Mathlib.Omega.{arith}
use Rattle.std.proofs.Common.{rules}
use lib.ListN.{length-replicate}
use Rattle.span.proofs.Laws.{put_splice}
use Rattle.span.proofs.clear.Goals as goal

pub returns : goal.returns
returns c =
    put_splice c.args.at (c.args.at + c.args.count - c.args.at) c.args.bytes.now (search (rules, c.fill.ensures.after))
    (omega (arith, length-replicate {A = ℕ} c.args.count 0))
