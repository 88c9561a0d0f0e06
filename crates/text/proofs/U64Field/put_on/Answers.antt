-- The digits that itoa gives are the rule's, and they end where the array does.
use Prim.Native.Nat.{◌-◌}
use mathlib.Core.Path.{◌≡◌, ap, ◌∙◌}
use native.Mathlib.Omega.{arith}
use lib.ListN.{length}
use lib.Seq.{take-append_seam}
use Rattle.std.specs.Fmt as std
use Rattle.machine.specs.Text.{decimal}
use Rattle.machine.proofs.Text.{decimal_64}
use Rattle.text.proofs.Laws.{puts_is, decimal_printed, decimal_some, first_fits}
use Rattle.text.proofs.U64Field.put_on.Goals as goal

pub write_digits-start-requires : goal.write_digits-start-requires
write_digits-start-requires c =
    let same = ap length (decimal_printed c.args.self (omega arith)) in (
      omega (arith, same, decimal_64 c.args.self (omega arith)),
      omega arith,
    )

pub put-requires : goal.put-requires
put-requires c =
    let same = ap length (decimal_printed c.args.self (omega arith)) in
    let some = decimal_some c.args.self in
    first_fits _ _ (length (decimal c.args.self)) _ _ (omega (arith, same, some, c.write_digits-start.ensures.start))
    c.requires

pub returns : goal.returns
returns c =
    let e : 20 - c.write_digits-start.result ≡ length (std.decimal c.args.self) =
    omega (arith, c.write_digits-start.ensures.start) in
    puts_is (rw (e, c.write_digits-start.ensures.written) (take-append_seam (std.decimal c.args.self) _)
    ∙ decimal_printed c.args.self (omega arith)) c.put.ensures
