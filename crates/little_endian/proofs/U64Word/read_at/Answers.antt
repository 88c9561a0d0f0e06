-- The bytes cut out are those of the place, and the library joins them as the rule does.
use Prim.Native.Nat.{◌+◌, ◌-◌}
use mathlib.Core.Path.{◌∙◌}
use native.Mathlib.Omega.{arith}
use Rattle.little_endian.proofs.Laws.{number_cut, joined_8}
use Rattle.little_endian.proofs.U64Word.read_at.Goals as goal

pub returns : goal.returns
returns c =
    let cut = rw c.unwrap.ensures at c.as_array.ensures.cases in
    c.from_le_bytes.ensures ∙ joined_8 c.unwrap.result.now
    ∙ number_cut c.args.bytes.now c.args.at 8 (c.args.at + 8 - c.args.at) (omega arith) cut.same
