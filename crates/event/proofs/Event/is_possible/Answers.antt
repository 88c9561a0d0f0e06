-- The bit of the event's code is tested among the record's bits and those of its stage (Possible).
use Prim.Native.Nat.{◌%◌}
use mathlib.Core.Path.{◌≡◌, ap, ◌∙◌}
use native.Mathlib.Omega.{arith}
use native.Mathlib.Nat.{mod-eq_of_lt}
use Rattle.event.specs.Rows.{codes_at, need_of}
use Rattle.event.proofs.Possible.{possible}
use Rattle.event.proofs.Event.is_possible.Goals as goal

pub returns : goal.returns
returns c =
    let stage : c.args.own.word % 16 ≡ c.args.own.word % 256 = omega arith in
    let codes = c.codes_at.ensures ∙ ap codes_at stage in
    let need = c.need_of.ensures ∙ ap need_of (mod-eq_of_lt c.requires.0) in
    rw (codes, need) (possible c.args.own.word c.requires.1 c.requires.2 c.args.self.code c.requires.0)
