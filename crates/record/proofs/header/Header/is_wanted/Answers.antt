-- The header is tested under the mask that its status chooses (Headers).
use mathlib.Core.Logic.{inl, inr}
use Rattle.record.proofs.Headers.{wanted_by_lem}
use Rattle.record.proofs.header.Header.is_wanted.Goals.{then-is_full, else-is_full}
use Rattle.record.proofs.header.Header.is_wanted.Goals as goal

pub returns : goal.returns
returns c =
    wanted_by_lem c.args.self c.requires c.is_full.ensures
    (elim c.if-is_full.branch [
      | then-is_full w ↦ inl (w.wants-is, w.if-is_full.true)
      | else-is_full w ↦ inr (w.wants-is, w.if-is_full.false)
    ])
