-- Code and zeros are 0 or not, and either way the number's two tests are the rule's four.
use mathlib.Core.Path.{◌∙◌}
use native.Mathlib.Omega.{arith}
use Rattle.machine.specs.Bytes.{Bytes}
use Rattle.little_endian.proofs.Laws.{joined_8}
use Rattle.event.proofs.Whole.{alone_fits, whole_fits}
use Rattle.event.proofs.Event.fits.Goals.{then-word-lt256, else-word-lt256}
use Rattle.event.proofs.Event.fits.Goals as goal

pub returns : goal.returns
returns c =
    let slot = c.args.slot.now in
    let bytes : Bytes slot = λ k. omega (arith, c.fits-slot k) in
    let word = c.from_le_bytes-word.ensures ∙ joined_8 slot in
    elim c.if-word-lt256.branch [
      | then-word-lt256 w ↦
          rw (w.beside-is, c.from.ensures)
          (alone_fits slot 0 c.args.n c.args.codes bytes (omega arith) word (omega arith))
      | else-word-lt256 w ↦
          rw (w.beside-is, c.from.ensures)
          (whole_fits slot 0 c.args.n c.args.codes bytes (omega arith) word (omega arith))
    ]
