-- The check is compared first, then number and count, as the rule reads them.
use mathlib.Core.Path.{refl, ◌∙◌}
use native.Mathlib.Omega.{arith}
use Rattle.checksum.proofs.Pass.{check_cut}
use Rattle.tape_test.proofs.Slots.{block_word, block_number_is}
use Rattle.tape_test.proofs.Ways.{head_damaged, head_fits_lem, head_unfit}
use Rattle.tape_test.proofs.head_verdict.Goals as goal

pub returns-then-check_of-written : goal.returns-then-check_of-written
returns-then-check_of-written c s all is =
    let b = c.args.b in
    let checked = check_cut s b 512 refl is c.check_of.ensures in
    let written = c.read_at-written.ensures ∙ block_word s b is 4 4 (omega arith) in
    head_damaged s b checked written c.if-check_of-written.true

pub returns-then-fits : goal.returns-then-fits
returns-then-fits c s all is =
    let b = c.args.b in
    let checked = check_cut s b 512 refl is c.check_of.ensures in
    let written = c.read_at-written.ensures ∙ block_word s b is 4 4 (omega arith) in
    let number = c.from-number.ensures ∙ c.read_at.ensures ∙ block_number_is s b is in
    let count = c.from-count.ensures ∙ c.read_at-2.ensures ∙ block_word s b is 2 2 (omega arith) in
    head_fits_lem s b checked written c.if-check_of-written.false number count all c.if-fits.true

pub returns-else-fits : goal.returns-else-fits
returns-else-fits c s all is =
    let b = c.args.b in
    let checked = check_cut s b 512 refl is c.check_of.ensures in
    let written = c.read_at-written.ensures ∙ block_word s b is 4 4 (omega arith) in
    let number = c.from-number.ensures ∙ c.read_at.ensures ∙ block_number_is s b is in
    let count = c.from-count.ensures ∙ c.read_at-2.ensures ∙ block_word s b is 2 2 (omega arith) in
    head_unfit s b checked written c.if-check_of-written.false number count all c.if-fits.false
