-- The record after its code's row is in order, and put, main's work or nothing more makes the rule's reaction of it
-- (Applied).
use native.Mathlib.Omega.{arith}
use Rattle.event.proofs.Applied.{word_fits, word_tidy, still_ready, after_put, after_work, after_row}
use Rattle.event.proofs.Event.apply.Goals as goal

pub overflow_add-begun : goal.overflow_add-begun
overflow_add-begun c = omega (arith, word_fits c.requires c.row_of-row.ensures)

pub overflow_add-begun-2 : goal.overflow_add-begun-2
overflow_add-begun-2 c = omega (arith, word_fits c.requires c.row_of-row.ensures)

pub invariant_of-begun : goal.invariant_of-begun
invariant_of-begun c =
    record { tidy = word_tidy c.requires c.row_of-row.ensures; header_tidy = c.requires.header_tidy }

pub invariant_of-begun-then-code-eq2 : goal.invariant_of-begun-then-code-eq2
invariant_of-begun-then-code-eq2 c =
    record { tidy = word_tidy c.requires c.row_of-row.ensures; header_tidy = c.requires.header_tidy }

pub invariant_of-begun-2 : goal.invariant_of-begun-2
invariant_of-begun-2 c =
    record { tidy = word_tidy c.requires c.row_of-row.ensures; header_tidy = c.requires.header_tidy }

pub invariant_of-put_at : goal.invariant_of-put_at
invariant_of-put_at c = record { ready = still_ready c.requires c.row_of-row.ensures }

pub returns-then-code-eq7 : goal.returns-then-code-eq7
returns-then-code-eq7 c = after_put c.requires c.row_of-row.ensures c.if-code-eq7.true c.put_at.ensures

pub returns-then-code-eq2 : goal.returns-then-code-eq2
returns-then-code-eq2 c = after_work c.requires c.row_of-row.ensures c.if-code-eq2.true c.work.ensures

pub returns : goal.returns
returns c = after_row c.requires c.row_of-row.ensures c.so_far.ensures c.if-code-eq7.false c.if-code-eq2.false
