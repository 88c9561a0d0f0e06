-- One record's line more.
use mathlib.Core.Path.{ap, sym, ◌∙◌}
use mathlib.Core.List.{[], ◌∷◌}
use native.Mathlib.Omega.{arith}
use lib.ListN.{length, length-append}
use Rattle.std.specs.Slice.Iter.{chunks_exact_rest, chunks_exact_size}
use Rattle.lines.proofs.Lines.{lines_none, left_then, lines_then}
use Rattle.lines.proofs.put_records.Goals as goal

pub loop-entry-init : goal.loop-entry-init
loop-entry-init c = record {
  size = ap chunks_exact_size c.into_iter-entry-iterator.ensures.into_iter_gives
      ∙ c.chunks_exact-entry-items.ensures.size;
  rest = ap chunks_exact_rest c.into_iter-entry-iterator.ensures.into_iter_gives
      ∙ c.chunks_exact-entry-items.ensures.rest;
  lines = lines_none c.args.page.now c.args.ledger.now (omega arith);
  short = omega arith;
}

pub loop-entry-preserved : goal.loop-entry-preserved
loop-entry-preserved c =
    let k = length c.loop-entry.yielded in
    let more = length-append c.loop-entry.yielded (c.in-Some.entry ∷ []) in
    let step = c.in-Some.ensures.steps in
    let long = step.1.1 ∙ c.loop-entry.invariant.size in
    let left = sym c.loop-entry.invariant.rest ∙ step.1.0 in
    rw more
    record {
      size = step.0 ∙ c.loop-entry.invariant.size;
      rest = left_then c.args.ledger.now k c.in-Some.entry.now _ long left;
      lines = lines_then c.args.ledger.now k c.in-Some.entry.now _ long left c.loop-entry.invariant.lines
          c.put_record.ensures.line;
      short = omega arith;
    }
