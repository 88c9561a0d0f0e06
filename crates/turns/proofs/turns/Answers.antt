-- Each turn performs, counts and enters the next event, so the image, the ledger and the word of counts are always what
-- the events so far come to.
use Prim.Native.Nat.{◌+◌}
use native.Mathlib.Omega.{arith}
use borrow.Author.Rules.{rules}
use Rattle.machine.specs.Image.{state_in}
use Rattle.machine.specs.Traffic.{traffic}
use Rattle.machine.proofs.Laws.Refusals.{image_fine}
use Rattle.event.specs.Parsed.{ruled}
use Rattle.turns.proofs.Packed.{in_parts, numbered}
use Rattle.turns.proofs.Progress.{going_start, gone}
use Rattle.turns.proofs.Ways.{word_idle, word_moved, word_more, none_entered, record_long}
use Rattle.turns.proofs.Ways.{may_perform, idle_still, room, turned}
use Rattle.turns.proofs.turns.Goals.{
  then-number-eq0,
  else-number-eq0+then-number-ge2,
  else-number-eq0+else-number-ge2,
}
use Rattle.turns.proofs.turns.Goals as goal

pub loop-k-init : goal.loop-k-init
loop-k-init c =
    going_start c.requires (λ i. (c.type_inv.image i).fits)
    (λ i. (c.type_inv.events i).fits)

pub perform-done-requires : goal.perform-done-requires
perform-done-requires c =
    may_perform c.loop-k.invariant c.as_chunks.ensures.front c.loop-k-test.true c.parse-event.ensures

pub overflow_add-counts : goal.overflow_add-counts
unfolding in_parts
overflow_add-counts c = search rules

pub overflow_mul-counts : goal.overflow_mul-counts
overflow_mul-counts c =
    let number = numbered c.perform-done.result.outcome in
    search rules

pub overflow_shl-counts : goal.overflow_shl-counts
overflow_shl-counts c =
    let number = numbered c.perform-done.result.outcome in
    search rules

-- the word has room for what an event adds
pub overflow_add-counts-then-number-ge2 : goal.overflow_add-counts-then-number-ge2
overflow_add-counts-then-number-ge2 c =
    let fits =
    room c.loop-k.invariant c.as_chunks.ensures.front c.loop-k-test.true c.parse-event.ensures
    c.perform-done.result.outcome in
    let more =
    word_more c.loop-k.counts c.parse-event.result.code c.perform-done.result.outcome _ c.number-number.ensures
    c.perform-done.ensures.answer.counts c.if-number-ge2.true in
    search rules

pub overflow_add-counts-else-number-eq0 : goal.overflow_add-counts-else-number-eq0
overflow_add-counts-else-number-eq0 c =
    let fits =
    room c.loop-k.invariant c.as_chunks.ensures.front c.loop-k-test.true c.parse-event.ensures
    c.perform-done.result.outcome in
    search rules

pub enter-requires : goal.enter-requires
enter-requires c =
    let may = may_perform c.loop-k.invariant c.as_chunks.ensures.front c.loop-k-test.true c.parse-event.ensures in
    let image = image_fine _ may.fine in
    search rules

pub loop-k-preserved : goal.loop-k-preserved
loop-k-preserved c =
    let next =
    turned c.loop-k.invariant c.as_chunks.ensures.front c.loop-k-test.true c.parse-event.ensures
    c.perform-done.ensures.answer.said
    c.perform-done.ensures.buffer in
    let u = traffic (state_in c.loop-k.image) (ruled c.parse-event.result) in
    let still = idle_still c.loop-k.invariant c.as_chunks.ensures.front c.loop-k-test.true c.parse-event.ensures
    c.perform-done.ensures.answer.said c.number-number.ensures in
    let idle = word_idle c.loop-k.counts c.parse-event.result.code c.perform-done.result.outcome u
    c.number-number.ensures in
    let moved = word_moved c.loop-k.counts c.parse-event.result.code c.perform-done.result.outcome u
    c.number-number.ensures c.perform-done.ensures.answer.counts in
    let more = word_more c.loop-k.counts c.parse-event.result.code c.perform-done.result.outcome u
    c.number-number.ensures c.perform-done.ensures.answer.counts in
    let none = none_entered c.loop-k.ledger c.loop-k.place (c.args.first + c.loop-k.k) c.parse-event.result.process
    c.perform-done.result.outcome c.number-number.ensures in
    let one = record_long c.loop-k.ledger c.loop-k.place (c.args.first + c.loop-k.k) c.parse-event.result.process
    c.perform-done.result.outcome c.number-number.ensures in
    elim c.if-number-eq0.branch [
      | then-number-eq0 w ↦
          rw (w.ledger-is, w.counts-is, w.place-is)
          (next _ _ _ (idle w.if-number-eq0.true (still w.if-number-eq0.true))
          (none (omega (arith, w.if-number-eq0.true))))
      | else-number-eq0+then-number-ge2 w ↦
          rw (w.ledger-is, w.counts-is, w.place-is)
          (next _ _ _ (more w.if-number-ge2.true) (w.enter.ensures, one w.if-number-ge2.true))
      | else-number-eq0+else-number-ge2 w ↦
          rw (w.ledger-is, w.counts-is, w.place-is)
          (next _ _ _ (moved (omega (arith, w.if-number-eq0.false, w.if-number-ge2.false)))
          (none w.if-number-ge2.false))
    ]

pub returns : goal.returns
returns c =
    let done = gone c.loop-k.invariant (omega (arith, c.as_chunks.ensures.front_len)) in
    record { answer = done.0; buffers = done.1 }
