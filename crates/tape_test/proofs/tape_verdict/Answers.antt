-- What is left to test, of the tape and of the block in hand, decides for all, since what came before is fine.
use Prim.Native.Nat.{◌+◌, ◌*◌}
use mathlib.Core.Path.{sym, ◌∙◌}
use native.Mathlib.Omega.{arith}
use Rattle.machine.specs.declared.Refusal.TheVariants as refusal
use Rattle.machine.specs.Refusals.{block_verdict}
use Rattle.machine.proofs.Laws.First.{first_on, first_found, first_end}
use Rattle.tape_test.proofs.Blocks.{slot_test}
use Rattle.tape_test.proofs.Slots.{block_cut, head_fine, used_long, used_slot, unused_clear}
use Rattle.tape_test.proofs.Ways.{head_refused, used_refused, unused_refused, slots_fine}
use Rattle.tape_test.proofs.Ways.{test_refused, test_fine, slots_start, tape_length_refused, blocks_start}
use Rattle.tape_test.proofs.tape_verdict.Goals as goal

pub returns-in_default : goal.returns-in_default
returns-in_default c =
    tape_length_refused c.args.codes c.args.n c.args.tape.now c.length_verdict-verdict.ensures
    c.in_default.is

pub blocks-2-init : goal.blocks-2-init
blocks-2-init c = (
  c.in-Ok.is,
  blocks_start c.args.codes c.args.n c.args.tape.now c.length_verdict-verdict.ensures c.in-Ok.is,
)

pub slice_bounds-slot-items-end : goal.slice_bounds-slot-items-end
slice_bounds-slot-items-end c =
    let head =
    head_fine c.args.codes c.args.n c.args.tape.now c.blocks-2.b c.as_chunks.ensures.front c.as_chunks.ensures.front_len
    c.blocks-2-test.true c.head_verdict-head.ensures c.in-Ok-head.is c.from-count.ensures c.read_at.ensures in
    sym (used_long head c.as_chunks-in-blocks-2.ensures.front)

pub loop-j-init : goal.loop-j-init
loop-j-init c =
    let head =
    head_fine c.args.codes c.args.n c.args.tape.now c.blocks-2.b c.as_chunks.ensures.front c.as_chunks.ensures.front_len
    c.blocks-2-test.true c.head_verdict-head.ensures c.in-Ok-head.is c.from-count.ensures c.read_at.ensures in
    (c.blocks-2.invariant.0, head, slots_start c.args.codes c.args.n c.args.tape.now c.blocks-2.b head.counts)

pub offset_bounds-slot-items-j : goal.offset_bounds-slot-items-j
offset_bounds-slot-items-j c =
    let head = c.loop-j.invariant.1 in
    omega (arith, head.few, used_long head c.as_chunks-in-blocks-2.ensures.front)

pub loop-j-preserved : goal.loop-j-preserved
loop-j-preserved c =
    let b = c.blocks-2.b in
    let j = c.loop-j.j in
    let head = c.loop-j.invariant.1 in
    let cut = c.as_chunks-in-blocks-2.ensures.front in
    let fits = c.fits.ensures ∙ used_slot head cut c.args.codes c.args.n j c.loop-j-test.true in
    let slot = test_fine (refusal.Event (63 * b + j)) fits c.if-not-fits.false in
    let row = slot_test c.args.codes c.args.n c.args.tape.now b in
    (c.loop-j.invariant.0, head, sym (first_on row j _ (omega (arith, used_long head cut)) slot) ∙ c.loop-j.invariant.2)

pub slice_bounds-is_clear-count : goal.slice_bounds-is_clear-count
slice_bounds-is_clear-count c =
    omega (arith, c.loop-j.invariant.1.few)

pub slice_bounds-is_clear-start : goal.slice_bounds-is_clear-start
slice_bounds-is_clear-start c =
    omega (arith, c.loop-j.invariant.1.few)

pub blocks-2-preserved : goal.blocks-2-preserved
blocks-2-preserved c =
    let tape = c.args.tape.now in
    let b = c.blocks-2.b in
    let head = c.loop-j.invariant.1 in
    let cut = c.as_chunks-in-blocks-2.ensures.front in
    let row = slot_test c.args.codes c.args.n tape b in
    let used =
    sym c.loop-j.invariant.2 ∙ first_end row c.loop-j.j c.from-count.result (omega (arith, used_long head cut)) in
    let clear = unused_clear head _ (omega arith) c.is_clear.ensures in
    let block = slots_fine c.args.codes c.args.n tape b head.fine head.counts used clear c.if-not-is_clear.false in (
      c.loop-j.invariant.0,
      sym (first_on (block_verdict c.args.codes c.args.n tape) b _ (omega (arith, c.as_chunks.ensures.front_len)) block)
          ∙ c.blocks-2.invariant.1,
    )

pub returns-after-blocks-2 : goal.returns-after-blocks-2
returns-after-blocks-2 c =
    c.blocks-2.invariant.0 ∙ sym
    (first_end (block_verdict c.args.codes c.args.n c.args.tape.now) c.blocks-2.b _
    (omega (arith, c.as_chunks.ensures.front_len))) ∙
    c.blocks-2.invariant.1

pub returns-in_default-head : goal.returns-in_default-head
returns-in_default-head c =
    let tape = c.args.tape.now in
    let b = c.blocks-2.b in
    let all = c.as_chunks.ensures.front_len in
    let is = block_cut tape c.as_chunks.ensures.front b (omega (arith, all)) in
    let block =
    head_refused c.args.codes c.args.n tape b
    (sym (c.head_verdict-head.ensures tape (sym all) is) ∙ c.in_default-head.is) in
    c.in_default-head.is ∙ sym
    (first_found (block_verdict c.args.codes c.args.n tape) b _ (omega (arith, all)) block) ∙
    c.blocks-2.invariant.1

pub returns-then-not-fits : goal.returns-then-not-fits
returns-then-not-fits c =
    let tape = c.args.tape.now in
    let b = c.blocks-2.b in
    let j = c.loop-j.j in
    let head = c.loop-j.invariant.1 in
    let cut = c.as_chunks-in-blocks-2.ensures.front in
    let fits = c.fits.ensures ∙ used_slot head cut c.args.codes c.args.n j c.loop-j-test.true in
    let row = slot_test c.args.codes c.args.n tape b in
    let slot = test_refused (refusal.Event (63 * b + j)) fits c.if-not-fits.true in
    let used = sym c.loop-j.invariant.2 ∙ first_found row j _ (omega (arith, used_long head cut)) slot in
    let block = used_refused c.args.codes c.args.n tape b head.fine used in
    sym (first_found (block_verdict c.args.codes c.args.n tape) b _
    (omega (arith, c.as_chunks.ensures.front_len)) block)
    ∙ c.blocks-2.invariant.1

pub returns-then-not-is_clear : goal.returns-then-not-is_clear
returns-then-not-is_clear c =
    let tape = c.args.tape.now in
    let b = c.blocks-2.b in
    let head = c.loop-j.invariant.1 in
    let cut = c.as_chunks-in-blocks-2.ensures.front in
    let row = slot_test c.args.codes c.args.n tape b in
    let used =
    sym c.loop-j.invariant.2 ∙ first_end row c.loop-j.j c.from-count.result (omega (arith, used_long head cut)) in
    let clear = unused_clear head _ (omega arith) c.is_clear.ensures in
    let block = unused_refused c.args.codes c.args.n tape b head.fine head.counts used clear c.if-not-is_clear.true in
    sym (first_found (block_verdict c.args.codes c.args.n tape) b _
    (omega (arith, c.as_chunks.ensures.front_len)) block)
    ∙ c.blocks-2.invariant.1
