-- What was summed so far is what the rule sums of the slots so far, and the remainders come last.
use Prim.Native.Nat.{ℕ, ◌<◌}
use mathlib.Core.Path.{◌≡◌, ◌∙◌}
use mathlib.Core.List.{List}
use native.Mathlib.Omega.{arith}
use lib.ListN.{length}
use Rattle.std.proofs.Common.{rules}
use Rattle.checksum.proofs.Pass.{narrow_none, narrow_more, none_summed, length_slot_bytes, slot_number}
use Rattle.checksum.proofs.Pass.{slot_summed, sums_check}
use Rattle.checksum.proofs.check_of.Goals as goal

pub loop-slot-init : goal.loop-slot-init
loop-slot-init c = record {
  first = narrow_none c.new-first.ensures;
  second = narrow_none c.new-second.ensures;
  third = narrow_none c.new-third.ensures;
  fourth = narrow_none c.new-fourth.ensures;
  summed = none_summed c.args.block.now c.new-first.ensures c.new-second.ensures c.new-third.ensures
      c.new-fourth.ensures;
}

pub loop-slot-preserved : goal.loop-slot-preserved
loop-slot-preserved c =
    let s : List ℕ = c.args.block.now in
    let j : ℕ = c.loop-slot.slot-index in
    let room : length s ≡ 512 = search rules in
    let long = length_slot_bytes s room in
    let below : j < 63 = omega (arith, c.as_chunks.ensures.front_len) in
    let here = rw c.as_chunks.ensures.front_len at c.loop-slot-test.true in
    let are = c.as_chunks.ensures.front in
    let first = slot_number s j 0 _ (omega arith) below here are c.read_at-in-loop-slot.ensures in
    let second = slot_number s j 2 _ (omega arith) below here are c.read_at-in-loop-slot-2.ensures in
    let third = slot_number s j 4 _ (omega arith) below here are c.read_at-in-loop-slot-3.ensures in
    let fourth = slot_number s j 6 _ (omega arith) below here are c.read_at-in-loop-slot-4.ensures in record {
      first = narrow_more below c.read_at-in-loop-slot.type_inv c.loop-slot.invariant.first c.then-first.ensures;
      second = narrow_more below c.read_at-in-loop-slot-2.type_inv c.loop-slot.invariant.second c.then-second.ensures;
      third = narrow_more below c.read_at-in-loop-slot-3.type_inv c.loop-slot.invariant.third c.then-third.ensures;
      fourth = narrow_more below c.read_at-in-loop-slot-4.type_inv c.loop-slot.invariant.fourth c.then-fourth.ensures;
      summed = slot_summed s room below first second third fourth c.loop-slot.invariant.summed c.then-first.ensures
          c.then-second.ensures c.then-third.ensures c.then-fourth.ensures;
    }

pub returns : goal.returns
returns c =
    let s : List ℕ = c.args.block.now in
    let room : length s ≡ 512 = search rules in
    let long = length_slot_bytes s room in
    let number = c.from-number.ensures ∙ c.read_at.ensures in
    let count = c.from-count.ensures ∙ c.read_at-2.ensures in
    sums_check s room number count (omega (arith, c.as_chunks.ensures.front_len)) c.loop-slot.invariant.summed
