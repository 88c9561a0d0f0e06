-- The round trips: an accepted list makes an accepted tape that gives it back, and an accepted tape holds an accepted
-- list that makes it again. Both go block by block, and the blocks are joined. Block b of a list's tape is the one that
-- its events make, since the blocks before it have 512 bytes each; its count and its used slots give the events back,
-- and 63 events a block join to the list. The other way round, an accepted block is made of its number, count and check
-- as they were read, each byte below 256, its used slots and zeros: so it is the block that its events make.
use Rattle.std.specs.Prelude.{Ok}
use Prim.Native.Nat.{ℕ, zero, ◌+◌, ◌-◌, ◌*◌, ◌/◌, ◌%◌, ◌≤◌, ◌<◌}
use mathlib.Core.Path.{◌≡◌, sym, ap, ap₂, ◌∙◌}
use mathlib.Core.Bool.{true}
use mathlib.Core.List.{List, ◌++◌}
use native.Mathlib.Omega.{arith}
use lib.ListN.{length, take, replicate, length-replicate}
use lib.Seq.{take_all, take_at, drop_at}
use Rattle.machine.specs.Bytes.{part, bytes, all_zero, zeros, Bytes}
use Rattle.machine.specs.Tape.{covered, block_count, slot_at, used_slots, list_of}
use Rattle.machine.specs.Tape.{block_bytes, slots_for, padded, block_for, blocks_for, tape_of}
use Rattle.machine.specs.Refusals.{event_fits, list_verdict, tape_verdict}
use Rattle.machine.proofs.Image.Written.{no_byte_set}
use Rattle.machine.proofs.Image.Rewrite.{part_add, zero_part, bytes_number}
use Rattle.machine.proofs.Laws.Joined.{joined_same}
use Rattle.tape_test.proofs.Blocks.{ListFine, list_fine, fine_list, BlockFine, TapeFine, tape_fine, fine_tape}
use Rattle.machine.proofs.Tapes.{length_slots, slots_most, length_tape}
use Rattle.tape_test.proofs.Lengths.{length_used, events_ranged}
use Rattle.machine.proofs.Laws.Splices.{part_part}
use Rattle.tape.proofs.Parts.{joined_parts}
use Rattle.tape.proofs.Written.{used, number_written, count_written, check_written, slots_written}
use Rattle.tape.proofs.Slots.{fits_written, event_placed, slots_read, fits_read}

-- ---- slots with zeros behind them

-- first the slots, then the zeros
padded_front : (slots : List ℕ) (v : ℕ) → length slots ≡ v → take v (padded slots) ≡ slots
unfolding padded
padded_front slots v h = take_at slots (replicate (504 - length slots) 0) v h

padded_rest : (slots : List ℕ) (at v : ℕ) → length slots ≡ at → 504 - at ≤ v
    → part (padded slots) at v ≡ replicate (504 - length slots) 0
unfolding padded
padded_rest slots at v h wide =
    let zeros : List ℕ = replicate (504 - length slots) 0 in
    rw (drop_at slots zeros at h) (take_all v zeros (omega (arith, length-replicate (504 - length slots) zero)))

-- ---- from a list to its tape and back

module _ {codes n : ℕ} (list : List ℕ) (fine : ListFine codes n list) where
  -- the tape has the blocks that its events take
  blocks_written : length (tape_of list) / 512 ≡ blocks_for (length list / 8)
  blocks_written = omega (arith, length_tape list)

  used_bytes : (b : ℕ) → length (slots_for list b) ≡ 8 * used list b
  used_bytes b = omega (arith, length_slots list b)

  module _ (b : ℕ) (below : b < blocks_for (length list / 8)) where
    -- the slots of block b are read back
    used_written : used_slots (tape_of list) b ≡ slots_for list b
    unfolding used_slots
    used_written =
        let u = used list b in
        let slots = slots_for list b in
        rw (count_written list b below)
        (sym (part_part (tape_of list) (512 * b + 8) 504 0 (8 * u) (omega (arith, slots_most list b)))
        ∙ ap (λ (l : List ℕ). part l 0 (8 * u)) (slots_written list b below)
        ∙ padded_front slots (8 * u) (used_bytes b))

    unused_written : zeros (tape_of list) (slot_at b (used list b)) (8 * (63 - used list b)) ≡ true
    unfolding zeros
    unused_written =
        let u = used list b in
        let slots = slots_for list b in
        let rest = 8 * (63 - u) in
        ap all_zero
        (sym (part_part (tape_of list) (512 * b + 8) 504 (8 * u) rest (omega (arith, slots_most list b)))
        ∙ ap (λ (l : List ℕ). part l (8 * u) rest) (slots_written list b below)
        ∙ padded_rest slots (8 * u) rest (used_bytes b) (omega arith))
        ∙ no_byte_set (504 - length slots)

    event_written : (j : ℕ) → j < used list b → event_fits codes n (tape_of list) (slot_at b j) ≡ true
    event_written j h =
        let k = 63 * b + j in
        let few = slots_most list b in
        let within : k < length list / 8 = omega (arith, length_slots list b) in
        let here : slot_at b j ≡ slot_at (k / 63) (k % 63) = omega arith in
        ap (event_fits codes n (tape_of list)) here ∙ fits_written list k within codes n ∙ fine.events k within

    block_accepted : BlockFine codes n (tape_of list) b
    block_accepted =
        let count = count_written list b below in
        record {
          checked = check_written list b below;
          numbered = number_written list b below (omega (arith, fine.most));
          least = omega (arith, length_slots list b);
          most = omega (arith, slots_most list b);
          full = λ before. omega (arith, length_slots list b, blocks_written);
          events = λ j h. event_written j (omega arith);
          unused = rw count unused_written;
        }

  tape_accepted : TapeFine codes n (tape_of list)
  tape_accepted =
      let blocks = blocks_written in
      record {
        whole = omega (arith, length_tape list);
        most = omega arith;
        blocks = λ b h. block_accepted b (omega arith);
      }

  list_read : list_of (tape_of list) ≡ list
  unfolding list_of slots_for
  list_read =
      let blocks = blocks_for (length list / 8) in
      rw blocks_written
      (joined_same (used_slots (tape_of list)) (slots_for list) 0 blocks (λ b low high. used_written b (omega arith))
      ∙ joined_parts list 504 0 blocks
      ∙ take_all (504 * blocks) list (omega arith))

module _ (codes n : ℕ) (list : List ℕ) (fine : list_verdict codes n list ≡ Ok tt) where
  pub written_accepted : tape_verdict codes n (tape_of list) ≡ Ok tt
  written_accepted = fine_tape codes n (tape_of list) (tape_accepted list (list_fine codes n list fine))

  pub read_written : list_of (tape_of list) ≡ list
  read_written = list_read list (list_fine codes n list fine)

-- ---- from a tape to its list and back

module _ {codes n : ℕ} (s : List ℕ) (fine : TapeFine codes n s) where
  list_accepted : ListFine codes n (list_of s)
  list_accepted =
      let range = events_ranged s fine in
      record {
        whole = range.whole;
        most = omega (arith, range.most, fine.most);
        events =
            λ k h.
            let placed = event_placed s fine k h in
            fits_read s fine k h codes n ∙ (fine.blocks (k / 63) placed.block).events (k % 63) placed.slot;
      }

  -- the list takes the blocks that the tape has
  blocks_again : blocks_for (length (list_of s) / 8) ≡ length s / 512
  blocks_again =
      let range = events_ranged s fine in
      omega (arith, range.most, range.least)

  -- block b is written again
  module _ (small : Bytes s) (b : ℕ) (below : b < length s / 512) where
    block : BlockFine codes n s b
    block = fine.blocks b below

    -- the used slots, and zeros behind them
    padded_again : padded (slots_for (list_of s) b) ≡ part s (512 * b + 8) 504
    unfolding slots_for padded used_slots
    padded_again =
        let c = block_count s b in
        let long = length_used s fine b below in
        let most = block.most in
        let rest : 504 - length (used_slots s b) ≡ 8 * (63 - c) = omega arith in
        let all : 504 ≡ 8 * c + 8 * (63 - c) = omega arith in
        let start : slot_at b 0 ≡ 512 * b + 8 = omega arith in
        rw (slots_read s fine b below, rest, ← zero_part s (slot_at b c) (8 * (63 - c)) (omega arith) block.unused)
        (ap (λ (at : ℕ). part s at (8 * c) ++ part s (slot_at b c) (8 * (63 - c))) start
        ∙ sym (ap (part s (512 * b + 8)) all ∙ part_add s (512 * b + 8) (8 * c) (8 * (63 - c))))

    count_again : used (list_of s) b ≡ block_count s b
    unfolding slots_for
    count_again = rw (slots_read s fine b below) (omega (arith, length_used s fine b below))

    front_again : bytes 2 b ++ bytes 2 (block_count s b) ≡ part s (512 * b) 4
    front_again =
        ap₂ (λ (x y : List ℕ). x ++ y)
        (ap (bytes 2) (sym block.numbered) ∙ bytes_number s (512 * b) 2 (omega arith) small)
        (bytes_number s (512 * b + 2) 2 (omega arith) small)
        ∙ sym (part_add s (512 * b) 2 2)

    block_again : block_for (list_of s) b ≡ part s (512 * b) 512
    unfolding block_for block_bytes covered
    block_again =
        let slots : 512 * b + 4 + 4 ≡ 512 * b + 8 = omega arith in
        rw (
          count_again,
          padded_again,
          front_again,
          block.checked,
          bytes_number s (512 * b + 4) 4 (omega arith) small,
          part_add s (512 * b) 4 508,
          part_add s (512 * b + 4) 4 504,
          slots,
        )

  tape_again : Bytes s → tape_of (list_of s) ≡ s
  unfolding tape_of
  tape_again small =
      let blocks = length s / 512 in
      rw blocks_again
      (joined_same (block_for (list_of s)) (λ b. part s (512 * b) 512) 0 blocks
      (λ b low high. block_again small b (omega arith))
      ∙ joined_parts s 512 0 blocks
      ∙ take_all (512 * blocks) s (omega arith))

module _ (codes n : ℕ) (s : List ℕ) where
  pub read_accepted : tape_verdict codes n s ≡ Ok tt → list_verdict codes n (list_of s) ≡ Ok tt
  read_accepted fine = fine_list codes n (list_of s) (list_accepted s (tape_fine codes n s fine))

  -- an accepted tape is what the writer makes of its events
  pub written_read : Bytes s → tape_verdict codes n s ≡ Ok tt → tape_of (list_of s) ≡ s
  written_read small fine = tape_again s (tape_fine codes n s fine) small
