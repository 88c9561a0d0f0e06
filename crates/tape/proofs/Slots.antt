-- Where event k stands: in slot k % 63 of block k / 63 of the tape, and at 8 * k of the list. So it is for an accepted
-- tape and the list that a reader gives, and for a list and the tape that a writer gives.
use Prim.Native.Nat.{ℕ, ◌+◌, ◌-◌, ◌*◌, ◌/◌, ◌%◌, ◌≤◌, ◌<◌}
use mathlib.Core.Path.{◌≡◌, refl, sym, ap, ◌∙◌}
use mathlib.Core.Bool.{Bool, true, false}
use mathlib.Core.List.{List}
use native.Mathlib.Omega.{arith}
use lib.ListN.{length, replicate}
use lib.Dec.{eqb}
use borrow.Author.Tests.{eqb-true, eqb-false}
use Rattle.machine.specs.Bytes.{part}
use Rattle.machine.specs.Tape.{event_in, block_count, slot_at, used_slots, list_of, slots_for, padded, tape_of}
use Rattle.machine.specs.Refusals.{event_fits}
use Rattle.tape_test.proofs.Blocks.{TapeFine}
use Rattle.machine.proofs.Tapes.{length_slots}
use Rattle.tape_test.proofs.Lengths.{length_used, length_full, length_list, events_ranged}
use Rattle.machine.proofs.Laws.Splices.{part_part, part_front}
use Rattle.tape.proofs.Parts.{part_joined, same_event, same_fits}
use Rattle.tape.proofs.Written.{slots_written}

-- the bytes before event k of a list, by its block and its slot
list_offset : (k : ℕ) → 8 * k ≡ 504 * (k / 63) + 8 * (k % 63)
list_offset k = omega arith

-- ---- an accepted tape and its list

-- where an event stands: the block is there, and uses the slot
pub record Placed (s : List ℕ) (k : ℕ) : Type 0 where
  pub block : k / 63 < length s / 512
  pub slot : k % 63 < block_count s (k / 63)

module _ {codes n : ℕ} (s : List ℕ) (fine : TapeFine codes n s) where
  pub event_placed : (k : ℕ) → k < length (list_of s) / 8 → Placed s k
  event_placed k h =
      go (eqb (k / 63) last) refl (length_list s fine some) (fine.blocks last (omega (arith, some))).most
    where
      -- event k is on the tape, so a block is
      some : 0 < length s / 512
      some = omega (arith, (events_ranged s fine).most)

      last : ℕ
      last = length s / 512 - 1

      go : (t : Bool) → eqb (k / 63) last ≡ t → length (list_of s) ≡ 8 * (63 * last + block_count s last)
          → block_count s last ≤ 63
          → Placed s k
      go true q long few =
          let here : k / 63 ≡ last = eqb-true (k / 63) last q in
          record { block = omega (arith, some); slot = rw here (omega arith) }
      go false q long few =
          let ne = eqb-false (k / 63) last q in
          let below : k / 63 + 1 < length s / 512 = omega arith in
          record { block = omega arith; slot = omega (arith, (fine.blocks (k / 63) (omega arith)).full below) }

  -- the events of block b
  pub slots_read : (b : ℕ) → b < length s / 512 → part (list_of s) (504 * b) 504 ≡ used_slots s b
  unfolding list_of
  slots_read b h =
      let here : 0 + b ≡ b = omega arith in
      part_joined (used_slots s) 504 0 (length s / 512) b (λ c low high. length_full s fine c (omega arith))
      (λ c low high.
      let below : c < length s / 512 = omega arith in
      omega (arith, length_used s fine c below, (fine.blocks c below).most)) h
      ∙ ap (used_slots s) here

  module _ (k : ℕ) (h : k < length (list_of s) / 8) where
    pub slot_read : part (list_of s) (8 * k) 8 ≡ part s (slot_at (k / 63) (k % 63)) 8
    unfolding used_slots
    slot_read =
        let placed = event_placed k h in
        let there : slot_at (k / 63) 0 + 8 * (k % 63) ≡ slot_at (k / 63) (k % 63) = omega arith in
        ap (λ (at : ℕ). part (list_of s) at 8) (list_offset k)
        ∙ sym (part_part (list_of s) (504 * (k / 63)) 504 (8 * (k % 63)) 8 (omega arith))
        ∙ ap (λ (l : List ℕ). part l (8 * (k % 63)) 8) (slots_read (k / 63) placed.block)
        ∙ part_part s (slot_at (k / 63) 0) (8 * block_count s (k / 63)) (8 * (k % 63)) 8 (omega arith)
        ∙ ap (λ (at : ℕ). part s at 8) there

    pub event_read : event_in (list_of s) (8 * k) ≡ event_in s (slot_at (k / 63) (k % 63))
    event_read = same_event (list_of s) s (8 * k) (slot_at (k / 63) (k % 63)) slot_read

    pub fits_read : (codes n : ℕ)
        → event_fits codes n (list_of s) (8 * k) ≡ event_fits codes n s (slot_at (k / 63) (k % 63))
    fits_read = same_fits (list_of s) s (8 * k) (slot_at (k / 63) (k % 63)) slot_read

-- ---- a list and its tape

module _ (list : List ℕ) (k : ℕ) (h : k < length list / 8) where
  pub slot_written : part (tape_of list) (slot_at (k / 63) (k % 63)) 8 ≡ part list (8 * k) 8
  unfolding slots_for padded
  slot_written =
      let slots = slots_for list (k / 63) in
      let long : 8 * (k % 63) + 8 ≤ length slots = omega (arith, length_slots list (k / 63)) in
      sym (part_part (tape_of list) (512 * (k / 63) + 8) 504 (8 * (k % 63)) 8 (omega arith))
      ∙ ap (λ (l : List ℕ). part l (8 * (k % 63)) 8) (slots_written list (k / 63) (omega arith))
      ∙ part_front slots (replicate (504 - length slots) 0) (8 * (k % 63)) 8 long
      ∙ part_part list (504 * (k / 63)) 504 (8 * (k % 63)) 8 (omega arith)
      ∙ ap (λ (at : ℕ). part list at 8) (sym (list_offset k))

  pub fits_written : (codes n : ℕ)
      → event_fits codes n (tape_of list) (slot_at (k / 63) (k % 63)) ≡ event_fits codes n list (8 * k)
  fits_written = same_fits (tape_of list) list (slot_at (k / 63) (k % 63)) (8 * k) slot_written
