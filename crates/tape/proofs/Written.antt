-- What stands in block b of the tape that a list makes: number, count, check and slots, each read back as it was
-- written. A block is 512 bytes, so its own bytes are a part of the tape.
use Prim.Native.Nat.{ℕ, ◌+◌, ◌*◌, ◌/◌, ◌≤◌, ◌<◌}
use mathlib.Core.Path.{◌≡◌, sym, ap, ap₂, ◌∙◌}
use mathlib.Core.List.{List, ◌++◌}
use native.Mathlib.Omega.{arith}
use lib.ListN.{length}
use lib.Seq.{take_all}
use Rattle.machine.specs.Bytes.{part, little_endian_of, number, bytes}
use Rattle.machine.specs.Tape.{check, words, block_number, block_count, block_check, covered}
use Rattle.machine.specs.Tape.{block_bytes, slots_for, padded, block_for, blocks_for, tape_of}
use Rattle.machine.proofs.Laws.Bytes.{little_endian_bytes_2, little_endian_bytes_4}
use Rattle.checksum.proofs.Sums.{check_small}
use Rattle.machine.proofs.Tapes.{slots_most, length_padded, length_block}
use Rattle.machine.proofs.Laws.Splices.{part_part}
use Rattle.tape.proofs.Parts.{part_joined}

-- how many slots of block b are used
abbrev pub used : List ℕ → ℕ → ℕ
used list b = length (slots_for list b) / 8

module _ (list : List ℕ) (b : ℕ) (below : b < blocks_for (length list / 8)) where
  -- the block's bytes
  block_written : part (tape_of list) (512 * b) 512 ≡ block_for list b
  unfolding tape_of
  block_written =
      let here : 0 + b ≡ b = omega arith in
      part_joined (block_for list) 512 0 (blocks_for (length list / 8)) b (λ c low high. length_block list c)
      (λ c low high. omega (arith, length_block list c)) below
      ∙ ap (block_for list) here

  -- and a part of them, which stands at k of the tape
  block_part : (k at v : ℕ) → k ≡ 512 * b + at → at + v ≤ 512 → part (tape_of list) k v ≡ part (block_for list b) at v
  block_part k at v here h =
      ap (λ (m : ℕ). part (tape_of list) m v) here
      ∙ sym (part_part (tape_of list) (512 * b) 512 at v h)
      ∙ ap (λ (l : List ℕ). part l at v) block_written

  -- its fields, read back
  pub number_written : b < 65536 → block_number (tape_of list) b ≡ b
  unfolding number block_for block_bytes bytes
  number_written h =
      ap little_endian_of (block_part (512 * b) 0 2 (omega arith) (omega arith)) ∙ little_endian_bytes_2 b h

  pub count_written : block_count (tape_of list) b ≡ used list b
  unfolding number block_for block_bytes bytes
  count_written =
      ap little_endian_of (block_part (512 * b + 2) 2 2 (omega arith) (omega arith))
      ∙ little_endian_bytes_2 (used list b) (omega (arith, slots_most list b))

  pub slots_written : part (tape_of list) (512 * b + 8) 504 ≡ padded (slots_for list b)
  unfolding block_for block_bytes bytes
  slots_written =
      let slots = padded (slots_for list b) in
      block_part (512 * b + 8) 8 504 (omega arith) (omega arith)
      ∙ take_all 504 slots (omega (arith, length_padded (slots_for list b) (slots_most list b)))

  pub check_written : check (covered (tape_of list) b) ≡ block_check (tape_of list) b
  unfolding number covered block_for block_bytes bytes
  check_written =
      let under = (bytes 2 b ++ bytes 2 (used list b)) ++ padded (slots_for list b) in
      ap check
      (ap₂ (λ (x y : List ℕ). x ++ y) (block_part (512 * b) 0 4 (omega arith) (omega arith)) slots_written)
      ∙ sym
      (ap little_endian_of (block_part (512 * b + 4) 4 4 (omega arith) (omega arith))
      ∙ little_endian_bytes_4 (check under) (check_small (words under)))
