-- A block's verdict depends on that block's bytes alone, and on the tape's length: every byte that a test reads stands
-- in the block, since a count above 63 is refused before a slot is read.
use Rattle.std.specs.Prelude.{Err, Ok}
use Prim.Native.Nat.{ℕ, ◌+◌, ◌-◌, ◌*◌, ◌≤◌}
use mathlib.Core.Path.{◌≡◌, refl, ap, ap₂}
use mathlib.Core.List.{List}
use native.Mathlib.Omega.{arith}
use lib.ListN.{length}
use Rattle.machine.specs.declared.Refusal.TheVariants as refusal
use Rattle.machine.specs.Verdict.{Verdict}
use Rattle.machine.specs.Bytes.{part, little_endian_of, number, zeros}
use Rattle.machine.specs.Tape.{covered, block_count, slot_at}
use Rattle.machine.specs.Refusals.{or_else, check_verdict, block_fits, number_verdict}
use Rattle.machine.specs.Refusals.{used_verdict, unused_verdict, block_verdict}
use Rattle.machine.proofs.Laws.Refusals.{unless_fine}
use Rattle.machine.proofs.Laws.First.{first_same}
use Rattle.tape_test.proofs.Blocks.{fits_most, slot_test}
use Rattle.tape.proofs.Parts.{same_part, same_fits}

-- a later test counts only where the earlier one passes
same_rest : (v w x : Verdict) → (v ≡ Ok tt → w ≡ x) → or_else v w ≡ or_else v x
same_rest (Ok _) w x same = same refl
same_rest (Err r) w x same = refl

module _ (s t : List ℕ) (b : ℕ) (same : part s (512 * b) 512 ≡ part t (512 * b) 512) where
  -- what stands in the block
  inside : (k v : ℕ) → 512 * b ≤ k → k + v ≤ 512 * b + 512 → part s k v ≡ part t k v
  inside k v low high = same_part s t (512 * b) (512 * b) 512 same k k v low high refl

  number_same : (k v : ℕ) → 512 * b ≤ k → k + v ≤ 512 * b + 512 → number s k v ≡ number t k v
  unfolding number
  number_same k v low high = ap little_endian_of (inside k v low high)

  count_same : block_count s b ≡ block_count t b
  count_same = number_same (512 * b + 2) 2 (omega arith) (omega arith)

  -- each test of it
  check_same : check_verdict s b ≡ check_verdict t b
  unfolding check_verdict covered
  check_same = rw (
    inside (512 * b) 4 (omega arith) (omega arith),
    inside (512 * b + 8) 504 (omega arith) (omega arith),
    number_same (512 * b + 4) 4 (omega arith) (omega arith),
  )

  fits_same : length s ≡ length t → block_fits s b ≡ block_fits t b
  unfolding block_fits
  fits_same long = rw (count_same, number_same (512 * b) 2 (omega arith) (omega arith), long)

  used_same : (codes n : ℕ) → block_count t b ≤ 63 → used_verdict codes n s b ≡ used_verdict codes n t b
  unfolding used_verdict
  used_same codes n few =
      rw count_same
      (first_same (slot_test codes n s b) (slot_test codes n t b) 0 (block_count t b)
      (λ j low high.
      rw (same_fits s t (slot_at b j) (slot_at b j) (inside (slot_at b j) 8 (omega arith) (omega arith)) codes n)))

  unused_same : block_count t b ≤ 63 → unused_verdict s b ≡ unused_verdict t b
  unfolding unused_verdict zeros
  unused_same few =
      let c = block_count t b in
      rw (count_same, inside (slot_at b c) (8 * (63 - c)) (omega arith) (omega arith))

  pub block_same : (codes n : ℕ) → length s ≡ length t → block_verdict codes n s b ≡ block_verdict codes n t b
  unfolding block_verdict number_verdict
  block_same codes n long =
      rw (check_same, fits_same long)
      (ap (or_else (check_verdict t b))
      (same_rest (number_verdict t b) _ _
      (λ fine.
      let few = fits_most t b (unless_fine (block_fits t b) (refusal.Block b) fine) in
      ap₂ or_else (used_same codes n few) (unused_same few))))
