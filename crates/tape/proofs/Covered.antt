-- Where a block's bytes go: byte p of a block is byte p of what the check covers if p is below 4, and byte p − 4 from 8
-- on; 4 to 7 are the check's own. So a byte stored there changes that byte and nothing else.
use Prim.Native.Nat.{ℕ, ◌+◌, ◌-◌, ◌*◌, ◌≤◌, ◌<◌}
use mathlib.Core.Path.{◌≡◌, ap}
use mathlib.Core.List.{List, [], ◌∷◌, ◌++◌}
use mathlib.Core.Logic.{◌⊎◌, inl, inr}
use native.Mathlib.Omega.{arith}
use native.Mathlib.Nat.{suc-add}
use lib.ListN.{length, set, take, drop}
use lib.Seq.{set-append_left, take-set-le, take-set-lt, drop-set-lt, drop-set-add}
use Rattle.machine.specs.Bytes.{part, little_endian_of, number}
use Rattle.machine.specs.Tape.{covered, block_check}
use Rattle.checksum.proofs.Words.{length_front}

-- byte p of a block is byte q of what is covered
abbrev pub Place : ℕ → ℕ → Type 0
Place p q = ((p < 4) × (q ≡ p)) ⊎ ((8 ≤ p) × (p < 512) × (q ≡ p - 4))

-- ---- a byte stored in a buffer

-- behind it, before it and in it, as a part of the buffer has it
part_set_before : (s : List ℕ) (at w k x : ℕ) → k < at → part (set s k x) at w ≡ part s at w
part_set_before s at w k x h = ap (take w) (drop-set-lt at s k x h)

pub part_set_after : (s : List ℕ) (at w k x : ℕ) → at + w ≤ k → part (set s k x) at w ≡ part s at w
part_set_after s at w k x h =
    let here : k ≡ at + (k - at) = omega arith in
    rw (here, drop-set-add at s (k - at) x) (take-set-le w (drop at s) (k - at) x (omega arith))

part_set_in : (s : List ℕ) (at w k x : ℕ) → k < w → part (set s (at + k) x) at w ≡ set (part s at w) k x
part_set_in s at w k x h = rw (drop-set-add at s k x) (take-set-lt w (drop at s) k x h)

-- in the second of two lists
set_append_right : (xs ys : List ℕ) (i x : ℕ) → set (xs ++ ys) (length xs + i) x ≡ xs ++ set ys i x
set_append_right [] ys i x = ap (λ (k : ℕ). set ys k x) (omega arith)
set_append_right (u ∷ xs) ys i x =
    rw (suc-add (length xs) i) (ap (λ (l : List ℕ). u ∷ l) (set_append_right xs ys i x))

-- ---- a byte stored in a block

-- one that is covered is none of the check
pub check_apart : (s : List ℕ) (b p q x : ℕ) → Place p q → block_check (set s (512 * b + p) x) b ≡ block_check s b
unfolding number
check_apart s b p q x (inl h) = ap little_endian_of (part_set_before s (512 * b + 4) 4 (512 * b + p) x (omega arith))
check_apart s b p q x (inr h) = ap little_endian_of (part_set_after s (512 * b + 4) 4 (512 * b + p) x (omega arith))

-- and the check's own bytes are not covered
pub covered_apart : (s : List ℕ) (b p x : ℕ) → 4 ≤ p → p < 8 → covered (set s (512 * b + p) x) b ≡ covered s b
unfolding covered
covered_apart s b p x low high = rw (
  part_set_after s (512 * b) 4 (512 * b + p) x (omega arith),
  part_set_before s (512 * b + 8) 504 (512 * b + p) x (omega arith),
)

-- one that is covered is stored at its place
pub covered_set : (s : List ℕ) (b : ℕ) → 512 * b + 512 ≤ length s → (p q x : ℕ) → Place p q
    → covered (set s (512 * b + p) x) b ≡ set (covered s b) q x
unfolding covered
covered_set s b room p q x (inl h) =
    let front = part s (512 * b) 4 in
    let slots = part s (512 * b + 8) 504 in
    rw (
      h.1,
      set-append_left front slots p x (omega (arith, length_front s b room)),
      part_set_in s (512 * b) 4 p x h.0,
      part_set_before s (512 * b + 8) 504 (512 * b + p) x (omega arith),
    )
covered_set s b room p q x (inr h) =
    let front = part s (512 * b) 4 in
    let slots = part s (512 * b + 8) 504 in
    let j = p - 8 in
    let here : q ≡ length front + j = omega (arith, length_front s b room) in
    let there : 512 * b + p ≡ 512 * b + 8 + j = omega arith in
    rw (
      here,
      set_append_right front slots j x,
      part_set_after s (512 * b) 4 (512 * b + p) x (omega arith),
      there,
      part_set_in s (512 * b + 8) 504 j x (omega arith),
    )
