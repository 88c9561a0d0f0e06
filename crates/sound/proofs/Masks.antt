-- Masks over a word, byte by byte: laws, and tests that the checker computes at all 256 values.
use Prim.Native.Nat.{ℕ, ◌+◌, ◌*◌, ◌%◌, ◌^◌, ◌≤◌, ◌<◌}
use mathlib.Core.Path.{◌≡◌, refl, ◌∙◌}
use mathlib.Core.Bool.{Bool, true, false, not, cond, ◌&&◌, ◌||◌}
use native.Mathlib.Omega.{arith}
use native.Mathlib.Nat.{mod-eq_of_lt}
use lib.Dec.{eqb, leb}
use lib.Bits.{bit_and, bit_xor, and_block, xor_block, and_mask, and_comm}
use Rattle.machine.specs.Bytes.{bit, bit_of}
use Rattle.machine.specs.Lists.{every}
use Rattle.machine.specs.Fields.{Status}
use Rattle.machine.specs.Stages.{last_stage}
use Rattle.machine.proofs.Laws.Lists.{alike, agree}
use Rattle.sound.specs.Demands.{against, stage_mask, beyond_mask}

pub two_parts : (r s a b : ℕ) → r < 256 → s < 256 → bit_and (r + 256 * a) (s + 256 * b)
    ≡ bit_and r s + 256 * bit_and a b
two_parts r s a b small little =
    let one : r + 256 * a ≡ a * 2 ^ 8 + r = omega arith in
    let two : s + 256 * b ≡ b * 2 ^ 8 + s = omega arith in
    rw (one, two, and_block 8 a b r s small little) (omega arith)

pub two_turned : (r s a b : ℕ) → r < 256 → s < 256 → bit_xor (r + 256 * a) (s + 256 * b)
    ≡ bit_xor r s + 256 * bit_xor a b
two_turned r s a b small little =
    let one : r + 256 * a ≡ a * 2 ^ 8 + r = omega arith in
    let two : s + 256 * b ≡ b * 2 ^ 8 + s = omega arith in
    rw (one, two, xor_block 8 a b r s small little) (omega arith)

-- ---- byte 0

-- the mask of byte 0, by its four lowest bits
abbrev pub byte_mask : Status → ℕ → ℕ
byte_mask status low = cond (leb low last_stage) (stage_mask status low) (beyond_mask (16 * bit status + low))

-- a stage up to 10, and no other, leaves none of the bits 3 to 7
pub stage_in_range : (status : Status) (stage : ℕ) → stage < 256
    → eqb (bit_and (bit_and (byte_mask status (stage % 16)) (bit_xor stage 7)) 248) 0 ≡ leb stage 10
unfolding every
stage_in_range true stage small =
    alike 256 (λ k. eqb (bit_and (bit_and (byte_mask true (k % 16)) (bit_xor k 7)) 248) 0) (λ k. leb k 10) refl stage
    small
stage_in_range false stage small =
    alike 256 (λ k. eqb (bit_and (bit_and (byte_mask false (k % 16)) (bit_xor k 7)) 248) 0) (λ k. leb k 10) refl stage
    small

-- and leaves one of the others just where it may not stand
pub stage_stands : (status : Status) (stage : ℕ) → stage ≤ 10
    → eqb (bit_and (bit_and (stage_mask status stage) (bit_xor stage 7)) 7) 0 ≡ not (against status stage)
unfolding every
stage_stands true stage small =
    alike 11 (λ k. eqb (bit_and (bit_and (stage_mask true k) (bit_xor k 7)) 7) 0) (λ k. not (against true k)) refl stage
    (omega arith)
stage_stands false stage small =
    alike 11 (λ k. eqb (bit_and (bit_and (stage_mask false k) (bit_xor k 7)) 7) 0) (λ k. not (against false k)) refl
    stage
    (omega arith)

-- ---- byte 1

-- have is demanded or not: bits 3 to 7 are left
pub flags_in_range : (demanded : Bool) (flags : ℕ) → flags < 256
    → eqb (bit_and (bit_and (248 + bit demanded) (bit_xor flags 1)) 254) 0 ≡ leb flags 7
unfolding every
flags_in_range true flags small =
    alike 256 (λ k. eqb (bit_and (bit_and 249 (bit_xor k 1)) 254) 0) (λ k. leb k 7) refl flags small
flags_in_range false flags small =
    alike 256 (λ k. eqb (bit_and (bit_and 248 (bit_xor k 1)) 254) 0) (λ k. leb k 7) refl flags small

-- and have itself, where it is demanded and isn't there
pub have_there : (demanded : Bool) (flags : ℕ) → flags < 256
    → eqb (bit_and (bit_and (248 + bit demanded) (bit_xor flags 1)) 1) 0 ≡ not demanded || bit_of flags 0
unfolding every
have_there true flags small =
    alike 256 (λ k. eqb (bit_and (bit_and 249 (bit_xor k 1)) 1) 0) (λ k. bit_of k 0) refl flags small
have_there false flags small =
    alike 256 (λ k. eqb (bit_and (bit_and 248 (bit_xor k 1)) 1) 0) (λ k. true) refl flags small

pub have_bit : (flags : ℕ) → flags < 256 → bit_and flags 1 ≡ bit (bit_of flags 0)
unfolding every
have_bit flags small = agree 256 (λ k. bit_and k 1) (λ k. bit (bit_of k 0)) refl flags small

pub arriving_bit : (flags : ℕ) → flags < 256 → bit_and flags 2 ≡ 2 * bit (bit_of flags 1)
unfolding every
arriving_bit flags small = agree 256 (λ k. bit_and k 2) (λ k. 2 * bit (bit_of k 1)) refl flags small

-- ---- byte 2

pub full_bit : (requests : ℕ) → requests < 256 → bit_and requests 16 ≡ 16 * bit (bit_of requests 4)
unfolding every
full_bit requests small = agree 256 (λ k. bit_and k 16) (λ k. 16 * bit (bit_of k 4)) refl requests small

pub empty_bit : (requests : ℕ) → requests < 256 → bit_and requests 32 ≡ 32 * bit (bit_of requests 5)
unfolding every
empty_bit requests small = agree 256 (λ k. bit_and k 32) (λ k. 32 * bit (bit_of k 5)) refl requests small

-- a mark may stand, for full and for empty: it leaves nothing, or isn't there
pub marks_fit : (a b : Bool) (requests : ℕ) → requests < 256
    → eqb (bit_and (16 * bit (not a) + 32 * bit (not b)) requests) 0
    ≡ (not (bit_of requests 4) || a) && (not (bit_of requests 5) || b)
unfolding every
marks_fit true true requests small =
    alike 256 (λ k. eqb (bit_and 0 k) 0) (λ k. (not (bit_of k 4) || true) && (not (bit_of k 5) || true)) refl requests
    small
marks_fit true false requests small =
    alike 256 (λ k. eqb (bit_and 32 k) 0) (λ k. (not (bit_of k 4) || true) && (not (bit_of k 5) || false)) refl requests
    small
marks_fit false true requests small =
    alike 256 (λ k. eqb (bit_and 16 k) 0) (λ k. (not (bit_of k 4) || false) && (not (bit_of k 5) || true)) refl requests
    small
marks_fit false false requests small =
    alike 256 (λ k. eqb (bit_and 48 k) 0) (λ k. (not (bit_of k 4) || false) && (not (bit_of k 5) || false)) refl
    requests
    small

-- ---- byte 3 and the note

pub mask_byte : (x : ℕ) → x < 256 → bit_and 255 x ≡ x
mask_byte x small = and_comm 255 x ∙ and_mask x 8 ∙ mod-eq_of_lt small

pub mask_note : (free : Bool) (note : ℕ) → note < 2 ^ 32 → bit_and (cond free 0 4294967295) note ≡ cond free 0 note
mask_note true note small = refl
mask_note false note small = and_comm 4294967295 note ∙ and_mask note 32 ∙ mod-eq_of_lt small
