-- A word whose bits are tested, or turned off and then added to.
use Prim.Native.Nat.{ℕ, zero, suc, ◌+◌, ◌-◌, ◌*◌, ◌/◌, ◌%◌, ◌^◌, ◌≤◌, ◌<◌}
use mathlib.Core.Path.{◌≡◌, sym, ap, ◌∙◌}
use mathlib.Core.Bool.{not}
use native.Mathlib.Omega.{arith}
use native.Mathlib.Nat.{zero-mul}
use lib.Bits.{bit_and, and_high, and_le_r}
use lib.Dec.{eqb}
use lib.Pow.{pow_pos, pow-add, shr-shr, field, mod-mod-pow}
use borrow.Author.Tests.{ne_eqb}
use Rattle.machine.specs.Bytes.{bit_of}
use Rattle.record.specs.Words.{stage_of, flags_of, requests_of, spare_of, note_of}
use Rattle.record.proofs.Fields.{Fields, word_of, made_of, joined, off_in}

-- ---- a bit tested

-- a bit in its place isn't 0 where it is 1
in_place : (b place : ℕ) → b < 2 → 1 ≤ place → not (eqb (b * place) 0) ≡ eqb b 1
in_place zero place bit some = rw (zero-mul place)
in_place (suc zero) place bit some = rw (ne_eqb (1 * place) 0 (λ none. omega (arith, none)))
in_place (suc (suc b)) place bit some = absurd (omega arith)

pub tested : (w k : ℕ) → not (eqb (bit_and w (2 ^ k)) 0) ≡ bit_of w k
tested w k =
    let one : 2 ^ (1 + k) - 2 ^ k ≡ 2 ^ k = omega (arith, pow-add 2 1 k) in
    let left = ap (bit_and w) (sym one) ∙ and_high w 1 k in
    ap (λ x. not (eqb x 0)) left ∙ in_place (w / 2 ^ k % 2) (2 ^ k) (omega arith) (pow_pos k)

-- bit k of the field of i + 1 + k bits from j on
pub in_field : (w j i k : ℕ) → w / 2 ^ (j + k) % 2 ≡ w / 2 ^ j % 2 ^ (i + 1 + k) / 2 ^ k % 2
in_field w j i k =
    ap (λ x. x % 2) (sym (shr-shr w j k))
    ∙ sym (mod-mod-pow (w / 2 ^ j / 2 ^ k) i 1)
    ∙ ap (λ x. x % 2) (sym (field (w / 2 ^ j) (i + 1) k))

-- ---- bits off, and then a sum

-- fields that stay bytes
more : {w s f r p n : ℕ} → Fields w s f r p n → (a b c m : ℕ) → s + a < 256 → f + b < 256 → r + c < 256
    → Fields (w + (a + b * 256 + c * 65536) + m * 4294967296) (s + a) (f + b) (r + c) p (n + m)
more {w} {s} {f} {r} {p} {n} is a b c m one two three =
    let made : w + (a + b * 256 + c * 65536) + m * 4294967296 ≡ word_of (s + a) (f + b) (r + c) p (n + m) =
    omega (arith, joined w) in
    rw made (made_of (s + a) (f + b) (r + c) p (n + m) one two three (omega arith))

-- what is added to flags and requests was turned off
pub stepped : (w x y z a b c m : ℕ) → stage_of w + a < 256 → x < 256 → y < 256 → z < 2 ^ 32 → b ≤ x → c ≤ y
    → Fields
    (bit_and w (18446744073709551615 - (x * 256 + y * 65536 + z * 4294967296)) + (a + b * 256 + c * 65536)
    + m * 4294967296)
    (stage_of w + a) (bit_and (flags_of w) (255 - x) + b) (bit_and (requests_of w) (255 - y) + c) (spare_of w)
    (bit_and (note_of w) (4294967295 - z) + m)
stepped w x y z a b c m stays one two three few less =
    more (off_in w x y z one two three) a b c m stays (omega (arith, and_le_r (flags_of w) (255 - x)))
    (omega (arith, and_le_r (requests_of w) (255 - y)))
