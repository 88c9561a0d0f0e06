-- Some bytes as one number, by its highest byte; a number as the bytes of std; and two numbers written in a row.
use Prim.Native.Nat.{ℕ, zero, suc, ◌+◌, ◌*◌, ◌/◌, ◌%◌, ◌^◌, ◌≤◌}
use mathlib.Core.Path.{◌≡◌, refl, ap, ◌∙◌}
use mathlib.Core.List.{List, [], ◌∷◌, ◌++◌}
use native.Mathlib.Omega.{arith}
use native.Mathlib.Nat.{mul_left_comm}
use native.Mathlib.Nat.{div-div-eq-div-mul}
use lib.ListN.{length, get_or, drop}
use lib.Seq.{take-take}
use lib.Pow.{pow-add, shr-shr, mod-mod-pow, field}
use Rattle.std.specs.Int.{w16, w32, w64, from_le_bytes, bytes_low_first}
use Rattle.machine.specs.Bytes.{part, number, little_endian_of, bytes, splice}
use Rattle.machine.proofs.Laws.Bytes.{number_more, splice_next}

-- ---- bytes, joined

-- eight bits more
byte_up : (k : ℕ) → 2 ^ (8 * suc k) ≡ 256 * 2 ^ (8 * k)
byte_up k =
    let bits : 8 * suc k ≡ 8 + 8 * k = omega arith in
    rw bits (pow-add 2 8 (8 * k))

-- a number by its highest byte
pub number_top : (s : List ℕ) (k at : ℕ) → number s at (suc k) ≡ number s at k + get_or s (at + k) 0 * 2 ^ (8 * k)
unfolding number little_endian_of
number_top s zero at =
    let here : at + 0 ≡ at = omega arith in
    rw (number_more s at 0, here) (omega arith)
number_top s (suc k) at =
    let there : at + suc k ≡ at + 1 + k = omega arith in
    rw (number_more s at (suc k), number_top s k (at + 1), number_more s at k, there, byte_up k)
    (omega (arith, mul_left_comm (get_or s (at + 1 + k) 0) 256 (2 ^ (8 * k))))

pub number_1 : (s : List ℕ) (at : ℕ) → number s at 1 ≡ get_or s at 0
unfolding number little_endian_of
number_1 s at = rw (number_more s at 0) (omega arith)

-- a number of bytes that were cut out of a buffer
pub number_cut : (s : List ℕ) (at width k : ℕ) {bs : List ℕ} → k ≡ width → bs ≡ part s at k
    → number bs 0 width ≡ number s at width
unfolding number
number_cut s at width k wide is = rw (is, wide) (ap little_endian_of (take-take width width (drop at s) (omega arith)))

-- bytes joined as the library joins them
module _ (s : List ℕ) where
  pub joined_2 : from_le_bytes w16 s ≡ number s 0 2
  joined_2 = omega (arith, number_1 s 0, number_top s 1 0)

  pub joined_4 : from_le_bytes w32 s ≡ number s 0 4
  joined_4 = omega (arith, joined_2, number_top s 2 0, number_top s 3 0)

  pub joined_8 : from_le_bytes w64 s ≡ number s 0 8
  joined_8 = omega (arith, joined_4, number_top s 4 0, number_top s 5 0, number_top s 6 0, number_top s 7 0)

-- ---- a number written

-- its bytes from byte i on, as the library has them
written_from : (k i n : ℕ) → bytes_low_first (suc i) k n ≡ bytes k (n / 256 ^ suc i)
unfolding bytes
written_from zero i n = refl
written_from (suc k) i n =
    let up : 256 ^ suc i * 256 ≡ 256 ^ suc (suc i) = omega arith in
    rw (div-div-eq-div-mul n (256 ^ suc i) 256, up, written_from k (suc i) n)

-- and all of them
pub written : (width n : ℕ) → bytes_low_first 0 width n ≡ bytes width n
unfolding bytes
written zero n = refl
written (suc k) n = ap (λ (l : List ℕ). n % 256 ∷ l) (written_from k 0 n)

-- its lower bytes one by one
pub bytes_apart : (w : ℕ) → bytes 8 w
    ≡ (w % 256 ∷ w / 256 % 256 ∷ w / 65536 % 256 ∷ w / 16777216 % 256 ∷ []) ++ bytes 4 (w / 4294967296)
unfolding bytes
bytes_apart w = rw (shr-shr w 8 8, shr-shr w 16 8, shr-shr w 24 8)

-- the lower bytes of a number are those of its remainder
bytes_low : (width n : ℕ) → bytes width (n % 2 ^ (8 * width)) ≡ bytes width n
unfolding bytes
bytes_low zero n = refl
bytes_low (suc width) n =
    let wide : 8 * suc width ≡ 8 * width + 8 = omega arith in
    rw (wide, mod-mod-pow n (8 * width) 8, field n (8 * width) 8, bytes_low width (n / 256))

-- so a word is its lower and its upper half
pub word_halves : (n : ℕ) → bytes 4 (n % 4294967296) ++ bytes 4 (n / 4294967296) ≡ bytes 8 n
unfolding bytes
word_halves n =
    ap (λ (l : List ℕ). l ++ bytes 4 (n / 4294967296)) (bytes_low 4 n)
    ∙ rw (shr-shr n 8 8, shr-shr n 16 8, shr-shr n 24 8)

-- two parts, written one after the other
pub stores_both : (s : List ℕ) {t u : List ℕ} (at next : ℕ) (a b : List ℕ) → at ≤ length s → next ≡ at + length a
    → t ≡ splice s at a
    → u ≡ splice t next b
    → u ≡ splice s at (a ++ b)
stores_both s at next a b room there first second = second ∙ rw (first, there, splice_next s at a b room)
