-- Laws of bits: a byte made of bits gives them back, and a byte in range is made of its bits.
use Prim.Native.Nat.{ℕ, zero, suc, ◌+◌, ◌*◌, ◌/◌, ◌%◌, ◌^◌, ◌≤◌, ◌<◌}
use mathlib.Core.Path.{◌≡◌, refl, ◌∙◌}
use mathlib.Core.Bool.{Bool, true, false}
use native.Mathlib.Omega.{arith}
use lib.Dec.{eqb, lit≤}
use lib.Pow.{shr-shr}
use Rattle.machine.specs.declared.Pair.{Pair}
use Rattle.machine.specs.declared.Process.{Process}
use Rattle.machine.specs.Bytes.{bit}
use Rattle.machine.specs.Image.{pair_of, pair_bits, flag_bits, request_bits, process_from}

pub bit_le : (b : Bool) → bit b ≤ 1
bit_le true = lit≤ tt
bit_le false = lit≤ tt

-- one that counts is on
pub bit_on : (b : Bool) → 1 ≤ bit b → b ≡ true
bit_on true some = refl
bit_on false some = absurd (omega arith)

-- and one that is 0 is off
pub bit_off : (b : Bool) → bit b ≡ 0 → b ≡ false
bit_off true none = absurd (omega arith)
bit_off false none = refl

-- a bit as a number, and back
pub bit_is : (b : Bool) (x : ℕ) → x ≡ bit b → eqb x 1 ≡ b
bit_is true x e = rw e
bit_is false x e = rw e

pub is_bit : (x : ℕ) → x ≤ 1 → bit (eqb x 1) ≡ x
is_bit zero h = refl
is_bit (suc zero) h = refl
is_bit (suc (suc x)) h = absurd (omega arith)

pub pair_le : (q : Pair Bool) → pair_bits q ≤ 3
pair_le q = omega (arith, bit_le q.full, bit_le q.empty)

-- two bits of a byte that holds a pair there
pub pair_is : (q : Pair Bool) (byte k : ℕ) → byte / 2 ^ k % 2 ≡ bit q.full → byte / 2 ^ (k + 1) % 2 ≡ bit q.empty
    → pair_of byte k ≡ q
pair_is q byte k e f = simp (bit_is q.full (byte / 2 ^ k % 2) e, bit_is q.empty (byte / 2 ^ (k + 1) % 2) f)

pub flags_le : (p : Process) → flag_bits p ≤ 7
flags_le p = omega (arith, bit_le p.have, bit_le p.arriving, bit_le p.news)

-- a record's bytes 1 and 2 give its flags, requests and marks back
pub process_is : (p : Process) → process_from p.stage (flag_bits p) (request_bits p) p.note ≡ p
process_is p =
    let h = bit_le p.have in
    let a = bit_le p.arriving in
    let n = bit_le p.news in
    let af = bit_le p.asked.full in
    let ae = bit_le p.asked.empty in
    let tf = bit_le p.itself.full in
    let te = bit_le p.itself.empty in
    let mf = bit_le p.mark.full in
    let me = bit_le p.mark.empty in
    let lf = bit_le p.link.full in
    let le = bit_le p.link.empty in
    simp (
      bit_is p.have (flag_bits p / 1 % 2) (omega arith),
      bit_is p.arriving (flag_bits p / 2 % 2) (omega arith),
      bit_is p.news (flag_bits p / 4 % 2) (omega arith),
      bit_is p.asked.full (request_bits p / 1 % 2) (omega arith),
      bit_is p.asked.empty (request_bits p / 2 % 2) (omega arith),
      bit_is p.itself.full (request_bits p / 4 % 2) (omega arith),
      bit_is p.itself.empty (request_bits p / 8 % 2) (omega arith),
      bit_is p.mark.full (request_bits p / 16 % 2) (omega arith),
      bit_is p.mark.empty (request_bits p / 32 % 2) (omega arith),
      bit_is p.link.full (request_bits p / 64 % 2) (omega arith),
      bit_is p.link.empty (request_bits p / 128 % 2) (omega arith),
    )

-- ---- the other way round

pub bits_of_pair : (byte k : ℕ) → pair_bits (pair_of byte k) ≡ byte / 2 ^ k % 2 + 2 * (byte / 2 ^ (k + 1) % 2)
bits_of_pair byte k = simp (is_bit (byte / 2 ^ k % 2) (omega arith), is_bit (byte / 2 ^ (k + 1) % 2) (omega arith))

pub markers_are : (x : ℕ) → x ≤ 3 → pair_bits (pair_of x 0) ≡ x
markers_are x h = bits_of_pair x 0 ∙ omega (arith, shr-shr x 0 1)

flags_sum : (x : ℕ) → x ≤ 7 → x / 1 % 2 + 2 * (x / 2 % 2) + 4 * (x / 4 % 2) ≡ x
flags_sum x h =
    let one : x / 1 ≡ x = omega arith in
    let top : x / 4 % 2 ≡ x / 4 = omega arith in
    rw (one, top) (omega (arith, shr-shr x 1 1))

requests_sum : (x : ℕ) → x < 256
    → x / 1 % 2 + 2 * (x / 2 % 2) + 4 * (x / 4 % 2 + 2 * (x / 8 % 2)) + 16 * (x / 16 % 2 + 2 * (x / 32 % 2))
    + 64 * (x / 64 % 2 + 2 * (x / 128 % 2))
    ≡ x
requests_sum x h =
    let one : x / 1 ≡ x = omega arith in
    let top : x / 128 % 2 ≡ x / 128 = omega arith in
    rw (one, top)
    (omega (arith, shr-shr x 1 1, shr-shr x 2 1, shr-shr x 3 1, shr-shr x 4 1, shr-shr x 5 1, shr-shr x 6 1))

module _ (stage flags requests note : ℕ) where
  pub flags_are : flags ≤ 7 → flag_bits (process_from stage flags requests note) ≡ flags
  flags_are h =
      simp (
        is_bit (flags / 1 % 2) (omega arith),
        is_bit (flags / 2 % 2) (omega arith),
        is_bit (flags / 4 % 2) (omega arith),
      )
      (flags_sum flags h)

  pub requests_are : requests < 256 → request_bits (process_from stage flags requests note) ≡ requests
  requests_are h =
      simp (
        is_bit (requests / 1 % 2) (omega arith),
        is_bit (requests / 2 % 2) (omega arith),
        is_bit (requests / 4 % 2) (omega arith),
        is_bit (requests / 8 % 2) (omega arith),
        is_bit (requests / 16 % 2) (omega arith),
        is_bit (requests / 32 % 2) (omega arith),
        is_bit (requests / 64 % 2) (omega arith),
        is_bit (requests / 128 % 2) (omega arith),
      )
      (requests_sum requests h)
