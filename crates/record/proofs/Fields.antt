-- A record's word, field by field: bits set or off act on each field by itself, and the fields say which record the
-- word shows.
use Prim.Native.Nat.{ℕ, ◌+◌, ◌-◌, ◌*◌, ◌/◌, ◌%◌, ◌^◌, ◌≤◌, ◌<◌}
use mathlib.Core.Path.{◌≡◌, refl, sym, ap, ◌∙◌}
use native.Mathlib.Omega.{arith}
use native.Mathlib.Nat.{mod-eq_of_lt}
use lib.Bits.{bit_and, bit_or, and_shr, or_shr, and_mod, or_mod, and_mask, or_zero_r}
use lib.Pow.{shr-shr}
use Rattle.machine.specs.Image.{process_from}
use Rattle.record.specs.Words.{stage_of, flags_of, requests_of, spare_of, note_of, shown_process, Tidy}
use Rattle.record.specs.Words.{asked_of, itself_of, marks_of}

-- the five fields of a word
pub record Fields (w stage flags requests spare note : ℕ) : Type 0 where
  pub stage_is : stage_of w ≡ stage
  pub flags_is : flags_of w ≡ flags
  pub requests_is : requests_of w ≡ requests
  pub spare_is : spare_of w ≡ spare
  pub note_is : note_of w ≡ note

pub shows : {w a b c d e : ℕ} → Fields w a b c d e → shown_process w ≡ process_from a b c e
shows f = rw (f.stage_is, f.flags_is, f.requests_is, f.note_is)

pub is_tidy : {w a b c d e : ℕ} → Fields w a b c d e → b ≤ 7 → d ≡ 0 → e < 2 ^ 32 → Tidy w
is_tidy f few none small =
    record {
      flags = rw f.flags_is few;
      spare = f.spare_is ∙ none;
      note = rw f.note_is small;
    }

-- five fields, lowest first, as a word
abbrev pub word_of : ℕ → ℕ → ℕ → ℕ → ℕ → ℕ
word_of stage flags requests spare note = stage + 256 * (flags + 256 * (requests + 256 * (spare + 256 * note)))

pub made_of : (a b c d e : ℕ) → a < 256 → b < 256 → c < 256 → d < 256 → Fields (word_of a b c d e) a b c d e
made_of a b c d e one two three four =
    let w = word_of a b c d e in
    let up1 : w / 256 ≡ b + 256 * (c + 256 * (d + 256 * e)) = omega arith in
    let up2 : w / 65536 ≡ c + 256 * (d + 256 * e) = sym (shr-shr w 8 8) ∙ rw up1 (omega arith) in
    let up3 : w / 16777216 ≡ d + 256 * e = sym (shr-shr w 16 8) ∙ rw up2 (omega arith) in
    let up4 : w / 4294967296 ≡ e = sym (shr-shr w 24 8) ∙ rw up3 (omega arith) in
    record {
      stage_is = omega arith;
      flags_is = rw up1 (omega arith);
      requests_is = rw up2 (omega arith);
      spare_is = rw up3 (omega arith);
      note_is = up4;
    }

-- a word is made of its fields
pub joined : (w : ℕ) → w ≡ word_of (stage_of w) (flags_of w) (requests_of w) (spare_of w) (note_of w)
joined w =
    let two : w / 256 / 256 ≡ w / 65536 = shr-shr w 8 8 in
    let three : w / 65536 / 256 ≡ w / 16777216 = shr-shr w 16 8 in
    let four : w / 16777216 / 256 ≡ w / 4294967296 = shr-shr w 24 8 in
    omega arith

-- ---- pairs of bits, in byte 2

module _ (w : ℕ) where
  pub asked_in : asked_of w ≡ requests_of w % 4
  asked_in = omega arith

  pub itself_in : itself_of w ≡ requests_of w / 4 % 4
  itself_in =
      let up : w / 65536 / 4 ≡ w / 262144 = shr-shr w 16 2 in
      omega arith

  pub marks_in : marks_of w ≡ requests_of w / 16 % 4
  marks_in =
      let up : w / 65536 / 16 ≡ w / 1048576 = shr-shr w 16 4 in
      omega arith

-- ---- bits set, and bits kept

-- what acts on each bit by itself acts on each field by itself
module _ (op : ℕ → ℕ → ℕ) (op_shr : (a b k : ℕ) → op a b / 2 ^ k ≡ op (a / 2 ^ k) (b / 2 ^ k))
    (op_mod : (a b k : ℕ) → op a b % 2 ^ k ≡ op (a % 2 ^ k) (b % 2 ^ k)) (w : ℕ) {m a b c d e : ℕ}
    (f : Fields m a b c d e) where
  each_field : (k x : ℕ) → m / 2 ^ k % 256 ≡ x → op w m / 2 ^ k % 256 ≡ op (w / 2 ^ k % 256) x
  each_field k x is =
      ap (λ n. n % 256) (op_shr w m k) ∙ op_mod (w / 2 ^ k) (m / 2 ^ k) 8 ∙ ap (op (w / 2 ^ k % 256)) is

  by_field : Fields (op w m) (op (stage_of w) a) (op (flags_of w) b) (op (requests_of w) c) (op (spare_of w) d)
      (op (note_of w) e)
  by_field =
      record {
        stage_is = op_mod w m 8 ∙ ap (op (stage_of w)) f.stage_is;
        flags_is = each_field 8 b f.flags_is;
        requests_is = each_field 16 c f.requests_is;
        spare_is = each_field 24 d f.spare_is;
        note_is = op_shr w m 32 ∙ ap (op (note_of w)) f.note_is;
      }

pub with_bits : (w : ℕ) {m a b c d e : ℕ} → Fields m a b c d e
    → Fields (bit_or w m) (bit_or (stage_of w) a) (bit_or (flags_of w) b) (bit_or (requests_of w) c)
    (bit_or (spare_of w) d)
    (bit_or (note_of w) e)
with_bits = by_field bit_or or_shr or_mod

pub under_mask : (w : ℕ) {m a b c d e : ℕ} → Fields m a b c d e
    → Fields (bit_and w m) (bit_and (stage_of w) a) (bit_and (flags_of w) b) (bit_and (requests_of w) c)
    (bit_and (spare_of w) d) (bit_and (note_of w) e)
under_mask = by_field bit_and and_shr and_mod

-- a byte under all ones
pub all_ones : (k x : ℕ) → x < 2 ^ k → bit_and x (2 ^ k - 1) ≡ x
all_ones k x small = and_mask x k ∙ mod-eq_of_lt small

-- flags, requests and marks set
pub set_in : (w x y : ℕ) → x < 256 → y < 256
    → Fields (bit_or w (x * 256 + y * 65536)) (stage_of w) (bit_or (flags_of w) x) (bit_or (requests_of w) y)
    (spare_of w)
    (note_of w)
set_in w x y one two =
    let is : x * 256 + y * 65536 ≡ word_of 0 x y 0 0 = omega arith in
    rw is
    (rw (or_zero_r (stage_of w), or_zero_r (spare_of w), or_zero_r (note_of w)) at
    (with_bits w (made_of 0 x y 0 0 (omega arith) one two (omega arith))))

-- flags, requests, marks and bits of the note off
pub off_in : (w x y z : ℕ) → x < 256 → y < 256 → z < 2 ^ 32
    → Fields (bit_and w (18446744073709551615 - (x * 256 + y * 65536 + z * 4294967296))) (stage_of w)
    (bit_and (flags_of w) (255 - x)) (bit_and (requests_of w) (255 - y)) (spare_of w)
    (bit_and (note_of w) (4294967295 - z))
off_in w x y z one two three =
    let is : 18446744073709551615 - (x * 256 + y * 65536 + z * 4294967296)
    ≡ word_of 255 (255 - x) (255 - y) 255 (4294967295 - z) = omega arith in
    rw is
    (rw (all_ones 8 (stage_of w) (omega arith), all_ones 8 (spare_of w) (omega arith)) at
    (under_mask w
    (made_of 255 (255 - x) (255 - y) 255 (4294967295 - z) (omega arith) (omega arith) (omega arith) (omega arith))))

-- ---- byte 2 alone, a record's requests and marks and a header's markers

-- a word's own fields
pub fields_of : (w : ℕ) → Fields w (stage_of w) (flags_of w) (requests_of w) (spare_of w) (note_of w)
fields_of w = record { stage_is = refl; flags_is = refl; requests_is = refl; spare_is = refl; note_is = refl }

pub set_in_2 : (w y : ℕ) → y < 256
    → Fields (bit_or w (y * 65536)) (stage_of w) (flags_of w) (bit_or (requests_of w) y) (spare_of w) (note_of w)
set_in_2 w y byte =
    let is : y * 65536 ≡ 0 * 256 + y * 65536 = omega arith in
    rw is (rw (or_zero_r (flags_of w)) at (set_in w 0 y (omega arith) byte))

pub off_in_2 : {w a b c d e : ℕ} → Fields w a b c d e → (y : ℕ) → y < 256 → e < 2 ^ 32
    → Fields (bit_and w (18446744073709551615 - y * 65536)) a b (bit_and c (255 - y)) d e
off_in_2 {w} {b = b} {e = e} f y byte small =
    let is : y * 65536 ≡ 0 * 256 + y * 65536 + 0 * 4294967296 = omega arith in
    let bits = all_ones 8 b (omega (arith, f.flags_is)) in
    rw is
    (rw (f.stage_is, f.flags_is, f.requests_is, f.spare_is, f.note_is, bits, all_ones 32 e small) at
    (off_in w 0 y 0 (omega arith) byte (omega arith)))

-- ---- another stage, and no note

pub at_stage : (w stage : ℕ) → stage < 256
    → Fields (w / 256 * 256 + stage) stage (flags_of w) (requests_of w) (spare_of w) (note_of w)
at_stage w stage byte =
    let is : w / 256 * 256 + stage ≡ word_of stage (flags_of w) (requests_of w) (spare_of w) (note_of w) =
    omega (arith, joined w) in
    rw is (made_of stage _ _ _ _ byte (omega arith) (omega arith) (omega arith))

pub without_note : (w : ℕ) → Fields (w % 4294967296) (stage_of w) (flags_of w) (requests_of w) (spare_of w) 0
without_note w =
    let is : w % 4294967296 ≡ word_of (stage_of w) (flags_of w) (requests_of w) (spare_of w) 0 = omega
    (arith, joined w) in
    rw is (made_of (stage_of w) _ _ _ 0 (omega arith) (omega arith) (omega arith) (omega arith))
