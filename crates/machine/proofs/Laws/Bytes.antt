-- Laws of bytes, wider numbers and splices.
use Prim.Native.Nat.{ℕ, zero, suc, ◌+◌, ◌*◌, ◌/◌, ◌^◌, ◌≤◌, ◌<◌}
use mathlib.Core.Path.{◌≡◌, refl, sym, ap, ◌∙◌}
use mathlib.Core.Bool.{Bool, true, false, ◌&&◌, and-true}
use mathlib.Core.List.{List, [], ◌∷◌, ◌++◌, append_assoc}
use mathlib.Core.Logic.{◌⊎◌, inl, inr}
use native.Mathlib.Omega.{arith}
use native.Mathlib.Numerals.{add-one}
use lib.ListN.{length, get_or, take, drop, length-append, length-take, length-drop}
use lib.ListN.{get_or-eq_default, drop_of_length-le}
use lib.Seq.{length-take-le, drop-cons, take-append-add}
use lib.Seq.{drop-append-add, drop-append_seam, take-append_seam, drop-drop, take-nil}
use lib.Dec.{eqb, ltb}
use lib.Pow.{shr_lt}
use borrow.Author.Tests.{ltb-true, ltb-false, eqb-true, eqb-false, eq-eqb, ne_eqb}
use Rattle.machine.specs.Bytes.{Bytes, part, little_endian_of, number, bytes, all_zero, zeros, splice}

pub lt_or_ge : (a b : ℕ) → (a < b) ⊎ (b ≤ a)
lt_or_ge a b = go (ltb a b) refl
  where
    go : (t : Bool) → ltb a b ≡ t → (a < b) ⊎ (b ≤ a)
    go true e = inl (ltb-true a b e)
    go false e = inr (ltb-false a b e)

-- ---- one byte more: a byte past the end of the buffer is 0

next_part : (s : List ℕ) (at width : ℕ) → part s (at + 1) width ≡ take width (drop (suc at) s)
next_part s at width = ap (λ (k : ℕ). take width (drop k s)) (add-one at)

no_part : (s : List ℕ) (at width : ℕ) → length s ≤ at → part s at width ≡ []
no_part s at width h = ap (take width) (drop_of_length-le s h) ∙ take-nil width

pub number_more : (s : List ℕ) (at width : ℕ) → number s at (suc width) ≡ get_or s at 0 + 256 * number s (at + 1) width
unfolding number little_endian_of
number_more s at width = go (lt_or_ge at (length s))
  where
    go : (at < length s) ⊎ (length s ≤ at)
        → little_endian_of (part s at (suc width)) ≡ get_or s at 0 + 256 * little_endian_of (part s (at + 1) width)
    go (inl h) = rw (drop-cons s at 0 h, next_part s at width)
    go (inr h) = rw (no_part s at (suc width) h, no_part s (at + 1) width (omega arith), get_or-eq_default s 0 h)

pub zeros_more : (s : List ℕ) (at width : ℕ) → zeros s at (suc width) ≡ eqb (get_or s at 0) 0 && zeros s (at + 1) width
unfolding zeros all_zero
zeros_more s at width = go (lt_or_ge at (length s))
  where
    go : (at < length s) ⊎ (length s ≤ at)
        → all_zero (part s at (suc width)) ≡ eqb (get_or s at 0) 0 && all_zero (part s (at + 1) width)
    go (inl h) = rw (drop-cons s at 0 h, next_part s at width)
    go (inr h) = rw (no_part s at (suc width) h, no_part s (at + 1) width (omega arith), get_or-eq_default s 0 h)

-- ---- the widths that occur, as code reads them

number_0 : (s : List ℕ) (at : ℕ) → number s at 0 ≡ 0
unfolding number little_endian_of
number_0 s at = refl

zeros_0 : (s : List ℕ) (at : ℕ) → zeros s at 0 ≡ true
unfolding zeros all_zero
zeros_0 s at = refl

pub number_2 : (s : List ℕ) (at : ℕ) → number s at 2 ≡ get_or s at 0 + 256 * get_or s (at + 1) 0
number_2 s at = rw (number_more s at 1, number_more s (at + 1) 0, number_0 s (at + 1 + 1)) (omega arith)

pub number_4 : (s : List ℕ) (at : ℕ)
    → number s at 4 ≡ get_or s at 0 + 256 * get_or s (at + 1) 0 + 65536 * get_or s (at + 2) 0 + 16777216 * get_or s
    (at + 3) 0
number_4 s at =
    let two : at + 1 + 1 ≡ at + 2 = omega arith in
    let three : at + 2 + 1 ≡ at + 3 = omega arith in
    rw (
      number_more s at 3,
      number_more s (at + 1) 2,
      two,
      number_more s (at + 2) 1,
      three,
      number_more s (at + 3) 0,
      number_0 s (at + 3 + 1),
    )
    (omega arith)

-- four bytes and the next four
pub number_8 : (s : List ℕ) (at : ℕ) → number s at 8 ≡ number s at 4 + 4294967296 * number s (at + 4) 4
number_8 s at =
    let two : at + 1 + 1 ≡ at + 2 = omega arith in
    let three : at + 2 + 1 ≡ at + 3 = omega arith in
    let four : at + 3 + 1 ≡ at + 4 = omega arith in
    rw (
      number_more s at 7,
      number_more s (at + 1) 6,
      two,
      number_more s (at + 2) 5,
      three,
      number_more s (at + 3) 4,
      four,
      number_4 s at,
    )
    (omega arith)

pub zeros_2 : (s : List ℕ) (at : ℕ) → zeros s at 2 ≡ eqb (get_or s at 0) 0 && eqb (get_or s (at + 1) 0) 0
zeros_2 s at = rw (zeros_more s at 1, zeros_more s (at + 1) 0, zeros_0 s (at + 1 + 1)) (simp and-true)

-- ---- a number written and read back

pub length_bytes : (width n : ℕ) → length (bytes width n) ≡ width
unfolding bytes
length_bytes zero n = refl
length_bytes (suc width) n = ap suc (length_bytes width (n / 256))

-- at every width
pub little_endian_bytes : (width n : ℕ) → n < 2 ^ (8 * width) → little_endian_of (bytes width n) ≡ n
unfolding little_endian_of bytes
little_endian_bytes zero n h = omega arith
little_endian_bytes (suc width) n h =
    let wide : 8 * suc width ≡ 8 * width + 8 = omega arith in
    rw (little_endian_bytes width (n / 256) (shr_lt (8 * width) 8 (rw wide at h))) (omega arith)

pub little_endian_bytes_2 : (n : ℕ) → n < 65536 → little_endian_of (bytes 2 n) ≡ n
little_endian_bytes_2 = little_endian_bytes 2

pub little_endian_bytes_4 : (n : ℕ) → n < 2 ^ 32 → little_endian_of (bytes 4 n) ≡ n
little_endian_bytes_4 = little_endian_bytes 4

-- ---- bytes are all zero exactly when their number is

sum_is_zero : (b x : ℕ) → eqb b 0 && eqb x 0 ≡ eqb (b + 256 * x) 0
sum_is_zero b x = go (eqb b 0) refl (eqb x 0) refl
  where
    go : (t : Bool) → eqb b 0 ≡ t → (u : Bool) → eqb x 0 ≡ u → t && u ≡ eqb (b + 256 * x) 0
    go true p true q = sym (eq-eqb (b + 256 * x) 0 (omega (arith, eqb-true b 0 p, eqb-true x 0 q)))
    go true p false q = let ne = eqb-false x 0 q in sym (ne_eqb (b + 256 * x) 0 (λ z. ne (omega arith)))
    go false p u q = let ne = eqb-false b 0 p in sym (ne_eqb (b + 256 * x) 0 (λ z. ne (omega arith)))

pub all_zero_lem : (bs : List ℕ) → all_zero bs ≡ eqb (little_endian_of bs) 0
unfolding all_zero little_endian_of
all_zero_lem [] = refl
all_zero_lem (b ∷ bs) = rw (all_zero_lem bs) (sum_is_zero b (little_endian_of bs))

pub zeros_number : (s : List ℕ) (at width : ℕ) → zeros s at width ≡ eqb (number s at width) 0
unfolding zeros number
zeros_number s at width = all_zero_lem (part s at width)

pub number_lt : (s : List ℕ) (at : ℕ) → Bytes s → number s at 4 < 2 ^ 32
number_lt s at small =
    rw (number_4 s at) (omega (arith, small at, small (at + 1), small (at + 2), small (at + 3)))

-- ---- splices

module _ (s : List ℕ) (at : ℕ) (bs : List ℕ) (fits : at + length bs ≤ length s) where
  pub length_splice : length (splice s at bs) ≡ length s
  unfolding splice
  length_splice = simp (length-append, length-take, length-drop) (omega arith)

-- over the second of two lists
pub splice_right : (a b : List ℕ) (k : ℕ) (bs : List ℕ) → splice (a ++ b) (length a + k) bs ≡ a ++ splice b k bs
unfolding splice
splice_right a b k bs =
    let e : length a + k + length bs ≡ length a + (k + length bs) = omega arith in
    rw (
      take-append-add a b k,
      e,
      drop-append-add a b (k + length bs),
      append_assoc a (take k b) (bs ++ drop (k + length bs) b),
    )

-- over the whole of the first of two lists
pub splice_whole : (a b bs : List ℕ) → length bs ≡ length a → splice (a ++ b) 0 bs ≡ bs ++ b
unfolding splice
splice_whole a b bs e =
    let f : 0 + length bs ≡ length a = omega arith in
    rw (f, drop-append_seam a b)

-- one after the other
pub splice_next : (s : List ℕ) (at : ℕ) (a b : List ℕ) → at ≤ length s
    → splice (splice s at a) (at + length a) b ≡ splice s at (a ++ b)
unfolding splice
splice_next s at a b h =
    let long : length (take at s) ≡ at = length-take-le at s h in
    let here : at + length a ≡ length (take at s) + length a = omega arith in
    let there : at + length a + length b ≡ length (take at s) + (length a + length b) = omega arith in
    let end : length (take at s) + length a + length b ≡ at + length (a ++ b) = omega (arith, length-append a b) in
    rw (
      there,
      here,
      take-append-add (take at s) (a ++ drop (length (take at s) + length a) s) (length a),
      take-append_seam a (drop (length (take at s) + length a) s),
      drop-append-add (take at s) (a ++ drop (length (take at s) + length a) s) (length a + length b),
      drop-append-add a (drop (length (take at s) + length a) s) (length b),
      drop-drop (length b) (length (take at s) + length a) s,
      end,
    )
    (append_assoc (take at s) a (b ++ drop (at + length (a ++ b)) s)
    ∙ ap (λ (l : List ℕ). take at s ++ l) (sym (append_assoc a b (drop (at + length (a ++ b)) s))))
