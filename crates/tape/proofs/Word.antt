-- One word of a block changed: it is one word of what the check covers, so the check of the block's bytes moves unless
-- 0 and 65,535 are exchanged, and the check that stands in the block is kept.
use Prim.Native.Nat.{ℕ, ◌+◌, ◌-◌, ◌*◌, ◌/◌, ◌%◌, ◌≤◌, ◌<◌}
use mathlib.Core.Path.{◌≡◌, ap, ◌∙◌}
use mathlib.Core.List.{List}
use mathlib.Core.Logic.{◌⊎◌, inl, inr}
use native.Mathlib.Omega.{arith}
use lib.ListN.{length, get_or, set, length-set}
use Rattle.machine.specs.Bytes.{number, Bytes}
use Rattle.machine.specs.Tape.{words, check, covered, block_check}
use Rattle.machine.proofs.Laws.Bytes.{number_2}
use Rattle.checksum.proofs.Words.{length_covered, length_covered_words, word_front, word_slots}
use Rattle.tape.proofs.Covered.{Place, covered_set, check_apart}
use Rattle.tape.proofs.Moved.{Exchanged, words_set, check_stayed, check_stays}

-- the word that stands in s from `at` on
abbrev pub word_in : List ℕ → ℕ → ℕ
word_in s at = number s at 2

-- s with two bytes stored from `at` on
abbrev pub with_word : List ℕ → ℕ → ℕ → ℕ → List ℕ
with_word s at x y = set (set s at x) (at + 1) y

-- byte p of a block begins a word that the check covers
pub record Word (p : ℕ) : Type 0 where
  pub even : p % 2 ≡ 0
  pub below : p < 512
  pub apart : (p < 4) ⊎ (8 ≤ p)

-- and this is word i of what is covered
record Index (p i : ℕ) : Type 0 where
  lower : Place p (2 * i)
  upper : Place (p + 1) (2 * i + 1)
  few : i < 254

-- for some i
index : (p : ℕ) → Word p → (i : ℕ) × Index p i
index p word = go word.apart
  where
    go : (p < 4) ⊎ (8 ≤ p) → (i : ℕ) × Index p i
    go (inl low) = (
      p / 2,
      record { lower = inl (omega arith); upper = inl (omega arith); few = omega arith },
    )
    go (inr high) = (
      p / 2 - 2,
      record { lower = inr (omega arith); upper = inr (omega arith); few = omega arith },
    )

module _ (s : List ℕ) (b p i : ℕ) (room : 512 * b + 512 ≤ length s) (place : Index p i) where
  -- word i is there
  within : i < length (words (covered s b))
  within = omega (arith, length_covered_words s b room, place.few)

  -- it is the one that stands in s
  covered_word : get_or (words (covered s b)) i 0 ≡ word_in s (512 * b + p)
  covered_word = go place.lower
    where
      go : Place p (2 * i) → get_or (words (covered s b)) i 0 ≡ word_in s (512 * b + p)
      go (inl h) = word_front s b room i (omega arith) ∙ ap (word_in s) (omega arith)
      go (inr h) =
          let k = i - 2 in
          ap (λ (m : ℕ). get_or (words (covered s b)) m 0) (omega arith)
          ∙ word_slots s b room k (omega (arith, place.few))
          ∙ ap (word_in s) (omega arith)

  -- and two bytes stored in s are that word stored
  covered_with : (x y : ℕ)
      → words (covered (with_word s (512 * b + p) x y) b) ≡ set (words (covered s b)) i (x + 256 * y)
  covered_with x y =
      let next : 512 * b + p + 1 ≡ 512 * b + (p + 1) = omega arith in
      let one = set s (512 * b + p) x in
      let room_one : 512 * b + 512 ≤ length one = omega (arith, length-set s (512 * b + p) x) in
      rw (
        next,
        covered_set one b room_one (p + 1) (2 * i + 1) y place.upper,
        covered_set s b room p (2 * i) x place.lower,
      )
      (words_set (covered s b) i x y (omega (arith, length_covered s b room, place.few)))

module _ (s : List ℕ) (b p x y : ℕ) (word : Word p) where
  -- the check that stands in the block is kept
  pub same_block_check : block_check (with_word s (512 * b + p) x y) b ≡ block_check s b
  same_block_check =
      let (i, place) = index p word in
      let next : 512 * b + p + 1 ≡ 512 * b + (p + 1) = omega arith in
      rw (
        next,
        check_apart (set s (512 * b + p) x) b (p + 1) (2 * i + 1) y place.upper,
        check_apart s b p (2 * i) x place.lower,
      )

  -- where the check of the block's bytes stays, so did the word, or it was exchanged
  pub word_stayed : b < length s / 512 → Bytes s → x < 256 → y < 256
      → check (covered (with_word s (512 * b + p) x y) b) ≡ check (covered s b)
      → (word_in s (512 * b + p) ≡ x + 256 * y) ⊎ Exchanged (word_in s (512 * b + p)) (x + 256 * y)
  word_stayed below small low high same =
      let room : 512 * b + 512 ≤ length s = omega arith in
      let (i, place) = index p word in
      let at = 512 * b + p in
      let is = covered_word s b p i room place in
      rw is at
      (check_stayed (words (covered s b)) i (x + 256 * y) (within s b p i room place)
      (omega (arith, is, number_2 s at, small at, small (at + 1)))
      (omega arith) (rw (covered_with s b p i room place x y) at same))

  -- and where it was exchanged the check stays
  pub exchanged : b < length s / 512 → Exchanged (word_in s (512 * b + p)) (x + 256 * y)
      → check (covered (with_word s (512 * b + p) x y) b) ≡ check (covered s b)
  exchanged below change =
      let room : 512 * b + 512 ≤ length s = omega arith in
      let (i, place) = index p word in
      rw (covered_with s b p i room place x y)
      (check_stays (words (covered s b)) i (x + 256 * y) (within s b p i room place)
      (rw (covered_word s b p i room place) change))
