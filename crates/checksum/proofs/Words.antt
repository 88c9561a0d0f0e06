-- The words that a block's check covers, as code reads them: two at the block's start, 252 from its slots on.
use Prim.Native.Nat.{ℕ, zero, suc, ◌+◌, ◌*◌, ◌/◌, ◌≤◌, ◌<◌}
use mathlib.Core.Path.{◌≡◌, refl, ap, ◌∙◌}
use mathlib.Core.List.{List, [], ◌∷◌, ◌++◌}
use native.Mathlib.Omega.{arith}
use lib.ListN.{length, get_or, take, drop, length-append, length-take, length-drop, get_or-append}
use lib.Seq.{get_or-append-add, get_or-take, get_or-drop}
use Rattle.machine.specs.Bytes.{number}
use Rattle.machine.specs.Tape.{words, covered}
use Rattle.machine.proofs.Laws.Bytes.{number_2}

-- ---- words of any bytes

pub words_at : (s : List ℕ) (k : ℕ) → 2 * k + 1 < length s
    → get_or (words s) k 0 ≡ get_or s (2 * k) 0 + 256 * get_or s (2 * k + 1) 0
unfolding words
words_at [] k h = absurd (omega arith)
words_at (x ∷ []) k h = absurd (omega arith)
words_at (x ∷ y ∷ s) zero h = refl
words_at (x ∷ y ∷ s) (suc k) h =
    let e : 2 * suc k ≡ suc (suc (2 * k)) = omega arith in
    let f : suc (suc (2 * k)) + 1 ≡ suc (suc (2 * k + 1)) = omega arith in
    rw (e, f) (words_at s k (omega arith))

pub length_words : (s : List ℕ) → length (words s) ≡ (length s + 1) / 2
unfolding words
length_words [] = refl
length_words (x ∷ []) = refl
length_words (x ∷ y ∷ s) = omega (arith, length_words s)

-- ---- those of a block

module _ (s : List ℕ) (b : ℕ) (room : 512 * b + 512 ≤ length s) where
  pub length_front : length (take 4 (drop (512 * b) s)) ≡ 4
  length_front = simp (length-take, length-drop) (omega arith)

  pub length_covered : length (covered s b) ≡ 508
  unfolding covered
  length_covered = simp (length-append, length-take, length-drop) (omega arith)

  pub covered_front : (j : ℕ) → j < 4 → get_or (covered s b) j 0 ≡ get_or s (512 * b + j) 0
  unfolding covered
  covered_front j h =
      get_or-append (take 4 (drop (512 * b) s)) (take 504 (drop (512 * b + 8) s)) 0 j (omega (arith, length_front))
      ∙ get_or-take 4 (drop (512 * b) s) j 0 h
      ∙ get_or-drop (512 * b) s j 0

  pub covered_slots : (j : ℕ) → j < 504 → get_or (covered s b) (4 + j) 0 ≡ get_or s (512 * b + 8 + j) 0
  unfolding covered
  covered_slots j h =
      let front = take 4 (drop (512 * b) s) in
      let slots = take 504 (drop (512 * b + 8) s) in
      ap (λ (m : ℕ). get_or (front ++ slots) m 0) (omega (arith, length_front))
      ∙ get_or-append-add front slots j 0
      ∙ get_or-take 504 (drop (512 * b + 8) s) j 0 h
      ∙ get_or-drop (512 * b + 8) s j 0

  pub length_covered_words : length (words (covered s b)) ≡ 254
  length_covered_words = omega (arith, length_words (covered s b), length_covered)

  -- the block's number and its count
  pub word_front : (k : ℕ) → k < 2 → get_or (words (covered s b)) k 0 ≡ number s (512 * b + 2 * k) 2
  word_front k h =
      let e : 512 * b + 2 * k + 1 ≡ 512 * b + (2 * k + 1) = omega arith in
      rw (
        words_at (covered s b) k (omega (arith, length_covered)),
        covered_front (2 * k) (omega arith),
        covered_front (2 * k + 1) (omega arith),
        number_2 s (512 * b + 2 * k),
        e,
      )

  -- and its slots
  pub word_slots : (k : ℕ) → k < 252 → get_or (words (covered s b)) (2 + k) 0 ≡ number s (512 * b + 8 + 2 * k) 2
  word_slots k h =
      let e : 512 * b + 8 + 2 * k + 1 ≡ 512 * b + 8 + (2 * k + 1) = omega arith in
      let f : 2 * (2 + k) ≡ 4 + 2 * k = omega arith in
      let g : 4 + 2 * k + 1 ≡ 4 + (2 * k + 1) = omega arith in
      rw (
        words_at (covered s b) (2 + k) (omega (arith, length_covered)),
        f,
        g,
        covered_slots (2 * k) (omega arith),
        covered_slots (2 * k + 1) (omega arith),
        number_2 s (512 * b + 8 + 2 * k),
        e,
      )
