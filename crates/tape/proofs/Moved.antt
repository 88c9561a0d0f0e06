-- One word changed: it moves the words' sum by less than 65,536, so the check moves with it unless 0 and 65,535 are
-- exchanged, which have the same remainder.
use Prim.Native.Nat.{ℕ, zero, suc, ◌+◌, ◌-◌, ◌*◌, ◌/◌, ◌%◌, ◌≤◌, ◌<◌}
use mathlib.Core.Path.{◌≡◌, refl, sym, ap, ap₂, ◌∙◌}
use mathlib.Core.List.{List, [], ◌∷◌}
use mathlib.Core.Logic.{◌⊎◌, inl, inr}
use native.Mathlib.Omega.{arith}
use lib.ListN.{length, get_or, set, length-set}
use Rattle.machine.specs.Tape.{words, check_from}
use Rattle.machine.proofs.Laws.Bytes.{lt_or_ge}
use Rattle.checksum.proofs.Sums.{total, weighed, one_remainder}

-- two bytes stored are a word stored
pub words_set : (s : List ℕ) (i x y : ℕ) → 2 * i + 1 < length s
    → words (set (set s (2 * i) x) (2 * i + 1) y) ≡ set (words s) i (x + 256 * y)
unfolding words
words_set [] i x y h = absurd (omega arith)
words_set (u ∷ []) i x y h = absurd (omega arith)
words_set (u ∷ v ∷ s) zero x y h = refl
words_set (u ∷ v ∷ s) (suc i) x y h =
    let lower : 2 * suc i ≡ suc (suc (2 * i)) = omega arith in
    let upper : suc (suc (2 * i)) + 1 ≡ suc (suc (2 * i + 1)) = omega arith in
    rw (lower, upper) (ap (λ (ws : List ℕ). (u + 256 * v) ∷ ws) (words_set s i x y (omega arith)))

-- ---- both sums

-- one word less and another more
total_set : (ws : List ℕ) (i v : ℕ) → i < length ws → total (set ws i v) + get_or ws i 0 ≡ total ws + v
unfolding total
total_set [] i v h = absurd (omega arith)
total_set (w ∷ ws) zero v h = omega arith
total_set (w ∷ ws) (suc i) v h = omega (arith, total_set ws i v (omega arith))

-- word i is counted as often as there are words from it on
weighed_set : (ws : List ℕ) (i v : ℕ) → i < length ws
    → weighed (set ws i v) + get_or ws i 0 * (length ws - i) ≡ weighed ws + v * (length ws - i)
unfolding weighed
weighed_set [] i v h = absurd (omega arith)
weighed_set (w ∷ ws) zero v h =
    let n : suc (length ws) - 0 ≡ suc (length ws) = omega arith in
    rw n (omega arith)
weighed_set (w ∷ ws) (suc i) v h =
    let n : suc (length ws) - suc i ≡ length ws - i = omega arith in
    rw (n, length-set ws i v) (omega (arith, weighed_set ws i v (omega arith)))

-- ---- the check

-- 0 and 65,535, either way round
abbrev pub Exchanged : ℕ → ℕ → Type 0
Exchanged old new = ((old ≡ 0) × (new ≡ 65535)) ⊎ ((old ≡ 65535) × (new ≡ 0))

-- sums that differ as two words do, with one remainder
equal_or_exchanged : (p q old new : ℕ) → old < 65536 → new < 65536 → q + old ≡ p + new → q % 65535 ≡ p % 65535
    → (old ≡ new) ⊎ Exchanged old new
equal_or_exchanged p q old new low high moved same =
    go (lt_or_ge (q / 65535) (p / 65535)) (lt_or_ge (p / 65535) (q / 65535))
  where
    go : (q / 65535 < p / 65535) ⊎ (p / 65535 ≤ q / 65535) → (p / 65535 < q / 65535) ⊎ (q / 65535 ≤ p / 65535)
        → (old ≡ new) ⊎ Exchanged old new
    go (inl fewer) any = inr (inr (omega arith, omega arith))
    go (inr h) (inl more) = inr (inl (omega arith, omega arith))
    go (inr h) (inr k) = inl (omega arith)

-- sums that differ as 0 and 65,535 do, so many times
same_remainder : (p q old new times : ℕ) → Exchanged old new → q + old * times ≡ p + new * times
    → q % 65535 ≡ p % 65535
same_remainder p q old new times (inl h) moved =
    omega (arith, ap (λ (x : ℕ). x * times) h.0, ap (λ (x : ℕ). x * times) h.1)
same_remainder p q old new times (inr h) moved =
    omega (arith, ap (λ (x : ℕ). x * times) h.0, ap (λ (x : ℕ). x * times) h.1)

module _ (ws : List ℕ) (i v : ℕ) (within : i < length ws) where
  -- a check that stays tells that the word did, or was exchanged
  pub check_stayed : get_or ws i 0 < 65536 → v < 65536 → check_from 0 0 (set ws i v) ≡ check_from 0 0 ws
      → (get_or ws i 0 ≡ v) ⊎ Exchanged (get_or ws i 0) v
  check_stayed low high same =
      equal_or_exchanged (total ws) (total (set ws i v)) (get_or ws i 0) v low high (total_set ws i v within)
      (omega (arith, one_remainder ws, one_remainder (set ws i v)))

  -- and where it was exchanged the check stays
  pub check_stays : Exchanged (get_or ws i 0) v → check_from 0 0 (set ws i v) ≡ check_from 0 0 ws
  check_stays change =
      let old = get_or ws i 0 in
      let new = set ws i v in
      let once : total new + old * 1 ≡ total ws + v * 1 = omega (arith, total_set ws i v within) in
      let often = weighed_set ws i v within in
      one_remainder new
      ∙ ap₂ (λ (a b : ℕ). a + 65536 * b) (same_remainder (total ws) (total new) old v 1 change once)
      (same_remainder (weighed ws) (weighed new) old v (length ws - i) change often)
      ∙ sym (one_remainder ws)
