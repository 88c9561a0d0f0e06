-- The neighbours of a process, without a remainder: code goes by these cases. In a ring of two or more a neighbour is
-- another process.
use Prim.Native.Nat.{ℕ, zero, suc, ◌+◌, ◌-◌, ◌%◌, ◌≤◌, ◌<◌}
use mathlib.Core.Path.{◌≡◌, ap, ◌∙◌}
use mathlib.Core.Logic.{◌⊎◌, inl, inr}
use native.Mathlib.Omega.{arith}
use native.Mathlib.Nat.{mod-eq_of_lt, mod_self, mod-lt, add-mod_right}
use Rattle.machine.specs.Ring.{left, right}
use Rattle.machine.proofs.Laws.Bytes.{lt_or_ge}

pub right_inner : (n i : ℕ) → i + 1 < n → right n i ≡ i + 1
right_inner n i h = mod-eq_of_lt h

pub right_last : (n i : ℕ) → i + 1 ≡ n → right n i ≡ 0
right_last n i e = ap (λ (k : ℕ). k % n) e ∙ mod_self n

pub left_first : (n : ℕ) → 0 < n → left n 0 ≡ n - 1
left_first n h =
    let e : 0 + n - 1 ≡ n - 1 = omega arith in
    ap (λ (k : ℕ). k % n) e ∙ mod-eq_of_lt (omega arith)

pub left_inner : (n i : ℕ) → 0 < i → i < n → left n i ≡ i - 1
left_inner n i h below =
    let e : i + n - 1 ≡ i - 1 + n = omega arith in
    ap (λ (k : ℕ). k % n) e ∙ add-mod_right (i - 1) n ∙ mod-eq_of_lt (omega arith)

pub left_below : (n i : ℕ) → 0 < n → left n i < n
left_below n i h = mod-lt (i + n - 1) h

pub right_below : (n i : ℕ) → 0 < n → right n i < n
right_below n i h = mod-lt (i + 1) h

pub left_other : (n i : ℕ) → 2 ≤ n → i < n → left n i ≡ i → ⊥
left_other n zero h below same = absurd (omega (arith, left_first n (omega arith)))
left_other n (suc i) h below same = absurd (omega (arith, left_inner n (suc i) (omega arith) below))

pub right_other : (n i : ℕ) → 2 ≤ n → i < n → right n i ≡ i → ⊥
right_other n i h below same = apart (lt_or_ge (i + 1) n)
  where
    apart : (i + 1 < n) ⊎ (n ≤ i + 1) → ⊥
    apart (inl inner) = absurd (omega (arith, right_inner n i inner))
    apart (inr last) = absurd (omega (arith, right_last n i (omega arith)))

-- a process is the right of its left
pub right_left : (n i : ℕ) → i < n → right n (left n i) ≡ i
right_left n zero below =
    ap (right n) (left_first n (omega arith)) ∙ right_last n (n - 1) (omega arith)
right_left n (suc i) below =
    ap (right n) (left_inner n (suc i) (omega arith) below) ∙ right_inner n (suc i - 1) (omega arith) ∙ omega arith
