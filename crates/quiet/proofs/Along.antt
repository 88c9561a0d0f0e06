-- The ring as seen from a process c to the left: place k is the process k steps to the left of c. Requests go from
-- place k to place k + 1, the envelope from place k + 1 to place k; every process has just one place below n.
use Prim.Native.Nat.{ℕ, ◌+◌, ◌-◌, ◌%◌, ◌≤◌, ◌<◌}
use mathlib.Core.Path.{◌≡◌, refl, ap, ◌∙◌}
use mathlib.Core.Bool.{Bool, true, false, cond}
use mathlib.Core.Logic.{◌⊎◌, inl, inr}
use native.Mathlib.Omega.{arith}
use native.Mathlib.Nat.{mod-eq_of_lt, add-mod_right}
use lib.Dec.{leb}
use borrow.Author.Tests.{leb-true, le-leb}
use Rattle.machine.specs.Ring.{left, right}
use Rattle.machine.proofs.Laws.Bytes.{lt_or_ge}
use Rattle.machine.proofs.Laws.Ring.{left_inner, left_first, right_inner, right_last}
use Rattle.quiet.specs.Quiet.{way}

-- k steps to the left of c
unfoldable pub left_by : ℕ → ℕ → ℕ → ℕ
left_by n c k = cond (leb k c) (c - k) (c + n - k)

module _ (n c : ℕ) (below : c < n) where
  -- with process 0 not passed
  near : (k : ℕ) → k ≤ c → left_by n c k ≡ c - k
  unfolding left_by
  near k h = rw (le-leb k c h)

  -- with it passed
  far : (k : ℕ) → c < k → left_by n c k ≡ c + n - k
  unfolding left_by
  far k h = rw (beyond (leb k c) refl)
    where
      beyond : (b : Bool) → leb k c ≡ b → leb k c ≡ false
      beyond true q = absurd (omega (arith, leb-true k c q, h))
      beyond false q = q

  pub by_none : left_by n c 0 ≡ c
  by_none = omega (arith, near 0 (omega arith))

  pub by_below : (k : ℕ) → k < n → left_by n c k < n
  by_below k h = go (lt_or_ge c k)
    where
      go : (c < k) ⊎ (k ≤ c) → left_by n c k < n
      go (inl m) = omega (arith, far k m)
      go (inr m) = omega (arith, near k m)

  pub by_other : (k j : ℕ) → k < n → j < n → left_by n c k ≡ left_by n c j → k ≡ j
  by_other k j hk hj same = go (lt_or_ge c k) (lt_or_ge c j)
    where
      go : (c < k) ⊎ (k ≤ c) → (c < j) ⊎ (j ≤ c) → k ≡ j
      go (inl m) (inl o) = omega (arith, far k m, far j o)
      go (inl m) (inr o) = omega (arith, far k m, near j o)
      go (inr m) (inl o) = omega (arith, near k m, far j o)
      go (inr m) (inr o) = omega (arith, near k m, near j o)

  pub by_left : (k : ℕ) → k + 1 < n → left n (left_by n c k) ≡ left_by n c (k + 1)
  by_left k h = go (lt_or_ge c k) (lt_or_ge k c)
    where
      go : (c < k) ⊎ (k ≤ c) → (k < c) ⊎ (c ≤ k) → left n (left_by n c k) ≡ left_by n c (k + 1)
      go (inl m) o =
          ap (left n) (far k m)
          ∙ left_inner n (c + n - k) (omega arith) (omega arith)
          ∙ omega (arith, far (k + 1) (omega arith))
      go (inr m) (inl o) =
          ap (left n) (near k m)
          ∙ left_inner n (c - k) (omega arith) (omega arith)
          ∙ omega (arith, near (k + 1) (omega arith))
      go (inr m) (inr o) =
          let zero : c - k ≡ 0 = omega arith in
          ap (left n) (near k m ∙ zero) ∙ left_first n (omega arith) ∙ omega (arith, far (k + 1) (omega arith))

  pub by_right : (k : ℕ) → k + 1 < n → right n (left_by n c (k + 1)) ≡ left_by n c k
  by_right k h = go (lt_or_ge c (k + 1)) (lt_or_ge c k)
    where
      go : (c < k + 1) ⊎ (k + 1 ≤ c) → (c < k) ⊎ (k ≤ c) → right n (left_by n c (k + 1)) ≡ left_by n c k
      go (inl m) (inl o) =
          ap (right n) (far (k + 1) m)
          ∙ right_inner n (c + n - (k + 1)) (omega arith)
          ∙ omega (arith, far k o)
      go (inl m) (inr o) =
          ap (right n) (far (k + 1) m)
          ∙ right_last n (c + n - (k + 1)) (omega arith)
          ∙ omega (arith, near k o)
      go (inr m) o =
          ap (right n) (near (k + 1) m)
          ∙ right_inner n (c - (k + 1)) (omega arith)
          ∙ omega (arith, near k (omega arith))

  -- a process's own place is the way from it to c
  pub by_way : (i : ℕ) → i < n → (way n i c < n) × (left_by n c (way n i c) ≡ i)
  by_way i h = go (lt_or_ge c i)
    where
      go : (c < i) ⊎ (i ≤ c) → (way n i c < n) × (left_by n c (way n i c) ≡ i)
      go (inl m) =
          let is : way n i c ≡ c + n - i = mod-eq_of_lt (omega arith) in
          (omega (arith, is), ap (left_by n c) is ∙ far (c + n - i) (omega arith) ∙ omega arith)
      go (inr m) =
          let is : way n i c ≡ c - i =
          ap (λ (x : ℕ). x % n) (omega arith) ∙ add-mod_right (c - i) n ∙ mod-eq_of_lt (omega arith) in
          (omega (arith, is), ap (left_by n c) is ∙ near (c - i) (omega arith) ∙ omega arith)
