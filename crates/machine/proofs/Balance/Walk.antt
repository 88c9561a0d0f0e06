-- A walk round the ring: what passes from the left of each process to the process, and holds somewhere, holds
-- everywhere. From there it goes up to the last, over to the first, and up again.
use Prim.Native.Nat.{ℕ, zero, suc, ◌+◌, ◌-◌, ◌<◌}
use mathlib.Core.Path.{◌≡◌, subst}
use native.Mathlib.Omega.{arith}
use Rattle.machine.specs.Ring.{left}
use Rattle.machine.proofs.Laws.Ring.{left_first, left_inner}

module _ (P : ℕ → Type 0) (n : ℕ) (pass : (j : ℕ) → j < n → P (left n j) → P j) where
  -- k steps to the right, short of the end
  walk : (from k : ℕ) → P from → from + k < n → P (from + k)
  walk from zero here below = subst P (omega arith) here
  walk from (suc k) here below =
      let next = from + suc k in
      let back : from + k ≡ left n next = omega (arith, left_inner n next (omega arith) below) in
      pass next below (subst P back (walk from k here (omega arith)))

  -- all the way round
  pub round : (from : ℕ) → from < n → P from → (j : ℕ) → j < n → P j
  round from start here j below =
      let last : P (n - 1) = subst P (omega arith) (walk from (n - 1 - from) here (omega arith)) in
      let over : n - 1 ≡ left n 0 = omega (arith, left_first n (omega arith)) in
      subst P (omega arith) (walk 0 j (pass 0 (omega arith) (subst P over last)) (omega arith))
