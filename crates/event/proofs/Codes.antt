-- The eight codes one by one, and none past them.
use Prim.Native.Nat.{ℕ, zero, suc, ◌≤◌, ◌<◌}
use mathlib.Core.Path.{◌≡◌}
use native.Mathlib.Omega.{arith}

-- what holds of codes 0 to 7 holds of every code below 8
pub by_code : (P : ℕ → Type 0) → P 0 → P 1 → P 2 → P 3 → P 4 → P 5 → P 6 → P 7 → (code : ℕ) → code < 8 → P code
by_code P p0 p1 p2 p3 p4 p5 p6 p7 zero h = p0
by_code P p0 p1 p2 p3 p4 p5 p6 p7 (suc zero) h = p1
by_code P p0 p1 p2 p3 p4 p5 p6 p7 (suc (suc zero)) h = p2
by_code P p0 p1 p2 p3 p4 p5 p6 p7 (suc (suc (suc zero))) h = p3
by_code P p0 p1 p2 p3 p4 p5 p6 p7 (suc (suc (suc (suc zero)))) h = p4
by_code P p0 p1 p2 p3 p4 p5 p6 p7 (suc (suc (suc (suc (suc zero))))) h = p5
by_code P p0 p1 p2 p3 p4 p5 p6 p7 (suc (suc (suc (suc (suc (suc zero)))))) h = p6
by_code P p0 p1 p2 p3 p4 p5 p6 p7 (suc (suc (suc (suc (suc (suc (suc zero))))))) h = p7
by_code P p0 p1 p2 p3 p4 p5 p6 p7 (suc (suc (suc (suc (suc (suc (suc (suc n)))))))) h = absurd (omega arith)

-- k is none of 0 to n − 1, as the last arm of a match knows it
abbrev pub NoneOf : ℕ → ℕ → Type 0
NoneOf zero k = Unit {0}
NoneOf (suc n) k = NoneOf n k × (k ≡ n → ⊥)

pub past : (n k : ℕ) → NoneOf n k → n ≤ k
past zero k others = omega arith
past (suc n) k others =
    let below = past n k others.0 in
    omega (arith, others.1)
