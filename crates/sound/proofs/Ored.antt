-- A mask over words that are or-ed: nothing is left of all of them just where nothing is left of each.
use Prim.Native.Nat.{ℕ, zero, suc, ◌/◌, ◌%◌, ◌<◌, min, max}
use mathlib.Core.Path.{◌≡◌, refl, ◌∙◌}
use mathlib.Core.Bool.{◌&&◌}
use native.Mathlib.Omega.{arith}
use lib.Dec.{eqb}
use lib.Arith.{bin_ind}
use lib.Bits.{bit_and, bit_or, and_step, or_step, and_mod, or_mod, and_shr, or_shr}
use Rattle.machine.proofs.Laws.Ored.{or_none}

-- on digits
or_digit : (x y : ℕ) → x < 2 → y < 2 → bit_or x y ≡ max x y
or_digit zero zero p q = refl
or_digit zero (suc zero) p q = refl
or_digit (suc zero) zero p q = refl
or_digit (suc zero) (suc zero) p q = refl
or_digit (suc (suc x)) y p q = absurd (omega arith)
or_digit zero (suc (suc y)) p q = absurd (omega arith)
or_digit (suc zero) (suc (suc y)) p q = absurd (omega arith)

and_digit : (x y : ℕ) → x < 2 → y < 2 → bit_and x y ≡ min x y
and_digit zero zero p q = refl
and_digit zero (suc zero) p q = refl
and_digit (suc zero) zero p q = refl
and_digit (suc zero) (suc zero) p q = refl
and_digit (suc (suc x)) y p q = absurd (omega arith)
and_digit zero (suc (suc y)) p q = absurd (omega arith)
and_digit (suc zero) (suc (suc y)) p q = absurd (omega arith)

min_max : (x y z : ℕ) → x < 2 → y < 2 → z < 2 → min (max x y) z ≡ max (min x z) (min y z)
min_max zero zero zero p q r = refl
min_max zero zero (suc zero) p q r = refl
min_max zero (suc zero) zero p q r = refl
min_max zero (suc zero) (suc zero) p q r = refl
min_max (suc zero) zero zero p q r = refl
min_max (suc zero) zero (suc zero) p q r = refl
min_max (suc zero) (suc zero) zero p q r = refl
min_max (suc zero) (suc zero) (suc zero) p q r = refl
min_max (suc (suc x)) y z p q r = absurd (omega arith)
min_max zero (suc (suc y)) z p q r = absurd (omega arith)
min_max (suc zero) (suc (suc y)) z p q r = absurd (omega arith)
min_max zero zero (suc (suc z)) p q r = absurd (omega arith)
min_max zero (suc zero) (suc (suc z)) p q r = absurd (omega arith)
min_max (suc zero) zero (suc (suc z)) p q r = absurd (omega arith)
min_max (suc zero) (suc zero) (suc (suc z)) p q r = absurd (omega arith)

or_odd : (a b : ℕ) → bit_or a b % 2 ≡ max (a % 2) (b % 2)
or_odd a b = or_mod a b 1 ∙ or_digit (a % 2) (b % 2) (omega arith) (omega arith)

and_odd : (a b : ℕ) → bit_and a b % 2 ≡ min (a % 2) (b % 2)
and_odd a b = and_mod a b 1 ∙ and_digit (a % 2) (b % 2) (omega arith) (omega arith)

and_or : (a b m : ℕ) → bit_and (bit_or a b) m ≡ bit_or (bit_and a m) (bit_and b m)
and_or =
    bin_ind (λ (n : ℕ). (b m : ℕ) → bit_and (bit_or n b) m ≡ bit_or (bit_and n m) (bit_and b m)) (λ b m. refl)
    (λ n ih b m.
    and_step (bit_or n b) m
    ∙ rw (
      or_shr n b 1,
      or_odd n b,
      ih (b / 2) (m / 2),
      min_max (n % 2) (b % 2) (m % 2) (omega arith) (omega arith) (omega arith),
      or_step (bit_and n m) (bit_and b m),
      and_shr n m 1,
      and_shr b m 1,
      and_odd n m,
      and_odd b m,
    ))

-- neither of two is there under a mask
pub mask_test : (a b m : ℕ) → eqb (bit_and (bit_or a b) m) 0 ≡ eqb (bit_and a m) 0 && eqb (bit_and b m) 0
mask_test a b m = rw (and_or a b m) (or_none (bit_and a m) (bit_and b m))
