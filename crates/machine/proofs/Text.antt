-- Laws of numbers in decimal: as code writes them, one digit behind the others, and how many digits there are at most.
-- A number has more turns than digits, so the number of turns doesn't matter.
use Prim.Native.Nat.{ℕ, zero, suc, ◌+◌, ◌/◌, ◌%◌, ◌^◌, ◌≤◌, ◌<◌}
use mathlib.Core.Path.{◌≡◌, refl, sym, ap, ◌∙◌}
use mathlib.Core.Bool.{Bool, true, false, cond}
use mathlib.Core.List.{List, [], ◌∷◌, ◌++◌, append_assoc}
use mathlib.Core.Logic.{◌⊎◌, inl, inr}
use native.Mathlib.Omega.{arith}
use native.Mathlib.Nat.{pow-suc}
use lib.ListN.{length, length-append}
use lib.Dec.{ltb}
use borrow.Author.Tests.{ltb-false, lt-ltb, le-ltb}
use Rattle.machine.specs.Text.{digit_code, digits, decimal, space, line}
use Rattle.machine.proofs.Laws.Bytes.{lt_or_ge}

-- ---- in decimal

-- beyond the number itself the number of turns doesn't matter
turns_enough : (a b n : ℕ) → n < a → n < b → digits a n ≡ digits b n
unfolding digits
turns_enough zero b n h g = absurd (omega arith)
turns_enough (suc a) zero n h g = absurd (omega arith)
turns_enough (suc a) (suc b) n h g =
    go (ltb n 10) (λ off. let ten = ltb-false n 10 off in turns_enough a b (n / 10) (omega arith) (omega arith)) refl
  where
    go : (t : Bool) → (ltb n 10 ≡ false → digits a (n / 10) ≡ digits b (n / 10)) → ltb n 10 ≡ t
        → cond t (digit_code n ∷ []) (digits a (n / 10) ++ (digit_code (n % 10) ∷ []))
        ≡ cond t (digit_code n ∷ []) (digits b (n / 10) ++ (digit_code (n % 10) ∷ []))
    go true tenth e = refl
    go false tenth e = ap (λ (l : List ℕ). l ++ (digit_code (n % 10) ∷ [])) (tenth e)

-- below ten: one digit
pub decimal_one : (n : ℕ) → n < 10 → decimal n ≡ digit_code n ∷ []
unfolding decimal digits
decimal_one n h = rw (lt-ltb n 10 h)

-- from ten on: the last digit behind those of a tenth
pub decimal_more : (n : ℕ) → 10 ≤ n → decimal n ≡ decimal (n / 10) ++ (digit_code (n % 10) ∷ [])
unfolding decimal digits
decimal_more n h =
    rw (le-ltb n 10 h)
    (ap (λ (l : List ℕ). l ++ (digit_code (n % 10) ∷ []))
    (turns_enough n (suc (n / 10)) (n / 10) (omega arith) (omega arith)))

-- ---- how many digits

pub length_one : (n : ℕ) → n < 10 → length (decimal n) ≡ 1
length_one n h = ap length (decimal_one n h)

pub length_more : (n : ℕ) → 10 ≤ n → length (decimal n) ≡ length (decimal (n / 10)) + 1
length_more n h = ap length (decimal_more n h) ∙ length-append (decimal (n / 10)) (digit_code (n % 10) ∷ [])

-- a number below a power of ten has at most so many
pub decimal_few : (k n : ℕ) → n < 10 ^ suc k → length (decimal n) ≤ suc k
decimal_few zero n h = omega (arith, length_one n (omega arith))
decimal_few (suc k) n h =
    go (decimal_few k (n / 10) (omega (arith, pow-suc 10 (suc k)))) (lt_or_ge n 10)
  where
    go : length (decimal (n / 10)) ≤ suc k → (n < 10) ⊎ (10 ≤ n) → length (decimal n) ≤ suc (suc k)
    go rest (inl one) = omega (arith, length_one n one)
    go rest (inr ten) = omega (arith, length_more n ten)

-- a number of 8, 32 and 64 bits
pub decimal_8 : (n : ℕ) → n < 256 → length (decimal n) ≤ 3
decimal_8 n h = decimal_few 2 n (omega arith)

pub decimal_32 : (n : ℕ) → n < 2 ^ 32 → length (decimal n) ≤ 10
decimal_32 n h = decimal_few 9 n (omega arith)

pub decimal_64 : (n : ℕ) → n < 2 ^ 64 → length (decimal n) ≤ 20
decimal_64 n h = decimal_few 19 n (omega arith)

-- ---- lines

-- a field, and a space behind it, in front of a line
pub line_more : (field next : List ℕ) (fields : List (List ℕ))
    → line field (next ∷ fields) ≡ (field ++ (space ∷ [])) ++ line next fields
unfolding line
line_more field next fields = sym (append_assoc field (space ∷ []) (line next fields))
