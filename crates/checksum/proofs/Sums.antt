-- One remainder at the end is the remainder after each word: a remainder may be left out wherever another follows, so
-- the check is two plain sums over the words, each with one remainder, by induction on the words from any two sums. The
-- one is the sum of the words; the other counts a word once for itself and once for every word after it.
use Prim.Native.Nat.{ℕ, suc, ◌+◌, ◌-◌, ◌*◌, ◌%◌, ◌^◌, ◌<◌}
use mathlib.Core.Path.{◌≡◌, refl, ap₂, ◌∙◌}
use mathlib.Core.List.{List, [], ◌∷◌, ◌++◌}
use native.Mathlib.Omega.{arith}
use native.Mathlib.Nat.{mod-add-mod, add-mod, add-mul, mul-suc, mul_comm}
use native.Mathlib.Numerals.{add-one}
use lib.ListN.{length, get_or, take, drop, length-append, length-drop}
use lib.Seq.{take-suc, drop-cons}
use Rattle.machine.specs.Tape.{check_from}

-- the words' sum
unfoldable pub total : List ℕ → ℕ
total [] = 0
total (w ∷ ws) = w + total ws

-- each word as often as b counts it
unfoldable pub weighed : List ℕ → ℕ
weighed [] = 0
weighed (w ∷ ws) = w * suc (length ws) + weighed ws

-- two sums as one check
abbrev both : ℕ → ℕ → ℕ
both a b = a % 65535 + 65536 * (b % 65535)

-- with one word taken
weighed_from : (a b w n x : ℕ) → b + (a + w) + (a + w) * n + x ≡ b + a * suc n + (w * suc n + x)
weighed_from a b w n x = omega (arith, add-mul a w n, mul-suc a n, mul-suc w n)

-- from any two sums on
sums_from : (a b : ℕ) (ws : List ℕ)
    → check_from (a % 65535) (b % 65535) ws ≡ both (a + total ws) (b + a * length ws + weighed ws)
unfolding check_from total weighed
sums_from a b [] = ap₂ both (omega arith) (omega arith)
sums_from a b (w ∷ ws) =
    rw (mod-add-mod a 65535 w, ← add-mod b (a + w) 65535)
    (sums_from (a + w) (b + (a + w)) ws
    ∙ ap₂ both (omega arith) (weighed_from a b w (length ws) (weighed ws)))

-- from 0 on
pub one_remainder : (ws : List ℕ) → check_from 0 0 ws ≡ total ws % 65535 + 65536 * (weighed ws % 65535)
one_remainder ws = sums_from 0 0 ws ∙ ap₂ both (omega arith) (omega arith)

-- so a check has 32 bits
pub check_small : (ws : List ℕ) → check_from 0 0 ws < 2 ^ 32
check_small ws = omega (arith, one_remainder ws)

-- ---- the first of the words that are left

module _ (ws : List ℕ) (k : ℕ) (h : k < length ws) where
  pub total_on : total (drop k ws) ≡ get_or ws k 0 + total (drop (k + 1) ws)
  unfolding total
  total_on = rw (add-one k, drop-cons ws k 0 h)

  pub weighed_on : weighed (drop k ws) ≡ (length ws - k) * get_or ws k 0 + weighed (drop (k + 1) ws)
  unfolding weighed
  weighed_on =
      let left : suc (length (drop (suc k) ws)) ≡ length ws - k = rw (length-drop (suc k) ws) (omega arith) in
      rw (add-one k, drop-cons ws k 0 h, left, mul_comm (get_or ws k 0) (length ws - k))

-- ---- one word more

total_last : (ws : List ℕ) (w : ℕ) → total (ws ++ (w ∷ [])) ≡ total ws + w
unfolding total
total_last [] w = omega arith
total_last (x ∷ ws) w = omega (arith, total_last ws w)

-- every word before it counts once more
weighed_last : (ws : List ℕ) (w : ℕ) → weighed (ws ++ (w ∷ [])) ≡ weighed ws + total ws + w
unfolding total weighed
weighed_last [] w = omega arith
weighed_last (x ∷ ws) w =
    rw (length-append ws (w ∷ []), add-one (length ws), mul-suc x (suc (length ws)))
    (omega (arith, weighed_last ws w))

module _ (ws : List ℕ) (k m : ℕ) (next : m ≡ k + 1) (h : k < length ws) where
  pub total_more : total (take m ws) ≡ total (take k ws) + get_or ws k 0
  total_more = rw (next, add-one k, take-suc ws k 0 h) (total_last (take k ws) (get_or ws k 0))

  pub weighed_more : weighed (take m ws) ≡ weighed (take k ws) + total (take k ws) + get_or ws k 0
  weighed_more = rw (next, add-one k, take-suc ws k 0 h) (weighed_last (take k ws) (get_or ws k 0))

-- no word yet
module _ (ws : List ℕ) where
  pub total_none : total (take 0 ws) ≡ 0
  unfolding total
  total_none = refl

  pub weighed_none : weighed (take 0 ws) ≡ 0
  unfolding weighed
  weighed_none = refl
