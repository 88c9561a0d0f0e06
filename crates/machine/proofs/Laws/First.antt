-- The first refusal of a row of tests: the row is fine exactly when each test is, and a loop that counts up may leave
-- out those that were.
use Rattle.std.specs.Prelude.{Err, Ok}
use Prim.Native.Nat.{ℕ, zero, suc, ◌+◌, ◌-◌, ◌≤◌, ◌<◌}
use mathlib.Core.Path.{◌≡◌, refl, ap, ap₂, ◌∙◌}
use mathlib.Core.Bool.{Bool, true, false}
use native.Mathlib.Omega.{arith}
use lib.Dec.{eqb}
use borrow.Author.Tests.{eqb-true, eqb-false}
use Rattle.machine.specs.declared.Refusal.{Refusal}
use Rattle.machine.specs.Verdict.{Verdict}
use Rattle.machine.specs.Refusals.{or_else, first}
use Rattle.machine.proofs.Laws.Refusals.{first_fine, second_fine}

-- a row is fine where each test is
pub first_all_fine : (f : ℕ → Verdict) (i n : ℕ) → ((k : ℕ) → i ≤ k → k < i + n → f k ≡ Ok tt) → first f i n ≡ Ok tt
unfolding first
first_all_fine f i zero fine = refl
first_all_fine f i (suc n) fine =
    rw (fine i (omega arith) (omega arith))
    (first_all_fine f (i + 1) n (λ k low high. fine k (omega arith) (omega arith)))

-- and so is each one of a row that is
pub first_fine_at : (f : ℕ → Verdict) (i n : ℕ) → first f i n ≡ Ok tt → (k : ℕ) → i ≤ k → k < i + n → f k ≡ Ok tt
unfolding first
first_fine_at f i zero e k low high = absurd (omega arith)
first_fine_at f i (suc n) e k low high =
    go (eqb k i) refl (first_fine_at f (i + 1) n (second_fine (f i) (first f (i + 1) n) e) k)
  where
    go : (t : Bool) → eqb k i ≡ t → (i + 1 ≤ k → k < i + 1 + n → f k ≡ Ok tt) → f k ≡ Ok tt
    go true q later = ap f (eqb-true k i q) ∙ first_fine (f i) (first f (i + 1) n) e
    go false q later = let ne = eqb-false k i q in later (omega arith) (omega arith)

-- rows of the same tests
pub first_same : (f g : ℕ → Verdict) (i n : ℕ) → ((k : ℕ) → i ≤ k → k < i + n → f k ≡ g k) → first f i n ≡ first g i n
unfolding first
first_same f g i zero same = refl
first_same f g i (suc n) same =
    ap₂ or_else (same i (omega arith) (omega arith))
    (first_same f g (i + 1) n (λ k low high. same k (omega arith) (omega arith)))

-- the tests before k are fine, and k is refused
pub first_refused : (f : ℕ → Verdict) (i n k : ℕ) (r : Refusal) → ((j : ℕ) → i ≤ j → j < k → f j ≡ Ok tt)
    → i ≤ k → k < i + n → f k ≡ Err r → first f i n ≡ Err r
unfolding first
first_refused f i zero k r fine low high e = absurd (omega arith)
first_refused f i (suc n) k r fine low high e =
    go (eqb k i) refl (first_refused f (i + 1) n k r (λ j a b. fine j (omega arith) b))
  where
    go : (t : Bool) → eqb k i ≡ t → (i + 1 ≤ k → k < i + 1 + n → f k ≡ Err r → first f (i + 1) n ≡ Err r)
        → first f i (suc n) ≡ Err r
    go true q later = rw (← eqb-true k i q, e)
    go false q later =
        let ne = eqb-false k i q in
        rw (fine i (omega arith) (omega arith)) (later (omega arith) (omega arith) e)

-- ---- as a loop comes to them: i of n are done

module _ (f : ℕ → Verdict) (i n : ℕ) (h : i < n) where
  next : n - i ≡ suc (n - (i + 1))
  next = omega arith

  pub first_on : f i ≡ Ok tt → first f i (n - i) ≡ first f (i + 1) (n - (i + 1))
  unfolding first
  first_on e = rw (next, e)

  pub first_found : {r : Refusal} → f i ≡ Err r → first f i (n - i) ≡ Err r
  unfolding first
  first_found e = rw (next, e)

pub first_end : (f : ℕ → Verdict) (i n : ℕ) → n ≤ i → first f i (n - i) ≡ Ok tt
unfolding first
first_end f i n h = let e : n - i ≡ zero = omega arith in rw e
