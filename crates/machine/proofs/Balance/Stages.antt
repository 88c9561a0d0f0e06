-- Laws of the stages: tests that the checker computes at all eleven, and waiting, said once over the status.
use Prim.Native.Nat.{ℕ}
use mathlib.Core.Path.{◌≡◌, refl, sym, ◌∙◌}
use mathlib.Core.Bool.{Bool, true, false, not, cond, ◌||◌, beq, true≢false}
use native.Mathlib.Omega.{arith}
use lib.Dec.{eqb, leb}
use borrow.Author.Tests.{leb-true}
use Rattle.machine.specs.Lists.{every}
use Rattle.machine.specs.Fields.{Status}
use Rattle.machine.specs.Stages.{last_stage}
use Rattle.machine.proofs.Laws.Lists.{every_at, follow}
use Rattle.machine.proofs.Soundness.Ways.{moving}
use Rattle.machine.proofs.Soundness.Settled.{waits_for}
use Rattle.machine.proofs.Balance.Clauses.{resting}

-- what holds at 0 to 10 holds at every stage
pub at_stages : (f : ℕ → Bool) → every 11 f ≡ true → (stage : ℕ) → leb stage last_stage ≡ true → f stage ≡ true
at_stages f holds stage range =
    let small = leb-true stage last_stage range in
    every_at 11 f holds stage (omega arith)

-- a stage that is neither 7 nor 2 waits for nothing
pub waits_for_none : (k : ℕ) → eqb k 7 ≡ false → eqb k 2 ≡ false → (s : Status) → eqb k (waits_for s) ≡ false
waits_for_none k seven two true = seven
waits_for_none k seven two false = two

-- a stage waits for one status
pub waits_same : (s t : Status) → eqb (waits_for s) (waits_for t) ≡ beq t s
waits_same true true = refl
waits_same true false = refl
waits_same false true = refl
waits_same false false = refl

-- the stage that a process which waits for s comes to when it has the envelope so: 8 for full, 3 for empty
abbrev pub may_for : Status → ℕ
may_for s = cond s 8 3

-- where a put only clears its news, the stage is not resting
pub calm_restless : (stage : ℕ) → leb stage last_stage ≡ true → moving stage ≡ false → resting stage ≡ true → ⊥
unfolding every
calm_restless stage range calm rests =
    let known = at_stages (λ k. not (resting k) || moving k) refl stage range in
    absurd (true≢false (sym (follow (resting stage) (moving stage) known rests) ∙ calm))
