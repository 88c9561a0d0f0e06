-- No record's bytes are out of range, one by one from the first on, just where those of all are in range; and then the
-- first that isn't is none.
use Prim.Native.Nat.{ℕ, zero, suc, ◌+◌}
use mathlib.Core.Path.{◌≡◌, refl, ap, ◌∙◌}
use mathlib.Core.Bool.{Bool, true, false, cond, ◌&&◌}
use mathlib.Core.List.{List}
use native.Mathlib.Omega.{arith}
use lib.Dec.{eqb}
use borrow.Author.Tests.{eq-eqb, ne_eqb}
use Rattle.machine.specs.Lists.{every, tabulate, all}
use Rattle.machine.specs.Sound.{holds, record_rules_in, records_fit}
use Rattle.machine.proofs.Laws.Lists.{tabulate_more, all_more}
use Rattle.sound.specs.Walk.{hold_from, first_bad}

pub hold_whole : (s : List ℕ) (n : ℕ) → hold_from s 0 n ≡ records_fit s n
unfolding tabulate all records_fit every
hold_whole s zero = refl
hold_whole s (suc n) =
    let rules : ℕ → Bool = λ j. holds (record_rules_in s j) in
    let here : 0 + n ≡ n = omega arith in
    ap (all (λ b. b)) (tabulate_more rules 0 n)
    ∙ all_more (λ b. b) (tabulate rules 0 n) (rules (0 + n))
    ∙ ap (λ k. all (λ b. b) (tabulate rules 0 n) && rules k) here
    ∙ ap (λ b. b && rules n) (hold_whole s n)

pub bad_none : (s : List ℕ) (i k : ℕ) → eqb (first_bad s i k) (i + k) ≡ hold_from s i k
unfolding first_bad tabulate all
bad_none s i zero = eq-eqb i (i + 0) (omega arith)
bad_none s i (suc k) = go (holds (record_rules_in s i)) (bad_none s (i + 1) k)
  where
    go : (b : Bool) → eqb (first_bad s (i + 1) k) (i + 1 + k) ≡ hold_from s (i + 1) k
        → eqb (cond b (first_bad s (i + 1) k) i) (i + suc k) ≡ b && hold_from s (i + 1) k
    go true rest = let same : i + suc k ≡ i + 1 + k = omega arith in rw same rest
    go false rest = ne_eqb i (i + suc k) (λ e. omega arith)
