-- Where a result slice is too short an output needn't be measured, since it could only be refused with 10 as well.
use Rattle.std.specs.Prelude.{Err, Ok}
use Prim.Native.Nat.{ℕ}
use mathlib.Core.Path.{◌≡◌, refl}
use mathlib.Core.Bool.{Bool, true, false}
use mathlib.Core.List.{List}
use lib.ListN.{length}
use lib.Dec.{leb}
use Rattle.machine.specs.declared.Refusal.TheVariants as refusal
use Rattle.machine.specs.Verdict.{Verdict}
use Rattle.machine.specs.Refusals.{unless, or_else, output_verdict}
use Rattle.numbers.specs.Verdicts.{refusal_of}

-- an output is 10, too short or not
output_ten : (b : Bool) → refusal.Output ≡ refusal_of (unless b refusal.Output)
output_ten true = refl
output_ten false = refl

pub output_unmeasured : (first second : Verdict) (needed : ℕ) (output : List ℕ)
    → refusal_of (or_else first second) ≡ refusal_of (or_else first (or_else second (output_verdict needed output)))
unfolding output_verdict
output_unmeasured (Ok _) (Ok _) needed output = output_ten (leb needed (length output))
output_unmeasured (Ok _) (Err r) needed output = refl
output_unmeasured (Err r) second needed output = refl
