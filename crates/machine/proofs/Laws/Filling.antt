-- A call that fills the start of an output, as the writer does: each way through it is that way through its rule,
-- refused by what it is given, refused by the room, or done.
use Rattle.std.specs.Prelude.{Err, Ok}
use Prim.Native.Nat.{ℕ, ◌≤◌, ◌<◌}
use mathlib.Core.Path.{◌≡◌, refl}
use mathlib.Core.List.{List, [], ◌∷◌}
use native.Mathlib.Omega.{arith}
use lib.ListN.{length}
use borrow.Author.Tests.{le-leb, lt-leb}
use Rattle.machine.specs.declared.Refusal.{Refusal}
use Rattle.machine.specs.declared.Refusal.TheVariants as refusal
use Rattle.machine.specs.Verdict.{Verdict}
use Rattle.machine.specs.Bytes.{splice}
use Rattle.machine.specs.Refusals.{or_else, output_verdict}
use Rattle.machine.specs.Answers.{answer, lent}

-- the inputs' verdict, then the room for what is to be filled
module _ (inputs verdict : Verdict) (filled output : List ℕ)
    (is : verdict ≡ or_else inputs (output_verdict (length filled) output)) where
  -- answer and output are the rule's
  abbrev pub Fills : Verdict → List ℕ → List ℕ → Type 0
  Fills v values out =
      (answer v values ≡ answer verdict (length filled ∷ [])) × (out ≡ lent verdict output (splice output 0 filled))

  pub inputs_refused : {r : Refusal} → inputs ≡ Err r → Fills (Err r) [] output
  inputs_refused e = rw (is, e) (refl, refl)

  module _ {bytes : ℕ} (fine : inputs ≡ Ok tt) (long : bytes ≡ length filled) where
    pub room_refused : length output < bytes → Fills (Err refusal.Output) [] output
    unfolding output_verdict
    room_refused few = rw (is, fine, lt-leb (length filled) (length output) (omega (arith, long))) (refl, refl)

    pub output_filled : {t : List ℕ} → bytes ≤ length output → t ≡ splice output 0 filled → Fills (Ok tt) (bytes ∷ []) t
    unfolding output_verdict
    output_filled room wrote =
        rw (is, fine, le-leb (length filled) (length output) (omega (arith, long)), long) (refl, wrote)
