-- What a test answers: nothing where it refuses nothing, else its refusal.
use Rattle.std.specs.Prelude.{Result, ⊤}
use Rattle.machine.specs.declared.Refusal.{Refusal}

abbrev pub Verdict : Type 0
Verdict = Result ⊤ Refusal
