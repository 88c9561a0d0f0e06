-- What the survey call's answer tells, in the documents' numbers and values, and what is found in an image.
use Rattle.std.specs.Prelude.{ℕ, List, [], ◌∷◌, ◌++◌}
use Rattle.machine.specs.Fields.{full, empty}
use Rattle.machine.specs.Image.{state_in}
use Rattle.machine.specs.Sound.{places, marked_set}
use Rattle.machine.specs.Refusals.{sound_verdict}
use Rattle.machine.specs.Survey.{verdict_values}
use Rattle.sound.specs.declared.Findings.{Findings}

-- what the rules say of an image
unfoldable pub findings_in : List ℕ → Findings
findings_in s =
    record {
      verdict = sound_verdict s;
      flags = places (state_in s).processes;
      full = marked_set full (state_in s).processes;
      empty = marked_set empty (state_in s).processes;
    }

-- the verdict's number and place, the flags and both sets
abbrev pub values_of : Findings → List ℕ
values_of f = verdict_values f.verdict ++ (f.flags ∷ f.full ∷ f.empty ∷ [])
