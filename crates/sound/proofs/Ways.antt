-- What is found is what the rules say of the image: the walk's flags and sets are those of the state read from its
-- bytes, whatever they are.
use Rattle.std.specs.Prelude.{Err, Ok}
use Prim.Native.Nat.{ℕ, ◌≤◌}
use mathlib.Core.Path.{◌≡◌, ◌∙◌}
use mathlib.Core.List.{List, []}
use Rattle.machine.specs.declared.Refusal.{Refusal}
use Rattle.machine.specs.Verdict.{Verdict}
use Rattle.machine.specs.Image.{state_in, processes_in, size_in}
use Rattle.machine.specs.Fields.{Status}
use Rattle.machine.specs.Refusals.{front_verdict, sound_verdict}
use Rattle.machine.specs.Answers.{answer, in_numbers}
use Rattle.machine.specs.Survey.{survey_answer}
use Rattle.machine.proofs.Laws.Refusals.{front_under_16, front_too_many, front_whole}
use Rattle.sound.specs.declared.walk.Walk.{Walk}
use Rattle.sound.specs.declared.Findings.{Findings}
use Rattle.sound.specs.Walk.{flags_in, Walked}
use Rattle.sound.specs.Survey.{findings_in, values_of}
use Rattle.sound.proofs.Walked.{flags_are}

module _ (s : List ℕ) where
  pub findings_are : {status : Status} {n flags : ℕ} {v : Verdict} {w : Walk} → n ≡ size_in s → n ≤ 64
      → Walked s status 0 n w → v ≡ sound_verdict s → flags ≡ flags_in w
      → ◌≡◌ {A = Findings} (record { verdict = v; flags = flags; full = w.full; empty = w.empty }) (findings_in s)
  unfolding findings_in state_in processes_in
  findings_are {status} {n} size most walked verdict flags =
      rw (verdict, flags ∙ flags_are s status n most walked, walked.full, walked.empty, size)

  pub survey_refused : {r : Refusal} → front_verdict s ≡ Err r → answer (Err r) [] ≡ survey_answer s
  unfolding survey_answer
  survey_refused e = rw e

  pub survey_done : front_verdict s ≡ Ok tt → in_numbers values_of (Ok (findings_in s)) ≡ survey_answer s
  unfolding survey_answer findings_in
  survey_done e = rw e

-- the tests of length and byte 0, one after the other
pub ruleset front_tests = (front_under_16, front_too_many, front_whole)
