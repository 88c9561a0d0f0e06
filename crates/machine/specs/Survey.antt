-- What one walk over an image finds, sound or not: document 02, A.3. The flags and the sets are soundness's own.
use Rattle.std.specs.Prelude.{ℕ, List, [], ◌∷◌, ◌++◌, Err, Ok}
use Rattle.machine.specs.Verdict.{Verdict}
use Rattle.machine.specs.Fields.{full, empty}
use Rattle.machine.specs.Image.{State, state_in}
use Rattle.machine.specs.Sound.{places, marked_set}
use Rattle.machine.specs.Refusals.{number_of, place_of, front_verdict, sound_verdict}
use Rattle.machine.specs.Answers.{Answer, answer}

-- a verdict as two values: the refusal's number and its place, 0 and 0 where nothing is refused
abbrev pub verdict_number : Verdict → ℕ
verdict_number (Ok _) = 0
verdict_number (Err r) = number_of r

abbrev pub verdict_place : Verdict → ℕ
verdict_place (Ok _) = 0
verdict_place (Err r) = place_of r

abbrev pub verdict_values : Verdict → List ℕ
verdict_values v = verdict_number v ∷ verdict_place v ∷ []

-- how many have and arriving flags are set; the set of the processes marked for full, and that of those for empty
abbrev pub gathered : State → List ℕ
gathered st = places st.processes ∷ marked_set full st.processes ∷ marked_set empty st.processes ∷ []

-- ---- survey (image): 3, 4 for byte 0, 3. The verdict of its soundness, the flags and both sets

unfoldable pub survey_answer : List ℕ → Answer
survey_answer image =
    answer (front_verdict image) (verdict_values (sound_verdict image) ++ gathered (state_in image))
