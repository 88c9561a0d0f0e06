-- Surveys, computed: of sound images and of unsound ones, whose flags and sets are told all the same; each refusal, and
-- what comes first of two.
use Prim.Native.Nat.{ℕ, ◌^◌}
use mathlib.Core.Path.{◌≡◌, refl}
use mathlib.Core.Bool.{true}
use mathlib.Core.List.{List, [], ◌∷◌, ◌++◌}
use lib.ListN.{replicate, set, take}
use Rattle.machine.specs.Survey.{survey_answer}
use Rattle.machine.proofs.Cases.Computed.{rules}
use Rattle.machine.proofs.Cases.Case.{Case, case, met, done, refused, image, record8}

-- what a survey finds: the verdict's number, its place being 0, the flags and both sets
abbrev finds : ℕ → ℕ → ℕ → ℕ → List ℕ
finds number flags full empty = number ∷ 0 ∷ flags ∷ full ∷ empty ∷ []

-- a fresh ring of two, home 1
abbrev fresh : List ℕ
fresh = image 0 0 0 0 0 (record8 0 0 0 0) (record8 0 1 0 0)

-- process 0 waits to receive, marked for full, and process 1, which has the envelope, to send, marked for empty
abbrev waiting : List ℕ
waiting = image 0 0 1 1 0 (record8 7 0 16 0) (record8 2 1 32 5)

-- a ring of 64: the envelope at process 0, and process 63 with this record
abbrev last_of64 : ℕ → List ℕ → List ℕ
last_of64 count_empty last =
    (64 ∷ 0 ∷ 0 ∷ 0 ∷ count_empty ∷ replicate 11 0) ++ (record8 0 1 0 0 ++ (replicate 496 0 ++ last))

abbrev found : List Case
found =
    case (survey_answer fresh) (done (finds 0 1 0 0))
    ∷ case (survey_answer waiting) (done (finds 0 1 1 2))
    ∷ case (survey_answer (last_of64 1 (record8 2 0 32 0))) (done (finds 0 1 0 (2 ^ 63)))
    -- not sound: no flag, two, four with all other bits of byte 1; the same in a longer buffer
    ∷ case (survey_answer (set fresh 25 0)) (done (finds 4 0 0 0))
    ∷ case (survey_answer (set fresh 25 3)) (done (finds 4 2 0 0))
    ∷ case (survey_answer (set (set fresh 17 255) 25 255)) (done (finds 4 4 0 0))
    ∷ case (survey_answer (set (set fresh 17 255) 25 255 ++ replicate 8 255)) (done (finds 4 4 0 0))
    -- both marks in stage 255; in stage 0, with wrong counts; wrong counts alone
    ∷ case (survey_answer (image 0 0 0 0 0 (record8 255 2 48 0) (record8 0 0 0 0))) (done (finds 4 1 1 1))
    ∷ case (survey_answer (image 0 0 7 0 0 (record8 0 1 32 0) (record8 0 0 48 0))) (done (finds 4 1 2 3))
    ∷ case (survey_answer (set waiting 3 2)) (done (finds 4 1 1 2))
    ∷ case (survey_answer (last_of64 2 (record8 12 3 255 9))) (done (finds 4 3 (2 ^ 63) (2 ^ 63)))
    -- the header out of range, and a stage without its envelope
    ∷ case (survey_answer (set waiting 15 1)) (done (finds 4 1 1 2))
    ∷ case (survey_answer (set waiting 1 255)) (done (finds 4 1 1 2))
    ∷ case (survey_answer (image 0 0 0 0 0 (record8 3 0 0 0) (record8 0 1 0 0))) (done (finds 4 1 0 0))
    ∷ []

abbrev turned_down : List Case
turned_down =
    case (survey_answer []) (refused 3 0)
    ∷ case (survey_answer (take 15 fresh)) (refused 3 0)
    ∷ case (survey_answer (take 16 fresh)) (refused 3 0)
    ∷ case (survey_answer (take 31 fresh)) (refused 3 0)
    ∷ case (survey_answer (set fresh 0 0)) (refused 4 0)
    ∷ case (survey_answer (set fresh 0 1)) (refused 4 0)
    ∷ case (survey_answer (set (last_of64 0 (record8 0 0 0 0)) 0 65)) (refused 4 0)
    ∷ case (survey_answer (65 ∷ replicate 535 0)) (refused 4 0)
    -- 3 for a header before 4 for byte 0, and that before 3 for the records
    ∷ case (survey_answer (65 ∷ replicate 14 0)) (refused 3 0)
    ∷ case (survey_answer (65 ∷ replicate 15 0)) (refused 4 0)
    ∷ []

pub every_survey : met (found ++ turned_down) ≡ true
unfolding rules
every_survey = refl
