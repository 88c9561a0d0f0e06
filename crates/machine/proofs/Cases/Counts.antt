-- Each of the eight counts has its own place, in the run's answer and in ringrun's line, and so have the two numbers of
-- its traffic in the answer: entries 1 and 3, and two runs of entry 10's lists, in which puts ended and gets ended
-- differ. In no two places do all four runs have the same number, so that no two can be exchanged unseen. The checker
-- computes it.
use Prim.Native.Nat.{ℕ}
use mathlib.Core.Path.{◌≡◌, refl}
use mathlib.Core.Bool.{Bool, true, not, ◌||◌}
use mathlib.Core.List.{List, [], ◌∷◌, ◌++◌, map}
use lib.ListN.{get_or, replicate}
use lib.Dec.{eqb}
use Rattle.machine.specs.Lists.{every, all, join}
use Rattle.machine.specs.Events.{Event}
use Rattle.machine.specs.Tape.{tape_of}
use Rattle.machine.specs.Answers.{fresh_image, run_answer}
use Rattle.machine.specs.Text.{text}
use Rattle.machine.specs.Report.{report_text}
use Rattle.machine.proofs.Balance.Witness.{at}
use Rattle.machine.proofs.Alone.{two_cross, two_outlive, three_cross, three_outlive, fill_at}
use Rattle.machine.proofs.Cases.Computed.{rules}
use Rattle.machine.proofs.Cases.Case.{event}
use Rattle.machine.proofs.Cases.Entries.{first_ten, last_ten}

-- a tape of these events
abbrev taped : List Event → List ℕ
taped vs = tape_of (join (map (λ v. event v.process v.code v.message) vs))

-- a run from a fresh ring with home 0, with room for every record
abbrev answers : ℕ → List ℕ → List ℕ
answers n tape = (run_answer (fresh_image n 0 (replicate 40 255)) tape (replicate 96 255)).values

-- a ring of two: a put has ended alone
unfoldable pub alone : List ℕ
alone = taped (two_cross ++ (two_outlive ++ fill_at 0 22))

-- a ring of three: the same, then its message is taken, a get and a put start, and four events are idle
unfoldable pub onwards : List ℕ
onwards =
    taped
    (three_cross ++ (three_outlive ++ (fill_at 2 23
    ++ (at 0 1 0 ∷ at 0 3 0 ∷ at 0 4 0 ∷ at 0 7 0 ∷ at 0 2 0 ∷ at 1 1 0 ∷ at 2 0 9
    ∷ at 1 1 0 ∷ at 1 1 0 ∷ at 1 1 0 ∷ at 1 1 0 ∷ []))))

-- what each answers and prints
pub counts_told :
    (answers 2 alone ≡ 2 ∷ 1 ∷ 2 ∷ 1 ∷ 2 ∷ 1 ∷ 0 ∷ 6 ∷ 3 ∷ 3 ∷ [])
    × (report_text (2 ∷ 0 ∷ alone)
    ≡ text "13 1 fill 2\n15 1 sent 0\n18 0 take 2\n20 0 got 0\n24 0 fill 22\n26 0 sent 0\n"
    ++ (text "puts 2 gets 1 fills 2 takes 1 sent 2 got 1 idle 0\n" ++ text "moving\n"))
    × (answers 3 onwards ≡ 3 ∷ 3 ∷ 2 ∷ 2 ∷ 2 ∷ 1 ∷ 4 ∷ 7 ∷ 4 ∷ 3 ∷ [])
    × (report_text (3 ∷ 0 ∷ onwards)
    ≡ text "13 1 fill 1\n15 1 sent 0\n19 2 take 1\n21 2 got 0\n25 2 fill 23\n27 2 sent 0\n32 0 take 23\n"
    ++ (text "puts 3 gets 3 fills 2 takes 2 sent 2 got 1 idle 4\n" ++ text "moving\n"))
unfolding rules alone onwards two_cross two_outlive three_cross three_outlive fill_at
counts_told = (refl, refl, refl, refl)

-- ---- no two alike

-- some row has other numbers at j and at k
abbrev differ : List (List ℕ) → ℕ → ℕ → Bool
differ rows j k = not (all (λ row. eqb (get_or row j 0) (get_or row k 0)) rows)

-- and so have any two of the ten places
abbrev apart : List (List ℕ) → Bool
apart rows = every 10 (λ j. every 10 (λ k. eqb j k || differ rows j k))

pub no_two_alike :
    apart
    (answers 2 (tape_of (first_ten ++ last_ten)) ∷ answers 2 (tape_of first_ten) ∷ answers 2 alone ∷ answers 3
    onwards ∷ [])
    ≡ true
unfolding rules first_ten last_ten alone onwards two_cross two_outlive three_cross three_outlive fill_at
no_two_alike = refl
