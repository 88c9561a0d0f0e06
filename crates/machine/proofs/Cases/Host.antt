-- What the suite's host is told: the number returned and the whole result slice afterwards, and a lent buffer, with
-- slices of 0, 79, 80 and 81 bytes, done and refused. The checker computes it.
use Prim.Native.Nat.{ℕ}
use mathlib.Core.Path.{◌≡◌, refl}
use mathlib.Core.Bool.{true}
use mathlib.Core.List.{List, [], ◌∷◌, ◌++◌}
use lib.ListN.{replicate}
use Rattle.machine.specs.Bytes.{bytes}
use Rattle.machine.specs.Tape.{tape_of}
use Rattle.machine.specs.Answers.{Answer, step_answer, step_image, run_answer, stopped_answer}
use Rattle.machine.specs.Host.{returned, result_after, lent_with}
use Rattle.machine.proofs.Cases.Computed.{rules}
use Rattle.machine.proofs.Cases.Case.{Case, case, met, done, event}
use Rattle.machine.proofs.Cases.Entries.{ring, may_fill}

-- a result slice with other bytes in it
abbrev slice : ℕ → List ℕ
slice size = replicate size 255

-- an answer as the host has it, with a slice of so many bytes
abbrev told : Answer → ℕ → Answer
told a size = record { number = returned a (slice size); values = result_after a (slice size) }

-- the number returned, and the slice's bytes
abbrev reads : ℕ → List ℕ → Answer
reads number result = record { number = number; values = result }

-- a word
abbrev word : ℕ → List ℕ
word n = bytes 8 n

-- ---- with room

-- a step tells outcome, message and traffic, a run its eight counts and traffic, stopped 1 or 0; zeros follow up to
-- byte 80, and no further
abbrev done_cases : List Case
done_cases =
    case (told (step_answer may_fill (event 1 2 0)) 81) (reads 0 (word 2 ++ (word 7 ++ (replicate 64 0 ++ (255 ∷ [])))))
    ∷ case (told (step_answer ring (event 1 7 0)) 80) (reads 0 (replicate 80 0))
    ∷ case (told (run_answer ring (tape_of (event 1 0 7)) []) 80) (reads 0 (word 1 ++ replicate 72 0))
    ∷ case (told (run_answer may_fill [] []) 81) (reads 0 (replicate 80 0 ++ (255 ∷ [])))
    ∷ case (told (stopped_answer ring) 80) (reads 0 (word 1 ++ replicate 72 0))
    ∷ case (told (stopped_answer may_fill) 81) (reads 0 (replicate 80 0 ++ (255 ∷ [])))
    -- in their order, the lowest byte of each first
    ∷ case (told (done (1 ∷ 2 ∷ 3 ∷ 4 ∷ 5 ∷ 6 ∷ 7 ∷ 0x8070605 ∷ [])) 80)
    (reads 0
    (word 1 ++ (word 2 ++ (word 3 ++ (word 4 ++ (word 5 ++ (word 6 ++ (word 7
    ++ ((5 ∷ 6 ∷ 7 ∷ 8 ∷ replicate 4 0) ++ replicate 16 0)))))))))
    ∷ []

-- a refusal's number is returned and its place told
abbrev refused_cases : List Case
refused_cases =
    case (told (run_answer ring (tape_of (event 1 0 7 ++ event 2 0 7)) []) 81)
    (reads 5 (word 1 ++ (replicate 72 0 ++ (255 ∷ []))))
    ∷ case (told (stopped_answer []) 80) (reads 3 (replicate 80 0))
    ∷ []

-- ---- without

-- too short by a byte, or empty: untouched, and 10 if nothing else refuses the call, its ledger's room apart
abbrev short_cases : List Case
short_cases =
    case (told (step_answer may_fill (event 1 2 0)) 79) (reads 10 (slice 79))
    ∷ case (told (step_answer may_fill (event 1 8 0)) 79) (reads 5 (slice 79))
    ∷ case (told (run_answer may_fill (tape_of (event 1 2 0)) []) 79) (reads 10 (slice 79))
    ∷ case (told (run_answer may_fill [] []) 79) (reads 10 (slice 79))
    ∷ case (told (stopped_answer []) 0) (reads 3 [])
    ∷ case (told (stopped_answer ring) 0) (reads 10 [])
    ∷ []

-- and so is the image, where a slice of 80 bytes lets the event be performed
abbrev lent_cases : List Case
lent_cases =
    case (done (lent_with (slice 79) may_fill (step_image may_fill (event 1 2 0)))) (done may_fill)
    ∷ case (done (lent_with (slice 80) may_fill (step_image may_fill (event 1 2 0))))
    (done (step_image may_fill (event 1 2 0)))
    ∷ []

-- ---- all of them

pub host_told : met (done_cases ++ (refused_cases ++ (short_cases ++ lent_cases))) ≡ true
unfolding rules ring may_fill
host_told = refl
