-- Every rule of the image and every cause of a refusal is shown to bite: one list of inputs, each with the answer that
-- document 01 gives it, and one theorem that the checker computes.
use Prim.Native.Nat.{ℕ, ◌*◌}
use Prim.Native.String.{String}
use mathlib.Core.Path.{◌≡◌, refl}
use mathlib.Core.Bool.{true}
use mathlib.Core.List.{List, [], ◌∷◌, ◌++◌}
use lib.ListN.{set, take, replicate}
use Rattle.machine.specs.Tape.{block_bytes, padded}
use Rattle.machine.specs.Answers.{Answer, fresh_answer, fresh_image, step_answer, step_image}
use Rattle.machine.specs.Answers.{run_answer, run_image, run_ledger, stopped_answer, write_answer, write_output}
use Rattle.machine.specs.Answers.{read_answer, read_output}
use Rattle.machine.specs.Text.{text}
use Rattle.machine.specs.Report.{report_text, report_answer, report_output}
use Rattle.machine.proofs.Cases.Computed.{rules}
use Rattle.machine.proofs.Cases.Case.{Case, case, met, done, refused, event, copies}
use Rattle.machine.proofs.Cases.Edges.{edges, edge_cases, altered, having, without}
use Rattle.machine.proofs.Cases.Entries.{may_fill}

-- ---- the table, call by call

abbrev ring : List ℕ
ring = having 0 0

-- the fresh ring with a fault that only the last test of an image finds
abbrev unsound : List ℕ
unsound = altered 1 2

abbrev fresh_cases : List Case
fresh_cases =
    case (fresh_answer 0 0 ring) (refused 1 0)
    ∷ case (fresh_answer 1 0 ring) (refused 1 0)
    ∷ case (fresh_answer 2 0 ring) (done [])
    ∷ case (fresh_answer 65 0 (replicate 536 0)) (refused 1 0)
    ∷ case (fresh_answer 258 0 ring) (refused 1 0)
    ∷ case (fresh_answer 4 4 (replicate 48 0)) (refused 2 0)
    ∷ case (fresh_answer 4 3 (replicate 48 0)) (done [])
    ∷ case (fresh_answer 2 1 (take 31 ring)) (refused 3 0)
    ∷ case (fresh_answer 2 1 []) (refused 3 0)
    ∷ case (fresh_answer 2 1 unsound) (done [])
    -- 1 before 2 and 3, 2 before 3
    ∷ case (fresh_answer 1 1 []) (refused 1 0)
    ∷ case (fresh_answer 2 2 []) (refused 2 0)
    ∷ []

abbrev image_cases : List Case
image_cases =
    case (stopped_answer []) (refused 3 0)
    ∷ case (stopped_answer (take 15 ring)) (refused 3 0)
    ∷ case (stopped_answer (take 16 ring)) (refused 3 0)
    ∷ case (stopped_answer (take 31 ring)) (refused 3 0)
    ∷ case (stopped_answer ring) (done (1 ∷ []))
    ∷ case (stopped_answer (ring ++ (255 ∷ []))) (done (1 ∷ []))
    ∷ case (stopped_answer (altered 25 4)) (done (0 ∷ []))
    -- under 16 bytes before byte 0, byte 0 before the length, the length before the rest
    ∷ case (stopped_answer (1 ∷ replicate 14 0)) (refused 3 0)
    ∷ case (stopped_answer (1 ∷ replicate 15 0)) (refused 4 0)
    ∷ case (stopped_answer (65 ∷ replicate 15 0)) (refused 4 0)
    ∷ case (stopped_answer (64 ∷ replicate 15 0)) (refused 3 0)
    ∷ case (stopped_answer (take 31 unsound)) (refused 3 0)
    ∷ []

abbrev step_cases : List Case
step_cases =
    case (step_answer ring []) (refused 5 0)
    ∷ case (step_answer ring (take 7 (event 1 0 7))) (refused 5 0)
    ∷ case (step_answer ring (event 1 0 7 ++ (0 ∷ []))) (refused 5 0)
    ∷ case (step_answer ring (event 2 0 7)) (refused 5 0)
    ∷ case (step_answer ring (event 1 8 0)) (refused 5 0)
    ∷ case (step_answer ring (event 1 7 0)) (done (0 ∷ 0 ∷ 0 ∷ 0 ∷ []))
    ∷ case (step_answer ring (set (event 1 0 7) 2 1)) (refused 5 0)
    ∷ case (step_answer ring (set (event 1 0 7) 3 1)) (refused 5 0)
    ∷ case (step_answer ring (event 1 1 7)) (refused 5 0)
    ∷ case (step_answer ring (event 1 1 16777216)) (refused 5 0)
    ∷ case (step_answer ring (event 1 0 7)) (done (1 ∷ 0 ∷ 0 ∷ 0 ∷ []))
    -- the image before the event
    ∷ case (step_answer (take 31 ring) []) (refused 3 0)
    ∷ case (step_answer unsound []) (refused 4 0)
    ∷ []

-- a block with its check right
abbrev block : ℕ → ℕ → List ℕ → List ℕ
block number count events = block_bytes number count (padded events)

-- the same with byte k altered and the check as it was
abbrev damaged : ℕ → ℕ → List ℕ → List ℕ
damaged k v s = set s k v

abbrev puts : ℕ → List ℕ
puts n = copies n (event 1 7 0)

-- a byte alone is no tape and no list: it is 6, where nothing comes before
abbrev ragged : List ℕ
ragged = 0 ∷ []

abbrev reading : List ℕ → Answer
reading tape = read_answer 2 tape (replicate 1008 0)

abbrev tape_cases : List Case
tape_cases =
    -- no bytes are a tape of no events, which takes no room
    case (reading []) (done (0 ∷ []))
    ∷ case (read_answer 2 [] []) (done (0 ∷ []))
    ∷ case (reading (take 511 (block 0 1 (event 1 0 7)))) (refused 6 0)
    ∷ case (reading (block 0 1 (event 1 0 7) ++ (0 ∷ []))) (refused 6 0)
    ∷ case (reading (block 0 1 (event 1 0 7))) (done (8 ∷ []))
    ∷ case (reading (damaged 511 1 (block 0 1 (event 1 0 7)))) (refused 7 0)
    ∷ case (reading (damaged 4 8 (block 0 1 (event 1 0 7)))) (refused 7 0)
    ∷ case (reading (damaged 7 9 (block 0 1 (event 1 0 7)))) (refused 7 0)
    -- a sum that is 0 mod 65,535 is written 0, never 65,535
    ∷ case (reading (block 0 1 (event 1 0 65533))) (done (8 ∷ []))
    ∷ case (reading (damaged 4 255 (damaged 5 255 (block 0 1 (event 1 0 65533))))) (refused 7 0)
    ∷ case (reading (block 1 1 (event 1 0 7))) (refused 8 0)
    ∷ case (reading (block 0 0 (event 1 0 7))) (refused 8 0)
    ∷ case (reading (block 0 0 [])) (refused 8 0)
    ∷ case (reading (block 0 64 (puts 63))) (refused 8 0)
    ∷ case (reading (block 0 63 (puts 63))) (done (504 ∷ []))
    ∷ case (reading (block 0 1 (event 2 0 7))) (refused 5 0)
    ∷ case (reading (block 0 63 (puts 62 ++ event 1 8 0))) (refused 5 62)
    ∷ case (reading (block 0 1 (event 1 0 7 ++ event 1 0 7))) (refused 9 0)
    ∷ case (reading (block 0 62 (puts 62 ++ (0 ∷ 0 ∷ 0 ∷ 0 ∷ 0 ∷ 0 ∷ 0 ∷ 1 ∷ [])))) (refused 9 0)
    -- in a second block
    ∷ case (reading (block 0 63 (puts 63) ++ block 1 1 (event 1 0 7))) (done (512 ∷ []))
    ∷ case (reading (block 0 62 (puts 62) ++ block 1 1 (event 1 0 7))) (refused 8 0)
    ∷ case (reading (block 0 63 (puts 63) ++ damaged 8 0 (block 1 1 (event 1 0 7)))) (refused 7 1)
    ∷ case (reading (block 0 63 (puts 63) ++ block 0 1 (event 1 0 7))) (refused 8 1)
    ∷ case (reading (block 0 63 (puts 63) ++ block 1 0 [])) (refused 8 1)
    ∷ case (reading (block 0 63 (puts 63) ++ block 1 2 (event 1 0 7 ++ event 1 1 7))) (refused 5 64)
    ∷ case (reading (block 0 63 (puts 63) ++ block 1 1 (event 1 0 7 ++ event 1 0 7))) (refused 9 1)
    -- 6 before 7, 7 before 8, 8 before 5, 5 before 9, a block before the next, the tape before the output
    ∷ case (reading (damaged 8 0 (block 0 1 (event 1 0 7)) ++ (0 ∷ []))) (refused 6 0)
    ∷ case (reading (damaged 8 0 (block 1 1 (event 1 0 7)))) (refused 7 0)
    ∷ case (reading (block 1 1 (event 2 0 7))) (refused 8 0)
    ∷ case (reading (block 0 1 (event 2 0 7 ++ event 1 0 7))) (refused 5 0)
    ∷ case (reading (block 0 63 (puts 62 ++ event 2 0 0) ++ damaged 8 0 (block 1 1 (event 1 0 7)))) (refused 5 62)
    ∷ case (read_answer 2 (block 0 1 (event 1 0 7)) (replicate 7 0)) (refused 10 0)
    ∷ case (read_answer 2 (block 0 1 (event 2 0 7)) []) (refused 5 0)
    ∷ case (read_answer 2 (block 0 1 (event 1 0 7 ++ event 1 0 7)) []) (refused 9 0)
    -- the argument before the tape
    ∷ case (read_answer 1 ragged []) (refused 1 0)
    ∷ []

-- the tape of the one event that fills the envelope of may_fill
abbrev fills : List ℕ
fills = block 0 1 (event 1 2 0)

abbrev run_cases : List Case
run_cases =
    case (run_answer may_fill fills (replicate 12 0)) (done (0 ∷ 0 ∷ 1 ∷ 0 ∷ 0 ∷ 0 ∷ 0 ∷ 1 ∷ 0 ∷ 0 ∷ []))
    ∷ case (run_answer may_fill fills (replicate 11 0)) (refused 10 0)
    -- a run without records takes no bytes
    ∷ case (run_answer ring (block 0 1 (event 1 7 0)) []) (done (0 ∷ 0 ∷ 0 ∷ 0 ∷ 0 ∷ 0 ∷ 1 ∷ 0 ∷ 0 ∷ 0 ∷ []))
    ∷ case (run_answer may_fill [] []) (done (replicate 10 0))
    ∷ case (run_answer may_fill (block 0 0 []) (replicate 12 0)) (refused 8 0)
    -- the image before the tape
    ∷ case (run_answer (take 31 ring) ragged []) (refused 3 0)
    ∷ case (run_answer unsound ragged []) (refused 4 0)
    -- each fault of the tape before the ledger, which has no room for the fill's record
    ∷ case (run_answer may_fill (fills ++ (0 ∷ [])) []) (refused 6 0)
    ∷ case (run_answer may_fill (damaged 511 1 fills) []) (refused 7 0)
    ∷ case (run_answer may_fill (block 1 1 (event 1 2 0)) []) (refused 8 0)
    ∷ case (run_answer may_fill (block 0 2 (event 1 2 0 ++ event 2 2 0)) []) (refused 5 1)
    ∷ case (run_answer may_fill (block 0 1 (event 1 2 0 ++ event 1 2 0)) []) (refused 9 0)
    ∷ []

abbrev writing : List ℕ → Answer
writing list = write_answer 2 list (replicate 512 0)

abbrev write_cases : List Case
write_cases =
    case (writing []) (done (0 ∷ []))
    ∷ case (write_answer 2 [] []) (done (0 ∷ []))
    ∷ case (writing (take 7 (event 1 0 7))) (refused 6 0)
    ∷ case (writing (event 1 0 7 ++ (0 ∷ []))) (refused 6 0)
    ∷ case (writing (event 1 0 7)) (done (512 ∷ []))
    ∷ case (writing (event 1 0 7 ++ event 1 8 0)) (refused 5 1)
    ∷ case (write_answer 2 (event 1 0 7) (replicate 511 0)) (refused 10 0)
    -- 1 before 6, 6 before 5, 5 before 10
    ∷ case (write_answer 65 ragged []) (refused 1 0)
    ∷ case (writing (event 2 0 7 ++ (0 ∷ []))) (refused 6 0)
    ∷ case (write_answer 2 (event 2 0 7) []) (refused 5 0)
    ∷ []

-- ---- ringrun

-- bytes as the values of an answer
abbrev leaves : List ℕ → Answer
leaves buffer = done buffer

-- for this input ringrun writes this text
abbrev says : List ℕ → String → Case
says input wanted = case (leaves (report_text input)) (leaves (text wanted))

-- N = 2, home 0, and a tape
abbrev two : List ℕ → List ℕ
two tape = 2 ∷ 0 ∷ tape

-- bytes for one more than 64 blocks
abbrev too_many : List ℕ
too_many = replicate (512 * 65) 0

abbrev report_cases : List Case
report_cases =
    says [] "refused 1 at 0\n"
    ∷ says (1 ∷ 0 ∷ []) "refused 1 at 0\n"
    ∷ says (65 ∷ 0 ∷ fills) "refused 1 at 0\n"
    ∷ says (64 ∷ 64 ∷ fills) "refused 2 at 0\n"
    ∷ says (64 ∷ 63 ∷ fills) "puts 0 gets 0 fills 0 takes 0 sent 0 got 0 idle 1\nstopped\n"
    ∷ says (two (block 0 2 (event 1 0 7 ++ event 1 3 0)))
    "puts 1 gets 0 fills 0 takes 0 sent 0 got 0 idle 0\nmoving\n"
    -- a missing home is 0; no block is no event
    ∷ says (2 ∷ []) "puts 0 gets 0 fills 0 takes 0 sent 0 got 0 idle 0\nstopped\n"
    ∷ says (two []) "puts 0 gets 0 fills 0 takes 0 sent 0 got 0 idle 0\nstopped\n"
    ∷ says (64 ∷ 63 ∷ []) "puts 0 gets 0 fills 0 takes 0 sent 0 got 0 idle 0\nstopped\n"
    ∷ says (two (fills ++ (0 ∷ []))) "refused 6 at 0\n"
    ∷ says (two (take 511 fills)) "refused 6 at 0\n"
    ∷ says (two (block 0 63 (puts 63) ++ damaged 8 0 (block 1 1 (event 1 0 7)))) "refused 7 at 1\n"
    ∷ says (two (block 0 63 (puts 63) ++ block 0 1 (event 1 0 7))) "refused 8 at 1\n"
    ∷ says (two (block 0 63 (puts 63) ++ block 1 2 (event 1 0 7 ++ event 1 1 7))) "refused 5 at 64\n"
    ∷ says (two (block 0 63 (puts 63) ++ block 1 1 (event 1 0 7 ++ event 1 0 7))) "refused 9 at 1\n"
    -- 64 blocks are looked at, of which the first has count 0; more are 6, after 1 and 2
    ∷ says (two (replicate (512 * 64) 0)) "refused 8 at 0\n"
    ∷ says (two (0 ∷ replicate (512 * 64) 0)) "refused 6 at 0\n"
    ∷ says (two too_many) "refused 6 at 0\n"
    ∷ says (1 ∷ 0 ∷ too_many) "refused 1 at 0\n"
    ∷ says (2 ∷ 2 ∷ too_many) "refused 2 at 0\n"
    -- 1 before 2 and 6, 2 before 6
    ∷ says (1 ∷ 1 ∷ ragged) "refused 1 at 0\n"
    ∷ says (2 ∷ 2 ∷ ragged) "refused 2 at 0\n"
    -- the output: the text of no input has 15 bytes
    ∷ case (report_answer [] (replicate 14 0)) (refused 10 0)
    ∷ case (report_answer [] (replicate 15 0)) (done (15 ∷ []))
    ∷ []

-- ---- lent buffers

abbrev spare : List ℕ
spare = replicate 20 255

-- a refused call leaves every byte, and a done one those beyond what it writes
abbrev buffer_cases : List Case
buffer_cases =
    case (leaves (fresh_image 2 2 spare)) (leaves spare)
    ∷ case (leaves (fresh_image 2 1 (replicate 33 255))) (leaves (without 0 0 0 ++ (255 ∷ [])))
    ∷ case (leaves (step_image unsound (event 1 0 7))) (leaves unsound)
    ∷ case (leaves (step_image ring (event 1 8 0))) (leaves ring)
    ∷ case (leaves (step_image (ring ++ spare) (event 1 1 0))) (leaves (altered 24 6 ++ spare))
    ∷ case (leaves (run_image may_fill fills (replicate 11 0))) (leaves may_fill)
    ∷ case (leaves (run_ledger may_fill fills (replicate 11 255))) (leaves (replicate 11 255))
    ∷ case (leaves (run_ledger may_fill fills spare))
    (leaves ((0 ∷ 0 ∷ 0 ∷ 0 ∷ 1 ∷ 2 ∷ 0 ∷ 0 ∷ 7 ∷ 0 ∷ 0 ∷ 0 ∷ []) ++ replicate 8 255))
    ∷ case (leaves (run_ledger may_fill [] spare)) (leaves spare)
    ∷ case (leaves (run_image may_fill [] spare)) (leaves may_fill)
    ∷ case (leaves (write_output 2 (event 1 0 7) spare)) (leaves spare)
    ∷ case (leaves (write_output 2 [] spare)) (leaves spare)
    ∷ case (leaves (read_output 2 [] spare)) (leaves spare)
    ∷ case (leaves (write_output 2 (event 1 0 7) (replicate 512 255 ++ spare)))
    (leaves (block 0 1 (event 1 0 7) ++ spare))
    ∷ case (leaves (read_output 2 (block 0 1 (event 2 0 7)) spare)) (leaves spare)
    ∷ case (leaves (read_output 2 (block 0 1 (event 1 0 7)) spare)) (leaves (event 1 0 7 ++ replicate 12 255))
    ∷ case (leaves (report_output [] (replicate 14 255))) (leaves (replicate 14 255))
    ∷ case (leaves (report_output [] spare)) (leaves (text "refused 1 at 0\n" ++ replicate 5 255))
    ∷ []

-- ---- all of them

abbrev pub cases : List Case
cases =
    edge_cases edges
    ++ (fresh_cases
    ++ (image_cases ++ (step_cases ++ (tape_cases ++ (run_cases ++ (write_cases ++ (report_cases ++ buffer_cases)))))))

pub every_boundary : met cases ≡ true
unfolding rules may_fill
every_boundary = refl
