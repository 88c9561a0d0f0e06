-- Soundness: document 01, "The image", its paragraph on ranges and zeros, in three parts: the bytes of the header, the
-- bytes of the records, and the rest. Byte 0 and the length are the table's (Refusals).
use Rattle.std.specs.Prelude.{ℕ, ◌+◌, ◌*◌, Bool, true, not, ◌&&◌, ◌||◌, List, [], ◌∷◌, get_or, eqb, leb}
use Rattle.std.specs.Int.Count.{ones_in}
use Rattle.machine.specs.declared.Process.{Process}
use Rattle.machine.specs.Bytes.{bit, zeros}
use Rattle.machine.specs.Lists.{every, all, sum}
use Rattle.machine.specs.Ring.{record_at}
use Rattle.machine.specs.Fields.{Status, full, empty, for}
use Rattle.machine.specs.Image.{State, process_in, state_in, size_in}
use Rattle.machine.specs.Stages.{last_stage, noted, with_empty, with_full, markable}

-- whether every rule of a list holds, where `sofar` says it of those before
abbrev pub holds_from : Bool → List Bool → Bool
holds_from sofar [] = sofar
holds_from sofar (rule ∷ rules) = holds_from (sofar && rule) rules

-- whether all of a list's rules hold
abbrev pub holds : List Bool → Bool
holds rules = holds_from true rules

-- ---- the header's bytes, each by its own range or zero

-- byte 1 is 0 or 1; byte 2 has bits 0 and 1 alone; bytes 5 to 7 are 0; the message is 0 when empty; bytes 12 to 15
-- are 0
abbrev pub header_rules : List ℕ → List Bool
header_rules s =
    leb (get_or s 1 0) 1
    ∷ leb (get_or s 2 0) 3
    ∷ zeros s 5 3
    ∷ (eqb (get_or s 1 0) 1 || zeros s 8 4)
    ∷ zeros s 12 4
    ∷ []

-- the header's bytes are in range
unfoldable pub header_fits : List ℕ → Bool
header_fits s = holds (header_rules s)

-- ---- a record's bytes, each by its own range or zero

-- who is marked for full is in stages 7 to 10, who is marked for empty in 2 to 5
abbrev pub mark_fits : Status → Process → Bool
mark_fits s p = not (for p.mark s) || markable s p.stage

-- the note is 0 outside stages 1 to 3
abbrev pub note_fits : Process → Bool
note_fits p = noted p.stage || eqb p.note 0

-- byte 0 is a stage; byte 1 has bits 0 to 2 alone; byte 2's marks fit the stage; byte 3 is 0; the note fits the stage
abbrev pub record_rules : ℕ → ℕ → Process → List Bool
record_rules flags third p =
    leb p.stage last_stage ∷ leb flags 7 ∷ mark_fits full p ∷ mark_fits empty p ∷ eqb third 0 ∷ note_fits p ∷ []

-- those of process i's record
abbrev pub record_rules_in : List ℕ → ℕ → List Bool
record_rules_in s i = record_rules (get_or s (record_at i + 1) 0) (get_or s (record_at i + 3) 0) (process_in s i)

-- the bytes of the first n records are in range
unfoldable pub records_fit : List ℕ → ℕ → Bool
records_fit s n = every n (λ i. holds (record_rules_in s i))

-- ---- the rest: what binds one byte to others

-- how many of the have and arriving flags are set
abbrev pub places : List Process → ℕ
places ps = sum (λ p. bit p.have + bit p.arriving) ps

-- by the status and a process's have flag: stages 3, 9 and 10 have the envelope and it is empty, stages 4, 5 and 8
-- have it and it is full
abbrev pub stage_fits : Status → Bool → ℕ → Bool
stage_fits status have stage =
    (not (with_empty stage) || have && not status) && (not (with_full stage) || have && status)

-- and so at every process
unfoldable pub stages_fit : Status → List Process → Bool
stages_fit status ps = all (λ p. stage_fits status p.have p.stage) ps

-- the set of the processes marked for s, as a number: its digit i is one exactly when process i is marked
unfoldable pub marked_set : Status → List Process → ℕ
marked_set s [] = 0
marked_set s (p ∷ ps) = bit (for p.mark s) + 2 * marked_set s ps

-- how many are in a set of at most 64: the number of ones
abbrev pub ones64 : ℕ → ℕ
ones64 set = ones_in 64 set

-- the count for s equals the marks for s
abbrev pub count_fits : Status → State → Bool
count_fits s st = eqb (ones64 (marked_set s st.processes)) (for st.envelope.marked s)

-- just one flag is set; the stages have the envelope that they need; both counts equal the marks
abbrev pub rest_rules : State → List Bool
rest_rules st =
    eqb (places st.processes) 1
    ∷ stages_fit st.envelope.full st.processes
    ∷ count_fits full st
    ∷ count_fits empty st
    ∷ []

-- the rest holds
unfoldable pub rest_fits : State → Bool
rest_fits st = holds (rest_rules st)

-- ---- the whole

-- an image is sound if all three parts hold
unfoldable pub sound : List ℕ → Bool
sound s = header_fits s && records_fit s (size_in s) && rest_fits (state_in s)
