-- What soundness demands of one process record, as a mask over its eight bytes: document 01, "The image", its paragraph
-- on soundness. A mask's bits must be 0 in the record. Have and the stage's three lowest bits are turned over before
-- they are masked, so that a mask which has them demands 1.
use Rattle.std.specs.Prelude.{ℕ, ◌+◌, ◌*◌, ◌/◌, ◌%◌, Bool, not, cond, ◌||◌, eqb, leb}
use Rattle.machine.specs.Bytes.{bit}
use Rattle.machine.specs.Fields.{Status, full, empty}
use Rattle.machine.specs.Stages.{last_stage, noted, with_empty, with_full, markable}

-- a stage that may not stand under this status
abbrev pub against : Status → ℕ → Bool
against status stage = cond status (with_empty stage) (with_full stage)

-- byte 0: bits 4 to 7; and where the stage may not stand the three lowest, which no such stage has all
abbrev pub stage_mask : Status → ℕ → ℕ
stage_mask status stage = 240 + 7 * bit (against status stage)

-- byte 1: bits 3 to 7; and have, in a stage that has the envelope
abbrev pub flag_mask : ℕ → ℕ
flag_mask stage = 248 + bit (with_empty stage || with_full stage)

-- byte 2: the marks that may not stand at this stage
abbrev pub mark_mask : ℕ → ℕ
mark_mask stage = 16 * bit (not (markable full stage)) + 32 * bit (not (markable empty stage))

-- bytes 4 to 7: the note, outside stages 1 to 3
abbrev pub note_mask : ℕ → ℕ
note_mask stage = cond (noted stage) 0 4294967295

-- five parts, lowest first: four bytes and the note
abbrev pub from_parts : ℕ → ℕ → ℕ → ℕ → ℕ → ℕ
from_parts a b c d note = a + 256 * (b + 256 * (c + 256 * (d + 256 * note)))

-- the mask of a stage, in which byte 3 is whole
abbrev pub mask_of : Status → ℕ → ℕ
mask_of status stage = from_parts (stage_mask status stage) (flag_mask stage) (mark_mask stage) 255 (note_mask stage)

-- an entry is stage + 16 × status
abbrev pub entry_of : ℕ → ℕ → ℕ
entry_of status word = 16 * status + word % 16

-- above the last stage bits 3 to 7 of byte 0, of which 11 to 15 have bit 3; the last entry has the lowest three besides
abbrev pub beyond_mask : ℕ → ℕ
beyond_mask entry = 248 + 7 * bit (eqb entry 31)

-- the mask of an entry
unfoldable pub demand_of : ℕ → ℕ
demand_of entry =
    cond (leb (entry % 16) last_stage) (mask_of (eqb (entry / 16) 1) (entry % 16)) (beyond_mask entry)
