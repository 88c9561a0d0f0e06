-- Which bytes of a list stand in which block: 504 in each but the last.
use Rattle.std.specs.Prelude.{ℕ, ◌-◌, ◌*◌, min, List}
use Rattle.machine.specs.Bytes.{part}
use Rattle.machine.specs.Tape.{slot_at}

-- how many of so many bytes of events stand in block b
abbrev pub width_in : ℕ → ℕ → ℕ
width_in total b = min 504 (total - 504 * b)

-- and those of block b of a tape
abbrev pub taken_from : List ℕ → ℕ → ℕ → List ℕ
taken_from tape total b = part tape (slot_at b 0) (width_in total b)
