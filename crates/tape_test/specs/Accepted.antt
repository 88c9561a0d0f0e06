-- A tape's events as this crate counts them: a block's head, and how many events an accepted tape has.
use Rattle.std.specs.Prelude.{ℕ, ◌*◌, ◌/◌, ◌≡◌, List, length, Ok}
use Rattle.machine.specs.Verdict.{Verdict}
use Rattle.machine.specs.Bytes.{part}
use Rattle.machine.specs.Tape.{list_of}
use Rattle.machine.specs.Refusals.{or_else, check_verdict, number_verdict, tape_verdict}

-- what is tested of block b before its slots: 7, then 8
abbrev pub head_verdict : List ℕ → ℕ → Verdict
head_verdict s b = or_else (check_verdict s b) (number_verdict s b)

-- v is that verdict, for block b of any tape of so many blocks
abbrev pub HeadOf : List ℕ → ℕ → ℕ → Verdict → Type 0
HeadOf block b blocks v =
    (s : List ℕ) → length s / 512 ≡ blocks → block ≡ part s (512 * b) 512 → v ≡ head_verdict s b

-- how many events a reader finds on a tape
abbrev pub events_on : List ℕ → ℕ
events_on s = length (list_of s) / 8

-- a tape that is accepted for some N and some number of codes
pub record Accepted (s : List ℕ) : Type 0 where
  pub codes : ℕ
  pub n : ℕ
  pub fine : tape_verdict codes n s ≡ Ok tt
