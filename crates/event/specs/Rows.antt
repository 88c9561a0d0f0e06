-- The tables of an event: which bit of a record makes a code possible, and what a code does to its own record.
use Rattle.std.specs.Prelude.{ℕ, ◌+◌, ◌-◌, ◌*◌, ◌^◌, ◌≡◌, Bool, not, cond, ◌||◌, eqb}
use Rattle.machine.specs.declared.Envelope.{Envelope}
use Rattle.machine.specs.Bytes.{bit}
use Rattle.machine.specs.Stages.{told}
use Rattle.machine.specs.Events.{react}
use Rattle.machine.specs.Stopped.{is_idle}
use Rattle.record.specs.Words.{shown_process}
use Rattle.event.specs.declared.Row.{Row}

-- b says whether an event of this code isn't idle at a process with this record, whatever its message and the envelope
abbrev pub Possible : ℕ → ℕ → Bool → Type 0
Possible code w b = (message : ℕ) (e : Envelope) → b ≡ not (is_idle (react code message e (shown_process w)).outcome)

-- the codes 0 to 3 that a stage makes possible, bit c for code c; stage 15, which no record has, has a bit of its own
abbrev pub open_at : ℕ → ℕ
open_at stage =
    3 * bit (eqb stage 0) + 4 * bit (eqb stage 3 || eqb stage 8) + 8 * bit (told stage) + 16 * bit (eqb stage 15)

-- as bits of byte 3
unfoldable pub codes_at : ℕ → ℕ
codes_at stage = 2 ^ 24 * open_at stage

-- the bit that makes a code possible
unfoldable pub need_of : ℕ → ℕ
need_of code =
    cond (eqb code 4) (2 ^ 9)
    (cond (eqb code 5) (2 ^ 22) (cond (eqb code 6) (2 ^ 23) (cond (eqb code 7) (2 ^ 10) (2 ^ (24 + code)))))

-- what a code counts as started, in a word of counts: a put from bit 42 on, a get from bit 49 on
abbrev pub started_by : ℕ → ℕ
started_by code = 2 ^ 42 * bit (eqb code 0) + 2 ^ 49 * bit (eqb code 1)

-- what a code turns off in its own record, what it then adds, and what it counts as started. Bits 8 to 10 are have,
-- arriving and news; 16 and 17 asked by the right, 22 and 23 the link's requests, full the lower one
unfoldable pub row_of : ℕ → Row
row_of code =
    let row : ℕ → ℕ → Row = λ off on. record { off = off; on = on; started = started_by code } in
    cond (eqb code 0) (row (2 ^ 64 - 2 ^ 32) 1)
    (cond (eqb code 1) (row 0 6)
    (cond (eqb code 2) (row 0 1)
    (cond (eqb code 3) (row (2 ^ 10) (2 ^ 10 + 1))
    (cond (eqb code 4) (row (2 ^ 10 + 2 ^ 9 + 2 ^ 8) (2 ^ 10 + 2 ^ 8))
    (cond (eqb code 5) (row (2 ^ 22 + 2 ^ 16 + 2 ^ 10) (2 ^ 16 + 2 ^ 10))
    (cond (eqb code 6) (row (2 ^ 23 + 2 ^ 17 + 2 ^ 10) (2 ^ 17 + 2 ^ 10))
    (row (2 ^ 10) 0)))))))
