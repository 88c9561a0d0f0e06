-- A load that anyone can repeat: document 02, A.1. Numbers drawn from a seed, the events that they make, the tape of
-- these, and the call.
use Rattle.std.specs.Prelude.{ℕ, zero, suc, ◌+◌, ◌*◌, ◌%◌, cond, List, [], ◌∷◌, length, eqb}
use Rattle.machine.specs.Verdict.{Verdict}
use Rattle.machine.specs.Bytes.{splice}
use Rattle.machine.specs.Lists.{tabulate}
use Rattle.machine.specs.Events.{Event}
use Rattle.machine.specs.Tape.{list_bytes, tape_of}
use Rattle.machine.specs.Refusals.{or_else, size_verdict, seed_verdict, count_verdict, output_verdict}
use Rattle.machine.specs.Answers.{Answer, answer, lent}

-- ---- numbers

-- the number drawn after this one: a linear congruential generator, Park and Miller's minimal standard
abbrev pub next : ℕ → ℕ
next last = 16807 * last % 2147483647

-- the k-th number drawn from a seed. The seed is number 0, and no draw
unfoldable pub drawn : ℕ → ℕ → ℕ
drawn seed zero = seed
drawn seed (suc k) = next (drawn seed k)

-- ---- events

-- how many codes are drawn from, whatever codes there are
abbrev pub drawn_codes : ℕ
drawn_codes = 8

-- the event for n processes that three numbers make: the third is the message of code 0, and else not used
unfoldable pub event_by : ℕ → ℕ → ℕ → ℕ → Event
event_by n a b c =
    record { process = a % n; code = b % drawn_codes; message = cond (eqb (b % drawn_codes) 0) c 0 }

-- event k: three draws are made for each, used or not
unfoldable pub load_event : ℕ → ℕ → ℕ → Event
load_event n seed k = event_by n (drawn seed (3 * k + 1)) (drawn seed (3 * k + 2)) (drawn seed (3 * k + 3))

-- so many events
unfoldable pub load_events : ℕ → ℕ → ℕ → List Event
load_events n seed count = tabulate (load_event n seed) 0 count

-- and the tape of them, as the writer makes it
unfoldable pub load_tape : ℕ → ℕ → ℕ → List ℕ
load_tape n seed count = tape_of (list_bytes (load_events n seed count))

-- ---- load (N, seed, count, output): 1, 11; 6; 10. How many bytes it filled

unfoldable pub load_verdict : ℕ → ℕ → ℕ → List ℕ → Verdict
load_verdict n seed count output =
    or_else (size_verdict n)
    (or_else (seed_verdict seed)
    (or_else (count_verdict count)
    (output_verdict (length (load_tape n seed count)) output)))

unfoldable pub load_answer : ℕ → ℕ → ℕ → List ℕ → Answer
load_answer n seed count output = answer (load_verdict n seed count output) (length (load_tape n seed count) ∷ [])

unfoldable pub load_output : ℕ → ℕ → ℕ → List ℕ → List ℕ
load_output n seed count output = lent (load_verdict n seed count output) output
    (splice output 0 (load_tape n seed count))
