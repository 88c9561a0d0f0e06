-- A ledger record by its numbers: the rule's record is that of an outcome's number and message.
use Rattle.std.specs.Prelude.{ℕ, ◌+◌, cond, List, [], ◌∷◌, ◌++◌, length, leb}
use Rattle.machine.specs.Bytes.{bytes, splice}

-- 12 bytes: event number, process, code, two zeros, message
abbrev pub record_of : ℕ → ℕ → ℕ → ℕ → List ℕ
record_of number process code message = bytes 4 number ++ ((process ∷ code ∷ 0 ∷ 0 ∷ []) ++ bytes 4 message)

-- a ledger with bytes written from `at` on, where it has room for them
abbrev pub entered_in : List ℕ → ℕ → List ℕ → List ℕ
entered_in ledger at bs = cond (leb (at + length bs) (length ledger)) (splice ledger at bs) ledger
