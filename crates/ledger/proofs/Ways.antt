-- Each way through this crate's functions is the rule's: three stores of four bytes one after the other are one record,
-- and it is left out where it has no room.
use Prim.Native.Nat.{ℕ, ◌+◌, ◌≤◌, ◌<◌}
use mathlib.Core.Path.{◌≡◌, ap, ◌∙◌}
use mathlib.Core.List.{List, [], ◌∷◌, ◌++◌, append_assoc}
use native.Mathlib.Omega.{arith}
use lib.ListN.{length, length-append}
use borrow.Author.Tests.{le-leb, lt-leb}
use Rattle.machine.specs.declared.Outcome.{Outcome}
use Rattle.machine.specs.Bytes.{bytes, splice}
use Rattle.machine.specs.Run.{outcome_number, outcome_message, ledger_record, ledger_entry}
use Rattle.machine.proofs.Laws.Bytes.{length_bytes, splice_next}
use Rattle.machine.proofs.Tallies.{length_record}
use Rattle.ledger.specs.Record.{record_of, entered_in}

-- ---- a record

-- the stores in their order: number; process, code and zeros; message
pub stored : (number process code message : ℕ) (s : List ℕ) (at : ℕ) {t u v : List ℕ} → at + 12 ≤ length s
    → t ≡ splice s at (bytes 4 number) → u ≡ splice t (at + 4) (process ∷ code ∷ 0 ∷ 0 ∷ [])
    → v ≡ splice u (at + 8) (bytes 4 message) → v ≡ splice s at (record_of number process code message)
stored number process code message s at room first second third =
    let within : at ≤ length s = omega arith in
    let a = bytes 4 number in
    let b : List ℕ = process ∷ code ∷ 0 ∷ 0 ∷ [] in
    let four : at + 4 ≡ at + length a = omega (arith, length_bytes 4 number) in
    let eight : at + 8 ≡ at + length (a ++ b) = omega (arith, length-append a b) in
    third ∙ rw (second, first, four, splice_next s at a b, eight, splice_next s at (a ++ b), append_assoc)

-- ---- an entry

-- what has room is written
pub has_room : (s : List ℕ) (at : ℕ) (bs : List ℕ) → at + length bs ≤ length s → entered_in s at bs ≡ splice s at bs
has_room s at bs room = rw (le-leb (at + length bs) (length s) room)

module _ (number process : ℕ) (o : Outcome) (many : 2 ≤ outcome_number o) where
  entry_record : ledger_entry number process o ≡ ledger_record number process o
  unfolding ledger_entry
  entry_record = rw (le-leb 2 (outcome_number o) many)

  entry_long : length (ledger_entry number process o) ≡ 12
  entry_long = ap length entry_record ∙ length_record number process o

  -- a record without room is left out
  pub entered_short : (s : List ℕ) (at : ℕ) → length s < at + 12 → s ≡ entered_in s at (ledger_entry number process o)
  entered_short s at short =
      rw (lt-leb (at + length (ledger_entry number process o)) (length s) (omega (arith, entry_long)))

  -- a record of its number and message is the entry
  pub entered : (s : List ℕ) (at : ℕ) {t : List ℕ} {code message : ℕ} → at + 12 ≤ length s → code ≡ outcome_number o
      → message ≡ outcome_message o → t ≡ splice s at (record_of number process code message)
      → t ≡ entered_in s at (ledger_entry number process o)
  unfolding ledger_record
  entered s at room is said wrote =
      rw (wrote, said, is, ← entry_record, has_room s at (ledger_entry number process o) (omega (arith, entry_long)))
