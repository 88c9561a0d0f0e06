-- Room for a record an event is room enough, since an event has at most one record; and 12 bytes a record are room in
-- bytes.
use Prim.Native.Nat.{ℕ, ◌*◌, ◌/◌, ◌≤◌, ◌<◌}
use mathlib.Core.Path.{◌≡◌, sym, ◌∙◌}
use mathlib.Core.Bool.{true}
use mathlib.Core.List.{List}
use mathlib.Core.Logic.{◌⊎◌, inl, inr}
use native.Mathlib.Omega.{arith}
use lib.ListN.{length}
use lib.Dec.{leb}
use borrow.Author.Tests.{le-leb, lt-leb}
use Rattle.machine.specs.Image.{state_in}
use Rattle.machine.proofs.Laws.Bytes.{lt_or_ge}
use Rattle.machine.proofs.Tallies.{records_from, records_few, length_ledger}
use Rattle.replay.specs.Playable.{Playable, first_events, first_records}
use Rattle.replay.proofs.First.{first_long}

module _ {s tape : List ℕ} {total : ℕ} (ready : Playable s tape total) (room : ℕ) where
  -- 12 bytes a record
  bytes : length (first_records s tape total) ≡ 12 * records_from (state_in s) (first_events tape total)
  bytes = length_ledger (first_events tape total) 0 (state_in s)

  pub room_at_once : total ≤ room / 12 → true ≡ leb (length (first_records s tape total)) room
  room_at_once h =
      let long : length (first_events tape total) ≡ total = first_long ready (omega arith) in
      sym (le-leb _ room (omega (arith, bytes, records_few (first_events tape total) (state_in s))))

  pub room_measured : {records : ℕ} → records ≡ records_from (state_in s) (first_events tape total)
      → leb records (room / 12) ≡ leb (length (first_records s tape total)) room
  room_measured {records} is = go (lt_or_ge (room / 12) records)
    where
      go : (room / 12 < records) ⊎ (records ≤ room / 12)
          → leb records (room / 12) ≡ leb (length (first_records s tape total)) room
      go (inl short) =
          lt-leb records (room / 12) short
          ∙ sym (lt-leb (length (first_records s tape total)) room (omega (arith, bytes, is)))
      go (inr enough) =
          le-leb records (room / 12) enough
          ∙ sym (le-leb (length (first_records s tape total)) room (omega (arith, bytes, is)))
