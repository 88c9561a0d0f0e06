-- The first events of a tape are as many as were asked for, and all of them where so many were.
use Prim.Native.Nat.{ℕ, ◌≤◌}
use mathlib.Core.Path.{◌≡◌, ap}
use mathlib.Core.List.{List}
use native.Mathlib.Omega.{arith}
use lib.ListN.{length}
use lib.Seq.{take_all, length-take-le}
use Rattle.machine.specs.Image.{state_in}
use Rattle.machine.specs.Run.{ledger_from}
use Rattle.machine.specs.Answers.{run_events, run_records}
use Rattle.tape_test.specs.Accepted.{events_on}
use Rattle.tape.proofs.Events.{length_events}
use Rattle.replay.specs.Playable.{Playable, first_events, first_records}

pub first_long : {s tape : List ℕ} {total : ℕ} → Playable s tape total → {k : ℕ} → k ≤ total
    → length (first_events tape k) ≡ k
first_long {s} {tape} ready {k} h =
    length-take-le k (run_events tape) (omega (arith, length_events tape, ready.so_many))

module _ (tape : List ℕ) {events : ℕ} (all : events ≡ events_on tape) where
  pub all_events : first_events tape events ≡ run_events tape
  all_events = take_all events (run_events tape) (omega (arith, length_events tape))

  pub all_records : (s : List ℕ) → first_records s tape events ≡ run_records s tape
  unfolding run_records
  all_records s = ap (ledger_from 0 (state_in s)) all_events
