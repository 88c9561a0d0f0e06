-- The events of an accepted tape, as a run takes them: event k is the one in slot k % 63 of block k / 63, it is at a
-- process of the ring, and its message has 32 bits.
use Rattle.std.specs.Prelude.{Ok}
use Prim.Native.Nat.{ℕ, ◌+◌, ◌*◌, ◌/◌, ◌%◌, ◌^◌, ◌≤◌, ◌<◌}
use mathlib.Core.Path.{◌≡◌, ap, ◌∙◌}
use mathlib.Core.Bool.{true}
use mathlib.Core.List.{List, [], ◌∷◌, ◌++◌}
use native.Mathlib.Omega.{arith}
use native.Mathlib.Numerals.{add-one}
use lib.ListN.{length, get_or, take}
use lib.Seq.{take-suc}
use borrow.Author.Tests.{lt-ltb}
use Rattle.machine.specs.Bytes.{Bytes}
use Rattle.machine.specs.Lists.{all}
use Rattle.machine.specs.Events.{Event}
use Rattle.machine.specs.Tape.{event_in, events_in, slot_at, list_of}
use Rattle.machine.specs.Refusals.{tape_verdict}
use Rattle.machine.specs.Answers.{run_events}
use Rattle.machine.proofs.Laws.Bytes.{number_lt}
use Rattle.machine.proofs.Laws.Refusals.{fits_process}
use Rattle.machine.proofs.Laws.Lists.{length_tabulate, get_d_tabulate, all_each}
use Rattle.machine.proofs.Runs.{fitting}
use Rattle.tape_test.specs.Accepted.{events_on}
use Rattle.tape_test.proofs.Blocks.{TapeFine, tape_fine}
use Rattle.tape_test.proofs.Lengths.{events_ranged}
use Rattle.tape.proofs.Slots.{event_placed, event_read}

-- an event past the end
abbrev nobody : Event
nobody = record { process = 0; code = 0; message = 0 }

-- as many as the tape's test counts
pub length_events : (s : List ℕ) → length (run_events s) ≡ events_on s
unfolding run_events events_in
length_events s = length_tabulate (λ k. event_in (list_of s) (8 * k)) 0 (events_on s)

module _ (codes n : ℕ) (s : List ℕ) (accepted : tape_verdict codes n s ≡ Ok tt) where
  -- what the tape has
  tape : TapeFine codes n s
  tape = tape_fine codes n s accepted

  -- at most 63 in each block
  pub events_in_blocks : events_on s ≤ 63 * (length s / 512)
  events_in_blocks = (events_ranged s tape).most

  -- and at most 65,536 blocks
  pub events_few : events_on s ≤ 4128768
  events_few = omega (arith, events_in_blocks, tape.most)

  -- event k, where it stands on the tape
  pub event_at : (k : ℕ) → k < events_on s → (d : Event) → get_or (run_events s) k d
      ≡ event_in s (slot_at (k / 63) (k % 63))
  unfolding run_events events_in
  event_at k h d =
      get_d_tabulate (λ j. event_in (list_of s) (8 * j)) 0 (events_on s) k d h
      ∙ ap (λ (j : ℕ). event_in (list_of s) (8 * j)) (let same : 0 + k ≡ k = omega arith in same)
      ∙ event_read s tape k h

  -- the first events up to event k are those before it and event k
  pub events_to : (k : ℕ) → k < events_on s
      → take (k + 1) (run_events s) ≡ take k (run_events s) ++ (event_in s (slot_at (k / 63) (k % 63)) ∷ [])
  events_to k h =
      rw (add-one k, ← event_at k h nobody) (take-suc (run_events s) k nobody (rw (length_events s) h))

  -- event k fits the ring
  pub event_fitting : Bytes s → (k : ℕ) → k < events_on s → fitting n (event_in s (slot_at (k / 63) (k % 63))) ≡ true
  unfolding event_in
  event_fitting small k h =
      let at = slot_at (k / 63) (k % 63) in
      let placed = event_placed s tape k h in
      rw (
        lt-ltb _ n (fits_process codes n s at ((tape.blocks (k / 63) placed.block).events (k % 63) placed.slot)),
        lt-ltb _ (2 ^ 32) (number_lt s (at + 4) small),
      )

  -- every event fits
  pub events_fit : Bytes s → all (fitting n) (run_events s) ≡ true
  events_fit small =
      all_each (fitting n) (run_events s) nobody
      (λ k h.
      let within : k < events_on s = omega (arith, length_events s) in
      rw (event_at k within nobody) (event_fitting small k within))
