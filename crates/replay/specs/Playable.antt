-- What must be known before the first events of a tape are performed, and what a ledger then has.
use Rattle.std.specs.Prelude.{ℕ, ◌≤◌, ◌≡◌, List, length, take, Ok}
use Rattle.machine.specs.Bytes.{splice}
use Rattle.machine.specs.Image.{State, size_in, state_in}
use Rattle.machine.specs.Events.{Event}
use Rattle.machine.specs.Run.{ledger_from, no_counts, counts_from}
use Rattle.machine.specs.Traffic.{traffic_from}
use Rattle.machine.specs.Refusals.{codes, image_verdict, tape_verdict}
use Rattle.machine.specs.Answers.{run_events}
use Rattle.tape_test.specs.Accepted.{events_on}
use Rattle.replay.specs.declared.Played.{Played}

-- both are accepted, and at least so many events are on the tape
pub record Playable (image tape : List ℕ) (events : ℕ) : Type 0 where
  pub image_fine : image_verdict image ≡ Ok tt
  pub tape_fine : tape_verdict codes (size_in image) tape ≡ Ok tt
  pub so_many : events ≤ events_on tape

-- the first so many events of the tape
abbrev pub first_events : List ℕ → ℕ → List Event
first_events tape events = take events (run_events tape)

-- their records, in a run from this image
abbrev pub first_records : List ℕ → List ℕ → ℕ → List ℕ
first_records image tape events = ledger_from 0 (state_in image) (first_events tape events)

-- what events performed from a state on come to: their counts, and their traffic
pub record Tells (st : State) (vs : List Event) (p : Played) : Type 0 where
  pub counts : p.counts ≡ counts_from no_counts st vs
  pub traffic : p.traffic ≡ traffic_from st vs

-- a ledger that has room for records has them at its start, and its further bytes stay
abbrev pub Recorded : List ℕ → List ℕ → List ℕ → Type 0
Recorded records ledger after = length records ≤ length ledger → after ≡ splice ledger 0 records
