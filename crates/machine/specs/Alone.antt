-- Entry 10: document 01, "Ten entries to try". A request for full that crossed the envelope may outlive the get that it
-- served, and then a put may end alone; from there the ring isn't stopped before a get has taken the message.
use Rattle.std.specs.Prelude.{ℕ, ◌+◌, ◌<◌, ◌≡◌, true, false, List, [], ◌∷◌, ◌++◌, length}
use Rattle.machine.specs.Ring.{left}
use Rattle.machine.specs.Fields.{full, for}
use Rattle.machine.specs.Image.{State}
use Rattle.machine.specs.Stages.{filled, receiving}
use Rattle.machine.specs.Fresh.{fresh_state}
use Rattle.machine.specs.Events.{Event, process_at}
use Rattle.machine.specs.Stopped.{stopped, Stopped}
use Rattle.machine.specs.Run.{after}
use Rattle.machine.specs.Balance.{taken_from, totals_from, in_stages, on_ring, AfterEvents}

-- ---- states of a ring

-- a request for full crosses the envelope: both are on the link between a process and its left, the request to the left
-- and the envelope to the right
pub record Crossing (st : State) : Type 0 where
  pub process : ℕ
  pub within_ring : process < length st.processes
  pub request : for (process_at st.processes (left (length st.processes) process)).link full ≡ true
  pub envelope : (process_at st.processes process).arriving ≡ true

-- the full marker is set, and no get is under way: nobody is in stages 6 to 10
pub record NoReceiver (st : State) : Type 0 where
  pub marker : for st.envelope.marker full ≡ true
  pub nobody : in_stages receiving st.processes ≡ 0

-- the envelope is full, and the put that filled it has ended: nobody is in stages 4 and 5
pub record PutEnded (st : State) : Type 0 where
  pub is_full : st.envelope.full ≡ true
  pub nobody : in_stages filled st.processes ≡ 0

-- a put has ended alone: its message is in the envelope, and there is no receiver
pub record EndedAlone (st : State) : Type 0 where
  pub put_ended : PutEnded st
  pub no_receiver : NoReceiver st

-- ---- a put may end alone

-- how a ring of n comes to that, by events in three parts: a request for full crosses the envelope; later the full
-- marker is set with no receiver; and then a put ends alone, and the ring isn't stopped. That the one comes of the
-- other is seen in the lists, and not said here
pub record EndsAlone (n home : ℕ) (crosses outlives ends : List Event) : Type 0 where
  pub within_ring : on_ring n (crosses ++ (outlives ++ ends)) ≡ true
  pub crossing : Crossing (after (fresh_state n home) crosses)
  pub no_receiver : NoReceiver (after (fresh_state n home) (crosses ++ outlives))
  pub alone : EndedAlone (after (fresh_state n home) (crosses ++ (outlives ++ ends)))
  pub moving : stopped (after (fresh_state n home) (crosses ++ (outlives ++ ends))) ≡ false

-- and then, in every ring and after every list of events, just one more put has ended than gets were even started
abbrev pub OneMoreSent : Type 0
OneMoreSent = AfterEvents (λ n st t. EndedAlone st → t.sent ≡ t.gets + 1)

-- ---- no stop before the message is taken

-- for every ring, home and list of events that comes to a state of which Q holds, and every further list from there:
-- what holds of that state and of the further list
abbrev pub Thereafter : (State → Type 0) → (State → List Event → Type 0) → Type 0
Thereafter Q P = AfterEvents (λ n st t. Q st → (ws : List Event) → on_ring n ws ≡ true → P st ws)

-- events that take nothing leave it not stopped
abbrev pub NoStopWithoutTake : Type 0
NoStopWithoutTake = Thereafter PutEnded (λ st ws. taken_from st ws ≡ [] → Stopped (after st ws) → ⊥)

-- and if it is stopped, the first message that was taken is the one that the envelope had
abbrev pub StoppedOnceTaken : Type 0
StoppedOnceTaken =
    Thereafter PutEnded
    (λ st ws. Stopped (after st ws) → (later : List ℕ) × (taken_from st ws ≡ st.envelope.message ∷ later))

-- once a put has ended alone, events that start no get leave it not stopped: nobody is left to take the message
abbrev pub NoStopWithoutGet : Type 0
NoStopWithoutGet = Thereafter EndedAlone (λ st ws. (totals_from st ws).gets ≡ 0 → Stopped (after st ws) → ⊥)
