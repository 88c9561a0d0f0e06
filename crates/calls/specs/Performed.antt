-- The events that a list of calls performs, and that its answers and its image are the rules' own of them: what is
-- proved of every list of events is so known of calls.
use Rattle.std.specs.Prelude.{ℕ, ◌≡◌, cond, List, [], ◌∷◌, ◌++◌, eqb, Ok}
use Rattle.machine.specs.Bytes.{Bytes}
use Rattle.machine.specs.Image.{state_in}
use Rattle.machine.specs.Events.{Event}
use Rattle.machine.specs.Run.{after}
use Rattle.machine.specs.Tape.{event_in}
use Rattle.machine.specs.Traffic.{traffic_from}
use Rattle.machine.specs.Refusals.{image_verdict}
use Rattle.machine.specs.Answers.{run_events}
use Rattle.calls.specs.Calls.{Call, answer_of, image_after, image_after_all}
use Rattle.calls.specs.Calls.Call.{Step, Run, Stopped}
use Rattle.calls.specs.Demand.{GivenBytes}
use Rattle.calls.specs.Sums.{traffic_by_all}

-- the events that a call is given; stopped has none
abbrev pub events_of : Call → List Event
events_of (Step event) = event_in event 0 ∷ []
events_of (Run tape ledger) = run_events tape
events_of Stopped = []

-- a refused call performs none
abbrev pub performed : List ℕ → Call → List Event
performed image c = cond (eqb (answer_of image c).number 0) (events_of c) []

-- call after call
unfoldable pub performed_by_all : List ℕ → List Call → List Event
performed_by_all image [] = []
performed_by_all image (c ∷ cs) = performed image c ++ performed_by_all (image_after image c) cs

-- the state that the calls leave, and the traffic that they answer
pub record AsPerformed (image : List ℕ) (calls : List Call) : Type 0 where
  pub state : state_in (image_after_all image calls) ≡ after (state_in image) (performed_by_all image calls)
  pub traffic : traffic_by_all image calls ≡ traffic_from (state_in image) (performed_by_all image calls)

-- from every accepted image, for every list of calls that are given bytes, refused ones included
abbrev pub CallsPerform : Type 0
CallsPerform =
    (image : List ℕ) → image_verdict image ≡ Ok tt → Bytes image → (calls : List Call) → GivenBytes calls
    → AsPerformed image calls
