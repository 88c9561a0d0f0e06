-- Link traffic over calls: document 02, A.4. What answers tell of it, and what a run's totals are: the sums of the
-- numbers that steps with the run's events answer, one after the other from the same image.
use Rattle.std.specs.Prelude.{ℕ, ◌≡◌, List, [], ◌∷◌, map, Ok}
use Rattle.machine.specs.declared.Traffic.{Traffic}
use Rattle.machine.specs.Bytes.{Bytes}
use Rattle.machine.specs.Events.{Event}
use Rattle.machine.specs.Tape.{event_bytes}
use Rattle.machine.specs.Traffic.{no_traffic, together}
use Rattle.machine.specs.Answers.{Answer, run_events, run_verdict, run_answer, run_image}
use Rattle.calls.specs.Calls.{Call, answer_of, image_after, image_after_all, value}
use Rattle.calls.specs.Calls.Call.{Step, Run, Stopped}

-- ---- what an answer tells

-- a step's numbers follow the outcome and its message
abbrev pub step_traffic : Answer → Traffic
step_traffic a = record { requests = value a 2; departures = value a 3 }

-- a run's totals follow the eight counts
abbrev pub run_traffic : Answer → Traffic
run_traffic a = record { requests = value a 8; departures = value a 9 }

-- any call's; stopped has none, nor has a refused call, which answers only its place
abbrev pub call_traffic : Call → Answer → Traffic
call_traffic (Step event) a = step_traffic a
call_traffic (Run tape ledger) a = run_traffic a
call_traffic Stopped a = no_traffic

-- ---- call after call

-- summed
unfoldable pub traffic_by_all : List ℕ → List Call → Traffic
traffic_by_all image [] = no_traffic
traffic_by_all image (c ∷ cs) = together (call_traffic c (answer_of image c)) (traffic_by_all (image_after image c) cs)

-- and none refused
pub data AllDone : List ℕ → List Call → Type 0 where
  none : {image : List ℕ} → AllDone image []
  one : {image : List ℕ} {c : Call} {cs : List Call} → (answer_of image c).number ≡ 0 → AllDone (image_after image c) cs
      → AllDone image (c ∷ cs)

-- ---- a run and its events' steps

-- a step for each event
abbrev pub steps_of : List Event → List Call
steps_of vs = map (λ v. Step (event_bytes v)) vs

-- each of these steps is done; together they have so much traffic, and leave the image so
pub record SumOfSteps (image : List ℕ) (vs : List Event) (total : Traffic) (left : List ℕ) : Type 0 where
  pub done : AllDone image (steps_of vs)
  pub sums : total ≡ traffic_by_all image (steps_of vs)
  pub leaves : left ≡ image_after_all image (steps_of vs)

-- every run that is done, whatever its ledger buffer holds
abbrev pub TotalsAreSums : Type 0
TotalsAreSums =
    (image tape ledger : List ℕ) → Bytes image → Bytes tape → run_verdict image tape ledger ≡ Ok tt
    → SumOfSteps image (run_events tape) (run_traffic (run_answer image tape ledger)) (run_image image tape ledger)
