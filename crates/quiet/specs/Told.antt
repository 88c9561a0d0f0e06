-- Traffic on a quiet ring as makers read it: document 02, A.5, of the calls' own answers.
use Rattle.std.specs.Prelude.{ℕ, ◌≤◌, ◌<◌, ◌≡◌, List, ◌++◌, length, Ok}
use Rattle.machine.specs.Bytes.{Bytes, number}
use Rattle.machine.specs.Ring.{least, most, image_length}
use Rattle.machine.specs.Events.{Event}
use Rattle.machine.specs.Answers.{fresh_image, run_events, run_verdict, run_answer}
use Rattle.machine.specs.Host.{result_after}
use Rattle.calls.specs.Calls.{Call}
use Rattle.calls.specs.Demand.{GivenBytes}
use Rattle.calls.specs.Sums.{run_traffic, traffic_by_all}
use Rattle.calls.specs.Performed.{performed_by_all}
use Rattle.quiet.specs.Quiet.{LightlyLoaded, both_ways, to_and_fro}

-- what holds for every ring of 2 to 64, every home, sender and receiver, who isn't the sender, every buffer of bytes
-- with room for the image, and every lightly loaded pair of lists: P is told the image that the fresh ring call writes,
-- all events, and the four processes
abbrev pub Lightly : ((n e s r : ℕ) → List ℕ → List Event → Type 0) → Type 0
Lightly P =
    (n e s r : ℕ) → least ≤ n → n ≤ most → e < n → s < n → r < n → (r ≡ s → ⊥)
    → (buffer : List ℕ) → Bytes buffer → image_length n ≤ length buffer
    → (us ws : List Event) → LightlyLoaded n e s r us ws
    → P n e s r (fresh_image n e buffer) (us ++ ws)

-- every list of step, run and stopped calls that performs these events, refused calls included: its answers add up to
-- that traffic
abbrev pub QuietCalls : Type 0
QuietCalls =
    Lightly (λ n e s r image vs.
    (calls : List Call) → GivenBytes calls → performed_by_all image calls ≡ vs
    → traffic_by_all image calls ≡ to_and_fro n e s r)

-- one run of a tape with these events, that is done: its answer has it, and so have words 8 and 9 of a host's result
-- slice with room for ten
abbrev pub QuietRun : Type 0
QuietRun =
    Lightly (λ n e s r image vs.
    (tape ledger : List ℕ) → Bytes tape → run_events tape ≡ vs → run_verdict image tape ledger ≡ Ok tt
    → (run_traffic (run_answer image tape ledger) ≡ to_and_fro n e s r)
    × ((result : List ℕ) → 80 ≤ length result
    → (number (result_after (run_answer image tape ledger) result) 64 8 ≡ both_ways n e s r)
    × (number (result_after (run_answer image tape ledger) result) 72 8 ≡ both_ways n e s r)))
