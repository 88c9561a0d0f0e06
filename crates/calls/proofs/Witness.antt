-- The demand is not empty: entry 1's events by a run, a step and another run, with refused and stopped calls, an idle
-- step and a run of no events in between, make a list that ends stopped, with a fill, a take, a sent and a got in it;
-- and the same list by the suite's host shows the same to it. The checker computes both.
use Prim.Native.Nat.{ℕ, ◌≤◌, ◌<◌}
use mathlib.Core.Path.{◌≡◌, refl}
use mathlib.Core.Bool.{Bool, true}
use mathlib.Core.List.{List, [], ◌∷◌, ◌++◌}
use mathlib.Core.Logic.{◌⊎◌, inl, inr}
use lib.ListN.{length, get_or, drop, replicate, get_or-eq_default}
use lib.Dec.{ltb, lit<, lit≤}
use borrow.Author.Tests.{ltb-true}
use Rattle.machine.specs.Bytes.{Bytes}
use Rattle.machine.specs.Lists.{all}
use Rattle.machine.specs.Tape.{tape_of}
use Rattle.machine.specs.Answers.{step_answer, run_answer}
use Rattle.machine.proofs.Laws.Lists.{all_at}
use Rattle.machine.proofs.Laws.Bytes.{lt_or_ge}
use Rattle.machine.proofs.Cases.Computed.{rules}
use Rattle.machine.proofs.Cases.Case.{refused, event}
use Rattle.machine.proofs.Cases.Entries.{first_ten, last_ten, ring}
use Rattle.calls.specs.Calls.{Call, image_after_all, ledger_messages, shown_by_all}
use Rattle.calls.specs.Calls.Call.{Step, Run, Stopped}
use Rattle.calls.specs.Demand.{SaysStopped, Promised, given, GivenBytes}
use Rattle.calls.specs.Suite.{HostCall, host_image_all, host_shown_all, TellsStopped}
use Rattle.calls.specs.Sums.{traffic_by_all}
use Rattle.calls.proofs.Demand.{demand_three}

-- a tape whose event 1 is at process 2
unfoldable pub off_ring : List ℕ
off_ring = tape_of (event 1 0 7 ++ event 2 0 7)

-- an event of no bytes and that tape are refused; where a run's answer has its puts, the tape's refusal has place 1
pub both_refused : (step_answer ring [] ≡ refused 5 0) × (run_answer ring off_ring [] ≡ refused 5 1)
unfolding rules ring off_ring
both_refused = (refl, refl)

-- the get that the last ten events begin with starts by a step; another at the same process is idle
unfoldable pub calls : List Call
calls =
    Step [] ∷ Run off_ring [] ∷ Run (tape_of first_ten) (replicate 12 255) ∷ Run [] [] ∷ Stopped ∷ Step (event 0 1 0)
    ∷ Step (event 0 1 0) ∷ Run (tape_of (drop 8 last_ten)) (replicate 37 255) ∷ Stopped ∷ []

-- a put and a get ended, a message filled and taken, and the ring stopped
pub all_ended :
    (shown_by_all ring calls ≡ record { puts = 1; gets = 1; sent = 1; got = 1; filled = 7 ∷ []; taken = 7 ∷ [] })
    × SaysStopped (image_after_all ring calls)
unfolding rules ring first_ten last_ten off_ring calls image_after_all ledger_messages shown_by_all
all_ended = (refl, refl)

-- the envelope was asked for and left twice: to the sender, and to the receiver
pub all_traffic : traffic_by_all ring calls ≡ record { requests = 2; departures = 2 }
unfolding rules ring first_ten last_ten off_ring calls traffic_by_all
all_traffic = refl

-- ---- through the suite's host

-- a result slice with other bytes in it
abbrev result : List ℕ
result = replicate 81 255

-- and one that is a byte too short: such a call shows nothing and leaves the image
abbrev short : List ℕ
short = replicate 79 255

-- a call by the host
abbrev by : List ℕ → Call → HostCall
by result c = record { call = c; result = result }

-- the same calls by the host, a run and the step first with the short slice
unfoldable pub host_calls : List HostCall
host_calls =
    by result (Step []) ∷ by result (Run off_ring [])
    ∷ by short (Run (tape_of first_ten) (replicate 12 255)) ∷ by result (Run (tape_of first_ten) (replicate 12 255))
    ∷ by result (Run [] []) ∷ by result Stopped ∷ by short (Step (event 0 1 0)) ∷ by result (Step (event 0 1 0))
    ∷ by result (Step (event 0 1 0)) ∷ by result (Run (tape_of (drop 8 last_ten)) (replicate 37 255))
    ∷ by result Stopped ∷ []

-- they show the same to the host, and it is then told that the ring is stopped
pub all_told :
    (host_shown_all ring host_calls ≡ record { puts = 1; gets = 1; sent = 1; got = 1; filled = 7 ∷ []; taken = 7 ∷ [] })
    × TellsStopped (host_image_all ring host_calls)
unfolding rules ring first_ten last_ten off_ring host_calls host_image_all host_shown_all ledger_messages
all_told = (refl, (result, refl, refl))

-- ---- the demand speaks of this list

-- bytes, by a test
abbrev octets : List ℕ → Bool
octets s = all (λ b. ltb b 256) s

are_bytes : (s : List ℕ) → octets s ≡ true → Bytes s
are_bytes s test k = go (lt_or_ge k (length s))
  where
    go : (k < length s) ⊎ (length s ≤ k) → get_or s k 0 < 256
    go (inl below) = ltb-true _ 256 (all_at (λ b. ltb b 256) s 0 test k below)
    go (inr past) = rw (get_or-eq_default s 0 past) (lit< tt)

given_bytes : GivenBytes calls
unfolding rules first_ten last_ten off_ring calls
given_bytes k h = are_bytes (given (get_or calls k Stopped)) (all_at (λ c. octets (given c)) calls Stopped refl k h)

-- so it promises this of it
pub promised_here : Promised SaysStopped 2 (image_after_all ring calls) (shown_by_all ring calls)
unfolding ring all
promised_here =
    demand_three 2 0 (lit≤ tt) (lit≤ tt) (lit< tt) (replicate 32 255) (are_bytes (replicate 32 255) refl) (lit≤ tt)
    calls given_bytes
