-- The claim is not empty: lists of events that end stopped, one with a fill, a take, a sent and a got, and one that
-- leaves a sender waiting. The checker computes them.
use Prim.Native.Nat.{ℕ}
use mathlib.Core.Path.{◌≡◌, refl}
use mathlib.Core.Bool.{true}
use mathlib.Core.List.{List, [], ◌∷◌, ◌++◌}
use Rattle.machine.specs.Fresh.{fresh_state}
use Rattle.machine.specs.Events.{Event, process_at}
use Rattle.machine.specs.Stopped.{stopped}
use Rattle.machine.specs.Run.{after}
use Rattle.machine.specs.Balance.{totals_from, on_ring}
use Rattle.machine.proofs.Cases.Computed.{rules}

-- an event at a process
abbrev pub at : ℕ → ℕ → ℕ → Event
at process code message = record { process = process; code = code; message = message }

-- process 1 fills the envelope, which is at home at 0, with 7
unfoldable pub fill : List Event
fill =
    at 1 0 7 ∷ at 1 3 0 ∷ at 1 7 0 ∷ at 0 6 0 ∷ at 0 7 0 ∷ at 1 4 0 ∷ at 1 7 0 ∷ at 1 2 0 ∷ at 1 3 0 ∷ at 1 7 0 ∷ []

-- process 0 takes it
unfoldable pub take : List Event
take =
    at 0 1 0 ∷ at 0 3 0 ∷ at 0 7 0 ∷ at 1 5 0 ∷ at 1 7 0 ∷ at 0 4 0 ∷ at 0 7 0 ∷ at 0 2 0 ∷ at 0 3 0 ∷ at 0 7 0 ∷ []

-- process 0 wants to send 8 instead
unfoldable pub send : List Event
send = at 0 0 8 ∷ at 0 3 0 ∷ at 0 7 0 ∷ at 1 6 0 ∷ at 1 7 0 ∷ []

-- a fill, a take, a sent and a got, and then it is stopped
pub all_ended :
    (on_ring 2 (fill ++ take) ≡ true)
    × (totals_from (fresh_state 2 0) (fill ++ take)
    ≡ record { puts = 1; gets = 1; sent = 1; got = 1; filled = 7 ∷ []; taken = 7 ∷ [] })
    × (stopped (after (fresh_state 2 0) (fill ++ take)) ≡ true)
unfolding rules fill take
all_ended = (refl, refl, refl)

-- stopped with both processes sending: 1 has filled the envelope, and 0 waits for it empty
pub sender_waits :
    (on_ring 2 (fill ++ send) ≡ true)
    × (totals_from (fresh_state 2 0) (fill ++ send)
    ≡ record { puts = 2; gets = 0; sent = 0; got = 0; filled = 7 ∷ []; taken = [] })
    × ((process_at (after (fresh_state 2 0) (fill ++ send)).processes 0).stage ≡ 2)
    × (stopped (after (fresh_state 2 0) (fill ++ send)) ≡ true)
unfolding rules fill send
sender_waits = (refl, refl, refl, refl)
