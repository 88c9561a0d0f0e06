-- Traffic on a quiet ring: document 02, A.5. One put and nobody to receive it, until the ring is stopped; then one get.
use Rattle.std.specs.Prelude.{ℕ, ◌+◌, ◌-◌, ◌%◌, ◌≤◌, ◌<◌, ◌≡◌, true, not, cond, ◌&&◌, List, [], ◌∷◌, ◌++◌, eqb}
use Rattle.machine.specs.declared.Traffic.{Traffic}
use Rattle.machine.specs.Ring.{least, most}
use Rattle.machine.specs.Image.{State}
use Rattle.machine.specs.Fresh.{fresh_state}
use Rattle.machine.specs.Events.{Event, outcome, apply}
use Rattle.machine.specs.Stopped.{is_idle, Stopped}
use Rattle.machine.specs.Run.{after}
use Rattle.machine.specs.Traffic.{traffic_from}
use Rattle.machine.specs.Balance.{on_ring}

-- ---- what starts

-- the processes at which events of a code weren't idle, in order: with code 0 where puts start, with code 1 where gets
-- do
unfoldable pub starts_from : ℕ → State → List Event → List ℕ
starts_from code st [] = []
starts_from code st (v ∷ vs) =
    cond (eqb v.code code && not (is_idle (outcome st v))) (v.process ∷ []) [] ++ starts_from code (apply st v) vs

-- of events performed from a state on: puts start at these processes and gets at those, and nowhere else
pub record Starts (st : State) (vs : List Event) (puts gets : List ℕ) : Type 0 where
  pub puts_at : starts_from 0 st vs ≡ puts
  pub gets_at : starts_from 1 st vs ≡ gets

-- two lists of events from the fresh ring with home e: in the first one put starts, at s, and no get, and the ring is
-- then stopped; in the second one get starts, at r, and no put, and the ring is then stopped again. Idle events, of any
-- code, stand anywhere
pub record LightlyLoaded (n e s r : ℕ) (us ws : List Event) : Type 0 where
  pub put_starts : Starts (fresh_state n e) us (s ∷ []) []
  pub put_over : Stopped (after (fresh_state n e) us)
  pub get_starts : Starts (after (fresh_state n e) us) ws [] (r ∷ [])
  pub get_over : Stopped (after (fresh_state n e) (us ++ ws))

-- ---- what it costs

-- how many links it is from process i to the right to process j, which is (j − i) mod n; n is added as for a left
abbrev pub way : ℕ → ℕ → ℕ → ℕ
way n i j = (j + n - i) % n

-- the envelope goes from its home to the sender and from there to the receiver
abbrev pub both_ways : ℕ → ℕ → ℕ → ℕ → ℕ
both_ways n e s r = way n e s + way n s r

-- a request and a departure for each link of these ways
abbrev pub to_and_fro : ℕ → ℕ → ℕ → ℕ → Traffic
to_and_fro n e s r = record { requests = both_ways n e s r; departures = both_ways n e s r }

-- for every ring of 2 to 64, every home, sender and receiver, who isn't the sender, and every such pair of lists
abbrev pub QuietTraffic : Type 0
QuietTraffic =
    (n e s r : ℕ) → least ≤ n → n ≤ most → e < n → s < n → r < n → (r ≡ s → ⊥)
    → (us ws : List Event) → on_ring n us ≡ true → on_ring n ws ≡ true → LightlyLoaded n e s r us ws
    → traffic_from (fresh_state n e) (us ++ ws) ≡ to_and_fro n e s r
