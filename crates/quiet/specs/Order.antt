-- On a quiet ring there is one order of events: from a start on just one event is possible at any time, or none, and
-- how many there are depends on the distance alone. Beyond document 02, A.5, and why its numbers are the same for all
-- lists.
use Rattle.std.specs.Prelude.{ℕ, ◌+◌, ◌*◌, ◌≤◌, ◌<◌, ◌≡◌, true, not, List, [], ◌∷◌, length}
use Rattle.machine.specs.declared.Outcome.TheVariants.{Idle}
use Rattle.machine.specs.Bytes.{bit}
use Rattle.machine.specs.Ring.{least, most}
use Rattle.machine.specs.Image.{State}
use Rattle.machine.specs.Fresh.{fresh_state}
use Rattle.machine.specs.Events.{Event, outcome, apply}
use Rattle.machine.specs.Stopped.{is_idle, Stopped}
use Rattle.machine.specs.Run.{after}
use Rattle.machine.specs.Balance.{on_ring}
use Rattle.quiet.specs.Quiet.{Starts, way}

-- an event of the codes 2 to 7, those that a standstill asks about, would not be idle at process i of the ring
pub record Possible (st : State) (i code : ℕ) : Type 0 where
  pub within_ring : i < length st.processes
  pub low : 2 ≤ code
  pub high : code ≤ 7
  pub does : outcome st (record { process = i; code = code; message = 0 }) ≡ Idle → ⊥

-- any two that are possible are the same
abbrev pub OneAtMost : State → Type 0
OneAtMost st = (i j code code' : ℕ) → Possible st i code → Possible st j code' → (i ≡ j) × (code ≡ code')

-- how many events weren't idle, performed from a state on
unfoldable pub done_from : State → List Event → ℕ
done_from st [] = 0
done_from st (v ∷ vs) = bit (not (is_idle (outcome st v))) + done_from (apply st v) vs

-- a put or a get over a distance d: its start, two events until it asks, four for each link, three at its end
abbrev pub whole : ℕ → ℕ
whole d = 6 + 4 * d

-- after events among which the put or the get has started: at most one event is possible; no more were done than that,
-- and the ring is stopped exactly when all of them were
pub record OneOrder (d : ℕ) (st : State) (vs : List Event) : Type 0 where
  pub one_at_most : OneAtMost (after st vs)
  pub few : done_from st vs ≤ whole d
  pub all_then_stopped : done_from st vs ≡ whole d → Stopped (after st vs)
  pub stopped_then_all : Stopped (after st vs) → done_from st vs ≡ whole d

-- so of the put, from the fresh ring, at any time after it has started; and of the get, from the ring that is stopped
-- after that put, at any time after the get has started
abbrev pub QuietOrder : Type 0
QuietOrder =
    (n e s r : ℕ) → least ≤ n → n ≤ most → e < n → s < n → r < n → (r ≡ s → ⊥)
    → (us : List Event) → on_ring n us ≡ true → Starts (fresh_state n e) us (s ∷ []) []
    → OneOrder (way n e s) (fresh_state n e) us
    × (Stopped (after (fresh_state n e) us)
    → (ws : List Event) → on_ring n ws ≡ true → Starts (after (fresh_state n e) us) ws [] (r ∷ [])
    → OneOrder (way n s r) (after (fresh_state n e) us) ws)
