-- Stopped: document 01, "The eight events", its last paragraph.
use Rattle.std.specs.Prelude.{ℕ, ◌≤◌, ◌<◌, ◌≡◌, Bool, true, false, [], ◌∷◌, length}
use Rattle.machine.specs.declared.Envelope.{Envelope}
use Rattle.machine.specs.declared.Process.{Process}
use Rattle.machine.specs.declared.Outcome.{Outcome}
use Rattle.machine.specs.declared.Outcome.TheVariants.{Idle, Moved, Fill, Take, Sent, Got}
use Rattle.machine.specs.Lists.{all}
use Rattle.machine.specs.Image.{State}
use Rattle.machine.specs.Events.{react, outcome}

-- the outcome of an event that isn't possible
abbrev pub is_idle : Outcome → Bool
is_idle Idle = true
is_idle Moved = false
is_idle (Fill m) = false
is_idle (Take m) = false
is_idle Sent = false
is_idle Got = false

-- events 2 to 7 are idle at one process
unfoldable pub quiet : Envelope → Process → Bool
quiet e p = all (λ code. is_idle (react code 0 e p).outcome) (2 ∷ 3 ∷ 4 ∷ 5 ∷ 6 ∷ 7 ∷ [])

-- and so at every process
unfoldable pub stopped : State → Bool
stopped st = all (quiet st.envelope) st.processes

-- the sentence itself, of which `stopped` is the test: for every process and every code 2 to 7 the outcome is idle
abbrev pub Stopped : State → Type 0
Stopped st =
    (i : ℕ) → i < length st.processes → (code : ℕ) → 2 ≤ code → code ≤ 7
    → outcome st (record { process = i; code = code; message = 0 }) ≡ Idle
