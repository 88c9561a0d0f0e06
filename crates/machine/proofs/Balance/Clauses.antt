-- The invariant behind the third demand, clause by clause. Each clause is kept by every event on its own, given that
-- the state fits; they meet only in the standstill. Full and empty are mirror images: what holds of both is said once,
-- over the status.
use Prim.Native.Nat.{ℕ, ◌+◌, ◌≤◌, ◌<◌}
use mathlib.Core.Path.{◌≡◌}
use mathlib.Core.Bool.{Bool, true, false, not, ◌&&◌, ◌||◌}
use mathlib.Core.List.{List, ◌++◌}
use lib.ListN.{length}
use lib.Dec.{eqb}
use Rattle.machine.specs.declared.Envelope.{Envelope}
use Rattle.machine.specs.declared.Process.{Process}
use Rattle.machine.specs.Ring.{left}
use Rattle.machine.specs.Fields.{Status, for}
use Rattle.machine.specs.Image.{State}
use Rattle.machine.specs.Lists.{within}
use Rattle.machine.specs.Stages.{sending, filled, receiving}
use Rattle.machine.specs.Events.{wanted, process_at}
use Rattle.machine.specs.Balance.{Totals, in_stages, own_message}
use Rattle.machine.proofs.Soundness.Settled.{waits_for}
use Rattle.machine.proofs.Soundness.Facts.{StateFacts}

-- ---- stages

-- stages that no event but a put moves on: 0, 2, 5, 7, 10
abbrev pub resting : ℕ → Bool
resting stage = eqb stage 0 || eqb stage 2 || eqb stage 5 || eqb stage 7 || eqb stage 10

-- a message is taken, and its get hasn't ended
abbrev pub emptied : ℕ → Bool
emptied = within 9 10

-- ---- A. The holder at rest

-- its get has ended; it doesn't wait for the status that is here; and nobody wants that status, nor did its right ask
-- for it
pub record RestsOf (stage : ℕ) (status : Status) (is_wanted is_asked : Bool) : Type 0 where
  pub over : eqb stage 10 ≡ false
  pub waits : eqb stage (waits_for status) ≡ false
  pub unwanted : is_wanted ≡ false
  pub unasked : is_asked ≡ false

-- the same by the envelope and the record
abbrev pub Rests : Envelope → Process → Type 0
Rests e p = RestsOf p.stage e.full (wanted e) (for p.asked e.full)

-- so it is at a process that has the envelope and no news
abbrev pub AtRest : Envelope → Process → Type 0
AtRest e p = p.have ≡ true → p.news ≡ false → resting p.stage ≡ true → Rests e p

-- ---- B. A message is wanted or its sender still has it

-- full, and nobody wants it so
abbrev pub unclaimed : Envelope → Bool
unclaimed e = e.full && not (wanted e)

-- then a put that filled it hasn't ended
abbrev pub Claimed : State → Type 0
Claimed st = unclaimed st.envelope ≡ true → 1 ≤ in_stages filled st.processes

-- ---- C. Who needs s and has rested has asked for it

-- it was asked for s, or it waits for s unmarked
abbrev pub seeks : Status → Process → Bool
seeks s p = for p.asked s || eqb p.stage (waits_for s) && not (for p.mark s)

-- so without the envelope and without news it has asked itself
abbrev pub HasAsked : Status → Process → Type 0
HasAsked s p = p.have ≡ false → p.news ≡ false → seeks s p ≡ true → for p.itself s ≡ true

-- ---- D. What was asked lies at the left

-- it has asked for s, and the envelope is neither here nor on the way here
abbrev pub awaits : Status → Process → Bool
awaits s p = for p.itself s && not p.have && not p.arriving

-- a request for s from its right is here, on the link or heard
abbrev pub holds_request : Status → Process → Bool
holds_request s p = for p.asked s || for p.link s

-- of a process and its left
abbrev pub Handed : Status → Process → Process → Type 0
Handed s p neighbour = awaits s p ≡ true → holds_request s neighbour ≡ true

-- ---- E. The counts, and the messages

-- puts and gets under way are in their stages, and so are the messages filled and taken
pub record Counted (l : List Process) (e : Envelope) (t : Totals) : Type 0 where
  pub puts : t.puts ≡ t.sent + in_stages sending l
  pub gets : t.gets ≡ t.got + in_stages receiving l
  pub fills : length t.filled ≡ t.sent + in_stages filled l
  pub takes : length t.taken ≡ t.got + in_stages emptied l
  pub messages : t.filled ≡ t.taken ++ own_message e

-- ---- all of them

pub record Invariant (st : State) (t : Totals) : Type 0 where
  pub two : 2 ≤ length st.processes
  pub few : length st.processes ≤ 64
  pub fits : StateFacts st
  pub rests : (i : ℕ) → i < length st.processes → AtRest st.envelope (process_at st.processes i)
  pub claimed : Claimed st
  pub asked : (i : ℕ) → i < length st.processes → (s : Status) → HasAsked s (process_at st.processes i)
  pub handed : (i : ℕ) → i < length st.processes → (s : Status)
      → Handed s (process_at st.processes i) (process_at st.processes (left (length st.processes) i))
  pub counted : Counted st.processes st.envelope t
