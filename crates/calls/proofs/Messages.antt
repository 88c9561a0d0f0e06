-- Fill and take are told apart by the ledger's codes, 2 and 3, which no unrecorded outcome has.
use Prim.Native.Nat.{ℕ, ◌≤◌}
use mathlib.Core.Path.{◌≡◌, refl, sym, ap₂, ◌∙◌}
use mathlib.Core.Bool.{false}
use mathlib.Core.List.{List, [], ◌∷◌, ◌++◌}
use native.Mathlib.Omega.{arith}
use lib.Dec.{eqb}
use borrow.Author.Tests.{leb-false, ne_eqb}
use Rattle.machine.specs.declared.Outcome.{Outcome}
use Rattle.machine.specs.declared.Outcome.TheVariants.{Idle, Moved, Fill, Take, Sent, Got}
use Rattle.machine.specs.Image.{State}
use Rattle.machine.specs.Events.{Event, outcome, apply}
use Rattle.machine.specs.Run.{outcome_number, outcome_message, recorded}
use Rattle.machine.specs.Balance.{filled_by, taken_by, filled_from, taken_from}
use Rattle.calls.specs.Calls.{message_if}

-- the message of an outcome, if it has this code
abbrev pub message_of : ℕ → Outcome → List ℕ
message_of code o = message_if (eqb (outcome_number o) code) (outcome_message o)

-- of events performed from a state on, in order
unfoldable pub messages_from : ℕ → State → List Event → List ℕ
messages_from code st [] = []
messages_from code st (v ∷ vs) = message_of code (outcome st v) ++ messages_from code (apply st v) vs

-- code 2 is a fill
pub filled_2 : (o : Outcome) → message_of 2 o ≡ filled_by o
filled_2 Idle = refl
filled_2 Moved = refl
filled_2 (Fill m) = refl
filled_2 (Take m) = refl
filled_2 Sent = refl
filled_2 Got = refl

-- code 3 is a take
pub taken_3 : (o : Outcome) → message_of 3 o ≡ taken_by o
taken_3 Idle = refl
taken_3 Moved = refl
taken_3 (Fill m) = refl
taken_3 (Take m) = refl
taken_3 Sent = refl
taken_3 Got = refl

-- messages told event by event are those of a code, where at each outcome they are
module _ (code : ℕ) (each : Outcome → List ℕ) (same : (o : Outcome) → message_of code o ≡ each o)
    (told : State → List Event → List ℕ) (none : (st : State) → told st [] ≡ [])
    (more : (st : State) (v : Event) (vs : List Event) → told st (v ∷ vs) ≡ each (outcome st v) ++ told (apply st v) vs)
  where
    from_each : (vs : List Event) (st : State) → messages_from code st vs ≡ told st vs
    unfolding messages_from
    from_each [] st = sym (none st)
    from_each (v ∷ vs) st =
        ap₂ (λ (a b : List ℕ). a ++ b) (same (outcome st v)) (from_each vs (apply st v)) ∙ sym (more st v vs)

pub filled_from_lem : (vs : List Event) (st : State) → messages_from 2 st vs ≡ filled_from st vs
unfolding filled_from
filled_from_lem = from_each 2 filled_by filled_2 filled_from (λ _. refl) (λ _ _ _. refl)

pub taken_from_lem : (vs : List Event) (st : State) → messages_from 3 st vs ≡ taken_from st vs
unfolding taken_from
taken_from_lem = from_each 3 taken_by taken_3 taken_from (λ _. refl) (λ _ _ _. refl)

-- what the ledger doesn't record has neither code
pub unrecorded : (code : ℕ) (o : Outcome) → 2 ≤ code → recorded o ≡ false → message_of code o ≡ []
unrecorded code o high left_out =
    let low = leb-false 2 (outcome_number o) left_out in
    rw (ne_eqb (outcome_number o) code (λ same. omega arith))
