-- The values that a step tells, in document 01's order, and an outcome read off a record.
use Rattle.std.specs.Prelude.{ℕ, cond, List, ◌++◌, eqb}
use Rattle.machine.specs.declared.Outcome.{Outcome}
use Rattle.machine.specs.declared.Outcome.TheVariants.{Idle, Moved, Fill, Take, Sent, Got}
use Rattle.machine.specs.Traffic.{traffic_values}
use Rattle.machine.specs.Answers.{outcome_values}
use Rattle.step.specs.declared.Stepped.{Stepped}

-- the outcome's number and message, then the traffic
abbrev pub values_of : Stepped → List ℕ
values_of s = outcome_values s.outcome ++ traffic_values s.traffic

-- an outcome by how often it was idle, and by the code and message of its record: code 0 where it has none
abbrev pub outcome_read : ℕ → ℕ → ℕ → Outcome
outcome_read idle code message =
    cond (eqb idle 1) Idle
    (cond (eqb code 2) (Fill message)
    (cond (eqb code 3) (Take message)
    (cond (eqb code 4) Sent
    (cond (eqb code 5) Got
    Moved))))
