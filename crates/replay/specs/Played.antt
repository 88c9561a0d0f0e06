-- The values that a run tells, in document 01's order.
use Rattle.std.specs.Prelude.{ℕ, List, ◌++◌}
use Rattle.machine.specs.Run.{count_values}
use Rattle.machine.specs.Traffic.{traffic_values}
use Rattle.replay.specs.declared.Played.{Played}

-- the eight counts in their order, then the traffic
abbrev pub values_of : Played → List ℕ
values_of p = count_values p.counts ++ traffic_values p.traffic
