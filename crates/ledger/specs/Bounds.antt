-- A bound on all eight counts of a run: after k events no count is above k.
use Rattle.std.specs.Prelude.{ℕ, ◌≤◌}
use Rattle.machine.specs.declared.Counts.{Counts}

-- no count is above k
pub record NoneAbove (k : ℕ) (c : Counts) : Type 0 where
  pub puts : c.puts ≤ k
  pub gets : c.gets ≤ k
  pub fills : c.fills ≤ k
  pub takes : c.takes ≤ k
  pub sent : c.sent ≤ k
  pub got : c.got ≤ k
  pub idle : c.idle ≤ k
  pub records : c.records ≤ k
