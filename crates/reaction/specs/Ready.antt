-- When a process can be marked and unmarked.
use Rattle.std.specs.Prelude.{◌≤◌, ◌<◌, ◌≡◌, true}
use Rattle.machine.specs.declared.Envelope.{Envelope}
use Rattle.machine.specs.declared.Process.{Process}
use Rattle.machine.specs.Fields.{Status, for}

-- neither count is at the end of its byte, and a process that is marked is counted: a sound image's counts can go up
-- and down by one
pub record Ready (e : Envelope) (p : Process) : Type 0 where
  pub room : (s : Status) → for e.marked s < 255
  pub counted : (s : Status) → for p.mark s ≡ true → 1 ≤ for e.marked s
