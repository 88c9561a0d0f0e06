-- The refusal that a verdict comes to. Document 01, "Where a call is turned down", and "The tape" for a result slice
-- that is too short: a call's own tests come first, and 10 last.
use Rattle.std.specs.Prelude.{Err, Ok}
use Rattle.machine.specs.declared.Refusal.{Refusal}
use Rattle.machine.specs.declared.Refusal.TheVariants as refusal
use Rattle.machine.specs.Verdict.{Verdict}

-- the tests' own, or 10
abbrev pub refusal_of : Verdict → Refusal
refusal_of (Ok _) = refusal.Output
refusal_of (Err r) = r
