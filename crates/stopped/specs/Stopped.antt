-- What the stopped call's walk finds out by the rule.
use Rattle.std.specs.Prelude.{ℕ, ◌≡◌, Bool, List}
use Rattle.machine.specs.declared.Envelope.{Envelope}
use Rattle.machine.specs.Lists.{all}
use Rattle.machine.specs.Image.{processes_in}
use Rattle.machine.specs.Stopped.{quiet}

-- b says whether events 2 to 7 are idle at the first n processes of an image, whatever the envelope
abbrev pub QuietAre : List ℕ → ℕ → Bool → Type 0
QuietAre s n b = (e : Envelope) → b ≡ all (quiet e) (processes_in s n)
