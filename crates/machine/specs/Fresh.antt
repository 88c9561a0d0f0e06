-- The fresh ring: document 01, "The image", its last sentence.
use Rattle.std.specs.Prelude.{ℕ, true, set, replicate}
use Rattle.machine.specs.declared.Envelope.{Envelope}
use Rattle.machine.specs.Fields.{empty, none, blank, with_have}
use Rattle.machine.specs.Image.{State}

-- empty, with nothing wanted and nobody marked
abbrev pub fresh_envelope : Envelope
fresh_envelope = record { full = empty; marker = none; marked = record { full = 0; empty = 0 }; message = 0 }

-- all zero, but the home process has the envelope
unfoldable pub fresh_state : ℕ → ℕ → State
fresh_state n home =
    record { envelope = fresh_envelope; processes = set (replicate n blank) home (with_have true blank) }
