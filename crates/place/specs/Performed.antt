-- What must be known before a reaction is written and before an event is performed, and what is then so.
use Rattle.std.specs.Prelude.{ℕ, ◌+◌, ◌%◌, ◌^◌, ◌<◌, ◌≡◌, cond, List, Ok}
use Rattle.machine.specs.declared.Outcome.{Outcome}
use Rattle.machine.specs.Image.{State, size_in, state_in}
use Rattle.machine.specs.Events as rule
use Rattle.machine.specs.Stopped.{is_idle}
use Rattle.machine.specs.Traffic.{traffic}
use Rattle.machine.specs.Refusals.{image_verdict}
use Rattle.reaction.specs.declared.Reaction.{Reaction}
use Rattle.reaction.specs.Reaction.{shown, Fits, traffic_word}
use Rattle.event.specs.declared.Event.{Event}
use Rattle.event.specs.Parsed.{ruled}
use Rattle.event.specs.Rows.{started_by}
use Rattle.place.specs.declared.Done.{Done}

-- ---- a reaction written

-- an accepted image of n processes, and a reaction at one of them whose header keeps N
pub record Placeable (s : List ℕ) (n i : ℕ) (r : Reaction) : Type 0 where
  pub fine : image_verdict s ≡ Ok tt
  pub size : n ≡ size_in s
  pub below : i < n
  pub fits : Fits r
  pub kept : r.header.word % 256 ≡ size_in s

-- the state with the reaction placed on it by the rule
abbrev pub placed : List ℕ → ℕ → Reaction → State
placed s i r =
    record {
      envelope = (shown r).envelope;
      processes = rule.place (state_in s).processes i (shown r);
    }

-- ---- an event performed

-- an accepted image, and one of the eight events at a process of it
pub record Performable (s : List ℕ) (event : Event) : Type 0 where
  pub fine : image_verdict s ≡ Ok tt
  pub below : event.process < size_in s
  pub code : event.code < 8
  pub message : event.message < 2 ^ 32
  pub silent : (event.code ≡ 0 → ⊥) → event.message ≡ 0

-- what an event counts as started: an idle one nothing
abbrev pub started_as : ℕ → Outcome → ℕ
started_as code o = cond (is_idle o) 0 (started_by code)

-- the outcome is the rule's, and a start and the traffic count
pub record Performed (s : List ℕ) (event : Event) (r : Done) : Type 0 where
  pub said : r.outcome ≡ rule.outcome (state_in s) (ruled event)
  pub counts : r.counted
      ≡ started_as event.code r.outcome + traffic_word (traffic (state_in s) (ruled event))
