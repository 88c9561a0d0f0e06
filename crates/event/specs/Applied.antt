-- What must be known before an event is applied, and what then comes of it.
use Rattle.std.specs.Prelude.{ℕ, ◌%◌, ◌^◌, ◌≤◌, ◌<◌, ◌≡◌, false, cond, eqb}
use Rattle.machine.specs.declared.Envelope.{Envelope}
use Rattle.machine.specs.declared.Process.{Process}
use Rattle.machine.specs.declared.Outcome.TheVariants.{Fill, Take}
use Rattle.machine.specs.Fields.{full, empty, holding, with_note}
use Rattle.machine.specs.Events as rule
use Rattle.machine.specs.Stopped.{is_idle}
use Rattle.record.specs.declared.process.Record.{Record}
use Rattle.record.specs.declared.header.Header.{Header}
use Rattle.record.specs.Words.{stage_of, shown_process, shown_envelope, Tidy, TidyHeader}
use Rattle.reaction.specs.declared.Reaction.{Reaction}
use Rattle.reaction.specs.Reaction.{Ruled, shown, Fits}
use Rattle.reaction.specs.Ready.{Ready}
use Rattle.event.specs.declared.Event.{Event}

-- ---- main's work, at the stage that comes after it

abbrev pub worked : Envelope → Process → Ruled
worked e p =
    cond (eqb p.stage 4) (rule.becomes (Fill p.note) (holding full p.note e) (with_note 0 p))
    (rule.becomes (Take e.message) (holding empty 0 e) p)

-- ---- the whole event

-- one of the eight events, which is possible at a process with this record
pub record Applicable (v : Event) (header : Header) (own : Record) : Type 0 where
  pub code : v.code < 8
  pub message : v.message < 2 ^ 32
  pub silent : (v.code ≡ 0 → ⊥) → v.message ≡ 0
  pub stage : stage_of own.word ≤ 10
  pub tidy : Tidy own.word
  pub header_tidy : TidyHeader header
  pub ready : Ready (shown_envelope header) (shown_process own.word)
  pub moves :
      is_idle (rule.react v.code v.message (shown_envelope header) (shown_process own.word)).outcome ≡ false

-- r is the rule's reaction, N stays, and so many count as started
pub record Reacts (ruled : Ruled) (header : Header) (started : ℕ) (r : Reaction) : Type 0 where
  pub shows : shown r ≡ ruled
  pub fits : Fits r
  pub size : r.header.word % 256 ≡ header.word % 256
  pub counts : r.started ≡ started
