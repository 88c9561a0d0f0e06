-- The envelope's message and the process's note after an event, and the message that it fills or takes: each is 0, the
-- event's message, or one of the two before, so they stay below 2 ^ 32.
use Prim.Native.Nat.{ℕ, ◌^◌, ◌<◌}
use mathlib.Core.Bool.{not}
use mathlib.Core.Path.{◌≡◌}
use mathlib.Core.Logic.{◌⊎◌, inl, inr}
use lib.Dec.{eqb, lit<}
use Rattle.machine.specs.declared.Envelope.{Envelope}
use Rattle.machine.specs.declared.Process.{Process}
use Rattle.machine.specs.declared.Outcome.{Outcome}
use Rattle.machine.specs.declared.Outcome.TheVariants.{Sent, Got}
use Rattle.machine.specs.declared.Reaction.{Reaction}
use Rattle.machine.specs.Fields.{Status, for}
use Rattle.machine.specs.Stages.{told}
use Rattle.machine.specs.Events.{ask, mark_for, mark, unmark, clear, wanted, leave, set_markers}
use Rattle.machine.specs.Events.{forward, ends, put_at, start_put, start_get, work, signal}
use Rattle.machine.specs.Events.{receive, take_request, put, react}
use Rattle.machine.specs.Run.{outcome_message}
use Rattle.machine.proofs.Soundness.Ways.{choice, every_code}
use Rattle.machine.proofs.Soundness.Parts.{put_keeps}

-- the message and the note of a reaction, and its outcome's message, in range
abbrev pub Small : Reaction → Type 0
Small r =
    (r.envelope.message < 2 ^ 32) × (r.process.note < 2 ^ 32) × (outcome_message r.outcome < 2 ^ 32)

-- ---- the parts of a put touch none of them, and its ends have no message

ask_small : (s : Status) (r : Reaction) → Small r → Small (ask s r)
unfolding ask
ask_small s r v = choice Small (for r.process.itself s) _ _ v v

mark_small : (r : Reaction) → Small r → Small (mark r)
unfolding mark mark_for
mark_small r v = choice Small (for r.process.mark (not r.envelope.full)) _ _ v v

clear_small : (s : Status) (r : Reaction) → Small r → Small (clear s r)
unfolding clear unmark
clear_small s r v = choice Small (for r.process.mark s) _ _ v v

forward_small : (r : Reaction) → Small r → Small (forward r)
unfolding forward set_markers leave
forward_small r v = choice Small (wanted (set_markers r).envelope) _ _ v v

over_small : (o : Outcome) (r : Reaction) → (o ≡ Sent) ⊎ (o ≡ Got) → Small r → Small (ends o r)
unfolding ends
over_small o r (inl e) v = (v.0, v.1, rw e (lit< tt))
over_small o r (inr e) v = (v.0, v.1, rw e (lit< tt))

put_at_small : (stage : ℕ) (r : Reaction) → Small r → Small (put_at stage r)
put_at_small = put_keeps Small ask_small mark_small clear_small forward_small (λ next r v. v) over_small

-- ---- the events

pub react_small : (code message : ℕ) (e : Envelope) (p : Process) → message < 2 ^ 32 → e.message < 2 ^ 32
    → p.note < 2 ^ 32
    → Small (react code message e p)
unfolding start_put start_get work signal receive take_request put
react_small code message e p new old note =
    every_code Small code message e p (choice Small (eqb p.stage 0) _ _ (old, new, lit< tt) v)
    (choice Small (eqb p.stage 0) _ _ v v)
    (choice Small (eqb p.stage 3) _ _ (note, lit< tt, note)
    (choice Small (eqb p.stage 8) _ _ (lit< tt, note, old) v))
    (choice Small (told p.stage) _ _ v v) (choice Small p.arriving _ _ v v)
    (λ s. choice Small (for p.link s) _ _ v v) (choice Small p.news _ _ (put_at_small p.stage _ v) v) v
  where
    v : (e.message < 2 ^ 32) × (p.note < 2 ^ 32) × (0 < 2 ^ 32)
    v = (old, note, lit< tt)
