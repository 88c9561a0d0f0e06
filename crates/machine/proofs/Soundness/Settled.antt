-- What an event owes at its own process, when it is done: the new record and envelope fit again, a flag that goes off
-- leaves with the envelope, the status changes only where the envelope is, and each count changes by just the process's
-- own mark. Shown here of an event that touches no flag and no mark, and of a put from what its parts owe (Owed).
use Prim.Native.Nat.{ℕ, ◌+◌}
use mathlib.Core.Path.{◌≡◌, refl, sym, ap, ◌∙◌, subst}
use mathlib.Core.Bool.{Bool, true, false, not, cond, ◌&&◌, ◌||◌, beq, true≢false}
use mathlib.Core.Logic.{◌⊎◌, inr}
use native.Mathlib.Omega.{arith}
use lib.Dec.{eqb, leb}
use borrow.Author.Tests.{eqb-true}
use Rattle.machine.specs.declared.Pair.{Pair}
use Rattle.machine.specs.declared.Envelope.{Envelope}
use Rattle.machine.specs.declared.Process.{Process}
use Rattle.machine.specs.declared.Outcome.{Outcome}
use Rattle.machine.specs.declared.Reaction.{Reaction}
use Rattle.machine.specs.Bytes.{bit}
use Rattle.machine.specs.Fields.{Status, full, empty, for, holding, process_of}
use Rattle.machine.specs.Stages.{last_stage, plain, told, noted, with_empty, with_full, markable}
use Rattle.machine.specs.Sound.{stage_fits}
use Rattle.machine.specs.Events.{becomes, mark, ends}
use Rattle.machine.proofs.Laws.Lists.{and_first, and_second, or_first, or_second, either_way, follow}
use Rattle.machine.proofs.Soundness.Sums.{flags_set, marks_for}
use Rattle.machine.proofs.Soundness.Owed.{Owed, begun, begun_owed, mark_owed}

-- ---- what fits at one process

-- by the parts of an envelope and a record that a rule of soundness reads
pub record FitsOf (status : Status) (message stage : ℕ) (have : Bool) (marks : Pair Bool) (note : ℕ) : Type 0 where
  pub envelope : status || eqb message 0 ≡ true
  pub range : leb stage last_stage ≡ true
  pub marked : (s : Status) → not (for marks s) || markable s stage ≡ true
  pub note_fitting : noted stage || eqb note 0 ≡ true
  pub has : stage_fits status have stage ≡ true

-- the same by the envelope and the record
abbrev pub Fits : Envelope → Process → Type 0
Fits e p = FitsOf e.full e.message p.stage p.have p.mark p.note

-- what an event at p comes to
pub record Settled (e : Envelope) (p : Process) (r : Reaction) : Type 0 where
  pub fits : Fits r.envelope r.process
  pub flags : flags_set r.process + bit r.leaves ≡ flags_set p
  pub status : (p.have ≡ true) ⊎ (r.envelope.full ≡ e.full)
  pub tally : (s : Status)
      → for r.envelope.marked s + marks_for s p ≡ for e.marked s + marks_for s r.process

-- ---- laws of tests

-- the other of two statuses
pub other_status : (a b : Status) → beq a b ≡ false → not a ≡ b
other_status true true e = absurd (true≢false e)
other_status true false e = refl
other_status false true e = refl
other_status false false e = absurd (true≢false e)

-- a stage that needs the envelope
abbrev pub needs : ℕ → Bool
needs stage = with_empty stage || with_full stage

-- the stage that waits for s: 7 for full, 2 for empty
abbrev pub waits_for : Status → ℕ
waits_for s = cond s 7 2

-- it doesn't need the envelope
pub waiting_free : (s : Status) → needs (waits_for s) ≡ false
waiting_free true = refl
waiting_free false = refl

-- and may be marked for what it waits for
waiting_markable : (s : Status) → markable s (waits_for s) ≡ true
waiting_markable true = refl
waiting_markable false = refl

-- what holds at one stage holds where a test finds it
pub found_at : (P : ℕ → Type 0) (k : ℕ) → P k → (stage : ℕ) → eqb stage k ≡ true → P stage
found_at P k h stage e = subst P (sym (eqb-true stage k e)) h

-- at the stages that the put thread treats alike
pub plain_each : (P : ℕ → Type 0) → P 0 → P 1 → P 6 → (stage : ℕ) → plain stage ≡ true → P stage
plain_each P at_0 at_1 at_6 stage =
    either_way (eqb stage 0 || eqb stage 1) (eqb stage 6)
    (either_way (eqb stage 0) (eqb stage 1) (found_at P 0 at_0 stage) (found_at P 1 at_1 stage))
    (found_at P 6 at_6 stage)

-- and at those at which main has told its get thread
pub told_each : (P : ℕ → Type 0) → P 1 → P 4 → P 6 → P 9 → (stage : ℕ) → told stage ≡ true → P stage
told_each P at_1 at_4 at_6 at_9 stage =
    either_way (eqb stage 1 || eqb stage 4 || eqb stage 6) (eqb stage 9)
    (either_way (eqb stage 1 || eqb stage 4) (eqb stage 6)
    (either_way (eqb stage 1) (eqb stage 4) (found_at P 1 at_1 stage) (found_at P 4 at_4 stage))
    (found_at P 6 at_6 stage))
    (found_at P 9 at_9 stage)

-- they don't need the envelope
pub plain_free : (stage : ℕ) → plain stage ≡ true → needs stage ≡ false
plain_free = plain_each (λ (k : ℕ). needs k ≡ false) refl refl refl

-- a stage that fits without the envelope doesn't need it
without_free : (status : Status) (stage : ℕ) → stage_fits status false stage ≡ true → needs stage ≡ false
without_free status stage = go (with_empty stage) (with_full stage)
  where
    go : (a b : Bool) → (not a || false) && (not b || false) ≡ true → a || b ≡ false
    go true b h = sym h
    go false true h = sym h
    go false false h = refl

-- and one that doesn't need it fits with it and without, whatever the status
free_fits : (status : Status) (have : Bool) (stage : ℕ) → needs stage ≡ false → stage_fits status have stage ≡ true
free_fits status have stage free =
    rw (or_first (with_empty stage) (with_full stage) free, or_second (with_empty stage) (with_full stage) free)

-- so what fits without it fits in any case
pub fits_any : (old new : Status) (had have : Bool) (stage : ℕ) → had ≡ false → stage_fits old had stage ≡ true
    → stage_fits new have stage ≡ true
fits_any old new true have stage off h = absurd (true≢false off)
fits_any old new false have stage off h = free_fits new have stage (without_free old stage h)

-- where only a stage that doesn't need it loses it, what fitted still fits
has_left : (status had leaves : Bool) (stage : ℕ) → (leaves ≡ true → needs stage ≡ false)
    → stage_fits status had stage ≡ true
    → stage_fits status (cond leaves false had) stage ≡ true
has_left status had true stage free h = free_fits status false stage (free refl)
has_left status had false stage free h = h

-- and a stage that needs it has it
needs_had : (status had : Bool) (stage : ℕ) → stage_fits status had stage ≡ true → needs stage ≡ true → had ≡ true
needs_had status true stage h needed = refl
needs_had status false stage h needed = absurd (true≢false (sym needed ∙ without_free status stage h))

-- a have flag that goes off leaves with the envelope
flags_left : (leaves had : Bool) (a : ℕ) → (leaves ≡ true → had ≡ true)
    → bit (cond leaves false had) + a + bit leaves ≡ bit had + a
flags_left true had a h = omega (arith, ap bit (h refl))
flags_left false had a h = omega arith

-- where stage k may have a mark, stage j may have it too
abbrev pub follows : ℕ → ℕ → Bool
follows k j = (not (markable full k) || markable full j) && (not (markable empty k) || markable empty j)

-- so marks that fit k fit j
pub marks_follow : (k j : ℕ) (m : Pair Bool) → follows k j ≡ true
    → ((s : Status) → not (for m s) || markable s k ≡ true)
    → (s : Status) → not (for m s) || markable s j ≡ true
marks_follow k j m f h s = go s (for m s) (h s)
  where
    may : (s : Status) → not (markable s k) || markable s j ≡ true
    may true = and_first _ (not (markable empty k) || markable empty j) f
    may false = and_second (not (markable full k) || markable full j) _ f

    go : (s : Status) (b : Bool) → not b || markable s k ≡ true → not b || markable s j ≡ true
    go s true e = follow (markable s k) (markable s j) (may s) e
    go s false e = refl

-- ---- from what is owed to what fits

module _ (e : Envelope) (p : Process) (fits : Fits e p) where
  -- what fits at a known stage
  pub at_stage : (k : ℕ) → p.stage ≡ k → FitsOf e.full e.message k p.have p.mark p.note
  at_stage k here = subst (λ (n : ℕ). FitsOf e.full e.message n p.have p.mark p.note) here fits

  -- a stage that needs the envelope has it
  pub had_at : (k : ℕ) → p.stage ≡ k → needs k ≡ true → p.have ≡ true
  had_at k here needed =
      needs_had e.full p.have p.stage fits.has (rw here needed)

  -- a process that waits for the status that the envelope hasn't marks for it
  pub mark_waiting : (s : Status) → p.stage ≡ waits_for s → not e.full ≡ s → Owed e p (mark (begun e p))
  unfolding mark
  mark_waiting s here other =
      let may : markable (not e.full) p.stage ≡ true = rw (here, other) (waiting_markable s) in
      mark_owed e p (not e.full) (begun e p) may (begun_owed e p fits.marked)

  -- an event that touches no flag of the envelope's place and no mark
  pub still : {o : Outcome} {status : Status} {message stage : ℕ} {news : Bool} {asked link : Pair Bool} {note : ℕ}
      → FitsOf status message stage p.have p.mark note
      → (p.have ≡ true) ⊎ (status ≡ e.full)
      → Settled e p (becomes o (holding status message e)
      (process_of stage p.have p.arriving news asked p.itself p.mark link note))
  still fit same = record { fits = fit; flags = omega arith; status = same; tally = λ s. refl }

  -- the end of a put's parts, where the envelope leaves only a stage that doesn't need it
  pub settle : (r : Reaction) → Owed e p r → (r.leaves ≡ true → needs p.stage ≡ false) → Settled e p r
  settle r o free =
      record {
        fits =
            record {
              envelope = rw (o.status_same, o.message_same) fits.envelope;
              range = rw o.stage_same fits.range;
              marked = o.marks_fit;
              note_fitting = rw (o.stage_same, o.note_same) fits.note_fitting;
              has =
                  rw (o.status_same, o.stage_same, o.have_left)
                  (has_left e.full p.have r.leaves p.stage free fits.has);
            };
        flags =
            rw (o.have_left, o.arriving_same) (flags_left r.leaves p.have (bit p.arriving) o.leaving);
        status = inr o.status_same;
        tally = o.tally;
      }

  -- a put or a get that ends, with no mark and no note left
  pub settle_end : (o : Outcome) (r : Reaction) → Owed e p r → ((s : Status) → for r.process.mark s ≡ false)
      → eqb p.note 0 ≡ true
      → Settled e p (ends o r)
  unfolding ends
  settle_end o r owed unmarked blank_note =
      record {
        fits =
            record {
              envelope = rw (owed.status_same, owed.message_same) fits.envelope;
              range = refl;
              marked = λ s. ap (λ (b : Bool). not b || markable s 0) (unmarked s);
              note_fitting = rw owed.note_same blank_note;
              has = refl;
            };
        flags =
            rw (owed.have_left, owed.arriving_same)
            (flags_left r.leaves p.have (bit p.arriving) owed.leaving);
        status = inr owed.status_same;
        tally = owed.tally;
      }
