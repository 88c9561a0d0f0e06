-- What every part of a put owes: the stage, the note, the status and the message stay as they were; the have flag goes
-- only where the envelope leaves, which only a process that has it lets go; the marks fit the stage; and each count
-- changes by just the process's own mark. It holds of the reaction so far, part by part.
use Prim.Native.Nat.{ℕ, zero, suc, pred, ◌+◌, ◌≤◌}
use mathlib.Core.Path.{◌≡◌, refl, sym, ap, subst, ◌∙◌}
use mathlib.Core.Bool.{Bool, true, false, not, cond, ◌||◌, false≢true}
use native.Mathlib.Omega.{arith}
use Rattle.machine.specs.declared.Pair.{Pair}
use Rattle.machine.specs.declared.Envelope.{Envelope}
use Rattle.machine.specs.declared.Process.{Process}
use Rattle.machine.specs.declared.Reaction.{Reaction}
use Rattle.machine.specs.declared.Outcome.TheVariants.{Moved}
use Rattle.machine.specs.Bytes.{bit}
use Rattle.machine.specs.Fields.{Status, for, with, with_news, with_mark, with_marked}
use Rattle.machine.specs.Stages.{markable}
use Rattle.machine.specs.Events.{becomes, changed, ask, pass, mark_for, unmark, clear, wanted, leave}
use Rattle.machine.specs.Events.{set_markers}
use Rattle.machine.specs.Events.{forward}
use Rattle.machine.proofs.Soundness.Ways.{by_test, pass_keeps}
use Rattle.machine.proofs.Soundness.Sums.{marks_for}

-- ---- a mark set or taken away, with its count

-- one less, and one more again
pred_less : (n : ℕ) → 1 ≤ n → suc (pred n) ≡ n
pred_less zero h = absurd (omega arith)
pred_less (suc n) h = refl

-- each count changes by just the mark; a and b are the mark and the count that a put began with
module _ (c : Pair ℕ) (m : Pair Bool) (a b : ℕ) where
  mark_tally : (s t : Status) → for m s ≡ false → for c t + a ≡ b + bit (for m t)
      → for (with c s (suc (for c s))) t + a ≡ b + bit (for (with m s true) t)
  mark_tally true true off e = omega (arith, ap bit off, e)
  mark_tally true false off e = e
  mark_tally false true off e = e
  mark_tally false false off e = omega (arith, ap bit off, e)

  unmark_tally : (s t : Status) → for m s ≡ true → 1 ≤ for c s → for c t + a ≡ b + bit (for m t)
      → for (with c s (pred (for c s))) t + a ≡ b + bit (for (with m s false) t)
  unmark_tally true true on h e = omega (arith, ap bit on, e, pred_less c.full h)
  unmark_tally true false on h e = e
  unmark_tally false true on h e = e
  unmark_tally false false on h e = omega (arith, ap bit on, e, pred_less c.empty h)

-- and the marks fit the stage
module _ (m : Pair Bool) (stage : ℕ) where
  mark_stays : (s t : Status) → markable s stage ≡ true → not (for m t) || markable t stage ≡ true
      → not (for (with m s true) t) || markable t stage ≡ true
  mark_stays true true may e = may
  mark_stays true false may e = e
  mark_stays false true may e = e
  mark_stays false false may e = may

  unmark_stays : (s t : Status) → not (for m t) || markable t stage ≡ true
      → not (for (with m s false) t) || markable t stage ≡ true
  unmark_stays true true e = refl
  unmark_stays true false e = e
  unmark_stays false true e = e
  unmark_stays false false e = refl

-- ---- what is owed

-- by the parts of a reaction that a rule of soundness reads; e and p are what the put began with
pub record OwedOf (e : Envelope) (p : Process) (status : Status) (message stage note : ℕ) (have arriving leaves : Bool)
    (marked : Pair ℕ) (marks : Pair Bool) : Type 0 where
  pub status_same : status ≡ e.full
  pub message_same : message ≡ e.message
  pub stage_same : stage ≡ p.stage
  pub note_same : note ≡ p.note
  pub arriving_same : arriving ≡ p.arriving
  pub have_left : have ≡ cond leaves false p.have
  pub leaving : leaves ≡ true → p.have ≡ true
  pub marks_fit : (s : Status) → not (for marks s) || markable s stage ≡ true
  pub tally : (s : Status) → for marked s + marks_for s p ≡ for e.marked s + bit (for marks s)

-- the same by the reaction
abbrev pub Owed : Envelope → Process → Reaction → Type 0
Owed e p r =
    OwedOf e p r.envelope.full r.envelope.message r.process.stage r.process.note r.process.have
    r.process.arriving r.leaves r.envelope.marked r.process.mark

-- ---- part by part

-- a mark for s that isn't there yet is set, and counted
abbrev marking : Status → Reaction → Reaction
marking s r =
    changed r (with_marked (with r.envelope.marked s (suc (for r.envelope.marked s))) r.envelope)
    (with_mark (with r.process.mark s true) r.process)

mark_counts : (s : Status) (r : Reaction) → for r.process.mark s ≡ false → mark_for s r ≡ marking s r
unfolding mark_for
mark_counts s r off = rw off

-- and one that is there is left alone
mark_again : (s : Status) (r : Reaction) → for r.process.mark s ≡ true → mark_for s r ≡ r
unfolding mark_for
mark_again s r on = rw on

-- a put begins with its news cleared
abbrev pub begun : Envelope → Process → Reaction
begun e p = becomes Moved e (with_news false p)

-- and owes what its marks owe
pub begun_owed : (e : Envelope) (p : Process) → ((s : Status) → not (for p.mark s) || markable s p.stage ≡ true)
    → Owed e p (begun e p)
begun_owed e p marks =
    record {
      status_same = refl;
      message_same = refl;
      stage_same = refl;
      note_same = refl;
      arriving_same = refl;
      have_left = refl;
      leaving = λ left. absurd (false≢true left);
      marks_fit = marks;
      tally = λ s. refl;
    }

module _ (e : Envelope) (p : Process) where
  pub ask_owed : (s : Status) (r : Reaction) → Owed e p r → Owed e p (ask s r)
  unfolding ask
  ask_owed s r o = by_test (Owed e p) (for r.process.itself s) _ _ (λ _. o) (λ _. o)

  pub pass_owed : (r : Reaction) → Owed e p r → Owed e p (pass r)
  pass_owed = pass_keeps (Owed e p) ask_owed

  pub mark_owed : (s : Status) (r : Reaction) → markable s r.process.stage ≡ true → Owed e p r
      → Owed e p (mark_for s r)
  mark_owed s r may o = go (for r.process.mark s) refl
    where
      go : (b : Bool) → for r.process.mark s ≡ b → Owed e p (mark_for s r)
      go true on = subst (Owed e p) (sym (mark_again s r on)) o
      go false off =
          subst (Owed e p) (sym (mark_counts s r off))
          (record {
            status_same = o.status_same;
            message_same = o.message_same;
            stage_same = o.stage_same;
            note_same = o.note_same;
            arriving_same = o.arriving_same;
            have_left = o.have_left;
            leaving = o.leaving;
            marks_fit = λ t. mark_stays r.process.mark r.process.stage s t may (o.marks_fit t);
            tally = λ t. mark_tally r.envelope.marked r.process.mark _ _ s t off (o.tally t);
          })

  leave_owed : (r : Reaction) → p.have ≡ true → Owed e p r → Owed e p (leave r)
  unfolding leave
  leave_owed r had o =
      record {
        status_same = o.status_same;
        message_same = o.message_same;
        stage_same = o.stage_same;
        note_same = o.note_same;
        arriving_same = o.arriving_same;
        have_left = refl;
        leaving = λ _. had;
        marks_fit = o.marks_fit;
        tally = o.tally;
      }

  pub forward_owed : (r : Reaction) → p.have ≡ true → Owed e p r → Owed e p (forward r)
  unfolding forward set_markers
  forward_owed r had o =
      by_test (Owed e p) (wanted (set_markers r).envelope) _ _ (λ _. leave_owed (set_markers r) had o) (λ _. o)

  -- the count is at least the process's own mark, so there is one to take away
  module _ (own : (s : Status) → marks_for s p ≤ for e.marked s) where
    unmark_owed : (s : Status) (r : Reaction) → Owed e p r → Owed e p (unmark s r)
    unfolding unmark
    unmark_owed s r o =
        by_test (Owed e p) (for r.process.mark s) _ _
        (λ on.
        let some : 1 ≤ for r.envelope.marked s = omega (arith, ap bit on, o.tally s, own s) in
        record {
          status_same = o.status_same;
          message_same = o.message_same;
          stage_same = o.stage_same;
          note_same = o.note_same;
          arriving_same = o.arriving_same;
          have_left = o.have_left;
          leaving = o.leaving;
          marks_fit = λ t. unmark_stays r.process.mark r.process.stage s t (o.marks_fit t);
          tally = λ t. unmark_tally r.envelope.marked r.process.mark _ _ s t on some (o.tally t);
        })
        (λ _. o)

    pub clear_owed : (s : Status) (r : Reaction) → Owed e p r → Owed e p (clear s r)
    unfolding clear
    clear_owed s r o = unmark_owed s _ o

-- ---- what becomes of the have flag

module _ (e : Envelope) (p : Process) (r : Reaction) (o : Owed e p r) where
  -- it is off where it was off
  pub off_stays : p.have ≡ false → r.process.have ≡ false
  off_stays off = o.have_left ∙ ap (cond r.leaves false) off ∙ either_off r.leaves
    where
      either_off : (b : Bool) → cond b false false ≡ false
      either_off true = refl
      either_off false = refl

  -- and where the envelope left
  pub off_left : r.leaves ≡ true → r.process.have ≡ false
  off_left left = o.have_left ∙ ap (λ (b : Bool). cond b false p.have) left

-- ---- what becomes of the marks

-- a forward keeps them
pub forward_mark : (r : Reaction) → (forward r).process.mark ≡ r.process.mark
unfolding forward set_markers leave
forward_mark r =
    by_test (λ (t : Reaction). t.process.mark ≡ r.process.mark) (wanted (set_markers r).envelope) _ _ (λ _. refl)
    (λ _. refl)

-- a clear for s takes the mark for s away
cleared_off : (s : Status) (m : Pair Bool) → for (with m s false) s ≡ false
cleared_off true m = refl
cleared_off false m = refl

pub clear_mark : (s : Status) (r : Reaction) → for (clear s r).process.mark s ≡ false
unfolding clear unmark
clear_mark s r =
    by_test (λ (t : Reaction). for t.process.mark s ≡ false) (for r.process.mark s) _ _
    (λ _. cleared_off s r.process.mark) (λ off. off)
