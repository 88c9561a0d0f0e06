-- The eight events, each settled at its own process: a put by its parts (Owed), every other event at the stages where
-- it is possible.
use Prim.Native.Nat.{ℕ, ◌+◌, ◌≤◌}
use mathlib.Core.Path.{◌≡◌, refl, ap}
use mathlib.Core.Bool.{true}
use mathlib.Core.Logic.{inl, inr}
use native.Mathlib.Omega.{arith}
use lib.Dec.{eqb, leb}
use borrow.Author.Tests.{eqb-true}
use Rattle.machine.specs.declared.Envelope.{Envelope}
use Rattle.machine.specs.declared.Process.{Process}
use Rattle.machine.specs.Bytes.{bit}
use Rattle.machine.specs.Fields.{Status, for, with_stage}
use Rattle.machine.specs.Stages.{last_stage, told}
use Rattle.machine.specs.Sound.{note_fits, stage_fits}
use Rattle.machine.specs.Events.{idle, start_put, start_get, work, signal, receive, take_request, react}
use Rattle.machine.proofs.Laws.Bits.{bit_off}
use Rattle.machine.proofs.Soundness.Sums.{flags_set, marks_for}
use Rattle.machine.proofs.Soundness.Ways.{by_test, every_code}
use Rattle.machine.proofs.Soundness.Settled.{FitsOf, Fits, Settled, told_each, fits_any, follows, marks_follow}
use Rattle.machine.proofs.Soundness.Settled.{at_stage}
use Rattle.machine.proofs.Soundness.Settled.{had_at, still}
use Rattle.machine.proofs.Soundness.Puts.{put_settled}

module _ (e : Envelope) (p : Process) (fits : Fits e p) where
  -- an event that is not possible
  nothing : Settled e p (idle e p)
  nothing = still e p fits fits (inr refl)

  -- ---- main's events

  -- code 0: stage 0 to 1
  start_put_lem : (message : ℕ) → Settled e p (start_put message e p)
  unfolding start_put
  start_put_lem message =
      by_test (Settled e p) (eqb p.stage 0) _ _
      (λ found.
      let f = at_stage e p fits 0 (eqb-true p.stage 0 found) in
      still e p fits
      (record {
        envelope = f.envelope;
        range = refl;
        marked = marks_follow 0 1 p.mark refl f.marked;
        note_fitting = refl;
        has = refl;
      })
      (inr refl))
      (λ _. nothing)

  -- code 1: stage 0 to 6
  start_get_lem : Settled e p (start_get e p)
  unfolding start_get
  start_get_lem =
      by_test (Settled e p) (eqb p.stage 0) _ _
      (λ found.
      let f = at_stage e p fits 0 (eqb-true p.stage 0 found) in
      still e p fits
      (record {
        envelope = f.envelope;
        range = refl;
        marked = marks_follow 0 6 p.mark refl f.marked;
        note_fitting = f.note_fitting;
        has = refl;
      })
      (inr refl))
      (λ _. nothing)

  -- code 2: stage 3 to 4 and 8 to 9, where the process has the envelope and its status changes
  work_settled : Settled e p (work e p)
  unfolding work
  work_settled =
      by_test (Settled e p) (eqb p.stage 3) _ _
      (λ found.
      let f = at_stage e p fits 3 (eqb-true p.stage 3 found) in
      let had = had_at e p fits 3 (eqb-true p.stage 3 found) refl in
      still e p fits
      (record {
        envelope = refl;
        range = refl;
        marked = marks_follow 3 4 p.mark refl f.marked;
        note_fitting = refl;
        has = rw had;
      })
      (inl had))
      (λ _. by_test (Settled e p) (eqb p.stage 8) _ _
      (λ found.
      let f = at_stage e p fits 8 (eqb-true p.stage 8 found) in
      let had = had_at e p fits 8 (eqb-true p.stage 8 found) refl in
      still e p fits
      (record {
        envelope = refl;
        range = refl;
        marked = marks_follow 8 9 p.mark refl f.marked;
        note_fitting = f.note_fitting;
        has = rw had;
      })
      (inl had))
      (λ _. nothing))

  -- ---- the get thread's events

  -- code 3: 1 to 2, 4 to 5, 6 to 7, 9 to 10
  signal_settled : Settled e p (signal e p)
  unfolding signal
  signal_settled =
      by_test (Settled e p) (told p.stage) _ _ (λ is_told. still e p fits (next is_told) (inr refl)) (λ _. nothing)
    where
      -- what fits at the stage after k
      After : ℕ → Type 0
      After k = FitsOf e.full e.message (k + 1) p.have p.mark p.note

      step : (k : ℕ) → p.stage ≡ k → leb (k + 1) last_stage ≡ true → follows k (k + 1) ≡ true
          → note_fits (with_stage (k + 1) p) ≡ true
          → stage_fits e.full p.have (k + 1) ≡ true
          → After k
      step k here range follow note has =
          record {
            envelope = fits.envelope;
            range = range;
            marked = marks_follow k (k + 1) p.mark follow (at_stage e p fits k here).marked;
            note_fitting = note;
            has = has;
          }

      next : told p.stage ≡ true → After p.stage
      next is_told =
          told_each (λ (k : ℕ). p.stage ≡ k → After k) (λ here. step 1 here refl refl refl refl)
          (λ here. let f = at_stage e p fits 4 here in step 4 here refl refl f.note_fitting f.has)
          (λ here. step 6 here refl refl (at_stage e p fits 6 here).note_fitting refl)
          (λ here. let f = at_stage e p fits 9 here in step 9 here refl refl f.note_fitting f.has) p.stage is_told
          refl

  -- code 4: the arriving flag becomes the have flag, which was off
  receive_settled : flags_set p ≤ 1 → Settled e p (receive e p)
  unfolding receive
  receive_settled alone =
      by_test (Settled e p) p.arriving _ _
      (λ comes.
      let off = bit_off p.have (omega (arith, ap bit comes)) in
      record {
        fits =
            record {
              envelope = fits.envelope;
              range = fits.range;
              marked = fits.marked;
              note_fitting = fits.note_fitting;
              has = fits_any e.full e.full p.have true p.stage off fits.has;
            };
        flags = omega (arith, ap bit off, ap bit comes);
        status = inr refl;
        tally = λ s. refl;
      })
      (λ _. nothing)

  -- codes 5 and 6
  request_settled : (s : Status) → Settled e p (take_request s e p)
  unfolding take_request
  request_settled s =
      by_test (Settled e p) (for p.link s) _ _ (λ _. still e p fits fits (inr refl)) (λ _. nothing)

  -- ---- any event, by its code

  -- a code above 7 is not possible
  pub react_settled : (code message : ℕ) → flags_set p ≤ 1 → ((s : Status) → marks_for s p ≤ for e.marked s)
      → Settled e p (react code message e p)
  react_settled code message alone own =
      every_code (Settled e p) code message e p (start_put_lem message) start_get_lem work_settled signal_settled
      (receive_settled alone) request_settled (put_settled e p fits own) nothing
