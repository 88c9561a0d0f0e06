-- Each way through the run call is that way through the rule. The answers of lower functions are variables here, each
-- with the rule's value that it is known to be.
use Rattle.std.specs.Prelude.{Err, Ok}
use Prim.Native.Nat.{ℕ, ◌/◌, ◌≤◌}
use mathlib.Core.Path.{◌≡◌, sym, ◌∙◌}
use mathlib.Core.Bool.{Bool, true, false}
use mathlib.Core.List.{List, [], ◌++◌}
use native.Mathlib.Omega.{arith}
use lib.ListN.{length}
use lib.Dec.{leb}
use borrow.Author.Tests.{leb-true, leb-false}
use Rattle.machine.specs.declared.Refusal.{Refusal}
use Rattle.machine.specs.declared.Refusal.TheVariants as refusal
use Rattle.machine.specs.Verdict.{Verdict}
use Rattle.machine.specs.Image.{size_in, state_in, image_with}
use Rattle.machine.specs.Run.{count_values, after}
use Rattle.machine.specs.Traffic.{traffic_values}
use Rattle.machine.specs.Refusals.{or_else, codes, image_verdict, tape_verdict}
use Rattle.machine.specs.Answers.{Answer, answer, run_records, run_verdict, run_answer, run_image, run_ledger}
use Rattle.machine.proofs.Laws.Refusals.{first_fine, second_fine, inputs_refuse, output_refuses, all_fine}
use Rattle.tape_test.specs.Accepted.{events_on, Accepted}
use Rattle.tape_test.proofs.Blocks.{tape_fine}
use Rattle.tape_test.proofs.Lengths.{events_ranged}
use Rattle.replay.specs.declared.Played.{Played}
use Rattle.replay.specs.Playable.{Playable, Tells, Recorded, first_events, first_records}
use Rattle.replay.proofs.First.{all_events, all_records}

module _ (s tape ledger : List ℕ) where
  -- what the contract says of an answer and both buffers
  abbrev Meets : Answer → List ℕ → List ℕ → Type 0
  Meets a image records =
      (a ≡ run_answer s tape ledger) × ((image ≡ run_image s tape ledger) × (records ≡ run_ledger s tape ledger))

  -- a refusal by the rule's verdict
  refused : (r : Refusal) → run_verdict s tape ledger ≡ Err r
      → Meets (answer (Err r) []) s ledger
  unfolding run_answer run_image run_ledger
  refused r is = (rw is, (rw is, rw is))

  -- the inputs' verdict
  abbrev given : Verdict
  given = or_else (image_verdict s) (tape_verdict codes (size_in s) tape)

  pub run_refused : {r : Refusal} → given ≡ Err r → Meets (answer (Err r) []) s ledger
  unfolding run_verdict
  run_refused e =
      refused _
      (inputs_refuse (image_verdict s) (tape_verdict codes (size_in s) tape) (length (run_records s tape)) ledger e)

  module _ (fine : given ≡ Ok tt) where
    accepted : tape_verdict codes (size_in s) tape ≡ Ok tt
    accepted = second_fine (image_verdict s) _ fine

    pub run_accepted : Accepted tape
    run_accepted = record { codes = codes; n = size_in s; fine = accepted }

    -- an accepted tape has an event in each block
    pub block_events : length tape / 512 ≤ events_on tape
    block_events = omega (arith, (events_ranged tape (tape_fine codes (size_in s) tape accepted)).least)

    pub playable : {events : ℕ} → events ≤ events_on tape → Playable s tape events
    playable some =
        record { image_fine = first_fine (image_verdict s) _ fine; tape_fine = accepted; so_many = some }

    -- as many events as are on the tape: all of them, and all of their records
    module _ {events : ℕ} (all : events ≡ events_on tape) {room : Bool}
        (told : room ≡ leb (length (first_records s tape events)) (length ledger)) where
      measured : room ≡ leb (length (run_records s tape)) (length ledger)
      measured = rw (all_records tape all s) at told

      pub ledger_refused : room ≡ false → Meets (answer (Err refusal.Output) []) s ledger
      unfolding run_verdict
      ledger_refused short =
          refused refusal.Output
          (output_refuses (image_verdict s) (tape_verdict codes (size_in s) tape) _ ledger fine
          (leb-false _ _ (sym measured ∙ short)))

      pub run_done : room ≡ true → {p : Played} {image records : List ℕ}
          → Tells (state_in s) (first_events tape events) p
          → image ≡ image_with s (after (state_in s) (first_events tape events))
          → Recorded (first_records s tape events) ledger records
          → Meets (answer (Ok tt) (count_values p.counts ++ traffic_values p.traffic)) image records
      unfolding run_answer run_image run_ledger run_verdict
      run_done enough came_to wrote entered =
          let fits = leb-true _ _ (sym measured ∙ enough) in
          let is =
          all_fine (image_verdict s) (tape_verdict codes (size_in s) tape) (length (run_records s tape)) ledger fine
          fits in
          let every = all_events tape all in
          let records = all_records tape all s in (
            rw (came_to.counts, came_to.traffic, every, is),
            (wrote ∙ rw (every, is), (rw records at entered) fits ∙ rw is),
          )

-- what is known of inputs that are accepted
pub ruleset when_accepted = (run_accepted, block_events, playable)
