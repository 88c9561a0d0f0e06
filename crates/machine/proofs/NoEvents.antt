-- No bytes are a tape of no events, and a list of none: document 02, A.2. What is tested of them is a row of no tests,
-- so nothing refuses them; what is written for them is nothing, so every buffer has room and keeps its bytes; and an
-- accepted image, read and written back, is the same image.
use Rattle.std.specs.Prelude.{Ok}
use Prim.Native.Nat.{ℕ}
use mathlib.Core.Path.{◌≡◌, refl}
use mathlib.Core.Bool.{Bool, true}
use mathlib.Core.List.{List, [], ◌∷◌}
use native.Mathlib.Omega.{arith}
use lib.ListN.{length}
use borrow.Author.Tests.{le-leb}
use Rattle.machine.specs.Bytes.{Bytes}
use Rattle.machine.specs.Tape.{list_bytes}
use Rattle.machine.specs.Refusals.{first, size_verdict, home_verdict, seed_verdict, image_verdict, length_verdict}
use Rattle.machine.specs.Refusals.{count_verdict, list_verdict, tape_verdict, output_verdict}
use Rattle.machine.specs.Answers.{answer, run_events, run_records, run_verdict, run_answer, run_image, run_ledger}
use Rattle.machine.specs.Answers.{write_verdict, write_answer, write_output, read_verdict, read_answer, read_output}
use Rattle.machine.specs.Load.{load_events, load_tape, load_verdict, load_answer, load_output}
use Rattle.machine.specs.Text.{text}
use Rattle.machine.specs.Report.{report_verdict, report_text}
use Rattle.machine.proofs.Image.Fresh.{fresh_stopped}
use Rattle.machine.proofs.Runs.{none_left}
use Rattle.machine.proofs.Cases.Computed.{of_bytes, of_lists, of_run, of_tape, of_run_call, of_report}

-- what a tape and a list of no bytes compute by; the value means nothing, as in Computed
unfoldable of_nothing : Bool
unfolding of_bytes of_lists of_tape first length_verdict list_verdict tape_verdict
of_nothing = true

-- every buffer has room for nothing
room : (output : List ℕ) → output_verdict 0 output ≡ Ok tt
unfolding output_verdict
room output = rw (le-leb 0 (length output) (omega arith))

module _ (n : ℕ) (size : size_verdict n ≡ Ok tt) where
  write_fine : (output : List ℕ) → write_verdict n [] output ≡ Ok tt
  unfolding of_nothing write_verdict
  write_fine output = rw size (room output)

  read_fine : (output : List ℕ) → read_verdict n [] output ≡ Ok tt
  unfolding of_nothing read_verdict
  read_fine output = rw size (room output)

  -- writer and reader turn nothing into nothing, whatever the output
  pub nothing_taped : (output : List ℕ)
      → (write_answer n [] output ≡ answer (Ok tt) (0 ∷ []))
      × (write_output n [] output ≡ output)
      × (read_answer n [] output ≡ answer (Ok tt) (0 ∷ []))
      × (read_output n [] output ≡ output)
  unfolding of_nothing write_answer write_output read_answer read_output
  nothing_taped output = rw (write_fine output, read_fine output) (refl, refl, refl, refl)

  load_fine : (seed : ℕ) → seed_verdict seed ≡ Ok tt → (output : List ℕ) → load_verdict n seed 0 output ≡ Ok tt
  unfolding of_nothing list_bytes load_events load_tape count_verdict load_verdict
  load_fine seed from output = rw (size, from) (room output)

  -- a load of no events is that tape
  pub nothing_loaded : (seed : ℕ) → seed_verdict seed ≡ Ok tt → (output : List ℕ)
      → (load_answer n seed 0 output ≡ answer (Ok tt) (0 ∷ [])) × (load_output n seed 0 output ≡ output)
  unfolding of_nothing list_bytes load_events load_tape load_answer load_output
  nothing_loaded seed from output = rw (load_fine seed from output) (refl, refl)

  -- and for N and home alone ringrun prints the counts of none, on every ring
  pub nothing_printed : (home : ℕ) → home_verdict n home ≡ Ok tt
      → report_text (n ∷ home ∷ []) ≡ text "puts 0 gets 0 fills 0 takes 0 sent 0 got 0 idle 0\nstopped\n"
  unfolding of_nothing of_run of_run_call of_report
  nothing_printed home below = rw (size, below, fresh_stopped n home) refl

-- N alone is N and home 0
pub home_missing : (n : ℕ) → report_text (n ∷ []) ≡ report_text (n ∷ 0 ∷ [])
unfolding report_verdict report_text
home_missing n = refl

-- a run of it, on every accepted image and with every ledger: eight counts of 0, no traffic, and both as they were
module _ (image ledger : List ℕ) (fine : image_verdict image ≡ Ok tt) where
  run_fine : run_verdict image [] ledger ≡ Ok tt
  unfolding of_nothing of_run of_run_call
  run_fine = rw fine (room ledger)

  pub nothing_run : Bytes image
      → (run_answer image [] ledger ≡ answer (Ok tt) (0 ∷ 0 ∷ 0 ∷ 0 ∷ 0 ∷ 0 ∷ 0 ∷ 0 ∷ 0 ∷ 0 ∷ []))
      × (run_image image [] ledger ≡ image)
      × (run_ledger image [] ledger ≡ ledger)
  unfolding of_nothing of_run run_events run_records run_answer run_image run_ledger
  nothing_run small = rw run_fine (refl, none_left image fine small, refl)
