-- The round trips of the calls: what the writer filled, the reader gives back, and the other way round. Each call's
-- tests are those of the size, of its input and of the room, so an accepted first call makes the second one accepted
-- wherever there is room; and a tape damaged between them is refused.
use Rattle.std.specs.Prelude.{Err, Ok}
use Prim.Native.Nat.{ℕ, ◌/◌, ◌≤◌, ◌<◌}
use mathlib.Core.Path.{◌≡◌, refl}
use mathlib.Core.List.{List, [], ◌∷◌}
use native.Mathlib.Omega.{arith}
use lib.ListN.{length, get_or, set, take}
use Rattle.machine.specs.declared.Refusal.TheVariants as refusal
use Rattle.machine.specs.Verdict.{Verdict}
use Rattle.machine.specs.Bytes.{splice, Bytes}
use Rattle.machine.specs.Tape.{list_of, tape_of}
use Rattle.machine.specs.Refusals.{or_else, codes, size_verdict, list_verdict, tape_verdict, output_verdict}
use Rattle.machine.specs.Answers.{answer, write_verdict, write_answer, write_output, read_verdict, read_answer}
use Rattle.machine.specs.Answers.{read_output}
use Rattle.machine.proofs.Laws.Refusals.{first_fine, second_fine, in_turn, all_fine}
use Rattle.machine.proofs.Laws.Splices.{part_written}
use Rattle.tape.proofs.Round.{written_accepted, read_written, read_accepted, written_read}
use Rattle.tape.proofs.Damage.{one_byte}

module _ (n : ℕ) (input : Verdict) (needed : ℕ) (output : List ℕ) where
  -- what accepted tests say, and what makes them accept
  size_fine : in_turn (size_verdict n) input needed output ≡ Ok tt → size_verdict n ≡ Ok tt
  size_fine e = first_fine (size_verdict n) (or_else input (output_verdict needed output)) e

  input_fine : in_turn (size_verdict n) input needed output ≡ Ok tt → input ≡ Ok tt
  input_fine e =
      let room = output_verdict needed output in
      first_fine input room (second_fine (size_verdict n) (or_else input room) e)

  tests_fine : size_verdict n ≡ Ok tt → input ≡ Ok tt → needed ≤ length output
      → in_turn (size_verdict n) input needed output ≡ Ok tt
  tests_fine size accepted room = all_fine (size_verdict n) input needed output (rw (size, accepted)) room

-- ---- the writer, then the reader

module _ (n : ℕ) (list output back : List ℕ) (fine : write_verdict n list output ≡ Ok tt) where
  -- the bytes that the writer filled
  filled_tape : take (length (tape_of list)) (write_output n list output) ≡ tape_of list
  unfolding write_output
  filled_tape = rw fine (part_written output 0 (tape_of list) (omega arith))

  pub write_then_read : length list ≤ length back
      → (read_answer n (take (length (tape_of list)) (write_output n list output)) back
      ≡ answer (Ok tt) (length list ∷ []))
      × (read_output n (take (length (tape_of list)) (write_output n list output)) back ≡ splice back 0 list)
  unfolding write_verdict read_verdict read_answer read_output
  write_then_read room =
      let accepted = input_fine n (list_verdict codes n list) (length (tape_of list)) output fine in
      let size = size_fine n (list_verdict codes n list) (length (tape_of list)) output fine in
      let again = written_accepted codes n list accepted in
      let read = tests_fine n (tape_verdict codes n (tape_of list)) (length list) back size again room in
      rw (filled_tape, read_written codes n list accepted, read) (refl, refl)

-- ---- the reader, then the writer

module _ (n : ℕ) (tape output back : List ℕ) (small : Bytes tape) (fine : read_verdict n tape output ≡ Ok tt) where
  -- the bytes that the reader filled
  filled_list : take (length (list_of tape)) (read_output n tape output) ≡ list_of tape
  unfolding read_output
  filled_list = rw fine (part_written output 0 (list_of tape) (omega arith))

  pub read_then_write : length tape ≤ length back
      → (write_answer n (take (length (list_of tape)) (read_output n tape output)) back
      ≡ answer (Ok tt) (length tape ∷ []))
      × (write_output n (take (length (list_of tape)) (read_output n tape output)) back ≡ splice back 0 tape)
  unfolding write_verdict read_verdict write_answer write_output
  read_then_write room =
      let accepted = input_fine n (tape_verdict codes n tape) (length (list_of tape)) output fine in
      let size = size_fine n (tape_verdict codes n tape) (length (list_of tape)) output fine in
      let again = read_accepted codes n tape accepted in
      let written = tests_fine n (list_verdict codes n (list_of tape)) (length tape) back size again room in
      rw (filled_list, written_read codes n tape small accepted, written) (refl, refl)

-- ---- a damaged tape

-- one byte changed of a tape that the reader accepts: it is refused by the check of that byte's block
pub read_damaged : (n : ℕ) (tape output back : List ℕ) (k v : ℕ) → Bytes tape → read_verdict n tape output ≡ Ok tt
    → k < length tape → v < 256 → (v ≡ get_or tape k 0 → ⊥)
    → (read_answer n (set tape k v) back ≡ answer (Err (refusal.Check (k / 512))) [])
    × (read_output n (set tape k v) back ≡ back)
unfolding read_verdict read_answer read_output
read_damaged n tape output back k v small fine h new other =
    let accepted = input_fine n (tape_verdict codes n tape) (length (list_of tape)) output fine in
    let size = size_fine n (tape_verdict codes n tape) (length (list_of tape)) output fine in
    let refused = one_byte codes n tape k v small accepted h new other in
    rw (size, refused) (refl, refl)
