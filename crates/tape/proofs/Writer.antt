-- Each way through the writer is that way through the rule: refused by what it is given or by the room, and done, where
-- the blocks packed are the list's tape.
use Rattle.std.specs.Prelude.{Err, Ok}
use Prim.Native.Nat.{ℕ, ◌*◌, ◌/◌, ◌≤◌, ◌<◌}
use mathlib.Core.Path.{◌≡◌, ap, ◌∙◌}
use mathlib.Core.List.{List, [], ◌∷◌}
use native.Mathlib.Omega.{arith}
use lib.ListN.{length}
use Rattle.machine.specs.declared.Refusal.{Refusal}
use Rattle.machine.specs.declared.Refusal.TheVariants as refusal
use Rattle.machine.specs.Verdict.{Verdict}
use Rattle.machine.specs.Bytes.{splice}
use Rattle.machine.specs.Lists.{join, tabulate}
use Rattle.machine.specs.Tape.{block_for, blocks_for, tape_of}
use Rattle.machine.specs.Refusals.{or_else, codes, size_verdict, list_verdict, output_verdict}
use Rattle.machine.specs.Answers.{answer, write_verdict, write_answer, write_output}
use Rattle.machine.proofs.Laws.Refusals.{second_fine, else_else}
use Rattle.machine.proofs.Laws.Filling.{inputs_refused, room_refused, output_filled}
use Rattle.tape_test.proofs.Blocks.{list_fine}
use Rattle.machine.proofs.Tapes.{length_tape}

-- its answer and its output are the rule's
abbrev Wrote : ℕ → List ℕ → List ℕ → Verdict → List ℕ → List ℕ → Type 0
Wrote n list output v values out = (answer v values ≡ write_answer n list output) × (out ≡ write_output n list output)

-- the blocks, one after the other
blocks_are : (list : List ℕ) {blocks : ℕ} → blocks ≡ blocks_for (length list / 8)
    → join (tabulate (block_for list) 0 blocks) ≡ tape_of list
unfolding tape_of
blocks_are list all = rw all

module _ (n : ℕ) (list output : List ℕ) where
  -- the verdict of n and the list
  abbrev given : Verdict
  given = or_else (size_verdict n) (list_verdict codes n list)

  -- which comes first, then the room
  in_turn : write_verdict n list output ≡ or_else given (output_verdict (length (tape_of list)) output)
  unfolding write_verdict
  in_turn = else_else (size_verdict n) (list_verdict codes n list) (output_verdict (length (tape_of list)) output)

  pub write_refused : {r : Refusal} → given ≡ Err r → Wrote n list output (Err r) [] output
  unfolding write_answer write_output
  write_refused = inputs_refused given (write_verdict n list output) (tape_of list) output in_turn

  module _ (fine : given ≡ Ok tt) where
    pub write_events : length list / 8 ≤ 4128768
    write_events = (list_fine codes n list (second_fine (size_verdict n) _ fine)).most

    module _ {blocks : ℕ} (all : blocks ≡ blocks_for (length list / 8)) where
      long : 512 * blocks ≡ length (tape_of list)
      long = omega (arith, length_tape list)

      pub write_short : length output < 512 * blocks → Wrote n list output (Err refusal.Output) [] output
      unfolding write_answer write_output
      write_short = room_refused given (write_verdict n list output) (tape_of list) output in_turn fine long

      pub write_done : {t : List ℕ} → 512 * blocks ≤ length output
          → t ≡ splice output 0 (join (tabulate (block_for list) 0 blocks))
          → Wrote n list output (Ok tt) (512 * blocks ∷ []) t
      unfolding write_answer write_output
      write_done room wrote =
          output_filled given (write_verdict n list output) (tape_of list) output in_turn fine long room
          (wrote ∙ ap (splice output 0) (blocks_are list all))
