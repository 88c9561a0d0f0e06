-- Each way through the call is that way through the rule: refused by what it is given or by the room, and done, where
-- the blocks drawn are the load's tape.
use Rattle.std.specs.Prelude.{Err, Ok}
use Prim.Native.Nat.{ℕ, ◌*◌, ◌/◌, ◌≤◌, ◌<◌}
use mathlib.Core.Path.{◌≡◌, ap, ◌∙◌}
use mathlib.Core.List.{List, [], ◌∷◌}
use native.Mathlib.Omega.{arith}
use lib.ListN.{length}
use lib.Dec.{leb}
use borrow.Author.Tests.{leb-true}
use Rattle.machine.specs.declared.Refusal.{Refusal}
use Rattle.machine.specs.declared.Refusal.TheVariants as refusal
use Rattle.machine.specs.Verdict.{Verdict}
use Rattle.machine.specs.Bytes.{splice}
use Rattle.machine.specs.Lists.{join, tabulate}
use Rattle.machine.specs.Tape.{list_bytes, block_for, blocks_for, tape_of}
use Rattle.machine.specs.Refusals.{or_else, size_verdict, seed_verdict, count_verdict, output_verdict}
use Rattle.machine.specs.Answers.{answer}
use Rattle.machine.specs.Load.{load_events, load_tape, load_verdict, load_answer, load_output}
use Rattle.machine.proofs.Laws.Lists.{and_first, and_second}
use Rattle.machine.proofs.Laws.Refusals.{else_else, first_fine, second_fine, unless_fine}
use Rattle.machine.proofs.Laws.Filling.{inputs_refused, room_refused, output_filled}
use Rattle.machine.proofs.Loads.{length_load, length_load_tape}

-- its answer and its output are the rule's
abbrev Loaded : ℕ → ℕ → ℕ → List ℕ → Verdict → List ℕ → List ℕ → Type 0
Loaded n seed count output v values out =
    (answer v values ≡ load_answer n seed count output) × (out ≡ load_output n seed count output)

-- what a fine verdict says of the three numbers
pub record Given (n seed count : ℕ) : Type 0 where
  pub size_least : 2 ≤ n
  pub size_most : n ≤ 64
  pub seed_least : 1 ≤ seed
  pub seed_most : seed ≤ 2147483646
  pub count_most : count ≤ 4128768

module _ (n seed count : ℕ) where
  -- the verdict of the seed and the count
  abbrev numbers : Verdict
  numbers = or_else (seed_verdict seed) (count_verdict count)

  -- and of all three
  abbrev pub given : Verdict
  given = or_else (size_verdict n) numbers

  pub load_given : given ≡ Ok tt → Given n seed count
  unfolding size_verdict seed_verdict count_verdict
  load_given fine =
      let two = second_fine (size_verdict n) numbers fine in
      let size = unless_fine _ refusal.Size (first_fine (size_verdict n) numbers fine) in
      let from = unless_fine _ refusal.Seed (first_fine (seed_verdict seed) (count_verdict count) two) in
      let few = unless_fine _ refusal.Length (second_fine (seed_verdict seed) (count_verdict count) two) in
      record {
        size_least = leb-true 2 n (and_first _ (leb n 64) size);
        size_most = leb-true n 64 (and_second (leb 2 n) _ size);
        seed_least = leb-true 1 seed (and_first _ (leb seed 2147483646) from);
        seed_most = leb-true seed 2147483646 (and_second (leb 1 seed) _ from);
        count_most = leb-true count 4128768 few;
      }

module _ (n seed count : ℕ) (output : List ℕ) where
  -- which come first, then the room
  pub in_turn : load_verdict n seed count output
      ≡ or_else (given n seed count) (output_verdict (length (load_tape n seed count)) output)
  unfolding load_verdict
  in_turn =
      let room = output_verdict (length (load_tape n seed count)) output in
      ap (or_else (size_verdict n)) (else_else (seed_verdict seed) (count_verdict count) room)
      ∙ else_else (size_verdict n) (numbers n seed count) room

  pub load_refused : {r : Refusal} → given n seed count ≡ Err r → Loaded n seed count output (Err r) [] output
  unfolding load_answer load_output
  load_refused =
      inputs_refused (given n seed count) (load_verdict n seed count output) (load_tape n seed count) output in_turn

  module _ (fine : given n seed count ≡ Ok tt) {blocks : ℕ} (all : blocks ≡ blocks_for count) where
    long : 512 * blocks ≡ length (load_tape n seed count)
    long = omega (arith, all, length_load_tape n seed count)

    -- the blocks, one after the other
    blocks_are : join (tabulate (block_for (list_bytes (load_events n seed count))) 0 blocks) ≡ load_tape n seed count
    unfolding load_tape tape_of
    blocks_are =
        let list = list_bytes (load_events n seed count) in
        let events : length list / 8 ≡ count = omega (arith, length_load n seed count) in
        rw (all, events)

    pub load_short : length output < 512 * blocks → Loaded n seed count output (Err refusal.Output) [] output
    unfolding load_answer load_output
    load_short =
        room_refused (given n seed count) (load_verdict n seed count output) (load_tape n seed count) output in_turn
        fine
        long

    pub load_done : {t : List ℕ} → 512 * blocks ≤ length output
        → t ≡ splice output 0 (join (tabulate (block_for (list_bytes (load_events n seed count))) 0 blocks))
        → Loaded n seed count output (Ok tt) (512 * blocks ∷ []) t
    unfolding load_answer load_output
    load_done room wrote =
        output_filled (given n seed count) (load_verdict n seed count output) (load_tape n seed count) output in_turn
        fine
        long room (wrote ∙ ap (splice output 0) blocks_are)
