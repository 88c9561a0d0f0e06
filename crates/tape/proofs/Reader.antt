-- Each way through the reader is that way through the rule: refused by what it is given or by the room, and done, where
-- the events unpacked are the tape's list.
use Rattle.std.specs.Prelude.{Err, Ok}
use Prim.Native.Nat.{ℕ, ◌+◌, ◌-◌, ◌*◌, ◌/◌, ◌^◌, ◌≤◌, ◌<◌}
use mathlib.Core.Path.{◌≡◌, ap, ◌∙◌}
use mathlib.Core.List.{List, [], ◌∷◌}
use mathlib.Core.Logic.{◌⊎◌, inl, inr}
use native.Mathlib.Omega.{arith}
use lib.ListN.{length}
use Rattle.machine.specs.declared.Refusal.{Refusal}
use Rattle.machine.specs.declared.Refusal.TheVariants as refusal
use Rattle.machine.specs.Verdict.{Verdict}
use Rattle.machine.specs.Bytes.{part, splice}
use Rattle.machine.specs.Lists.{join, tabulate}
use Rattle.machine.specs.Tape.{block_count, slot_at, used_slots, list_of}
use Rattle.machine.specs.Refusals.{or_else, codes, size_verdict, tape_verdict, output_verdict}
use Rattle.machine.specs.Answers.{answer, read_verdict, read_answer, read_output}
use Rattle.machine.proofs.Laws.Bytes.{lt_or_ge}
use Rattle.machine.proofs.Laws.Refusals.{second_fine, else_else}
use Rattle.machine.proofs.Laws.Filling.{inputs_refused, room_refused, output_filled}
use Rattle.tape_test.specs.Accepted.{events_on, Accepted}
use Rattle.machine.proofs.Laws.Joined.{joined_same}
use Rattle.tape_test.proofs.Blocks.{TapeFine, tape_fine}
use Rattle.tape_test.proofs.Lengths.{length_list, events_ranged}
use Rattle.pack.specs.Pack.{width_in, taken_from}

-- its answer and its output are the rule's
abbrev Read : ℕ → List ℕ → List ℕ → Verdict → List ℕ → List ℕ → Type 0
Read n tape output v values out = (answer v values ≡ read_answer n tape output) × (out ≡ read_output n tape output)

-- the events, block after block
module _ (s : List ℕ) {k n total : ℕ} (fine : TapeFine k n s) (all : total ≡ length (list_of s)) where
  -- every block but the last is full, and the last has the rest
  width_used : (b : ℕ) → b < length s / 512 → width_in total b ≡ 8 * block_count s b
  width_used b h = go (lt_or_ge (b + 1) (length s / 512))
    where
      go : (b + 1 < length s / 512) ⊎ (length s / 512 ≤ b + 1) → width_in total b ≡ 8 * block_count s b
      go (inl before) =
          let range = events_ranged s fine in
          omega (arith, range.least, (fine.blocks b h).full before)
      go (inr last) =
          let here : length s / 512 - 1 ≡ b = omega arith in
          let rest : total ≡ 8 * (63 * b + block_count s b) =
          all ∙ length_list s fine (omega arith) ∙ ap (λ (m : ℕ). 8 * (63 * m + block_count s m)) here in
          omega (arith, (fine.blocks b h).most)

  taken_are : join (tabulate (taken_from s total) 0 (length s / 512)) ≡ list_of s
  unfolding list_of used_slots
  taken_are =
      joined_same (taken_from s total) (used_slots s) 0 (length s / 512)
      (λ b low high. ap (part s (slot_at b 0)) (width_used b (omega arith)))

module _ (n : ℕ) (tape output : List ℕ) where
  -- the verdict of n and the tape
  abbrev given : Verdict
  given = or_else (size_verdict n) (tape_verdict codes n tape)

  -- which comes first, then the room
  in_turn : read_verdict n tape output ≡ or_else given (output_verdict (length (list_of tape)) output)
  unfolding read_verdict
  in_turn = else_else (size_verdict n) (tape_verdict codes n tape) (output_verdict (length (list_of tape)) output)

  pub read_refused : {r : Refusal} → given ≡ Err r → Read n tape output (Err r) [] output
  unfolding read_answer read_output
  read_refused = inputs_refused given (read_verdict n tape output) (list_of tape) output in_turn

  module _ (fine : given ≡ Ok tt) where
    accepted : tape_verdict codes n tape ≡ Ok tt
    accepted = second_fine (size_verdict n) _ fine

    pub read_accepted : Accepted tape
    read_accepted = record { codes = codes; n = n; fine = accepted }

    module _ {events : ℕ} (all : events ≡ events_on tape) where
      long : 8 * events ≡ length (list_of tape)
      long = omega (arith, (events_ranged tape (tape_fine codes n tape accepted)).whole)

      -- the events fit their blocks, and a block's worth is never left over
      pub read_blocks : (8 * events < 2 ^ 64) × (504 * (length tape / 512) ≤ 8 * events + 504)
      read_blocks =
          let facts = tape_fine codes n tape accepted in
          let range = events_ranged tape facts in
          (omega (arith, range.most, facts.most), omega (arith, range.least))

      pub read_short : length output < 8 * events → Read n tape output (Err refusal.Output) [] output
      unfolding read_answer read_output
      read_short = room_refused given (read_verdict n tape output) (list_of tape) output in_turn fine long

      pub read_done : {t : List ℕ} → 8 * events ≤ length output
          → t ≡ splice output 0 (join (tabulate (taken_from tape (8 * events)) 0 (length tape / 512)))
          → Read n tape output (Ok tt) (8 * events ∷ []) t
      unfolding read_answer read_output
      read_done room wrote =
          output_filled given (read_verdict n tape output) (list_of tape) output in_turn fine long room
          (wrote ∙ ap (splice output 0) (taken_are tape (tape_fine codes n tape accepted) long))
