-- How long a tape's list is: 504 bytes of events from every block but the last, and nothing where there is no block.
use Prim.Native.Nat.{ℕ, ◌+◌, ◌-◌, ◌*◌, ◌/◌, ◌≤◌, ◌<◌}
use mathlib.Core.Path.{◌≡◌, ap, ◌∙◌}
use mathlib.Core.List.{List}
use mathlib.Core.Logic.{◌⊎◌, inl, inr}
use native.Mathlib.Omega.{arith}
use lib.ListN.{length, drop, length-append, length-drop}
use lib.Seq.{length-take-le}
use Rattle.machine.specs.Lists.{tabulate, join}
use Rattle.machine.specs.Tape.{block_count, slot_at, used_slots, list_of}
use Rattle.machine.proofs.Laws.Bytes.{lt_or_ge}
use Rattle.machine.proofs.Laws.Joined.{join_more, length_joined}
use Rattle.tape_test.proofs.Blocks.{TapeFine}

-- how many events stand in so many blocks: whole ones, at most 63 a block, and at least one in the last
pub record Ranged (s : List ℕ) : Type 0 where
  pub whole : length (list_of s) ≡ 8 * (length (list_of s) / 8)
  pub most : length (list_of s) / 8 ≤ 63 * (length s / 512)
  pub least : 63 * (length s / 512) ≤ length (list_of s) / 8 + 62

-- ---- what a reader gives

module _ {codes n : ℕ} (s : List ℕ) (fine : TapeFine codes n s) where
  pub length_used : (b : ℕ) → b < length s / 512 → length (used_slots s b) ≡ 8 * block_count s b
  unfolding used_slots
  length_used b h =
      length-take-le (8 * block_count s b) (drop (slot_at b 0) s)
      (rw (length-drop (slot_at b 0) s) (omega (arith, (fine.blocks b h).most)))

  -- every block but the last is full
  pub length_full : (b : ℕ) → b + 1 < length s / 512 → length (used_slots s b) ≡ 504
  length_full b h = length_used b (omega arith) ∙ ap (λ (c : ℕ). 8 * c) ((fine.blocks b (omega arith)).full h)

  pub length_before : (b : ℕ) → b < length s / 512 → length (join (tabulate (used_slots s) 0 b)) ≡ 504 * b
  length_before b h = length_joined (used_slots s) 504 0 b (λ c low high. length_full c (omega arith))

  length_through : (b : ℕ) → b < length s / 512
      → length (join (tabulate (used_slots s) 0 (b + 1))) ≡ 8 * (63 * b + block_count s b)
  length_through b h =
      let here : 0 + b ≡ b = omega arith in
      rw (join_more (used_slots s) 0 b, here, length-append (join (tabulate (used_slots s) 0 b)) (used_slots s b))
      (omega (arith, length_before b h, length_used b h))

  -- of a tape that has a last block
  pub length_list : 0 < length s / 512
      → length (list_of s) ≡ 8 * (63 * (length s / 512 - 1) + block_count s (length s / 512 - 1))
  unfolding list_of
  length_list some =
      let all : length s / 512 ≡ length s / 512 - 1 + 1 = omega arith in
      ap (λ (k : ℕ). length (join (tabulate (used_slots s) 0 k))) all
      ∙ length_through (length s / 512 - 1) (omega arith)

  none_listed : length s / 512 ≡ 0 → length (list_of s) ≡ 0
  unfolding list_of join tabulate
  none_listed none = rw none

  pub events_ranged : Ranged s
  events_ranged = go (lt_or_ge 0 (length s / 512))
    where
      go : (0 < length s / 512) ⊎ (length s / 512 ≤ 0) → Ranged s
      go (inl some) =
          let last = fine.blocks (length s / 512 - 1) (omega arith) in
          let long = length_list some in
          let low = last.least in
          let high = last.most in
          record { whole = omega arith; most = omega arith; least = omega arith }
      go (inr none) =
          let long = none_listed (omega arith) in
          record { whole = omega arith; most = omega arith; least = omega arith }
