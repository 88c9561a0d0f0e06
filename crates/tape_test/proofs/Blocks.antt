-- What an accepted tape and an accepted list have, and that whatever has it is accepted: each verdict is a row of
-- tests, taken apart here once, in both directions. The loops keep that the row from here on decides for all, since
-- what came before is fine (machine/proofs/Laws/First); inside a block the same holds of its slots (Ways).
use Rattle.std.specs.Prelude.{Ok}
use Prim.Native.Nat.{ℕ, ◌+◌, ◌-◌, ◌*◌, ◌/◌, ◌≤◌, ◌<◌}
use mathlib.Core.Path.{◌≡◌, refl}
use mathlib.Core.Bool.{Bool, true, false, ◌&&◌, ◌||◌, or-true}
use mathlib.Core.List.{List}
use native.Mathlib.Omega.{arith}
use lib.ListN.{length}
use lib.Dec.{eqb, leb}
use borrow.Author.Tests.{eqb-true, eqb-false, leb-true, eq-eqb, le-leb}
use Rattle.machine.specs.declared.Refusal.TheVariants as refusal
use Rattle.machine.specs.Verdict.{Verdict}
use Rattle.machine.specs.Bytes.{zeros}
use Rattle.machine.specs.Tape.{check, covered, slot_at, block_number, block_count, block_check}
use Rattle.machine.specs.Refusals.{unless, or_else, first, event_fits, length_verdict, most_blocks, most_events}
use Rattle.machine.specs.Refusals.{list_verdict}
use Rattle.machine.specs.Refusals.{check_verdict, block_fits, number_verdict, used_verdict, unused_verdict}
use Rattle.machine.specs.Refusals.{block_verdict}
use Rattle.machine.specs.Refusals.{tape_verdict}
use Rattle.machine.proofs.Laws.Lists.{and_first, and_second}
use Rattle.machine.proofs.Laws.Refusals.{unless_fine, first_fine, second_fine}
use Rattle.machine.proofs.Laws.First.{first_fine_at, first_all_fine}
use Rattle.machine.proofs.Lengths.{LengthFine, length_fine, fine_length}

-- ---- a list

-- what an accepted list has
pub record ListFine (codes n : ℕ) (s : List ℕ) : Type 0 where
  pub whole : length s ≡ 8 * (length s / 8)
  pub most : length s / 8 ≤ 4128768
  pub events : (k : ℕ) → k < length s / 8 → event_fits codes n s (8 * k) ≡ true

module _ (codes n : ℕ) (s : List ℕ) where
  -- the test of event k
  abbrev pub event_test : ℕ → Verdict
  event_test k = unless (event_fits codes n s (8 * k)) (refusal.Event k)

  pub list_fine : list_verdict codes n s ≡ Ok tt → ListFine codes n s
  unfolding list_verdict
  list_fine e =
      let long = length_verdict 8 most_events s in
      let row = first event_test 0 (length s / 8) in
      let size = length_fine 8 most_events s (first_fine long row e) in
      let all = first_fine_at event_test 0 (length s / 8) (second_fine long row e) in
      record {
        whole = omega arith;
        most = size.few;
        events =
            λ k h. unless_fine (event_fits codes n s (8 * k)) (refusal.Event k) (all k (omega arith) (omega arith));
      }

  pub fine_list : ListFine codes n s → list_verdict codes n s ≡ Ok tt
  unfolding list_verdict
  fine_list h =
      let size : LengthFine 8 most_events s = record { whole = omega arith; few = h.most } in
      rw (fine_length 8 most_events s size)
      (first_all_fine event_test 0 (length s / 8) (λ k low high. rw (h.events k (omega arith))))

-- ---- a block

-- what an accepted block has
pub record BlockFine (codes n : ℕ) (s : List ℕ) (b : ℕ) : Type 0 where
  pub checked : check (covered s b) ≡ block_check s b
  pub numbered : block_number s b ≡ b
  pub least : 1 ≤ block_count s b
  pub most : block_count s b ≤ 63
  pub full : b + 1 < length s / 512 → block_count s b ≡ 63
  pub events : (j : ℕ) → j < block_count s b → event_fits codes n s (slot_at b j) ≡ true
  pub unused : zeros s (slot_at b (block_count s b)) (8 * (63 - block_count s b)) ≡ true

-- the test of a count: 63 but in the last block
module _ (count next blocks : ℕ) where
  full_before : eqb count 63 || eqb next blocks ≡ true → next < blocks → count ≡ 63
  full_before e before = go (eqb count 63) refl e
    where
      go : (t : Bool) → eqb count 63 ≡ t → t || eqb next blocks ≡ true → count ≡ 63
      go true q either = eqb-true count 63 q
      go false q either = absurd (omega (arith, eqb-true next blocks either))

  full_or_last : next ≤ blocks → (next < blocks → count ≡ 63) → eqb count 63 || eqb next blocks ≡ true
  full_or_last within full = go (eqb next blocks) refl
    where
      go : (t : Bool) → eqb next blocks ≡ t → eqb count 63 || t ≡ true
      go true q = or-true (eqb count 63)
      go false q = let ne = eqb-false next blocks q in rw (eq-eqb count 63 (full (omega arith)))

-- an accepted count is that of slots
pub fits_most : (s : List ℕ) (b : ℕ) → block_fits s b ≡ true → block_count s b ≤ 63
unfolding block_fits
fits_most s b e =
    let two = eqb (block_number s b) b && leb 1 (block_count s b) in
    let most = leb (block_count s b) 63 in
    leb-true (block_count s b) 63 (and_second two most (and_first (two && most) _ e))

module _ (codes n : ℕ) (s : List ℕ) (b : ℕ) where
  -- the test of slot j
  abbrev pub slot_test : ℕ → Verdict
  slot_test j = unless (event_fits codes n s (slot_at b j)) (refusal.Event (63 * b + j))

  block_fine : block_verdict codes n s b ≡ Ok tt → BlockFine codes n s b
  unfolding block_verdict check_verdict number_verdict block_fits used_verdict unused_verdict
  block_fine e =
      let a = check_verdict s b in
      let c = number_verdict s b in
      let d = used_verdict codes n s b in
      let f = unused_verdict s b in
      let from_c = second_fine a (or_else c (or_else d f)) e in
      let from_d = second_fine c (or_else d f) from_c in
      let equal = eqb (check (covered s b)) (block_check s b) in
      let numbered = eqb (block_number s b) b in
      let least = leb 1 (block_count s b) in
      let most = leb (block_count s b) 63 in
      let full = eqb (block_count s b) 63 || eqb (b + 1) (length s / 512) in
      let four = unless_fine (block_fits s b) (refusal.Block b) (first_fine c (or_else d f) from_c) in
      let three = and_first (numbered && least && most) full four in
      let two = and_first (numbered && least) most three in
      let all = first_fine_at slot_test 0 (block_count s b) (first_fine d f from_d) in
      record {
        checked = eqb-true _ _ (unless_fine equal (refusal.Check b) (first_fine a (or_else c (or_else d f)) e));
        numbered = eqb-true (block_number s b) b (and_first numbered least two);
        least = leb-true 1 (block_count s b) (and_second numbered least two);
        most = fits_most s b four;
        full = full_before (block_count s b) (b + 1) (length s / 512)
            (and_second (numbered && least && most) full four);
        events =
            λ j h.
            unless_fine (event_fits codes n s (slot_at b j)) (refusal.Event (63 * b + j))
            (all j (omega arith) (omega arith));
        unused = unless_fine _ (refusal.Unused b) (second_fine d f from_d);
      }

  pub fine_block : b < length s / 512 → BlockFine codes n s b → block_verdict codes n s b ≡ Ok tt
  unfolding block_verdict check_verdict number_verdict block_fits used_verdict unused_verdict
  fine_block below h = rw (
    eq-eqb (check (covered s b)) (block_check s b) h.checked,
    eq-eqb (block_number s b) b h.numbered,
    le-leb 1 (block_count s b) h.least,
    le-leb (block_count s b) 63 h.most,
    full_or_last (block_count s b) (b + 1) (length s / 512) (omega arith) h.full,
    first_all_fine slot_test 0 (block_count s b) (λ j low high. rw (h.events j (omega arith))),
    h.unused,
  )

-- ---- a tape

-- what an accepted tape has
pub record TapeFine (codes n : ℕ) (s : List ℕ) : Type 0 where
  pub whole : length s ≡ 512 * (length s / 512)
  pub most : length s / 512 ≤ 65536
  pub blocks : (b : ℕ) → b < length s / 512 → BlockFine codes n s b

module _ (codes n : ℕ) (s : List ℕ) where
  pub tape_fine : tape_verdict codes n s ≡ Ok tt → TapeFine codes n s
  unfolding tape_verdict
  tape_fine e =
      let long = length_verdict 512 most_blocks s in
      let row = first (block_verdict codes n s) 0 (length s / 512) in
      let size = length_fine 512 most_blocks s (first_fine long row e) in
      let all = first_fine_at (block_verdict codes n s) 0 (length s / 512) (second_fine long row e) in
      record {
        whole = omega arith;
        most = size.few;
        blocks = λ b h. block_fine codes n s b (all b (omega arith) (omega arith));
      }

  pub fine_tape : TapeFine codes n s → tape_verdict codes n s ≡ Ok tt
  unfolding tape_verdict
  fine_tape h =
      let size : LengthFine 512 most_blocks s = record { whole = omega arith; few = h.most } in
      rw (fine_length 512 most_blocks s size)
      (first_all_fine (block_verdict codes n s) 0 (length s / 512)
      (λ b low high. fine_block codes n s b (omega arith) (h.blocks b (omega arith))))
