-- Each way through the tests of a tape and of a list is that way through the rule. What the functions read is a
-- variable here, with the value that it is known to be.
use Rattle.std.specs.Prelude.{Err, Ok}
use Prim.Native.Nat.{ℕ, ◌+◌, ◌-◌, ◌*◌, ◌/◌, ◌%◌, ◌≤◌}
use mathlib.Core.Path.{◌≡◌, sym, ap, ◌∙◌}
use mathlib.Core.Bool.{Bool, true, false, ◌&&◌, ◌||◌}
use mathlib.Core.List.{List}
use native.Mathlib.Omega.{arith}
use lib.ListN.{length}
use lib.Dec.{eqb, leb}
use borrow.Author.Tests.{eq-eqb, ne_eqb}
use Rattle.machine.specs.declared.Refusal.{Refusal}
use Rattle.machine.specs.declared.Refusal.TheVariants as refusal
use Rattle.machine.specs.Verdict.{Verdict}
use Rattle.machine.specs.Bytes.{zeros}
use Rattle.machine.specs.Tape.{check, covered, slot_at, block_number, block_count, block_check}
use Rattle.machine.specs.Refusals.{unless, or_else, first, length_verdict, most_blocks, most_events, block_fits}
use Rattle.machine.specs.Refusals.{check_verdict, number_verdict, used_verdict, unused_verdict}
use Rattle.machine.specs.Refusals.{block_verdict, tape_verdict, list_verdict}
use Rattle.machine.proofs.Laws.Refusals.{unless_fine, second_fine, refused_first, else_else}
use Rattle.tape_test.specs.Accepted.{head_verdict, events_on, Accepted}
use Rattle.tape_test.proofs.Blocks.{fits_most, event_test, slot_test, TapeFine, tape_fine}
use Rattle.tape_test.proofs.Lengths.{length_list, events_ranged}

-- ---- the length

module _ (unit most : ℕ) (s : List ℕ) where
  -- the test as code makes it
  abbrev length_fits : Bool
  length_fits = eqb (length s % unit) 0 && leb (length s / unit) most

  pub length_fits_lem : length_fits ≡ true → (Ok tt) ≡ length_verdict unit most s
  unfolding length_verdict
  length_fits_lem e = rw e

  pub length_unfit : length_fits ≡ false → Err refusal.Length ≡ length_verdict unit most s
  unfolding length_verdict
  length_unfit e = rw e

-- ---- a block's head

module _ (s : List ℕ) (b : ℕ) {sum written : ℕ} (one : sum ≡ check (covered s b)) (two : written ≡ block_check s b)
  where
    pub head_damaged : (sum ≡ written → ⊥)
        → Err (refusal.Check b) ≡ head_verdict s b
    unfolding check_verdict
    head_damaged ne = rw (ne_eqb (check (covered s b)) (block_check s b) (λ e. ne (one ∙ e ∙ sym two)))

    module _ {number count blocks : ℕ} (same : sum ≡ written) (three : number ≡ block_number s b)
        (four : count ≡ block_count s b) (five : length s / 512 ≡ blocks)
      where
        -- the test as code makes it
        abbrev head_fits : Bool
        head_fits = eqb number b && leb 1 count && leb count 63 && (eqb count 63 || eqb (b + 1) blocks)

        fits_is : head_fits ≡ block_fits s b
        unfolding block_fits
        fits_is = rw (three, four, five)

        equal : check (covered s b) ≡ block_check s b
        equal = sym one ∙ same ∙ two

        pub head_fits_lem : head_fits ≡ true → (Ok tt) ≡ head_verdict s b
        unfolding check_verdict number_verdict
        head_fits_lem e = rw (eq-eqb (check (covered s b)) (block_check s b) equal, ← fits_is, e)

        pub head_unfit : head_fits ≡ false → Err (refusal.Block b) ≡ head_verdict s b
        unfolding check_verdict number_verdict
        head_unfit e = rw (eq-eqb (check (covered s b)) (block_check s b) equal, ← fits_is, e)

-- ---- a slot or an event, as code tests it

module _ (r : Refusal) {fits rule : Bool} (is : fits ≡ rule) where
  pub test_refused : fits ≡ false → unless rule r ≡ Err r
  test_refused e = rw (sym is ∙ e)

  pub test_fine : fits ≡ true → unless rule r ≡ Ok tt
  test_fine e = rw (sym is ∙ e)

-- ---- a block

module _ (codes n : ℕ) (s : List ℕ) (b : ℕ) where
  -- the head first, then the slots
  by_head : block_verdict codes n s b
      ≡ or_else (head_verdict s b) (or_else (used_verdict codes n s b) (unused_verdict s b))
  unfolding block_verdict
  by_head = else_else (check_verdict s b) (number_verdict s b) (or_else (used_verdict codes n s b) (unused_verdict s b))

  pub head_refused : {r : Refusal} → head_verdict s b ≡ Err r → block_verdict codes n s b
      ≡ Err r
  head_refused e = by_head ∙ rw e

  module _ (fine : head_verdict s b ≡ Ok tt) where
    pub head_count : block_count s b ≤ 63
    unfolding number_verdict
    head_count = fits_most s b (unless_fine _ (refusal.Block b) (second_fine (check_verdict s b) _ fine))

    -- what the slots say
    by_slots : block_verdict codes n s b ≡ or_else (used_verdict codes n s b) (unused_verdict s b)
    by_slots = by_head ∙ rw fine

    pub used_refused : {r : Refusal} → used_verdict codes n s b ≡ Err r
        → block_verdict codes n s b ≡ Err r
    used_refused e = by_slots ∙ rw e

    module _ {count : ℕ} {clear : Bool} (counts : count ≡ block_count s b)
        (used : used_verdict codes n s b ≡ Ok tt) (is : clear ≡ zeros s (slot_at b count) (8 * (63 - count)))
      where
        pub unused_refused : clear ≡ false → block_verdict codes n s b ≡ Err (refusal.Unused b)
        unfolding unused_verdict
        unused_refused e = by_slots ∙ rw (used, ← counts, sym is ∙ e)

        pub slots_fine : clear ≡ true → block_verdict codes n s b ≡ Ok tt
        unfolding unused_verdict
        slots_fine e = by_slots ∙ rw (used, ← counts, sym is ∙ e)

  -- before the first slot
  pub slots_start : {count : ℕ} → count ≡ block_count s b
      → first (slot_test codes n s b) 0 (count - 0) ≡ used_verdict codes n s b
  unfolding used_verdict
  slots_start e = ap (first (slot_test codes n s b) 0) (omega (arith, e))

-- ---- a tape and a list: the length first, then a row of tests

module _ (l : Verdict) (f : ℕ → Verdict) (k : ℕ) {v : Verdict} (is : v ≡ l) where
  row_start : v ≡ Ok tt → first f 0 (k - 0) ≡ or_else l (first f 0 k)
  row_start e = let all : k - 0 ≡ k = omega arith in rw (all, sym is ∙ e)

module _ (codes n : ℕ) (s : List ℕ) {v : Verdict} (is : v ≡ length_verdict 512 most_blocks s) where
  pub tape_length_refused : {r : Refusal} → v ≡ Err r → v ≡ tape_verdict codes n s
  unfolding tape_verdict
  tape_length_refused e = refused_first _ is e

  -- before the first block
  pub blocks_start : v ≡ Ok tt → first (block_verdict codes n s) 0 (length s / 512 - 0) ≡ tape_verdict codes n s
  unfolding tape_verdict
  blocks_start e = row_start _ (block_verdict codes n s) (length s / 512) is e

module _ (codes n : ℕ) (s : List ℕ) {v : Verdict} (is : v ≡ length_verdict 8 most_events s) where
  pub list_length_refused : {r : Refusal} → v ≡ Err r → v ≡ list_verdict codes n s
  unfolding list_verdict
  list_length_refused e = refused_first _ is e

  -- before the first event
  pub events_start : v ≡ Ok tt → first (event_test codes n s) 0 (length s / 8 - 0) ≡ list_verdict codes n s
  unfolding list_verdict
  events_start e = row_start _ (event_test codes n s) (length s / 8) is e

-- ---- how many events a tape has

module _ (s : List ℕ) (a : Accepted s) where
  facts : TapeFine a.codes a.n s
  facts = tape_fine a.codes a.n s a.fine

  -- none on a tape of no bytes
  pub none_counted : length s ≡ 0 → 0 ≡ events_on s
  none_counted none = omega (arith, (events_ranged s facts).most)

  -- else there is a last block
  pub some_block : (length s ≡ 0 → ⊥) → 1 ≤ length s / 512
  some_block some = omega (arith, facts.whole)

  pub events_counted : {count : ℕ} → (length s ≡ 0 → ⊥) → count ≡ block_count s (length s / 512 - 1)
      → 63 * (length s / 512 - 1) + count ≡ events_on s
  events_counted some e = omega (arith, length_list s facts (some_block some))
