-- Soundness from the header's two words and what the walk gathers: one mask, one order and one compare are the header's
-- rules and both counts; no record is out of range, every stage stands, and just one flag is set.
use Rattle.std.specs.Prelude.{Err, Ok}
use Prim.Native.Nat.{ℕ, ◌+◌, ◌*◌, ◌/◌, ◌%◌, ◌^◌, ◌≤◌, ◌<◌}
use mathlib.Core.Path.{◌≡◌, refl, sym, ap, ◌∙◌}
use mathlib.Core.Bool.{Bool, true, false, not, ◌&&◌, ◌||◌, true≢false}
use mathlib.Core.List.{List}
use mathlib.Core.Logic.{◌⊎◌, inl, inr}
use native.Mathlib.Omega.{arith}
use native.Mathlib.Nat.{le_trans}
use lib.ListN.{get_or}
use lib.Dec.{eqb, leb}
use lib.Bits.{bit_and, and_zero_r}
use lib.Pow.{pow_mono}
use lib.Count.{ones, ones-le}
use borrow.Author.Tests.{not-true, not-false, eqb-true, eq-eqb, leb-true, le-leb}
use Rattle.machine.specs.declared.Refusal.TheVariants as refusal
use Rattle.machine.specs.Bytes.{Bytes, number, zeros}
use Rattle.machine.specs.Lists.{every}
use Rattle.machine.specs.Fields.{Status, full, empty}
use Rattle.machine.specs.Image.{envelope_in, processes_in, size_in, state_in}
use Rattle.machine.specs.Sound.{header_fits, records_fit, places, marked_set, rest_fits, sound, ones64}
use Rattle.machine.specs.Refusals.{unless, sound_verdict}
use Rattle.machine.proofs.Laws.Bytes.{lt_or_ge, number_8, number_more, number_lt, zeros_number}
use Rattle.machine.proofs.Laws.Lists.{and_first, and_second, and_both, either_way, alike}
use Rattle.machine.proofs.Soundness.Sound.{sound_facts}
use Rattle.machine.proofs.Laws.Walk.{length_processes, marked_lt, ones_64}
use Rattle.sound.specs.declared.walk.Walk.{Walk}
use Rattle.sound.specs.Walk.{records_from, stand_in, flags_in, counts_in, Walked}
use Rattle.sound.proofs.Masks.{two_parts}
use Rattle.sound.proofs.Fits.{hold_whole, bad_none}
use Rattle.sound.proofs.Walked.{flags_are}

-- ---- the header's two words

module _ (s : List ℕ) (small : Bytes s) where
  abbrev first : ℕ
  first = number s 0 8

  abbrev second : ℕ
  second = number s 8 8

  first_is : first
      ≡ get_or s 0 0 + 256 *
      (get_or s 1 0 + 256 * (get_or s 2 0 + 256 * (get_or s 3 0 + 256 * (get_or s 4 0 + 256 * number s 5 3))))
  first_is =
      rw (number_more s 0 7, number_more s 1 6, number_more s 2 5, number_more s 3 4, number_more s 4 3)

  -- the status as a bit of it
  status_bit : first / 256 % 2 ≡ get_or s 1 0 % 2
  status_bit = rw first_is (omega (arith, small 0))

  counts_above : first / 16777216 ≡ get_or s 3 0 + 256 * (get_or s 4 0 + 256 * number s 5 3)
  counts_above = rw first_is (omega (arith, small 0, small 1, small 2))

  -- what is left of it under the mask
  masked : bit_and first 16580096 ≡ 256 * (bit_and (get_or s 1 0) 254 + 256 * bit_and (get_or s 2 0) 252)
  masked =
      let rest = get_or s 3 0 + 256 * (get_or s 4 0 + 256 * number s 5 3) in
      ap (λ x. bit_and x (0 + 256 * (254 + 256 * (252 + 256 * 0)))) first_is
      ∙ two_parts (get_or s 0 0) 0 (get_or s 1 0 + 256 * (get_or s 2 0 + 256 * rest)) (254 + 256 * (252 + 256 * 0))
      (small 0)
      (omega arith)
      ∙ rw (
        two_parts (get_or s 1 0) 254 (get_or s 2 0 + 256 * rest) (252 + 256 * 0) (small 1) (omega arith),
        two_parts (get_or s 2 0) 252 rest 0 (small 2) (omega arith),
        and_zero_r (get_or s 0 0),
        and_zero_r rest,
      )
      (omega arith)

  low_status : eqb (bit_and (get_or s 1 0) 254) 0 ≡ leb (get_or s 1 0) 1
  unfolding every
  low_status = alike 256 (λ k. eqb (bit_and k 254) 0) (λ k. leb k 1) refl (get_or s 1 0) (small 1)

  low_markers : eqb (bit_and (get_or s 2 0) 252) 0 ≡ leb (get_or s 2 0) 3
  unfolding every
  low_markers = alike 256 (λ k. eqb (bit_and k 252) 0) (λ k. leb k 3) refl (get_or s 2 0) (small 2)

  second_is : second ≡ number s 8 4 + 4294967296 * number s 12 4
  second_is = number_8 s 8

  -- a number of some bytes that are 0
  nothing : (at width : ℕ) → zeros s at width ≡ true → number s at width ≡ 0
  nothing at width none = eqb-true (number s at width) 0 (sym (zeros_number s at width) ∙ none)

  all_zero_lem : (at width : ℕ) → number s at width ≡ 0 → zeros s at width ≡ true
  all_zero_lem at width none = zeros_number s at width ∙ eq-eqb (number s at width) 0 none

  -- the tests as code makes them
  pub record Passes (n : ℕ) (w : Walk) : Type 0 where
    pub mask : bit_and first 16580096 ≡ 0
    pub message : second ≤ first / 256 % 2 * 4294967295
    pub records : w.first ≡ n
    pub stages : stand_in w ≡ true
    pub one : flags_in w ≡ 1
    pub counts : counts_in w ≡ first / 16777216

  module _ {n : ℕ} {w : Walk} (size : n ≡ size_in s) (most : n ≤ 64)
      (walked : Walked s (eqb (first / 256 % 2) 1) 0 n w) where
    abbrev status : Status
    status = eqb (first / 256 % 2) 1

    status_is : get_or s 1 0 ≤ 1 → status ≡ (envelope_in s).full
    unfolding envelope_in
    status_is low =
        let same : first / 256 % 2 ≡ get_or s 1 0 = omega (arith, status_bit) in
        ap (λ x. eqb x 1) same

    -- how many are in a set of the walk
    count_is : (st : Status) {set : ℕ} → set ≡ marked_set st (records_from s 0 n)
        → ones set ≡ ones64 (marked_set st (processes_in s n))
    unfolding processes_in
    count_is st is =
        let long = length_processes s n in
        let below : marked_set st (processes_in s n) < 2 ^ 64 =
        le_trans (rw long at (marked_lt st (processes_in s n))) (pow_mono {i = n} {j = 64} most) in
        ap ones is ∙ sym (ones_64 (marked_set st (processes_in s n)) below)

    few : (st : Status) → ones64 (marked_set st (processes_in s n)) ≤ 64
    few st =
        let long = length_processes s n in
        let below : marked_set st (processes_in s n) < 2 ^ 64 =
        le_trans (rw long at (marked_lt st (processes_in s n))) (pow_mono {i = n} {j = 64} most) in
        rw (ones_64 (marked_set st (processes_in s n)) below) (ones-le 64 (marked_set st (processes_in s n)) below)

    -- both counts, from the sets
    counts_are : counts_in w
        ≡ ones64 (marked_set full (processes_in s n)) + 256 * ones64 (marked_set empty (processes_in s n))
    counts_are = rw (count_is full walked.full, count_is empty walked.empty)

    -- no record is out of range just where all are in it
    records_are : eqb w.first n ≡ records_fit s n
    records_are =
        let here : 0 + n ≡ n = omega arith in
        rw (walked.first, ← hold_whole s n) (rw here at (bad_none s 0 n))

    sound_passes : sound s ≡ true → Passes n w
    unfolding sound state_in processes_in envelope_in
    sound_passes ok =
        let facts = sound_facts s ok in
        let h = facts.header in
        let records : records_fit s (size_in s) ≡ true =
        and_second (header_fits s) _ (and_first (header_fits s && records_fit s (size_in s)) _ ok) in
        let a = eqb-true (bit_and (get_or s 1 0) 254) 0 (low_status ∙ le-leb (get_or s 1 0) 1 h.status) in
        let b = eqb-true (bit_and (get_or s 2 0) 252) 0 (low_markers ∙ le-leb (get_or s 2 0) 3 h.markers) in
        let spare = nothing 12 4 h.spare in
        let unnamed = nothing 5 3 h.unnamed in
        let full_count =
        eqb-true (ones64 (marked_set full (processes_in s (size_in s)))) (get_or s 3 0) facts.rest.counts_full in
        let empty_count =
        eqb-true (ones64 (marked_set empty (processes_in s (size_in s)))) (get_or s 4 0) facts.rest.counts_empty in
        let held : records_fit s n ≡ true = rw size records in
        record {
          mask = masked ∙ rw (a, b);
          message =
              either_way (eqb (get_or s 1 0) 1) (zeros s 8 4)
              (λ is.
              let one = eqb-true (get_or s 1 0) 1 is in
              omega (arith, one, status_bit, second_is, spare, number_lt s 8 small))
              (λ none. omega (arith, second_is, spare, nothing 8 4 none)) h.message;
          records = eqb-true w.first n (records_are ∙ held);
          stages = walked.stages (hold_whole s n ∙ held) ∙ rw (size, status_is h.status) facts.rest.stages;
          one = flags_are s status n most walked ∙ rw size facts.rest.one_place;
          counts = counts_are ∙ rw (size, full_count, empty_count, counts_above, unnamed) (omega arith);
        }

    module _ (p : Passes n w) where
      low : get_or s 1 0 ≤ 1
      low =
          let none : bit_and (get_or s 1 0) 254 ≡ 0 = omega (arith, sym masked ∙ p.mask) in
          leb-true (get_or s 1 0) 1 (sym low_status ∙ eq-eqb (bit_and (get_or s 1 0) 254) 0 none)

      low_too : get_or s 2 0 ≤ 3
      low_too =
          let none : bit_and (get_or s 2 0) 252 ≡ 0 = omega (arith, sym masked ∙ p.mask) in
          leb-true (get_or s 2 0) 3 (sym low_markers ∙ eq-eqb (bit_and (get_or s 2 0) 252) 0 none)

      -- both counts, and nothing behind them
      counted : (ones64 (marked_set full (processes_in s n)) ≡ get_or s 3 0)
          × (ones64 (marked_set empty (processes_in s n)) ≡ get_or s 4 0) × (number s 5 3 ≡ 0)
      counted =
          let same = sym counts_are ∙ p.counts ∙ counts_above in
          let one = few full in
          let two = few empty in
          (omega (arith, same, small 3), omega (arith, same, small 3, small 4), omega (arith, same, small 3, small 4))

      spare : number s 12 4 ≡ 0
      spare = omega (arith, p.message, second_is, number_lt s 8 small)

      -- a message stands in a full envelope alone
      message_fits : eqb (get_or s 1 0) 1 || zeros s 8 4 ≡ true
      message_fits = go (lt_or_ge (get_or s 1 0) 1)
        where
          go : (get_or s 1 0 < 1) ⊎ (1 ≤ get_or s 1 0) → eqb (get_or s 1 0) 1 || zeros s 8 4 ≡ true
          go (inl none) =
              let zero_status : get_or s 1 0 ≡ 0 = omega arith in
              rw (zero_status, all_zero_lem 8 4 (omega (arith, p.message, second_is, status_bit)))
          go (inr some) = let one : get_or s 1 0 ≡ 1 = omega (arith, low) in rw one

      header_fits_lem : header_fits s ≡ true
      unfolding header_fits
      header_fits_lem =
          rw (
            le-leb (get_or s 1 0) 1 low,
            le-leb (get_or s 2 0) 3 low_too,
            all_zero_lem 5 3 counted.2,
            message_fits,
            all_zero_lem 12 4 spare,
          )

      records_fit_lem : records_fit s n ≡ true
      records_fit_lem = sym records_are ∙ eq-eqb w.first n p.records

      rest_fits_lem : rest_fits (state_in s) ≡ true
      unfolding rest_fits state_in processes_in envelope_in
      rest_fits_lem =
          rw (
            ← size,
            eq-eqb (places (records_from s 0 n)) 1 (sym (flags_are s status n most walked) ∙ p.one),
            ← status_is low,
            sym (walked.stages (hold_whole s n ∙ records_fit_lem)) ∙ p.stages,
            eq-eqb (ones64 (marked_set full (processes_in s n))) (get_or s 3 0) counted.0,
            eq-eqb (ones64 (marked_set empty (processes_in s n))) (get_or s 4 0) counted.1,
          )

      passes_sound : sound s ≡ true
      unfolding sound
      passes_sound =
          let records : records_fit s (size_in s) ≡ true = rw (← size) records_fit_lem in
          and_both (header_fits s && records_fit s (size_in s)) (rest_fits (state_in s))
          (and_both (header_fits s) (records_fit s (size_in s)) header_fits_lem records) rest_fits_lem

    -- an image that isn't sound fails a test
    unsound : (Passes n w → ⊥) → Err refusal.Unsound ≡ sound_verdict s
    unfolding sound_verdict
    unsound fails = go (sound s) refl
      where
        go : (b : Bool) → sound s ≡ b → Err refusal.Unsound ≡ unless b refusal.Unsound
        go true ok = absurd (fails (sound_passes ok))
        go false not_so = refl

    -- and one that fails none is sound
    pub passed : Passes n w → (Ok tt) ≡ sound_verdict s
    unfolding sound_verdict
    passed p = rw (passes_sound p)

-- ---- as code goes through the tests

module _ (s : List ℕ) (small : Bytes s) {n : ℕ} {w : Walk} (size : n ≡ size_in s) (most : n ≤ 64)
    (walked : Walked s (eqb (number s 0 8 / 256 % 2) 1) 0 n w) where
  refuse : (Passes s small n w → ⊥) → Err refusal.Unsound ≡ sound_verdict s
  refuse = unsound s small size most walked

  pub mask_refuses : {a : ℕ} → a ≡ number s 0 8 → (bit_and a 16580096 ≡ 0 → ⊥)
      → Err refusal.Unsound ≡ sound_verdict s
  mask_refuses one left = refuse (λ p. left (rw one p.mask))

  pub message_refuses : {a b : ℕ} → a ≡ number s 0 8 → b ≡ number s 8 8 → a / 256 % 2 * 4294967295 < b
      → Err refusal.Unsound ≡ sound_verdict s
  message_refuses one two more = refuse (λ p. omega (arith, p.message, rw (one, two) at more))

  pub records_refuse : (w.first ≡ n → ⊥) → Err refusal.Unsound ≡ sound_verdict s
  records_refuse bad = refuse (λ p. bad p.records)

  pub stages_refuse : {b : Bool} → b ≡ stand_in w → not b ≡ true → Err refusal.Unsound ≡ sound_verdict s
  stages_refuse is wrong = refuse (λ p. true≢false (sym p.stages ∙ sym is ∙ not-true _ wrong))

  pub flags_refuse : {f : ℕ} → f ≡ flags_in w → (f ≡ 1 → ⊥) → Err refusal.Unsound ≡ sound_verdict s
  flags_refuse is other = refuse (λ p. other (is ∙ p.one))

  pub counts_refuse : {a c : ℕ} → a ≡ number s 0 8 → c ≡ counts_in w → (c ≡ a / 16777216 → ⊥)
      → Err refusal.Unsound ≡ sound_verdict s
  counts_refuse one is other = refuse (λ p. other (is ∙ p.counts ∙ ap (λ (x : ℕ). x / 16777216) (sym one)))

  pub all_passed : {a b c f : ℕ} {t : Bool} → a ≡ number s 0 8 → b ≡ number s 8 8 → bit_and a 16580096 ≡ 0
      → b ≤ a / 256 % 2 * 4294967295 → w.first ≡ n → t ≡ stand_in w → not t ≡ false → f ≡ flags_in w → f ≡ 1
      → c ≡ counts_in w → c ≡ a / 16777216 → (Ok tt) ≡ sound_verdict s
  all_passed {a} {b} {c} {f} {t} one two mask message records stand stood flags set counts same =
      passed s small size most walked
      (record {
        mask = rw one at mask;
        message = rw (one, two) at message;
        records = records;
        stages = sym stand ∙ not-false _ stood;
        one = sym flags ∙ set;
        counts = sym counts ∙ same ∙ ap (λ (x : ℕ). x / 16777216) one;
      })

-- each test that refuses, and all of them passed
pub ruleset each_test = (mask_refuses, message_refuses, records_refuse, stages_refuse, flags_refuse, all_passed)
