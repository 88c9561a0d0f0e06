-- The walk over the records, step by step: at first it holds what the rules say of no record, and after each step what
-- they say of one record more.
use Prim.Native.Nat.{ℕ, suc, ◌+◌, ◌-◌, ◌*◌, ◌/◌, ◌%◌, ◌^◌, ◌≤◌, ◌<◌}
use mathlib.Core.Path.{◌≡◌, refl, sym, ap, ◌∙◌}
use mathlib.Core.Bool.{true, cond, and_comm}
use mathlib.Core.List.{List, [], ◌∷◌, ◌++◌}
use mathlib.Core.Logic.{◌⊎◌, inl, inr}
use native.Mathlib.Omega.{arith}
use native.Mathlib.Nat.{le_trans}
use lib.ListN.{length, get_or, take, drop, length-append, length-drop}
use lib.Dec.{eqb, lit≤}
use lib.Bits.{bit_and, bit_or, or_add_and, and_le_l, and_le_r}
use lib.Pow.{pow_mono}
use lib.Seq.{length-take-le}
use lib.Count.{ones}
use borrow.Author.Tests.{eq-eqb, ne_eqb}
use Rattle.machine.specs.declared.Process.{Process}
use Rattle.std.specs.Simd.{first_chunks}
use Rattle.std.proofs.lemmas.List.{same_from_push}
use Rattle.machine.specs.Bytes.{Bytes, bit, part, number}
use Rattle.machine.specs.Lists.{tabulate, all, sum}
use Rattle.machine.specs.Fields.{Status, full, empty, for}
use Rattle.machine.specs.Image.{process_in}
use Rattle.machine.specs.Sound.{holds, record_rules_in, stage_fits, stages_fit, places, marked_set}
use Rattle.machine.proofs.Laws.Bits.{bit_le, is_bit}
use Rattle.machine.proofs.Laws.Bytes.{number_4, number_8, number_lt}
use Rattle.machine.proofs.Laws.Chunks.{length_chunks, chunks_more, chunk_number}
use Rattle.machine.proofs.Laws.Splices.{part_part}
use Rattle.machine.proofs.Laws.Lists.{and_first, and_second, length_tabulate}
use Rattle.machine.proofs.Laws.Walk.{places_le, marked_lt}
use Rattle.sound.specs.declared.walk.Walk.{Walk}
use Rattle.sound.specs.Demands.{from_parts}
use Rattle.sound.specs.Walk.{left_of, own_in, with_full, with_empty, walked_on, flags_in, counts_in}
use Rattle.sound.specs.Walk.{records_from, hold_from, first_bad, marks, Walked}
use Rattle.sound.proofs.Ored.{mask_test}
use Rattle.sound.proofs.Kept.{word_full, word_empty, record_left, stage_left}

-- ---- the first record out of range, as code keeps it

pub first_kept : {first : ℕ} (before here left : ℕ)
    → ((own_in left ≡ 0) × (first ≡ before)) ⊎ ((own_in left ≡ 0 → ⊥) × (first ≡ here))
    → first ≡ cond (eqb (own_in left) 0) before here
first_kept before here left (inl w) = w.1 ∙ rw (eq-eqb (own_in left) 0 w.0)
first_kept before here left (inr w) = w.1 ∙ rw (ne_eqb (own_in left) 0 w.0)

-- ---- the sets

or_zero : (a b : ℕ) → bit_or a b ≡ 0 → (a ≡ 0) × (b ≡ 0)
or_zero a b e =
    let sum = or_add_and a b in
    let one = and_le_l a b in
    let two = and_le_r a b in
    (omega arith, omega arith)

-- no set has a bit
pub counts_none : (w : Walk) → bit_or w.full w.empty ≡ 0 → 0 ≡ counts_in w
unfolding ones
counts_none w none =
    let each = or_zero w.full w.empty none in
    rw (each.0, each.1)

-- ---- the sum

marks_le : (ps : List Process) → marks ps ≤ 2 * length ps
unfolding sum
marks_le [] = lit≤ tt
marks_le (p ∷ ps) = omega (arith, marks_le ps, bit_le (for p.mark full), bit_le (for p.mark empty))

-- the flags of at most 64 records stand below the marks
pub flags_are : (s : List ℕ) (status : Status) (n : ℕ) {w : Walk} → n ≤ 64 → Walked s status 0 n w
    → flags_in w ≡ places (records_from s 0 n)
flags_are s status n {w} few so =
    let ps = records_from s 0 n in
    let low : places ps ≤ 128 = omega (arith, places_le ps, length_tabulate (process_in s) 0 n) in
    let here : (512 * places ps + 2097152 * marks ps) % 2097152 / 512 ≡ places ps = omega arith in
    rw (so.flags, here)

-- a set of fewer than 64 has room for one more
set_below : (s : List ℕ) (st : Status) (i k : ℕ) {set : ℕ} → k < 64 → set ≡ marked_set st (records_from s i k)
    → set < 2 ^ 63
set_below s st i k {set} few is =
    let long = length_tabulate (process_in s) i k in
    let small : marked_set st (records_from s i k) < 2 ^ k = rw long at (marked_lt st (records_from s i k)) in
    rw is (le_trans small (pow_mono {i = k} {j = 63} (omega arith)))

-- and so has the sum
pub room_for_more : (s : List ℕ) (status : Status) (i k : ℕ) {w : Walk} → k < 64 → Walked s status i k w
    → (w.flags < 2 ^ 63) × (w.full < 2 ^ 63) × (w.empty < 2 ^ 63)
room_for_more s status i k {w} few so =
    let ps = records_from s i k in (
      omega (arith, so.flags, length_tabulate (process_in s) i k, places_le ps, marks_le ps),
      set_below s full i k few so.full,
      set_below s empty i k few so.empty,
    )

-- ---- a record's word

module _ (s : List ℕ) (small : Bytes s) (i : ℕ) where
  abbrev at : ℕ
  at = 16 + 8 * i

  abbrev word : ℕ
  word = number s at 8

  abbrev p : Process
  p = process_in s i

  pub word_is : word
      ≡ from_parts (get_or s at 0) (get_or s (at + 1) 0) (get_or s (at + 2) 0) (get_or s (at + 3) 0)
      (number s (at + 4) 4)
  word_is = rw (number_8 s at, number_4 s at) (omega arith)

  full_is : with_full word ≡ 256 * bit p.have + 1048576 * bit (for p.mark full)
  unfolding process_in
  full_is = rw word_is (word_full _ _ _ _ _ (small at) (small (at + 1)) (small (at + 2)) (small (at + 3)))

  empty_is : with_empty word ≡ 512 * bit p.arriving + 2097152 * bit (for p.mark empty)
  unfolding process_in
  empty_is = rw word_is (word_empty _ _ _ _ _ (small at) (small (at + 1)) (small (at + 2)) (small (at + 3)))

  module _ (status : Status) where
    own_is : eqb (own_in (left_of (bit status) word)) 0 ≡ holds (record_rules_in s i)
    unfolding process_in
    own_is =
        rw word_is
        (record_left _ _ _ _ _ (small at) (small (at + 1)) (small (at + 2)) (small (at + 3)) status
        (number_lt s (at + 4) small))

    stage_is : holds (record_rules_in s i) ≡ true
        → eqb (bit_and (left_of (bit status) word) 263) 0 ≡ stage_fits status p.have p.stage
    unfolding process_in
    stage_is ok =
        rw word_is
        (stage_left _ _ _ _ _ (small at) (small (at + 1)) (small (at + 2)) (small (at + 3)) status
        (number_lt s (at + 4) small) ok)

    -- ---- the walk, with record i before those behind it

    walk_more : (k : ℕ) {w : Walk} → Walked s status (i + 1) k w
        → Walked s status i (suc k) (walked_on w (bit status) i word)
    unfolding walked_on first_bad tabulate all sum stages_fit marked_set
    walk_more k {w} so =
        let ps = records_from s (i + 1) k in
        let one = bit_le p.have in
        let two = bit_le p.arriving in
        let mf = bit_le (for p.mark full) in
        let me = bit_le (for p.mark empty) in
        let digit : (256 * bit p.have + 1048576 * bit (for p.mark full)) / 1048576 ≡ bit (for p.mark full) =
        omega arith in
        let digit' : (512 * bit p.arriving + 2097152 * bit (for p.mark empty)) / 2097152
        ≡ bit (for p.mark empty) = omega arith in
        record {
          first = rw (own_is, so.first);
          stages =
              λ ok.
              let here = and_first (holds (record_rules_in s i)) (hold_from s (i + 1) k) ok in
              let rest = so.stages (and_second (holds (record_rules_in s i)) (hold_from s (i + 1) k) ok) in
              mask_test w.left (left_of (bit status) word) 263
              ∙ rw (rest, stage_is here) (and_comm (stages_fit status ps) (stage_fits status p.have p.stage));
          flags = rw (full_is, empty_is, so.flags) (omega arith);
          full = rw (full_is, digit, so.full) (omega arith);
          empty = rw (empty_is, digit', so.empty) (omega arith);
        }

pub walk_none : (s : List ℕ) (status : Status) (i : ℕ)
    → Walked s status i 0 (record { first = i; left = 0; flags = 0; full = 0; empty = 0 })
unfolding first_bad tabulate all sum stages_fit marked_set
walk_none s status i =
    record {
      first = refl;
      stages = λ ok. refl;
      flags = refl;
      full = refl;
      empty = refl;
    }

-- as code has it: the status as a digit, and so many records up to n
pub walk_step : (s : List ℕ) → Bytes s → (digit n i : ℕ) {w w' : Walk} {word : ℕ} → digit < 2 → i < n
    → Walked s (eqb digit 1) (i + 1) (n - (i + 1)) w → word ≡ number s (16 + 8 * i) 8 → w' ≡ walked_on w digit i word
    → Walked s (eqb digit 1) i (n - i) w'
walk_step s small digit n i {w} {w'} {word} two below so read next =
    let same : bit (eqb digit 1) ≡ digit = is_bit digit (omega arith) in
    let one : n - i ≡ suc (n - (i + 1)) = omega arith in
    rw (next, read, one) (rw same at (walk_more s small i (eqb digit 1) (n - (i + 1)) so))

-- ---- the loop, in reverse over the chunks of 8 bytes behind the header

-- the first chunk has number `count`; `rest` are still to come
pub record Going (s : List ℕ) (status : Status) (n count : ℕ) (rest : List (List ℕ)) (w : Walk) : Type 0 where
  pub none : count ≡ 0
  pub few : length rest ≤ n
  pub chunks : rest ≡ first_chunks 8 (length rest) (part s 16 (8 * n))
  pub walked : Walked s status (length rest) (n - length rest) w

pub going_start : (s : List ℕ) (status : Status) (n : ℕ) → 16 + 8 * n ≤ length s → {count width : ℕ}
    {rest : List (List ℕ)} → count ≡ 0 → width ≡ 8 * n
    → rest ≡ first_chunks 8 (length (part s 16 width) / 8) (part s 16 width)
    → Going s status n count rest (record { first = n; left = 0; flags = 0; full = 0; empty = 0 })
going_start s status n room {count} {width} {rest} none wide is =
    let part_long : length (part s 16 width) ≡ width =
    length-take-le width (drop 16 s) (omega (arith, length-drop 16 s)) in
    let so_many : length (part s 16 width) / 8 ≡ n = omega arith in
    let long : length rest ≡ n = ap length is ∙ length_chunks 8 _ (part s 16 width) ∙ so_many in
    let left : n - n ≡ 0 = omega arith in
    record {
      none = none;
      few = omega arith;
      chunks = rw (long, ← wide) (rw so_many at is);
      walked = rw (long, left) (walk_none s status n);
    }

one_less : {rest : List (List ℕ)} (before : List (List ℕ)) (bytes : List ℕ) → rest ≡ before ++ (bytes ∷ [])
    → length rest ≡ suc (length before)
one_less before bytes next = omega (arith, ap length next, length-append before (bytes ∷ []))

pub going_room : {s : List ℕ} {status : Status} {n count : ℕ} {rest : List (List ℕ)} {w : Walk}
    → Going s status n count rest w → n ≤ 64 → (before : List (List ℕ)) (bytes : List ℕ) → rest ≡ before ++ (bytes ∷ [])
    → (w.flags < 2 ^ 63) × (w.full < 2 ^ 63) × (w.empty < 2 ^ 63)
going_room {s} {status} {n} {count} {rest} g few before bytes next =
    room_for_more s status (length rest) (n - length rest) (omega (arith, one_less before bytes next, g.few)) g.walked

pub going_on : {s : List ℕ} {n count : ℕ} {rest : List (List ℕ)} {w : Walk} → Bytes s → (digit : ℕ) → digit < 2
    → Going s (eqb digit 1) n count rest w → (before : List (List ℕ)) (bytes : List ℕ) → rest ≡ before ++ (bytes ∷ [])
    → {count' i word : ℕ} {w' : Walk} → count' ≡ count → i ≡ count + length before → word ≡ number bytes 0 8
    → w' ≡ walked_on w digit i word → Going s (eqb digit 1) n count' before w'
going_on {s} {n} {count} {rest} {w} small digit two g before bytes next {count'} {i} {word} {w'} same here read step =
    let S = part s 16 (8 * n) in
    let less = one_less before bytes next in
    let two_ways : before ++ (bytes ∷ [])
    ≡ first_chunks 8 (length before) S ++ (take 8 (drop (8 * length before) S) ∷ []) =
    sym next ∙ rw less at g.chunks ∙ chunks_more 8 (length before) S in
    let parts = same_from_push before (first_chunks 8 (length before) S) bytes _ two_ways in
    let this : bytes ≡ part s (16 + 8 * length before) 8 =
    parts.1 ∙ part_part s 16 (8 * n) (8 * length before) 8 (omega (arith, less, g.few)) in
    let at : i ≡ length before = omega (arith, g.none) in
    let left : n - length before ≡ suc (n - (length before + 1)) = omega (arith, less, g.few) in
    let more : length rest ≡ length before + 1 = omega arith in
    record {
      none = same ∙ g.none;
      few = omega (arith, less, g.few);
      chunks = parts.0;
      walked =
          walk_step s small digit n (length before) two (omega (arith, less, g.few)) (rw more at g.walked)
          (read ∙ ap (λ (l : List ℕ). number l 0 8) this ∙ chunk_number s (16 + 8 * length before))
          (step ∙ ap (λ (k : ℕ). walked_on w digit k word) at);
    }

pub going_end : {s : List ℕ} {status : Status} {n count : ℕ} {rest : List (List ℕ)} {w : Walk}
    → Going s status n count rest w → length rest ≡ 0 → Walked s status 0 n w
going_end {n = n} g none = let whole : n - 0 ≡ n = omega arith in rw (none, whole) at g.walked
