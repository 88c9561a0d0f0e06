-- What a record's mask leaves of it: of its own bytes nothing where they are in range, and something where they aren't;
-- and where they are, none of the bits turned over just where its stage has the envelope that it needs. A mask and a
-- record are taken apart into four bytes and the note.
use Prim.Native.Nat.{ℕ, ◌+◌, ◌*◌, ◌/◌, ◌%◌, ◌^◌, ◌≤◌, ◌<◌}
use mathlib.Core.Path.{◌≡◌, refl, sym, ap, ◌∙◌}
use mathlib.Core.Bool.{Bool, true, false, true≢false, not, cond, ◌&&◌, ◌||◌}
use native.Mathlib.Omega.{arith}
use lib.Dec.{eqb, leb}
use lib.Bits.{bit_and, bit_xor, and_comm, and_lt, and_mod, and_zero_r, xor_lt, xor_zero_r}
use borrow.Author.Tests.{eqb-true, eqb-false, leb-true, le-leb, eq-eqb, ne_eqb}
use Rattle.machine.specs.Bytes.{bit, bit_of}
use Rattle.machine.specs.Fields.{Status, full, empty}
use Rattle.machine.specs.Image.{process_from}
use Rattle.machine.specs.Stages.{noted, markable, with_empty, with_full}
use Rattle.machine.specs.Sound.{holds, record_rules, stage_fits}
use Rattle.machine.proofs.Laws.Bits.{bit_le, bit_is}
use Rattle.sound.specs.Demands.{against, stage_mask, flag_mask, mark_mask, note_mask, from_parts, mask_of, entry_of}
use Rattle.sound.specs.Demands.{beyond_mask, demand_of}
use Rattle.sound.specs.Walk as walk
use Rattle.sound.specs.Walk.{left_of, own_in}
use Rattle.sound.proofs.Masks.{two_parts, two_turned, byte_mask, stage_in_range, stage_stands, flags_in_range}
use Rattle.sound.proofs.Masks.{have_there, have_bit, arriving_bit, full_bit, empty_bit, marks_fit, mask_byte}
use Rattle.sound.proofs.Masks.{mask_note}

by_test : {P : Type 0} (b : Bool) → (b ≡ true → P) → (b ≡ false → P) → P
by_test true f g = f refl
by_test false f g = g refl

-- ---- tests

-- as the rules group them
regrouped : (z a b c d e : Bool) → z && a && (b && c) && d && e ≡ z && a && b && c && d && e
regrouped true true b c d e = refl
regrouped true false b c d e = refl
regrouped false a b c d e = refl

-- a stage that needs the envelope of one status, or of the other
needs_envelope : (status with_empty with_full have : Bool)
    → not (cond status with_empty with_full) && (not (with_empty || with_full) || have) && true && true && true
    ≡ (not with_empty || have && not status) && (not with_full || have && status)
needs_envelope true true f true = refl
needs_envelope true true f false = refl
needs_envelope true false true true = refl
needs_envelope true false true false = refl
needs_envelope true false false h = refl
needs_envelope false true true true = refl
needs_envelope false true true false = refl
needs_envelope false false true true = refl
needs_envelope false false true false = refl
needs_envelope false true false true = refl
needs_envelope false true false false = refl
needs_envelope false false false h = refl

-- ---- words in five parts

-- a word of parts has none just where no part has one
parts_none : (a b c d e : ℕ)
    → eqb (from_parts a b c d e) 0 ≡ eqb a 0 && eqb b 0 && eqb c 0 && eqb d 0 && eqb e 0
parts_none a b c d e =
    by_test (eqb a 0)
    (λ p.
    by_test (eqb b 0)
    (λ q.
    by_test (eqb c 0)
    (λ r.
    by_test (eqb d 0)
    (λ t.
    by_test (eqb e 0)
    (λ u.
    let none : from_parts a b c d e ≡ 0 =
    omega (arith, eqb-true a 0 p, eqb-true b 0 q, eqb-true c 0 r, eqb-true d 0 t, eqb-true e 0 u) in
    eq-eqb (from_parts a b c d e) 0 none ∙ rw (p, q, r, t, u))
    (λ u. some (eqb-false e 0 u) (λ z. omega arith) ∙ rw (p, q, r, t, u)))
    (λ t. some (eqb-false d 0 t) (λ z. omega arith) ∙ rw (p, q, r, t)))
    (λ r. some (eqb-false c 0 r) (λ z. omega arith) ∙ rw (p, q, r)))
    (λ q. some (eqb-false b 0 q) (λ z. omega arith) ∙ rw (p, q)))
    (λ p. some (eqb-false a 0 p) (λ z. omega arith) ∙ rw p)
  where
    some : {x : ℕ} → (x ≡ 0 → ⊥) → (from_parts a b c d e ≡ 0 → x ≡ 0) → eqb (from_parts a b c d e) 0 ≡ false
    some ne of = ne_eqb (from_parts a b c d e) 0 (λ z. ne (of z))

-- part by part
and_parts : (a b c d e a' b' c' d' e' : ℕ) → a < 256 → b < 256 → c < 256 → d < 256 → a' < 256 → b' < 256 → c' < 256
    → d' < 256
    → bit_and (from_parts a b c d e) (from_parts a' b' c' d' e')
    ≡ from_parts (bit_and a a') (bit_and b b') (bit_and c c') (bit_and d d') (bit_and e e')
and_parts a b c d e a' b' c' d' e' la lb lc ld la' lb' lc' ld' =
    two_parts a a' (b + 256 * (c + 256 * (d + 256 * e))) (b' + 256 * (c' + 256 * (d' + 256 * e'))) la la'
    ∙ rw (
      two_parts b b' (c + 256 * (d + 256 * e)) (c' + 256 * (d' + 256 * e')) lb lb',
      two_parts c c' (d + 256 * e) (d' + 256 * e') lc lc',
      two_parts d d' e e' ld ld',
    )

-- ---- a record

module _ (stage flags requests third note : ℕ) (s_lt : stage < 256) (f_lt : flags < 256) (r_lt : requests < 256)
    (t_lt : third < 256) where
  abbrev word : ℕ
  word = from_parts stage flags requests third note

  -- have with mark full, and arriving with mark empty
  pub word_full : walk.with_full word ≡ 256 * bit (bit_of flags 0) + 1048576 * bit (bit_of requests 4)
  word_full =
      and_parts stage flags requests third note 0 1 16 0 0 s_lt f_lt r_lt t_lt (omega arith) (omega arith)
      (omega arith) (omega arith)
      ∙ rw (
        and_zero_r stage,
        have_bit flags f_lt,
        full_bit requests r_lt,
        and_zero_r third,
        and_zero_r note,
      )
      (omega arith)

  pub word_empty : walk.with_empty word ≡ 512 * bit (bit_of flags 1) + 2097152 * bit (bit_of requests 5)
  word_empty =
      and_parts stage flags requests third note 0 2 32 0 0 s_lt f_lt r_lt t_lt (omega arith) (omega arith)
      (omega arith) (omega arith)
      ∙ rw (
        and_zero_r stage,
        arriving_bit flags f_lt,
        empty_bit requests r_lt,
        and_zero_r third,
        and_zero_r note,
      )
      (omega arith)

  -- the bits turned over are of the two lowest bytes
  turned : bit_xor word 263 ≡ from_parts (bit_xor stage 7) (bit_xor flags 1) requests third note
  turned =
      two_turned stage 7 (flags + 256 * (requests + 256 * (third + 256 * note))) 1 s_lt (omega arith)
      ∙ rw (
        two_turned flags 1 (requests + 256 * (third + 256 * note)) 0 f_lt (omega arith),
        xor_zero_r (requests + 256 * (third + 256 * note)),
      )

  turned_stage : bit_xor stage 7 < 256
  turned_stage = xor_lt 8 stage 7 s_lt (omega arith)

  turned_flags : bit_xor flags 1 < 256
  turned_flags = xor_lt 8 flags 1 f_lt (omega arith)

  module _ (status : Status) (n_lt : note < 2 ^ 32) where
    abbrev low : ℕ
    low = stage % 16

    abbrev left : ℕ
    left = left_of (bit status) word

    abbrev have : Bool
    have = bit_of flags 0

    note_whole : (free : Bool) → bit_and (cond free 0 note) 4294967295 ≡ cond free 0 note
    note_whole true = refl
    note_whole false = and_comm note 4294967295 ∙ mask_note false note n_lt

    note_fitting : (free : Bool) → eqb (cond free 0 note) 0 ≡ free || eqb note 0
    note_fitting true = refl
    note_fitting false = refl

    -- ---- the mask

    low_is : word % 16 ≡ low
    low_is = omega arith

    demand_is : demand_of (entry_of (bit status) word)
        ≡ cond (leb low 10) (mask_of status low) (beyond_mask (16 * bit status + low))
    unfolding demand_of
    demand_is =
        let two = bit_le status in
        let four : low < 16 = omega arith in
        let part : (16 * bit status + low) / 16 ≡ bit status = omega arith in
        let rest : (16 * bit status + low) % 16 ≡ low = omega arith in
        rw (low_is, part, rest, bit_is status (bit status) refl)

    -- its lowest byte
    demand_byte : demand_of (entry_of (bit status) word) % 256 ≡ byte_mask status low
    demand_byte =
        by_test (leb low 10)
        (λ t.
        let one = bit_le (against status low) in
        let byte : stage_mask status low < 256 = omega arith in
        ap (λ (x : ℕ). x % 256) demand_is ∙ rw t (omega arith))
        (λ t.
        let one = bit_le (eqb (16 * bit status + low) 31) in
        ap (λ (x : ℕ). x % 256) demand_is ∙ rw t (omega arith))

    -- what is left of byte 0
    left_byte : left % 256 ≡ bit_and (byte_mask status low) (bit_xor stage 7)
    left_byte =
        let byte : from_parts (bit_xor stage 7) (bit_xor flags 1) requests third note % 256 ≡ bit_xor stage 7 =
        omega (arith, turned_stage) in
        and_mod (demand_of (entry_of (bit status) word)) (bit_xor word 263) 8 ∙ rw (demand_byte, turned, byte)

    -- ---- a stage up to 10

    module _ (in_range : stage ≤ 10) where
      itself : low ≡ stage
      itself = omega arith

      there : leb stage 10 ≡ true
      there = le-leb stage 10 in_range

      -- the bytes of what is left, and the note
      abbrev l0 : ℕ
      l0 = bit_and (stage_mask status stage) (bit_xor stage 7)

      abbrev l1 : ℕ
      l1 = bit_and (flag_mask stage) (bit_xor flags 1)

      abbrev l2 : ℕ
      l2 = bit_and (mark_mask stage) requests

      abbrev l4 : ℕ
      l4 = cond (noted stage) 0 note

      -- what is left, part by part
      left_is : left
          ≡ from_parts l0 l1 l2 third l4
      left_is =
          let one = bit_le (against status stage) in
          let two = bit_le (with_empty stage || with_full stage) in
          let three = bit_le (not (markable full stage)) in
          let four = bit_le (not (markable empty stage)) in
          let mask : demand_of (entry_of (bit status) word) ≡ mask_of status stage = demand_is ∙ rw (itself, there) in
          rw (mask, turned)
          (and_parts (stage_mask status stage) (flag_mask stage) (mark_mask stage) 255 (note_mask stage)
          (bit_xor stage 7) (bit_xor flags 1) requests third note (omega arith) (omega arith) (omega arith)
          (omega arith)
          turned_stage turned_flags r_lt t_lt
          ∙ rw (mask_byte third t_lt, mask_note (noted stage) note n_lt))

      l0_lt : l0 < 256
      l0_lt =
          let one = bit_le (against status stage) in
          and_lt 8 (stage_mask status stage) (bit_xor stage 7) (omega arith) turned_stage

      l1_lt : l1 < 256
      l1_lt =
          let one = bit_le (with_empty stage || with_full stage) in
          and_lt 8 (flag_mask stage) (bit_xor flags 1) (omega arith) turned_flags

      l2_lt : l2 < 256
      l2_lt =
          let one = bit_le (not (markable full stage)) in
          let two = bit_le (not (markable empty stage)) in
          and_lt 8 (mark_mask stage) requests (omega arith) r_lt

      -- its own bytes leave nothing just where they are in range
      own_left : eqb (own_in left) 0 ≡ holds (record_rules flags third (process_from stage flags requests note))
      own_left =
          let here : byte_mask status low ≡ stage_mask status stage = rw (itself, there) in
          let stage_fitting : eqb (bit_and l0 248) 0 ≡ leb stage 10 = rw here at (stage_in_range status stage s_lt) in
          rw left_is
          (ap (λ (x : ℕ). eqb x 0)
          (and_parts l0 l1 l2 third l4 248 254 255 255 4294967295 l0_lt l1_lt l2_lt t_lt (omega arith) (omega arith)
          (omega arith) (omega arith))
          ∙ rw (
            and_comm l2 255,
            mask_byte l2 l2_lt,
            and_comm third 255,
            mask_byte third t_lt,
            note_whole (noted stage),
            parts_none (bit_and l0 248) (bit_and l1 254) l2 third l4,
            stage_fitting,
            flags_in_range (with_empty stage || with_full stage) flags f_lt,
            marks_fit (markable full stage) (markable empty stage) requests r_lt,
            note_fitting (noted stage),
          )
          (regrouped (leb stage 10) (leb flags 7) (not (bit_of requests 4) || markable full stage)
          (not (bit_of requests 5) || markable empty stage) (eqb third 0) (noted stage || eqb note 0)))

      -- and none of the bits turned over is left just where the stage has the envelope that it needs
      turned_left : eqb (bit_and left 263) 0 ≡ stage_fits status have stage
      turned_left =
          rw left_is
          (ap (λ (x : ℕ). eqb x 0)
          (and_parts l0 l1 l2 third l4 7 1 0 0 0 l0_lt l1_lt l2_lt t_lt (omega arith) (omega arith) (omega arith)
          (omega arith))
          ∙ rw (
            and_zero_r l2,
            and_zero_r third,
            and_zero_r l4,
            parts_none (bit_and l0 7) (bit_and l1 1) 0 0 0,
            stage_stands status stage in_range,
            have_there (with_empty stage || with_full stage) flags f_lt,
          )
          (needs_envelope status (with_empty stage) (with_full stage) have))

    -- ---- for every stage

    -- a stage above 10 is left itself
    beyond_left : leb stage 10 ≡ false → eqb (own_in left) 0 ≡ false
    beyond_left beyond =
        ne_eqb (own_in left) 0
        (λ none.
        let byte : own_in left % 256 ≡ bit_and (bit_and (byte_mask status low) (bit_xor stage 7)) 248 =
        and_mod left 18446744073709551352 8 ∙ rw left_byte in
        let zero : bit_and (bit_and (byte_mask status low) (bit_xor stage 7)) 248 ≡ 0 = omega (arith, none, byte) in
        true≢false (sym (eq-eqb _ 0 zero) ∙ stage_in_range status stage s_lt ∙ beyond))

    -- whether the record's bytes are in range
    abbrev in_range : Bool
    in_range = holds (record_rules flags third (process_from stage flags requests note))

    pub record_left : eqb (own_in left) 0 ≡ in_range
    record_left = by_test (leb stage 10) (λ t. own_left (leb-true stage 10 t)) (λ t. beyond_left t ∙ rw t)

    pub stage_left : in_range ≡ true → eqb (bit_and left 263) 0 ≡ stage_fits status have stage
    stage_left ok =
        by_test (leb stage 10) (λ t. turned_left (leb-true stage 10 t))
        (λ t. let none : false ≡ true = rw t at ok in absurd (true≢false (sym none)))
