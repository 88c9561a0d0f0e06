-- The walk of the stopped call, by the records' words: nothing waits exactly when events 2 to 7 are idle. News, an
-- arriving envelope and requests on a link are bits of a record, so one mask over all words, or-ed, tests them. Main or
-- get ends a stage just where 13 times it has bit 2 or bit 5, computed at all eleven; what is or-ed has a bit only if a
-- part has it. The image was found sound before, so no stage is above 10.
use Prim.Native.Nat.{ℕ, ◌+◌, ◌*◌, ◌%◌, ◌≤◌, ◌<◌}
use mathlib.Core.Path.{◌≡◌, refl, ◌∙◌}
use mathlib.Core.Bool.{Bool, true, false, not, ◌&&◌, beq, and-true}
use mathlib.Core.List.{List}
use native.Mathlib.Omega.{arith}
use lib.ListN.{get_or}
use lib.Dec.{eqb}
use lib.Bits.{bit_and, bit_or, and_zero_r}
use borrow.Author.Tests.{eqb-true}
use Rattle.machine.specs.declared.Envelope.{Envelope}
use Rattle.machine.specs.Bytes.{Bytes, bit, bit_of, number}
use Rattle.machine.specs.Lists.{every, all}
use Rattle.machine.specs.Image.{process_in, processes_in}
use Rattle.machine.specs.Stages.{told}
use Rattle.machine.specs.Sound.{records_fit}
use Rattle.machine.specs.Stopped.{quiet}
use Rattle.machine.proofs.Laws.Lists.{every_at, all_more, same_bool}
use Rattle.machine.proofs.Soundness.Sound.{record_facts}
use Rattle.machine.proofs.Stopped.{quiet_nothing}
use Rattle.machine.proofs.Laws.Walk.{processes_none, processes_more}
use Rattle.machine.proofs.Laws.Ored.{or_none}
use Rattle.sound.specs.Demands.{from_parts}
use Rattle.sound.proofs.Masks.{two_parts}
use Rattle.sound.proofs.Ored.{mask_test}
use Rattle.sound.proofs.Walked.{word_is}
use Rattle.stopped.specs.Stopped.{QuietAre}

-- ---- tests that the checker computes

-- of two and two, the first of each
pairs : (a b c d : Bool) → (a && b) && (c && d) ≡ (a && c) && (b && d)
pairs true true c d = refl
pairs true false true d = refl
pairs true false false d = refl
pairs false b c d = refl

bits_six : ℕ → Bool
bits_six x = eqb (bit_and x 6) (2 * bit (bit_of x 1) + 4 * bit (bit_of x 2))

all_six : every 256 bits_six ≡ true
unfolding every bits_six
all_six = refl

bits_top : ℕ → Bool
bits_top x = eqb (bit_and x 192) (64 * bit (bit_of x 6) + 128 * bit (bit_of x 7))

all_top : every 256 bits_top ≡ true
unfolding every bits_top
all_top = refl

-- neither main nor get ends this stage
abbrev resting : ℕ → Bool
resting stage = not (eqb stage 3) && not (eqb stage 8) && not (told stage)

same_bits : ℕ → Bool
same_bits stage = beq (eqb (bit_and (13 * stage) 36) 0) (resting stage)

all_stages : every 11 same_bits ≡ true
unfolding every same_bits
all_stages = refl

bits_2_5 : (stage : ℕ) → stage ≤ 10 → eqb (bit_and (13 * stage) 36) 0 ≡ resting stage
unfolding same_bits
bits_2_5 stage small = same_bool _ _ (every_at 11 same_bits all_stages stage (omega arith))

-- ---- a record's word

four_bits : (a n f e : Bool)
    → eqb (from_parts 0 (2 * bit a + 4 * bit n) (64 * bit f + 128 * bit e) 0 0) 0 ≡ not a && not f && not e && not n
four_bits true true true true = refl
four_bits true true true false = refl
four_bits true true false true = refl
four_bits true true false false = refl
four_bits true false true true = refl
four_bits true false true false = refl
four_bits true false false true = refl
four_bits true false false false = refl
four_bits false true true true = refl
four_bits false true true false = refl
four_bits false true false true = refl
four_bits false true false false = refl
four_bits false false true true = refl
four_bits false false true false = refl
four_bits false false false true = refl
four_bits false false false false = refl

module _ (stage flags requests third note : ℕ) (s_lt : stage < 256) (f_lt : flags < 256) (r_lt : requests < 256)
    (t_lt : third < 256) where
  abbrev word : ℕ
  word = from_parts stage flags requests third note

  links_left : bit_and word 12584448
      ≡ from_parts 0 (2 * bit (bit_of flags 1) + 4 * bit (bit_of flags 2))
      (64 * bit (bit_of requests 6) + 128 * bit (bit_of requests 7)) 0 0
  unfolding bits_six bits_top
  links_left =
      rw (
        two_parts stage 0 (flags + 256 * (requests + 256 * (third + 256 * note))) 49158 s_lt (omega arith),
        two_parts flags 6 (requests + 256 * (third + 256 * note)) 192 f_lt (omega arith),
        two_parts requests 192 (third + 256 * note) 0 r_lt (omega arith),
        and_zero_r stage,
        and_zero_r (third + 256 * note),
        eqb-true (bit_and flags 6) _ (every_at 256 bits_six all_six flags f_lt),
        eqb-true (bit_and requests 192) _ (every_at 256 bits_top all_top requests r_lt),
      )

  low_byte : word % 256 ≡ stage
  low_byte = omega arith

turn : (a f e n r : Bool) → (a && f && e && n) && r ≡ r && a && f && e && n
turn a f e n true = and-true (a && f && e && n)
turn a f e n false = none (a && f && e && n)
  where
    none : (b : Bool) → b && false ≡ false
    none true = refl
    none false = refl

-- nothing waits exactly when events 2 to 7 are idle
word_quiet : (s : List ℕ) → Bytes s → (i : ℕ) → (process_in s i).stage ≤ 10 → (e : Envelope)
    → eqb (bit_and (number s (16 + 8 * i) 8) 12584448) 0 && eqb (bit_and (13 * (number s (16 + 8 * i) 8 % 256)) 36) 0
    ≡ quiet e (process_in s i)
unfolding process_in
word_quiet s small i stage e =
    let at = 16 + 8 * i in
    let st = get_or s at 0 in
    let fl = get_or s (at + 1) 0 in
    let rq = get_or s (at + 2) 0 in
    let th = get_or s (at + 3) 0 in
    let nt = number s (at + 4) 4 in
    rw (
      word_is s small i,
      links_left st fl rq th nt (small at) (small (at + 1)) (small (at + 2)) (small (at + 3)),
      low_byte st fl rq th nt (small at) (small (at + 1)) (small (at + 2)) (small (at + 3)),
      four_bits (bit_of fl 1) (bit_of fl 2) (bit_of rq 6) (bit_of rq 7),
      bits_2_5 st stage,
      quiet_nothing e (process_in s i),
    )
    (turn (not (bit_of fl 1)) (not (bit_of rq 6)) (not (bit_of rq 7)) (not (bit_of fl 2)) (resting st))

-- ---- the walk

-- the test of all words under their mask, and of all stages
abbrev pub none_waits : ℕ → ℕ → Bool
none_waits any stages = eqb (bit_and any 12584448) 0 && eqb stages 0

pub quiet_none : (s : List ℕ) → QuietAre s 0 (none_waits 0 0)
unfolding all
quiet_none s e = rw (processes_none s)

pub quiet_more : (s : List ℕ) → Bytes s → (n i any stages : ℕ) {word : ℕ} → records_fit s n ≡ true → i < n
    → QuietAre s i (none_waits any stages) → word ≡ number s (16 + 8 * i) 8
    → QuietAre s (i + 1) (none_waits (bit_or any word) (bit_or stages (bit_and (13 * (word % 256)) 36)))
quiet_more s small n i any stages {word} fit below before read e =
    let here : none_waits word (bit_and (13 * (word % 256)) 36) ≡ quiet e (process_in s i) =
    rw read (word_quiet s small i (record_facts s n fit i below).stage e) in
    rw (mask_test any word 12584448, or_none stages (bit_and (13 * (word % 256)) 36))
    (pairs (eqb (bit_and any 12584448) 0) (eqb (bit_and word 12584448) 0) (eqb stages 0) _
    ∙ rw (
      before e,
      here,
      processes_more s i,
      all_more (quiet e) (processes_in s i) (process_in s i),
    ))
