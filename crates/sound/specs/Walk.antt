-- What one walk over the records gathers, for every image, sound or not: document 01, "The image", its paragraph on
-- soundness; document 02, A.3.
use Rattle.std.specs.Prelude.{ℕ, zero, suc, ◌+◌, ◌*◌, ◌/◌, ◌%◌, ◌≡◌, Bool, true, cond, List, eqb}
use Rattle.std.specs.Int.Bits.{bit_and, bit_or, bit_xor}
use Rattle.std.specs.Int.Count.{ones}
use Rattle.machine.specs.declared.Process.{Process}
use Rattle.machine.specs.Bytes.{bit}
use Rattle.machine.specs.Fields.{Status, full, empty, for}
use Rattle.machine.specs.Lists.{tabulate, all, sum}
use Rattle.machine.specs.Image.{process_in}
use Rattle.machine.specs.Sound.{holds, record_rules_in, stages_fit, places, marked_set}
use Rattle.sound.specs.declared.walk.Walk.{Walk}
use Rattle.sound.specs.Demands.{entry_of, demand_of}

-- ---- one record more

-- what is left of a record under its mask, have and the stage's three lowest bits turned over: all of it is wrong
abbrev pub left_of : ℕ → ℕ → ℕ
left_of status word = bit_and (demand_of (entry_of status word)) (bit_xor word 263)

-- its part that no bit turned over is in: 0 where the record's own bytes are in range
abbrev pub own_in : ℕ → ℕ
own_in left = bit_and left 18446744073709551352

-- have with mark full, and arriving with mark empty, where they stand in a record
abbrev pub with_full : ℕ → ℕ
with_full word = bit_and word 1048832

abbrev pub with_empty : ℕ → ℕ
with_empty word = bit_and word 2097664

unfoldable pub walked_on : Walk → ℕ → ℕ → ℕ → Walk
walked_on w status i word =
    record {
      first = cond (eqb (own_in (left_of status word)) 0) w.first i;
      left = bit_or w.left (left_of status word);
      flags = w.flags + 2 * with_full word + with_empty word;
      full = 2 * w.full + with_full word / 1048576;
      empty = 2 * w.empty + with_empty word / 2097152;
    }

-- ---- what is read off it

-- no bit turned over is left
abbrev pub stand_in : Walk → Bool
stand_in w = eqb (bit_and w.left 263) 0

-- how many flags: they are summed up from bit 9 on, and marks from bit 21 on
abbrev pub flags_in : Walk → ℕ
flags_in w = w.flags % 2097152 / 512

-- both counts, as the header has them: full in a byte, empty above it
abbrev pub counts_in : Walk → ℕ
counts_in w = ones w.full + 256 * ones w.empty

-- ---- what it means

-- the records i, i + 1, .. (k of them)
abbrev pub records_from : List ℕ → ℕ → ℕ → List Process
records_from s i k = tabulate (process_in s) i k

-- whether the bytes of k records from i on are in range
abbrev pub hold_from : List ℕ → ℕ → ℕ → Bool
hold_from s i k = all (λ b. b) (tabulate (λ j. holds (record_rules_in s j)) i k)

-- the first of k records from i on whose bytes aren't; i + k, where there is none
unfoldable pub first_bad : List ℕ → ℕ → ℕ → ℕ
first_bad s i zero = i
first_bad s i (suc k) = cond (holds (record_rules_in s i)) (first_bad s (i + 1) k) i

-- how many marks stand, for full and for empty
abbrev pub marks : List Process → ℕ
marks ps = sum (λ p. bit (for p.mark full) + bit (for p.mark empty)) ps

-- of k records from i on, under this status
pub record Walked (s : List ℕ) (status : Status) (i k : ℕ) (w : Walk) : Type 0 where
  pub first : w.first ≡ first_bad s i k
  pub stages : hold_from s i k ≡ true → stand_in w ≡ stages_fit status (records_from s i k)
  pub flags : w.flags ≡ 512 * places (records_from s i k) + 2097152 * marks (records_from s i k)
  pub full : w.full ≡ marked_set full (records_from s i k)
  pub empty : w.empty ≡ marked_set empty (records_from s i k)
