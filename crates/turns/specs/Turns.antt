-- What must be known before events are performed one after the other, and what they then come to.
use Rattle.std.specs.Prelude.{ℕ, ◌+◌, ◌*◌, ◌/◌, ◌%◌, ◌^◌, ◌≤◌, ◌<◌, ◌≡◌, true, List, length, Ok}
use Rattle.machine.specs.declared.Counts.{Counts}
use Rattle.machine.specs.declared.Traffic.{Traffic}
use Rattle.machine.specs.Bytes.{splice}
use Rattle.machine.specs.Image.{State, size_in, state_in, image_with}
use Rattle.machine.specs.Events as rule
use Rattle.machine.specs.Run.{ledger_from, counts_from, after}
use Rattle.machine.specs.Traffic.{traffic_from}
use Rattle.machine.specs.Refusals.{codes, image_verdict, event_fits}

-- ---- counts in one word

-- part k of a word, seven bits each, where part 0 is the lowest
abbrev pub part_of : ℕ → ℕ → ℕ
part_of word k = word / 128 ^ k % 128

-- counts with the parts of a word added: idle the lowest, the others from part 2 on
abbrev pub added : Counts → ℕ → Counts
added c word =
    record {
      puts = c.puts + part_of word 6;
      gets = c.gets + part_of word 7;
      fills = c.fills + part_of word 2;
      takes = c.takes + part_of word 3;
      sent = c.sent + part_of word 4;
      got = c.got + part_of word 5;
      idle = c.idle + word % 128;
      records = c.records + (part_of word 2 + part_of word 3 + part_of word 4 + part_of word 5);
    }

-- the traffic of a word: part 1, and all from part 8 on
abbrev pub traffic_in : ℕ → Traffic
traffic_in word = record { requests = part_of word 1; departures = word / 128 ^ 8 }

-- ---- events one after the other

-- an accepted image, at most 63 events that fit its ring, the first of which has this number, and a place in a ledger
-- of no more events than a tape has
pub record Turning (s events : List ℕ) (first from : ℕ) : Type 0 where
  pub fine : image_verdict s ≡ Ok tt
  pub few : length events / 8 ≤ 63
  pub numbers : first + length events / 8 ≤ 4128768
  pub fits : (k : ℕ) → k < length events / 8 → event_fits codes (size_in s) events (8 * k) ≡ true
  pub place : from ≤ 12 * first

-- what events performed from a state on come to, in a word: the counts with any before them, and the traffic
pub record Tallied (st : State) (vs : List rule.Event) (word : ℕ) : Type 0 where
  pub counts : (c : Counts) → added c word ≡ counts_from c st vs
  pub traffic : traffic_in word ≡ traffic_from st vs

-- events performed from the image s and the ledger l on, the first of which has this number, leave the image t, and
-- the ledger m: one that has room for their records from `from` on has them there, and its other bytes stay
pub record Ran (first from : ℕ) (s l : List ℕ) (vs : List rule.Event) (t m : List ℕ) : Type 0 where
  pub image : t ≡ image_with s (after (state_in s) vs)
  pub records : from + length (ledger_from first (state_in s) vs) ≤ length l
      → m ≡ splice l from (ledger_from first (state_in s) vs)
