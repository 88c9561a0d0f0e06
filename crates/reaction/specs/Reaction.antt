-- What an event does, in words, as the rule's reaction; and what each part of it must know and does by the rule.
use Rattle.std.specs.Prelude.{ℕ, ◌+◌, ◌*◌, ◌%◌, ◌^◌, ◌≡◌, Bool, true, false, cond}
use Rattle.machine.specs.declared.Reaction as rule-reaction
use Rattle.machine.specs.declared.Traffic.{Traffic}
use Rattle.machine.specs.Bytes.{bit, bit_of}
use Rattle.machine.specs.Fields.{Status, full, empty}
use Rattle.machine.specs.Image.{pair_of}
use Rattle.machine.specs.Events as rule
use Rattle.record.specs.Words.{shown_process, shown_envelope, Tidy, TidyHeader}
use Rattle.reaction.specs.declared.begun.Begun.{Begun}
use Rattle.reaction.specs.declared.Reach.{Reach}
use Rattle.reaction.specs.declared.Reach.TheVariants.{Own, Left, Right}
use Rattle.reaction.specs.declared.Reaction.{Reaction}

-- ---- as the rule has it

-- the rule's reaction
abbrev pub Ruled : Type 0
Ruled = rule-reaction.Reaction

-- the requests that go left, as two bits
abbrev pub asks_in : Reach → ℕ
asks_in Own = 0
asks_in (Left asks) = asks.bits
asks_in Right = 0

-- whether the envelope goes right
abbrev pub leaves_in : Reach → Bool
leaves_in Own = false
leaves_in (Left asks) = false
leaves_in Right = true

-- the one that a reaction in words stands for
abbrev pub shown : Reaction → Ruled
shown r =
    record {
      process = shown_process r.own.word;
      envelope = shown_envelope r.header;
      asks = pair_of (asks_in r.reach) 0;
      leaves = leaves_in r.reach;
      outcome = r.outcome;
    }

-- ---- what is known on the way

-- words in order
pub record Fits (r : Reaction) : Type 0 where
  pub own : Tidy r.own.word
  pub header : TidyHeader r.header

-- what has begun, as a reaction: no neighbour is reached
abbrev pub so_far : Begun → Reaction
so_far b = record { own = b.own; header = b.header; reach = Own; started = b.started; outcome = b.outcome }

-- ---- what is then so

-- t is what f makes of r; N stays, and so does what counts as started
pub record Makes (f : Ruled → Ruled) (r t : Reaction) : Type 0 where
  pub shows : shown t ≡ f (shown r)
  pub fits : Fits t
  pub size : t.header.word % 256 ≡ r.header.word % 256
  pub started : t.started ≡ r.started

-- ---- its traffic

-- of requests as two bits, and of an envelope that leaves or doesn't
abbrev pub traffic_by : ℕ → Bool → Traffic
traffic_by asks leaves =
    record {
      requests = bit (pair_of asks 0).full + bit (pair_of asks 0).empty;
      departures = bit leaves;
    }

-- as part of a word of counts: requests from bit 7 on, departures from bit 56 on
abbrev pub traffic_word : Traffic → ℕ
traffic_word t = 2 ^ 7 * t.requests + 2 ^ 56 * t.departures

-- ---- a put's wish

-- full or empty as one of two bits
abbrev pub pair_for : Status → ℕ
pair_for s = cond s 1 2

-- ask for each status of a set, 1 for full and 2 for empty; 0 is nothing
unfoldable pub asking : ℕ → Ruled → Ruled
asking wish r =
    let first : Ruled = cond (bit_of wish 0) (rule.ask full r) r in
    cond (bit_of wish 1) (rule.ask empty first) first
