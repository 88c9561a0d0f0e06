-- The third demand: document 01, "A list of calls". One claim about the whole list, read off the image's bytes and off
-- what the calls showed.
use Rattle.std.specs.Prelude.{ℕ, zero, suc, ◌+◌, ◌≤◌, ◌<◌, ◌≡◌, List, [], ◌∷◌, ◌++◌, length, get_or, eqb}
use Rattle.machine.specs.Bytes.{Bytes, bit, bit_of, number}
use Rattle.machine.specs.Ring.{least, most, image_length, record_at}
use Rattle.machine.specs.Balance.{Totals, PairsEnded}
use Rattle.machine.specs.Answers.{fresh_image, stopped_answer}
use Rattle.calls.specs.Calls.{Call, image_after_all, message_if, shown_by_all}
use Rattle.calls.specs.Calls.Call.{Step, Run, Stopped}

-- byte 1 of record i
abbrev pub flags_at : List ℕ → ℕ → ℕ
flags_at image i = get_or image (record_at i + 1) 0

-- how many of the 2n have (bit 0) and arriving (bit 1) flags are set
unfoldable pub flags_set : List ℕ → ℕ → ℕ
flags_set image zero = 0
flags_set image (suc i) = flags_set image i + bit (bit_of (flags_at image i) 0) + bit (bit_of (flags_at image i) 1)

-- the message in header bytes 8 to 11, if byte 1 says that the envelope is full
abbrev pub own_message_in : List ℕ → List ℕ
own_message_in image = message_if (eqb (get_or image 1 0) 1) (number image 8 4)

-- the stopped call answers yes
abbrev pub SaysStopped : List ℕ → Type 0
SaysStopped image = stopped_answer image ≡ record { number = 0; values = 1 ∷ [] }

-- the envelope is in just one place; messages filled are those taken, in order, followed by the envelope's own exactly
-- when it is full; and if the ring is then stopped, as the caller learns it by IsStopped, puts ended = gets ended = the
-- smaller of puts and gets started
pub record Promised (IsStopped : List ℕ → Type 0) (n : ℕ) (image : List ℕ) (t : Totals) : Type 0 where
  pub one_place : flags_set image n ≡ 1
  pub messages : t.filled ≡ t.taken ++ own_message_in image
  pub stopped : IsStopped image → PairsEnded t

-- what a call is given to read beside the image
abbrev pub given : Call → List ℕ
given (Step event) = event
given (Run tape ledger) = tape
given Stopped = []

-- and that these are bytes, for each call of a list; of a run's ledger buffer nothing need be known
abbrev pub GivenBytes : List Call → Type 0
GivenBytes calls = (k : ℕ) → k < length calls → Bytes (given (get_or calls k Stopped))

-- for every ring of 2 to 64, every home, every buffer of bytes with room for the image, whatever they are, and every
-- list of calls that are given bytes, refused ones included, or none, from what the fresh ring call writes: what holds
-- of n, of the image after the list and of what the calls showed
abbrev pub AfterEveryList : (ℕ → List ℕ → Totals → Type 0) → Type 0
AfterEveryList P =
    (n home : ℕ) → least ≤ n → n ≤ most → home < n → (buffer : List ℕ) → Bytes buffer → image_length n ≤ length buffer
    → (calls : List Call) → GivenBytes calls
    → P n (image_after_all (fresh_image n home buffer) calls) (shown_by_all (fresh_image n home buffer) calls)

-- the demand
abbrev pub ThirdDemand : Type 0
ThirdDemand = AfterEveryList (Promised SaysStopped)
