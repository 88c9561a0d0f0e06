-- Lists of the calls that the suite's host makes, and the third demand over them: document 01, "A list of calls", with
-- step, run and stopped called through plain numbers and byte slices ("The tape"). What a call shows is read from the
-- number that it returns and from the result slice and the ledger as it leaves them.
use Rattle.std.specs.Prelude.{ℕ, ◌*◌, ◌≤◌, ◌<◌, ◌≡◌, List, [], ◌∷◌, map, length}
use Rattle.machine.specs.Bytes.{Bytes, number}
use Rattle.machine.specs.Lists.{tabulate}
use Rattle.machine.specs.Ring.{least, most, image_length}
use Rattle.machine.specs.Balance.{Totals}
use Rattle.machine.specs.Answers.{Answer, fresh_image, stopped_answer}
use Rattle.machine.specs.Host.{returned, result_after, lent_with}
use Rattle.calls.specs.Calls.{Call, answer_of, ledger_of, ledger_after, image_after, nothing, call_shows, plus}
use Rattle.calls.specs.Demand.{Promised, GivenBytes}

-- a call, with a result slice of any length
pub record HostCall : Type 0 where
  pub call : Call
  pub result : List ℕ

-- ---- the image

-- the image as a call leaves it; with a short result slice it stays
abbrev pub host_image : List ℕ → HostCall → List ℕ
host_image image c = lent_with c.result image (image_after image c.call)

-- the image goes from call to call
unfoldable pub host_image_all : List ℕ → List HostCall → List ℕ
host_image_all image [] = image
host_image_all image (c ∷ cs) = host_image_all (host_image image c) cs

-- ---- what a call shows

-- the answer as the host has it: the number that was returned, and the ten words of the result slice
abbrev pub answer_read : ℕ → List ℕ → Answer
answer_read n result = record { number = n; values = tabulate (λ k. number result (8 * k) 8) 0 10 }

-- that of a call whose own answer is a, from the result slice as the call leaves it
abbrev pub host_answer : Answer → List ℕ → Answer
host_answer a result = answer_read (returned a result) (result_after a result)

-- one call on an image, by the answer as the host has it and the ledger buffer as the call leaves it
abbrev pub host_shown : List ℕ → HostCall → Totals
host_shown image c =
    call_shows c.call (host_answer (answer_of image c.call) c.result)
    (lent_with c.result (ledger_of c.call) (ledger_after image c.call))

-- call after call
unfoldable pub host_shown_all : List ℕ → List HostCall → Totals
host_shown_all image [] = nothing
host_shown_all image (c ∷ cs) = plus (host_shown image c) (host_shown_all (host_image image c) cs)

-- ---- the demand

-- the first word of a result slice, as the stopped call leaves it
abbrev pub word_told : List ℕ → List ℕ → ℕ
word_told image result = number (result_after (stopped_answer image) result) 0 8

-- there is a result slice with which the stopped call returns 0, and whose first word then reads 1
abbrev pub TellsStopped : List ℕ → Type 0
TellsStopped image = (result : List ℕ) × (returned (stopped_answer image) result ≡ 0) × (word_told image result ≡ 1)

-- for every ring of 2 to 64, every home, every buffer of bytes with room for the image, and every list of the host's
-- calls, refused ones and short result slices included, or none, from what the fresh ring call writes: what holds of n,
-- of the image after the list and of what the calls showed to the host. Of ledgers and result slices nothing is asked
abbrev pub AfterEveryHostList : (ℕ → List ℕ → Totals → Type 0) → Type 0
AfterEveryHostList P =
    (n home : ℕ) → least ≤ n → n ≤ most → home < n → (buffer : List ℕ) → Bytes buffer → image_length n ≤ length buffer
    → (calls : List HostCall) → GivenBytes (map (λ c. c.call) calls)
    → P n (host_image_all (fresh_image n home buffer) calls) (host_shown_all (fresh_image n home buffer) calls)

-- the demand
abbrev pub SuiteDemand : Type 0
SuiteDemand = AfterEveryHostList (Promised TellsStopped)
