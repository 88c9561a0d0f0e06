-- Lists of calls: document 01, "A list of calls". What a call is, its answer, the image and the ledger buffer after it,
-- and what it shows, which is read from the call, from its answer and from that ledger buffer. The answers and buffers
-- are those that the calls' own contracts promise (machine/specs/Answers).
use Rattle.std.specs.Prelude.{ℕ, ◌+◌, ◌*◌, Bool, not, cond, ◌&&◌, List, [], ◌∷◌, ◌++◌, get_or, eqb}
use Rattle.machine.specs.Bytes.{bit, number}
use Rattle.machine.specs.Lists.{tabulate, join}
use Rattle.machine.specs.Balance.{Totals}
use Rattle.machine.specs.Answers.{Answer, step_answer, step_image, run_answer, run_image, run_ledger, stopped_answer}

-- a step with the event's bytes, a run with a tape and a ledger buffer, or stopped; each gets the image besides
pub data Call : Type 0 where
  Step : List ℕ → Call
  Run : List ℕ → List ℕ → Call
  Stopped : Call

-- ---- what a call answers and leaves

-- its answer
abbrev pub answer_of : List ℕ → Call → Answer
answer_of image (Step event) = step_answer image event
answer_of image (Run tape ledger) = run_answer image tape ledger
answer_of image Stopped = stopped_answer image

-- the ledger buffer that is lent to it: only a run has one
abbrev pub ledger_of : Call → List ℕ
ledger_of (Step event) = []
ledger_of (Run tape ledger) = ledger
ledger_of Stopped = []

-- and as it leaves it
abbrev pub ledger_after : List ℕ → Call → List ℕ
ledger_after image (Step event) = []
ledger_after image (Run tape ledger) = run_ledger image tape ledger
ledger_after image Stopped = []

-- the image as a call leaves it; stopped only reads it
abbrev pub image_after : List ℕ → Call → List ℕ
image_after image (Step event) = step_image image event
image_after image (Run tape ledger) = run_image image tape ledger
image_after image Stopped = image

-- the image goes from call to call
unfoldable pub image_after_all : List ℕ → List Call → List ℕ
image_after_all image [] = image
image_after_all image (c ∷ cs) = image_after_all (image_after image c) cs

-- ---- what an answer shows

-- no start, no end, no message
abbrev pub nothing : Totals
nothing = record { puts = 0; gets = 0; sent = 0; got = 0; filled = []; taken = [] }

-- a refused call adds nothing
abbrev pub unless_refused : Answer → Totals → Totals
unless_refused a t = cond (eqb a.number 0) t nothing

-- value k of an answer
abbrev pub value : Answer → ℕ → ℕ
value a k = get_or a.values k 0

-- a message, or none
abbrev pub message_if : Bool → ℕ → List ℕ
message_if b m = cond b (m ∷ []) []

-- A step: a put or a get has started where the event has code 0 or 1 and wasn't idle (outcome 0), and has ended where
-- the outcome is sent (4) or got (5); the outcome's message was filled by a fill (2), taken by a take (3).
abbrev pub step_shows : List ℕ → Answer → Totals
step_shows event a =
    unless_refused a
    (record {
      puts = bit (eqb (get_or event 1 0) 0 && not (eqb (value a 0) 0));
      gets = bit (eqb (get_or event 1 0) 1 && not (eqb (value a 0) 0));
      sent = bit (eqb (value a 0) 4);
      got = bit (eqb (value a 0) 5);
      filled = message_if (eqb (value a 0) 2) (value a 1);
      taken = message_if (eqb (value a 0) 3) (value a 1);
    })

-- the message of ledger record k, if that record has this code: byte 5 of its 12 is the code, 8 to 11 the message
abbrev pub record_message : ℕ → List ℕ → ℕ → List ℕ
record_message code ledger k = message_if (eqb (get_or ledger (12 * k + 5) 0) code) (number ledger (12 * k + 8) 4)

-- those of the first so many records, in ledger order
unfoldable pub ledger_messages : ℕ → ℕ → List ℕ → List ℕ
ledger_messages code records ledger = join (tabulate (record_message code ledger) 0 records)

-- A run: its counts of puts and gets started and of sent and got; the messages of the records with code 2 (fill) and 3
-- (take) that it wrote, as many as its last count says, read from the ledger buffer when it returns.
abbrev pub run_shows : Answer → List ℕ → Totals
run_shows a ledger =
    unless_refused a
    (record {
      puts = value a 0;
      gets = value a 1;
      sent = value a 4;
      got = value a 5;
      filled = ledger_messages 2 (value a 7) ledger;
      taken = ledger_messages 3 (value a 7) ledger;
    })

-- any call, by an answer and a ledger buffer; stopped adds nothing
abbrev pub call_shows : Call → Answer → List ℕ → Totals
call_shows (Step event) a ledger = step_shows event a
call_shows (Run tape lent) a ledger = run_shows a ledger
call_shows Stopped a ledger = nothing

-- ---- what a list of calls shows

-- one call on an image, by its own answer and the ledger buffer as it leaves it
abbrev pub shown : List ℕ → Call → Totals
shown image c = call_shows c (answer_of image c) (ledger_after image c)

-- numbers added, messages one after the other
abbrev pub plus : Totals → Totals → Totals
plus t u =
    record {
      puts = t.puts + u.puts;
      gets = t.gets + u.gets;
      sent = t.sent + u.sent;
      got = t.got + u.got;
      filled = t.filled ++ u.filled;
      taken = t.taken ++ u.taken;
    }

-- call after call
unfoldable pub shown_by_all : List ℕ → List Call → Totals
shown_by_all image [] = nothing
shown_by_all image (c ∷ cs) = plus (shown image c) (shown_by_all (image_after image c) cs)
