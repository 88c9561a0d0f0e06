-- A put or a get on a quiet ring, row by row. Its caller is place 0, and the holder of the envelope is d places to the
-- left of it. The wish goes left from place to place until it is at the holder, the envelope comes back the same way,
-- and the caller does its work. In each row one event is due, at one place; in the last one none.
use Prim.Native.Nat.{ℕ, ◌+◌, ◌-◌, ◌*◌, ◌≤◌, ◌<◌}
use mathlib.Core.Bool.{Bool, true, false, cond, ◌&&◌}
use lib.Dec.{eqb, leb, ltb}
use Rattle.machine.specs.declared.Pair.{Pair}
use Rattle.machine.specs.declared.Envelope.{Envelope}
use Rattle.machine.specs.declared.Process.{Process}
use Rattle.machine.specs.Fields.{Status, none, process_of}

-- ---- what a row shows

-- the caller's stage and note; whether the holder is still as it was found, whether the envelope is at a process, and
-- where; the event that is due, and where; up to which place the wish was heard, and up to which it was asked for
pub record Sight : Type 0 where
  pub stage : ℕ
  pub note : ℕ
  pub there : Bool
  pub has : Bool
  pub spot : ℕ
  pub code : ℕ
  pub place : ℕ
  pub heard : ℕ
  pub asks : ℕ

-- a bit for the wish, and one for the other status
abbrev pub pairs : Status → Bool → Bool → Pair Bool
pairs w b o = record { full = cond w b o; empty = cond w o b }

-- the rows: main has told its wish; the wish is on the link at place j; it was heard there, or at place 0 told to put;
-- the envelope is on the link to place j; it is there; the caller may work; has worked; knows it; and all is done
pub data Row : Type 0 where
  Told : Row
  Asking : ℕ → Row
  Asked : ℕ → Row
  Coming : ℕ → Row
  Come : ℕ → Row
  May : Row
  Done : Row
  Noted : Row
  Rest : Row

-- w is the wish: empty for a put, full for a get. d is how far the holder is; a put finds a process in stage 0, a get
-- the sender in stage 5, which has o as what it asked for empty. m is the put's message, or the one that a get finds
module _ (w : Status) (o : Bool) (d m : ℕ) where
  -- what the holder has asked for the other status
  abbrev pub left_over : Bool
  left_over = w && o

  -- the holder before the start
  abbrev pub holder : Process
  holder = process_of (cond w 5 0) true false false none (pairs w false left_over) none none 0

  -- the note of the caller until it works
  abbrev pub note : ℕ
  note = cond w 0 m

  -- whether the envelope has come from elsewhere
  abbrev pub moved : Bool
  moved = leb 1 d

  -- the stage in which the caller waits
  abbrev pub waiting : ℕ
  waiting = cond w 7 2

  -- the envelope at the caller
  abbrev pub here : ℕ → ℕ → ℕ → Sight
  here stage note code =
      record {
        stage = stage;
        note = note;
        there = false;
        has = true;
        spot = 0;
        code = code;
        place = 0;
        heard = 1;
        asks = cond moved 1 0;
      }

  abbrev pub sight : Row → Sight
  sight Told =
      record {
        stage = cond w 6 1;
        note = note;
        there = true;
        has = true;
        spot = d;
        code = 3;
        place = 0;
        heard = 1;
        asks = 0;
      }
  sight (Asking j) =
      record {
        stage = waiting;
        note = note;
        there = true;
        has = true;
        spot = d;
        code = cond w 5 6;
        place = j;
        heard = j;
        asks = j;
      }
  sight (Asked j) =
      record {
        stage = waiting;
        note = note;
        there = true;
        has = true;
        spot = d;
        code = 7;
        place = j;
        heard = j + 1;
        asks = j;
      }
  sight (Coming j) =
      record {
        stage = waiting;
        note = note;
        there = false;
        has = false;
        spot = j;
        code = 4;
        place = j;
        heard = j + 1;
        asks = j + 1;
      }
  sight (Come j) =
      record {
        stage = waiting;
        note = note;
        there = false;
        has = true;
        spot = j;
        code = 7;
        place = j;
        heard = j + 1;
        asks = j + 1;
      }
  sight May = here (cond w 8 3) note 2
  sight Done = here (cond w 9 4) 0 3
  sight Noted = here (cond w 10 5) 0 7
  sight Rest = here (cond w 0 5) 0 0

  -- the record at place k
  unfoldable pub look : Sight → ℕ → Process
  look x k =
      process_of (cond (eqb k 0) x.stage (cond (x.there && eqb k d) (cond w 5 0) 0)) (x.has && eqb k x.spot)
      (eqb x.code 4 && eqb k x.place) (eqb x.code 7 && eqb k x.place)
      (pairs w (leb 1 k && ltb k x.heard) false) (pairs w (ltb k x.asks) (x.there && eqb k d && left_over)) none
      (pairs w (eqb x.code (cond w 5 6) && eqb k x.place) false) (cond (eqb k 0) x.note 0)

  -- the envelope: its status, whether the wish is marked on it, and its message
  abbrev pub holds : Status → Bool → ℕ → Envelope
  holds status marked message =
      record {
        full = status;
        marker = pairs w marked false;
        marked = record { full = 0; empty = 0 };
        message = message;
      }

  -- before the caller works, and after it
  abbrev pub before : Bool → Envelope
  before marked = holds w marked (cond w m 0)

  abbrev pub behind : Bool → Envelope
  behind marked = holds (cond w false true) marked (cond w 0 m)

  abbrev pub envelope_in : Row → Envelope
  envelope_in Told = before false
  envelope_in (Asking j) = before false
  envelope_in (Asked j) = before false
  envelope_in (Coming j) = before true
  envelope_in (Come j) = before true
  envelope_in May = before moved
  envelope_in Done = behind moved
  envelope_in Noted = behind moved
  envelope_in Rest = behind false

-- ---- how far a row is, for a distance d

-- which places there are
abbrev pub Fits : ℕ → Row → Type 0
Fits d Told = 0 ≤ d
Fits d (Asking j) = (1 ≤ j) × (j ≤ d)
Fits d (Asked j) = j ≤ d
Fits d (Coming j) = j < d
Fits d (Come j) = j < d
Fits d May = 0 ≤ d
Fits d Done = 0 ≤ d
Fits d Noted = 0 ≤ d
Fits d Rest = 0 ≤ d

-- events done so far, the start among them
abbrev pub done_by : ℕ → Row → ℕ
done_by d Told = 1
done_by d (Asking j) = 2 * j + 1
done_by d (Asked j) = 2 * j + 2
done_by d (Coming j) = 4 * d + 1 - 2 * j
done_by d (Come j) = 4 * d + 2 - 2 * j
done_by d May = 4 * d + 3
done_by d Done = 4 * d + 4
done_by d Noted = 4 * d + 5
done_by d Rest = 4 * d + 6

-- requests so far
abbrev pub asks_by : ℕ → Row → ℕ
asks_by d Told = 0
asks_by d (Asking j) = j
asks_by d (Asked j) = j
asks_by d (Coming j) = d
asks_by d (Come j) = d
asks_by d May = d
asks_by d Done = d
asks_by d Noted = d
asks_by d Rest = d

-- departures so far
abbrev pub leaves_by : ℕ → Row → ℕ
leaves_by d Told = 0
leaves_by d (Asking j) = 0
leaves_by d (Asked j) = 0
leaves_by d (Coming j) = d - j
leaves_by d (Come j) = d - j
leaves_by d May = d
leaves_by d Done = d
leaves_by d Noted = d
leaves_by d Rest = d
