-- What holds of every load's tape: event k is the one of draws 3k + 1 to 3k + 3, the tape is accepted for any number of
-- codes from 8 on and reads back as the events, and the call does what the writer does with these events. A process is
-- below n since it is a remainder by n, a code below 8 likewise, and a message is a number drawn or 0.
use Rattle.std.specs.Prelude.{Ok}
use Prim.Native.Nat.{ℕ, ◌+◌, ◌*◌, ◌/◌, ◌%◌, ◌≤◌, ◌<◌}
use mathlib.Core.Path.{◌≡◌, refl, sym, ap, ◌∙◌}
use mathlib.Core.Bool.{Bool, true, false, cond, ◌||◌}
use mathlib.Core.List.{List, [], ◌∷◌, append-nil}
use native.Mathlib.Omega.{arith}
use native.Mathlib.Nat.{mod-lt}
use lib.ListN.{length, take}
use lib.Dec.{eqb}
use borrow.Author.Tests.{lt-ltb}
use Rattle.machine.specs.Bytes.{part, bytes, all_zero, zeros, splice}
use Rattle.machine.specs.Lists.{tabulate}
use Rattle.machine.specs.Events.{Event}
use Rattle.machine.specs.Tape.{event_in, events_in, event_bytes, list_bytes, slot_at, list_of}
use Rattle.machine.specs.Refusals.{codes, size_verdict, seed_verdict, event_fits, list_verdict, tape_verdict}
use Rattle.machine.specs.Answers.{answer, run_events, write_verdict, write_answer, write_output, read_answer}
use Rattle.machine.specs.Answers.{read_output}
use Rattle.machine.specs.Load.{drawn, event_by, load_event, load_events, load_tape, load_verdict, load_answer}
use Rattle.machine.specs.Load.{load_output}
use Rattle.machine.proofs.Laws.Lists.{tabulate_same}
use Rattle.machine.proofs.Laws.Refusals.{first_fine, second_fine}
use Rattle.machine.proofs.Loads.{message_within, length_load, part_list_bytes, load_begins}
use Rattle.machine.proofs.Tapes.{bytes_read}
use Rattle.tape_test.proofs.Blocks.{fine_list}
use Rattle.tape.proofs.Parts.{same_event, same_fits}
use Rattle.tape.proofs.Slots.{slot_written}
use Rattle.tape.proofs.Round.{written_accepted, read_written}
use Rattle.tape.proofs.Trips.{write_then_read}
use Rattle.load.proofs.Ways.{Given, given, load_given}

-- ---- an event's own bytes

-- they are all of it
own_part : (v : Event) → part (event_bytes v) 0 8 ≡ event_bytes v
unfolding bytes
own_part v = refl

-- ---- a load's events

module _ (n seed count : ℕ) (fine : given n seed count ≡ Ok tt) where
  abbrev list : List ℕ
  list = list_bytes (load_events n seed count)

  bounds : Given n seed count
  bounds = load_given n seed count fine

  long : length list ≡ 8 * count
  long = length_load n seed count

  -- event k is good for n and any number of codes from 8 on
  event_fitting : (codes : ℕ) → 8 ≤ codes → (k : ℕ) → event_fits codes n (event_bytes (load_event n seed k)) 0 ≡ true
  unfolding event_fits zeros all_zero bytes load_event event_by
  event_fitting codes enough k =
      let a = drawn seed (3 * k + 1) in
      let b = drawn seed (3 * k + 2) in
      let some : 1 ≤ n = omega (arith, bounds.size_least) in
      rw (lt-ltb (a % n) n (mod-lt a some), lt-ltb (b % 8) codes (omega arith)) (go (eqb (b % 8) 0))
    where
      go : (t : Bool) → t || all_zero (bytes 4 (cond t (drawn seed (3 * k + 3)) 0)) ≡ true
      go true = refl
      go false = refl

  -- whatever has its bytes has the event
  event_of_lem : (k : ℕ) (s : List ℕ) (at : ℕ) → part s at 8 ≡ event_bytes (load_event n seed k)
      → event_in s at ≡ load_event n seed k
  event_of_lem k s at same =
      let v = load_event n seed k in
      same_event s (event_bytes v) at 0 (same ∙ sym (own_part v))
      ∙ bytes_read v (omega (arith, message_within seed bounds.seed_least bounds.seed_most n k))

  module _ (k : ℕ) (within : k < count) where
    -- its bytes in the list
    event_listed : part list (8 * k) 8 ≡ event_bytes (load_event n seed k)
    unfolding load_events list_bytes tabulate
    event_listed =
        let here : 0 + k ≡ k = omega arith in
        part_list_bytes (load_event n seed) 0 count k 1 (omega arith)
        ∙ append-nil (event_bytes (load_event n seed (0 + k)))
        ∙ ap (λ (j : ℕ). event_bytes (load_event n seed j)) here

    -- and on the tape, in slot k % 63 of block k / 63
    pub event_taped : part (load_tape n seed count) (slot_at (k / 63) (k % 63)) 8 ≡ event_bytes (load_event n seed k)
    unfolding load_tape
    event_taped = slot_written list k (omega (arith, long)) ∙ event_listed

    pub event_loaded : event_in (load_tape n seed count) (slot_at (k / 63) (k % 63)) ≡ load_event n seed k
    event_loaded = event_of_lem k (load_tape n seed count) (slot_at (k / 63) (k % 63)) event_taped

  -- ---- the list and the tape, for any number of codes from 8 on

  module _ (codes : ℕ) (enough : 8 ≤ codes) where
    pub list_accepted : list_verdict codes n list ≡ Ok tt
    list_accepted =
        fine_list codes n list
        record {
          whole = omega (arith, long);
          most = omega (arith, long, bounds.count_most);
          events =
              λ k h.
              let v = load_event n seed k in
              let within : k < count = omega (arith, long) in
              same_fits list (event_bytes v) (8 * k) 0 (event_listed k within ∙ sym (own_part v)) codes n
              ∙ event_fitting codes enough k;
        }

    pub load_accepted : tape_verdict codes n (load_tape n seed count) ≡ Ok tt
    unfolding load_tape
    load_accepted = written_accepted codes n list list_accepted

  -- the tape reads back as the events: their bytes, and what a run performs
  pub load_read : list_of (load_tape n seed count) ≡ list
  unfolding load_tape
  load_read = read_written 8 n list (list_accepted 8 (omega arith))

  pub load_runs : run_events (load_tape n seed count) ≡ load_events n seed count
  unfolding run_events events_in load_events
  load_runs =
      let all : length list / 8 ≡ count = omega (arith, long) in
      rw (load_read, all)
      (tabulate_same (λ k. event_in list (8 * k)) (load_event n seed) 0 count
      (λ k low high. event_of_lem k list (8 * k) (event_listed k (omega arith))))

  -- ---- the call, and what the reader makes of it

  module _ (output : List ℕ) where
    -- the tests are the writer's
    same_verdict : load_verdict n seed count output ≡ write_verdict n list output
    unfolding load_verdict write_verdict load_tape
    same_verdict =
        let rest = second_fine (size_verdict n) _ fine in
        rw (
          first_fine (size_verdict n) _ fine,
          first_fine (seed_verdict seed) _ rest,
          second_fine (seed_verdict seed) _ rest,
          list_accepted codes (omega arith),
        )

    -- and so are answer and output, of the load's events
    pub load_writes : (load_answer n seed count output ≡ write_answer n list output)
        × (load_output n seed count output ≡ write_output n list output)
    unfolding load_answer load_output write_answer write_output load_tape
    load_writes = (rw same_verdict, rw same_verdict)

    -- what it filled, the reader gives back
    pub load_then_read : (back : List ℕ) → load_verdict n seed count output ≡ Ok tt → 8 * count ≤ length back
        → let tape = take (length (load_tape n seed count)) (load_output n seed count output) in
        (read_answer n tape back ≡ answer (Ok tt) (8 * count ∷ [])) × (read_output n tape back ≡ splice back 0 list)
    unfolding load_tape
    load_then_read back accepted room =
        rw (load_writes.1, ← long)
        (write_then_read n list output back (sym same_verdict ∙ accepted) (omega (arith, long)))

-- ---- a shorter load and a longer one of the same seed

-- the events of the one are the first of the other's
pub load_starts : (n seed few count : ℕ) → given n seed few ≡ Ok tt → given n seed count ≡ Ok tt → few ≤ count
    → take few (run_events (load_tape n seed count)) ≡ run_events (load_tape n seed few)
load_starts n seed few count fine longer h =
    rw (load_runs n seed count longer, load_runs n seed few fine) (load_begins n seed few count h)
