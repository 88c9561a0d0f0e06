-- The events half done: the image, the ledger, the word of counts and the place of the next record are what the events
-- so far come to; one event more is another one performed, and in the end they are all.
--
-- A step is such a list of one event, and a run one list a block. A turn is idle, moves something without a record, or
-- has one, told apart by its outcome's number (Ways); it adds to the word what the rule adds to counts and traffic, and
-- no part of it carries, since a block has at most 63 events (Packed). No turn tests the image again: it is accepted
-- after every event (machine/proofs/Runs). A record without room is left out, so nothing need be known of the ledger
-- before. What events leave, and what others leave that come behind them, is what all of them leave (Joined).
use Prim.Native.Nat.{ℕ, ◌+◌, ◌*◌, ◌/◌, ◌^◌, ◌≤◌, ◌<◌}
use mathlib.Core.Path.{◌≡◌, refl, sym, ap, ◌∙◌}
use mathlib.Core.Bool.{true}
use mathlib.Core.List.{List, [], ◌∷◌, ◌++◌, append-nil}
use native.Mathlib.Omega.{arith}
use native.Mathlib.Numerals.{add-one}
use lib.ListN.{length}
use lib.Dec.{leb}
use borrow.Author.Tests.{leb-true, lt-ltb}
use Rattle.machine.specs.declared.Outcome.{Outcome}
use Rattle.machine.specs.declared.Traffic.{Traffic}
use Rattle.machine.specs.Bytes.{Bytes, splice}
use Rattle.machine.specs.Lists.{tabulate}
use Rattle.machine.specs.Image.{State, size_in, state_in}
use Rattle.machine.specs.Events.{Event, outcome}
use Rattle.machine.specs.Tape.{event_in, events_in}
use Rattle.machine.specs.Run.{ledger_entry, ledger_from, no_counts, counted, counts_from, after}
use Rattle.machine.specs.Traffic.{traffic, together, traffic_from}
use Rattle.machine.specs.Refusals.{codes, event_fits}
use Rattle.machine.proofs.Laws.Bytes.{length_splice, number_lt}
use Rattle.machine.proofs.Laws.Lists.{length_tabulate, get_d_tabulate, tabulate_more}
use Rattle.machine.proofs.Laws.Refusals.{fits_process}
use Rattle.machine.proofs.Soundness.Ways.{by_test}
use Rattle.machine.proofs.Soundness.Kept.{image_after}
use Rattle.machine.proofs.Tallies.{length_entry}
use Rattle.machine.proofs.LinkTraffic.{requests_few, departures_few, traffic_one, traffic_joined}
use Rattle.ledger.specs.Record.{entered_in}
use Rattle.ledger.proofs.Ways.{has_room}
use Rattle.turns.specs.Turns.{Turning, Tallied, Ran}
use Rattle.turns.proofs.Joined.{counts_joined, nobody, Stands, ran_stands, ran_none, ran_joined}
use Rattle.turns.proofs.Packed.{weight, Packed, packed_none, packed_more, traffic_is, added_is}

-- the first n events of a list
abbrev pub events_to : List ℕ → ℕ → List Event
events_to events n = tabulate (λ k. event_in events (8 * k)) 0 n

-- before event n: the image s, the ledger l, the word of counts, and the place of the next record
pub record Progress (s₀ events : List ℕ) (first : ℕ) (l₀ : List ℕ) (from : ℕ) (s l : List ℕ) (word place n : ℕ)
    : Type 0 where
  pub ready : Turning s₀ events first from
  pub within : n ≤ length events / 8
  pub small : Bytes s₀
  pub events_small : Bytes events
  pub ran : Ran first from s₀ l₀ (events_to events n) s l
  pub long : length l ≡ length l₀
  pub behind : place ≡ from + 12 * (counts_from no_counts (state_in s₀) (events_to events n)).records
  pub packed : Packed n word (counts_from no_counts (state_in s₀) (events_to events n))
      (traffic_from (state_in s₀) (events_to events n))

-- a ledger keeps its length
entered_long : (l : List ℕ) (place : ℕ) (entry : List ℕ) → length (entered_in l place entry) ≡ length l
entered_long l place entry =
    by_test (λ m. length m ≡ length l) (leb (place + length entry) (length l)) (splice l place entry) l
    (λ room. length_splice l place entry (leb-true _ _ room)) (λ _. refl)

pub going_start : {s₀ events : List ℕ} {first : ℕ} {l₀ : List ℕ} {from : ℕ} → Turning s₀ events first from → Bytes s₀
    → Bytes events → Progress s₀ events first l₀ from s₀ l₀ 0 from 0
unfolding tabulate counts_from traffic_from
going_start ready small small_events =
    record {
      ready = ready;
      within = omega arith;
      small = small;
      events_small = small_events;
      ran = ran_none ready.fine small;
      long = refl;
      behind = omega arith;
      packed = packed_none;
    }

module _ {s₀ events : List ℕ} {first : ℕ} {l₀ : List ℕ} {from : ℕ} {s l : List ℕ} {word place n : ℕ}
    (g : Progress s₀ events first l₀ from s l word place n) where
  -- the events so far
  abbrev done : List Event
  done = events_to events n

  done_long : length done ≡ n
  done_long = length_tabulate (λ j. event_in events (8 * j)) 0 n

  -- they fit the ring
  pub stands : Stands s₀ done s
  unfolding event_in
  stands =
      ran_stands g.ready.fine g.small g.ran
      (λ i h.
      let below : i < n = omega (arith, done_long) in
      let there : 8 * (0 + i) ≡ 8 * i = omega arith in
      let fits = g.ready.fits i (omega (arith, g.within)) in
      rw (
        get_d_tabulate (λ j. event_in events (8 * j)) 0 n i nobody below,
        there,
        lt-ltb _ (size_in s₀) (fits_process codes (size_in s₀) events (8 * i) fits),
        lt-ltb _ (2 ^ 32) (number_lt events (8 * i + 4) g.events_small),
      ))

  -- ---- one event more

  module _ (next : n < length events / 8) where
    -- the event, its outcome and traffic, and what it adds to the ledger
    abbrev event : Event
    event = event_in events (8 * n)

    abbrev said : Outcome
    said = outcome (state_in s) event

    abbrev put_out : Traffic
    put_out = traffic (state_in s) event

    abbrev entry : List ℕ
    entry = ledger_entry (first + n) event.process said

    -- it fits the ring
    pub event_fitting : event_fits codes (size_in s) events (8 * n) ≡ true
    event_fitting = rw stands.size (g.ready.fits n next)

    done_more : events_to events (n + 1) ≡ done ++ (event ∷ [])
    done_more =
        let here : 0 + n ≡ n = omega arith in
        rw add-one (rw here at (tabulate_more (λ j. event_in events (8 * j)) 0 n))

    counts_more : counts_from no_counts (state_in s₀) (done ++ (event ∷ []))
        ≡ counted event.code said (counts_from no_counts (state_in s₀) done)
    unfolding counts_from
    counts_more = rw stands.state (counts_joined done (event ∷ []) (state_in s₀) no_counts)

    traffic_more : traffic_from (state_in s₀) (done ++ (event ∷ []))
        ≡ together (traffic_from (state_in s₀) done) put_out
    traffic_more =
        traffic_joined done (event ∷ []) (state_in s₀)
        ∙ ap (together (traffic_from (state_in s₀) done))
        (traffic_one (after (state_in s₀) done) event ∙ ap (λ (st : State). traffic st event) (sym stands.state))

    pub going_on : Progress s₀ events first l₀ from (image_after s event) (entered_in l place entry)
        (word + weight event.code said put_out) (place + length entry) (n + 1)
    unfolding after ledger_from counted
    going_on =
        let one : Ran (first + n) place s l (event ∷ []) (image_after s event) (entered_in l place entry) =
        record { image = refl; records = rw (append-nil entry) (has_room l place entry) } in
        record {
          ready = g.ready;
          within = omega arith;
          small = g.small;
          events_small = g.events_small;
          ran =
              rw done_more
              (ran_joined done (event ∷ []) stands.state g.long (omega (arith, done_long)) g.behind g.ran one);
          long = entered_long l place entry ∙ g.long;
          behind = rw (done_more, counts_more) (omega (arith, g.behind, length_entry (first + n) event.process said));
          packed =
              rw (done_more, counts_more, traffic_more)
              (packed_more event.code said put_out (requests_few (state_in s) event)
              (departures_few (state_in s) event) g.packed);
        }

  -- ---- no event left

  pub gone : length events / 8 ≤ n
      → Tallied (state_in s₀) (events_in events) word × Ran first from s₀ l₀ (events_in events) s l
  unfolding events_in
  gone none =
      let all_done : length events / 8 ≡ n = omega (arith, g.within) in
      let few : n ≤ 63 = omega (arith, g.ready.few) in
      rw all_done
      (record { counts = added_is done (state_in s₀) g.packed few; traffic = traffic_is g.packed few }, g.ran)
