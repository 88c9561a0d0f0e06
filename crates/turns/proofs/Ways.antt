-- One turn of the loop, each way that it goes: idle, moved without a record, or with one. What the lower functions
-- answered is a variable here, with the value that it is known to be.
use Prim.Native.Nat.{ℕ, ◌+◌, ◌*◌, ◌/◌, ◌%◌, ◌^◌, ◌≤◌, ◌<◌}
use mathlib.Core.Path.{◌≡◌, refl, sym, ap, ◌∙◌}
use mathlib.Core.Bool.{true, and-false}
use mathlib.Core.List.{List, []}
use native.Mathlib.Omega.{arith}
use lib.ListN.{length, get_or}
use lib.Dec.{leb}
use borrow.Author.Tests.{le-leb, lt-leb}
use mir.Syntax.{w64}
use mir.Val.{Fits}
use Rattle.machine.specs.declared.Outcome.{Outcome}
use Rattle.machine.specs.declared.Outcome.TheVariants.{Idle, Moved, Fill, Take, Sent, Got}
use Rattle.machine.specs.declared.Traffic.{Traffic}
use Rattle.std.specs.Simd.{first_chunks}
use Rattle.machine.specs.Bytes.{bit, part, splice}
use Rattle.machine.specs.Image.{size_in, state_in, image_with}
use Rattle.machine.specs.Events as rule
use Rattle.machine.specs.Tape.{event_in}
use Rattle.machine.specs.Run.{outcome_number, ledger_entry}
use Rattle.machine.specs.Stopped.{is_idle}
use Rattle.machine.specs.Traffic.{traffic, no_traffic}
use Rattle.machine.specs.Refusals.{codes}
use Rattle.machine.proofs.Laws.Bytes.{number_lt}
use Rattle.machine.proofs.Laws.Chunks.{length_chunks, chunk_is, chunk_event}
use Rattle.machine.proofs.Soundness.Ways.{choice}
use Rattle.machine.proofs.Laws.Refusals.{fits_process, fits_code, fits_silent}
use Rattle.machine.proofs.Tallies.{length_entry}
use Rattle.machine.proofs.LinkTraffic.{idle_none, requests_few, departures_few}
use Rattle.machine.proofs.Laws.Splices.{splice_none}
use Rattle.event.specs.declared.Event.{Event}
use Rattle.event.specs.Parsed.{event_of, ruled}
use Rattle.ledger.specs.Record.{entered_in}
use Rattle.reaction.specs.Reaction.{traffic_word}
use Rattle.place.specs.Performed.{Performable, started_as}
use Rattle.turns.proofs.Packed.{weight, starts, numbered, packed_more, packed_fits}
use Rattle.turns.proofs.Progress.{Progress, stands, event_fitting, going_on}

-- ---- what an event adds, by its outcome's number

module _ (word code : ℕ) (o : Outcome) (u : Traffic) {number : ℕ} (is : number ≡ outcome_number o) where
  pub word_idle : number ≡ 0 → u ≡ no_traffic → word + 1 ≡ word + weight code o u
  word_idle idle none = rw (starts code o, sym is ∙ idle, none) (simp and-false (omega arith))

  module _ {counted : ℕ} (counts : counted ≡ started_as code o + traffic_word u) where
    -- without a record
    pub word_moved : number ≡ 1 → word + counted ≡ word + weight code o u
    word_moved moved = rw (counts, sym is ∙ moved) (omega arith)

    -- and with one
    pub word_more : 2 ≤ number → word + counted + 1 * 2 ^ (7 * number) % 18446744073709551616 ≡ word + weight code o u
    word_more many =
        rw (is, counts, (numbered o).shifted, (numbered o).part (omega arith)) (omega arith)

-- outcome 0 is idle
zero_idle : (o : Outcome) → outcome_number o ≡ 0 → is_idle o ≡ true
zero_idle Idle is = refl
zero_idle Moved is = absurd (omega (arith, is))
zero_idle (Fill m) is = absurd (omega (arith, is))
zero_idle (Take m) is = absurd (omega (arith, is))
zero_idle Sent is = absurd (omega (arith, is))
zero_idle Got is = absurd (omega (arith, is))

-- what it adds to the ledger, and so to the place of the next record
abbrev Entered : List ℕ → ℕ → List ℕ → List ℕ → ℕ → Type 0
Entered l place entry l' place' = (l' ≡ entered_in l place entry) × (place' ≡ place + length entry)

module _ (l : List ℕ) (place k process : ℕ) (o : Outcome) {number : ℕ} (is : number ≡ outcome_number o) where
  -- idle and moved have no record
  pub none_entered : number < 2 → Entered l place (ledger_entry k process o) l place
  unfolding ledger_entry
  none_entered few =
      let none = lt-leb 2 (outcome_number o) (omega arith) in (
        rw none (choice (λ m. l ≡ m) (leb (place + 0) (length l)) (splice l place []) l (splice_none l place) refl),
        omega (arith, length_entry k process o, ap bit none),
      )

  -- a record's place
  pub record_long : 2 ≤ number → place + 12 ≡ place + length (ledger_entry k process o)
  record_long many =
      let one = le-leb 2 (outcome_number o) (omega arith) in
      omega (arith, length_entry k process o, ap bit one)

-- ---- one turn

-- as the event is read from the chunk that it is
module _ {s₀ events : List ℕ} {first : ℕ} {l₀ : List ℕ} {from : ℕ} {s l : List ℕ} {word place n : ℕ}
    (g : Progress s₀ events first l₀ from s l word place n) {slots : List (List ℕ)}
    (cut : slots ≡ first_chunks 8 (length events / 8) events) (below : n < length slots)
    {event : Event} (parsed : event ≡ event_of (event_in (get_or slots n []) 0)) where
  next : n < length events / 8
  next = omega (arith, ap length cut, length_chunks 8 (length events / 8) events)

  read : event ≡ event_of (event_in events (8 * n))
  read =
      let slot : get_or slots n [] ≡ part events (8 * n) 8 =
      ap (λ (c : List (List ℕ)). get_or c n []) cut ∙ chunk_is 8 (length events / 8) events n [] next in
      parsed ∙ ap event_of (ap (λ (b : List ℕ). event_in b 0) slot ∙ chunk_event events (8 * n))

  pub may_perform : Performable s event
  unfolding event_in
  may_perform =
      let fits = event_fitting g next in
      rw read
      (record {
        fine = (stands g).fine;
        below = fits_process codes (size_in s) events (8 * n) fits;
        code = fits_code codes (size_in s) events (8 * n) fits;
        message = number_lt events (8 * n + 4) g.events_small;
        silent = fits_silent codes (size_in s) events (8 * n) fits;
      })

  -- an idle one has no traffic
  pub idle_still : {o : Outcome} {number : ℕ} → o ≡ rule.outcome (state_in s) (ruled event) → number ≡ outcome_number o
      → number ≡ 0
      → traffic (state_in s) (ruled event) ≡ no_traffic
  idle_still says is zero =
      let said = rule.outcome (state_in s) (ruled event) in
      idle_none (state_in s) (ruled event) (zero_idle said (ap outcome_number (sym says) ∙ sym is ∙ zero))

  -- the word has room for what it adds
  pub room : (o : Outcome) → Fits w64 (word + weight event.code o (traffic (state_in s) (ruled event)))
  room o =
      packed_fits
      (packed_more event.code o (traffic (state_in s) (ruled event)) (requests_few (state_in s) (ruled event))
      (departures_few (state_in s) (ruled event)) g.packed)
      (omega (arith, next, g.ready.few))

  pub turned : {o : Outcome} {s' : List ℕ} → o ≡ rule.outcome (state_in s) (ruled event)
      → s' ≡ image_with s (rule.apply (state_in s) (ruled event)) → (l' : List ℕ) (word' place' : ℕ)
      → word' ≡ word + weight event.code o (traffic (state_in s) (ruled event))
      → Entered l place (ledger_entry (first + n) event.process o) l' place'
      → Progress s₀ events first l₀ from s' l' word' place' (n + 1)
  turned says wrote _ _ _ more entered =
      rw (more, entered.0, entered.1, wrote, says, read) (going_on g next)
