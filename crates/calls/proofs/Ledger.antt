-- The messages that are read from a ledger buffer after a run are those of the rules, in order, by induction on the
-- events and once for both codes: each record stands 12 bytes after the one before it, byte 5 of it is the outcome's
-- number, and its last four bytes hold the message, which is in range.
use Prim.Native.Nat.{ℕ, suc, ◌+◌, ◌*◌, ◌^◌, ◌≤◌, ◌<◌}
use mathlib.Core.Path.{◌≡◌, refl, sym, ap, ap₂, ◌∙◌}
use mathlib.Core.Bool.{Bool, true, false, cond}
use mathlib.Core.List.{List, [], ◌∷◌, ◌++◌, append_assoc}
use native.Mathlib.Omega.{arith}
use lib.ListN.{length, drop}
use lib.Seq.{drop-append_seam, drop-drop}
use lib.Dec.{eqb, lit≤}
use Rattle.machine.specs.declared.Outcome.{Outcome}
use Rattle.machine.specs.Bytes.{bit, bytes, splice}
use Rattle.machine.specs.Lists.{tabulate, all, join}
use Rattle.machine.specs.Image.{State}
use Rattle.machine.specs.Events.{Event, outcome, apply}
use Rattle.machine.specs.Run.{outcome_number, outcome_message, recorded, ledger_record, ledger_entry, ledger_from}
use Rattle.machine.specs.Run.{no_counts, counted, counts_from}
use Rattle.machine.specs.Balance.{filled_from, taken_from}
use Rattle.machine.proofs.Laws.Lists.{and_first, and_second}
use Rattle.machine.proofs.Image.Readback.{InRange, byte_here, number_here}
use Rattle.machine.proofs.Soundness.Kept.{length_applied, range_kept, outcome_small}
use Rattle.machine.proofs.Runs.{fitting, fitting_process, fitting_message}
use Rattle.machine.proofs.Tallies.{length_entry, records_more}
use Rattle.calls.specs.Calls.{message_if, record_message, ledger_messages}
use Rattle.calls.proofs.Messages.{message_of, messages_from, filled_from_lem, taken_from_lem, unrecorded}

-- ---- one record

-- read where it stands
record_read : (code : ℕ) (ledger : List ℕ) (k event process : ℕ) (o : Outcome) (rest : List ℕ)
    → outcome_message o < 2 ^ 32
    → drop (12 * k) ledger ≡ ledger_record event process o ++ rest
    → record_message code ledger k ≡ message_of code o
unfolding ledger_record bytes
record_read code ledger k event process o rest small stands =
    let front = bytes 4 event ++ (process ∷ outcome_number o ∷ 0 ∷ 0 ∷ []) in
    ap₂ (λ (byte message : ℕ). message_if (eqb byte code) message)
    (byte_here ledger (12 * k) (ledger_record event process o) rest stands 5)
    (number_here ledger (12 * k) front rest (outcome_message o) small stands)

-- ---- the records of a list of events

module _ (code : ℕ) (high : 2 ≤ code) (ledger : List ℕ) where
  -- those of the records from k on, n of them
  abbrev messages : ℕ → ℕ → List ℕ
  messages k n = join (tabulate (record_message code ledger) k n)

  -- what one event adds: its record, if it has one
  entry_read : (k event process : ℕ) (o : Outcome) (rest : List ℕ) (n : ℕ) → outcome_message o < 2 ^ 32
      → drop (12 * k) ledger ≡ ledger_entry event process o ++ rest
      → messages k (bit (recorded o) + n) ≡ message_of code o ++ messages (k + bit (recorded o)) n
  unfolding ledger_entry join tabulate
  entry_read k event process o rest n small = go (recorded o) refl
    where
      go : (b : Bool) → recorded o ≡ b → drop (12 * k) ledger ≡ cond b (ledger_record event process o) [] ++ rest
          → messages k (bit b + n) ≡ message_of code o ++ messages (k + bit b) n
      go true _ stands =
          let more : 1 + n ≡ suc n = omega arith in
          rw (more, record_read code ledger k event process o rest small stands)
      go false left_out stands =
          let same : 0 + n ≡ n = omega arith in
          let here : k + 0 ≡ k = omega arith in
          rw (same, here, unrecorded code o high left_out)

  -- and the next event's stands behind it
  entry_passed : (k event process : ℕ) (o : Outcome) (rest : List ℕ)
      → drop (12 * k) ledger ≡ ledger_entry event process o ++ rest
      → drop (12 * (k + bit (recorded o))) ledger ≡ rest
  entry_passed k event process o rest stands =
      let entry = ledger_entry event process o in
      let behind : 12 * (k + bit (recorded o)) ≡ 12 * k + length entry =
      omega (arith, length_entry event process o) in
      ap (λ (at : ℕ). drop at ledger) behind
      ∙ sym (drop-drop (length entry) (12 * k) ledger)
      ∙ ap (drop (length entry)) stands
      ∙ drop-append_seam entry rest

  -- the records of all events
  records_read : (vs : List Event) (st : State) (event k : ℕ) (rest : List ℕ) → InRange st
      → all (fitting (length st.processes)) vs ≡ true
      → drop (12 * k) ledger ≡ ledger_from event st vs ++ rest
      → messages k (counts_from no_counts st vs).records ≡ messages_from code st vs
  unfolding all ledger_from counted counts_from messages_from join tabulate
  records_read [] st event k rest range fit stands = refl
  records_read (v ∷ vs) st event k rest range fit stands =
      let n = length st.processes in
      let o = outcome st v in
      let next = apply st v in
      let entry = ledger_entry event v.process o in
      let later = ledger_from (event + 1) next vs in
      let own = (counts_from no_counts next vs).records in
      let here = and_first (fitting n v) _ fit in
      let below = fitting_process n v here in
      let message = fitting_message n v here in
      let others : all (fitting (length next.processes)) vs ≡ true =
      rw (length_applied st v) (and_second (fitting n v) _ fit) in
      let from_here : drop (12 * k) ledger ≡ entry ++ (later ++ rest) = stands ∙ append_assoc entry later rest in
      ap (messages k) (records_more st v vs)
      ∙ entry_read k event v.process o (later ++ rest) own (outcome_small st v below message range) from_here
      ∙ ap (λ (l : List ℕ). message_of code o ++ l)
      (records_read vs next (event + 1) (k + bit (recorded o)) rest (range_kept st v below message range) others
      (entry_passed k event v.process o (later ++ rest) from_here))

-- ---- the ledger buffer when a run returns

module _ (ledger : List ℕ) (st : State) (vs : List Event) (range : InRange st)
    (fit : all (fitting (length st.processes)) vs ≡ true) where
  -- as the run returns it
  abbrev returned : List ℕ
  returned = splice ledger 0 (ledger_from 0 st vs)

  -- how many records it wrote
  abbrev wrote : ℕ
  wrote = (counts_from no_counts st vs).records

  -- the messages of a code that are read from it are the rules'
  ledger_read : (code : ℕ) → 2 ≤ code → ledger_messages code wrote returned ≡ messages_from code st vs
  unfolding splice ledger_messages
  ledger_read code high =
      let records = ledger_from 0 st vs in
      records_read code high returned vs st 0 0 (drop (0 + length records) ledger) range fit refl

  pub filled_read : ledger_messages 2 wrote returned ≡ filled_from st vs
  filled_read = ledger_read 2 (lit≤ tt) ∙ filled_from_lem vs st

  pub taken_read : ledger_messages 3 wrote returned ≡ taken_from st vs
  taken_read = ledger_read 3 (lit≤ tt) ∙ taken_from_lem vs st
