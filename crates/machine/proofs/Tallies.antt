-- A run's counts and the length of its ledger: each count is what was there before and the events' own, since one event
-- adds to each count by itself; and the ledger has 12 bytes for each record counted.
use Prim.Native.Nat.{ℕ, ◌+◌, ◌*◌, ◌≤◌}
use mathlib.Core.Path.{◌≡◌, refl, ◌∙◌}
use mathlib.Core.Bool.{Bool, true, false, not, cond, ◌&&◌}
use mathlib.Core.List.{List, [], ◌∷◌}
use native.Mathlib.Omega.{arith}
use lib.ListN.{length, length-append}
use lib.Dec.{eqb}
use Rattle.machine.specs.declared.Counts.{Counts}
use Rattle.machine.specs.declared.Outcome.{Outcome}
use Rattle.machine.specs.Bytes.{bit}
use Rattle.machine.specs.Image.{State, state_in}
use Rattle.machine.specs.Events.{Event, outcome, apply}
use Rattle.machine.specs.Run.{outcome_number, recorded, ledger_record, ledger_entry, ledger_from, no_counts, counted}
use Rattle.machine.specs.Run.{counts_from}
use Rattle.machine.specs.Answers.{run_events, run_records}
use Rattle.machine.proofs.Laws.Bits.{bit_le}
use Rattle.machine.proofs.Laws.Bytes.{length_bytes}

-- ---- one count

-- a count to which each event adds by itself
module _ (field : Counts → ℕ) (share : ℕ → Outcome → ℕ) (none : field no_counts ≡ 0)
    (more : (code : ℕ) (o : Outcome) (c : Counts) → field (counted code o c) ≡ field c + share code o) where
  add : (vs : List Event) (st : State) (c : Counts)
      → field (counts_from c st vs) ≡ field c + field (counts_from no_counts st vs)
  unfolding counts_from
  add [] st c = omega (arith, none)
  add (v ∷ vs) st c =
      let o = outcome st v in
      let code = v.code in
      omega (
        arith,
        none,
        more code o c,
        more code o no_counts,
        add vs (apply st v) (counted code o c),
        add vs (apply st v) (counted code o no_counts),
      )

-- whether an event starts something, by its code
abbrev starts : ℕ → ℕ → Outcome → ℕ
starts start code o = bit (eqb code start && not (eqb (outcome_number o) 0))

-- whether it has an outcome
abbrev has : ℕ → ℕ → Outcome → ℕ
has number code o = bit (eqb (outcome_number o) number)

module _ (vs : List Event) (st : State) (c : Counts) where
  -- the counts of these events alone
  abbrev own : Counts
  own = counts_from no_counts st vs

  pub puts_add : (counts_from c st vs).puts ≡ c.puts + own.puts
  unfolding counted
  puts_add = add (λ x. x.puts) (starts 0) refl (λ _ _ _. refl) vs st c

  pub gets_add : (counts_from c st vs).gets ≡ c.gets + own.gets
  unfolding counted
  gets_add = add (λ x. x.gets) (starts 1) refl (λ _ _ _. refl) vs st c

  pub fills_add : (counts_from c st vs).fills ≡ c.fills + own.fills
  unfolding counted
  fills_add = add (λ x. x.fills) (has 2) refl (λ _ _ _. refl) vs st c

  pub takes_add : (counts_from c st vs).takes ≡ c.takes + own.takes
  unfolding counted
  takes_add = add (λ x. x.takes) (has 3) refl (λ _ _ _. refl) vs st c

  pub sent_add : (counts_from c st vs).sent ≡ c.sent + own.sent
  unfolding counted
  sent_add = add (λ x. x.sent) (has 4) refl (λ _ _ _. refl) vs st c

  pub got_add : (counts_from c st vs).got ≡ c.got + own.got
  unfolding counted
  got_add = add (λ x. x.got) (has 5) refl (λ _ _ _. refl) vs st c

  pub idle_add : (counts_from c st vs).idle ≡ c.idle + own.idle
  unfolding counted
  idle_add = add (λ x. x.idle) (has 0) refl (λ _ _ _. refl) vs st c

  pub records_add : (counts_from c st vs).records ≡ c.records + own.records
  unfolding counted
  records_add = add (λ x. x.records) (λ _ o. bit (recorded o)) refl (λ _ _ _. refl) vs st c

-- ---- the ledger

module _ (number process : ℕ) (o : Outcome) where
  -- a record is three times four bytes
  pub length_record : length (ledger_record number process o) ≡ 12
  unfolding ledger_record
  length_record = simp (length-append, length_bytes)

  -- and an event adds one or none
  pub length_entry : length (ledger_entry number process o) ≡ 12 * bit (recorded o)
  unfolding ledger_entry
  length_entry = by_test (recorded o)
    where
      by_test : (t : Bool) → length (cond t (ledger_record number process o) []) ≡ 12 * bit t
      by_test true = length_record
      by_test false = refl

-- an event's own record, and those of the events after it
pub records_more : (st : State) (v : Event) (vs : List Event)
    → (counts_from no_counts st (v ∷ vs)).records
    ≡ bit (recorded (outcome st v)) + (counts_from no_counts (apply st v) vs).records
unfolding counts_from counted
records_more st v vs = omega (arith, records_add vs (apply st v) (counted v.code (outcome st v) no_counts))

-- so the ledger has 12 bytes for each record counted
pub length_ledger : (vs : List Event) (number : ℕ) (st : State)
    → length (ledger_from number st vs) ≡ 12 * (counts_from no_counts st vs).records
unfolding ledger_from counts_from
length_ledger [] number st = refl
length_ledger (v ∷ vs) number st =
    let o = outcome st v in
    length-append (ledger_entry number v.process o) (ledger_from (number + 1) (apply st v) vs)
    ∙ omega (
      arith,
      length_entry number v.process o,
      length_ledger vs (number + 1) (apply st v),
      records_more st v vs,
    )

-- ---- of a run

-- how many records events have from a state on
abbrev pub records_from : State → List Event → ℕ
records_from st vs = (counts_from no_counts st vs).records

-- an event has at most one record
pub records_few : (vs : List Event) (st : State) → records_from st vs ≤ length vs
unfolding counts_from
records_few [] st = omega arith
records_few (v ∷ vs) st =
    omega (
      arith,
      records_more st v vs,
      bit_le (recorded (outcome st v)),
      records_few vs (apply st v),
    )

-- the ledger's bytes by its records
pub length_records : (s tape : List ℕ) → length (run_records s tape) ≡ 12 * records_from (state_in s) (run_events tape)
unfolding run_records
length_records s tape = length_ledger (run_events tape) 0 (state_in s)
