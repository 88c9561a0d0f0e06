-- What a call shows is what the rules count of its events: field by field, the numbers are the same by definition or
-- by the laws of a run's counts, and the messages by the ledger's codes. A refused call shows nothing. And what calls
-- show one after the other is added in any grouping.
use Rattle.std.specs.Prelude.{Ok}
use Prim.Native.Nat.{ℕ, ◌≤◌}
use mathlib.Core.Path.{◌≡◌, refl, sym, ap, ap₂}
use mathlib.Core.Bool.{Bool, true, cond}
use mathlib.Core.List.{List, ◌++◌, append_assoc, append-nil}
use native.Mathlib.Omega.{arith}
use lib.ListN.{length, get_or}
use borrow.Author.Tests.{ne_eqb}
use Rattle.machine.specs.declared.Outcome.{Outcome}
use Rattle.machine.specs.declared.Traffic.{Traffic}
use Rattle.machine.specs.Bytes.{splice}
use Rattle.machine.specs.Lists.{all}
use Rattle.machine.specs.Image.{State}
use Rattle.machine.specs.Events.{Event}
use Rattle.machine.specs.Run.{ledger_from, no_counts, counted, counts_from, count_values}
use Rattle.machine.specs.Balance.{Totals, totals_of, filled_from, taken_from}
use Rattle.machine.specs.Traffic.{traffic_values}
use Rattle.machine.specs.Answers.{Answer, answer, outcome_values}
use Rattle.machine.proofs.Image.Readback.{InRange}
use Rattle.machine.proofs.Runs.{fitting}
use Rattle.machine.proofs.Tallies.{puts_add, gets_add, sent_add, got_add}
use Rattle.machine.proofs.Balance.Kept.{counts_of, added}
use Rattle.calls.specs.Calls.{nothing, unless_refused, step_shows, run_shows, plus}
use Rattle.calls.proofs.Messages.{filled_2, taken_3}
use Rattle.calls.proofs.Ledger.{filled_read, taken_read}

-- ---- sums of totals

-- totals are the same where each part is
same_totals : (t u : Totals) → t.puts ≡ u.puts → t.gets ≡ u.gets → t.sent ≡ u.sent → t.got ≡ u.got
    → t.filled ≡ u.filled → t.taken ≡ u.taken
    → t ≡ u
same_totals t u puts gets sent got filled taken =
    λ i. record {
      puts = puts i;
      gets = gets i;
      sent = sent i;
      got = got i;
      filled = filled i;
      taken = taken i;
    }

pub plus_nothing : (t : Totals) → plus t nothing ≡ t
plus_nothing t =
    same_totals (plus t nothing) t (omega arith) (omega arith) (omega arith) (omega arith) (append-nil t.filled)
    (append-nil t.taken)

pub nothing_plus : (t : Totals) → plus nothing t ≡ t
nothing_plus t =
    same_totals (plus nothing t) t (omega arith) (omega arith) (omega arith) (omega arith) refl refl

pub plus_assoc : (t u w : Totals) → plus (plus t u) w ≡ plus t (plus u w)
plus_assoc t u w =
    same_totals (plus (plus t u) w) (plus t (plus u w)) (omega arith) (omega arith) (omega arith) (omega arith)
    (append_assoc t.filled u.filled w.filled) (append_assoc t.taken u.taken w.taken)

-- ---- a refused call: its number isn't 0

adds_nothing : (a : Answer) (t : Totals) → 1 ≤ a.number → unless_refused a t ≡ nothing
adds_nothing a t refused = ap (λ (b : Bool). cond b t nothing) (ne_eqb a.number 0 (λ same. omega arith))

pub step_refused : (event : List ℕ) (a : Answer) → 1 ≤ a.number → step_shows event a ≡ nothing
step_refused event a refused = adds_nothing a _ refused

pub run_refused : (ledger : List ℕ) (a : Answer) → 1 ≤ a.number → run_shows a ledger ≡ nothing
run_refused ledger a refused = adds_nothing a _ refused

-- ---- a step that is done, whatever its traffic

pub step_shows_lem : (event : List ℕ) (o : Outcome) (links : Traffic) (t : Totals)
    → added (get_or event 1 0) o t
    ≡ plus t (step_shows event (answer (Ok tt) (outcome_values o ++ traffic_values links)))
unfolding counted
step_shows_lem event o links t =
    ap₂ (λ (filled taken : List ℕ). totals_of (counted (get_or event 1 0) o (counts_of t)) (t.filled ++ filled)
    (t.taken ++ taken))
    (sym (filled_2 o)) (sym (taken_3 o))

-- ---- a run that is done, whatever its traffic

module _ (ledger : List ℕ) (st : State) (vs : List Event) (range : InRange st)
    (fit : all (fitting (length st.processes)) vs ≡ true) where
  pub run_shows_lem : (links : Traffic) (t : Totals)
      → totals_of (counts_from (counts_of t) st vs) (t.filled ++ filled_from st vs) (t.taken ++ taken_from st vs)
      ≡ plus t
      (run_shows (answer (Ok tt) (count_values (counts_from no_counts st vs) ++ traffic_values links))
      (splice ledger 0 (ledger_from 0 st vs)))
  run_shows_lem links t =
      same_totals _ _ (puts_add vs st (counts_of t)) (gets_add vs st (counts_of t)) (sent_add vs st (counts_of t))
      (got_add vs st (counts_of t)) (ap (λ (l : List ℕ). t.filled ++ l) (sym (filled_read ledger st vs range fit)))
      (ap (λ (l : List ℕ). t.taken ++ l) (sym (taken_read ledger st vs range fit)))
