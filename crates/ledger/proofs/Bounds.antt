-- One event more adds at most one to each count, so a bound on all of them goes up by at most one.
use Prim.Native.Nat.{ℕ, ◌+◌, ◌≤◌}
use mathlib.Core.Bool.{Bool}
use mathlib.Core.List.{List, [], ◌∷◌}
use native.Mathlib.Omega.{arith}
use borrow.Author.Rules.{rules}
use lib.ListN.{length}
use Rattle.machine.specs.declared.Counts.{Counts}
use Rattle.machine.specs.declared.Outcome.{Outcome}
use Rattle.machine.specs.Bytes.{bit}
use Rattle.machine.specs.Image.{State}
use Rattle.machine.specs.Events.{Event, outcome, apply}
use Rattle.machine.specs.Run.{no_counts, counted, counts_from}
use Rattle.machine.proofs.Laws.Bits.{bit_le}
use Rattle.ledger.specs.Bounds.{NoneAbove}

pub none_above_le : {k m : ℕ} {c : Counts} → k ≤ m → NoneAbove k c → NoneAbove m c
none_above_le h b = search rules

pub none_above_start : NoneAbove 0 no_counts
none_above_start = search rules

-- one count
one_more : {n k : ℕ} (b : Bool) → n ≤ k → n + bit b ≤ k + 1
one_more b h = omega (arith, bit_le b)

pub counted_above : {k : ℕ} {c : Counts} (code : ℕ) (o : Outcome) → NoneAbove k c → NoneAbove (k + 1) (counted code o c)
unfolding counted
counted_above code o b = search one_more

-- no count is above the number of events
pub counts_few : (vs : List Event) (st : State) (k : ℕ) {c : Counts} → NoneAbove k c
    → NoneAbove (k + length vs) (counts_from c st vs)
unfolding counts_from
counts_few [] st k above = none_above_le (omega arith) above
counts_few (v ∷ vs) st k above =
    none_above_le (omega arith) (counts_few vs (apply st v) (k + 1) (counted_above v.code (outcome st v) above))
