-- The third demand over events: after every list of events from the fresh ring the invariant holds, and what balances
-- is read off it.
use Prim.Native.Nat.{ℕ, ◌≤◌, ◌<◌}
use mathlib.Core.Path.{◌≡◌}
use mathlib.Core.Bool.{true}
use mathlib.Core.List.{List, []}
use Rattle.machine.specs.Ring.{least, most}
use Rattle.machine.specs.Image.{State}
use Rattle.machine.specs.Fresh.{fresh_state}
use Rattle.machine.specs.Events.{Event}
use Rattle.machine.specs.Run.{no_counts, after}
use Rattle.machine.specs.Balance.{Totals, totals_from, Balanced, on_ring, EveryListBalances}
use Rattle.machine.proofs.Image.Fresh.{length_fresh}
use Rattle.machine.proofs.Balance.Clauses.{Invariant}
use Rattle.machine.proofs.Balance.Start.{fresh_invariant}
use Rattle.machine.proofs.Balance.Kept.{events_kept}
use Rattle.machine.proofs.Balance.Standstill.{ended}

-- what the invariant says of the demand
pub balanced : (st : State) (t : Totals) → Invariant st t → Balanced st t
balanced st t inv =
    record {
      one_place = inv.fits.rest.one_place;
      messages = inv.counted.messages;
      puts = inv.counted.puts;
      gets = inv.counted.gets;
      stopped = ended st t inv;
    }

-- every list of events from the fresh ring
pub reached : (n home : ℕ) → least ≤ n → n ≤ most → home < n → (vs : List Event) → on_ring n vs ≡ true
    → Invariant (after (fresh_state n home) vs) (totals_from (fresh_state n home) vs)
unfolding totals_from
reached n home two few below vs within_ring =
    events_kept vs (fresh_state n home) no_counts [] [] (fresh_invariant n home two few below)
    (rw (length_fresh n home) within_ring)

pub every_list_balances : EveryListBalances
every_list_balances n home two few below vs within_ring =
    balanced (after (fresh_state n home) vs) (totals_from (fresh_state n home) vs)
    (reached n home two few below vs within_ring)
