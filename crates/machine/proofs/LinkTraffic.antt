-- Link traffic. Only a put reaches a neighbour, and one neighbour at most (Neighbours): so it puts requests on a link
-- or lets the envelope leave, and never both; every other event, and one that is idle, does neither. What two lists do
-- one after the other is the sum of what each does.
use Prim.Native.Nat.{◌+◌, ◌≤◌}
use mathlib.Core.Path.{◌≡◌, sym, ap, ◌∙◌}
use mathlib.Core.Bool.{true}
use mathlib.Core.List.{List, [], ◌∷◌, ◌++◌}
use mathlib.Core.Logic.{◌⊎◌, inl, inr}
use native.Mathlib.Omega.{arith}
use lib.ListN.{length}
use Rattle.machine.specs.declared.Process.{Process}
use Rattle.machine.specs.declared.Reaction.{Reaction}
use Rattle.machine.specs.declared.Traffic.{Traffic}
use Rattle.machine.specs.Image.{State}
use Rattle.machine.specs.Events.{Event, process_at, reaction, outcome, apply}
use Rattle.machine.specs.Stopped.{is_idle}
use Rattle.machine.specs.Run.{after}
use Rattle.machine.specs.Traffic.{traffic_of, traffic, no_traffic, together, traffic_from}
use Rattle.machine.proofs.Laws.Bits.{bit_le}
use Rattle.machine.proofs.Idle.{react_honest}
use Rattle.machine.proofs.Neighbours.{OneSide, NoSide, low_alone, one_neighbour}

-- ---- one event

module _ (st : State) (v : Event) where
  -- the record that stands there
  abbrev here : Process
  here = process_at st.processes v.process

  -- nothing asked and nothing that leaves is no traffic
  no_side : (r : Reaction) → NoSide r → traffic_of r ≡ no_traffic
  no_side r (unasked, stays) = rw (unasked, stays)

  pub idle_none : is_idle (outcome st v) ≡ true → traffic st v ≡ no_traffic
  unfolding traffic outcome reaction
  idle_none idle = ap traffic_of (react_honest v.code v.message st.envelope here idle)

  pub low_none : v.code ≤ 6 → traffic st v ≡ no_traffic
  unfolding traffic reaction
  low_none low = no_side (reaction st v) (low_alone v.code v.message st.envelope here low)

  pub requests_few : (traffic st v).requests ≤ 2
  unfolding traffic
  requests_few =
      let asks = (reaction st v).asks in
      omega (arith, bit_le asks.full, bit_le asks.empty)

  pub departures_few : (traffic st v).departures ≤ 1
  unfolding traffic
  departures_few = bit_le (reaction st v).leaves

  -- never both kinds
  pub one_kind : ((traffic st v).requests ≡ 0) ⊎ ((traffic st v).departures ≡ 0)
  unfolding traffic reaction
  one_kind = by (reaction st v) (one_neighbour v.code v.message st.envelope here)
    where
      by : (r : Reaction) → OneSide r → ((traffic_of r).requests ≡ 0) ⊎ ((traffic_of r).departures ≡ 0)
      by r (inl unasked) = inl (rw unasked)
      by r (inr stays) = inr (rw stays)

-- ---- lists

-- traffic is the same where both numbers are
same_traffic : (t u : Traffic) → t.requests ≡ u.requests → t.departures ≡ u.departures → t ≡ u
same_traffic t u requests departures = λ i. record { requests = requests i; departures = departures i }

together_none : (t : Traffic) → together no_traffic t ≡ t
together_none t = same_traffic (together no_traffic t) t (omega arith) (omega arith)

together_assoc : (t u w : Traffic) → together t (together u w) ≡ together (together t u) w
together_assoc t u w = same_traffic (together t (together u w)) (together (together t u) w) (omega arith) (omega arith)

-- a list of one event
pub traffic_one : (st : State) (v : Event) → traffic_from st (v ∷ []) ≡ traffic st v
unfolding traffic_from
traffic_one st v = same_traffic (together (traffic st v) no_traffic) (traffic st v) (omega arith) (omega arith)

pub traffic_joined : (vs ws : List Event) (st : State)
    → traffic_from st (vs ++ ws) ≡ together (traffic_from st vs) (traffic_from (after st vs) ws)
unfolding traffic_from after
traffic_joined [] ws st = sym (together_none (traffic_from st ws))
traffic_joined (v ∷ vs) ws st =
    let one = traffic st v in
    let rest = traffic_joined vs ws (apply st v) in
    ap (together one) rest ∙ together_assoc one (traffic_from (apply st v) vs) (traffic_from (after (apply st v) vs) ws)

-- at most two requests and one departure an event
pub list_few : (vs : List Event) (st : State)
    → ((traffic_from st vs).requests ≤ length vs + length vs) × ((traffic_from st vs).departures ≤ length vs)
unfolding traffic_from
list_few [] st = (omega arith, omega arith)
list_few (v ∷ vs) st =
    let rest = list_few vs (apply st v) in
    (omega (arith, requests_few st v, rest.0), omega (arith, departures_few st v, rest.1))
