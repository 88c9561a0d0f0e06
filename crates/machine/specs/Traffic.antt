-- Link traffic: document 02, A.4. What an event puts on the links, and what a list of events does.
use Rattle.std.specs.Prelude.{ℕ, ◌+◌, List, [], ◌∷◌}
use Rattle.machine.specs.declared.Traffic.{Traffic}
use Rattle.machine.specs.declared.Reaction.{Reaction}
use Rattle.machine.specs.Bytes.{bit}
use Rattle.machine.specs.Image.{State}
use Rattle.machine.specs.Events.{Event, reaction, apply}

-- the requests that go on the link to the left, whether or not one like them waits there, and whether the envelope
-- leaves
abbrev pub traffic_of : Reaction → Traffic
traffic_of r = record { requests = bit r.asks.full + bit r.asks.empty; departures = bit r.leaves }

-- of an event
unfoldable pub traffic : State → Event → Traffic
traffic st v = traffic_of (reaction st v)

-- none, and two sums
abbrev pub no_traffic : Traffic
no_traffic = record { requests = 0; departures = 0 }

abbrev pub together : Traffic → Traffic → Traffic
together t u = record { requests = t.requests + u.requests; departures = t.departures + u.departures }

-- of events performed from a state on
unfoldable pub traffic_from : State → List Event → Traffic
traffic_from st [] = no_traffic
traffic_from st (v ∷ vs) = together (traffic st v) (traffic_from (apply st v) vs)

-- both as an answer has them, requests first
abbrev pub traffic_values : Traffic → List ℕ
traffic_values t = t.requests ∷ t.departures ∷ []
