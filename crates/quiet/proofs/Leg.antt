-- A ring that is in a row stays in the rows: an idle event leaves it as it is, the due one leads to the next row, no
-- other is possible, and where no put and no get starts there is no further event. So after any list of events it is in
-- some row, and what was done is what the rows count.
use Prim.Native.Nat.{ℕ, zero, suc, ◌+◌, ◌≤◌, ◌<◌}
use mathlib.Core.Path.{◌≡◌, refl, sym, ap, ◌∙◌}
use mathlib.Core.Bool.{Bool, true, false, not, cond, ◌&&◌, true≢false}
use mathlib.Core.List.{List, [], ◌∷◌, ◌++◌}
use mathlib.Core.Logic.{◌⊎◌, inl, inr, ◌≢◌}
use native.Mathlib.Omega.{arith}
use lib.Dec.{eqb, ltb}
use borrow.Author.Tests.{eqb-true, ne_eqb, eq-eqb, ltb-true}
use Rattle.machine.specs.declared.Envelope.{Envelope}
use Rattle.machine.specs.declared.Process.{Process}
use Rattle.machine.specs.declared.Reaction.{Reaction}
use Rattle.machine.specs.Bytes.{bit}
use Rattle.machine.specs.Lists.{all}
use Rattle.machine.specs.Fields.{Status, none}
use Rattle.machine.specs.Image.{State}
use Rattle.machine.specs.Events.{Event, react, process_at, reaction, outcome, apply}
use Rattle.machine.specs.Stopped.{is_idle}
use Rattle.machine.specs.Run.{after}
use Rattle.machine.specs.Traffic.{traffic_of, traffic, traffic_from}
use Rattle.machine.specs.Balance.{on_ring}
use Rattle.machine.proofs.Laws.Lists.{and_first, and_second}
use Rattle.machine.proofs.Laws.Bytes.{lt_or_ge}
use Rattle.machine.proofs.Idle.{idles, idle_keeps}
use Rattle.machine.proofs.LinkTraffic.{idle_none}
use Rattle.quiet.specs.Quiet.{starts_from, way}
use Rattle.quiet.specs.Order.{done_from}
use Rattle.quiet.proofs.Along.{left_by, by_way}
use Rattle.quiet.proofs.Seen.{Seen, seen_after}
use Rattle.quiet.proofs.Rows.{Row, pairs, sight, envelope_in, Fits, done_by, asks_by, leaves_by}
use Rattle.quiet.proofs.Rows.Row.{Rest}
use Rattle.quiet.proofs.Only.{only_one}
use Rattle.quiet.proofs.Moves.{makes, shows}
use Rattle.quiet.proofs.Next.{Goes, goes}

-- ---- what isn't a start

-- codes above 7 are idle
pub above_idle : (code message : ℕ) (e : Envelope) (p : Process) → 8 ≤ code → idles (react code message e p) ≡ true
unfolding react
above_idle code message e p high =
    rw (
      ne_eqb code 0 (λ same. absurd (omega arith)),
      ne_eqb code 1 (λ same. absurd (omega arith)),
      ne_eqb code 2 (λ same. absurd (omega arith)),
      ne_eqb code 3 (λ same. absurd (omega arith)),
      ne_eqb code 4 (λ same. absurd (omega arith)),
      ne_eqb code 5 (λ same. absurd (omega arith)),
      ne_eqb code 6 (λ same. absurd (omega arith)),
      ne_eqb code 7 (λ same. absurd (omega arith)),
    )

-- of a list without starts the first event is none, and the others are none
pub no_start : (code : ℕ) (st : State) (v : Event) (vs : List Event) → starts_from code st (v ∷ vs) ≡ []
    → (eqb v.code code && not (is_idle (outcome st v)) ≡ false) × (starts_from code (apply st v) vs ≡ [])
unfolding starts_from
no_start code st v vs none = go (eqb v.code code && not (is_idle (outcome st v))) none
  where
    go : (b : Bool) → cond b (v.process ∷ []) [] ++ starts_from code (apply st v) vs ≡ []
        → (b ≡ false) × (starts_from code (apply st v) vs ≡ [])
    go true h = let z : ◌≡◌ {A = ℕ} 0 1 = cc in absurd (omega arith)
    go false h = (refl, h)

-- an event that isn't idle and starts nothing has one of the codes 2 to 7
module _ (st : State) (v : Event) (moves : is_idle (outcome st v) ≡ false) where
  not_code : (code : ℕ) → eqb v.code code && not (is_idle (outcome st v)) ≡ false → v.code ≢ code
  not_code code none same =
      absurd (true≢false (sym (rw (eq-eqb v.code code same, moves)) ∙ none))

  pub at_most_7 : v.code ≤ 7
  unfolding outcome reaction
  at_most_7 = go (lt_or_ge 7 v.code)
    where
      go : (7 < v.code) ⊎ (v.code ≤ 7) → v.code ≤ 7
      go (inl high) =
          absurd
          (true≢false
          (sym (above_idle v.code v.message st.envelope (process_at st.processes v.process) (omega arith))
          ∙ moves))
      go (inr low) = low

  pub moving_code : eqb v.code 0 && not (is_idle (outcome st v)) ≡ false
      → eqb v.code 1 && not (is_idle (outcome st v)) ≡ false
      → (2 ≤ v.code) × (v.code ≤ 7)
  moving_code no_put no_get = (from_2 v.code (not_code 0 no_put) (not_code 1 no_get), at_most_7)
    where
      from_2 : (code : ℕ) → code ≢ 0 → code ≢ 1 → 2 ≤ code
      from_2 zero a b = absurd (a refl)
      from_2 (suc zero) a b = absurd (b refl)
      from_2 (suc (suc code)) a b = omega arith

-- ---- in a row

-- the ring of n is in a row, seen from c
pub record In (n c : ℕ) (w : Status) (o : Bool) (d m : ℕ) (row : Row) (st : State) : Type 0 where
  pub envelope : st.envelope ≡ envelope_in w o d m row
  pub seen : Seen n c st.processes (shows o d m w row)
  pub fits : Fits d row

-- after an event it is in this row or in the next one
record Stepped (n c : ℕ) (w : Status) (o : Bool) (d m : ℕ) (row : Row) (st : State) (v : Event) : Type 0 where
  next : Row
  inside : In n c w o d m next (apply st v)
  done_more : done_by d next ≡ bit (not (is_idle (outcome st v))) + done_by d row
  asks_more : asks_by d next ≡ (traffic st v).requests + asks_by d row
  leaves_more : leaves_by d next ≡ (traffic st v).departures + leaves_by d row

-- after a list it is in some row, and the list has done what the rows between them count
pub record Walked (n c : ℕ) (w : Status) (o : Bool) (d m : ℕ) (row : Row) (st : State) (vs : List Event) : Type 0
  where
    pub last : Row
    pub inside : In n c w o d m last (after st vs)
    pub done : done_by d last ≡ done_from st vs + done_by d row
    pub asks : asks_by d last ≡ (traffic_from st vs).requests + asks_by d row
    pub leaves : leaves_by d last ≡ (traffic_from st vs).departures + leaves_by d row

-- the request of an event, by the wish
one_request : (w b : Bool) → bit (pairs w b false).full + bit (pairs w b false).empty ≡ bit b
one_request true true = refl
one_request true false = refl
one_request false true = refl
one_request false false = refl

no_request_asked : (w b : Bool) → b ≡ false → pairs w b false ≡ none
no_request_asked true b e = rw e
no_request_asked false b e = rw e

module _ (n c : ℕ) (two : 2 ≤ n) (below : c < n) (w : Status) (o : Bool) (d m : ℕ) (wide : d < n)
    (far : w ≡ true → 1 ≤ d) where
  module _ (row : Row) (st : State) (inside : In n c w o d m row st) where
    -- the place of an event
    abbrev place_of : Event → ℕ
    place_of v = way n v.process c

    -- what it finds there
    found : (v : Event) → v.process < n
        → reaction st v ≡ react v.code v.message (envelope_in w o d m row) (shows o d m w row (place_of v))
    unfolding reaction
    found v on =
        let at = by_way n c below v.process on in
        rw inside.envelope
        (ap (react v.code v.message (envelope_in w o d m row))
        (ap (process_at st.processes) (sym at.1) ∙ inside.seen.at (place_of v) at.0))

    -- an event that is possible is the due one
    pub due_event : (v : Event) → v.process < n → 2 ≤ v.code → v.code ≤ 7 → is_idle (outcome st v) ≡ false
        → (v.code ≡ (sight w o d m row).code) × (place_of v ≡ (sight w o d m row).place)
    unfolding outcome
    due_event v on low high moves =
        let x = sight w o d m row in
        let test : not (eqb x.code v.code && eqb (place_of v) x.place) ≡ false =
        sym (only_one w o d m row (envelope_in w o d m row) v.message (place_of v) v.code low high)
        ∙ ap idles (sym (found v on))
        ∙ moves in
        let both = meant (eqb x.code v.code && eqb (place_of v) x.place) test in (
          sym (eqb-true _ _ (and_first (eqb x.code v.code) _ both)),
          eqb-true _ _ (and_second (eqb x.code v.code) _ both),
        )
      where
        meant : (b : Bool) → not b ≡ false → b ≡ true
        meant true h = refl
        meant false h = absurd (true≢false h)

    -- the last row has none
    not_rest : (v : Event) → 2 ≤ v.code → v.code ≡ (sight w o d m row).code → row ≢ Rest
    not_rest v low same is_rest =
        let last : (sight w o d m row).code ≡ 0 = rw is_rest in
        absurd (omega arith)

    -- the due event, performed
    performed : (v : Event) → v.process < n → v.code ≡ (sight w o d m row).code
        → place_of v ≡ (sight w o d m row).place → (go : Goes n w o d m row)
        → Stepped n c w o d m row st v
    unfolding apply outcome traffic
    performed v on code_is place_is go =
        let x = sight w o d m row in
        let leads = go.leads in
        let r = makes w (shows o d m w go.next x.place) (envelope_in w o d m go.next) go.asks go.leaves
        leads.outcome in
        let does : reaction st v ≡ r = found v on ∙ rw (code_is, place_is) (leads.own v.message) in
        let where_it_is : left_by n c x.place ≡ v.process =
        ap (left_by n c) (sym place_is) ∙ (by_way n c below v.process on).1 in
        record {
          next = go.next;
          inside = record {
            envelope = rw does;
            seen = rw (does, ← where_it_is)
                (seen_after n c two below st.processes (shows o d m w row) inside.seen x.place r
                (shows o d m w go.next) leads.within_ring (behind leads.inner) leads.outer refl
                leads.others);
            fits = leads.fits;
          };
          done_more = omega (arith, leads.done_more, ap (λ (b : Bool). bit (not b)) (ap idles does ∙ leads.busy));
          asks_more =
              omega (
                arith,
                leads.asks_more,
                ap (λ (t : Reaction). (traffic_of t).requests) does ∙ one_request w go.asks,
              );
          leaves_more = omega (arith, leads.leaves_more, ap (λ (t : Reaction). (traffic_of t).departures) does);
        }
      where
        behind : ((sight w o d m row).place + 1 < n) ⊎ (go.asks ≡ false)
            → ((sight w o d m row).place + 1 < n) ⊎ (pairs w go.asks false ≡ none)
        behind (inl inner) = inl inner
        behind (inr unasked) = inr (no_request_asked w go.asks unasked)

    -- an event that isn't idle and starts nothing
    busy_step : (v : Event) → v.process < n → (2 ≤ v.code) × (v.code ≤ 7) → is_idle (outcome st v) ≡ false
        → Stepped n c w o d m row st v
    busy_step v on (low, high) moves =
        let is = due_event v on low high moves in
        performed v on is.0 is.1 (goes n w o d m wide far row inside.fits (not_rest v low is.0))

    -- an idle one
    idle_step : (v : Event) → is_idle (outcome st v) ≡ true → Stepped n c w o d m row st v
    idle_step v idle =
        record {
          next = row;
          inside = rw (idle_keeps st v idle) inside;
          done_more = rw idle (omega arith);
          asks_more = rw (idle_none st v idle) (omega arith);
          leaves_more = rw (idle_none st v idle) (omega arith);
        }

    -- and any event that starts nothing
    stepped : (v : Event) → v.process < n → eqb v.code 0 && not (is_idle (outcome st v)) ≡ false
        → eqb v.code 1 && not (is_idle (outcome st v)) ≡ false
        → Stepped n c w o d m row st v
    stepped v on no_put no_get = go (is_idle (outcome st v)) refl
      where
        go : (b : Bool) → is_idle (outcome st v) ≡ b → Stepped n c w o d m row st v
        go true idle = idle_step v idle
        go false moves = busy_step v on (moving_code st v moves no_put no_get) moves

  -- event after event
  pub walk : (vs : List Event) (row : Row) (st : State) → In n c w o d m row st → on_ring n vs ≡ true
      → starts_from 0 st vs ≡ [] → starts_from 1 st vs ≡ []
      → Walked n c w o d m row st vs
  unfolding after done_from traffic_from all
  walk [] row st inside on no_put no_get =
      record { last = row; inside = inside; done = omega arith; asks = omega arith; leaves = omega arith }
  walk (v ∷ vs) row st inside on no_put no_get =
      let puts = no_start 0 st v vs no_put in
      let gets = no_start 1 st v vs no_get in
      let here = ltb-true v.process n (and_first (ltb v.process n) _ on) in
      let one = stepped row st inside v here puts.0 gets.0 in
      let rest = walk vs one.next (apply st v) one.inside (and_second (ltb v.process n) _ on) puts.1
      gets.1 in
      record {
        last = rest.last;
        inside = rest.inside;
        done = omega (arith, one.done_more, rest.done);
        asks = omega (arith, one.asks_more, rest.asks);
        leaves = omega (arith, one.leaves_more, rest.leaves);
      }
