-- One event keeps the invariant, clause by clause, by what it owes at its own process and what is kept on the ring. So
-- does a list of events.
use Prim.Native.Nat.{ℕ, ◌+◌, ◌≤◌, ◌<◌}
use mathlib.Core.Path.{◌≡◌, refl, sym, ap, ◌∙◌}
use mathlib.Core.Bool.{Bool, true}
use mathlib.Core.List.{List, [], ◌∷◌, ◌++◌, append_assoc, append-nil}
use native.Mathlib.Omega.{arith}
use lib.ListN.{length, length-append}
use lib.Dec.{ltb}
use borrow.Author.Tests.{ltb-true}
use Rattle.machine.specs.declared.Counts.{Counts}
use Rattle.machine.specs.declared.Envelope.{Envelope}
use Rattle.machine.specs.declared.Process.{Process}
use Rattle.machine.specs.declared.Outcome.{Outcome}
use Rattle.machine.specs.declared.Reaction.{Reaction}
use Rattle.machine.specs.Bytes.{bit}
use Rattle.machine.specs.Lists.{all}
use Rattle.machine.specs.Fields.{Status, for}
use Rattle.machine.specs.Image.{State}
use Rattle.machine.specs.Stages.{sending, filled, receiving}
use Rattle.machine.specs.Events.{Event, react, process_at, place, reaction, outcome, apply}
use Rattle.machine.specs.Run.{counted, counts_from, after}
use Rattle.machine.specs.Balance.{filled_by, taken_by, filled_from, taken_from, own_message, Totals, totals_of, on_ring}
use Rattle.machine.specs.Balance.{in_stages}
use Rattle.machine.proofs.Laws.Lists.{and_first, and_second}
use Rattle.machine.proofs.Soundness.Sums.{marks_for, mark_counted}
use Rattle.machine.proofs.Soundness.Settled.{Fits}
use Rattle.machine.proofs.Soundness.Facts.{fits_at}
use Rattle.machine.proofs.Soundness.Placed.{length_placed, sum_placed}
use Rattle.machine.proofs.Soundness.Kept.{length_applied, facts_kept}
use Rattle.machine.proofs.Balance.Clauses.{emptied, Counted, Invariant}
use Rattle.machine.proofs.Balance.Header.{react_only_holder}
use Rattle.machine.proofs.Balance.Rest.{react_rests}
use Rattle.machine.proofs.Balance.Claimed.{react_claims}
use Rattle.machine.proofs.Balance.HasAsked.{react_asked}
use Rattle.machine.proofs.Balance.Handed.{react_awaits, react_keeps_request}
use Rattle.machine.proofs.Balance.Counted.{StageCounts, react_counts, react_messages}
use Rattle.machine.proofs.Balance.OnRing.{rests_placed, claimed_placed, asked_placed, handed_placed}

-- ---- E. The counts, with one event more

-- counts that are these, for what totals have no part in
abbrev pub counts_of : Totals → Counts
counts_of t =
    record { puts = t.puts; gets = t.gets; fills = 0; takes = 0; sent = t.sent; got = t.got; idle = 0; records = 0 }

-- the totals with an event more: as a run counts it, and with its message
abbrev pub added : ℕ → Outcome → Totals → Totals
added code o t = totals_of (counted code o (counts_of t)) (t.filled ++ filled_by o) (t.taken ++ taken_by o)

module _ (e : Envelope) (l : List Process) (i : ℕ) (r : Reaction) (below : i < length l) (code : ℕ) where
  -- processes in stages of a set change by the own one alone
  placed : (stages : ℕ → Bool)
      → in_stages stages (place l i r) + bit (stages (process_at l i).stage)
      ≡ in_stages stages l + bit (stages r.process.stage)
  placed stages = sum_placed l i r below (λ p. bit (stages p.stage)) (λ _ _. refl) (λ _ _. refl)

  counted_placed : (t : Totals) → Counted l e t
      → StageCounts code r.outcome (process_at l i).stage r.process.stage
      → own_message e ++ filled_by r.outcome ≡ taken_by r.outcome ++ own_message r.envelope
      → Counted (place l i r) r.envelope (added code r.outcome t)
  unfolding counted
  counted_placed t before own message =
      let o = r.outcome in
      record {
        puts = omega (arith, before.puts, own.puts, placed sending);
        gets = omega (arith, before.gets, own.gets, placed receiving);
        fills = omega (arith, before.fills, own.fills, placed filled, length-append t.filled (filled_by o));
        takes = omega (arith, before.takes, own.takes, placed emptied, length-append t.taken (taken_by o));
        messages =
            ap (λ (m : List ℕ). m ++ filled_by o) before.messages
            ∙ append_assoc t.taken (own_message e) (filled_by o)
            ∙ ap (λ (m : List ℕ). t.taken ++ m) message
            ∙ sym (append_assoc t.taken (taken_by o) (own_message r.envelope));
      }

-- ---- one event

module _ (st : State) (t : Totals) (inv : Invariant st t) (v : Event)
    (below : v.process < length st.processes) where
  -- its process fits, and so does its mark
  fits_here : Fits st.envelope (process_at st.processes v.process)
  fits_here = fits_at st inv.fits v.process below

  own_mark : (s : Status)
      → marks_for s (process_at st.processes v.process) ≤ for st.envelope.marked s
  own_mark = mark_counted st inv.few inv.fits.rest v.process below

  -- the invariant after it
  pub event_kept : Invariant (apply st v) (added v.code (outcome st v) t)
  unfolding apply outcome reaction
  event_kept =
      let e = st.envelope in
      let l = st.processes in
      let i = v.process in
      let p = process_at l i in
      let r = react v.code v.message e p in
      record {
        two = omega (arith, length_placed l i r, inv.two);
        few = omega (arith, length_placed l i r, inv.few);
        fits = facts_kept st v below inv.few inv.fits;
        rests =
            rests_placed e l i r inv.two below inv.fits.rest.one_place
            (react_only_holder e p fits_here v.code v.message)
            inv.rests (react_rests e p fits_here own_mark v.code v.message (inv.rests i below));
        claimed =
            claimed_placed e l i r inv.two below inv.claimed
            (react_claims e p fits_here own_mark v.code v.message);
        asked =
            λ j within s. asked_placed e l i r inv.two below s (λ k inside. inv.asked k inside s)
            (react_asked e p fits_here v.code v.message s (inv.asked i below s)) j within;
        handed =
            λ j within s. handed_placed e l i r inv.two below s (λ k inside. inv.handed k inside s)
            (react_awaits v.code v.message e p s) (react_keeps_request v.code v.message e p s) j within;
        counted =
            counted_placed e l i r below v.code t inv.counted (react_counts e p fits_here v.message v.code)
            (react_messages e p fits_here v.message v.code);
      }

-- ---- a list of events

-- with the counts and the messages of the events before it
pub events_kept : (vs : List Event) (st : State) (c : Counts) (filled taken : List ℕ)
    → Invariant st (totals_of c filled taken) → on_ring (length st.processes) vs ≡ true
    → Invariant (after st vs) (totals_of (counts_from c st vs) (filled ++ filled_from st vs)
    (taken ++ taken_from st vs))
unfolding after counts_from filled_from taken_from counted all
events_kept [] st c filled taken inv _ = rw (append-nil filled, append-nil taken) inv
events_kept (v ∷ vs) st c filled taken inv within_ring =
    let o = outcome st v in
    let n = length st.processes in
    let below : v.process < n = ltb-true v.process n (and_first (ltb v.process n) (on_ring n vs) within_ring) in
    let others : on_ring (length (apply st v).processes) vs ≡ true =
    rw (length_applied st v) (and_second (ltb v.process n) (on_ring n vs) within_ring) in
    rw (
      ← append_assoc filled (filled_by o) (filled_from (apply st v) vs),
      ← append_assoc taken (taken_by o) (taken_from (apply st v) vs),
    )
    (events_kept vs (apply st v) (counted v.code o c) (filled ++ filled_by o) (taken ++ taken_by o)
    (event_kept st (totals_of c filled taken) inv v below) others)
