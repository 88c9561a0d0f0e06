-- Entry 10. A put may end alone, in rings of two and of three: the checker computes a list of events for each, and one
-- more by which a get takes the message and the ring is stopped after all. And in every ring, by the invariant and not
-- event by event: where the envelope is full and nobody is in stages 4 and 5, clause E says that one more put has ended
-- than messages were taken. Puts ended never fall. When the ring is stopped as many gets as puts have ended, and no
-- more gets end than messages are taken: so a message has been taken since, and since they are taken in the order in
-- which they were filled, the envelope's own before any other. Where nobody receives either, all gets that were started
-- have ended, one fewer than puts: so another must start.
use Prim.Native.Nat.{ℕ, ◌+◌, ◌≤◌}
use mathlib.Core.Path.{◌≡◌, refl, sym, ap, ◌∙◌}
use mathlib.Core.Bool.{Bool, true, false, ◌&&◌}
use mathlib.Core.List.{List, [], ◌∷◌, ◌++◌, append_assoc, append_cancel_left, head-eq_of_cons-eq, cons≢nil}
use native.Mathlib.Omega.{arith}
use lib.ListN.{length, length-append}
use lib.Dec.{leb, lit<}
use borrow.Author.Tests.{leb-true, le-leb}
use Rattle.machine.specs.declared.Counts.{Counts}
use Rattle.machine.specs.Bytes.{bit}
use Rattle.machine.specs.Image.{State}
use Rattle.machine.specs.Stages.{receiving}
use Rattle.machine.specs.Fresh.{fresh_state}
use Rattle.machine.specs.Events.{Event, process_at}
use Rattle.machine.specs.Stopped.{stopped, Stopped}
use Rattle.machine.specs.Run.{counts_from, no_counts, after}
use Rattle.machine.specs.Balance.{filled_from, taken_from, own_message, Totals, totals_of, totals_from, on_ring}
use Rattle.machine.specs.Alone.{PutEnded, EndsAlone, OneMoreSent, Thereafter, NoStopWithoutTake}
use Rattle.machine.specs.Alone.{StoppedOnceTaken, NoStopWithoutGet}
use Rattle.machine.proofs.Cases.Computed.{rules}
use Rattle.machine.proofs.Image.Fresh.{length_fresh}
use Rattle.machine.proofs.Stopped.{stopped_means}
use Rattle.machine.proofs.Runs.{length_after}
use Rattle.machine.proofs.Tallies.{gets_add, sent_add}
use Rattle.machine.proofs.Soundness.Sums.{parts_le}
use Rattle.machine.proofs.Balance.Clauses.{emptied, Invariant}
use Rattle.machine.proofs.Balance.Kept.{events_kept}
use Rattle.machine.proofs.Balance.Still.{refuted}
use Rattle.machine.proofs.Balance.Standstill.{ended}
use Rattle.machine.proofs.Balance.Theorem.{reached}
use Rattle.machine.proofs.Balance.Witness.{at}

-- ---- a put may end alone

-- two processes: 1 asks for empty, and 0 lets the envelope leave; then 0 asks for full, and 1 passes that on to 0
-- again, while the envelope is on its way to 1
unfoldable pub two_cross : List Event
two_cross =
    at 0 1 0 ∷ at 1 0 2 ∷ at 1 3 0 ∷ at 1 7 0 ∷ at 0 6 0 ∷ at 0 7 0 ∷ at 0 3 0 ∷ at 0 7 0 ∷ at 1 5 0 ∷ at 1 7 0 ∷ []

-- 0 is asked by its own request; 1 fills the envelope; 0 takes the message, and as its get ends sets the marker again
unfoldable pub two_outlive : List Event
two_outlive =
    at 0 5 0 ∷ at 1 4 0 ∷ at 1 7 0 ∷ at 1 2 0 ∷ at 1 3 0 ∷ at 1 7 0
    ∷ at 0 4 0 ∷ at 0 7 0 ∷ at 0 2 0 ∷ at 0 3 0 ∷ at 0 7 0 ∷ []

-- three processes: 2 asks for full; 1 passes that on to 0, which lets the envelope leave for 1 before it hears it
unfoldable pub three_cross : List Event
three_cross =
    at 1 0 1 ∷ at 1 3 0 ∷ at 2 1 0 ∷ at 2 3 0 ∷ at 2 7 0 ∷ at 1 5 0 ∷ at 1 7 0 ∷ at 0 6 0 ∷ at 0 7 0 ∷ []

-- 0 passes it on to 2, where it began; 1 fills the envelope; 2 takes the message, and as its get ends sets the marker
-- again
unfoldable pub three_outlive : List Event
three_outlive =
    at 0 5 0 ∷ at 0 7 0 ∷ at 1 4 0 ∷ at 1 7 0 ∷ at 1 2 0 ∷ at 1 3 0 ∷ at 1 7 0
    ∷ at 2 4 0 ∷ at 2 5 0 ∷ at 2 7 0 ∷ at 2 2 0 ∷ at 2 3 0 ∷ at 2 7 0 ∷ []

-- process i has the empty envelope and fills it: the marker lets it leave, and the put ends
unfoldable pub fill_at : ℕ → ℕ → List Event
fill_at i message = at i 0 message ∷ at i 3 0 ∷ at i 7 0 ∷ at i 2 0 ∷ at i 3 0 ∷ at i 7 0 ∷ []

-- the envelope is on its way to process i, which takes the message
unfoldable pub take_at : ℕ → List Event
take_at i = at i 1 0 ∷ at i 3 0 ∷ at i 4 0 ∷ at i 7 0 ∷ at i 2 0 ∷ at i 3 0 ∷ at i 7 0 ∷ []

-- a put ends alone, with these totals; and after some more events the ring is stopped
abbrev pub AloneThenStopped : ℕ → List Event → List Event → List Event → List Event → Totals → Type 0
AloneThenStopped n crosses outlives ends more t =
    EndsAlone n 0 crosses outlives ends
    × (totals_from (fresh_state n 0) (crosses ++ (outlives ++ ends)) ≡ t)
    × (stopped (after (after (fresh_state n 0) (crosses ++ (outlives ++ ends))) more) ≡ true)

-- 27 events: of two puts and one get all have ended, and nobody is left to take the second message
pub two_alone :
    AloneThenStopped 2 two_cross two_outlive (fill_at 0 22) (take_at 1)
    (record { puts = 2; gets = 1; sent = 2; got = 1; filled = 2 ∷ 22 ∷ []; taken = 2 ∷ [] })
unfolding rules two_cross two_outlive fill_at take_at
two_alone = (
  record {
    within_ring = refl;
    crossing = record { process = 1; within_ring = lit< tt; request = refl; envelope = refl };
    no_receiver = record { marker = refl; nobody = refl };
    alone =
        record {
          put_ended = record { is_full = refl; nobody = refl };
          no_receiver = record { marker = refl; nobody = refl };
        };
    moving = refl;
  },
  refl,
  refl,
)

-- 28 events: the same in a ring of three
pub three_alone :
    AloneThenStopped 3 three_cross three_outlive (fill_at 2 23) (take_at 0)
    (record { puts = 2; gets = 1; sent = 2; got = 1; filled = 1 ∷ 23 ∷ []; taken = 1 ∷ [] })
unfolding rules three_cross three_outlive fill_at take_at
three_alone = (
  record {
    within_ring = refl;
    crossing = record { process = 1; within_ring = lit< tt; request = refl; envelope = refl };
    no_receiver = record { marker = refl; nobody = refl };
    alone =
        record {
          put_ended = record { is_full = refl; nobody = refl };
          no_receiver = record { marker = refl; nobody = refl };
        };
    moving = refl;
  },
  refl,
  refl,
)

-- ---- no stop before the message is taken

-- some messages that come before others, where the first of all is m, begin with m
first_is : (m : ℕ) (all some others : List ℕ) → 1 ≤ length some → m ∷ all ≡ some ++ others
    → (later : List ℕ) × (some ≡ m ∷ later)
first_is m all [] others positive same = absurd (omega arith)
first_is m all (x ∷ later) others positive same =
    (later, ap (λ (k : ℕ). k ∷ later) (sym (head-eq_of_cons-eq same)))

-- a ring with the invariant, full and with its put ended
module _ (st : State) (c : Counts) (fills takes : List ℕ) (inv : Invariant st (totals_of c fills takes))
    (put_ended : PutEnded st) where
  -- the envelope's own message
  abbrev message : ℕ
  message = st.envelope.message

  -- it is the last of those filled
  filled_last : fills ≡ takes ++ (message ∷ [])
  filled_last = rw put_ended.is_full at inv.counted.messages

  -- so one more put has ended than messages were taken
  one_more : c.sent ≡ length takes + 1
  one_more =
      omega (
        arith,
        inv.counted.fills,
        put_ended.nobody,
        ap length filled_last ∙ length-append takes (message ∷ []),
      )

  -- and events from there on
  module _ (ws : List Event) (within_ring : on_ring (length st.processes) ws ≡ true) where
    -- the invariant after the events
    kept :
        Invariant (after st ws) (totals_of (counts_from c st ws) (fills ++ filled_from st ws)
        (takes ++ taken_from st ws))
    kept = events_kept ws st c fills takes inv within_ring

    -- where it is stopped, something was taken
    some_taken : Stopped (after st ws) → 1 ≤ length (taken_from st ws)
    some_taken halt =
        omega (
          arith,
          one_more,
          sent_add ws st c,
          (ended (after st ws) _ kept halt).0,
          kept.counted.takes,
          length-append takes (taken_from st ws),
        )

    -- and messages are taken in the order in which they were filled
    in_order : message ∷ filled_from st ws ≡ taken_from st ws ++ own_message (after st ws).envelope
    in_order =
        append_cancel_left takes _ _
        (sym (append_assoc takes (message ∷ []) (filled_from st ws))
        ∙ ap (λ (l : List ℕ). l ++ filled_from st ws) (sym filled_last)
        ∙ kept.counted.messages
        ∙ append_assoc takes (taken_from st ws) (own_message (after st ws).envelope))

    taken_first : Stopped (after st ws) → (later : List ℕ) × (taken_from st ws ≡ message ∷ later)
    taken_first halt = first_is message _ (taken_from st ws) _ (some_taken halt) in_order

-- from the fresh ring
pub stopped_once_taken : StoppedOnceTaken
unfolding totals_from
stopped_once_taken n home two few below vs within_ring put_ended ws then_on_ring =
    let fresh = fresh_state n home in
    taken_first (after fresh vs) (counts_from no_counts fresh vs) (filled_from fresh vs) (taken_from fresh vs)
    (reached n home two few below vs within_ring) put_ended ws
    (rw (length_after vs fresh, length_fresh n home) then_on_ring)

-- nothing taken is not that message taken
pub no_stop_without_take : NoStopWithoutTake
no_stop_without_take n home two few below vs within_ring put_ended ws then_on_ring none halt =
    let found = stopped_once_taken n home two few below vs within_ring put_ended ws then_on_ring halt in
    cons≢nil (sym found.1 ∙ none)

-- and so the test says no
pub not_stopped_without_take : Thereafter PutEnded (λ st ws. taken_from st ws ≡ [] → stopped (after st ws) ≡ false)
not_stopped_without_take n home two few below vs within_ring put_ended ws then_on_ring none =
    let end = after (after (fresh_state n home) vs) ws in
    refuted (stopped end)
    (λ yes. no_stop_without_take n home two few below vs within_ring put_ended ws then_on_ring none
    (stopped_means end yes))

-- ---- no stop without a get

-- who is in stages 9 and 10 is a receiver
emptied_receives : (k : ℕ) → bit (emptied k) ≤ bit (receiving k)
emptied_receives k = go (leb 9 k) refl
  where
    go : (b : Bool) → leb 9 k ≡ b → bit (leb 9 k && leb k 10) ≤ bit (leb 6 k && leb k 10)
    go true high = rw (high, le-leb 6 k (omega (arith, leb-true 9 k high))) (omega arith)
    go false low = rw low (omega arith)

-- one more message was filled than taken, all who filled one have ended, and so have all gets that were started
pub one_more_sent : OneMoreSent
unfolding totals_from
one_more_sent n home two few below vs within_ring alone =
    let fresh = fresh_state n home in
    let inv = reached n home two few below vs within_ring in
    let more = one_more (after fresh vs) (counts_from no_counts fresh vs) _ _ inv alone.put_ended in
    let counted = inv.counted in
    omega (
      arith,
      more,
      counted.gets,
      counted.takes,
      alone.no_receiver.nobody,
      parts_le (λ p. bit (emptied p.stage)) (λ p. bit (receiving p.stage)) (after fresh vs).processes
          (λ i _. emptied_receives (process_at (after fresh vs).processes i).stage),
    )

-- one more put has ended than gets were started, and ends are never fewer; when it is stopped as many gets have ended
-- as puts, and no more end than start: so one has been started since. Over numbers alone, so that it needs just that
another_starts : {sent gets later_sent later_gets later_got : ℕ} → sent ≡ gets + 1 → sent ≤ later_sent
    → later_sent ≡ later_got
    → later_got ≤ later_gets
    → later_gets ≡ gets
    → ⊥
another_starts more never_fewer pairs within none = omega arith

pub no_stop_without_get : NoStopWithoutGet
unfolding totals_from
no_stop_without_get n home two few below vs within_ring alone ws then_on_ring none halt =
    let fresh = fresh_state n home in
    let st = after fresh vs in
    let c = counts_from no_counts fresh vs in
    let inv = reached n home two few below vs within_ring in
    let later =
    kept st c _ _ inv alone.put_ended ws (rw (length_after vs fresh, length_fresh n home) then_on_ring) in
    let pairs = ended (after st ws) _ later halt in
    let none_since : (counts_from c st ws).gets ≡ c.gets = omega (arith, gets_add ws st c, none) in
    another_starts (one_more_sent n home two few below vs within_ring alone) (omega (arith, sent_add ws st c)) pairs.0
    (omega (arith, pairs.1)) none_since
