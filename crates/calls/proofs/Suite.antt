-- The third demand over the calls of the suite's host: every call keeps what Calls.Reached says, which is what
-- Demand.promised reads. With a result slice of at least 80 bytes a call leaves the image as the call itself does, and
-- what is read back shows the same: the values fit their words, since messages have 32 bits, a run has at most
-- 4,128,768 events, and an event puts at most two requests on a link. With a shorter slice a call leaves the image, and
-- the number that it returns isn't 0, so that it shows nothing.
use Rattle.std.specs.Prelude.{Err, Ok}
use Prim.Native.Nat.{ℕ, suc, ◌-◌, ◌*◌, ◌^◌, ◌≤◌, ◌<◌}
use mathlib.Core.Path.{◌≡◌, refl, sym, ap, ap₂, subst, ◌∙◌}
use mathlib.Core.List.{List, [], ◌∷◌, ◌++◌, map}
use mathlib.Core.Logic.{◌⊎◌, inl, inr}
use native.Mathlib.Omega.{arith}
use lib.ListN.{length, replicate}
use lib.Dec.{lit<, lit≤}
use Rattle.machine.specs.declared.Counts.{Counts}
use Rattle.machine.specs.declared.Outcome.{Outcome}
use Rattle.machine.specs.declared.Outcome.TheVariants.{Idle, Moved, Fill, Take, Sent, Got}
use Rattle.machine.specs.declared.Traffic.{Traffic}
use Rattle.machine.specs.Verdict.{Verdict}
use Rattle.machine.specs.Bytes.{Bytes, bit}
use Rattle.machine.specs.Lists.{tabulate}
use Rattle.machine.specs.Ring.{least, most, image_length}
use Rattle.machine.specs.Image.{size_in, state_in}
use Rattle.machine.specs.Events.{outcome}
use Rattle.machine.specs.Stopped.{stopped}
use Rattle.machine.specs.Run.{outcome_number, no_counts, counts_from, count_values}
use Rattle.machine.specs.Traffic.{traffic, traffic_from, traffic_values}
use Rattle.machine.specs.Balance.{Totals}
use Rattle.machine.specs.Tape.{event_in}
use Rattle.machine.specs.Refusals.{number_of, codes, image_verdict, tape_verdict}
use Rattle.machine.specs.Answers.{Answer, answer, fresh_image, outcome_values, step_verdict, step_answer, step_image}
use Rattle.machine.specs.Answers.{run_events, run_verdict, run_answer, run_image, run_ledger, stopped_answer}
use Rattle.machine.specs.Host.{returned, lent_with}
use Rattle.machine.proofs.Soundness.Kept.{outcome_small}
use Rattle.machine.proofs.Laws.Bytes.{lt_or_ge, number_lt}
use Rattle.machine.proofs.Laws.Bits.{bit_le}
use Rattle.machine.proofs.Image.Stored.{length_state}
use Rattle.machine.proofs.Image.Rewrite.{read_in_range}
use Rattle.machine.proofs.Laws.Refusals.{number_range, event_below, first_fine, second_fine}
use Rattle.machine.proofs.LinkTraffic.{requests_few, departures_few, list_few}
use Rattle.ledger.specs.Bounds.{NoneAbove}
use Rattle.ledger.proofs.Bounds.{none_above_le, none_above_start, counts_few}
use Rattle.tape.proofs.Events.{length_events, events_few}
use Rattle.numbers.specs.Verdicts.{refusal_of}
use Rattle.result_slice.proofs.Read.{FitWords, values_read}
use Rattle.result_slice.proofs.Read.FitWords.{none, one}
use Rattle.result_slice.proofs.Told.{lent_as_left, done_told, refused_told, lent_untouched, short_told}
use Rattle.calls.specs.Calls.{Call, nothing, value, step_shows, run_shows, plus}
use Rattle.calls.specs.Calls.Call.{Step, Run, Stopped}
use Rattle.calls.specs.Demand.{SaysStopped, given, GivenBytes}
use Rattle.calls.specs.Suite.{HostCall, host_image, host_image_all, answer_read, host_answer, host_shown}
use Rattle.calls.specs.Suite.{host_shown_all}
use Rattle.calls.specs.Suite.{word_told, TellsStopped, SuiteDemand}
use Rattle.calls.proofs.Shown.{plus_nothing, nothing_plus, plus_assoc, step_refused, run_refused}
use Rattle.calls.proofs.Calls.{Reached, unchanged, call_kept}
use Rattle.calls.proofs.Demand.{fresh_reached, told_flag, promised}

-- ---- the answer as the host has it

module _ (values : List ℕ) (few : length values ≤ 10) (result : List ℕ) where
  -- ten values
  abbrev padded : List ℕ
  padded = values ++ replicate (10 - length values) 0

  -- done, it has the values, and 0 after them
  done_read : 80 ≤ length result → FitWords values → host_answer (answer (Ok tt) values) result ≡ answer (Ok tt) padded
  done_read room fit =
      let tells = done_told result room values refl refl in
      sym (ap₂ answer_read tells.0 tells.1)
      ∙ ap (λ (l : List ℕ). answer (Ok tt) l) (values_read result values few fit)

  -- what is shown of an answer: nothing if it is refused, and nothing of the words after its values
  module _ (shows : Answer → Totals) (refused : (a : Answer) → 1 ≤ a.number → shows a ≡ nothing)
      (unread : shows (answer (Ok tt) padded) ≡ shows (answer (Ok tt) values)) where
    -- with at least 80 bytes, what the call itself shows
    long_shows : 80 ≤ length result → (v : Verdict) → (v ≡ Ok tt → FitWords values)
        → shows (host_answer (answer v values) result) ≡ shows (answer v values)
    long_shows room (Ok _) fit = ap shows (done_read room (fit refl)) ∙ unread
    long_shows room (Err r) fit =
        let high = (number_range r).0 in
        let tells = refused_told result room {n = number_of r} r refl refl refl in
        refused (host_answer (answer (Err r) values) result) (omega (arith, tells.0))
        ∙ sym (refused (answer (Err r) values) high)

    -- with fewer nothing
    short_shows : length result < 80 → (v : Verdict) → shows (host_answer (answer v values) result) ≡ nothing
    short_shows short v =
        let tells = short_told result short v values refl in
        refused (host_answer (answer v values) result) (omega (arith, tells.0, (number_range (refusal_of v)).0))

-- ---- values fit their words

outcome_fits : (o : Outcome) → outcome_number o < 2 ^ 64
outcome_fits Idle = lit< tt
outcome_fits Moved = lit< tt
outcome_fits (Fill m) = lit< tt
outcome_fits (Take m) = lit< tt
outcome_fits Sent = lit< tt
outcome_fits Got = lit< tt

message_fits : {n : ℕ} → n < 2 ^ 32 → n < 2 ^ 64
message_fits small = omega arith

-- a number of events, and twice that
count_fits : {n : ℕ} → n ≤ 2 * 4128768 → n < 2 ^ 64
count_fits few = omega arith

-- with whatever stands behind them
counts_fit : {c : Counts} {rest : List ℕ} → NoneAbove (2 * 4128768) c → FitWords rest
    → FitWords (count_values c ++ rest)
counts_fit c rest =
    one (count_fits c.puts) (one (count_fits c.gets) (one (count_fits c.fills) (one (count_fits c.takes)
    (one (count_fits c.sent) (one (count_fits c.got) (one (count_fits c.idle)
    (one (count_fits c.records) rest)))))))

traffic_fits : (links : Traffic) → links.requests ≤ 2 * 4128768 → links.departures ≤ 2 * 4128768
    → FitWords (traffic_values links)
traffic_fits links requests departures = one (count_fits requests) (one (count_fits departures) none)

module _ (image : List ℕ) (small : Bytes image) where
  step_fits : (event : List ℕ) → Bytes event → step_verdict image event ≡ Ok tt
      → FitWords
      (outcome_values (outcome (state_in image) (event_in event 0))
      ++ traffic_values (traffic (state_in image) (event_in event 0)))
  unfolding step_verdict event_in
  step_fits event bytes fine =
      let st = state_in image in
      let v = event_in event 0 in
      let below = event_below (size_in image) event (second_fine (image_verdict image) _ fine) in
      let message = outcome_small st v (omega (arith, length_state image)) (number_lt event 4 bytes)
      (read_in_range image small) in
      one (outcome_fits (outcome st v)) (one (message_fits message)
      (traffic_fits (traffic st v) (omega (arith, requests_few st v)) (omega (arith, departures_few st v))))

  run_fits : (tape ledger : List ℕ) → run_verdict image tape ledger ≡ Ok tt
      → FitWords
      (count_values (counts_from no_counts (state_in image) (run_events tape))
      ++ traffic_values (traffic_from (state_in image) (run_events tape)))
  unfolding run_verdict
  run_fits tape ledger fine =
      let tests = tape_verdict codes (size_in image) tape in
      let accepted = first_fine tests _ (second_fine (image_verdict image) _ fine) in
      let counts = counts_few (run_events tape) (state_in image) 0 none_above_start in
      let few : length (run_events tape) ≤ 4128768 =
      omega (arith, length_events tape, events_few codes (size_in image) tape accepted) in
      let links = list_few (run_events tape) (state_in image) in
      counts_fit (none_above_le (omega arith) counts)
      (traffic_fits (traffic_from (state_in image) (run_events tape)) (omega (arith, links.0)) (omega (arith, links.1)))

-- ---- every call keeps what is known

module _ {n : ℕ} {image : List ℕ} {t : Totals} (before : Reached n image t) where
  -- a call that shows so much by its own answer, and leaves an image
  kept : (result values : List ℕ) (few : length values ≤ 10) (shows : Answer → Totals)
      → ((a : Answer) → 1 ≤ a.number → shows a ≡ nothing)
      → shows (answer (Ok tt) (padded values few result)) ≡ shows (answer (Ok tt) values)
      → (v : Verdict) → (v ≡ Ok tt → FitWords values)
      → (after : List ℕ) → (80 ≤ length result → Reached n after (plus t (shows (answer v values))))
      → Reached n (lent_with result image after) (plus t (shows (host_answer (answer v values) result)))
  kept result values few shows refused unread v fits after done = go (lt_or_ge (length result) 80)
    where
      go : (length result < 80) ⊎ (80 ≤ length result)
          → Reached n (lent_with result image after) (plus t (shows (host_answer (answer v values) result)))
      go (inl short) =
          rw (
            ← lent_untouched result short image after,
            short_shows values few result shows refused unread short v,
          )
          (unchanged before)
      go (inr room) =
          rw (
            ← lent_as_left result room image {done = after} refl,
            long_shows values few result shows refused unread room v fits,
          )
          (done room)

  host_call_kept : (c : Call) (result : List ℕ) → Bytes (given c)
      → Reached n (host_image image (record { call = c; result = result }))
      (plus t (host_shown image (record { call = c; result = result })))
  unfolding step_answer run_answer
  host_call_kept (Step event) result bytes =
      kept result _ (lit≤ tt) (step_shows event) (step_refused event) refl (step_verdict image event)
      (step_fits image before.small event bytes) (step_image image event)
      (λ room. call_kept before (Step event) bytes)
  host_call_kept (Run tape ledger) result bytes =
      let left = lent_with result ledger (run_ledger image tape ledger) in
      kept result _ (lit≤ tt) (λ a. run_shows a left) (run_refused left) refl (run_verdict image tape ledger)
      (run_fits image before.small tape ledger) (run_image image tape ledger)
      (λ room.
      rw (← lent_as_left result room ledger {done = run_ledger image tape ledger} refl)
      (call_kept before (Run tape ledger) bytes))
  host_call_kept Stopped result bytes =
      kept result [] (lit≤ tt) (λ a. nothing) (λ a refused. refl) refl (Ok tt) (λ fine. none) image
      (λ room. unchanged before)

host_calls_kept : (n : ℕ) (calls : List HostCall) (image : List ℕ) (t : Totals)
    → GivenBytes (map (λ c. c.call) calls) → Reached n image t
    → Reached n (host_image_all image calls) (plus t (host_shown_all image calls))
unfolding host_image_all host_shown_all
host_calls_kept n [] image t bytes before = subst (Reached n image) (sym (plus_nothing t)) before
host_calls_kept n (c ∷ calls) image t bytes before =
    let next = host_image image c in
    subst (Reached n (host_image_all next calls)) (plus_assoc t (host_shown image c) (host_shown_all next calls))
    (host_calls_kept n calls next (plus t (host_shown image c)) (λ k h. bytes (suc k) (omega arith))
    (host_call_kept before c.call c.result (bytes 0 (omega arith))))

-- ---- the demand

-- what a host is told of an accepted image
module _ (image : List ℕ) (fine : image_verdict image ≡ Ok tt) where
  -- 1 for yes, 0 for no
  abbrev flag : ℕ
  flag = bit (stopped (state_in image))

  -- with at least 80 bytes it is told the call's own answer
  pub word_read : (result : List ℕ) → 80 ≤ length result
      → (returned (stopped_answer image) result ≡ 0) × (word_told image result ≡ flag)
  unfolding tabulate
  word_read result room =
      let fits : flag < 2 ^ 64 = omega (arith, bit_le (stopped (state_in image))) in
      let read =
      ap (λ (a : Answer). host_answer a result) (told_flag image fine)
      ∙ done_read (flag ∷ []) (lit≤ tt) result room (one fits none) in
      (ap (λ (a : Answer). a.number) read, ap (λ (a : Answer). value a 0) read)

  -- a host that reads 1 was answered yes
  tells_stopped : TellsStopped image → SaysStopped image
  tells_stopped (result, zero, reads) = go (lt_or_ge (length result) 80)
    where
      go : (length result < 80) ⊎ (80 ≤ length result) → SaysStopped image
      go (inl short) =
          let ten = (short_told result short (Ok tt) (flag ∷ []) refl).0 in
          absurd (omega (arith, ten, rw (told_flag image fine) at zero))
      go (inr room) =
          told_flag image fine
          ∙ ap (λ (m : ℕ). answer (Ok tt) (m ∷ [])) (sym (word_read result room).1 ∙ reads)

module _ (n home : ℕ) (two : least ≤ n) (few : n ≤ most) (below : home < n) (buffer : List ℕ) (small : Bytes buffer)
    (room : image_length n ≤ length buffer) (calls : List HostCall) (bytes : GivenBytes (map (λ c. c.call) calls)) where
  -- the image after the list
  abbrev last : List ℕ
  last = host_image_all (fresh_image n home buffer) calls

  pub host_reached : Reached n last (host_shown_all (fresh_image n home buffer) calls)
  host_reached =
      let first = fresh_image n home buffer in
      subst (Reached n last) (nothing_plus (host_shown_all first calls))
      (host_calls_kept n calls first nothing bytes (fresh_reached n home two few below buffer small room))

pub suite_demand : SuiteDemand
suite_demand n home two few below buffer small room calls bytes =
    let reached = host_reached n home two few below buffer small room calls bytes in
    promised TellsStopped n _ _ reached (tells_stopped _ reached.fine)
