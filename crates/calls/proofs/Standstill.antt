-- The stopped call is never refused after a list of calls, since the image is accepted, and its yes is the rule's: each
-- of events 2 to 7 is idle wherever it is tried, and a step with it answers just that outcome, with no traffic. A host
-- with room for the result reads the call's own answer.
use Rattle.std.specs.Prelude.{Ok}
use Prim.Native.Nat.{ℕ, ◌≤◌, ◌<◌}
use mathlib.Core.Path.{◌≡◌, refl, sym, ap, ap₂, ◌∙◌}
use mathlib.Core.Bool.{Bool, true, false}
use mathlib.Core.List.{List, [], ◌∷◌, ◌++◌}
use mathlib.Core.Logic.{◌⊎◌, inl, inr}
use native.Mathlib.Omega.{arith}
use lib.ListN.{length}
use Rattle.machine.specs.declared.Outcome.{Outcome}
use Rattle.machine.specs.declared.Outcome.TheVariants.{Idle, Moved, Fill, Take, Sent, Got}
use Rattle.machine.specs.Bytes.{bit}
use Rattle.machine.specs.Image.{size_in, state_in}
use Rattle.machine.specs.Events.{Event}
use Rattle.machine.specs.Run.{outcome_number}
use Rattle.machine.specs.Stopped.{is_idle, stopped}
use Rattle.machine.specs.Traffic.{traffic_values}
use Rattle.machine.specs.Refusals.{image_verdict}
use Rattle.machine.specs.Answers.{Answer, answer, outcome_values, stopped_answer}
use Rattle.machine.proofs.Image.Stored.{length_state}
use Rattle.machine.proofs.Laws.Bits.{bit_on}
use Rattle.machine.proofs.Steps.{step_answers}
use Rattle.machine.proofs.Stopped.{stopped_means, means_stopped}
use Rattle.machine.proofs.LinkTraffic.{idle_none}
use Rattle.calls.specs.Calls.{value}
use Rattle.calls.specs.Demand.{SaysStopped}
use Rattle.calls.specs.Suite.{word_told}
use Rattle.calls.specs.Standstill.{AllIdle, SaysMoving, SaysExactly, StandstillTold, TellsExactly}
use Rattle.calls.specs.Standstill.{StandstillToldToHost}
use Rattle.calls.proofs.Demand.{told_flag, says_stopped, all_reached}
use Rattle.calls.proofs.Suite.{word_read, host_reached}

-- ---- idle, by its number

idle_only : (o : Outcome) → outcome_number o ≡ 0 → o ≡ Idle
idle_only Idle zero = refl
idle_only Moved zero = absurd (omega arith)
idle_only (Fill m) zero = absurd (omega arith)
idle_only (Take m) zero = absurd (omega arith)
idle_only Sent zero = absurd (omega arith)
idle_only Got zero = absurd (omega arith)

-- ---- an accepted image of n processes; the code's bounds are worked out, so that other bounds fail by a code

module _ (n : ℕ) (image : List ℕ) (fine : image_verdict image ≡ Ok tt) (size : size_in image ≡ n) where
  all_idle : stopped (state_in image) ≡ true → AllIdle n image
  all_idle halts i below code low high =
      let within_ring : i < length (state_in image).processes = omega (arith, length_state image, size) in
      let idle = stopped_means (state_in image) halts i within_ring code (omega arith) (omega arith) in
      let v : Event = record { process = i; code = code; message = 0 } in
      let still = idle_none (state_in image) v (ap is_idle idle) in
      step_answers image fine i code (omega (arith, size)) (omega arith)
      ∙ ap₂ (λ o links. answer (Ok tt) (outcome_values o ++ traffic_values links)) idle still

  idle_all : AllIdle n image → stopped (state_in image) ≡ true
  idle_all each =
      means_stopped (state_in image)
      (λ i below code low high.
      let within_ring : i < size_in image = omega (arith, length_state image) in
      let steps = step_answers image fine i code within_ring (omega arith) in
      idle_only _
      (ap (λ (a : Answer). value a 0) (sym steps ∙ each i (omega (arith, size)) code (omega arith) (omega arith))))

  pub tells : SaysExactly n image
  tells =
      record {
        answered = by_flag (stopped (state_in image)) (told_flag image fine);
        yes_means = λ says. all_idle (says_stopped image fine says);
        means_yes = λ each. told_flag image fine ∙ rw (idle_all each);
      }
    where
      by_flag : (b : Bool) → stopped_answer image ≡ answer (Ok tt) (bit b ∷ []) → SaysStopped image ⊎ SaysMoving image
      by_flag true is = inl is
      by_flag false is = inr is

  pub tells_host : (result : List ℕ) → 80 ≤ length result → TellsExactly n image result
  tells_host result room =
      let read = word_read image fine result room in
      record {
        not_refused = read.0;
        answered = by_flag (stopped (state_in image)) read.1;
        one_means =
            λ told.
            let one : bit (stopped (state_in image)) ≡ 1 = sym read.1 ∙ told in
            all_idle (bit_on (stopped (state_in image)) (omega (arith, one)));
        means_one = λ each. read.1 ∙ ap bit (idle_all each);
      }
    where
      by_flag : (b : Bool) → word_told image result ≡ bit b
          → (word_told image result ≡ 1) ⊎ (word_told image result ≡ 0)
      by_flag true is = inl is
      by_flag false is = inr is

-- ---- after every list

pub standstill_told : StandstillTold
standstill_told n home two few below buffer small room calls bytes =
    let reached = all_reached n home two few below buffer small room calls bytes in
    tells n _ reached.fine reached.size

pub standstill_told_to_host : StandstillToldToHost
standstill_told_to_host n home two few below buffer small room calls bytes =
    let reached = host_reached n home two few below buffer small room calls bytes in
    tells_host n _ reached.fine reached.size
