-- The step call on the whole: after it an accepted image is accepted again, with the same N, whatever the event's
-- bytes; an idle event changes no byte; and what a step answers to an event without a message is the rule's outcome and
-- traffic.
use Rattle.std.specs.Prelude.{Err, Ok}
use Prim.Native.Nat.{ℕ, ◌<◌}
use mathlib.Core.Path.{◌≡◌, refl, ap, ◌∙◌}
use mathlib.Core.Bool.{Bool, true, false, ◌||◌}
use mathlib.Core.List.{List, [], ◌∷◌, ◌++◌}
use lib.Dec.{eqb}
use borrow.Author.Tests.{lt-ltb}
use Rattle.machine.specs.Verdict.{Verdict}
use Rattle.machine.specs.Image.{size_in, state_in, image_with}
use Rattle.machine.specs.Events.{Event, outcome, apply}
use Rattle.machine.specs.Stopped.{is_idle}
use Rattle.machine.specs.Traffic.{traffic, traffic_values}
use Rattle.machine.specs.Tape.{event_in}
use Rattle.machine.specs.Refusals.{codes, image_verdict, event_fits, event_verdict}
use Rattle.machine.specs.Answers.{answer, lent, outcome_values, step_verdict, step_answer, step_image}
use Rattle.machine.specs.Bytes.{Bytes, little_endian_of, number, all_zero, zeros}
use Rattle.machine.proofs.Laws.Bytes.{number_lt}
use Rattle.machine.proofs.Image.Rewrite.{rewrite_image}
use Rattle.machine.proofs.Laws.Refusals.{image_fine, event_below}
use Rattle.machine.proofs.Idle.{idle_keeps}
use Rattle.machine.proofs.Soundness.Kept.{size_kept, sound_kept, bytes_kept}

module _ (s event : List ℕ) (fine : image_verdict s ≡ Ok tt) (small : Bytes s) (small_event : Bytes event) where
  -- what holds of the image before and of the image after every accepted event holds after the call
  by_verdict : (P : List ℕ → Type 0) → P s
      → (event_verdict codes (size_in s) event ≡ Ok tt → P (image_with s (apply (state_in s) (event_in event 0))))
      → P (step_image s event)
  unfolding step_image step_verdict
  by_verdict P before after = rw fine (by (event_verdict codes (size_in s) event) after)
    where
      by : (v : Verdict) → (v ≡ Ok tt → P (image_with s (apply (state_in s) (event_in event 0))))
          → P (lent v s (image_with s (apply (state_in s) (event_in event 0))))
      by (Ok _) h = h refl
      by (Err r) h = before

  pub step_sound : image_verdict (step_image s event) ≡ Ok tt
  unfolding event_in
  step_sound =
      by_verdict (λ t. image_verdict t ≡ Ok tt) fine
      (λ accepted. sound_kept s (event_in event 0) small fine (event_below (size_in s) event accepted)
      (number_lt event 4 small_event))

  pub step_size : size_in (step_image s event) ≡ size_in s
  step_size = by_verdict (λ t. size_in t ≡ size_in s) refl (λ accepted. size_kept s (event_in event 0))

  pub step_bytes : Bytes (step_image s event)
  step_bytes =
      by_verdict Bytes small
      (λ accepted. bytes_kept s (event_in event 0) small fine (event_below (size_in s) event accepted))

  -- an idle event changes no byte
  pub step_idle : is_idle (outcome (state_in s) (event_in event 0)) ≡ true → step_image s event ≡ s
  step_idle i =
      by_verdict (λ t. t ≡ s) refl
      (λ accepted.
      ap (image_with s) (idle_keeps (state_in s) (event_in event 0) i)
      ∙ rewrite_image s (image_fine s fine).room small (image_fine s fine).fits)

-- ---- an event without a message

either_true : (b : Bool) → b || true ≡ true
either_true true = refl
either_true false = refl

-- at a process of an accepted image, with one of the eight codes, it is accepted, and the step does and answers what
-- the rule does
module _ (s : List ℕ) (fine : image_verdict s ≡ Ok tt) (i code : ℕ) (within_ring : i < size_in s) (known : code < codes)
  where
    abbrev plain : List ℕ
    plain = i ∷ code ∷ 0 ∷ 0 ∷ 0 ∷ 0 ∷ 0 ∷ 0 ∷ []

    abbrev v : Event
    v = record { process = i; code = code; message = 0 }

    taken : step_verdict s plain ≡ Ok tt
    unfolding step_verdict event_verdict event_fits zeros all_zero
    taken = rw (fine, lt-ltb i (size_in s) within_ring, lt-ltb code codes known, either_true (eqb code 0))

    pub step_answers : step_answer s plain
        ≡ answer (Ok tt) (outcome_values (outcome (state_in s) v) ++ traffic_values (traffic (state_in s) v))
    unfolding step_answer event_in number little_endian_of
    step_answers = rw taken

    pub step_leaves : step_image s plain ≡ image_with s (apply (state_in s) v)
    unfolding step_image event_in number little_endian_of
    step_leaves = rw taken
