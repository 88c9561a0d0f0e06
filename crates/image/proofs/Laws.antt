-- The two ends of the fresh ring call are the rule's: a verdict that refuses keeps the buffer, and a fine one gives the
-- fresh image.
use Rattle.std.specs.Prelude.{Err, Ok}
use Prim.Native.Nat.{ℕ}
use mathlib.Core.Path.{◌≡◌, ◌∙◌}
use mathlib.Core.List.{List, []}
use Rattle.machine.specs.declared.Refusal.{Refusal}
use Rattle.machine.specs.Image.{image_with}
use Rattle.machine.specs.Fresh.{fresh_state}
use Rattle.machine.proofs.Laws.Refusals.{size_fits_lem, fresh_no_size, fresh_no_home, fresh_whole}
use Rattle.machine.specs.Answers.{answer, fresh_verdict, fresh_answer, fresh_image}

module _ (n home : ℕ) (s : List ℕ) where
  pub fresh_refused : (r : Refusal) → fresh_verdict n home s ≡ Err r
      → (answer (Err r) [] ≡ fresh_answer n home s) × (s ≡ fresh_image n home s)
  unfolding fresh_answer fresh_image
  fresh_refused r e = (rw e, rw e)

  pub fresh_done : (t : List ℕ) → fresh_verdict n home s ≡ Ok tt → t ≡ image_with s (fresh_state n home)
      → (answer (Ok tt) [] ≡ fresh_answer n home s) × (t ≡ fresh_image n home s)
  unfolding fresh_answer fresh_image
  fresh_done t e wrote = (rw e, wrote ∙ rw e)

-- the fresh ring's tests, one after the other
pub ruleset fresh_tests = (size_fits_lem, fresh_no_size, fresh_no_home, fresh_whole)
