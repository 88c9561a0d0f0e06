-- Each way through the stopped call is the rule's. The answers of lower functions are
-- variables here, each with the rule's value that it is known to be.
use Rattle.std.specs.Prelude.{Err, Ok}
use Prim.Native.Nat.{ℕ, ◌+◌, ◌*◌, ◌≤◌}
use mathlib.Core.Path.{◌≡◌, sym, ◌∙◌}
use mathlib.Core.Bool.{Bool, true, ◌&&◌}
use mathlib.Core.List.{List, [], ◌∷◌}
use native.Mathlib.Omega.{arith}
use lib.ListN.{length}
use Rattle.machine.specs.declared.Refusal.{Refusal}
use Rattle.machine.specs.Bytes.{bit}
use Rattle.machine.specs.Image.{envelope_in, size_in, state_in}
use Rattle.machine.specs.Stopped.{quiet, stopped}
use Rattle.machine.specs.Sound.{header_fits, records_fit, rest_fits, sound}
use Rattle.machine.specs.Refusals.{image_verdict}
use Rattle.machine.specs.Answers.{answer, stopped_answer}
use Rattle.machine.proofs.Laws.Lists.{and_first, and_second}
use Rattle.machine.proofs.Laws.Refusals.{image_fine}
use Rattle.stopped.specs.Stopped.{QuietAre}

-- ---- the call

-- a sound image's records are in range
records_of : (s : List ℕ) → sound s ≡ true → records_fit s (size_in s) ≡ true
unfolding sound
records_of s ok =
    let a = header_fits s in
    let b = records_fit s (size_in s) in
    and_second a b (and_first (a && b) (rest_fits (state_in s)) ok)

module _ (s : List ℕ) where
  pub stopped_refused : {r : Refusal} → image_verdict s ≡ Err r
      → answer (Err r) [] ≡ stopped_answer s
  unfolding stopped_answer
  stopped_refused e = rw e

  module _ (fine : image_verdict s ≡ Ok tt) {n : ℕ} (size : n ≡ size_in s) where
    -- the whole image lies in the buffer, and its records' bytes are in range
    pub may_walk : (n ≤ 64) × (16 + 8 * n ≤ length s) × (records_fit s n ≡ true)
    may_walk =
        let image = image_fine s fine in
        (omega (arith, image.size.most), omega (arith, image.room), rw size (records_of s image.fits))

    walked : {b : Bool} → QuietAre s n b → b ≡ stopped (state_in s)
    unfolding stopped state_in
    walked quiet = quiet (envelope_in s) ∙ rw size

    pub stopped_done : {b : Bool} → QuietAre s n b → answer (Ok tt) (bit b ∷ []) ≡ stopped_answer s
    unfolding stopped_answer
    stopped_done quiet = rw (fine, sym (walked quiet))

-- what is known of the image, and the way through the call on which it is refused
pub ruleset before_walk = (image_fine, may_walk, stopped_refused)
