-- What a survey tells: the verdict that every other call gives the image, sets whose digit i is process i, and numbers
-- that fit a word of the host. Of a sound image the flags are one, and the sets' ones are the header's counts.
use Rattle.std.specs.Prelude.{Err, Ok}
use Prim.Native.Nat.{ℕ, zero, suc, ◌+◌, ◌*◌, ◌/◌, ◌%◌, ◌^◌, ◌≤◌, ◌<◌}
use mathlib.Core.Path.{◌≡◌, sym, ap, ◌∙◌}
use mathlib.Core.List.{List, [], ◌∷◌, ◌++◌}
use native.Mathlib.Omega.{arith}
use native.Mathlib.Nat.{le_trans}
use lib.ListN.{length, get_or}
use lib.Pow.{shr-shr, pow_mono}
use borrow.Author.Tests.{eqb-true}
use Rattle.machine.specs.declared.Process.{Process}
use Rattle.machine.specs.declared.Refusal.{Refusal}
use Rattle.machine.specs.declared.Refusal.TheVariants as refusal
use Rattle.machine.specs.Bytes.{bit}
use Rattle.machine.specs.Fields.{Status, full, empty, for, blank}
use Rattle.machine.specs.Image.{envelope_in, processes_in, size_in, state_in}
use Rattle.machine.specs.Sound.{sound, places, marked_set, ones64}
use Rattle.machine.specs.Refusals.{front_verdict, sound_verdict, image_verdict}
use Rattle.machine.specs.Answers.{answer, stopped_answer}
use Rattle.machine.specs.Survey.{verdict_values, gathered, survey_answer}
use Rattle.machine.proofs.Laws.Bits.{bit_le}
use Rattle.machine.proofs.Laws.Refusals.{front_fine, unless_fine}
use Rattle.machine.proofs.Laws.Walk.{length_processes, places_le, marked_lt}
use Rattle.machine.proofs.Soundness.Sound.{sound_facts}

-- ---- the verdict

-- a survey is refused as every call with that image is
pub survey_refused : (s : List ℕ) {r : Refusal} → front_verdict s ≡ Err r → survey_answer s ≡ stopped_answer s
unfolding survey_answer stopped_answer image_verdict
survey_refused s e = rw e

-- and tells else the verdict with which they accept or refuse it
pub survey_agrees : (s : List ℕ) → front_verdict s ≡ Ok tt
    → survey_answer s ≡ answer (Ok tt) (verdict_values (image_verdict s) ++ gathered (state_in s))
unfolding survey_answer image_verdict
survey_agrees s e = rw e

-- ---- the sets

-- digit i is process i
pub digit_is : (s : Status) (ps : List Process) (i : ℕ) → i < length ps
    → marked_set s ps / 2 ^ i % 2 ≡ bit (for (get_or ps i blank).mark s)
unfolding marked_set
digit_is s [] i below = absurd (omega arith)
digit_is s (p ∷ ps) zero below =
    let one = bit_le (for p.mark s) in
    omega arith
digit_is s (p ∷ ps) (suc i) below =
    let one = bit_le (for p.mark s) in
    let set = bit (for p.mark s) + 2 * marked_set s ps in
    let next : suc i ≡ 1 + i = omega arith in
    let half : set / 2 ≡ marked_set s ps = omega arith in
    let digits : set / 2 ^ suc i ≡ marked_set s ps / 2 ^ i =
    ap (λ (k : ℕ). set / 2 ^ k) next ∙ sym (shr-shr set 1 i) ∙ ap (λ (x : ℕ). x / 2 ^ i) half in
    rw digits (digit_is s ps i (omega arith))

-- ---- what fits a word

pub survey_fits : (s : List ℕ) → front_verdict s ≡ Ok tt
    → (places (state_in s).processes ≤ 128) × ((t : Status) → marked_set t (state_in s).processes < 2 ^ 64)
unfolding state_in
survey_fits s e =
    let most = (front_fine s e).size.most in
    let ps = processes_in s (size_in s) in
    let long = length_processes s (size_in s) in (
      omega (arith, places_le ps, long),
      λ t. le_trans (rw long at (marked_lt t ps)) (pow_mono {i = size_in s} {j = 64} most),
    )

-- ---- of a sound image

pub sound_gathered : (s : List ℕ) → sound_verdict s ≡ Ok tt
    → (places (state_in s).processes ≡ 1)
    × (ones64 (marked_set full (state_in s).processes) ≡ (envelope_in s).marked.full)
    × (ones64 (marked_set empty (state_in s).processes) ≡ (envelope_in s).marked.empty)
unfolding sound_verdict state_in
sound_gathered s e =
    let rest = (sound_facts s (unless_fine (sound s) refusal.Unsound e)).rest in
    (rest.one_place, eqb-true _ _ rest.counts_full, eqb-true _ _ rest.counts_empty)
