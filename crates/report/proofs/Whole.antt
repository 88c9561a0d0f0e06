-- The whole input: N and home are tested by the fresh ring call, whose buffer has room for every ring, so that it can
-- refuse nothing else; then the number of blocks; then the run does what is left, from the fresh ring (Ran). So what is
-- refused is the rule's first, and else the text is the rules' own.
use Rattle.std.specs.Prelude.{Err, Ok}
use Prim.Native.Nat.{ℕ, ◌≤◌, ◌<◌}
use mathlib.Core.Path.{◌≡◌, refl, sym, ap, ap₂, ◌∙◌}
use mathlib.Core.Bool.{Bool, true, false}
use mathlib.Core.List.{List, []}
use native.Mathlib.Omega.{arith}
use lib.ListN.{length, length-drop}
use borrow.Author.Tests.{le-leb}
use Rattle.machine.specs.declared.Refusal.{Refusal}
use Rattle.machine.specs.declared.Refusal.TheVariants as refusal
use Rattle.machine.specs.Verdict.{Verdict}
use Rattle.machine.specs.Ring.{size_fits, image_length}
use Rattle.machine.specs.Image.{size_in, state_in}
use Rattle.machine.specs.Fresh.{fresh_state}
use Rattle.machine.specs.Refusals.{or_else, unless, codes, size_verdict, home_verdict, room_verdict, image_verdict}
use Rattle.machine.specs.Refusals.{tape_verdict}
use Rattle.machine.specs.Answers.{answer, in_numbers, fresh_verdict, fresh_answer, fresh_image, run_events}
use Rattle.machine.specs.Report.{few_verdict, report_verdict, ran_text, refusal_line, text_by, report_text}
use Rattle.machine.specs.Report.{size_given, home_given, tape_given}
use Rattle.machine.proofs.Laws.Refusals.{first_fine, second_fine, size_fits_lem}
use Rattle.machine.proofs.Image.Fresh.{fresh_size, fresh_state_lem, fresh_accepted}
use Rattle.machine.proofs.Report.{too_long}
use Rattle.numbers.specs.Values.{none}
use Rattle.report.proofs.Apart.{refused_line, done_fine}

-- ---- the first of the tests that refuses

-- of two tests before others
first_refuses : (v w x : Verdict) (text values : List ℕ) (r : Refusal)
    → answer (Err r) [] ≡ answer (or_else v w) values
    → refusal_line r ≡ text_by (or_else v (or_else w x)) text
first_refuses (Err q) w x text values r e = refused_line (Err q) values text r e
first_refuses (Ok _) (Err q) x text values r e = refused_line (Err q) values text r e
first_refuses (Ok _) (Ok _) x text values r e = refused_line (Ok tt) values (text_by x text) r e

-- a test after two that pass
or_fine : (v : Verdict) → or_else v (Ok tt) ≡ v
or_fine (Ok _) = refl
or_fine (Err r) = refl

-- a buffer of 528 bytes has room for every ring
room_enough : (n home : ℕ) (buffer : List ℕ) → 528 ≤ length buffer
    → fresh_verdict n home buffer ≡ or_else (size_verdict n) (home_verdict n home)
unfolding fresh_verdict size_verdict room_verdict
room_enough n home buffer long = go (size_fits n) refl
  where
    go : (b : Bool) → size_fits n ≡ b
        → or_else (unless b refusal.Size) (or_else (home_verdict n home) (room_verdict n buffer))
        ≡ or_else (unless b refusal.Size) (home_verdict n home)
    go false e = refl
    go true e =
        let size = size_fits_lem n e in
        rw (le-leb (image_length n) (length buffer) (omega (arith, size.most))) (or_fine (home_verdict n home))

-- ---- the ways

module _ (input buffer : List ℕ) (long : 528 ≤ length buffer) {n home : ℕ} (is_n : n ≡ size_given input)
    (is_home : home ≡ home_given input) (a : Verdict) (says : in_numbers none a ≡ fresh_answer n home buffer) where
  told_as : in_numbers none a ≡ answer
      (or_else (size_verdict (size_given input)) (home_verdict (size_given input) (home_given input))) []
  unfolding fresh_answer
  told_as =
      says
      ∙ ap (λ (v : Verdict). answer v []) (room_enough n home buffer long)
      ∙ rw (is_n, is_home)

  -- N or home is refused
  pub fresh_refused : {r : Refusal} → a ≡ Err r
      → refusal_line r ≡ report_text input
  unfolding report_text report_verdict
  fresh_refused {r} is =
      first_refuses (size_verdict (size_given input)) (home_verdict (size_given input) (home_given input)) _ _ [] r
      (sym (ap (in_numbers none) is) ∙ told_as)

  module _ (is : a ≡ Ok tt) where
    both_fine : or_else (size_verdict (size_given input)) (home_verdict (size_given input) (home_given input)) ≡ Ok tt
    both_fine = done_fine _ [] (sym (ap (in_numbers none) is) ∙ told_as)

    size_fine : size_verdict (size_given input) ≡ Ok tt
    size_fine = first_fine _ _ both_fine

    home_fine : home_verdict (size_given input) (home_given input) ≡ Ok tt
    home_fine = second_fine (size_verdict (size_given input)) _ both_fine

    -- too many blocks
    pub length_refused : 32770 < length input → refusal_line refusal.Length ≡ report_text input
    length_refused more = sym (too_long input more ∙ rw (size_fine, home_fine))

    -- the image is the fresh ring's
    fine : fresh_verdict n home buffer ≡ Ok tt
    fine = room_enough n home buffer long ∙ rw (is_n, is_home) both_fine

    module _ {image : List ℕ} (wrote : image ≡ fresh_image n home buffer) where
      pub image_accepted : image_verdict image ≡ Ok tt
      image_accepted = ap image_verdict wrote ∙ fresh_accepted n home buffer fine

      size : size_in image ≡ size_given input
      size = ap size_in wrote ∙ fresh_size n home buffer fine ∙ is_n

      state : state_in image ≡ fresh_state (size_given input) (home_given input)
      state = ap state_in wrote ∙ fresh_state_lem n home buffer fine ∙ ap₂ fresh_state is_n is_home

      -- what the run does from there is the whole text
      pub run_whole : length input ≤ 32770 → {tape : List ℕ} → tape ≡ tape_given input
          → text_by (tape_verdict codes (size_in image) tape) (ran_text (state_in image) (run_events tape))
          ≡ report_text input
      unfolding report_text report_verdict few_verdict
      run_whole few is_tape =
          let short : length (tape_given input) ≤ 32768 = rw (length-drop 2 input) (omega arith) in
          rw (is_tape, size, state, size_fine, home_fine, le-leb (length (tape_given input)) 32768 short)
