-- Main's work, at the stage that comes after it: the header's status and message change, which are fields of their own,
-- and so does the note where the envelope was filled.
use Prim.Native.Nat.{ℕ, ◌%◌, ◌^◌, ◌<◌}
use mathlib.Core.Path.{◌≡◌, refl, ap₂, ◌∙◌}
use mathlib.Core.Bool.{true, false, cond}
use native.Mathlib.Omega.{arith}
use lib.Bits.{bit_and, bit_or, or_zero_r}
use lib.Dec.{eqb}
use Rattle.machine.specs.declared.Outcome.{Outcome}
use Rattle.machine.specs.declared.Outcome.TheVariants.{Fill, Take}
use Rattle.machine.specs.Bytes.{bit}
use Rattle.machine.specs.Lists.{every}
use Rattle.machine.specs.Fields.{Status, holding}
use Rattle.machine.specs.Image.{process_from}
use Rattle.machine.specs.Events.{becomes}
use Rattle.machine.proofs.Soundness.Ways.{choice}
use Rattle.machine.proofs.Laws.Lists.{agree}
use Rattle.machine.proofs.Laws.Bits.{bit_is, bit_le}
use Rattle.record.specs.declared.process.Record.{Record}
use Rattle.record.specs.declared.header.Header.{Header}
use Rattle.record.specs.Words.{stage_of, flags_of, requests_of, spare_of, note_of, shown_process, shown_envelope, Tidy}
use Rattle.record.specs.Words.{TidyHeader}
use Rattle.record.proofs.Fields.{Fields, shows, is_tidy, fields_of, all_ones, set_in, off_in, without_note}
use Rattle.record.proofs.Headers.{shows_envelope, is_tidy_header}
use Rattle.reaction.specs.declared.Reach.TheVariants.{Own}
use Rattle.event.specs.Applied.{worked, Reacts}

module _ (header : Header) (w : ℕ) (tidy : Tidy w) (fine : TidyHeader header) where
  abbrev hw : ℕ
  hw = header.word

  -- the status full or empty
  held : (s : Status)
      → Fields (cond s (bit_or hw 256) (bit_and hw 18446744073709551359)) (stage_of hw) (bit s) (requests_of hw)
      (spare_of hw) (note_of hw)
  unfolding every
  held true =
      let status = agree 2 (λ k. bit_or k 1) (λ k. 1) refl (flags_of hw) (omega (arith, fine.status)) in
      rw (status, or_zero_r (requests_of hw)) at (set_in hw 1 0 (omega arith) (omega arith))
  held false =
      let status = agree 2 (λ k. bit_and k 254) (λ k. 0) refl (flags_of hw) (omega (arith, fine.status)) in
      let markers = all_ones 8 (requests_of hw) (omega arith) in
      rw (status, markers, all_ones 32 (note_of hw) (omega (arith, fine.counts))) at
      (off_in hw 1 0 0 (omega arith) (omega arith) (omega arith))

  -- the note dropped where it went into the envelope
  left : (s : Status)
      → Fields (cond s (w % 4294967296) w) (stage_of w) (flags_of w) (requests_of w) 0 (cond s 0 (note_of w))
  left true = rw tidy.spare at (without_note w)
  left false = rw tidy.spare at (fields_of w)

  abbrev outcome : Status → Outcome
  outcome s = cond s (Fill (note_of w)) (Take header.message)

  -- s says whether the envelope is filled
  chosen : (s : Status) → eqb (stage_of w) 4 ≡ s
      → becomes (outcome s) (holding s (cond s (note_of w) 0) (shown_envelope header))
      (process_from (stage_of w) (flags_of w) (requests_of w) (cond s 0 (note_of w)))
      ≡ worked (shown_envelope header) (shown_process w)
  chosen true is = rw is
  chosen false is = rw is

  pub works : {own : Record} {h : Header} {started : ℕ} (s : Status) → eqb (stage_of w) 4 ≡ s
      → own.word ≡ cond s (w % 4294967296) w
      → h.word ≡ cond s (bit_or hw 256) (bit_and hw 18446744073709551359)
      → h.message ≡ cond s (note_of w) 0
      → Reacts (worked (shown_envelope header) (shown_process w)) header started
      (record { own = own; header = h; reach = Own; started = started; outcome = outcome s })
  works {own} {h} s is word_is header_is message_is =
      let own_in_lem : Fields own.word (stage_of w) (flags_of w) (requests_of w) 0 (cond s 0 (note_of w)) =
      rw word_is (left s) in
      let header_in : Fields h.word (stage_of hw) (bit s) (requests_of hw) (spare_of hw) (note_of hw) =
      rw header_is (held s) in
      let envelope : shown_envelope h ≡ holding s (cond s (note_of w) 0) (shown_envelope header) =
      shows_envelope {h = h} header_in ∙ rw (bit_is s (bit s) refl, message_is) in
      let small = choice (λ n. n < 2 ^ 32) s in
      record {
        shows = ap₂ (λ p e. becomes (outcome s) e p) (shows own_in_lem) envelope ∙ chosen s is;
        fits =
            record {
              own = is_tidy own_in_lem tidy.flags refl (small 0 (note_of w) (omega arith) tidy.note);
              header =
                  is_tidy_header header_in (bit_le s) fine.markers fine.counts
                  (rw message_is (small (note_of w) 0 tidy.note (omega arith)));
            };
        size = header_in.stage_is;
        counts = refl;
      }
