-- Forward, on words: what the right has asked for sets its markers; then the envelope leaves, and have and all asked
-- bits go off, or it stays.
use Prim.Native.Nat.{ℕ, ◌*◌, ◌%◌, ◌≤◌, ◌<◌}
use mathlib.Core.Path.{◌≡◌, refl, sym, ap, ◌∙◌}
use mathlib.Core.Bool.{Bool, true, false}
use native.Mathlib.Omega.{arith}
use lib.Bits.{bit_and, bit_or, or_lt, and_le_l}
use lib.Dec.{eqb}
use Rattle.machine.specs.Fields.{none}
use Rattle.machine.specs.Image.{process_from}
use Rattle.machine.specs.Events as rule
use Rattle.record.specs.declared.process.Record.{Record}
use Rattle.record.specs.declared.header.Header.{Header}
use Rattle.record.specs.Words.{stage_of, flags_of, requests_of, spare_of, note_of, asked_of}
use Rattle.record.specs.Words.{shown_process, shown_envelope, TidyHeader}
use Rattle.record.proofs.Fields.{Fields, shows, is_tidy, set_in_2, off_in, all_ones, asked_in}
use Rattle.record.proofs.Headers.{shows_envelope, is_tidy_header}
use Rattle.reaction.specs.declared.begun.Begun.{Begun}
use Rattle.reaction.specs.declared.Reach.TheVariants.{Own, Right}
use Rattle.reaction.specs.declared.Reaction.{Reaction}
use Rattle.reaction.specs.Reaction.{shown, so_far, Makes}
use Rattle.reaction.proofs.Bits.{heeded, gone_along}
use Rattle.reaction.proofs.Made.{turned, so_far_fits, seen}

module _ (b : Begun) {asked : ℕ} (asked_is : asked ≡ asked_of b.own.word) {with_markers : Header}
    (word : with_markers.word ≡ bit_or b.header.word (asked * 65536))
    (message : with_markers.message ≡ b.header.message) where
  abbrev r : Reaction
  r = so_far b

  -- its word, the header's, and the markers with what the right has asked for
  abbrev w : ℕ
  w = b.own.word

  abbrev h : ℕ
  h = b.header.word

  abbrev markers : ℕ
  markers = bit_or (requests_of b.header.word) (requests_of b.own.word % 4)

  markers_fields : Fields with_markers.word (stage_of h) (flags_of h) markers (spare_of h) (note_of h)
  markers_fields =
      rw (word, asked_is ∙ asked_in w) (set_in_2 h (requests_of w % 4) (omega arith))

  pub markers_tidy : TidyHeader with_markers
  markers_tidy =
      let tidy = b.header_tidy in
      let two : markers < 4 = or_lt 2 (requests_of h) (requests_of w % 4) (omega (arith, tidy.markers)) (omega arith) in
      is_tidy_header markers_fields tidy.status (omega arith) tidy.counts (rw message tidy.message)

  markers_shows : shown_envelope with_markers ≡ (rule.set_markers (shown r)).envelope
  unfolding rule.set_markers
  markers_shows =
      shows_envelope markers_fields
      ∙ (λ i. record {
        full = eqb (flags_of h) 1;
        marker = heeded (requests_of h) (requests_of w) (omega arith) i;
        marked = record { full = spare_of h; empty = note_of h };
        message = message i;
      })

  module _ {wanted : Bool} (test : wanted ≡ rule.wanted (shown_envelope with_markers)) where
    -- as the rule tests it
    tested : rule.wanted (rule.set_markers (shown r)).envelope ≡ wanted
    tested = ap rule.wanted (sym markers_shows) ∙ sym test

    pub forward_leaves : wanted ≡ true → {own : Record} → own.word ≡ bit_and w 18446744073708568319
        → Makes rule.forward r (turned r own with_markers Right b.outcome)
    unfolding rule.forward rule.set_markers rule.leave
    forward_leaves is {own} off =
        let fits = so_far_fits b in
        let f : Fields own.word (stage_of w) (bit_and (flags_of w) 254) (bit_and (requests_of w) 240) (spare_of w)
        (bit_and (note_of w) 4294967295) =
        rw off (off_in w 1 15 0 (omega arith) (omega arith) (omega arith)) in
        let note : bit_and (note_of w) 4294967295 ≡ note_of w = all_ones 32 (note_of w) fits.own.note in
        let made =
        shows f
        ∙ ap (process_from (stage_of w) (bit_and (flags_of w) 254) (bit_and (requests_of w) 240)) note
        ∙ gone_along (stage_of w) (flags_of w) (requests_of w) (note_of w) (omega arith) (omega arith) in
        let flags : bit_and (flags_of w) 254 ≤ 7 = omega (arith, and_le_l (flags_of w) 254, fits.own.flags) in
        let tidy = is_tidy f flags fits.own.spare (rw note fits.own.note) in
        record {
          shows =
              rw (tested ∙ is)
              (λ i. record {
                process = made i;
                envelope = markers_shows i;
                asks = none;
                leaves = true;
                outcome = b.outcome;
              });
          fits = record { own = tidy; header = markers_tidy };
          size = markers_fields.stage_is;
          started = refl;
        }

    pub forward_stays : wanted ≡ false
        → Makes rule.forward r (turned r b.own with_markers Own b.outcome)
    unfolding rule.forward rule.set_markers
    forward_stays is =
        record {
          shows = rw (tested ∙ is) (ap (seen Own b.outcome (shown_process w)) markers_shows);
          fits = record { own = b.tidy; header = markers_tidy };
          size = markers_fields.stage_is;
          started = refl;
        }
