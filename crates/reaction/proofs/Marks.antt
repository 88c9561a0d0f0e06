-- A put marks and clears, on words: a mark's bit, one in its count, and a marker's bit. Each law is for either status.
use Prim.Native.Nat.{ℕ, suc, pred, ◌+◌, ◌-◌, ◌*◌, ◌/◌, ◌%◌, ◌≤◌, ◌<◌}
use mathlib.Core.Path.{◌≡◌, refl, sym, ap, ap₂, ◌∙◌, subst}
use mathlib.Core.Bool.{Bool, true, false, not, cond}
use native.Mathlib.Omega.{arith}
use native.Mathlib.Nat.{add-zero, sub-zero}
use native.Mathlib.Numerals.{add-one, sub-one}
use lib.Bits.{bit_and, bit_or, or_zero_r, and_le_l}
use lib.Dec.{eqb}
use Rattle.machine.specs.declared.Pair.{Pair}
use Rattle.machine.specs.declared.Envelope.{Envelope}
use Rattle.machine.specs.Fields.{Status, for, with, with_marker, with_mark}
use Rattle.machine.specs.Image.{pair_of, process_from}
use Rattle.machine.specs.Events as rule
use Rattle.record.specs.declared.process.Record.{Record}
use Rattle.record.specs.declared.header.Header.{Header}
use Rattle.record.specs.Words.{stage_of, flags_of, requests_of, spare_of, note_of, marks_of, full_of, shown_envelope}
use Rattle.record.specs.Words.{counted_as}
use Rattle.record.proofs.Fields.{Fields, shows, is_tidy, fields_of, set_in_2, off_in_2, marks_in}
use Rattle.record.proofs.Headers.{envelope_from, shows_envelope, is_tidy_header, counts_up, counts_down, counts_there}
use Rattle.record.proofs.Headers.{full_is}
use Rattle.reaction.specs.declared.begun.Begun.{Begun}
use Rattle.reaction.specs.declared.begun.Counted.{Counted}
use Rattle.reaction.specs.declared.Reach.TheVariants.{Own}
use Rattle.reaction.specs.declared.Reaction.{Reaction}
use Rattle.reaction.specs.Reaction.{Ruled, shown, so_far, Makes, pair_for}
use Rattle.reaction.proofs.Bits.{marker_off, marked, unmarked, missing, standing}
use Rattle.reaction.proofs.Made.{turned, so_far_fits, likewise, stays, seen}

-- ---- counts, one more and one fewer

-- one of two bits
pub pair_few : (s : Status) {pair : ℕ} → pair ≡ pair_for s → pair < 3
pair_few true is = omega arith
pair_few false is = omega arith

abbrev counts : ℕ → ℕ → Pair ℕ
counts f e = record { full = f; empty = e }

abbrev enclosed : Bool → Pair Bool → Pair ℕ → ℕ → Envelope
enclosed full marker marked message = record { full = full; marker = marker; marked = marked; message = message }

-- one more for s
more : (s : Status) (f e : ℕ)
    → counts (f + pair_for s % 2) (e + pair_for s / 2) ≡ with (counts f e) s (suc (for (counts f e) s))
more true f e = λ i. counts (add-one f i) (add-zero e i)
more false f e = λ i. counts (add-zero f i) (add-one e i)

-- one fewer for s where its mark stood
abbrev gone : Status → Bool → ℕ
gone s had = cond had (pair_for s) 0

fewer : (s : Status) (had : Bool) (f e : ℕ)
    → counts (f - gone s had % 2) (e - gone s had / 2)
    ≡ cond had (with (counts f e) s (pred (for (counts f e) s))) (counts f e)
fewer true true f e = λ i. counts (sub-one f i) (sub-zero e i)
fewer false true f e = λ i. counts (sub-zero f i) (sub-one e i)
fewer s false f e = λ i. counts (sub-zero f i) (sub-zero e i)

-- a bit that is off, put off
off_already : (p : Pair Bool) (s : Status) → for p s ≡ false → with p s false ≡ p
off_already p true is = λ i. record { full = sym is i; empty = p.empty }
off_already p false is = λ i. record { full = p.full; empty = sym is i }

-- the rule's clear, by whether there was a mark
rule_clears : (s : Status) (x : Ruled) (had : Bool) → for x.process.mark s ≡ had
    → rule.clear s x
    ≡ rule.changed x
    (enclosed x.envelope.full (with x.envelope.marker s false)
    (cond had (with x.envelope.marked s (pred (for x.envelope.marked s))) x.envelope.marked)
    x.envelope.message)
    (with_mark (with x.process.mark s false) x.process)
unfolding rule.clear rule.unmark
rule_clears s x true is = rw is
rule_clears s x false is =
    rw is
    (ap (λ m. rule.changed x (with_marker (with x.envelope.marker s false) x.envelope) (with_mark m x.process))
    (sym (off_already x.process.mark s is)))

-- ---- on words

module _ (step : Counted) where
  abbrev b : Begun
  b = step.begun

  abbrev r : Reaction
  r = so_far step.begun

  -- its word and the header's
  abbrev w : ℕ
  w = step.begun.own.word

  abbrev h : ℕ
  h = step.begun.header.word

  -- byte 2, and the process's marks in it
  abbrev byte : ℕ
  byte = requests_of step.begun.own.word

  abbrev marks : Pair Bool
  marks = pair_of (requests_of step.begun.own.word) 4

  -- other words, and the rest as it is
  abbrev becoming : Record → Header → Reaction
  becoming own header = turned r own header Own step.begun.outcome

  -- what these words show
  becoming_makes : (f : Ruled → Ruled) {own : Record} {header : Header}
      {new_own new_header requests markers fulls empties : ℕ}
      → own.word ≡ new_own
      → Fields new_own (stage_of w) (flags_of w) requests (spare_of w) (note_of w)
      → header.word ≡ new_header
      → Fields new_header (stage_of h) (flags_of h) markers fulls empties
      → markers ≤ 3 → empties < 256
      → header.message ≡ r.header.message
      → seen Own step.begun.outcome (process_from (stage_of w) (flags_of w) requests (note_of w))
      (envelope_from (flags_of h) markers fulls empties r.header.message)
      ≡ f (shown r)
      → Makes f r (becoming own header)
  becoming_makes f {own} {header} {requests = q} {markers} {fulls} {empties} word new header_word new_h two small
      message same =
      let known : Fields own.word (stage_of w) (flags_of w) q (spare_of w) (note_of w) = rw word new in
      let header_known : Fields header.word (stage_of h) (flags_of h) markers fulls empties = rw header_word new_h in
      let tidy = is_tidy known b.tidy.flags b.tidy.spare b.tidy.note in
      let fine =
      is_tidy_header {h = header} header_known b.header_tidy.status two small (rw message b.header_tidy.message) in
      record {
        shows =
            ap₂ (seen Own step.begun.outcome) (shows known)
            (shows_envelope header_known ∙ ap (envelope_from (flags_of h) markers fulls empties) message)
            ∙ same;
        fits = record { own = tidy; header = fine };
        size = header_known.stage_is;
        started = refl;
      }

  -- a mark for s that stands, or a new one
  mark_for_lem : (s : Status) (already : Bool) → for marks s ≡ already → {own : Record} {header : Header}
      → own.word ≡ bit_or w (cond already 0 (pair_for s) * 1048576)
      → header.word ≡ h + counted_as (cond already 0 (pair_for s))
      → header.message ≡ r.header.message
      → Makes (rule.mark_for s) r (becoming own header)
  unfolding rule.mark_for
  mark_for_lem s true is {own} {header} word sum message =
      let uncounted : header.word ≡ h = sum ∙ add-zero h in
      let same : becoming own header ≡ r =
      λ i. becoming (record { word = (word ∙ or_zero_r w) i })
      (record { word = uncounted i; message = message i }) in
      subst (Makes (rule.mark_for s) r) (sym same) (stays (so_far_fits b) (rw is))
  mark_for_lem s false is word sum message =
      let few = pair_few s refl in
      let up : pair_for s * 1048576 ≡ pair_for s * 16 * 65536 = omega arith in
      let fulls : spare_of h + pair_for s % 2 < 256 = omega (arith, step.ready.room true) in
      let empties : note_of h + pair_for s / 2 < 256 = omega (arith, step.ready.room false) in
      let pairs = marked s byte (omega arith) (stage_of w) (flags_of w) (note_of w) in
      becoming_makes (rule.mark_for s) (word ∙ ap (bit_or w) up)
      (set_in_2 w (pair_for s * 16) (omega arith)) sum (counts_up (fields_of h) (pair_for s) fulls)
      b.header_tidy.markers empties message
      (rw is
      (λ i. seen Own step.begun.outcome (pairs i)
      (enclosed (eqb (flags_of h) 1) (pair_of (requests_of h) 0) (more s (spare_of h) (note_of h) i)
      r.header.message)))

  -- for the status that the envelope hasn't
  pub mark_made : {full : Bool} {pair marked unmarked new : ℕ} → full ≡ full_of h → pair ≡ pair_for (not full)
      → marked ≡ marks_of w → unmarked ≡ 3 - marked → new ≡ bit_and pair unmarked
      → {own : Record} {header : Header} → own.word ≡ bit_or w (new * 1048576)
      → header.word ≡ h + counted_as new
      → header.message ≡ r.header.message
      → Makes rule.mark r (becoming own header)
  unfolding rule.mark
  mark_made {full} {pair} {marked} {unmarked} {new} full_read pair_is marked_is unmarked_is new_is word sum message =
      let s = not (shown_envelope r.header).full in
      let pair_s : pair ≡ pair_for s =
      pair_is ∙ ap (λ b. pair_for (not b)) (full_read ∙ full_is r.header b.header_tidy) in
      let is : new ≡ cond (for marks s) 0 (pair_for s) =
      rw (new_is, pair_s, unmarked_is, marked_is ∙ marks_in w) (missing s byte (omega arith)) in
      likewise
      (mark_for_lem s (for marks s) refl (word ∙ ap (λ x. bit_or w (x * 1048576)) is)
      (sum ∙ ap (λ x. h + counted_as x) is) message)
      refl

  -- what is taken from the counts is there
  gone_there : (s : Status) (had : Bool) → for marks s ≡ had
      → (gone s had % 2 ≤ spare_of h) × (gone s had / 2 ≤ note_of h)
  gone_there true true is = (step.ready.counted true is, omega arith)
  gone_there false true is = (omega arith, step.ready.counted false is)
  gone_there s false is = (omega arith, omega arith)

  module _ (s : Status) {pair marked off : ℕ} (pair_is : pair ≡ pair_for s) (marked_is : marked ≡ marks_of w)
      (off_is : off ≡ bit_and marked pair) where
    -- what of the marks goes
    taken : off ≡ gone s (for marks s)
    taken = rw (off_is, pair_is, marked_is ∙ marks_in w) (standing s byte (omega arith))

    -- it can be taken from the counts
    pub clear_can : counted_as off ≤ h
    clear_can =
        let there = gone_there s (for marks s) refl in
        rw taken (counts_there (fields_of h) (gone s (for marks s)) there.0 there.1)

    -- the mark is no longer counted, then the marker is off
    pub clear_made : {own : Record} {fewer_word message : ℕ} {header : Header}
        → own.word ≡ bit_and w (18446744073709551615 - pair * 1048576)
        → fewer_word ≡ h - counted_as off
        → message ≡ r.header.message
        → header.word ≡ bit_and fewer_word (18446744073709551615 - pair * 65536)
        → header.message ≡ message
        → Makes (rule.clear s) r (becoming own header)
    clear_made {fewer_word = less} word fewer-is kept cleared message =
        let few = pair_few s refl in
        let there = gone_there s (for marks s) refl in
        let up : pair * 1048576 ≡ pair_for s * 16 * 65536 = omega arith in
        let pairs = unmarked s byte (omega arith) (stage_of w) (flags_of w) (note_of w) in
        let counted_less : Fields less (stage_of h) (flags_of h) (requests_of h) (spare_of h - gone s (for marks s) % 2)
        (note_of h - gone s (for marks s) / 2) =
        rw (fewer-is ∙ ap (λ x. h - counted_as x) taken)
        (counts_down (fields_of h) (gone s (for marks s)) there.0 there.1) in
        becoming_makes (rule.clear s) (word ∙ ap (λ x. bit_and w (18446744073709551615 - x)) up)
        (off_in_2 (fields_of w) (pair_for s * 16) (omega arith) b.tidy.note)
        (cleared ∙ ap (λ x. bit_and less (18446744073709551615 - x * 65536)) pair_is)
        (off_in_2 counted_less (pair_for s) (omega arith) (omega (arith, b.header_tidy.counts)))
        (omega (arith, and_le_l (requests_of h) (255 - pair_for s), b.header_tidy.markers))
        (omega (arith, b.header_tidy.counts)) (message ∙ kept)
        ((λ i. seen Own step.begun.outcome (pairs i)
        (enclosed (eqb (flags_of h) 1) (marker_off s (requests_of h) (omega arith) i)
        (fewer s (for marks s) (spare_of h) (note_of h) i) r.header.message))
        ∙ sym (rule_clears s (shown r) (for marks s) refl))
