-- The header's words, field by field, and when its status is wanted, as one mask tests it. The fields of its first word
-- stand as a record's do: N, the status, the markers, and the two counts.
use Prim.Native.Nat.{ℕ, zero, suc, ◌+◌, ◌-◌, ◌*◌, ◌/◌, ◌%◌, ◌^◌, ◌≤◌, ◌<◌}
use mathlib.Core.Path.{◌≡◌, refl, sym, ap, ◌∙◌}
use mathlib.Core.Bool.{Bool, true, false, not, cond, ◌||◌}
use mathlib.Core.Logic.{◌⊎◌, inl, inr}
use native.Mathlib.Omega.{arith}
use lib.Bits.{bit_and, and_zero_r}
use lib.Dec.{eqb}
use borrow.Author.Tests.{ne_eqb}
use Rattle.machine.specs.declared.Envelope.{Envelope}
use Rattle.machine.specs.Bytes.{bit_of}
use Rattle.machine.specs.Lists.{every}
use Rattle.machine.specs.Image.{pair_of}
use Rattle.machine.specs.Events.{positive, wanted}
use Rattle.machine.proofs.Laws.Lists.{agree}
use Rattle.record.specs.declared.header.Header.{Header}
use Rattle.record.specs.Words.{stage_of, flags_of, requests_of, spare_of, note_of, full_of, shown_envelope, counted_as}
use Rattle.record.specs.Words.{TidyHeader}
use Rattle.record.proofs.Fields.{Fields, word_of, made_of, joined, under_mask, all_ones}

-- ---- its fields

-- the envelope with these bytes
abbrev pub envelope_from : ℕ → ℕ → ℕ → ℕ → ℕ → Envelope
envelope_from status markers fulls empties message =
    record {
      full = eqb status 1;
      marker = pair_of markers 0;
      marked = record { full = fulls; empty = empties };
      message = message;
    }

module _ {h : Header} {n s m f e : ℕ} (is : Fields h.word n s m f e) where
  pub shows_envelope : shown_envelope h ≡ envelope_from s m f e h.message
  shows_envelope = rw (is.flags_is, is.requests_is, is.spare_is, is.note_is)

  pub is_tidy_header : s ≤ 1 → m ≤ 3 → e < 256 → h.message < 2 ^ 32 → TidyHeader h
  is_tidy_header status markers counts small =
      record {
        status = rw is.flags_is status;
        markers = rw is.requests_is markers;
        counts = rw is.note_is counts;
        message = small;
      }

-- fields taken from a word's upper ones
less : (a b c d e x y : ℕ) → x ≤ d → y ≤ e
    → word_of a b c d e - (x * 16777216 + y * 4294967296) ≡ word_of a b c (d - x) (e - y)
less a b c d e x y low high = omega arith

-- the word by its fields
whole : {w n s m f e : ℕ} → Fields w n s m f e → w ≡ word_of n s m f e
whole {w} is = joined w ∙ rw (is.stage_is, is.flags_is, is.requests_is, is.spare_is, is.note_is)

-- one more in the counts of a pair, and one fewer
module _ {w n s m f e : ℕ} (is : Fields w n s m f e) (pair : ℕ) where
  pub counts_up : f + pair % 2 < 256 → Fields (w + counted_as pair) n s m (f + pair % 2) (e + pair / 2)
  counts_up room =
      let more : w + counted_as pair ≡ word_of n s m (f + pair % 2) (e + pair / 2) = omega (arith, whole is) in
      rw more (made_of n s m (f + pair % 2) _ (omega arith) (omega arith) (omega arith) room)

  pub counts_down : pair % 2 ≤ f → pair / 2 ≤ e → Fields (w - counted_as pair) n s m (f - pair % 2) (e - pair / 2)
  counts_down low high =
      let fewer : w - counted_as pair ≡ word_of n s m (f - pair % 2) (e - pair / 2) =
      ap (λ x. x - counted_as pair) (whole is) ∙ less n s m f e (pair % 2) (pair / 2) low high in
      rw fewer (made_of n s m (f - pair % 2) _ (omega arith) (omega arith) (omega arith) (omega arith))

  -- what they take away is there
  pub counts_there : pair % 2 ≤ f → pair / 2 ≤ e → counted_as pair ≤ w
  counts_there low high = omega (arith, whole is)

-- ---- is it wanted

-- a marker and a count where nothing else is left
some : (b : Bool) (c k f e place : ℕ) → k ≡ cond b place 0 → 1 ≤ place → f + e ≡ c
    → not (eqb (word_of 0 0 k f e) 0) ≡ b || positive c
some true c k f e place is more all = rw (ne_eqb (word_of 0 0 k f e) 0 (λ none. omega (arith, is, none)))
some false zero k f e place is more all =
    let none : word_of 0 0 k f e ≡ 0 = omega (arith, is) in
    rw none
some false (suc c) k f e place is more all = rw (ne_eqb (word_of 0 0 k f e) 0 (λ none. omega (arith, none)))

module _ (h : Header) (tidy : TidyHeader h) where
  abbrev markers : ℕ
  markers = requests_of h.word

  abbrev fulls : ℕ
  fulls = spare_of h.word

  abbrev empties : ℕ
  empties = note_of h.word

  -- what a mask of markers and counts leaves
  masked : (m f e : ℕ) → m < 256 → f < 256
      → bit_and h.word (word_of 0 0 m f e) ≡ word_of 0 0 (bit_and markers m) (bit_and fulls f) (bit_and empties e)
  masked m f e one two =
      whole
      (rw (and_zero_r (stage_of h.word), and_zero_r (flags_of h.word)) at
      (under_mask h.word (made_of 0 0 m f e (omega arith) (omega arith) one two)))

  pub full_is : full_of h.word ≡ (shown_envelope h).full
  full_is =
      let same : h.word / 256 % 2 ≡ h.word / 256 % 256 = omega (arith, tidy.status) in
      ap (λ x. eqb x 1) same

  -- by the mask that the status chooses
  pub wanted_by_lem : {b : Bool} {wants : ℕ} → b ≡ full_of h.word
      → ((wants ≡ 4278255616) × (b ≡ true)) ⊎ ((wants ≡ 1095216791552) × (b ≡ false))
      → not (eqb (bit_and h.word wants) 0) ≡ wanted (shown_envelope h)
  unfolding wanted every
  wanted_by_lem read (inl w) =
      let bit = agree 4 (λ k. bit_and k 1) (λ k. cond (bit_of k 0) 1 0) refl markers (omega (arith, tidy.markers)) in
      let count : bit_and fulls 255 + bit_and empties 0 ≡ fulls =
      rw (all_ones 8 fulls (omega arith), and_zero_r empties) (omega arith) in
      rw (w.0, sym full_is ∙ sym read ∙ w.1)
      (ap (λ x. not (eqb x 0)) (masked 1 255 0 (omega arith) (omega arith))
      ∙ some (bit_of markers 0) fulls _ _ _ 1 bit (omega arith) count)
  wanted_by_lem read (inr w) =
      let bit = agree 4 (λ k. bit_and k 2) (λ k. cond (bit_of k 1) 2 0) refl markers (omega (arith, tidy.markers)) in
      let count : bit_and fulls 0 + bit_and empties 255 ≡ empties =
      rw (and_zero_r fulls, all_ones 8 empties tidy.counts) (omega arith) in
      rw (w.0, sym full_is ∙ sym read ∙ w.1)
      (ap (λ x. not (eqb x 0)) (masked 2 0 255 (omega arith) (omega arith))
      ∙ some (bit_of markers 1) empties _ _ _ 2 bit (omega arith) count)
