-- Words and images: the word that stands in an image shows the process, and the header's words the envelope, that the
-- rule reads there; and a word in order, written, is the process that it shows, written. So code works on words, and
-- the rules stay as they are. In order (Tidy) means that no bit is set that no rule names, as in every accepted image.
-- Bits set, off or added act on each field of a word by itself, stage, flags, requests and marks, note (Fields,
-- Changes, and Headers of the header); what that does to a field the checker computes at every value of it (Pairs).
use Rattle.std.specs.Prelude.{Ok}
use Prim.Native.Nat.{ℕ, ◌/◌, ◌%◌, ◌^◌, ◌≤◌, ◌<◌}
use mathlib.Core.Path.{◌≡◌, refl, sym, ap, subst, ◌∙◌}
use mathlib.Core.List.{List, [], ◌∷◌, ◌++◌}
use native.Mathlib.Omega.{arith}
use lib.ListN.{length, get_or, take, drop}
use lib.Seq.{take_at}
use borrow.Author.Tests.{eqb-true}
use Rattle.machine.specs.declared.Process.{Process}
use Rattle.machine.specs.Bytes.{Bytes, little_endian_of, number, bytes, splice}
use Rattle.machine.specs.Ring.{record_at}
use Rattle.machine.specs.Image.{State, flag_bits, request_bits, envelope_in, process_bytes}
use Rattle.machine.specs.Image.{header_bytes, image_with, size_in, state_in, with_process, with_envelope}
use Rattle.machine.specs.Events.{process_at}
use Rattle.machine.specs.Refusals.{image_verdict}
use Rattle.machine.proofs.Laws.Bytes.{little_endian_bytes_4, number_more, number_4, number_8, zeros_number, number_lt}
use Rattle.machine.proofs.Laws.Bits.{is_bit, pair_le, flags_le, process_is, flags_are, requests_are, markers_are}
use Rattle.machine.proofs.Image.Writes.{length_process}
use Rattle.machine.proofs.Image.Readback.{following, record_stands}
use Rattle.machine.proofs.Image.Rewrite.{rewrite_image, read_in_range}
use Rattle.machine.proofs.Image.Stored.{length_state, read_at}
use Rattle.machine.proofs.Soundness.Sound.{sound_facts}
use Rattle.machine.proofs.Laws.Refusals.{image_fine}
use Rattle.record.specs.declared.header.Header.{Header}
use Rattle.record.specs.Words.{stage_of, flags_of, requests_of, note_of, shown_process, shown_envelope, Tidy}
use Rattle.record.specs.Words.{TidyHeader}
use Rattle.little_endian.proofs.Laws.{bytes_apart, word_halves}
use Rattle.record.proofs.Fields.{Fields, word_of, made_of, shows, is_tidy}

-- ---- a record read

-- a record's bytes as one number
bytes_joined : (p : Process) → p.note < 2 ^ 32
    → little_endian_of (process_bytes p) ≡ word_of p.stage (flag_bits p) (request_bits p) 0 p.note
unfolding process_bytes little_endian_of
bytes_joined p small = rw (little_endian_bytes_4 p.note small)

requests_le : (p : Process) → request_bits p < 256
requests_le p = omega (arith, pair_le p.asked, pair_le p.itself, pair_le p.mark, pair_le p.link)

-- what a word shows, and that it is in order
pub record Read (w : ℕ) (p : Process) : Type 0 where
  pub is : shown_process w ≡ p
  pub tidy : Tidy w

pub record_read : (s : List ℕ) (st : State) (i : ℕ) → i < length st.processes
    → (process_at st.processes i).stage < 256 → (process_at st.processes i).note < 2 ^ 32
    → Read (number (image_with s st) (record_at i) 8) (process_at st.processes i)
unfolding number
record_read s st i below low small =
    let p = process_at st.processes i in
    let joined : little_endian_of (take 8 (drop (record_at i) (image_with s st)))
    ≡ word_of p.stage (flag_bits p) (request_bits p) 0 p.note =
    rw (record_stands s st i below, take_at (process_bytes p) (following s st i) 8 (length_process p))
    (bytes_joined p small) in
    let few = flags_le p in
    let fields =
    made_of p.stage (flag_bits p) (request_bits p) 0 p.note low (omega arith) (requests_le p) (omega arith) in
    rw joined (record { is = shows fields ∙ process_is p; tidy = is_tidy fields few refl small })

-- of an accepted image
pub sound_read : (s : List ℕ) (i : ℕ) → image_verdict s ≡ Ok tt → Bytes s → i < size_in s
    → Read (number s (record_at i) 8) (process_at (state_in s).processes i)
sound_read s i fine small below =
    let image = image_fine s fine in
    let st = state_in s in
    let stage : (process_at st.processes i).stage ≤ 10 =
    rw (sym (read_at s i below)) ((sound_facts s image.fits).records i below).stage in
    let note = (read_in_range s small).notes i (omega (arith, length_state s)) in
    subst (λ (t : List ℕ). Read (number t (record_at i) 8) (process_at st.processes i))
    (rewrite_image s image.room small image.fits)
    (record_read s st i (omega (arith, length_state s)) (omega (arith, stage)) note)

-- ---- a record written

pub record_written : (s : List ℕ) (i w : ℕ) → Tidy w
    → splice s (record_at i) (bytes 8 w) ≡ with_process s i (shown_process w)
unfolding with_process process_bytes
record_written s i w tidy =
    ap (splice s (record_at i))
    (bytes_apart w
    ∙ rw (
      tidy.spare,
      flags_are (stage_of w) (flags_of w) (requests_of w) (note_of w) tidy.flags,
      requests_are (stage_of w) (flags_of w) (requests_of w) (note_of w) (omega arith),
    ))

-- ---- the header read

module _ (s : List ℕ) (fine : image_verdict s ≡ Ok tt) (small : Bytes s) where
  -- its two words
  abbrev words : Header
  words = record { word = number s 0 8; message = number s 8 8 }

  -- N, status, markers and both counts are its first five bytes
  header_fields : Fields (number s 0 8) (get_or s 0 0) (get_or s 1 0) (get_or s 2 0) (get_or s 3 0) (get_or s 4 0)
  header_fields =
      let facts = (sound_facts s (image_fine s fine).fits).header in
      let none : number s 5 3 ≡ 0 = eqb-true (number s 5 3) 0 (sym (zeros_number s 5 3) ∙ facts.unnamed) in
      let word : number s 0 8 ≡ word_of (get_or s 0 0) (get_or s 1 0) (get_or s 2 0) (get_or s 3 0) (get_or s 4 0) =
      rw (number_8 s 0, number_4 s 0, number_more s 4 3, none) (omega arith) in
      rw word
      (made_of (get_or s 0 0) (get_or s 1 0) (get_or s 2 0) (get_or s 3 0) (get_or s 4 0) (small 0) (small 1) (small 2)
      (small 3))

  -- the message alone is in the second word
  message_is : number s 8 8 ≡ number s 8 4
  message_is =
      let facts = (sound_facts s (image_fine s fine).fits).header in
      let none : number s 12 4 ≡ 0 = eqb-true (number s 12 4) 0 (sym (zeros_number s 12 4) ∙ facts.spare) in
      rw (number_8 s 8, none) (omega arith)

  pub header_shows : shown_envelope words ≡ envelope_in s
  unfolding envelope_in
  header_shows =
      let f = header_fields in
      rw (f.flags_is, f.requests_is, f.spare_is, f.note_is, message_is)

  pub header_tidy : TidyHeader words
  header_tidy =
      let facts = (sound_facts s (image_fine s fine).fits).header in
      let f = header_fields in
      record {
        status = rw f.flags_is facts.status;
        markers = rw f.requests_is facts.markers;
        counts = rw f.note_is (small 4);
        message = rw message_is (number_lt s 8 small);
      }

  pub header_size : number s 0 8 % 256 ≡ size_in s
  header_size = header_fields.stage_is

-- ---- the header written

-- a byte above nothing
one_byte : (c : ℕ) → c < 256 → bytes 4 c ≡ c ∷ 0 ∷ 0 ∷ 0 ∷ []
unfolding bytes
one_byte c byte =
    let low : c % 256 ≡ c = omega arith in
    let high : c / 256 ≡ 0 = omega arith in
    rw (low, high)

header_bytes_lem : (h : Header) → TidyHeader h
    → bytes 8 h.word ++ bytes 8 h.message ≡ header_bytes (h.word % 256) (shown_envelope h)
unfolding header_bytes
header_bytes_lem h tidy =
    let m = h.message in
    let low : m % 4294967296 ≡ m = omega (arith, tidy.message) in
    let high : m / 4294967296 ≡ 0 = omega (arith, tidy.message) in
    let halves : bytes 8 m ≡ bytes 4 m ++ (0 ∷ 0 ∷ 0 ∷ 0 ∷ []) =
    sym (word_halves m) ∙ rw (low, high, one_byte 0 (omega arith)) in
    rw (
      halves,
      bytes_apart h.word,
      one_byte (h.word / 4294967296) tidy.counts,
      is_bit (h.word / 256 % 256) tidy.status,
      markers_are (h.word / 65536 % 256) tidy.markers,
    )

pub header_written : (s : List ℕ) (h : Header) → TidyHeader h → h.word % 256 ≡ size_in s
    → splice s 0 (bytes 8 h.word ++ bytes 8 h.message) ≡ with_envelope s (shown_envelope h)
unfolding with_envelope
header_written s h tidy size = ap (splice s 0)
    (header_bytes_lem h tidy ∙ ap (λ n. header_bytes n (shown_envelope h)) size)
