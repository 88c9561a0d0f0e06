-- Soundness of a state that was written: the bytes' own ranges and zeros come from the writing, so what is left are the
-- rules on the state itself.
use Prim.Native.Nat.{ℕ, zero, suc, ◌^◌, ◌<◌}
use mathlib.Core.Path.{◌≡◌, refl, ap, ◌∙◌}
use mathlib.Core.Bool.{Bool, true, ◌&&◌, ◌||◌, and-true}
use mathlib.Core.List.{List, ◌++◌}
use lib.ListN.{length, take, drop, replicate}
use lib.Seq.{take_at, drop_at}
use lib.Dec.{eqb, leb}
use borrow.Author.Tests.{le-leb}
use Rattle.machine.specs.declared.Envelope.{Envelope}
use Rattle.machine.specs.declared.Process.{Process}
use Rattle.machine.specs.Bytes.{bit, bytes, all_zero, zeros}
use Rattle.machine.specs.Lists.{all}
use Rattle.machine.specs.Ring.{record_at}
use Rattle.machine.specs.Fields.{full, empty, blank}
use Rattle.machine.specs.Image.{State, pair_bits, flag_bits, process_bytes, image_with}
use Rattle.machine.specs.Stages.{last_stage}
use Rattle.machine.specs.Sound.{header_fits, mark_fits, note_fits, record_rules_in, holds, records_fit, rest_fits}
use Rattle.machine.specs.Sound.{sound}
use Rattle.machine.specs.Events.{process_at}
use Rattle.machine.proofs.Laws.Lists.{every_same, every_all}
use Rattle.machine.proofs.Laws.Bits.{bit_le, bit_is, pair_le, flags_le}
use Rattle.machine.proofs.Laws.Bytes.{length_bytes, little_endian_bytes_4, all_zero_lem}
use Rattle.machine.proofs.Image.Writes.{size_written}
use Rattle.machine.proofs.Image.Readback.{InRange, byte_here, following, record_stands, read_process}
use Rattle.machine.proofs.Image.Readback.{after_message}
use Rattle.machine.proofs.Image.Readback.{header_stands, read_state}

-- ---- the rules on the state itself

-- an empty envelope's message is 0
abbrev pub envelope_fits : Envelope → Bool
envelope_fits e = e.full || eqb e.message 0

-- a stage, marks and a note that fit it
abbrev pub process_fits : Process → Bool
process_fits p = leb p.stage last_stage && mark_fits full p && mark_fits empty p && note_fits p

unfoldable pub state_fits : State → Bool
state_fits st = envelope_fits st.envelope && all process_fits st.processes && rest_fits st

-- ---- the header

zero_message : (m : ℕ) → m < 2 ^ 32 → all_zero (bytes 4 m) ≡ eqb m 0
zero_message m h = all_zero_lem (bytes 4 m) ∙ ap (λ (n : ℕ). eqb n 0) (little_endian_bytes_4 m h)

pub no_byte_set : (width : ℕ) → all_zero (replicate width 0) ≡ true
unfolding all_zero
no_byte_set zero = refl
no_byte_set (suc width) = no_byte_set width

header_written : (s : List ℕ) (st : State) → st.envelope.message < 2 ^ 32
    → header_fits (image_with s st) ≡ envelope_fits st.envelope
unfolding header_fits zeros
header_written s st small =
    let e = st.envelope in
    let m = bytes 4 e.message in
    let rest = after_message s st in
    let message : take 4 (m ++ rest) ≡ m = take_at m rest 4 (length_bytes 4 e.message) in
    let spare : drop 4 (m ++ rest) ≡ rest = drop_at m rest 4 (length_bytes 4 e.message) in
    rw (
      header_stands s st,
      message,
      spare,
      le-leb (bit e.full) 1 (bit_le e.full),
      le-leb (pair_bits e.marker) 3 (pair_le e.marker),
      bit_is e.full (bit e.full) refl,
      zero_message e.message small,
      no_byte_set 3,
      no_byte_set 4,
    )
    (and-true (envelope_fits e))

-- ---- the records

record_written : (s : List ℕ) (st : State) (i : ℕ) → i < length st.processes
    → (process_at st.processes i).note < 2 ^ 32
    → holds (record_rules_in (image_with s st) i) ≡ process_fits (process_at st.processes i)
unfolding process_bytes
record_written s st i h small =
    let p = process_at st.processes i in
    let byte = byte_here (image_with s st) (record_at i) (process_bytes p) (following s st i)
    (record_stands s st i h) in
    rw (read_process s st i h small, byte 1, byte 3, le-leb (flag_bits p) 7 (flags_le p)) (simp and-true)

records_written : (s : List ℕ) (st : State) → InRange st
    → records_fit (image_with s st) (length st.processes) ≡ all process_fits st.processes
unfolding records_fit
records_written s st range =
    every_same (length st.processes) _ (λ i. process_fits (process_at st.processes i))
    (λ i h. record_written s st i h (range.notes i h))
    ∙ every_all process_fits st.processes blank

-- ---- the whole

pub sound_written : (s : List ℕ) (st : State) → InRange st → sound (image_with s st) ≡ state_fits st
unfolding sound state_fits
sound_written s st range =
    rw (header_written s st range.message, size_written s st, records_written s st range, read_state s st range)
