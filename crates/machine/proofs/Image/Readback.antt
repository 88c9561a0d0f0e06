-- Decode after encode: the state that was written is the state that is read. A record is read from its own eight bytes,
-- and those are what was written.
use Prim.Native.Nat.{ℕ, zero, suc, ◌+◌, ◌*◌, ◌^◌, ◌<◌}
use mathlib.Core.Path.{◌≡◌, refl, sym, ap, ◌∙◌}
use mathlib.Core.List.{List, [], ◌∷◌, ◌++◌, append_assoc}
use native.Mathlib.Omega.{arith}
use lib.ListN.{length, get_or, drop}
use lib.Seq.{get_or-drop, drop-append-add, drop-append_seam, drop-drop, take_at, ext_get_or}
use Rattle.machine.specs.declared.Process.{Process}
use Rattle.machine.specs.Bytes.{bit, number, bytes}
use Rattle.machine.specs.Lists.{tabulate}
use Rattle.machine.specs.Ring.{image_length, record_at}
use Rattle.machine.specs.Fields.{blank}
use Rattle.machine.specs.Image.{State, pair_bits, flag_bits, request_bits, envelope_in, process_from, process_in}
use Rattle.machine.specs.Image.{processes_in, state_in}
use Rattle.machine.specs.Image.{header_bytes, process_bytes, record_bytes, image_with}
use Rattle.machine.specs.Events.{process_at}
use Rattle.machine.proofs.Laws.Lists.{length_tabulate, get_d_tabulate}
use Rattle.machine.proofs.Laws.Bytes.{length_bytes, little_endian_bytes_4}
use Rattle.machine.proofs.Laws.Bits.{bit_le, bit_is, pair_is, process_is}
use Rattle.machine.proofs.Image.Writes.{length_process, length_header, image_pieces, size_written}

-- ---- reading where something is known to stand

module _ (t : List ℕ) (at : ℕ) (here more : List ℕ) (stands : drop at t ≡ here ++ more) where
  pub byte_here : (k : ℕ) → get_or t (at + k) 0 ≡ get_or (here ++ more) k 0
  byte_here k = sym (get_or-drop at t k 0) ∙ ap (λ (l : List ℕ). get_or l k 0) stands

-- four bytes that stand after k others
pub number_here : (t : List ℕ) (at : ℕ) (before more : List ℕ) (n : ℕ) → n < 2 ^ 32
    → drop at t ≡ before ++ (bytes 4 n ++ more)
    → number t (at + length before) 4 ≡ n
unfolding number
number_here t at before more n h stands =
    let e : drop (at + length before) t ≡ bytes 4 n ++ more =
    sym (drop-drop (length before) at t)
    ∙ ap (drop (length before)) stands
    ∙ drop-append_seam before (bytes 4 n ++ more) in
    rw (e, take_at (bytes 4 n) more 4 (length_bytes 4 n)) (little_endian_bytes_4 n h)

-- ---- a record

process_here : (t : List ℕ) (at : ℕ) (p : Process) (more : List ℕ) → p.note < 2 ^ 32
    → drop at t ≡ process_bytes p ++ more
    → process_from (get_or t at 0) (get_or t (at + 1) 0) (get_or t (at + 2) 0) (number t (at + 4) 4) ≡ p
unfolding process_bytes
process_here t at p more h stands =
    let byte = byte_here t at (process_bytes p) more stands in
    let zeroth : get_or t at 0 ≡ p.stage = ap (λ (k : ℕ). get_or t k 0) (omega arith) ∙ byte 0 in
    let split : drop at t ≡ (p.stage ∷ flag_bits p ∷ request_bits p ∷ 0 ∷ []) ++ (bytes 4 p.note ++ more) = stands in
    rw (
      zeroth,
      byte 1,
      byte 2,
      number_here t at (p.stage ∷ flag_bits p ∷ request_bits p ∷ 0 ∷ []) more p.note h split,
    )
    (process_is p)

records_from_lem : (ps : List Process) (rest : List ℕ) (i : ℕ) → i < length ps
    → drop (8 * i) (record_bytes ps ++ rest) ≡ process_bytes (process_at ps i)
    ++ (record_bytes (drop (suc i) ps) ++ rest)
unfolding record_bytes
records_from_lem [] rest i h = absurd (omega arith)
records_from_lem (p ∷ ps) rest zero h = append_assoc (process_bytes p) (record_bytes ps) rest
records_from_lem (p ∷ ps) rest (suc i) h =
    let e : 8 * suc i ≡ length (process_bytes p) + 8 * i = omega (arith, length_process p) in
    rw (
      append_assoc (process_bytes p) (record_bytes ps) rest,
      e,
      drop-append-add (process_bytes p) (record_bytes ps ++ rest) (8 * i),
    )
    (records_from_lem ps rest i (omega arith))

-- the bytes after the record of process i
unfoldable pub following : List ℕ → State → ℕ → List ℕ
following s st i = record_bytes (drop (suc i) st.processes) ++ drop (image_length (length st.processes)) s

pub record_stands : (s : List ℕ) (st : State) (i : ℕ) → i < length st.processes
    → drop (record_at i) (image_with s st) ≡ process_bytes (process_at st.processes i) ++ following s st i
unfolding following
record_stands s st i h =
    let ps = st.processes in
    let n = length ps in
    let head = header_bytes n st.envelope in
    let rest = drop (image_length n) s in
    let at : record_at i ≡ length head + 8 * i = omega (arith, length_header n st.envelope) in
    rw (image_pieces s st, at, drop-append-add head (record_bytes ps ++ rest) (8 * i)) (records_from_lem ps rest i h)

pub read_process : (s : List ℕ) (st : State) (i : ℕ) → i < length st.processes
    → (process_at st.processes i).note < 2 ^ 32
    → process_in (image_with s st) i ≡ process_at st.processes i
unfolding process_in
read_process s st i h small =
    process_here (image_with s st) (record_at i) (process_at st.processes i) (following s st i) small
    (record_stands s st i h)

-- ---- the header

-- bytes 0 to 7 of a header
abbrev pub front_of : State → List ℕ
front_of st =
    length st.processes ∷ bit st.envelope.full ∷ pair_bits st.envelope.marker
    ∷ st.envelope.marked.full ∷ st.envelope.marked.empty ∷ 0 ∷ 0 ∷ 0 ∷ []

-- the bytes after the message
abbrev pub after_message : List ℕ → State → List ℕ
after_message s st =
    (0 ∷ 0 ∷ 0 ∷ 0 ∷ []) ++ (record_bytes st.processes ++ drop (image_length (length st.processes)) s)

pub header_stands : (s : List ℕ) (st : State)
    → image_with s st ≡ front_of st ++ (bytes 4 st.envelope.message ++ after_message s st)
unfolding header_bytes
header_stands s st =
    let m = bytes 4 st.envelope.message in
    let zero4 : List ℕ = 0 ∷ 0 ∷ 0 ∷ 0 ∷ [] in
    let rest = record_bytes st.processes ++ drop (image_length (length st.processes)) s in
    image_pieces s st
    ∙ append_assoc (front_of st) (m ++ zero4) rest
    ∙ ap (λ (l : List ℕ). front_of st ++ l) (append_assoc m zero4 rest)

pub read_envelope : (s : List ℕ) (st : State) → st.envelope.message < 2 ^ 32
    → envelope_in (image_with s st) ≡ st.envelope
unfolding envelope_in
read_envelope s st small =
    let e = st.envelope in
    let f = bit_le e.marker.full in
    let g = bit_le e.marker.empty in
    let message : number (image_with s st) 8 4 ≡ e.message =
    number_here (image_with s st) 0 (front_of st) (after_message s st) e.message small (header_stands s st) in
    rw (
      message,
      header_stands s st,
      bit_is e.full (bit e.full) refl,
      pair_is e.marker (pair_bits e.marker) 0 (omega arith) (omega arith),
    )

-- ---- the whole state

-- what a message or a note can hold
pub record InRange (st : State) : Type 0 where
  pub message : st.envelope.message < 2 ^ 32
  pub notes : (i : ℕ) → i < length st.processes → (process_at st.processes i).note < 2 ^ 32

pub read_processes : (s : List ℕ) (st : State) → InRange st
    → processes_in (image_with s st) (length st.processes) ≡ st.processes
unfolding processes_in
read_processes s st range =
    let n = length st.processes in
    let f = process_in (image_with s st) in
    ext_get_or blank (tabulate f 0 n) st.processes (length_tabulate f 0 n)
    (λ k h.
    let below : k < n = omega (arith, length_tabulate f 0 n) in
    get_d_tabulate f 0 n k blank below ∙ ap f (omega arith) ∙ read_process s st k below (range.notes k below))

pub read_state : (s : List ℕ) (st : State) → InRange st → state_in (image_with s st) ≡ st
unfolding state_in
read_state s st range = rw (read_envelope s st range.message, size_written s st, read_processes s st range)
