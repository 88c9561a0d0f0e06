-- Laws of the image: what is written is read back, and a record written is one element of the list replaced.
-- An image is its header, its records and the further bytes, so a write is a splice into one of the three.
use Prim.Native.Nat.{ℕ, zero, suc, ◌+◌, ◌*◌, ◌≤◌, ◌<◌}
use mathlib.Core.Path.{◌≡◌, refl, sym, ap, ◌∙◌}
use mathlib.Core.List.{List, [], ◌∷◌, ◌++◌, append_assoc}
use native.Mathlib.Omega.{arith}
use lib.ListN.{length, set, drop, length-append, length-set}
use Rattle.machine.specs.declared.Envelope.{Envelope}
use Rattle.machine.specs.declared.Process.{Process}
use Rattle.machine.specs.Bytes.{splice}
use Rattle.machine.specs.Ring.{image_length, record_at}
use Rattle.machine.specs.Image.{State, size_in}
use Rattle.machine.specs.Image.{header_bytes, process_bytes, record_bytes, image_bytes, image_with, with_process}
use Rattle.machine.specs.Image.{with_envelope}
use Rattle.machine.proofs.Laws.Bytes.{length_bytes, length_splice, splice_right, splice_whole}

-- ---- lengths

pub length_process : (p : Process) → length (process_bytes p) ≡ 8
unfolding process_bytes
length_process p = ap (λ (n : ℕ). suc (suc (suc (suc n)))) (length_bytes 4 p.note)

pub length_header : (n : ℕ) (e : Envelope) → length (header_bytes n e) ≡ 16
unfolding header_bytes
length_header n e = simp (length-append, length_bytes)

pub length_records : (ps : List Process) → length (record_bytes ps) ≡ 8 * length ps
unfolding record_bytes
length_records [] = refl
length_records (p ∷ ps) =
    length-append (process_bytes p) (record_bytes ps) ∙ omega (arith, length_process p, length_records ps)

pub length_image : (st : State) → length (image_bytes st) ≡ image_length (length st.processes)
unfolding image_bytes
length_image st =
    length-append (header_bytes (length st.processes) st.envelope) (record_bytes st.processes)
    ∙ omega (arith, length_header (length st.processes) st.envelope, length_records st.processes)

-- ---- the three pieces of an image

pub image_pieces : (s : List ℕ) (st : State)
    → image_with s st
    ≡ header_bytes (length st.processes) st.envelope
    ++ (record_bytes st.processes ++ drop (image_length (length st.processes)) s)
unfolding image_with splice image_bytes
image_pieces s st =
    let n = length st.processes in
    let e : 0 + length (header_bytes n st.envelope ++ record_bytes st.processes) ≡ image_length n =
    omega (
      arith,
      length-append (header_bytes n st.envelope) (record_bytes st.processes),
      length_header n st.envelope,
      length_records st.processes,
    ) in
    rw (e, append_assoc (header_bytes n st.envelope) (record_bytes st.processes) (drop (image_length n) s))

pub length_written : (s : List ℕ) (st : State) → image_length (length st.processes) ≤ length s
    → length (image_with s st) ≡ length s
unfolding image_with
length_written s st h = length_splice s 0 (image_bytes st) (omega (arith, length_image st))

-- ---- one record written is one element replaced

records_write : (ps : List Process) (rest : List ℕ) (i : ℕ) (p : Process) → i < length ps
    → splice (record_bytes ps ++ rest) (8 * i) (process_bytes p) ≡ record_bytes (set ps i p) ++ rest
unfolding record_bytes
records_write [] rest i p h = absurd (omega arith)
records_write (q ∷ ps) rest zero p h =
    rw (append_assoc (process_bytes q) (record_bytes ps) rest, append_assoc (process_bytes p) (record_bytes ps) rest)
    (splice_whole (process_bytes q) (record_bytes ps ++ rest) (process_bytes p)
    (length_process p ∙ sym (length_process q)))
records_write (q ∷ ps) rest (suc i) p h =
    let e : 8 * suc i ≡ length (process_bytes q) + 8 * i = omega (arith, length_process q) in
    rw (
      append_assoc (process_bytes q) (record_bytes ps) rest,
      append_assoc (process_bytes q) (record_bytes (set ps i p)) rest,
      e,
    )
    (splice_right (process_bytes q) (record_bytes ps ++ rest) (8 * i) (process_bytes p)
    ∙ ap (λ (l : List ℕ). process_bytes q ++ l) (records_write ps rest i p (omega arith)))

abbrev pub replaced : State → ℕ → Process → State
replaced st i p = record { envelope = st.envelope; processes = set st.processes i p }

abbrev pub enveloped : State → Envelope → State
enveloped st e = record { envelope = e; processes = st.processes }

pub write_process : (s : List ℕ) (st : State) (i : ℕ) (p : Process) → i < length st.processes
    → with_process (image_with s st) i p ≡ image_with s (replaced st i p)
unfolding with_process
write_process s st i p h =
    let ps = st.processes in
    let n = length ps in
    let head = header_bytes n st.envelope in
    let rest = drop (image_length n) s in
    let at : record_at i ≡ length head + 8 * i = omega (arith, length_header n st.envelope) in
    let same : length (set ps i p) ≡ n = length-set ps i p in
    rw (image_pieces s st, image_pieces s (replaced st i p), at, same)
    (splice_right head (record_bytes ps ++ rest) (8 * i) (process_bytes p)
    ∙ ap (λ (l : List ℕ). head ++ l) (records_write ps rest i p h))

pub size_written : (s : List ℕ) (st : State) → size_in (image_with s st) ≡ length st.processes
unfolding header_bytes
size_written s st = rw (image_pieces s st)

pub write_envelope : (s : List ℕ) (st : State) (e : Envelope)
    → with_envelope (image_with s st) e ≡ image_with s (enveloped st e)
unfolding with_envelope
write_envelope s st e =
    let n = length st.processes in
    rw (size_written s st, image_pieces s st, image_pieces s (enveloped st e))
    (splice_whole (header_bytes n st.envelope) _ (header_bytes n e)
    (length_header n e ∙ sym (length_header n st.envelope)))
