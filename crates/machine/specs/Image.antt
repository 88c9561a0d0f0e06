-- The image: document 01, "The image", header and process record. An image is read as a state, the envelope and the
-- list of the processes, and a state is written as an image.
use Rattle.std.specs.Prelude.{Bool, ℕ, ◌+◌, ◌*◌, List, [], ◌∷◌, ◌++◌, length, get_or, eqb}
use Rattle.machine.specs.declared.Pair.{Pair}
use Rattle.machine.specs.declared.Envelope.{Envelope}
use Rattle.machine.specs.declared.Process.{Process}
use Rattle.machine.specs.Bytes.{bit, bit_of, number, bytes, splice}
use Rattle.machine.specs.Lists.{tabulate}
use Rattle.machine.specs.Ring.{record_at}
use Rattle.machine.specs.Fields.{process_of}

-- what an image stands for; N is the number of the processes
pub record State : Type 0 where
  pub envelope : Envelope
  pub processes : List Process

-- ---- reading

-- bits k and k + 1 of a byte, for full and for empty
abbrev pub pair_of : ℕ → ℕ → Pair Bool
pair_of byte k = record { full = bit_of byte k; empty = bit_of byte (k + 1) }

-- the header: byte 1 status, 2 markers, 3 and 4 the counts of marked processes, 8 to 11 the message
unfoldable pub envelope_in : List ℕ → Envelope
envelope_in s =
    record {
      full = eqb (get_or s 1 0) 1;
      marker = pair_of (get_or s 2 0) 0;
      marked = record { full = get_or s 3 0; empty = get_or s 4 0 };
      message = number s 8 4;
    }

-- a record: its stage, flags (byte 1), requests and marks (byte 2), and note (bytes 4 to 7)
abbrev pub process_from : ℕ → ℕ → ℕ → ℕ → Process
process_from stage flags requests note =
    process_of stage (bit_of flags 0) (bit_of flags 1) (bit_of flags 2)
    (pair_of requests 0) (pair_of requests 2) (pair_of requests 4) (pair_of requests 6) note

-- the record of process i
unfoldable pub process_in : List ℕ → ℕ → Process
process_in s i =
    process_from (get_or s (record_at i) 0) (get_or s (record_at i + 1) 0) (get_or s (record_at i + 2) 0)
    (number s (record_at i + 4) 4)

-- the records of processes 0 to n − 1
unfoldable pub processes_in : List ℕ → ℕ → List Process
processes_in s n = tabulate (process_in s) 0 n

-- byte 0 is N
abbrev pub size_in : List ℕ → ℕ
size_in s = get_or s 0 0

-- the state that an image stands for
unfoldable pub state_in : List ℕ → State
state_in s = record { envelope = envelope_in s; processes = processes_in s (size_in s) }

-- ---- writing

-- full is the lower bit
abbrev pub pair_bits : Pair Bool → ℕ
pair_bits p = bit p.full + 2 * bit p.empty

-- byte 1 of a record: bit 0 have, 1 arriving, 2 news
abbrev pub flag_bits : Process → ℕ
flag_bits p = bit p.have + 2 * bit p.arriving + 4 * bit p.news

-- byte 2 of a record: bits 0, 1 asked by the right; 2, 3 asked itself; 4, 5 marked; 6, 7 on the link from the right
abbrev pub request_bits : Process → ℕ
request_bits p = pair_bits p.asked + 4 * pair_bits p.itself + 16 * pair_bits p.mark + 64 * pair_bits p.link

-- the 16 bytes of a header; those that it doesn't name are 0
unfoldable pub header_bytes : ℕ → Envelope → List ℕ
header_bytes n e =
    (n ∷ bit e.full ∷ pair_bits e.marker ∷ e.marked.full ∷ e.marked.empty ∷ 0 ∷ 0 ∷ 0 ∷ [])
    ++ (bytes 4 e.message ++ (0 ∷ 0 ∷ 0 ∷ 0 ∷ []))

-- the 8 bytes of a record; byte 3 is 0
unfoldable pub process_bytes : Process → List ℕ
process_bytes p = (p.stage ∷ flag_bits p ∷ request_bits p ∷ 0 ∷ []) ++ bytes 4 p.note

-- records one after the other
unfoldable pub record_bytes : List Process → List ℕ
record_bytes [] = []
record_bytes (p ∷ ps) = process_bytes p ++ record_bytes ps

-- an image: the header, then a record for each process
unfoldable pub image_bytes : State → List ℕ
image_bytes st = header_bytes (length st.processes) st.envelope ++ record_bytes st.processes

-- a buffer with a state's image at its start; a longer buffer keeps its further bytes
unfoldable pub image_with : List ℕ → State → List ℕ
image_with s st = splice s 0 (image_bytes st)

-- a buffer with the record of process i written
unfoldable pub with_process : List ℕ → ℕ → Process → List ℕ
with_process s i p = splice s (record_at i) (process_bytes p)

-- a buffer with the header written, N as it stands
unfoldable pub with_envelope : List ℕ → Envelope → List ℕ
with_envelope s e = splice s 0 (header_bytes (size_in s) e)
