-- Every element of an image that fits is a byte: each of its values is in a range that a byte holds, and wider numbers
-- are written byte by byte.
use Prim.Native.Nat.{ℕ, zero, suc, ◌+◌, ◌/◌, ◌≤◌, ◌<◌}
use mathlib.Core.Path.{◌≡◌, sym, subst}
use mathlib.Core.Bool.{true, ◌&&◌}
use mathlib.Core.List.{List, [], ◌∷◌, ◌++◌}
use native.Mathlib.Omega.{arith}
use lib.ListN.{length, drop}
use lib.Seq.{get_or-drop}
use lib.Dec.{leb, lit<}
use borrow.Author.Tests.{leb-true}
use Rattle.machine.specs.declared.Envelope.{Envelope}
use Rattle.machine.specs.declared.Process.{Process}
use Rattle.machine.specs.Bytes.{bit, bytes, Bytes}
use Rattle.machine.specs.Lists.{all}
use Rattle.machine.specs.Ring.{image_length}
use Rattle.machine.specs.Fields.{Status, full, empty, for}
use Rattle.machine.specs.Image.{State, pair_bits, flag_bits, request_bits, header_bytes, process_bytes, record_bytes}
use Rattle.machine.specs.Image.{image_with}
use Rattle.machine.specs.Stages.{last_stage}
use Rattle.machine.specs.Sound.{mark_fits, note_fits}
use Rattle.machine.proofs.Laws.Lists.{and_first, and_second}
use Rattle.machine.proofs.Laws.Bits.{bit_le, pair_le, flags_le}
use Rattle.machine.proofs.Image.Writes.{image_pieces}
use Rattle.machine.proofs.Image.Written.{process_fits}

-- ---- lists of bytes

-- every element is a byte
record Octets (s : List ℕ) : Type 0 where
  small : Bytes s

-- one more in front
infixr 20 ◌then◌
◌then◌ : {b : ℕ} {s : List ℕ} → b < 256 → Octets s → Octets (b ∷ s)
◌then◌ {b} {s} h rest = record { small = go }
  where
    go : Bytes (b ∷ s)
    go zero = h
    go (suc k) = rest.small k

-- no byte at all
none : Octets []
none = record { small = λ k. lit< tt }

-- one list after the other
both : (a b : List ℕ) → Octets a → Octets b → Octets (a ++ b)
both [] b first second = second
both (x ∷ a) b first second = first.small 0 then both a b (record { small = λ k. first.small (suc k) }) second

-- the further bytes
dropped : (n : ℕ) (s : List ℕ) → Bytes s → Octets (drop n s)
dropped n s h = record { small = λ k. subst (λ (x : ℕ). x < 256) (sym (get_or-drop n s k 0)) (h (n + k)) }

-- a number, written
number_octets : (width n : ℕ) → Octets (bytes width n)
unfolding bytes
number_octets zero n = none
number_octets (suc width) n = omega arith then number_octets width (n / 256)

-- ---- an image

-- the bytes that nothing names
byte_zero : 0 < 256
byte_zero = lit< tt

-- the header
header_octets : (n : ℕ) (e : Envelope) → n < 256 → e.marked.full < 256 → e.marked.empty < 256
    → Octets (header_bytes n e)
unfolding header_bytes
header_octets n e size fulls empties =
    let status : bit e.full < 256 = omega (arith, bit_le e.full) in
    let markers : pair_bits e.marker < 256 = omega (arith, pair_le e.marker) in
    size then status then markers then fulls then empties then byte_zero then byte_zero then byte_zero
    then both (bytes 4 e.message) (0 ∷ 0 ∷ 0 ∷ 0 ∷ []) (number_octets 4 e.message)
    (byte_zero then byte_zero then byte_zero then byte_zero then none)

-- a record: its stage is at most 10
process_octets : (p : Process) → p.stage ≤ 10 → Octets (process_bytes p)
unfolding process_bytes
process_octets p stage =
    let first : p.stage < 256 = omega arith in
    let flags : flag_bits p < 256 = omega (arith, flags_le p) in
    let requests : request_bits p < 256 =
    omega (arith, pair_le p.asked, pair_le p.itself, pair_le p.mark, pair_le p.link) in
    first then flags then requests then byte_zero then number_octets 4 p.note

-- the records
records_octets : (ps : List Process) → all process_fits ps ≡ true → Octets (record_bytes ps)
unfolding record_bytes all
records_octets [] fits = none
records_octets (p ∷ ps) fits =
    let stage : p.stage ≤ 10 = leb-true _ _ (in_range p (and_first (process_fits p) (all process_fits ps) fits)) in
    both (process_bytes p) (record_bytes ps) (process_octets p stage)
    (records_octets ps (and_second (process_fits p) (all process_fits ps) fits))
  where
    in_range : (p : Process) → process_fits p ≡ true → leb p.stage last_stage ≡ true
    in_range p fit =
        let a = leb p.stage last_stage in
        let b = mark_fits full p in
        let c = mark_fits empty p in
        and_first a b (and_first (a && b) c (and_first (a && b && c) (note_fits p) fit))

-- the whole, in a buffer of bytes
pub written_bytes : (s : List ℕ) (st : State) → Bytes s → length st.processes < 256
    → ((t : Status) → for st.envelope.marked t < 256)
    → all process_fits st.processes ≡ true
    → Bytes (image_with s st)
written_bytes s st small size counts fits =
    let n = length st.processes in
    let octets = both (header_bytes n st.envelope) (record_bytes st.processes ++ drop (image_length n) s)
    (header_octets n st.envelope size (counts full) (counts empty))
    (both (record_bytes st.processes) (drop (image_length n) s) (records_octets st.processes fits)
    (dropped (image_length n) s small)) in
    subst Bytes (sym (image_pieces s st)) octets.small
