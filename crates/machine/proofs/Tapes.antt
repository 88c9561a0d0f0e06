-- How long a list's tape is: 512 bytes a block, of which 504 are slots; and an event's own bytes.
use Prim.Native.Nat.{ℕ, ◌-◌, ◌*◌, ◌/◌, ◌^◌, ◌≤◌, ◌<◌, min}
use mathlib.Core.Path.{◌≡◌, ap}
use mathlib.Core.List.{List}
use native.Mathlib.Omega.{arith}
use lib.ListN.{length, drop, length-append, length-take, length-drop, length-replicate}
use Rattle.machine.specs.Bytes.{number, bytes}
use Rattle.machine.specs.Events.{Event}
use Rattle.machine.specs.Tape.{event_in, event_bytes, block_bytes, slots_for, padded, block_for, blocks_for, tape_of}
use Rattle.machine.proofs.Laws.Bytes.{length_bytes, little_endian_bytes_4}
use Rattle.machine.proofs.Laws.Joined.{length_joined}

-- an event's bytes are read back as the event
pub bytes_read : (v : Event) → v.message < 2 ^ 32 → event_in (event_bytes v) 0 ≡ v
unfolding event_in number bytes
bytes_read v small =
    ap (λ (m : ℕ). record { process = v.process; code = v.code; message = m })
    (little_endian_bytes_4 v.message small)

pub length_slots : (list : List ℕ) (b : ℕ) → length (slots_for list b) ≡ min 504 (length list - 504 * b)
unfolding slots_for
length_slots list b = rw (length-take 504 (drop (504 * b) list), length-drop (504 * b) list)

pub slots_most : (list : List ℕ) (b : ℕ) → length (slots_for list b) ≤ 504
slots_most list b = omega (arith, length_slots list b)

pub length_padded : (slots : List ℕ) → length slots ≤ 504 → length (padded slots) ≡ 504
unfolding padded
length_padded slots h = simp (length-append, length-replicate) (omega arith)

pub length_block : (list : List ℕ) (b : ℕ) → length (block_for list b) ≡ 512
unfolding block_for block_bytes
length_block list b =
    simp (length-append, length_bytes) (omega (arith, length_padded (slots_for list b) (slots_most list b)))

pub length_tape : (list : List ℕ) → length (tape_of list) ≡ 512 * blocks_for (length list / 8)
unfolding tape_of
length_tape list =
    length_joined (block_for list) 512 0 (blocks_for (length list / 8)) (λ b low high. length_block list b)
