-- Encode after decode: a sound image is what its own state writes. Each byte is in its range, so it is made of the bits
-- that were read from it.
use Prim.Native.Nat.{ℕ, zero, suc, ◌+◌, ◌*◌, ◌/◌, ◌%◌, ◌≤◌, ◌<◌}
use mathlib.Core.Path.{◌≡◌, refl, sym, ap, ap₂, ◌∙◌}
use mathlib.Core.Bool.{true, ◌&&◌}
use mathlib.Core.List.{List, [], ◌∷◌, ◌++◌, append_assoc}
use native.Mathlib.Omega.{arith}
use native.Mathlib.Numerals.{add-one}
use lib.ListN.{length, get_or, take, drop, replicate, take-append-drop}
use lib.Seq.{drop-cons, drop-drop, take-add}
use lib.Dec.{eqb}
use borrow.Author.Tests.{eqb-true}
use Rattle.machine.specs.Bytes.{part, number, bytes, zeros, Bytes}
use Rattle.machine.specs.Lists.{tabulate}
use Rattle.machine.specs.Ring.{image_length, record_at}
use Rattle.machine.specs.Fields.{blank}
use Rattle.machine.specs.Image.{envelope_in, process_in, processes_in, size_in, state_in}
use Rattle.machine.specs.Image.{header_bytes, process_bytes, record_bytes, image_with}
use Rattle.machine.specs.Sound.{sound}
use Rattle.machine.proofs.Laws.Lists.{and_first, and_second, length_tabulate, get_d_tabulate}
use Rattle.machine.proofs.Laws.Bytes.{number_more, zeros_more, number_lt}
use Rattle.machine.proofs.Soundness.Sound.{HeaderFacts, RecordFacts, sound_facts}
use Rattle.machine.proofs.Laws.Bits.{is_bit, markers_are, flags_are, requests_are}
use Rattle.machine.proofs.Image.Writes.{image_pieces}
use Rattle.machine.proofs.Image.Readback.{InRange}

-- ---- parts of a buffer

pub part_more : (s : List ℕ) (at width : ℕ) → at < length s
    → part s at (suc width) ≡ get_or s at 0 ∷ part s (at + 1) width
part_more s at width h = rw (add-one at, drop-cons s at 0 h)

pub part_add : (s : List ℕ) (at v w : ℕ) → part s at (v + w) ≡ part s at v ++ part s (at + v) w
part_add s at v w = take-add v w (drop at s) ∙ ap (λ (l : List ℕ). part s at v ++ take w l) (drop-drop v at s)

pub zero_part : (s : List ℕ) (at width : ℕ) → at + width ≤ length s → zeros s at width ≡ true
    → part s at width ≡ replicate width 0
zero_part s at zero h z = refl
zero_part s at (suc width) h z =
    let both : eqb (get_or s at 0) 0 && zeros s (at + 1) width ≡ true = sym (zeros_more s at width) ∙ z in
    part_more s at width (omega arith)
    ∙ ap₂ (λ (b : ℕ) (l : List ℕ). b ∷ l)
    (eqb-true _ _ (and_first (eqb (get_or s at 0) 0) (zeros s (at + 1) width) both))
    (zero_part s (at + 1) width (omega arith) (and_second (eqb (get_or s at 0) 0) (zeros s (at + 1) width) both))

pub bytes_number : (s : List ℕ) (at width : ℕ) → at + width ≤ length s → Bytes s
    → bytes width (number s at width) ≡ part s at width
unfolding bytes
bytes_number s at zero h small = refl
bytes_number s at (suc width) h small =
    let x = get_or s at 0 in
    let m = number s (at + 1) width in
    let low : (x + 256 * m) % 256 ≡ x = omega (arith, small at) in
    let high : (x + 256 * m) / 256 ≡ m = omega (arith, small at) in
    rw (part_more s at width (omega arith), number_more s at width, low, high)
    (ap (λ (l : List ℕ). x ∷ l) (bytes_number s (at + 1) width (omega arith) small))

-- ---- a record

rewrite_process : (s : List ℕ) (i : ℕ) → record_at i + 8 ≤ length s → Bytes s → RecordFacts s i
    → process_bytes (process_in s i) ≡ part s (record_at i) 8
unfolding process_bytes process_in
rewrite_process s i room small facts =
    let r = record_at i in
    let st = get_or s r 0 in
    let x = get_or s (r + 1) 0 in
    let y = get_or s (r + 2) 0 in
    let n = number s (r + 4) 4 in
    let two : r + 1 + 1 ≡ r + 2 = omega arith in
    let three : r + 2 + 1 ≡ r + 3 = omega arith in
    let four : r + 3 + 1 ≡ r + 4 = omega arith in
    rw (
      part_more s r 7 (omega arith),
      part_more s (r + 1) 6 (omega arith),
      two,
      part_more s (r + 2) 5 (omega arith),
      three,
      part_more s (r + 3) 4 (omega arith),
      four,
      facts.third,
      ← bytes_number s (r + 4) 4 (omega arith) small,
      flags_are st x y n facts.flags,
      requests_are st x y n (small (r + 2)),
    )

rewrite_records : (s : List ℕ) (i n : ℕ) → record_at i + 8 * n ≤ length s → Bytes s
    → ((k : ℕ) → i ≤ k → k < i + n → RecordFacts s k)
    → record_bytes (tabulate (process_in s) i n) ≡ part s (record_at i) (8 * n)
unfolding record_bytes tabulate
rewrite_records s i zero room small facts = refl
rewrite_records s i (suc n) room small facts =
    let more : 8 * suc n ≡ 8 + 8 * n = omega arith in
    let next : record_at i + 8 ≡ record_at (i + 1) = omega arith in
    rw (more, part_add s (record_at i) 8 (8 * n), next)
    (ap₂ (λ (a b : List ℕ). a ++ b)
    (rewrite_process s i (omega arith) small (facts i (omega arith) (omega arith)))
    (rewrite_records s (i + 1) n (omega arith) small (λ k a b. facts k (omega arith) (omega arith))))

-- ---- the header

rewrite_header : (s : List ℕ) → 16 ≤ length s → Bytes s → HeaderFacts s
    → header_bytes (size_in s) (envelope_in s) ≡ take 16 s
unfolding header_bytes envelope_in
rewrite_header s room small facts =
    rw (
      is_bit (get_or s 1 0) facts.status,
      markers_are (get_or s 2 0) facts.markers,
      bytes_number s 8 4 (omega arith) small,
    )
    (sym
    (part_add s 0 8 8
    ∙ ap₂ (λ (a b : List ℕ). a ++ b) front
    (part_add s 8 4 4 ∙ ap (λ (l : List ℕ). part s 8 4 ++ l) (zero_part s 12 4 room facts.spare))))
  where
    front : part s 0 8 ≡ get_or s 0 0 ∷ get_or s 1 0 ∷ get_or s 2 0 ∷ get_or s 3 0 ∷ get_or s 4 0 ∷ 0 ∷ 0 ∷ 0 ∷ []
    front =
        rw (
          part_more s 0 7 (omega arith),
          part_more s 1 6 (omega arith),
          part_more s 2 5 (omega arith),
          part_more s 3 4 (omega arith),
          part_more s 4 3 (omega arith),
          zero_part s 5 3 (omega arith) facts.unnamed,
        )

-- ---- the whole image

pub rewrite_image : (s : List ℕ) → image_length (size_in s) ≤ length s → Bytes s → sound s ≡ true
    → image_with s (state_in s) ≡ s
unfolding state_in processes_in
rewrite_image s room small fits =
    let n = size_in s in
    let facts = sound_facts s fits in
    let same : length (tabulate (process_in s) 0 n) ≡ n = length_tabulate (process_in s) 0 n in
    image_pieces s (state_in s)
    ∙ rw (
      same,
      rewrite_header s (omega arith) small facts.header,
      rewrite_records s 0 n room small (λ k a b. facts.records k (omega arith)),
      ← append_assoc (take 16 s) (part s 16 (8 * n)) (drop (image_length n) s),
      ← part_add s 0 16 (8 * n),
    )
    (take-append-drop (image_length n) s)

-- what is read from bytes is in range
pub read_in_range : (s : List ℕ) → Bytes s → InRange (state_in s)
unfolding state_in processes_in envelope_in process_in
read_in_range s small =
    record {
      message = number_lt s 8 small;
      notes =
          λ i h.
          let n = size_in s in
          let f = process_in s in
          let below : i < n = omega (arith, length_tabulate f 0 n) in
          rw (get_d_tabulate f 0 n i blank below) (number_lt s _ small);
    }
