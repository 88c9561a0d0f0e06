-- A block cut out of a tape, and a slot cut out of a block or a list: what code finds in the piece is what the rule
-- finds at its place.
use Rattle.std.specs.Prelude.{Ok}
use Rattle.std.specs.Simd.{first_chunks}
use Prim.Native.Nat.{ℕ, ◌+◌, ◌-◌, ◌*◌, ◌/◌, ◌≤◌, ◌<◌}
use mathlib.Core.Path.{◌≡◌, sym, ap, ◌∙◌}
use mathlib.Core.Bool.{Bool}
use mathlib.Core.List.{List, []}
use native.Mathlib.Omega.{arith}
use lib.ListN.{length, get_or, take, drop, length-drop}
use lib.Seq.{get_or-take, get_or-drop, length-take-le}
use Rattle.machine.specs.Verdict.{Verdict}
use Rattle.machine.specs.Bytes.{part, number, little_endian_of, all_zero, zeros}
use Rattle.machine.specs.Tape.{slot_at, block_number, block_count}
use Rattle.machine.specs.Refusals.{event_fits}
use Rattle.machine.proofs.Laws.Splices.{part_part}
use Rattle.machine.proofs.Laws.Chunks.{length_chunks, chunk_is}
use Rattle.span.proofs.Laws.{clear_cut}
use Rattle.checksum.proofs.Pass.{length_slot_bytes}
use Rattle.tape_test.specs.Accepted.{head_verdict, HeadOf}
use Rattle.tape_test.proofs.Ways.{head_count}

-- ---- a slot

byte_cut : (s : List ℕ) (at k : ℕ) → k < 8 → get_or (part s at 8) k 0 ≡ get_or s (at + k) 0
byte_cut s at k h = get_or-take 8 (drop at s) k 0 h ∙ get_or-drop at s k 0

cut_fits : (codes n : ℕ) (s : List ℕ) (at : ℕ) → event_fits codes n (part s at 8) 0 ≡ event_fits codes n s at
unfolding event_fits zeros
cut_fits codes n s at =
    let here : at + 0 ≡ at = omega arith in
    rw (
      byte_cut s at 0 (omega arith),
      here,
      byte_cut s at 1 (omega arith),
      part_part s at 8 2 2 (omega arith),
      part_part s at 8 4 4 (omega arith),
    )

-- slot k of a list
module _ (s : List ℕ) {slots : List (List ℕ)} (cut : slots ≡ first_chunks 8 (length s / 8) s) where
  pub slots_are : length slots ≡ length s / 8
  slots_are = ap length cut ∙ length_chunks 8 (length s / 8) s

  pub list_slot : (codes n k : ℕ) → k < length slots
      → event_fits codes n (get_or slots k []) 0 ≡ event_fits codes n s (8 * k)
  list_slot codes n k h =
      let slot : get_or slots k [] ≡ part s (8 * k) 8 =
      ap (λ (c : List (List ℕ)). get_or c k []) cut ∙ chunk_is 8 (length s / 8) s k [] (omega (arith, slots_are)) in
      ap (λ (b : List ℕ). event_fits codes n b 0) slot ∙ cut_fits codes n s (8 * k)

-- ---- a block

-- block b of a tape that is cut into chunks of 512
pub block_cut : (s : List ℕ) {blocks : List (List ℕ)} → blocks ≡ first_chunks 512 (length s / 512) s → (b : ℕ)
    → b < length s / 512
    → get_or blocks b [] ≡ part s (512 * b) 512
block_cut s cut b h =
    ap (λ (c : List (List ℕ)). get_or c b []) cut ∙ chunk_is 512 (length s / 512) s b [] h

module _ (s : List ℕ) (b : ℕ) {block : List ℕ} (is : block ≡ part s (512 * b) 512) where
  -- a number in it
  pub block_word : (at width : ℕ) → at + width ≤ 512 → number block at width ≡ number s (512 * b + at) width
  unfolding number
  block_word at width h = rw is (ap little_endian_of (part_part s (512 * b) 512 at width h))

  pub block_number_is : number block 0 2 ≡ block_number s b
  block_number_is =
      let here : 512 * b + 0 ≡ 512 * b = omega arith in
      block_word 0 2 (omega arith) ∙ ap (λ (at : ℕ). number s at 2) here

  block_zeros : (at width : ℕ) → at + width ≤ 512 → zeros block at width ≡ zeros s (512 * b + at) width
  unfolding zeros
  block_zeros at width h = rw is (ap all_zero (part_part s (512 * b) 512 at width h))

-- a block whose head is fine, as code cut it out and read its count
pub record HeadFine (s : List ℕ) (b : ℕ) (block : List ℕ) (count : ℕ) : Type 0 where
  pub is : block ≡ part s (512 * b) 512
  pub fine : head_verdict s b ≡ Ok tt
  pub counts : count ≡ block_count s b
  pub few : count ≤ 63
  pub long : length (part block 8 504) ≡ 504

pub head_fine : (codes n : ℕ) (s : List ℕ) {blocks : List (List ℕ)} (b : ℕ) {v : Verdict} {count word : ℕ}
    → blocks ≡ first_chunks 512 (length s / 512) s → length blocks ≡ length s / 512 → b < length blocks
    → HeadOf (get_or blocks b []) b (length blocks) v → v ≡ Ok tt → count ≡ word
    → word ≡ number (get_or blocks b []) 2 2
    → HeadFine s b (get_or blocks b []) count
head_fine codes n s {blocks} b cut all below head passed counts read =
    let is = block_cut s cut b (omega (arith, all)) in
    let fine = sym (head s (sym all) is) ∙ passed in
    let count_is = counts ∙ read ∙ block_word s b is 2 2 (omega arith) in
    let whole : length (part s (512 * b) 512) ≡ 512 =
    length-take-le 512 (drop (512 * b) s) (rw (length-drop (512 * b) s) (omega (arith, all))) in
    let room : length (get_or blocks b []) ≡ 512 = ap length is ∙ whole in
    record {
      is = is;
      fine = fine;
      counts = count_is;
      few = omega (arith, count_is, head_count codes n s b fine);
      long = length_slot_bytes (get_or blocks b []) room;
    }

module _ {s : List ℕ} {b : ℕ} {block : List ℕ} {count : ℕ} (h : HeadFine s b block count) where
  -- the slots that are used
  module _ {slots : List (List ℕ)}
      (cut : slots ≡ first_chunks 8 (length (part block 8 504) / 8) (part block 8 504)) where
    all : length slots ≡ 63
    all = ap length cut ∙ length_chunks 8 (length (part block 8 504) / 8) (part block 8 504)
        ∙ ap (λ (k : ℕ). k / 8) h.long

    pub used_long : length (take count slots) ≡ count
    used_long = length-take-le count slots (omega (arith, all, h.few))

    pub used_slot : (codes n j : ℕ) → j < length (take count slots)
        → event_fits codes n (get_or (take count slots) j []) 0 ≡ event_fits codes n s (slot_at b j)
    used_slot codes n j below =
        let few : j < count = omega (arith, used_long) in
        let there : 512 * b + (8 + 8 * j) ≡ slot_at b j = omega arith in
        let k = length (part block 8 504) / 8 in
        let slot : get_or (take count slots) j [] ≡ part s (slot_at b j) 8 =
        get_or-take count slots j [] few
        ∙ ap (λ (c : List (List ℕ)). get_or c j []) cut
        ∙ chunk_is 8 k (part block 8 504) j [] (omega (arith, h.few, h.long))
        ∙ part_part block 8 504 (8 * j) 8 (omega (arith, h.few))
        ∙ ap (λ (l : List ℕ). part l (8 + 8 * j) 8) h.is
        ∙ part_part s (512 * b) 512 (8 + 8 * j) 8 (omega (arith, h.few))
        ∙ ap (λ (at : ℕ). part s at 8) there in
        ap (λ (l : List ℕ). event_fits codes n l 0) slot ∙ cut_fits codes n s (slot_at b j)

  -- and those that aren't
  pub unused_clear : {clear : Bool} (k : ℕ) → k ≡ 8 * (63 - count) → clear ≡ all_zero (part block (8 + 8 * count) k)
      → clear ≡ zeros s (slot_at b count) (8 * (63 - count))
  unused_clear k wide is =
      let there : 512 * b + (8 + 8 * count) ≡ slot_at b count = omega arith in
      clear_cut block (8 + 8 * count) (8 * (63 - count)) k wide is
      ∙ block_zeros s b h.is (8 + 8 * count) (8 * (63 - count)) (omega (arith, h.few))
      ∙ ap (λ (at : ℕ). zeros s at (8 * (63 - count))) there
