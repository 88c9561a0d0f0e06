-- One pass over a block's slots: what its sums are at the start and after each slot, and that the check comes out after
-- the last. Each of a slot's four words is summed over the slots, and these sums once more after every slot; four times
-- that counts a word too often by its place in its slot. The loop keeps this of the slots passed (Summed).
use Prim.Native.Nat.{ℕ, zero, suc, ◌+◌, ◌-◌, ◌*◌, ◌%◌, ◌≤◌, ◌<◌}
use mathlib.Core.Path.{◌≡◌, sym, ap, ap₂, ◌∙◌}
use mathlib.Core.List.{List, [], ◌++◌}
use native.Mathlib.Omega.{arith}
use lib.ListN.{length, get_or, take, drop, length-drop}
use lib.Seq.{get_or-drop, take_all, drop-drop, length-take-le}
use Rattle.std.specs.Simd.{first_chunks}
use Rattle.machine.specs.Bytes.{part, number, little_endian_of}
use Rattle.machine.specs.Tape.{words, check, covered}
use Rattle.machine.proofs.Laws.Splices.{part_part}
use Rattle.checksum.specs.declared.Column.{Column}
use Rattle.checksum.proofs.Sums.{total, weighed, one_remainder, total_on, weighed_on, total_more, weighed_more}
use Rattle.checksum.proofs.Sums.{total_none, weighed_none}
use Rattle.checksum.proofs.Words.{length_covered_words, word_front, word_slots}

-- ---- a block cut out of a tape, and its slots

-- the check of the block is that of its place
pub check_cut : (s : List ℕ) (b k : ℕ) {block : List ℕ} {sum : ℕ} → k ≡ 512 → block ≡ part s (512 * b) k
    → sum ≡ check (covered block 0)
    → sum ≡ check (covered s b)
unfolding covered
check_cut s b k wide is sums =
    let e : 512 * b + 0 ≡ 512 * b = omega arith in
    sums ∙ ap check
    (rw (is, wide)
    (ap₂ ◌++◌ (part_part s (512 * b) 512 0 4 (omega arith) ∙ ap (λ (k : ℕ). part s k 4) e)
    (part_part s (512 * b) 512 8 504 (omega arith))))

-- chunk j of some bytes
pub chunk_at : (w k : ℕ) (s : List ℕ) (j : ℕ) (d : List ℕ) → j < k → get_or (first_chunks w k s) j d ≡ part s (w * j) w
chunk_at w zero s j d h = absurd (omega arith)
chunk_at w (suc k) s zero d h = let e : w * 0 ≡ 0 = omega arith in rw e
chunk_at w (suc k) s (suc j) d h =
    let there : w * suc j ≡ w + w * j = omega arith in
    chunk_at w k (drop w s) j d (omega arith) ∙ rw (there, drop-drop (w * j) w s)

-- the bytes of a block's 63 slots
pub length_slot_bytes : (s : List ℕ) → length s ≡ 512 → length (part s 8 504) ≡ 504
length_slot_bytes s room = length-take-le 504 (drop 8 s) (rw (length-drop 8 s) (omega arith))

-- a word in slot j
pub slot_number : (s : List ℕ) (j at k : ℕ) {slots : List (List ℕ)} {x : ℕ} → at + 2 ≤ 8 → j < 63 → j < k
    → slots ≡ first_chunks 8 k (part s 8 504)
    → x ≡ number (get_or slots j []) at 2
    → x ≡ number s (8 + 8 * j + at) 2
unfolding number
slot_number s j at k inside few h are is =
    is ∙ ap little_endian_of
    (rw (are, chunk_at 8 k (part s 8 504) j [] h, part_part s 8 504 (8 * j) 8 (omega arith))
    (part_part s (8 + 8 * j) 8 at 2 inside))

-- ---- the words

-- the words that the block's check covers, those of its slots, and those of its slots before slot j
abbrev words_of : List ℕ → List ℕ
words_of s = words (covered s 0)

abbrev slot_words : List ℕ → List ℕ
slot_words s = drop 2 (words_of s)

abbrev before : List ℕ → ℕ → List ℕ
before s j = take (4 * j) (slot_words s)

-- ---- the sums

-- after j slots no sum is wide
pub record Narrow (j : ℕ) (v : Column) : Type 0 where
  pub sum : v.sum ≤ 65535 * j
  pub sums : v.sums ≤ 4128705 * j

pub narrow_none : {v : Column} → v ≡ record { sum = 0; sums = 0 } → Narrow 0 v
narrow_none is = rw is (record { sum = omega arith; sums = omega arith })

pub narrow_more : {j w : ℕ} {v u : Column} → j < 63 → w < 65536 → Narrow j v
    → u ≡ record { sum = v.sum + w; sums = v.sums + (v.sum + w) } → Narrow (j + 1) u
narrow_more h small narrow is = rw is (record { sum = omega arith; sums = omega arith })

-- after j slots: the sum of each of a slot's four words, and the sum of these sums after each slot. Four times that
-- counts a word too often by its place in its slot
pub record Summed (s : List ℕ) (j : ℕ) (first second third fourth : Column) : Type 0 where
  pub summed : total (before s j) ≡ first.sum + second.sum + third.sum + fourth.sum
  pub counted : weighed (before s j) + (second.sum + 2 * third.sum + 3 * fourth.sum)
      ≡ 4 * (first.sums + second.sums + third.sums + fourth.sums)

pub none_summed : (s : List ℕ) {first second third fourth : Column} → first ≡ record { sum = 0; sums = 0 }
    → second ≡ record { sum = 0; sums = 0 } → third ≡ record { sum = 0; sums = 0 }
    → fourth ≡ record { sum = 0; sums = 0 } → Summed s 0 first second third fourth
none_summed s one two three four =
    rw (one, two, three, four)
    (record { summed = total_none (slot_words s); counted = omega (arith, weighed_none (slot_words s)) })

module _ (s : List ℕ) (room : length s ≡ 512) where
  length_slots : length (slot_words s) ≡ 252
  length_slots = length-drop 2 (words_of s) ∙ omega (arith, length_covered_words s 0 (omega arith))

  slot_word : (k at : ℕ) → k < 252 → at ≡ 8 + 2 * k → get_or (slot_words s) k 0 ≡ number s at 2
  slot_word k at h is =
      get_or-drop 2 (words_of s) k 0 ∙ word_slots s 0 (omega arith) k h ∙ ap (λ (m : ℕ). number s m 2) (sym is)

  -- one slot more
  module _ {j w x y z : ℕ} (h : j < 63) (one : w ≡ number s (8 + 8 * j + 0) 2) (two : x ≡ number s (8 + 8 * j + 2) 2)
      (three : y ≡ number s (8 + 8 * j + 4) 2) (four : z ≡ number s (8 + 8 * j + 6) 2) where
    pub slot_summed : {a b c d p q r t : Column} → Summed s j a b c d
        → p ≡ record { sum = a.sum + w; sums = a.sums + (a.sum + w) }
        → q ≡ record { sum = b.sum + x; sums = b.sums + (b.sum + x) }
        → r ≡ record { sum = c.sum + y; sums = c.sums + (c.sum + y) }
        → t ≡ record { sum = d.sum + z; sums = d.sums + (d.sum + z) }
        → Summed s (j + 1) p q r t
    slot_summed u is_p is_q is_r is_t =
        let vs = slot_words s in
        let long = length_slots in
        let k = 4 * j in
        let at = 8 + 8 * j in
        let w₀ = slot_word k (at + 0) (omega arith) (omega arith) in
        let w₁ = slot_word (k + 1) (at + 2) (omega arith) (omega arith) in
        let w₂ = slot_word (k + 2) (at + 4) (omega arith) (omega arith) in
        let w₃ = slot_word (k + 3) (at + 6) (omega arith) (omega arith) in
        let t₁ = total_more vs k (k + 1) (omega arith) (omega arith) in
        let t₂ = total_more vs (k + 1) (k + 2) (omega arith) (omega arith) in
        let t₃ = total_more vs (k + 2) (k + 3) (omega arith) (omega arith) in
        let t₄ = total_more vs (k + 3) (4 * (j + 1)) (omega arith) (omega arith) in
        let v₁ = weighed_more vs k (k + 1) (omega arith) (omega arith) in
        let v₂ = weighed_more vs (k + 1) (k + 2) (omega arith) (omega arith) in
        let v₃ = weighed_more vs (k + 2) (k + 3) (omega arith) (omega arith) in
        let v₄ = weighed_more vs (k + 3) (4 * (j + 1)) (omega arith) (omega arith) in
        rw (is_p, is_q, is_r, is_t) (record { summed = omega arith; counted = omega arith })

  -- the block's number and count
  module _ {first second : ℕ} (one : first ≡ number s 0 2) (two : second ≡ number s 2 2) where
    front : (get_or (words_of s) 0 0 ≡ first) × (get_or (words_of s) 1 0 ≡ second)
    front = (
      word_front s 0 (omega arith) 0 (omega arith) ∙ sym one,
      word_front s 0 (omega arith) 1 (omega arith) ∙ sym two,
    )

    total_front : first + second + total (slot_words s) ≡ total (words_of s)
    total_front =
        let ws = words_of s in
        let long = length_covered_words s 0 (omega arith) in
        omega (arith, total_on ws 0 (omega arith), total_on ws 1 (omega arith), front.0, front.1)

    weighed_front : 254 * first + 253 * second + weighed (slot_words s) ≡ weighed (words_of s)
    weighed_front =
        let ws = words_of s in
        let long = length_covered_words s 0 (omega arith) in
        let p : (length ws - 0) * get_or ws 0 0 ≡ 254 * first =
        ap₂ (λ (x y : ℕ). (x - 0) * y) long front.0 in
        let q : (length ws - 1) * get_or ws 1 0 ≡ 253 * second =
        ap₂ (λ (x y : ℕ). (x - 1) * y) long front.1 in
        omega (arith, weighed_on ws 0 (omega arith), weighed_on ws 1 (omega arith), p, q)

    -- after the last slot
    pub sums_check : {j : ℕ} {a b c d : Column} → j ≡ 63 → Summed s j a b c d
        → (first + second + a.sum + b.sum + c.sum + d.sum) % 65535
        + 65536
        * ((254 * first + 253 * second + 4 * (a.sums + b.sums + c.sums + d.sums)
        - (b.sum + 2 * c.sum + 3 * d.sum)) % 65535)
        ≡ check (covered s 0)
    sums_check {j} all u =
        let whole : before s j ≡ slot_words s = take_all (4 * j) (slot_words s) (omega (arith, length_slots)) in
        let summed = ap total whole in
        let counted = ap weighed whole in
        let one_more = total_front in
        let often_more = weighed_front in
        ap₂ (λ (x y : ℕ). x % 65535 + 65536 * (y % 65535)) (omega arith) (omega arith)
        ∙ sym (one_remainder (words_of s))
