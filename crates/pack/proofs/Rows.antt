-- Blocks and stretches of events written one after the other: each starts where the one before it ends.
use Prim.Native.Nat.{ℕ, ◌+◌, ◌*◌, ◌≤◌, ◌<◌}
use mathlib.Core.Path.{◌≡◌, sym, ap, ap₂, ◌∙◌}
use mathlib.Core.List.{List, [], ◌++◌}
use native.Mathlib.Omega.{arith}
use lib.ListN.{length, get_or, take, drop, length-drop}
use lib.Seq.{get_or-take, length-take-le}
use Rattle.std.specs.Simd.{first_chunks}
use Rattle.machine.specs.Bytes.{part, splice}
use Rattle.machine.specs.Lists.{join, tabulate}
use Rattle.machine.specs.Tape.{slot_at, block_for}
use Rattle.machine.proofs.Laws.Bytes.{splice_next}
use Rattle.machine.proofs.Laws.Splices.{part_part, splice_none}
use Rattle.checksum.proofs.Pass.{chunk_at}
use Rattle.machine.proofs.Laws.Joined.{join_more, length_joined}
use Rattle.machine.proofs.Tapes.{length_block}
use Rattle.pack.specs.Pack.{width_in, taken_from}

-- before the first
pub joined_none : (s : List ℕ) (f : ℕ → List ℕ) → s ≡ splice s 0 (join (tabulate f 0 0))
unfolding join tabulate
joined_none s f = splice_none s 0

-- one more piece, behind pieces of one width
piece_more : (s : List ℕ) (f : ℕ → List ℕ) (w b : ℕ) → ((k : ℕ) → k < b → length (f k) ≡ w)
    → splice (splice s 0 (join (tabulate f 0 b))) (w * b) (f b) ≡ splice s 0 (join (tabulate f 0 (b + 1)))
piece_more s f w b wide =
    let before : w * b ≡ 0 + length (join (tabulate f 0 b)) =
    sym (length_joined f w 0 b (λ k low high. wide k (omega arith)))
    ∙ omega arith in
    let here : f b ≡ f (0 + b) = ap f (omega arith) in
    ap (λ (k : ℕ). splice (splice s 0 (join (tabulate f 0 b))) k (f b)) before
    ∙ splice_next s 0 (join (tabulate f 0 b)) (f b) (omega arith)
    ∙ ap (λ (l : List ℕ). splice s 0 (join (tabulate f 0 b) ++ l)) here
    ∙ ap (splice s 0) (sym (join_more f 0 b))

-- the events of a block, as the blocks of a tape are counted
pub block_at : (tape : List ℕ) (n k j used : ℕ) {whole : List (List ℕ)} → j < n → j < k → used ≤ 504
    → whole ≡ first_chunks 512 k tape
    → part (get_or (take n whole) j []) 8 used ≡ part tape (512 * j + 8) used
block_at tape n k j used {whole} few h some are =
    ap (λ (l : List ℕ). part l 8 used) (get_or-take n whole j [] few)
    ∙ rw (are, chunk_at 512 k tape j [] h) (part_part tape (512 * j) 512 8 used (omega arith))

-- one more block
pub packed_more : (list s : List ℕ) (b : ℕ) {t u : List ℕ} → t ≡ splice s 0 (join (tabulate (block_for list) 0 b))
    → u ≡ splice t (512 * b) (block_for list b) → u ≡ splice s 0 (join (tabulate (block_for list) 0 (b + 1)))
packed_more list s b e f =
    f ∙ ap (λ (l : List ℕ). splice l (512 * b) (block_for list b)) e
    ∙ piece_more s (block_for list) 512 b (λ k h. length_block list k)

-- one more stretch: those before it are full
pub taken_more : (tape s : List ℕ) (total b : ℕ) {used : ℕ} {t u : List ℕ} → 512 * b ≤ length tape
    → 504 * b ≤ total → used ≡ width_in total b → t ≡ splice s 0 (join (tabulate (taken_from tape total) 0 b))
    → u ≡ splice t (504 * b) (part tape (512 * b + 8) used)
    → u ≡ splice s 0 (join (tabulate (taken_from tape total) 0 (b + 1)))
taken_more tape s total b {used} room within is e f =
    let from : 512 * b + 8 ≡ slot_at b 0 = omega arith in
    let stretch : part tape (512 * b + 8) used ≡ taken_from tape total b = ap₂ (part tape) from is in
    f ∙ ap₂ (λ (l m : List ℕ). splice l (504 * b) m) e stretch
    ∙ piece_more s (taken_from tape total) 504 b full
  where
    full : (k : ℕ) → k < b → length (taken_from tape total k) ≡ 504
    full k h =
        let wide : width_in total k ≡ 504 = omega arith in
        ap (λ (w : ℕ). length (part tape (slot_at k 0) w)) wide
        ∙ length-take-le 504 (drop (slot_at k 0) tape) (rw (length-drop (slot_at k 0) tape) (omega arith))
