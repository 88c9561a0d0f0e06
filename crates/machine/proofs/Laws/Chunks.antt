-- A list in chunks of n elements: which of them is where in it.
use Prim.Native.Nat.{ℕ, zero, suc, ◌+◌, ◌*◌, ◌/◌, ◌<◌, ◌≤◌}
use mathlib.Core.Path.{◌≡◌, refl, ap, ◌∙◌}
use mathlib.Core.List.{List, [], ◌∷◌, ◌++◌}
use native.Mathlib.Omega.{arith}
use lib.ListN.{length, get_or, take, drop, length-take}
use lib.Seq.{drop-drop, take-take, get_or-take, get_or-drop}
use Rattle.std.specs.Simd.{first_chunks}
use Rattle.machine.specs.Bytes.{part, little_endian_of, number}
use Rattle.machine.specs.Tape.{event_in}
use Rattle.machine.proofs.Laws.Splices.{part_part}

-- as many as were asked for
pub length_chunks : {X : Type 0} (n k : ℕ) (s : List X) → length (first_chunks n k s) ≡ k
length_chunks n zero s = refl
length_chunks n (suc k) s = ap suc (length_chunks n k (drop n s))

-- chunk i starts behind i others
pub chunk_is : {X : Type 0} (n k : ℕ) (s : List X) (i : ℕ) (d : List X) → i < k
    → get_or (first_chunks n k s) i d ≡ take n (drop (n * i) s)
chunk_is n zero s i d h = absurd (omega arith)
chunk_is n (suc k) s zero d h = let none : n * 0 ≡ 0 = omega arith in rw none
chunk_is n (suc k) s (suc i) d h =
    let more : n + n * i ≡ n * suc i = omega arith in
    chunk_is n k (drop n s) i d (omega arith) ∙ ap (take n) (drop-drop (n * i) n s ∙ ap (λ (j : ℕ). drop j s) more)

-- one chunk more
pub chunks_more : {X : Type 0} (n k : ℕ) (s : List X)
    → first_chunks n (suc k) s ≡ first_chunks n k s ++ (take n (drop (n * k) s) ∷ [])
chunks_more n zero s = let none : n * 0 ≡ 0 = omega arith in rw none
chunks_more {X} n (suc k) s =
    let more : n + n * k ≡ n * suc k = omega arith in
    ap (λ (l : List (List X)). take n s ∷ l) (chunks_more n k (drop n s) ∙ rw (drop-drop (n * k) n s, more))

-- the number in a chunk of 8
pub chunk_number : (s : List ℕ) (at : ℕ) → number (part s at 8) 0 8 ≡ number s at 8
unfolding number
chunk_number s at = ap little_endian_of (take-take 8 8 (drop at s) (omega arith))

-- chunk i of a part that is cut into chunks of 8
pub chunk_in : (s : List ℕ) (at width : ℕ) {chunks : List (List ℕ)}
    → chunks ≡ first_chunks 8 (length (part s at width) / 8) (part s at width) → (i : ℕ) → i < length chunks
    → get_or chunks i [] ≡ part s (at + 8 * i) 8
chunk_in s at width {chunks} cut i h =
    let m = length (part s at width) / 8 in
    let all : length chunks ≡ m = ap length cut ∙ length_chunks 8 m (part s at width) in
    let most : length (part s at width) ≤ width = omega (arith, length-take width (drop at s)) in
    rw cut
    (chunk_is 8 m (part s at width) i [] (omega arith) ∙ part_part s at width (8 * i) 8 (omega arith))

-- a byte of a part
part_byte : (s : List ℕ) (at width k : ℕ) → k < width → get_or (part s at width) k 0 ≡ get_or s (at + k) 0
part_byte s at width k h = get_or-take width (drop at s) k 0 h ∙ get_or-drop at s k 0

-- the event in a chunk of 8
pub chunk_event : (s : List ℕ) (at : ℕ) → event_in (part s at 8) 0 ≡ event_in s at
unfolding event_in number
chunk_event s at =
    let here : at + 0 ≡ at = omega arith in
    rw (
      part_byte s at 8 0 (omega arith),
      here,
      part_byte s at 8 1 (omega arith),
      part_part s at 8 4 4 (omega arith),
    )
