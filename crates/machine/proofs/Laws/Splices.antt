-- Parts of a buffer beside what is written over it, and splices apart from each other: either may come first.
use Prim.Native.Nat.{ℕ, zero, suc, ◌+◌, ◌-◌, ◌≤◌}
use mathlib.Core.Path.{◌≡◌, refl, sym, ap, ap₂, ◌∙◌}
use mathlib.Core.List.{List, [], ◌∷◌, ◌++◌}
use native.Mathlib.Omega.{arith}
use lib.ListN.{length, take, drop, length-drop, take-append-drop}
use lib.Seq.{take-append-le, drop-append-le, drop-append-add, drop_at, take-append_seam, length-take-le, take-take}
use lib.Seq.{drop-drop}
use Rattle.machine.specs.Bytes.{part, splice}
use Rattle.machine.proofs.Laws.Bytes.{splice_right, splice_whole}

-- ---- parts

-- of the first bytes
part_of_first : (s : List ℕ) (w at v : ℕ) → at + v ≤ w → part (take w s) at v ≡ part s at v
part_of_first s w zero v h = take-take v w s (omega arith)
part_of_first s zero (suc at) v h = absurd (omega arith)
part_of_first [] (suc w) (suc at) v h = refl
part_of_first (x ∷ s) (suc w) (suc at) v h = part_of_first s w at v (omega arith)

-- of a part
pub part_part : (s : List ℕ) (x w at v : ℕ) → at + v ≤ w → part (part s x w) at v ≡ part s (x + at) v
part_part s x w at v h = part_of_first (drop x s) w at v h ∙ ap (take v) (drop-drop at x s)

-- of the first of two lists
pub part_front : (a b : List ℕ) (at v : ℕ) → at + v ≤ length a → part (a ++ b) at v ≡ part a at v
part_front a b at v h =
    rw (drop-append-le at a b (omega arith))
    (take-append-le v (drop at a) b (rw (length-drop at a) (omega arith)))

module _ (s : List ℕ) (at : ℕ) (bs : List ℕ) (h : at ≤ length s) where
  long : length (take at s) ≡ at
  long = length-take-le at s h

  -- before what is written
  pub part_before : (k w : ℕ) → k + w ≤ at → part (splice s at bs) k w ≡ part s k w
  unfolding splice
  part_before k w before =
      part_front (take at s) (bs ++ drop (at + length bs) s) k w (omega (arith, long))
      ∙ part_of_first s at k w before

  -- just what is written
  pub part_written : part (splice s at bs) at (length bs) ≡ bs
  unfolding splice
  part_written =
      let rest = drop (at + length bs) s in
      ap (take (length bs)) (drop_at (take at s) (bs ++ rest) at long) ∙ take-append_seam bs rest

-- ---- splices

-- the first over q, the second somewhere in r
apart : (p q r a b : List ℕ) (m : ℕ) → length a ≡ length q
    → splice (splice (p ++ (q ++ r)) (length p + (length q + m)) b) (length p + 0) a
    ≡ splice (splice (p ++ (q ++ r)) (length p + 0) a) (length p + (length q + m)) b
apart p q r a b m same =
    let there : length p + (length q + m) ≡ length p + (length a + m) = omega arith in
    rw (
      splice_right p (q ++ r) (length q + m) b,
      splice_right q r m b,
      splice_right p (q ++ splice r m b) 0 a,
      splice_whole q (splice r m b) a same,
      splice_right p (q ++ r) 0 a,
      splice_whole q r a same,
      there,
      splice_right p (a ++ r) (length a + m) b,
      splice_right a r m b,
    )

pub splice_apart : (s : List ℕ) (at : ℕ) (a : List ℕ) (k : ℕ) (b : List ℕ) → at + length a ≤ k → k ≤ length s
    → splice (splice s k b) at a ≡ splice (splice s at a) k b
splice_apart s at a k b before within =
    let p = take at s in
    let q = take (length a) (drop at s) in
    let r = drop (length a) (drop at s) in
    let m = k - (at + length a) in
    let long_p : length p ≡ at = length-take-le at s (omega arith) in
    let long_q : length q ≡ length a =
    length-take-le (length a) (drop at s) (rw (length-drop at s) (omega arith)) in
    let whole : s ≡ p ++ (q ++ r) =
    sym (ap (λ (l : List ℕ). p ++ l) (take-append-drop (length a) (drop at s)) ∙ take-append-drop at s) in
    let here : at ≡ length p + 0 = omega arith in
    let there : k ≡ length p + (length q + m) = omega arith in
    ap (λ (l : List ℕ). splice (splice l k b) at a) whole
    ∙ ap₂ (λ (i j : ℕ). splice (splice (p ++ (q ++ r)) j b) i a) here there
    ∙ apart p q r a b m (sym long_q)
    ∙ sym (ap₂ (λ (i j : ℕ). splice (splice (p ++ (q ++ r)) i a) j b) here there)
    ∙ sym (ap (λ (l : List ℕ). splice (splice l at a) k b) whole)

-- nothing is written
pub splice_none : (s : List ℕ) (at : ℕ) → s ≡ splice s at []
unfolding splice
splice_none s at = let e : at + 0 ≡ at = omega arith in rw e (sym (take-append-drop at s))

-- what stands there is written again
pub splice_part : (s : List ℕ) (at w : ℕ) → at + w ≤ length s → s ≡ splice s at (part s at w)
unfolding splice
splice_part s at w h =
    let wide : length (part s at w) ≡ w = length-take-le w (drop at s) (rw (length-drop at s) (omega arith)) in
    rw (wide, ← drop-drop w at s, take-append-drop w (drop at s)) (sym (take-append-drop at s))

-- behind what is written
drop_behind : (s : List ℕ) (at : ℕ) (bs : List ℕ) (k : ℕ) → at ≤ length s → at + length bs ≤ k
    → drop k (splice s at bs) ≡ drop k s
unfolding splice
drop_behind s at bs k h behind =
    let j = k - (at + length bs) in
    let rest = drop (at + length bs) s in
    let here : k ≡ length (take at s) + (length bs + j) = omega (arith, length-take-le at s h) in
    let there : at + length bs + j ≡ k = omega arith in
    ap (λ (m : ℕ). drop m (take at s ++ (bs ++ rest))) here
    ∙ drop-append-add (take at s) (bs ++ rest) (length bs + j)
    ∙ drop-append-add bs rest j
    ∙ drop-drop j (at + length bs) s
    ∙ ap (λ (m : ℕ). drop m s) there

-- what is written over is lost
pub splice_over : (s : List ℕ) (at k : ℕ) (a b : List ℕ) → k + length a ≤ length b → at + length b ≤ length s
    → splice (splice s (at + k) a) at b ≡ splice s at b
unfolding splice
splice_over s at k a b inside room =
    ap₂ (λ (l m : List ℕ). l ++ (b ++ m)) (part_before s (at + k) a (omega arith) 0 at (omega arith))
    (drop_behind s (at + k) a (at + length b) (omega arith) (omega arith))
