-- Stretches of bytes: what is written over a part is a splice, and bytes or-ed are none exactly when all are zero.
use Prim.Native.Nat.{ℕ, ◌+◌, ◌<◌}
use mathlib.Core.Path.{◌≡◌, sym, ap, ◌∙◌}
use mathlib.Core.List.{List, [], ◌∷◌, ◌++◌, append_assoc}
use mathlib.Core.Bool.{Bool, ◌&&◌, and-true, and_assoc}
use native.Mathlib.Omega.{arith}
use borrow.Rule.Slice.PartMut.{put_mid}
use lib.ListN.{length, get_or, set, take, drop, length-drop}
use lib.Seq.{sets-eq, drop-drop, length-take-le}
use Rattle.std.specs.List.{fold}
use lib.Bits.{bit_or}
use lib.Dec.{eqb}
use Rattle.machine.specs.Bytes.{part, all_zero, zeros, splice}
use Rattle.machine.proofs.Laws.Bytes.{length_splice, splice_next}
use Rattle.machine.proofs.Image.Rewrite.{part_add, part_more}
use Rattle.machine.proofs.Laws.Ored.{or_none}

-- ---- written

-- what is written over a part
pub put_splice : (at width : ℕ) (s : List ℕ) {t bs : List ℕ} → t ≡ bs → length bs ≡ width
    → put_mid at width s t ≡ splice s at bs
unfolding splice
put_splice at width s is long = rw (is, drop-drop width at s, long)

-- a store is a splice of one byte
store_splice : (s : List ℕ) (at x : ℕ) → at < length s → set s at x ≡ splice s at (x ∷ [])
unfolding splice
store_splice s at x h =
    sets-eq (x ∷ []) s at (omega arith) ∙ append_assoc (take at s) (x ∷ []) (drop (at + 1) s)

-- one byte more
pub splice_one : (s : List ℕ) (at : ℕ) (bs : List ℕ) (x : ℕ) → at + length bs < length s
    → set (splice s at bs) (at + length bs) x ≡ splice s at (bs ++ (x ∷ []))
splice_one s at bs x h =
    store_splice (splice s at bs) (at + length bs) x (rw (length_splice s at bs (omega arith)) h)
    ∙ splice_next s at bs (x ∷ []) (omega arith)

-- one byte more of another buffer
pub copy_more : (s : List ℕ) (at i : ℕ) → at + i < length s → (f : List ℕ) (k x : ℕ) → k + i < length f
    → x ≡ get_or f (k + i) 0
    → set (splice s at (part f k i)) (at + i) x ≡ splice s at (part f k (i + 1))
copy_more s at i h f k x g is =
    let long : length (part f k i) ≡ i = rw (length-take-le i (drop k f) (rw (length-drop k f) (omega arith))) in
    let here : at + i ≡ at + length (part f k i) = omega arith in
    rw (here, splice_one s at (part f k i) x (omega arith), is, part_add f k i 1, part_more f (k + i) 0 g)

-- ---- tested

-- bytes or-ed into what is or-ed already
pub ored_none : (bs : List ℕ) (any : ℕ) → eqb (fold bit_or any bs) 0 ≡ eqb any 0 && all_zero bs
unfolding all_zero
ored_none [] any = sym (and-true (eqb any 0))
ored_none (b ∷ bs) any =
    ored_none bs (bit_or any b)
    ∙ rw (or_none any b) (and_assoc (eqb any 0) (eqb b 0) (all_zero bs))

-- what is tested of a part
pub clear_cut : (s : List ℕ) (at width k : ℕ) {clear : Bool} → k ≡ width → clear ≡ all_zero (part s at k)
    → clear ≡ zeros s at width
unfolding zeros
clear_cut s at width k wide is = is ∙ ap (λ (n : ℕ). all_zero (part s at n)) wide
