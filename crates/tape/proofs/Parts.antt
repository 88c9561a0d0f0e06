-- Parts of joins of pieces of one width: what stands at an offset of one piece stands at that offset behind the pieces
-- before it. Where two buffers have the same bytes, they have the same parts, bytes and events there.
use Prim.Native.Nat.{ℕ, zero, suc, ◌+◌, ◌-◌, ◌*◌, ◌≤◌, ◌<◌}
use mathlib.Core.Path.{◌≡◌, sym, ap, ◌∙◌}
use mathlib.Core.List.{List, ◌++◌, append-nil}
use native.Mathlib.Omega.{arith}
use lib.ListN.{length, get_or, take, drop}
use lib.Seq.{take_all, take_at, drop-append-add}
use lib.Seq.{get_or-take, get_or-drop}
use Rattle.machine.specs.Bytes.{part, number, zeros}
use Rattle.machine.specs.Lists.{tabulate, join}
use Rattle.machine.specs.Tape.{event_in}
use Rattle.machine.specs.Refusals.{event_fits}
use Rattle.machine.proofs.Laws.Splices.{part_part}
use Rattle.machine.proofs.Image.Rewrite.{part_add}

-- ---- pieces of one width, the last perhaps shorter, one after the other

-- the first of them
part_first : (f : ℕ → List ℕ) (w i n : ℕ) → (1 ≤ n → length (f i) ≡ w) → length (f i) ≤ w
    → take w (f i ++ join (tabulate f (i + 1) n)) ≡ f i
unfolding join tabulate
part_first f w i zero full most = rw (append-nil (f i)) (take_all w (f i) most)
part_first f w i (suc n) full most = take_at (f i) (join (tabulate f (i + 1) (suc n))) w (full (omega arith))

-- piece k
pub part_joined : (f : ℕ → List ℕ) (w i n k : ℕ) → ((b : ℕ) → i ≤ b → b + 1 < i + n → length (f b) ≡ w)
    → ((b : ℕ) → i ≤ b → b < i + n → length (f b) ≤ w) → k < n → part (join (tabulate f i n)) (w * k) w ≡ f (i + k)
unfolding join tabulate
part_joined f w i zero k full most h = absurd (omega arith)
part_joined f w i (suc n) zero full most h =
    let none : w * 0 ≡ 0 = omega arith in
    let here : i + 0 ≡ i = omega arith in
    rw (none, here)
    (part_first f w i n (λ some. full i (omega arith) (omega arith)) (most i (omega arith) (omega arith)))
part_joined f w i (suc n) (suc k) full most h =
    let rest = join (tabulate f (i + 1) n) in
    let wide : length (f i) ≡ w = full i (omega arith) (omega arith) in
    let past : w * suc k ≡ length (f i) + w * k = omega arith in
    let there : i + 1 + k ≡ i + suc k = omega arith in
    rw (past, drop-append-add (f i) rest (w * k), ← there)
    (part_joined f w (i + 1) n k (λ b low high. full b (omega arith) (omega arith))
    (λ b low high. most b (omega arith) (omega arith)) (omega arith))

-- the parts of a buffer, joined
pub joined_parts : (s : List ℕ) (w i n : ℕ) → join (tabulate (λ b. part s (w * b) w) i n) ≡ part s (w * i) (w * n)
unfolding join tabulate
joined_parts s w i zero = let none : w * 0 ≡ 0 = omega arith in rw none
joined_parts s w i (suc n) =
    let more : w * suc n ≡ w + w * n = omega arith in
    let next : w * i + w ≡ w * (i + 1) = omega arith in
    rw (more, part_add s (w * i) w (w * n), next)
    (ap (λ (l : List ℕ). part s (w * i) w ++ l) (joined_parts s w (i + 1) n))

-- ---- two buffers with the same bytes, at one place or at two

-- a byte as a part
byte_part : (s : List ℕ) (k : ℕ) → get_or (part s k 1) 0 0 ≡ get_or s k 0
byte_part s k =
    get_or-take 1 (drop k s) 0 0 (omega arith) ∙ get_or-drop k s 0 0 ∙ ap (λ (m : ℕ). get_or s m 0) (omega arith)

module _ (s t : List ℕ) (at to w : ℕ) (same : part s at w ≡ part t to w) where
  -- what stands at k of the one stands at l of the other
  pub same_part : (k l v : ℕ) → at ≤ k → k + v ≤ at + w → k + to ≡ l + at → part s k v ≡ part t l v
  same_part k l v low high level =
      let j = k - at in
      let here : k ≡ at + j = omega arith in
      let there : l ≡ to + j = omega arith in
      let inside : j + v ≤ w = omega arith in
      rw (here, there, ← part_part s at w j v inside, same) (part_part t to w j v inside)

  pub same_byte : (k l : ℕ) → at ≤ k → k < at + w → k + to ≡ l + at → get_or s k 0 ≡ get_or t l 0
  same_byte k l low high level =
      sym (byte_part s k)
      ∙ ap (λ (p : List ℕ). get_or p 0 0) (same_part k l 1 low (omega arith) level)
      ∙ byte_part t l

-- 8 bytes are an event
module _ (s t : List ℕ) (at to : ℕ) (same : part s at 8 ≡ part t to 8) where
  first : get_or s at 0 ≡ get_or t to 0
  first = same_byte s t at to 8 same at to (omega arith) (omega arith) (omega arith)

  second : get_or s (at + 1) 0 ≡ get_or t (to + 1) 0
  second = same_byte s t at to 8 same (at + 1) (to + 1) (omega arith) (omega arith) (omega arith)

  later : (j v : ℕ) → j + v ≤ 8 → part s (at + j) v ≡ part t (to + j) v
  later j v h = same_part s t at to 8 same (at + j) (to + j) v (omega arith) (omega arith) (omega arith)

  pub same_event : event_in s at ≡ event_in t to
  unfolding event_in number
  same_event = rw (first, second, later 4 4 (omega arith))

  pub same_fits : (codes n : ℕ) → event_fits codes n s at ≡ event_fits codes n t to
  unfolding event_fits zeros
  same_fits codes n = rw (first, second, later 2 2 (omega arith), later 4 4 (omega arith))
