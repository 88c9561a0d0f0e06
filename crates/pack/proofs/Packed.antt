-- A block sealed in four stores, number, count, zeros behind its events, and the check of all these, is the rule's
-- block: the stores lie apart, and the check is taken of what the rule covers. A store is a splice; splices one after
-- the other are one, and those apart from each other may be made in either order (machine/proofs/Laws/Splices).
use Prim.Native.Nat.{ℕ, ◌+◌, ◌-◌, ◌*◌, ◌/◌, ◌≤◌, ◌<◌}
use mathlib.Core.Path.{◌≡◌, sym, ap, ap₂, ◌∙◌}
use mathlib.Core.Logic.{◌⊎◌, inl, inr}
use mathlib.Core.List.{List, [], ◌++◌, append_assoc}
use native.Mathlib.Omega.{arith}
use borrow.Rule.Slice.PartMut.{put_mid}
use lib.ListN.{length, take, drop, replicate, length-drop, length-append}
use lib.Seq.{take_all, length-take-le}
use Rattle.std.proofs.lemmas.List.{append-nil}
use Rattle.machine.specs.Bytes.{part, bytes, splice}
use Rattle.machine.specs.Tape.{check, covered, block_bytes, slots_for, padded, block_for}
use Rattle.machine.proofs.Laws.Bytes.{lt_or_ge, length_bytes, length_splice, splice_next, splice_whole}
use Rattle.machine.proofs.Laws.Splices.{part_part, part_before, part_written, splice_apart, splice_part}
use Rattle.machine.proofs.Laws.Splices.{splice_over}
use Rattle.machine.proofs.Tapes.{length_slots, slots_most, length_padded, length_block}
use Rattle.little_endian.proofs.Laws.{stores_both}
use Rattle.span.proofs.Laws.{put_splice}
use Rattle.pack.specs.Pack.{width_in}

-- the events of a block, by their width
pub slots_part : (list : List ℕ) (b : ℕ) → part list (504 * b) (width_in (length list) b) ≡ slots_for list b
unfolding slots_for
slots_part list b = go (lt_or_ge (length list - 504 * b) 504)
  where
    rest : List ℕ
    rest = drop (504 * b) list

    go : (length list - 504 * b < 504) ⊎ (504 ≤ length list - 504 * b)
        → take (width_in (length list) b) rest ≡ take 504 rest
    go (inl few) =
        let long = length-drop (504 * b) list in
        take_all (width_in (length list) b) rest (omega arith) ∙ sym (take_all 504 rest (omega arith))
    go (inr many) = let wide : width_in (length list) b ≡ 504 = omega arith in rw wide

-- a whole buffer, written over
splice_all : (s bs : List ℕ) → length bs ≡ length s → splice s 0 bs ≡ bs
splice_all s bs e =
    ap (λ (l : List ℕ). splice l 0 bs) (sym (append-nil s)) ∙ splice_whole s [] bs e ∙ append-nil bs

-- ---- a block sealed round the events that stand in its slots

module _ (t : List ℕ) (number used : ℕ) (some : used ≤ 504) (room : length t ≡ 512) where
  abbrev head : List ℕ
  head = bytes 2 number ++ bytes 2 (used / 8)

  four : length head ≡ 4
  four = simp (length-append, length_bytes)

  abbrev events : List ℕ
  events = part t 8 used

  abbrev zeros : List ℕ
  zeros = replicate (504 - used) 0

  abbrev slots : List ℕ
  slots = padded events

  wide : length events ≡ used
  wide = length-take-le used (drop 8 t) (rw (length-drop 8 t) (omega arith))

  full : length slots ≡ 504
  full = length_padded events (omega (arith, wide))

  abbrev headed : List ℕ
  headed = splice t 0 head

  same : length headed ≡ 512
  same = length_splice t 0 head (omega (arith, four)) ∙ room

  -- all but the check
  abbrev unsealed : List ℕ
  unsealed = splice headed 8 slots

  -- with number and count before them the events stand as they stood, and zeros behind them make them the slots
  zeros_behind : splice headed (8 + used) zeros ≡ unsealed
  unfolding padded
  zeros_behind =
      let there : headed ≡ splice headed 8 events =
      ap (λ (l : List ℕ). splice l 0 head) (splice_part t 8 used (omega arith))
      ∙ splice_apart t 0 head 8 events (omega (arith, four)) (omega arith) in
      let behind : 8 + used ≡ 8 + length events = omega (arith, wide) in
      let left : 504 - used ≡ 504 - length events = omega (arith, wide) in
      ap₂ (λ (l : List ℕ) (k : ℕ). splice l k zeros) there behind
      ∙ splice_next headed 8 events zeros (omega (arith, same))
      ∙ ap (λ (k : ℕ). splice headed 8 (events ++ replicate k 0)) left

  covers : covered unsealed 0 ≡ head ++ slots
  unfolding covered
  covers =
      ap₂ (λ (x y : List ℕ). x ++ y)
      (part_before headed 8 slots (omega (arith, same)) 0 4 (omega arith)
      ∙ ap (part headed 0) (sym four) ∙ part_written t 0 head (omega arith))
      (ap (part unsealed 8) (sym full) ∙ part_written headed 8 slots (omega (arith, same)))

  -- with the check it is the rule's block, from end to end
  sealed : splice unsealed 4 (bytes 4 (check (covered unsealed 0))) ≡ block_bytes number (used / 8) slots
  unfolding block_bytes
  sealed =
      let seal : List ℕ = bytes 4 (check (head ++ slots)) in
      let long : length seal ≡ 4 = length_bytes 4 (check (head ++ slots)) in
      let at : 4 ≡ 0 + length head = omega (arith, four) in
      let there : 8 ≡ 0 + length (head ++ seal) = omega (arith, four, length-append head seal) in
      let all : length ((head ++ seal) ++ slots) ≡ length t =
      omega (arith, four, full, length-append head seal, length-append (head ++ seal) slots) in
      rw covers
      (splice_apart headed 4 seal 8 slots (omega arith) (omega (arith, same))
      ∙ ap (λ (k : ℕ). splice (splice headed k seal) 8 slots) at
      ∙ ap (λ (l : List ℕ). splice l 8 slots) (splice_next t 0 head seal (omega arith))
      ∙ ap (λ (k : ℕ). splice (splice t 0 (head ++ seal)) k slots) there
      ∙ splice_next t 0 (head ++ seal) slots (omega arith)
      ∙ splice_all t ((head ++ seal) ++ slots) all
      ∙ append_assoc head seal slots)

  -- as the stores are made, one after the other
  pub block_sealed : {one two three block four : List ℕ} {sum : ℕ} → one ≡ splice t 0 (bytes 2 number)
      → two ≡ splice one 2 (bytes 2 (used / 8)) → three ≡ splice two (8 + used) zeros
      → block ≡ three → sum ≡ check (covered block 0) → four ≡ splice three 4 (bytes 4 sum)
      → four ≡ block_bytes number (used / 8) slots
  block_sealed d e f is g h =
      let behind : 2 ≡ 0 + length (bytes 2 number) = omega (arith, length_bytes 2 number) in
      let start = stores_both t 0 2 (bytes 2 number) (bytes 2 (used / 8)) (omega arith) behind d e in
      let whole = f ∙ ap (λ (l : List ℕ). splice l (8 + used) zeros) start ∙ zeros_behind in
      h ∙ ap₂ (λ (l : List ℕ) (m : ℕ). splice l 4 (bytes 4 m)) whole
      (g ∙ ap (λ (l : List ℕ). check (covered l 0)) (is ∙ whole)) ∙ sealed

length_block_bytes : (number count : ℕ) (slots : List ℕ) → length slots ≡ 504
    → length (block_bytes number count slots) ≡ 512
unfolding block_bytes
length_block_bytes number count slots full = simp (length-append, length_bytes) (omega (arith, full))

-- a block of a tape, sealed
pub sealed_at : (t : List ℕ) (at number used k : ℕ) {block : List ℕ} → used ≤ 504 → at + 512 ≤ length t → k ≡ 512
    → block ≡ block_bytes number (used / 8) (padded (part (part t at k) 8 used))
    → put_mid at k t block ≡ splice t at (block_bytes number (used / 8) (padded (part t (at + 8) used)))
sealed_at t at number used k some room wide is =
    let events = part t (at + 8) used in
    let same : part (part t at k) 8 used ≡ events = part_part t at k 8 used (omega arith) in
    let long : length events ≡ used =
    length-take-le used (drop (at + 8) t) (rw (length-drop (at + 8) t) (omega arith)) in
    put_splice at k t (is ∙ ap (λ (l : List ℕ). block_bytes number (used / 8) (padded l)) same)
    (length_block_bytes number (used / 8) (padded events) (length_padded events (omega (arith, long))) ∙ sym wide)

-- ---- a list's events laid into a block first

-- sealed round them
pub block_filled : (t events : List ℕ) (number : ℕ) {one two : List ℕ} → 8 ≤ length t
    → one ≡ splice t 8 events
    → two ≡ block_bytes number (length events / 8) (padded (part one 8 (length events)))
    → two ≡ block_bytes number (length events / 8) (padded events)
block_filled t events number room laid sealed =
    sealed
    ∙ ap (λ (l : List ℕ). block_bytes number (length events / 8) (padded l))
    (ap (λ (l : List ℕ). part l 8 (length events)) laid ∙ part_written t 8 events room)

-- so a block of a list's tape, in its place
pub block_made : (list : List ℕ) (b k : ℕ) {block : List ℕ} → k ≡ width_in (length list) b
    → block ≡ block_bytes b (length (part list (504 * b) k) / 8) (padded (part list (504 * b) k))
    → (t : List ℕ) (w : ℕ) → w ≡ 512
    → put_mid (512 * b) w t block ≡ splice t (512 * b) (block_for list b)
unfolding block_for
block_made list b k is made t w wide =
    let events : part list (504 * b) k ≡ slots_for list b = ap (part list (504 * b)) is ∙ slots_part list b in
    put_splice (512 * b) w t (made ∙ ap (λ (l : List ℕ). block_bytes b (length l / 8) (padded l)) events)
    (length_block list b ∙ sym wide)

-- ---- a list's events laid into a tape's slots first

module _ (list : List ℕ) (b : ℕ) where
  -- sealed round a list's events it is the list's block, which lies over them
  pub block_packed : (t : List ℕ) {used : ℕ} {one two : List ℕ} → 512 * b + 512 ≤ length t
      → used ≡ width_in (length list) b
      → one ≡ splice t (512 * b + 8) (part list (504 * b) used)
      → two ≡ splice one (512 * b) (block_bytes b (used / 8) (padded (part one (512 * b + 8) used)))
      → two ≡ splice t (512 * b) (block_for list b)
  unfolding block_for
  block_packed t {used} room is laid sealed =
      let events = slots_for list b in
      let long : length events ≡ used = length_slots list b ∙ sym is in
      let most = slots_most list b in
      let stretch : part list (504 * b) used ≡ events = ap (part list (504 * b)) is ∙ slots_part list b in
      let there = laid ∙ ap (splice t (512 * b + 8)) stretch in
      let back = part_written t (512 * b + 8) events (omega arith) in
      sealed
      ∙ rw (there, ← long, back)
      (splice_over t (512 * b) 8 events (block_for list b) (omega (arith, length_block list b))
      (omega (arith, length_block list b)))
