-- Events drawn one after the other are the load's: each is the first of a load from the number drawn last, and a load
-- from there goes on with the seed's. A block's events are so the stretch of the list that the writer puts into it.
use Prim.Native.Nat.{ℕ, ◌+◌, ◌*◌, ◌/◌, ◌%◌, ◌≤◌, ◌<◌}
use mathlib.Core.Path.{◌≡◌, sym, ap, ap₂, ◌∙◌}
use mathlib.Core.Bool.{cond}
use mathlib.Core.List.{List, [], append-nil}
use native.Mathlib.Omega.{arith}
use native.Mathlib.Nat.{mul-add-mod_self_left, mod-eq_of_lt, mod-lt}
use borrow.Rule.Slice.PartMut.{put_mid}
use lib.ListN.{length, drop, length-drop}
use lib.Seq.{length-take-le, drop-drop}
use Rattle.std.proofs.lemmas.List.{drop_all}
use lib.Dec.{eqb}
use borrow.Author.Tests.{eq-eqb, ne_eqb}
use Rattle.machine.specs.Bytes.{part, splice}
use Rattle.machine.specs.Lists.{tabulate}
use Rattle.machine.specs.Events.{Event}
use Rattle.machine.specs.Tape.{event_bytes, list_bytes, block_bytes, padded, block_for}
use Rattle.machine.specs.Load.{next, drawn, event_by, load_event, load_events}
use Rattle.machine.proofs.Laws.Bytes.{splice_next}
use Rattle.machine.proofs.Laws.Splices.{splice_none}
use Rattle.machine.proofs.Loads.{drawn_on, event_on, events_on_lem, length_list_bytes, list_bytes_more, part_list_bytes}
use Rattle.machine.proofs.Loads.{length_load}
use Rattle.pack.specs.Pack.{width_in}
use Rattle.pack.proofs.Packed.{block_packed}

-- ---- a number

-- what the modulus leaves of a product
pub left_over_lem : (product q rest : ℕ) → product ≡ 2147483647 * q + rest → rest ≤ 2147483646
    → (rest ≡ product % 2147483647) × (rest ≤ 2147483646)
left_over_lem product q rest is few =
    let below : rest < 2147483647 = omega arith in
    (sym (ap (λ (x : ℕ). x % 2147483647) is ∙ mul-add-mod_self_left 2147483647 q rest ∙ mod-eq_of_lt below), few)

-- ---- an event

-- its process is below n, so it is a byte
pub process_small : (n last k : ℕ) → 1 ≤ n → n ≤ 64 → (load_event n last k).process < 256
unfolding load_event event_by
process_small n last k some few = omega (arith, mod-lt (drawn last (3 * k + 1)) some)

-- three numbers drawn, each kept as the last, and the event that they make, with a message or without
module _ (n last : ℕ) {a b c one two three : ℕ} (first : a ≡ next last) (kept : one ≡ a) (second : b ≡ next one)
    (kept_too : two ≡ b) (third : c ≡ next two) (kept_last : three ≡ c) where
  pub last_drawn : three ≡ drawn last 3
  unfolding drawn
  last_drawn = rw (kept_last, third, kept_too, second, kept, first)

  pub event_drawn : {m : ℕ} (message : ℕ) → m ≡ n → message ≡ cond (eqb (b % 8) 0) c 0
      → record { process = a % m; code = b % 8; message = message } ≡ load_event n last 0
  unfolding load_event event_by drawn
  event_drawn message same is = rw (is, same, third, kept_too, second, kept, first)

  pub with_message : {m : ℕ} → m ≡ n → b % 8 ≡ 0
      → record { process = a % m; code = b % 8; message = c } ≡ load_event n last 0
  with_message same put = event_drawn c same (rw (eq-eqb (b % 8) 0 put))

  pub without_message : {m : ℕ} → m ≡ n → (b % 8 ≡ 0 → ⊥)
      → record { process = a % m; code = b % 8; message = 0 } ≡ load_event n last 0
  without_message same other = event_drawn 0 same (rw (ne_eqb (b % 8) 0 other))

-- ---- events, one after the other

module _ (n seed : ℕ) (t : List ℕ) where
  pub events_none : t ≡ splice t 0 (list_bytes (load_events n seed 0))
  unfolding list_bytes load_events tabulate
  events_none = splice_none t 0

  pub events_more : (k : ℕ) {last m : ℕ} {one two : List ℕ} {v : Event}
      → one ≡ splice t 0 (list_bytes (load_events n seed k)) → last ≡ drawn seed (3 * k) → m ≡ n
      → v ≡ load_event m last 0 → two ≡ splice one (8 * k) (event_bytes v)
      → two ≡ splice t 0 (list_bytes (load_events n seed (k + 1)))
  unfolding load_events
  events_more k {last} {m} {one} {two} {v} before is same drew wrote =
      let event = load_event n seed in
      let sofar = list_bytes (tabulate event 0 k) in
      let here : 8 * k ≡ 0 + length sofar = omega (arith, length_list_bytes event 0 k) in
      let number : k + 0 ≡ 0 + k = omega arith in
      let this : v ≡ event (0 + k) = drew ∙ rw (same, is) (event_on n seed k 0 ∙ ap event number) in
      rw (wrote, this, before, here)
      (splice_next t 0 sofar (event_bytes (event (0 + k))) (omega arith)
      ∙ ap (splice t 0) (sym (list_bytes_more event 0 k)))

  pub last_more : (k : ℕ) {last more : ℕ} → last ≡ drawn seed (3 * k) → more ≡ drawn last 3
      → more ≡ drawn seed (3 * (k + 1))
  last_more k is after =
      let three : 3 * k + 3 ≡ 3 * (k + 1) = omega arith in
      after ∙ ap (λ (z : ℕ). drawn z 3) is ∙ drawn_on seed (3 * k) 3 ∙ ap (drawn seed) three

-- ---- a block

-- what is drawn for all of a part of a tape stands there on the tape
pub drawn_there : (t : List ℕ) (at width : ℕ) (events : List ℕ) {slots : List ℕ} → at + width ≤ length t
    → length events ≡ width
    → slots ≡ splice (part t at width) 0 events → put_mid at width t slots ≡ splice t at events
unfolding splice
drawn_there t at width events {slots} room long wrote =
    let same : length (part t at width) ≡ width =
    length-take-le width (drop at t) (omega (arith, length-drop at t)) in
    let none : drop (0 + length events) (part t at width) ≡ [] =
    drop_all (0 + length events) (part t at width) (omega arith) in
    let whole : slots ≡ events = wrote ∙ rw none (append-nil events) in
    rw (whole, long, drop-drop width at t)

module _ (n seed count b : ℕ) (within : 63 * b ≤ count) where
  -- the whole load
  abbrev list : List ℕ
  list = list_bytes (load_events n seed count)

  -- what the writer puts into block b
  stretch : {used : ℕ} → used ≡ width_in (8 * count) b
      → list_bytes (load_events n (drawn seed (3 * (63 * b))) (used / 8)) ≡ part list (504 * b) used
  unfolding load_events
  stretch {used} is =
      let from : 63 * b + 0 ≡ 0 + 63 * b = omega arith in
      let at : 8 * (63 * b) ≡ 504 * b = omega arith in
      let whole : 8 * (used / 8) ≡ used = omega arith in
      ap list_bytes (events_on_lem n seed (63 * b) 0 (used / 8))
      ∙ ap (λ (i : ℕ). list_bytes (tabulate (load_event n seed) i (used / 8))) from
      ∙ sym (part_list_bytes (load_event n seed) 0 count (63 * b) (used / 8) (omega arith))
      ∙ ap₂ (part list) at whole

  pub block_drawn : (t : List ℕ) {used last : ℕ} {one two : List ℕ} → 512 * b + 512 ≤ length t
      → used ≡ width_in (8 * count) b
      → last ≡ drawn seed (3 * (63 * b))
      → one ≡ splice t (512 * b + 8) (list_bytes (load_events n last (used / 8)))
      → two ≡ splice one (512 * b) (block_bytes b (used / 8) (padded (part one (512 * b + 8) used)))
      → two ≡ splice t (512 * b) (block_for list b)
  block_drawn t {used} room is from drew sealed =
      block_packed list b t room (is ∙ ap (λ (k : ℕ). width_in k b) (sym (length_load n seed count)))
      (drew
      ∙ ap (λ (z : ℕ). splice t (512 * b + 8) (list_bytes (load_events n z (used / 8)))) from
      ∙ ap (splice t (512 * b + 8)) (stretch is)) sealed

  -- as code has it: drawn into the block's part of the tape
  pub block_filled : (t : List ℕ) {used width last m : ℕ} {slots two : List ℕ} → 512 * b + 512 ≤ length t
      → used ≡ width_in (8 * count) b → used ≤ 504 → width ≡ used → last ≡ drawn seed (3 * (63 * b)) → m ≡ n
      → slots
      ≡ splice (part t (512 * b + 8) width) 0
      (list_bytes (load_events m last (length (part t (512 * b + 8) width) / 8)))
      → two
      ≡ splice (put_mid (512 * b + 8) width t slots) (512 * b)
      (block_bytes b (used / 8) (padded (part (put_mid (512 * b + 8) width t slots) (512 * b + 8) used)))
      → two ≡ splice t (512 * b) (block_for list b)
  block_filled t {used} {width} {last} {m} room is most wide from same drew sealed =
      let there = drop (512 * b + 8) t in
      let long : length (part t (512 * b + 8) width) ≡ used =
      length-take-le width there (omega (arith, length-drop (512 * b + 8) t)) ∙ wide in
      let whole : 8 * (used / 8) ≡ used = omega arith in
      let events = list_bytes (load_events n last (used / 8)) in
      let events_long : length events ≡ width = omega (arith, length_load n last (used / 8)) in
      block_drawn t room is from
      (drawn_there t (512 * b + 8) width events (omega arith) events_long (rw (← same, ← long) drew)) sealed

  -- and where another block follows, this one was full
  pub last_filled : (t : List ℕ) {used width last more : ℕ} → 512 * b + 512 ≤ length t → used ≡ width_in (8 * count) b
      → used ≤ 504 → width ≡ used → last ≡ drawn seed (3 * (63 * b)) → 63 * (b + 1) ≤ count
      → more ≡ drawn last (3 * (length (part t (512 * b + 8) width) / 8))
      → more ≡ drawn seed (3 * (63 * (b + 1)))
  last_filled t {used} {width} {last} {more} room is most wide from full drew =
      let there = drop (512 * b + 8) t in
      let long : length (part t (512 * b + 8) width) ≡ used =
      length-take-le width there (omega (arith, length-drop (512 * b + 8) t)) ∙ wide in
      let all : 3 * (63 * b) + 3 * (length (part t (512 * b + 8) width) / 8) ≡ 3 * (63 * (b + 1)) = omega arith in
      drew
      ∙ ap (λ (z : ℕ). drawn z (3 * (length (part t (512 * b + 8) width) / 8))) from
      ∙ drawn_on seed (3 * (63 * b)) (3 * (length (part t (512 * b + 8) width) / 8))
      ∙ ap (drawn seed) all
