-- Numbers drawn and the events of a load, by index. Draws go on from a number drawn as they would from the seed, so the
-- events of a stretch of a load are a load from the number drawn before it.
use Prim.Native.Nat.{ℕ, zero, suc, ◌+◌, ◌-◌, ◌*◌, ◌/◌, ◌≤◌}
use mathlib.Core.Path.{◌≡◌, refl, sym, ap, ◌∙◌}
use mathlib.Core.Bool.{Bool, true, false}
use mathlib.Core.List.{List, ◌∷◌, ◌++◌}
use native.Mathlib.Omega.{arith}
use lib.ListN.{length, take}
use lib.Seq.{take_at}
use lib.Dec.{eqb}
use borrow.Author.Tests.{eqb-true, eqb-false, eq-eqb, ne_eqb}
use Rattle.machine.specs.Bytes.{part}
use Rattle.machine.specs.Lists.{tabulate, join}
use Rattle.machine.specs.Events.{Event}
use Rattle.machine.specs.Tape.{event_bytes, list_bytes, blocks_for}
use Rattle.machine.specs.Load.{next, drawn, event_by, load_event, load_events, load_tape}
use Rattle.machine.proofs.Laws.Bytes.{length_bytes}
use Rattle.machine.proofs.Laws.Lists.{length_tabulate, tabulate_add}
use Rattle.machine.proofs.Laws.Joined.{join_more, length_joined, part_pieces}
use Rattle.machine.proofs.Tapes.{length_tape}

-- ---- numbers drawn

-- the published number: the 10,000th from 1
pub ten_thousandth : drawn 1 10000 ≡ 1043618065
unfolding drawn
ten_thousandth = refl

no_multiple : (x m : ℕ) → 1 ≤ x → x ≤ 2147483646 → x ≡ 2147483647 * m → ⊥
no_multiple x m some few whole = omega arith

-- from 1 to 2,147,483,646 a draw stays there: were it 0, the number itself would be a multiple of 2,147,483,647, since
-- 16,807 times 1,407,677,000 is 1 more than 11,017 times that
next_within : (last : ℕ) → 1 ≤ last → last ≤ 2147483646 → (1 ≤ next last) × (next last ≤ 2147483646)
next_within last some few = (go (eqb (next last) 0) refl, omega arith)
  where
    go : (t : Bool) → eqb (next last) 0 ≡ t → 1 ≤ next last
    go true none =
        let m = 1407677000 * (16807 * last / 2147483647) - 11017 * last in
        absurd (no_multiple last m some few (omega (arith, eqb-true (next last) 0 none)))
    go false other = let ne = eqb-false (next last) 0 other in omega arith

-- and is another number: 16,806 times 827,891,619 is 1 more than 6,479 times 2,147,483,647
next_moves : (last : ℕ) → 1 ≤ last → last ≤ 2147483646 → next last ≡ last → ⊥
next_moves last some few stuck =
    let m = 827891619 * (16807 * last / 2147483647) - 6479 * last in
    no_multiple last m some few (omega (arith, stuck))

module _ (seed : ℕ) (some : 1 ≤ seed) (few : seed ≤ 2147483646) where
  -- so no number drawn is 0
  pub drawn_within : (k : ℕ) → (1 ≤ drawn seed k) × (drawn seed k ≤ 2147483646)
  unfolding drawn
  drawn_within zero = (some, few)
  drawn_within (suc k) = next_within (drawn seed k) (drawn_within k).0 (drawn_within k).1

  -- and none is the one before it: the generator never sticks
  pub drawn_moves : (k : ℕ) → drawn seed (suc k) ≡ drawn seed k → ⊥
  unfolding drawn
  drawn_moves k = next_moves (drawn seed k) (drawn_within k).0 (drawn_within k).1

  -- a message is a number drawn, so 1 to 2,147,483,646, where the code is 0
  pub message_drawn : (n k : ℕ) → (load_event n seed k).code ≡ 0
      → (1 ≤ (load_event n seed k).message) × ((load_event n seed k).message ≤ 2147483646)
  unfolding load_event event_by
  message_drawn n k is = rw (eq-eqb (load_event n seed k).code 0 is) (drawn_within _)

  -- and else 0
  pub message_none : (n k : ℕ) → ((load_event n seed k).code ≡ 0 → ⊥) → (load_event n seed k).message ≡ 0
  unfolding load_event event_by
  message_none n k other = rw (ne_eqb (load_event n seed k).code 0 other)

  -- at most that with every code
  pub message_within : (n k : ℕ) → (load_event n seed k).message ≤ 2147483646
  message_within n k = go (eqb (load_event n seed k).code 0) refl
    where
      go : (t : Bool) → eqb (load_event n seed k).code 0 ≡ t → (load_event n seed k).message ≤ 2147483646
      go true is = (message_drawn n k (eqb-true (load_event n seed k).code 0 is)).1
      go false other = omega (arith, message_none n k (eqb-false (load_event n seed k).code 0 other))

-- draws from a number drawn
pub drawn_on : (seed j k : ℕ) → drawn (drawn seed j) k ≡ drawn seed (j + k)
unfolding drawn
drawn_on seed j zero = let none : j + 0 ≡ j = omega arith in rw none
drawn_on seed j (suc k) = let more : j + suc k ≡ suc (j + k) = omega arith in rw (more, drawn_on seed j k)

-- ---- the events of a load

-- from a number drawn
pub event_on : (n seed j k : ℕ) → load_event n (drawn seed (3 * j)) k ≡ load_event n seed (j + k)
unfolding load_event
event_on n seed j k =
    let first : 3 * j + (3 * k + 1) ≡ 3 * (j + k) + 1 = omega arith in
    let second : 3 * j + (3 * k + 2) ≡ 3 * (j + k) + 2 = omega arith in
    let third : 3 * j + (3 * k + 3) ≡ 3 * (j + k) + 3 = omega arith in
    rw (
      drawn_on seed (3 * j) (3 * k + 1),
      drawn_on seed (3 * j) (3 * k + 2),
      drawn_on seed (3 * j) (3 * k + 3),
      first,
      second,
      third,
    )

pub events_on_lem : (n seed j i count : ℕ)
    → tabulate (load_event n (drawn seed (3 * j))) i count ≡ tabulate (load_event n seed) (j + i) count
unfolding tabulate
events_on_lem n seed j i zero = refl
events_on_lem n seed j i (suc count) =
    let next : j + i + 1 ≡ j + (i + 1) = omega arith in
    rw (event_on n seed j i, next) (ap (λ l. load_event n seed (j + i) ∷ l) (events_on_lem n seed j (i + 1) count))

-- a load is the beginning of every longer one
pub load_begins : (n seed k count : ℕ) → k ≤ count → take k (load_events n seed count) ≡ load_events n seed k
unfolding load_events
load_begins n seed k count h =
    let more : count ≡ k + (count - k) = omega arith in
    let event = load_event n seed in
    ap (λ (m : ℕ). take k (tabulate event 0 m)) more
    ∙ ap (take k) (tabulate_add event 0 k (count - k))
    ∙ take_at (tabulate event 0 k) (tabulate event (0 + k) (count - k)) k (length_tabulate event 0 k)

-- ---- events as bytes

length_event : (v : Event) → length (event_bytes v) ≡ 8
length_event v = ap (λ (k : ℕ). suc (suc (suc (suc k)))) (length_bytes 4 v.message)

-- those of events by index
bytes_joined : (f : ℕ → Event) (i n : ℕ) → list_bytes (tabulate f i n) ≡ join (tabulate (λ k. event_bytes (f k)) i n)
unfolding list_bytes tabulate join
bytes_joined f i zero = refl
bytes_joined f i (suc n) = ap (λ (l : List ℕ). event_bytes (f i) ++ l) (bytes_joined f (i + 1) n)

pub length_list_bytes : (f : ℕ → Event) (i n : ℕ) → length (list_bytes (tabulate f i n)) ≡ 8 * n
length_list_bytes f i n =
    ap length (bytes_joined f i n)
    ∙ length_joined (λ k. event_bytes (f k)) 8 i n (λ k low high. length_event (f k))

-- one more
pub list_bytes_more : (f : ℕ → Event) (i n : ℕ)
    → list_bytes (tabulate f i (n + 1)) ≡ list_bytes (tabulate f i n) ++ event_bytes (f (i + n))
list_bytes_more f i n =
    bytes_joined f i (n + 1)
    ∙ join_more (λ k. event_bytes (f k)) i n
    ∙ ap (λ (l : List ℕ). l ++ event_bytes (f (i + n))) (sym (bytes_joined f i n))

-- a stretch of them
pub part_list_bytes : (f : ℕ → Event) (i n k m : ℕ) → k + m ≤ n
    → part (list_bytes (tabulate f i n)) (8 * k) (8 * m) ≡ list_bytes (tabulate f (i + k) m)
part_list_bytes f i n k m h =
    ap (λ (l : List ℕ). part l (8 * k) (8 * m)) (bytes_joined f i n)
    ∙ part_pieces (λ k. event_bytes (f k)) 8 i n k m (λ k. length_event (f k)) h
    ∙ sym (bytes_joined f (i + k) m)

-- ---- the list and the tape of a load

module _ (n seed count : ℕ) where
  pub length_load : length (list_bytes (load_events n seed count)) ≡ 8 * count
  unfolding load_events
  length_load = length_list_bytes (load_event n seed) 0 count

  pub length_load_tape : length (load_tape n seed count) ≡ 512 * blocks_for count
  unfolding load_tape
  length_load_tape = omega (arith, length_tape (list_bytes (load_events n seed count)), length_load)
