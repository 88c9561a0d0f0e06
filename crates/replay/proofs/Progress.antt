-- The run block by block: before block b the image, the counts, the traffic and the ledger are what the first 63 * b
-- events come to, or all that were asked for. The block's events come next, by turns, and join those before
-- (turns/proofs/Joined). Measuring is the same run on a copy of the image (Spare),
-- whose count of records is this run's, whatever ledger is lent to it; room for a record an event is enough without it
-- (Room).
use Prim.Native.Nat.{ℕ, zero, suc, min, ◌+◌, ◌-◌, ◌*◌, ◌/◌, ◌%◌, ◌^◌, ◌≤◌, ◌<◌}
use mathlib.Core.Path.{◌≡◌, refl, sym, ap, ap₂, ◌∙◌}
use mathlib.Core.List.{List, [], ◌++◌, append_assoc, append-nil}
use native.Mathlib.Omega.{arith}
use lib.ListN.{length, get_or, take, drop, length-take, length-drop}
use lib.Seq.{get_or-take, length-take-le}
use Rattle.machine.specs.declared.Counts.{Counts}
use Rattle.machine.specs.declared.Traffic.{Traffic}
use Rattle.std.specs.Simd.{first_chunks}
use Rattle.machine.specs.Bytes.{Bytes, part}
use Rattle.machine.specs.Lists.{tabulate}
use Rattle.machine.specs.Image.{State, size_in, state_in, image_with}
use Rattle.machine.specs.Events.{Event}
use Rattle.machine.specs.Tape.{event_in, events_in, slot_at}
use Rattle.machine.specs.Run.{no_counts, counts_from, after}
use Rattle.machine.specs.Traffic.{no_traffic, together, traffic_from}
use Rattle.machine.specs.Refusals.{codes}
use Rattle.machine.specs.Answers.{run_events}
use Rattle.machine.proofs.Laws.Chunks.{length_chunks, chunk_is}
use Rattle.machine.proofs.Laws.Lists.{tabulate_same, tabulate_more}
use Rattle.machine.proofs.Laws.Splices.{part_part}
use Rattle.machine.proofs.LinkTraffic.{list_few, traffic_joined}
use Rattle.tape_test.specs.Accepted.{events_on}
use Rattle.tape_test.proofs.Blocks.{tape_fine}
use Rattle.tape.proofs.Parts.{same_event, same_fits}
use Rattle.tape.proofs.Slots.{event_placed}
use Rattle.tape.proofs.Events as events
use Rattle.ledger.specs.Bounds.{NoneAbove}
use Rattle.ledger.proofs.Bounds.{none_above_le, none_above_start, counts_few}
use Rattle.turns.specs.Turns.{added, traffic_in, Turning, Tallied, Ran}
use Rattle.turns.proofs.Joined.{counts_joined, nobody, Stands, ran_stands, ran_none, ran_joined}
use Rattle.replay.specs.Playable.{Playable, Tells, Recorded, first_events, first_records}
use Rattle.replay.proofs.First.{first_long}

-- how many of the events that are asked for come before block b
abbrev pub before : ℕ → ℕ → ℕ
before b total = min (63 * b) total

-- before block b of a run on s₀ and l₀: image s, ledger l, counts c, traffic u
pub record Progress (s₀ tape : List ℕ) (total : ℕ) (l₀ s l : List ℕ) (c : Counts) (u : Traffic) (b : ℕ) : Type 0 where
  pub ready : Playable s₀ tape total
  pub start_small : Bytes s₀
  pub tape_small : Bytes tape
  pub few : total ≤ 4128768
  pub above : NoneAbove (before b total) c
  pub ran : Ran 0 0 s₀ l₀ (first_events tape (before b total)) s l
  pub counts : c ≡ counts_from no_counts (state_in s₀) (first_events tape (before b total))
  pub traffic : u ≡ traffic_from (state_in s₀) (first_events tape (before b total))
  pub long : length l ≡ length l₀

-- ---- a block's events

-- the first n of block b
abbrev slots : List ℕ → ℕ → ℕ → List Event
slots tape b n = tabulate (λ j. event_in tape (slot_at b j)) 0 n

-- the bytes of those that are asked for, as code cuts them out of the tape
pub record Block (tape : List ℕ) (total b n : ℕ) (bytes : List ℕ) : Type 0 where
  pub there : b < length tape / 512
  pub some : 63 * b < total
  pub all : n ≡ min (total - 63 * b) 63
  pub are : bytes ≡ part tape (slot_at b 0) (8 * n)

pub block_cut : (tape : List ℕ) {chunks : List (List ℕ)} → chunks ≡ first_chunks 512 (length tape / 512) tape
    → (m : ℕ) {total b n width : ℕ} → 63 * b < total → b < length (take m chunks)
    → n ≡ min (total - 63 * b) 63 → width ≡ 8 * n
    → Block tape total b n (part (get_or (take m chunks) b []) 8 width)
block_cut tape {chunks} cut m {total} {b} {n} some below all wide =
    let few = length-take m chunks in
    let on_tape : length chunks ≡ length tape / 512 = ap length cut ∙ length_chunks 512 (length tape / 512) tape in
    let there : b < length tape / 512 = omega arith in
    let block : get_or (take m chunks) b [] ≡ part tape (512 * b) 512 =
    get_or-take m chunks b [] (omega arith)
    ∙ ap (λ (l : List (List ℕ)). get_or l b []) cut
    ∙ chunk_is 512 (length tape / 512) tape b [] there in
    let start : 512 * b + 8 ≡ slot_at b 0 = omega arith in
    record {
      there = there;
      some = some;
      all = all;
      are =
          rw (block, wide)
          (part_part tape (512 * b) 512 8 (8 * n) (omega arith) ∙ ap (λ (k : ℕ). part tape k (8 * n)) start);
    }

module _ {tape : List ℕ} {total b n : ℕ} {bytes : List ℕ} (g : Block tape total b n bytes) where
  bytes_long : length bytes ≡ 8 * n
  bytes_long =
      ap length g.are
      ∙ length-take-le (8 * n) (drop (slot_at b 0) tape) (omega (arith, g.there, g.all, length-drop (slot_at b 0) tape))

  -- event j
  slot_bytes : (j : ℕ) → j < n → part bytes (8 * j) 8 ≡ part tape (slot_at b j) 8
  slot_bytes j h =
      let there : slot_at b 0 + 8 * j ≡ slot_at b j = omega arith in
      rw g.are (part_part tape (slot_at b 0) (8 * n) (8 * j) 8 (omega arith) ∙ rw there)

  events_there : events_in bytes ≡ slots tape b n
  unfolding events_in
  events_there =
      let many : length bytes / 8 ≡ n = omega (arith, bytes_long) in
      rw many
      (tabulate_same (λ j. event_in bytes (8 * j)) (λ j. event_in tape (slot_at b j)) 0 n
      (λ j low high. same_event bytes tape (8 * j) (slot_at b j) (slot_bytes j (omega arith))))

module _ {s₀ tape : List ℕ} {total : ℕ} (ready : Playable s₀ tape total) where
  -- the blocks that have them are on the tape
  pub blocks_there : total / 63 + min 1 (total % 63) ≤ length tape / 512
  blocks_there = omega (arith, ready.so_many, events.events_in_blocks codes (size_in s₀) tape ready.tape_fine)

  pub going_start : {l₀ : List ℕ} {c : Counts} {u : Traffic} → Bytes s₀ → Bytes tape → c ≡ no_counts → u ≡ no_traffic
      → Progress s₀ tape total l₀ s₀ l₀ c u 0
  unfolding counts_from traffic_from
  going_start small small_tape none quiet =
      let start : 0 ≡ before 0 total = omega arith in
      rw (none, quiet)
      (record {
        ready = ready;
        start_small = small;
        tape_small = small_tape;
        few = omega (arith, ready.so_many, events.events_few codes (size_in s₀) tape ready.tape_fine);
        above = rw (← start) none_above_start;
        ran = rw (← start) (ran_none ready.image_fine small);
        counts = rw (← start);
        traffic = rw (← start);
        long = refl;
      })

  -- ---- the first events

  -- no count is above their number
  few_counts : {k : ℕ} → k ≤ total → NoneAbove k (counts_from no_counts (state_in s₀) (first_events tape k))
  few_counts {k} h =
      none_above_le (omega (arith, first_long ready h))
      (counts_few (first_events tape k) (state_in s₀) 0 none_above_start)

  -- and no more requests than two an event, no more departures than one
  few_traffic : {k : ℕ} → k ≤ total
      → ((traffic_from (state_in s₀) (first_events tape k)).requests ≤ k + k)
      × ((traffic_from (state_in s₀) (first_events tape k)).departures ≤ k)
  few_traffic {k} h =
      let few = list_few (first_events tape k) (state_in s₀) in
      (omega (arith, first_long ready h, few.0), omega (arith, first_long ready h, few.1))

  -- n events of block b come next
  block_more : (b n : ℕ) → n ≤ 63 → 63 * b + n ≤ total
      → first_events tape (63 * b + n) ≡ first_events tape (63 * b) ++ slots tape b n
  unfolding tabulate
  block_more b zero few inside =
      ap (first_events tape) (let same : 63 * b + 0 ≡ 63 * b = omega arith in same) ∙ sym (append-nil _)
  block_more b (suc n) few inside =
      let k = 63 * b + n in
      let there : 63 * b + suc n ≡ k + 1 = omega arith in
      let block : k / 63 ≡ b = omega arith in
      let slot : k % 63 ≡ n = omega arith in
      let next = events.events_to codes (size_in s₀) tape ready.tape_fine k (omega (arith, ready.so_many)) in
      let before = block_more b n (omega arith) (omega arith) in
      let here : 0 + n ≡ n = omega arith in
      rw (there, next, block, slot, before, rw here at (tabulate_more (λ j. event_in tape (slot_at b j)) 0 n))
      (append_assoc (first_events tape (63 * b)) (slots tape b n) _)

module _ {s₀ tape : List ℕ} {total : ℕ} {l₀ s l : List ℕ} {c : Counts} {u : Traffic} {b : ℕ}
    (g : Progress s₀ tape total l₀ s l c u b) where
  -- the events so far
  abbrev done : List Event
  done = first_events tape (before b total)

  done_long : length done ≡ before b total
  done_long = first_long g.ready (omega arith)

  -- ---- what stays true of the image

  pub stands : Stands s₀ done s
  stands =
      ran_stands g.ready.image_fine g.start_small g.ran
      (λ i h.
      let below : i < before b total = omega (arith, done_long) in
      let inside : i < events_on tape = omega (arith, g.ready.so_many) in
      let here = events.event_at codes (size_in s₀) tape g.ready.tape_fine i inside nobody in
      rw (get_or-take (before b total) (run_events tape) i nobody below, here)
      (events.event_fitting codes (size_in s₀) tape g.ready.tape_fine g.tape_small i inside))

  -- ---- one block more

  -- the traffic so far is little
  pub traffic_small : (u.requests < 2 ^ 63) × (u.departures < 2 ^ 63)
  traffic_small =
      let few = few_traffic g.ready {k = before b total} (omega arith) in
      rw g.traffic (omega (arith, few.0, g.few), omega (arith, few.1, g.few))

  module _ {n : ℕ} {bytes : List ℕ} (block : Block tape total b n bytes) where
    so_far : before b total ≡ 63 * b
    so_far = omega (arith, block.some)

    and_then : before (b + 1) total ≡ 63 * b + n
    and_then = omega (arith, block.some, block.all)

    pub may_turn : Turning s bytes (63 * b) (12 * c.records)
    may_turn =
        let fine_tape = tape_fine codes (size_in s₀) tape g.ready.tape_fine in
        record {
          fine = stands.fine;
          few = omega (arith, bytes_long block, block.all);
          numbers = omega (arith, bytes_long block, block.some, block.all, g.few);
          fits =
              λ j h.
              let inside : j < n = omega (arith, bytes_long block) in
              let placed =
              event_placed tape fine_tape (63 * b + j) (omega (arith, g.ready.so_many, block.some, block.all)) in
              let there : (63 * b + j) / 63 ≡ b = omega (arith, block.all) in
              let slot : (63 * b + j) % 63 ≡ j = omega (arith, block.all) in
              rw (same_fits bytes tape (8 * j) (slot_at b j) (slot_bytes block j inside) codes (size_in s), stands.size)
              ((fine_tape.blocks b block.there).events j (rw (slot, there) at placed.slot));
          place = omega (arith, so_far, g.above.records);
        }

    first_more : first_events tape (before (b + 1) total) ≡ done ++ events_in bytes
    first_more =
        rw (and_then, so_far, events_there block)
        (block_more g.ready b n (omega (arith, block.all)) (omega (arith, block.some, block.all)))

    pub going_on : {c' : Counts} {u' : Traffic} {s' l' : List ℕ} {word : ℕ}
        → Tallied (state_in s) (events_in bytes) word → Ran (63 * b) (12 * c.records) s l (events_in bytes) s' l'
        → length l' ≡ length l → c' ≡ added c word → u' ≡ together u (traffic_in word)
        → Progress s₀ tape total l₀ s' l' c' u' (b + 1)
    going_on {c'} {u'} tallied ran long counts_more traffic_more =
        let vs = events_in bytes in
        let behind : 12 * c.records ≡ 0 + 12 * (counts_from no_counts (state_in s₀) done).records =
        rw g.counts (omega arith) in
        let counted : c' ≡ counts_from no_counts (state_in s₀) (first_events tape (before (b + 1) total)) =
        counts_more
        ∙ tallied.counts c
        ∙ rw (stands.state, g.counts, first_more) (sym (counts_joined done vs (state_in s₀) no_counts)) in
        let carried : u' ≡ traffic_from (state_in s₀) (first_events tape (before (b + 1) total)) =
        traffic_more
        ∙ ap₂ together g.traffic (tallied.traffic ∙ ap (λ (st : State). traffic_from st vs) stands.state)
        ∙ sym (traffic_joined done vs (state_in s₀))
        ∙ ap (traffic_from (state_in s₀)) (sym first_more) in
        record {
          ready = g.ready;
          start_small = g.start_small;
          tape_small = g.tape_small;
          few = g.few;
          above = rw counted (few_counts g.ready (omega arith));
          ran =
              rw first_more
              (ran_joined done vs stands.state g.long (omega (arith, done_long, so_far)) behind g.ran ran);
          counts = counted;
          traffic = carried;
          long = long ∙ g.long;
        }

  -- ---- no block left

  pub played : total ≤ 63 * b
      → Tells (state_in s₀) (first_events tape total) (record { counts = c; traffic = u })
      × ((s ≡ image_with s₀ (after (state_in s₀) (first_events tape total)))
      × Recorded (first_records s₀ tape total) l₀ l)
  played end =
      let whole : before b total ≡ total = omega arith in
      let told : Tells (state_in s₀) (first_events tape (before b total)) (record { counts = c; traffic = u }) =
      record { counts = g.counts; traffic = g.traffic } in
      (rw whole at told, (rw whole at g.ran.image, λ enough. (rw whole at g.ran.records) (omega arith)))
