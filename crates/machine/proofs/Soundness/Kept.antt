-- Soundness is kept by every event: a state that fits fits after any event at one of its processes, with any code and
-- any message, and so an accepted image is accepted after the event, with the same size and length.
--
-- At its own process the event is settled (Settled; Owed, Puts and Reactions show it): a process that fits fits again,
-- its flags balance (have and arriving after, and whether the envelope leaves, add up to those before), the status
-- changes only where the envelope is, and each count changes by just the process's own mark. Placed on the ring
-- (Placed) it changes what is added up over the records by the own record alone, and the flag that went off with the
-- envelope comes back at the right. Others that need the envelope would have it, and there is one place only, so a
-- change of status touches nobody else. A status's count is the sum of its marks, since a set of at most 64 has as many
-- ones as members (Sums).
use Rattle.std.specs.Prelude.{Ok}
use Prim.Native.Nat.{ℕ, ◌+◌, ◌^◌, ◌≤◌, ◌<◌}
use mathlib.Core.Path.{◌≡◌, refl, sym, ap, ap₂, ◌∙◌}
use mathlib.Core.Bool.{Bool, true}
use mathlib.Core.List.{List, ◌++◌}
use native.Mathlib.Omega.{arith}
use lib.ListN.{length, drop}
use lib.Seq.{drop-append-add, drop-append_seam}
use lib.Dec.{ltb}
use borrow.Author.Tests.{eq-eqb, lt-ltb, ltb-true}
use Rattle.machine.specs.declared.Process.{Process}
use Rattle.machine.specs.declared.Refusal.TheVariants as refusal
use Rattle.machine.specs.Ring.{image_length}
use Rattle.machine.specs.Fields.{Status, full, empty, blank}
use Rattle.machine.specs.Image.{State, size_in, state_in, image_with, header_bytes, record_bytes}
use Rattle.machine.specs.Sound.{stages_fit, count_fits, sound}
use Rattle.machine.specs.Events.{Event, process_at, place, react, reaction, outcome, apply}
use Rattle.machine.specs.Run.{outcome_message}
use Rattle.machine.specs.Refusals.{unless, image_verdict}
use Rattle.machine.proofs.Laws.Lists.{all_at, all_each}
use Rattle.machine.specs.Bytes.{Bytes}
use Rattle.machine.proofs.Image.Writes.{size_written, length_written, length_header, length_records}
use Rattle.machine.proofs.Image.Writes.{image_pieces}
use Rattle.machine.proofs.Image.Readback.{InRange, read_state}
use Rattle.machine.proofs.Image.Rewrite.{rewrite_image, read_in_range}
use Rattle.machine.proofs.Image.Written.{process_fits, state_fits, sound_written}
use Rattle.machine.proofs.Image.Stored.{length_state}
use Rattle.machine.proofs.Laws.Refusals.{SizeFits, image_fine, image_whole}
use Rattle.machine.proofs.Soundness.Sums.{part_le, flags_set, marks_for, marked_sum, count_sum, count_le}
use Rattle.machine.proofs.Soundness.Sums.{mark_counted}
use Rattle.machine.proofs.Soundness.Settled.{Settled}
use Rattle.machine.proofs.Soundness.Facts.{StateFacts, state_facts, facts_state, fits_at, fits_record}
use Rattle.machine.proofs.Soundness.Reactions.{react_settled}
use Rattle.machine.proofs.Soundness.Placed.{all_set, length_placed, all_placed, sum_placed, places_placed}
use Rattle.machine.proofs.Soundness.Placed.{stages_set}
use Rattle.machine.proofs.Soundness.Ranges.{react_small}
use Rattle.machine.proofs.Soundness.Octets.{written_bytes}

-- ---- after an event

-- the ring keeps its size
pub length_applied : (st : State) (v : Event) → length (apply st v).processes ≡ length st.processes
unfolding apply
length_applied st v = length_placed st.processes v.process (reaction st v)

module _ (st : State) (v : Event) (below : v.process < length st.processes) where
  -- the event at its own process
  settled_at : length st.processes ≤ 64 → StateFacts st
      → Settled st.envelope (process_at st.processes v.process) (reaction st v)
  unfolding reaction
  settled_at few f =
      let ps = st.processes in
      react_settled st.envelope (process_at ps v.process) (fits_at st f v.process below) v.code v.message
      (omega (arith, part_le flags_set ps v.process below, f.rest.one_place))
      (mark_counted st few f.rest v.process below)

  -- each count is the sum of the marks again
  counted : length st.processes ≤ 64 → StateFacts st → (s : Status) → count_fits s (apply st v) ≡ true
  unfolding apply
  counted few f s =
      let ps = st.processes in
      let r = reaction st v in
      let after = place ps v.process r in
      let short : length after ≤ 64 = omega (arith, length_placed ps v.process r) in
      let marks = sum_placed ps v.process r below (marks_for s) (λ _ _. refl) (λ _ _. refl) in
      eq-eqb _ _
      (marked_sum s after short ∙ omega (arith, marks, (settled_at few f).tally s, count_sum st few f.rest s))

  -- and so every part of what fits
  pub facts_kept : length st.processes ≤ 64 → StateFacts st → StateFacts (apply st v)
  unfolding apply stages_fit
  facts_kept few f =
      let ps = st.processes in
      let i = v.process in
      let r = reaction st v in
      let local = settled_at few f in
      let own = fits_record r.envelope r.process local.fits in
      record {
        envelope = local.fits.envelope;
        processes =
            all_placed ps i r below process_fits (λ _ _. refl) (λ _ _. refl)
            (all_set process_fits ps i r.process f.processes own);
        rest =
            record {
              one_place = places_placed ps i r below f.rest.one_place local.flags;
              stages =
                  all_placed ps i r below _ (λ _ _. refl) (λ _ _. refl)
                  (stages_set st.envelope.full r.envelope.full ps i r.process below f.rest.one_place
                  local.status f.rest.stages local.fits.has);
              counts_full = counted few f full;
              counts_empty = counted few f empty;
            };
      }

-- a state that fits fits after the event
pub fits_kept : (st : State) (v : Event) → SizeFits (length st.processes) → v.process < length st.processes
    → state_fits st ≡ true
    → state_fits (apply st v) ≡ true
fits_kept st v size below fits =
    facts_state (apply st v) (facts_kept st v below size.most (state_facts st fits))

-- a note is in range, as a test
abbrev note_small : Process → Bool
note_small p = ltb p.note (2 ^ 32)

-- the message that an event fills or takes is in range
pub outcome_small : (st : State) (v : Event) → v.process < length st.processes → v.message < 2 ^ 32 → InRange st
    → outcome_message (outcome st v) < 2 ^ 32
unfolding outcome reaction
outcome_small st v below message range =
    (react_small v.code v.message st.envelope (process_at st.processes v.process) message
    range.message (range.notes v.process below)).2

-- messages and notes stay in range
pub range_kept : (st : State) (v : Event) → v.process < length st.processes → v.message < 2 ^ 32 → InRange st
    → InRange (apply st v)
unfolding apply reaction
range_kept st v below message range =
    let ps = st.processes in
    let i = v.process in
    let r = react v.code v.message st.envelope (process_at ps i) in
    let small = react_small v.code v.message st.envelope (process_at ps i) message range.message
    (range.notes i below) in
    let before = all_each note_small ps blank (λ k h. lt-ltb _ (2 ^ 32) (range.notes k h)) in
    let own = lt-ltb r.process.note (2 ^ 32) small.1 in
    let notes = all_placed ps i r below note_small (λ _ _. refl) (λ _ _. refl)
    (all_set note_small ps i r.process before own) in
    record {
      message = small.0;
      notes = λ k h. ltb-true _ (2 ^ 32) (all_at note_small _ blank notes k h);
    }

-- ---- an accepted image after an event

-- the image after the event, in the same buffer: further bytes are kept
abbrev pub image_after : List ℕ → Event → List ℕ
image_after s v = image_with s (apply (state_in s) v)

-- byte 0 stays N
pub size_kept : (s : List ℕ) (v : Event) → size_in (image_after s v) ≡ size_in s
size_kept s v = size_written s (apply (state_in s) v) ∙ length_applied (state_in s) v ∙ length_state s

-- a state written over another of the same size: the bytes of the other are gone
pub image_over : (s : List ℕ) (st next : State) → length next.processes ≡ length st.processes
    → image_with (image_with s st) next ≡ image_with s next
image_over s st next same =
    let n = length st.processes in
    let front = header_bytes n st.envelope in
    let records = record_bytes st.processes in
    let rest = drop (image_length n) s in
    let long : image_length n ≡ length front + length records =
    omega (arith, length_header n st.envelope, length_records st.processes) in
    let gone : drop (image_length n) (image_with s st) ≡ rest =
    ap₂ drop long (image_pieces s st)
    ∙ drop-append-add front (records ++ rest) (length records)
    ∙ drop-append_seam records rest in
    let after : drop (image_length (length next.processes)) (image_with s st)
    ≡ drop (image_length (length next.processes)) s = rw same gone in
    let head = header_bytes (length next.processes) next.envelope in
    image_pieces (image_with s st) next
    ∙ ap (λ (l : List ℕ). head ++ (record_bytes next.processes ++ l)) after
    ∙ sym (image_pieces s next)

-- what is in range is read back
range_after : (s : List ℕ) (v : Event) → Bytes s → v.process < size_in s → v.message < 2 ^ 32
    → InRange (apply (state_in s) v)
range_after s v small below message =
    range_kept (state_in s) v (omega (arith, length_state s)) message (read_in_range s small)

-- the state after the event is what is read from it
pub state_kept : (s : List ℕ) (v : Event) → Bytes s → v.process < size_in s → v.message < 2 ^ 32
    → state_in (image_after s v) ≡ apply (state_in s) v
state_kept s v small below message = read_state s (apply (state_in s) v) (range_after s v small below message)

-- the buffer keeps its length
pub length_kept : (s : List ℕ) (v : Event) → image_verdict s ≡ Ok tt → length (image_after s v) ≡ length s
length_kept s v fine =
    length_written s (apply (state_in s) v)
    (omega (arith, length_applied (state_in s) v, length_state s, (image_fine s fine).room))

module _ (s : List ℕ) (v : Event) (small : Bytes s) (fine : image_verdict s ≡ Ok tt) where
  -- at most 64 processes, as before
  few_after : length (apply (state_in s) v).processes ≤ 64
  few_after = omega (arith, length_applied (state_in s) v, length_state s, (image_fine s fine).size.most)

  -- the state after it fits
  facts_after : v.process < size_in s → StateFacts (apply (state_in s) v)
  facts_after below =
      let image = image_fine s fine in
      let st = state_in s in
      let same : state_fits st ≡ sound s =
      sym (sound_written s st (read_in_range s small)) ∙ ap sound (rewrite_image s image.room small image.fits) in
      facts_kept st v (omega (arith, length_state s)) (omega (arith, length_state s, image.size.most))
      (state_facts st (same ∙ image.fits))

  -- every element of the image after is a byte
  pub bytes_kept : v.process < size_in s → Bytes (image_after s v)
  bytes_kept below =
      let facts = facts_after below in
      written_bytes s (apply (state_in s) v) small (omega (arith, few_after))
      (λ t. omega (arith, count_le (apply (state_in s) v) few_after facts.rest t)) facts.processes

  -- and it is accepted
  pub sound_kept : v.process < size_in s → v.message < 2 ^ 32 → image_verdict (image_after s v) ≡ Ok tt
  sound_kept below message =
      let image = image_fine s fine in
      let size : SizeFits (size_in (image_after s v)) = rw (size_kept s v) image.size in
      let fits : sound (image_after s v) ≡ true =
      sound_written s (apply (state_in s) v) (range_after s v small below message)
      ∙ facts_state (apply (state_in s) v) (facts_after below) in
      image_whole (image_after s v) (omega (arith, length_kept s v fine, image.header)) size
      (omega (arith, length_kept s v fine, image.room, size_kept s v))
      ∙ ap (λ (b : Bool). unless b refusal.Unsound) fits
