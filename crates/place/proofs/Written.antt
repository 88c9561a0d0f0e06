-- A reaction written into a sound image: own record, header, then the neighbour that it reaches, one after the other,
-- are the rule's `place`. Each write into the image of a state is the image of the state with one element replaced
-- (machine/proofs/Image). In a ring of two or more a neighbour is another process, so what is read of it is what stood
-- there. Where nothing is asked or the envelope stays, the rule's change is no change (Idle.unchanged).
use Prim.Native.Nat.{ℕ, ◌*◌, ◌%◌, ◌≤◌, ◌<◌}
use mathlib.Core.Path.{◌≡◌, sym, ap, ◌∙◌}
use mathlib.Core.Bool.{true, false}
use mathlib.Core.List.{List, ◌++◌}
use native.Mathlib.Omega.{arith}
use lib.ListN.{length, length-set}
use lib.Seq.{get_or-set_other}
use lib.Bits.{bit_or}
use Rattle.machine.specs.declared.Process.{Process}
use Rattle.machine.specs.Bytes.{Bytes, number, bytes, splice}
use Rattle.machine.specs.Ring.{left, right, record_at}
use Rattle.machine.specs.Fields.{blank}
use Rattle.machine.specs.Image.{State, pair_of, size_in, state_in, image_with, with_envelope}
use Rattle.machine.specs.Events.{requested, arrived, process_at, change, place}
use Rattle.machine.proofs.Image.Writes.{replaced, enveloped, write_process, write_envelope, size_written}
use Rattle.machine.proofs.Image.Rewrite.{read_in_range}
use Rattle.machine.proofs.Soundness.Sound.{sound_facts}
use Rattle.machine.proofs.Laws.Refusals.{image_fine}
use Rattle.machine.proofs.Laws.Ring.{left_below, right_below, left_other, right_other}
use Rattle.machine.proofs.Image.Stored.{length_state, store_process, read_at}
use Rattle.machine.proofs.Soundness.Around.{no_request, no_arrival}
use Rattle.machine.proofs.Idle.{unchanged}
use Rattle.record.specs.declared.statuses.Statuses.{Statuses}
use Rattle.record.specs.Words.{shown_process, shown_envelope, Tidy}
use Rattle.record.proofs.Images.{Read, record_read, record_written, header_written}
use Rattle.record.proofs.Neighbours.{requested_shown, arrived_shown}
use Rattle.reaction.specs.declared.Reach.{Reach}
use Rattle.reaction.specs.declared.Reach.TheVariants.{Own, Left, Right}
use Rattle.reaction.specs.declared.Reaction.{Reaction}
use Rattle.reaction.specs.Reaction.{asks_in, leaves_in}
use Rattle.place.specs.Performed.{Placeable, placed}

-- the state with the record of process k changed
abbrev changed_at : State → ℕ → (Process → Process) → State
changed_at st k f = record { envelope = st.envelope; processes = change st.processes k f }

module _ {s : List ℕ} {n i : ℕ} {r : Reaction} (ready : Placeable s n i r) where
  inside : i < size_in s
  inside = omega (arith, ready.below, ready.size)

  -- another process of the ring
  abbrev Beside : ℕ → Type 0
  Beside k = (k < size_in s) × (k ≡ i → ⊥)

  least : 2 ≤ size_in s
  least = (image_fine s ready.fine).size.least

  module _ {k : ℕ} where
    pub beside_left : k ≡ left n i → Beside k
    beside_left at =
        rw (at, ready.size) (left_below (size_in s) i (omega (arith, least)), left_other (size_in s) i least inside)

    pub beside_right : k ≡ right n i → Beside k
    beside_right at =
        rw (at, ready.size) (right_below (size_in s) i (omega (arith, least)), right_other (size_in s) i least inside)

module _ {s : List ℕ} (small : Bytes s) {n i : ℕ} {r : Reaction} (ready : Placeable s n i r) where
  -- the records of the ring
  abbrev ring : List Process
  ring = (state_in s).processes

  -- the state with the own record and the envelope written
  abbrev own : State
  own = enveloped (replaced (state_in s) i (shown_process r.own.word)) (shown_envelope r.header)

  long : length own.processes ≡ size_in s
  long = length-set ring i (shown_process r.own.word) ∙ length_state s

  -- both written
  own_written : {t u : List ℕ} → t ≡ splice s (record_at i) (bytes 8 r.own.word)
      → u ≡ splice t 0 (bytes 8 r.header.word ++ bytes 8 r.header.message)
      → u ≡ image_with s own
  own_written {t} {u} first second =
      let image = image_fine s ready.fine in
      let p = shown_process r.own.word in
      let st_one = replaced (state_in s) i p in
      let one : t ≡ image_with s st_one =
      first
      ∙ record_written s i r.own.word ready.fits.own
      ∙ store_process s image.room small image.fits i p (inside ready) in
      let size : r.header.word % 256 ≡ size_in t = ready.kept ∙ sym (ap size_in one ∙ size_written s st_one ∙ long) in
      second
      ∙ header_written t r.header ready.fits.header size
      ∙ ap (λ (x : List ℕ). with_envelope x (shown_envelope r.header)) one
      ∙ write_envelope s st_one (shown_envelope r.header)

  -- ---- a neighbour

  -- what is then read of another process
  other_read : (k : ℕ) → Beside ready k
      → Read (number (image_with s own) (record_at k) 8) (process_at own.processes k)
  other_read k beside =
      let same : process_at own.processes k ≡ process_at ring k =
      get_or-set_other ring i k (shown_process r.own.word) blank beside.1 in
      let facts = (sound_facts s (image_fine s ready.fine).fits).records k beside.0 in
      let low : (process_at ring k).stage ≤ 10 = rw (sym (read_at s k beside.0)) facts.stage in
      let note = (read_in_range s small).notes k (omega (arith, beside.0, length_state s)) in
      record_read s own k (omega (arith, beside.0, long)) (rw same (omega (arith, low))) (rw same note)

  -- its word changed as the rule changes its record
  other_written : {k : ℕ} {u v : List ℕ} (word : ℕ → ℕ) (f : Process → Process) → Beside ready k → u ≡ image_with s own
      → ((w : ℕ) → Tidy w → Read (word w) (f (shown_process w)))
      → v ≡ splice u (record_at k) (bytes 8 (word (number u (record_at k) 8)))
      → v ≡ image_with s (changed_at own k f)
  unfolding change
  other_written {k} word f beside wrote changes third =
      let read = other_read k beside in
      let w = number (image_with s own) (record_at k) 8 in
      let new = changes w read.tidy in
      third
      ∙ rw (wrote, record_written (image_with s own) k (word w) new.tidy, new.is, read.is)
      (write_process s own k (f (process_at own.processes k)) (omega (arith, beside.0, long)))

  -- ---- the whole reaction

  -- what the rule places, by what goes to the neighbours
  abbrev placed_by : Reach → State
  placed_by x =
      let asked = change own.processes (left (length ring) i) (requested (pair_of (asks_in x) 0)) in
      record {
        envelope = shown_envelope r.header;
        processes = change asked (right (length ring) i) (arrived (leaves_in x));
      }

  -- nothing asked, and nothing that leaves
  unasked : change own.processes (left (length ring) i) (requested (pair_of 0 0)) ≡ own.processes
  unasked = unchanged own.processes (left (length ring) i) (requested (pair_of 0 0)) (no_request _)

  stays : (l : List Process) → change l (right (length ring) i) (arrived false) ≡ l
  stays l = unchanged l (right (length ring) i) (arrived false) (no_arrival _)

  module _ {t u : List ℕ} (first : t ≡ splice s (record_at i) (bytes 8 r.own.word))
      (second : u ≡ splice t 0 (bytes 8 r.header.word ++ bytes 8 r.header.message)) where
    at_n : n ≡ length ring
    at_n = ready.size ∙ sym (length_state s)

    -- what is written, by the neighbour that is reached, is what the rule places
    by_reach : {x : Reach} {v : List ℕ} → r.reach ≡ x → v ≡ image_with s (placed_by x) → v ≡ image_with s (placed s i r)
    unfolding place
    by_reach is wrote = wrote ∙ ap (λ (x : Reach). image_with s (placed_by x)) (sym is)

    pub placed_own : r.reach ≡ Own → u ≡ image_with s (placed s i r)
    placed_own is = by_reach is (own_written first second ∙ rw (unasked, stays own.processes))

    pub placed_left : {asks : Statuses} {k : ℕ} {v : List ℕ} → r.reach ≡ Left asks → k ≡ left n i
        → v ≡ splice u (record_at k) (bytes 8 (bit_or (number u (record_at k) 8) (asks.bits * 4194304)))
        → v ≡ image_with s (placed s i r)
    placed_left {asks} is at third =
        let ask = requested (pair_of asks.bits 0) in
        by_reach is
        (other_written (λ w. bit_or w (asks.bits * 4194304)) ask (beside_left ready at) (own_written first second)
        (λ w tidy. requested_shown w tidy asks.bits asks.two) third
        ∙ rw (at, at_n, stays (change own.processes (left (length ring) i) ask)))

    pub placed_right : {k : ℕ} {v : List ℕ} → r.reach ≡ Right → k ≡ right n i
        → v ≡ splice u (record_at k) (bytes 8 (bit_or (number u (record_at k) 8) 512))
        → v ≡ image_with s (placed s i r)
    placed_right is at third =
        by_reach is
        (other_written (λ w. bit_or w 512) (arrived true) (beside_right ready at) (own_written first second)
        arrived_shown third
        ∙ rw (at, at_n, unasked))

-- what is known where a reaction can be placed, and the own record's way through the rule
pub ruleset when_placeable = (image_fine, beside_left, beside_right, placed_own)
