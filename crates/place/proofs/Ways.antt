-- Each way through an event on an image: where it isn't possible it is idle, and the image stays as it is, since an
-- idle event keeps the state (Idle) and a sound image is what its state writes (Image.Rewrite); any other is the rule's
-- reaction at its process, placed. What lower functions answered is a variable here, with the value that it is known to
-- be.
use Prim.Native.Nat.{ℕ, ◌+◌, ◌%◌, ◌≤◌, ◌<◌}
use mathlib.Core.Path.{◌≡◌, sym, ap, ◌∙◌}
use mathlib.Core.Bool.{Bool, true, false, not}
use mathlib.Core.List.{List}
use native.Mathlib.Omega.{arith}
use borrow.Author.Tests.{not-true, not-false}
use lib.Dec.{eqb}
use mir.Syntax.{w64}
use mir.Val.{Fits}
use Rattle.machine.specs.declared.Process.{Process}
use Rattle.machine.specs.declared.Outcome.TheVariants.{Idle}
use Rattle.machine.specs.Bytes.{Bytes, number, bit_of}
use Rattle.machine.specs.Ring.{record_at}
use Rattle.machine.specs.Image.{size_in, state_in, image_with}
use Rattle.machine.specs.Events as rule
use Rattle.machine.specs.Stopped.{is_idle}
use Rattle.machine.specs.Traffic.{traffic}
use Rattle.machine.proofs.Image.Rewrite.{rewrite_image}
use Rattle.machine.proofs.Laws.Bits.{bit_le}
use Rattle.machine.proofs.Laws.Refusals.{image_fine}
use Rattle.machine.proofs.Soundness.Sound.{sound_facts}
use Rattle.machine.proofs.Image.Stored.{read_at, read_envelope_at}
use Rattle.machine.proofs.Idle.{idle_keeps}
use Rattle.machine.proofs.LinkTraffic.{idle_none}
use Rattle.machine.proofs.Stopped.{idle_is}
use Rattle.machine.proofs.Soundness.Sums.{marked_small, marked_counted}
use Rattle.record.specs.declared.process.Record.{Record}
use Rattle.record.specs.declared.header.Header.{Header}
use Rattle.record.specs.Words.{stage_of, shown_process, shown_envelope, Tidy}
use Rattle.record.proofs.Images.{Read, sound_read, header_shows, header_tidy, header_size}
use Rattle.reaction.specs.declared.Reaction.{Reaction}
use Rattle.reaction.specs.Reaction.{Ruled, asks_in, leaves_in, shown, traffic_by, traffic_word}
use Rattle.event.specs.declared.Event.{Event}
use Rattle.event.specs.Parsed.{ruled}
use Rattle.event.specs.Rows.{Possible, started_by}
use Rattle.event.specs.Applied.{Applicable, Reacts}
use Rattle.place.specs.Performed.{Placeable, placed, Performable, Performed}

-- a start and the traffic of one event together
pub counted_fits : (code : ℕ) (r : Reaction) {word : ℕ} → r.started ≡ started_by code
    → word ≡ traffic_word (traffic_by (asks_in r.reach) (leaves_in r.reach))
    → Fits w64 (r.started + word)
counted_fits code r starts told =
    let asks = asks_in r.reach in
    rw (starts, told)
    (let put = bit_le (eqb code 0) in
    let get = bit_le (eqb code 1) in
    let full = bit_le (bit_of asks 0) in
    let empty = bit_le (bit_of asks 1) in
    let left = bit_le (leaves_in r.reach) in
    omega arith)

module _ {s : List ℕ} (small : Bytes s) {event : Event} (ready : Performable s event) {own : Record}
    (read : own.word ≡ number s (record_at event.process) 8) where
  abbrev i : ℕ
  i = event.process

  -- the record that stands there
  abbrev found : Process
  found = rule.process_at (state_in s).processes i

  here : Read own.word found
  here = rw read (sound_read s i ready.fine small ready.below)

  low : stage_of own.word ≤ 10
  low =
      let facts = (sound_facts s (image_fine s ready.fine).fits).records i ready.below in
      rw (ap (λ (p : Process). p.stage) (here.is ∙ sym (read_at s i ready.below))) facts.stage

  pub may_test : (event.code < 8) × Tidy own.word × (stage_of own.word ≤ 10)
  may_test = (ready.code, here.tidy, low)

  -- whether the event does something, by the test
  said_by : {b : Bool} → Possible event.code own.word b
      → b ≡ not (is_idle (rule.outcome (state_in s) (ruled event)))
  unfolding rule.outcome rule.reaction
  said_by test =
      let react = rule.react event.code event.message (state_in s).envelope in
      test event.message (state_in s).envelope ∙ ap (λ p. not (is_idle (react p).outcome)) here.is

  pub idle_done : {b : Bool} → Possible event.code own.word b → not b ≡ true
      → Performed s event (record { outcome = Idle; counted = 0 })
      × (s ≡ image_with s (rule.apply (state_in s) (ruled event)))
  idle_done {b} test off =
      let image = image_fine s ready.fine in
      let idle : is_idle (rule.outcome (state_in s) (ruled event)) ≡ true =
      not-false _ (sym (said_by test) ∙ not-true b off) in (
        record {
          said = sym (idle_is (rule.outcome (state_in s) (ruled event)) idle);
          counts = rw (idle_none (state_in s) (ruled event) idle);
        },
        sym (rewrite_image s image.room small image.fits)
            ∙ ap (image_with s) (sym (idle_keeps (state_in s) (ruled event) idle)),
      )

  -- ---- one that is possible

  module _ {b : Bool} (test : Possible event.code own.word b) (yes : not b ≡ false) {header : Header}
      (head : (header.word ≡ number s 0 8) × (header.message ≡ number s 8 8)) where
    moves : is_idle (rule.outcome (state_in s) (ruled event)) ≡ false
    moves = not-true _ (sym (said_by test) ∙ not-false b yes)

    header_is : header ≡ record { word = number s 0 8; message = number s 8 8 }
    header_is = λ i. record { word = head.0 i; message = head.1 i }

    envelope_is : shown_envelope header ≡ (state_in s).envelope
    envelope_is = ap shown_envelope header_is ∙ header_shows s ready.fine small ∙ read_envelope_at s

    -- the rule's reaction, as the words show what it is of
    reaction_is : rule.react event.code event.message (shown_envelope header) (shown_process own.word)
        ≡ rule.reaction (state_in s) (ruled event)
    unfolding rule.reaction
    reaction_is = rw (envelope_is, here.is)

    pub may_apply : Applicable event header own
    unfolding rule.outcome
    may_apply =
        record {
          code = ready.code;
          message = ready.message;
          silent = ready.silent;
          stage = low;
          tidy = here.tidy;
          header_tidy = rw header_is (header_tidy s ready.fine small);
          ready =
              rw (envelope_is, here.is)
              (record {
                room = λ t. omega (arith, marked_small s ready.fine t);
                counted = λ t. marked_counted s ready.fine i ready.below t;
              });
          moves = ap (λ (x : Ruled). is_idle x.outcome) reaction_is ∙ moves;
        }

    module _ {r : Reaction}
        (reacts : Reacts
        (rule.react event.code event.message (shown_envelope header) (shown_process own.word)) header
        (started_by event.code) r) {n : ℕ} (size : n ≡ header.word % 256) where
      n_is : header.word % 256 ≡ size_in s
      n_is = rw head.0 (header_size s ready.fine small)

      pub may_place : Placeable s n i r
      may_place =
          record {
            fine = ready.fine;
            size = size ∙ n_is;
            below = omega (arith, ready.below, size, n_is);
            fits = reacts.fits;
            kept = reacts.size ∙ n_is;
          }

      pub moved_done : {t : List ℕ} {word : ℕ} → t ≡ image_with s (placed s i r)
          → word ≡ traffic_word (traffic_by (asks_in r.reach) (leaves_in r.reach))
          → Performed s event (record { outcome = r.outcome; counted = r.started + word })
          × (t ≡ image_with s (rule.apply (state_in s) (ruled event)))
      unfolding rule.outcome rule.apply traffic
      moved_done wrote told =
          let same : shown r ≡ rule.reaction (state_in s) (ruled event) = reacts.shows ∙ reaction_is in
          let said : r.outcome ≡ rule.outcome (state_in s) (ruled event) = ap (λ (x : Ruled). x.outcome) same in (
            record {
              said = said;
              counts = rw (told, reacts.counts, ap is_idle said ∙ moves, ← same);
            },
            wrote ∙ rw (← same),
          )
