-- A possible event once its row is done: what put and main's work may then know, and that what they make of it shows
-- the rule's reaction, for each of the eight codes. A reaction in words shows the rule's one that it stands for
-- (reaction/specs/Reaction, `shown`). The row of a code makes of the own record what the rule does first (Next); codes
-- 0, 1 and 3 to 6 end there. Main's work then changes status, message and note (Works), and a put goes on by its stage
-- (reaction/proofs/Stages). Whether the event is possible was asked before (Possible).
use Prim.Native.Nat.{ℕ, ◌+◌, ◌-◌, ◌*◌, ◌%◌, ◌^◌, ◌<◌}
use mathlib.Core.Path.{◌≡◌, refl, sym, ap, ◌∙◌}
use native.Mathlib.Omega.{arith}
use native.Mathlib.Nat.{mod-eq_of_lt}
use lib.Bits.{bit_and}
use borrow.Author.Tests.{eq-eqb, ne_eqb}
use Rattle.machine.specs.declared.Outcome.TheVariants.{Moved}
use Rattle.machine.specs.Fields.{for}
use Rattle.machine.specs.Events.{put_at, react}
use Rattle.record.specs.declared.process.Record.{Record}
use Rattle.record.specs.declared.header.Header.{Header}
use Rattle.record.specs.Words.{stage_of, shown_process, shown_envelope, Tidy}
use Rattle.reaction.specs.declared.Reaction.{Reaction}
use Rattle.reaction.specs.declared.Reach.TheVariants.{Own}
use Rattle.reaction.specs.Reaction.{Ruled, Makes}
use Rattle.reaction.specs.Ready.{Ready}
use Rattle.event.specs.declared.Event.{Event}
use Rattle.event.specs.declared.Row.{Row}
use Rattle.event.specs.Rows.{started_by, row_of}
use Rattle.event.specs.Applied.{worked, Applicable, Reacts}
use Rattle.event.proofs.Codes.{by_code}
use Rattle.event.proofs.Next.{Next, next}

-- what a row counts as started is its code's
row_starts : (code : ℕ) → code < 8 → (row_of code).started ≡ started_by code
unfolding row_of
row_starts = by_code (λ k. (row_of k).started ≡ started_by k) refl refl refl refl refl refl refl refl

module _ {v : Event} {header : Header} {own : Record} {row : Row} (known : Applicable v header own)
    (read : row ≡ row_of (v.code % 8)) where
  -- the word as the code computes it
  abbrev word : ℕ
  word = bit_and own.word (18446744073709551615 - row.off) + row.on + v.message * 4294967296

  abbrev ruled : Ruled
  ruled = react v.code v.message (shown_envelope header) (shown_process own.word)

  row_is : row ≡ row_of v.code
  row_is = read ∙ ap row_of (mod-eq_of_lt known.code)

  stepped : Next v.code (shown_envelope header) own.word word ruled
  stepped =
      rw row_is
      (next v.message own.word (shown_envelope header) known.message known.tidy known.stage v.code
      known.code known.silent known.moves)

  pub word_tidy : Tidy word
  word_tidy = stepped.tidy

  pub word_fits : word < 2 ^ 64
  word_fits = omega (arith, stepped.tidy.note)

  -- ---- what goes on from here

  -- the record after its row, and nothing else yet
  abbrev begin : Reaction
  begin =
      record { own = record { word = word }; header = header; reach = Own; started = row.started; outcome = Moved }

  pub still_ready : Ready (shown_envelope header) (shown_process word)
  still_ready =
      record {
        room = known.ready.room;
        counted = λ s marked. known.ready.counted s (ap (λ m. for m s) (sym stepped.marks) ∙ marked);
      }

  -- ---- what came of it

  counts : row.started ≡ started_by v.code
  counts = ap (λ x. x.started) row_is ∙ row_starts v.code known.code

  abbrev Answers : Reaction → Type 0
  Answers r = Reacts ruled header (started_by v.code) r

  pub after_put : {t : Reaction} → v.code ≡ 7 → Makes (put_at (stage_of word)) begin t → Answers t
  after_put seven made =
      record {
        shows = made.shows ∙ (rw (eq-eqb v.code 7 seven) at stepped.makes);
        fits = made.fits;
        size = made.size;
        counts = made.started ∙ counts;
      }

  pub after_work : {t : Reaction} → v.code ≡ 2
      → Reacts (worked (shown_envelope header) (shown_process word)) header row.started t → Answers t
  after_work two made =
      let not_seven = ne_eqb v.code 7 (λ is. omega arith) in
      record {
        shows = made.shows ∙ (rw (not_seven, eq-eqb v.code 2 two) at stepped.makes);
        fits = made.fits;
        size = made.size;
        counts = made.counts ∙ counts;
      }

  pub after_row : {r : Reaction} → r ≡ begin → (v.code ≡ 7 → ⊥) → (v.code ≡ 2 → ⊥) → Answers r
  after_row is not_seven not_two =
      rw is
      (record {
        shows = rw (ne_eqb v.code 7 not_seven, ne_eqb v.code 2 not_two) at stepped.makes;
        fits = record { own = stepped.tidy; header = known.header_tidy };
        size = refl;
        counts = counts;
      })
