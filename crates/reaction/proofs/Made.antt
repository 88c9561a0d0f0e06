-- What the rule makes of a reaction, part after part; and what a reaction shows, by its words' fields.
use Prim.Native.Nat.{ℕ, ◌+◌, ◌*◌, ◌/◌, ◌<◌}
use mathlib.Core.Path.{◌≡◌, refl, ap, ◌∙◌}
use Rattle.machine.specs.declared.Envelope.{Envelope}
use Rattle.machine.specs.declared.Process.{Process}
use Rattle.machine.specs.declared.Outcome.{Outcome}
use Rattle.machine.specs.Fields.{with_stage}
use Rattle.machine.specs.Image.{pair_of}
use Rattle.record.specs.declared.process.Record.{Record}
use Rattle.record.specs.declared.header.Header.{Header}
use Rattle.record.specs.Words.{flags_of, requests_of, spare_of, note_of, shown_envelope}
use Rattle.record.proofs.Fields.{Fields, shows, is_tidy, at_stage}
use Rattle.reaction.specs.declared.begun.Begun.{Begun}
use Rattle.reaction.specs.declared.Reach.{Reach}
use Rattle.reaction.specs.declared.Reaction.{Reaction}
use Rattle.reaction.specs.Reaction.{Ruled, asks_in, leaves_in, shown, Fits, so_far, Makes}

-- r with another record, header, reach and outcome
abbrev pub turned : Reaction → Record → Header → Reach → Outcome → Reaction
turned r own header reach outcome =
    record { own = own; header = header; reach = reach; started = r.started; outcome = outcome }

-- words in order, by the type
pub so_far_fits : (b : Begun) → Fits (so_far b)
so_far_fits b = record { own = b.tidy; header = b.header_tidy }

-- ---- made by the rule

-- one part after the other
pub then : {f g : Ruled → Ruled} {r t u : Reaction} → Makes f r t → Makes g t u → Makes (λ x. g (f x)) r u
then {g = g} one two =
    record {
      shows = two.shows ∙ ap g one.shows;
      fits = two.fits;
      size = two.size ∙ one.size;
      started = two.started ∙ one.started;
    }

-- by another rule that does the same here
pub likewise : {f g : Ruled → Ruled} {r t : Reaction} → Makes f r t → f (shown r) ≡ g (shown r) → Makes g r t
likewise made same =
    record { shows = made.shows ∙ same; fits = made.fits; size = made.size; started = made.started }

-- nothing is done
pub stays : {f : Ruled → Ruled} {r : Reaction} → Fits r → shown r ≡ f (shown r) → Makes f r r
stays fits same = record { shows = same; fits = fits; size = refl; started = refl }

-- ---- what is shown, by the words' fields

-- a reaction that reaches this far, with this record and this envelope
abbrev pub seen : Reach → Outcome → Process → Envelope → Ruled
seen reach outcome p e =
    record {
      process = p;
      envelope = e;
      asks = pair_of (asks_in reach) 0;
      leaves = leaves_in reach;
      outcome = outcome;
    }

-- ---- another stage

-- the stage and the outcome are other ones, and all else stays
pub restaged : (r : Reaction) → Fits r → (stage : ℕ) → stage < 256 → (outcome : Outcome) {own : Record}
    → own.word ≡ r.own.word / 256 * 256 + stage
    → Makes (λ x. record {
      process = with_stage stage x.process;
      envelope = x.envelope;
      asks = x.asks;
      leaves = x.leaves;
      outcome = outcome;
    }) r (turned r own r.header r.reach outcome)
restaged r fits stage byte outcome {own} word =
    let w = r.own.word in
    let f : Fields own.word stage (flags_of w) (requests_of w) (spare_of w) (note_of w) =
    rw word (at_stage w stage byte) in
    let tidy = is_tidy f fits.own.flags fits.own.spare fits.own.note in
    record {
      shows = ap (λ p. seen r.reach outcome p (shown_envelope r.header)) (shows f);
      fits = record { own = tidy; header = fits.header };
      size = refl;
      started = refl;
    }
