-- A put without the envelope: what it wishes and what the right has asked for is asked for, and what of it wasn't goes
-- left, as the rule asks and passes one status after the other.
use Prim.Native.Nat.{ℕ, zero, suc, ◌-◌, ◌*◌, ◌/◌, ◌%◌, ◌<◌}
use mathlib.Core.Path.{◌≡◌, refl, sym, ap, ◌∙◌}
use mathlib.Core.Bool.{Bool, true, false}
use native.Mathlib.Omega.{arith}
use lib.Bits.{bit_and, bit_or, or_lt}
use Rattle.machine.specs.declared.Pair.{Pair}
use Rattle.machine.specs.declared.Envelope.{Envelope}
use Rattle.machine.specs.declared.Outcome.{Outcome}
use Rattle.machine.specs.Bytes.{bit_of}
use Rattle.machine.specs.Fields.{either, process_of}
use Rattle.machine.specs.Image.{pair_of}
use Rattle.machine.specs.Events as rule
use Rattle.record.specs.declared.process.Record.{Record}
use Rattle.record.specs.Words.{stage_of, flags_of, requests_of, spare_of, note_of, asked_of, itself_of}
use Rattle.record.specs.Words.{shown_envelope}
use Rattle.record.proofs.Fields.{Fields, shows, is_tidy, set_in_2, asked_in, itself_in}
use Rattle.record.specs.declared.statuses.Statuses.{Statuses}
use Rattle.reaction.specs.declared.begun.Begun.{Begun}
use Rattle.reaction.specs.declared.Reach.TheVariants.{Left}
use Rattle.reaction.specs.Reaction.{Ruled, so_far, Makes, asking}
use Rattle.reaction.proofs.Bits.{wanted_in, wanted_by, unless, passed, asks_are}
use Rattle.reaction.proofs.Made.{turned}

-- ---- the rule's pass, at every pair of requests

-- requests for full and for empty
pair : Bool → Bool → Pair Bool
pair f e = record { full = f; empty = e }

module _ (outcome : Outcome) (e : Envelope) (stage note : ℕ) (have arriving news : Bool) (mark link : Pair Bool) where
  -- as it begins, with these requests of the right's and of its own
  abbrev starts : Pair Bool → Pair Bool → Ruled
  starts asked itself = rule.becomes outcome e (process_of stage have arriving news asked itself mark link note)

  -- as it ends, where it wishes for these
  abbrev passes : Pair Bool → Pair Bool → Pair Bool → Ruled
  passes wish asked itself =
      record {
        process = process_of stage have arriving news asked (either itself (either asked wish)) mark link note;
        envelope = e;
        asks = unless (either asked wish) itself;
        leaves = false;
        outcome = outcome;
      }

  -- wishing for nothing, for full, for empty and for both
  abbrev Passes : Pair Bool → Pair Bool → Type 0
  Passes asked itself =
      (rule.pass (asking 0 (starts asked itself)) ≡ passes (pair_of 0 0) asked itself)
      × (rule.pass (asking 1 (starts asked itself)) ≡ passes (pair_of 1 0) asked itself)
      × (rule.pass (asking 2 (starts asked itself)) ≡ passes (pair_of 2 0) asked itself)
      × (rule.pass (asking 3 (starts asked itself)) ≡ passes (pair_of 3 0) asked itself)

  -- asked by the right and itself, each for full and for empty
  each_passes : (af ae tf te : Bool) → Passes (pair af ae) (pair tf te)
  unfolding rule.pass rule.pass_for rule.ask asking pair
  each_passes true true true true = (refl, refl, refl, refl)
  each_passes true true true false = (refl, refl, refl, refl)
  each_passes true true false true = (refl, refl, refl, refl)
  each_passes true true false false = (refl, refl, refl, refl)
  each_passes true false true true = (refl, refl, refl, refl)
  each_passes true false true false = (refl, refl, refl, refl)
  each_passes true false false true = (refl, refl, refl, refl)
  each_passes true false false false = (refl, refl, refl, refl)
  each_passes false true true true = (refl, refl, refl, refl)
  each_passes false true true false = (refl, refl, refl, refl)
  each_passes false true false true = (refl, refl, refl, refl)
  each_passes false true false false = (refl, refl, refl, refl)
  each_passes false false true true = (refl, refl, refl, refl)
  each_passes false false true false = (refl, refl, refl, refl)
  each_passes false false false true = (refl, refl, refl, refl)
  each_passes false false false false = (refl, refl, refl, refl)

  rule_passes : (wish : ℕ) → wish < 4 → (asked itself : Pair Bool)
      → rule.pass (asking wish (starts asked itself)) ≡ passes (pair_of wish 0) asked itself
  unfolding pair
  rule_passes zero few asked itself =
      (each_passes asked.full asked.empty itself.full itself.empty).0
  rule_passes (suc zero) few asked itself =
      (each_passes asked.full asked.empty itself.full itself.empty).1
  rule_passes (suc (suc zero)) few asked itself =
      (each_passes asked.full asked.empty itself.full itself.empty).2
  rule_passes (suc (suc (suc zero))) few asked itself =
      (each_passes asked.full asked.empty itself.full itself.empty).3
  rule_passes (suc (suc (suc (suc n)))) few asked itself = absurd (omega arith)

-- ---- on words

module _ (b : Begun) (wish : Statuses) where
  -- its word, and byte 2
  abbrev w : ℕ
  w = b.own.word

  abbrev q : ℕ
  q = requests_of b.own.word

  pub pass_made : {asked itself wanted : ℕ} {asks : Statuses} {own : Record} → asked ≡ asked_of w → itself ≡ itself_of w
      → wanted ≡ bit_or asked wish.bits
      → asks.bits ≡ bit_and wanted (3 - itself)
      → own.word ≡ bit_or w (wanted * 262144)
      → Makes (λ x. rule.pass (asking wish.bits x)) (so_far b) (turned (so_far b) own b.header (Left asks) b.outcome)
  pass_made {asked} {itself} {wanted} {asks} {own} asked_is itself_is wanted_is asks_is word =
      let want = wish.bits in
      let low : asked ≡ q % 4 = asked_is ∙ asked_in w in
      let high : itself ≡ q / 4 % 4 = itself_is ∙ itself_in w in
      let room : wanted_in want q < 4 = or_lt 2 (q % 4) want (omega arith) wish.two in
      let is : wanted ≡ wanted_in want q = wanted_is ∙ ap (λ x. bit_or x want) low in
      let up : wanted * 262144 ≡ wanted_in want q * 4 * 65536 = ap (λ x. x * 262144) is ∙ omega arith in
      let f : Fields own.word (stage_of w) (flags_of w) (bit_or q (wanted_in want q * 4)) (spare_of w) (note_of w) =
      rw (word, up) (set_in_2 w (wanted_in want q * 4) (omega arith)) in
      let made = shows f ∙ passed want wish.two q (omega arith) (stage_of w) (flags_of w) (note_of w) in
      let asks_lem : pair_of asks.bits 0 ≡ unless (wanted_by want q) (pair_of q 2) =
      rw (asks_is, is, high) (asks_are want wish.two q (omega arith)) in
      let tidy = is_tidy f b.tidy.flags b.tidy.spare b.tidy.note in
      record {
        shows =
            (λ i. record {
              process = made i;
              envelope = shown_envelope b.header;
              asks = asks_lem i;
              leaves = false;
              outcome = b.outcome;
            })
            ∙ sym (rule_passes b.outcome (shown_envelope b.header) (stage_of w) (note_of w) (bit_of (flags_of w) 0)
            (bit_of (flags_of w) 1) (bit_of (flags_of w) 2) (pair_of q 4) (pair_of q 6) want wish.two (pair_of q 0)
            (pair_of q 2));
        fits = record { own = tidy; header = b.header_tidy };
        size = refl;
        started = refl;
      }
