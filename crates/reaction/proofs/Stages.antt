-- The put's decision by stage: each arm of it is that arm of the rule, and the stages that no arm names do no more. Of
-- each part, ask and pass (Passed), mark and clear (Marks) and forward (Forward), it is proved that what its result
-- shows is what the rule's part makes of what was shown (`Makes`), so the parts compose as the rule's do. The answers
-- of the parts are variables here.
use Prim.Native.Nat.{ℕ, zero, suc, ◌+◌, ◌*◌, ◌/◌, ◌%◌, ◌≤◌, ◌<◌}
use mathlib.Core.Path.{◌≡◌, refl, sym, ap, ◌∙◌}
use mathlib.Core.Bool.{Bool, true, false, beq}
use mathlib.Core.Logic.{◌⊎◌, inl, inr}
use native.Mathlib.Omega.{arith}
use lib.Dec.{eqb}
use borrow.Author.Tests.{ne_eqb}
use Rattle.machine.specs.declared.Outcome.{Outcome}
use Rattle.machine.specs.declared.Outcome.TheVariants.{Sent, Got}
use Rattle.machine.specs.Fields.{Status, full, empty}
use Rattle.machine.specs.Events as rule
use Rattle.record.specs.declared.process.Record.{Record}
use Rattle.record.specs.Words.{stage_of, flags_of, have_of, full_of, shown_process, shown_envelope}
use Rattle.record.proofs.Headers.{full_is}
use Rattle.reaction.specs.declared.Reach.{Reach}
use Rattle.reaction.specs.declared.Reach.TheVariants.{Own, Left, Right}
use Rattle.reaction.specs.declared.Reaction.{Reaction}
use Rattle.reaction.specs.Reaction.{Ruled, shown, leaves_in, Fits, Makes, pair_for, asking}
use Rattle.reaction.proofs.Made.{turned, then, likewise, stays, restaged}

-- ---- the parts that go by what they find

-- have, as the rule reads it
have_is : (w : ℕ) → have_of w ≡ (shown_process w).have
have_is w =
    let same : w / 256 % 2 ≡ flags_of w / 1 % 2 = omega arith in
    ap (λ x. eqb x 1) same

-- a put's wish is what it waits for
asking_for : (s : Status) (x : Ruled) → asking (pair_for s) x ≡ rule.ask s x
unfolding asking
asking_for true x = refl
asking_for false x = refl

module _ (r : Reaction) {have : Bool} (read : have ≡ have_of r.own.word) where
  -- the rule's test for it
  here : {b : Bool} → have ≡ b → (shown r).process.have ≡ b
  here is = sym (read ∙ have_is r.own.word) ∙ is

  pub relay_have : {t : Reaction} → have ≡ true → Makes rule.forward r t → Makes rule.relay r t
  unfolding rule.relay
  relay_have is made = likewise made (rw (here is))

  pub relay_without : {t : Reaction} → have ≡ false → Makes (λ x. rule.pass (asking 0 x)) r t → Makes rule.relay r t
  unfolding rule.relay asking
  relay_without is made = likewise made (rw (here is))

  module _ (s : Status) where
    -- the stage that comes after it
    abbrev next : ℕ
    next = stage_of r.own.word + 1

    pub wait_without : {t : Reaction} {wish : ℕ} → have ≡ false → wish ≡ pair_for s
        → Makes (λ x. rule.pass (asking wish x)) r t
        → Makes (rule.wait s next) r t
    unfolding rule.wait
    wait_without is wish made =
        let asked : rule.pass (asking _ (shown r)) ≡ rule.pass (rule.ask s (shown r)) =
        ap (λ n. rule.pass (asking n (shown r))) wish ∙ ap rule.pass (asking_for s (shown r)) in
        likewise made (asked ∙ rw (here is))

    module _ (fits : Fits r) {status : Bool} (status_read : status ≡ full_of r.header.word) where
      same_status : {b : Bool} → beq status s ≡ b → beq (shown_envelope r.header).full s ≡ b
      same_status is = ap (λ x. beq x s) (sym (status_read ∙ full_is r.header fits.header)) ∙ is

      pub wait_same : have ≡ true → beq status s ≡ true → stage_of r.own.word < 255 → {found : ℕ}
          → found ≡ stage_of r.own.word
          → {own : Record} → own.word ≡ r.own.word / 256 * 256 + (found + 1)
          → Makes (rule.wait s next) r (turned r own r.header r.reach r.outcome)
      unfolding rule.wait
      wait_same is same few found word =
          likewise (restaged r fits next (omega arith) r.outcome (rw found at word)) (rw (here is, same_status same))

      pub wait_other : {t u : Reaction} → have ≡ true → beq status s ≡ false → Makes rule.mark r t
          → Makes rule.forward t u
          → Makes (rule.wait s next) r u
      unfolding rule.wait
      wait_other is other first second = likewise (then first second) (rw (here is, same_status other))

-- ---- ends

-- the envelope stays at the first two of the three reaches: none, and the left with requests
stayed : (x : Reach) → (x ≡ Right → ⊥) → leaves_in x ≡ false
stayed Own other = refl
stayed (Left asks) other = refl
stayed Right other = absurd (other refl)

module _ (r : Reaction) (fits : Fits r) where
  pub ends_made : (outcome : Outcome) {own : Record} → own.word ≡ r.own.word / 256 * 256 + 0
      → Makes (rule.ends outcome) r (turned r own r.header r.reach outcome)
  unfolding rule.ends
  ends_made outcome word = likewise (restaged r fits 0 (omega arith) outcome word) refl

  pub end_stayed : (r.reach ≡ Right → ⊥) → Makes rule.end_put r r
  unfolding rule.end_put
  end_stayed other = stays fits (rw (stayed r.reach other))

  pub end_left : {t : Reaction} → r.reach ≡ Right → Makes (rule.ends Sent) r t → Makes rule.end_put r t
  unfolding rule.end_put
  end_left is made = likewise made (rw is)

-- ---- by the stage

-- the first two stages
low : (stage : ℕ) (x : Ruled) → stage < 2 → rule.relay x ≡ rule.put_at stage x
unfolding rule.put_at
low zero x h = refl
low (suc zero) x h = refl
low (suc (suc n)) x h = absurd (omega arith)

module _ (r : Reaction) {found stage : ℕ} (read : found ≡ stage) where
  pub at_low : {t : Reaction} → found < 2 → Makes rule.relay r t → Makes (rule.put_at stage) r t
  at_low h made = likewise made (low stage (shown r) (omega arith))

  pub at_six : {t : Reaction} → found ≡ 6 → Makes rule.relay r t → Makes (rule.put_at stage) r t
  unfolding rule.put_at
  at_six is made = likewise made (rw (sym read ∙ is))

  pub at_five : {t u v : Reaction} → found ≡ 5 → Makes (rule.clear empty) r t → Makes rule.forward t u
      → Makes rule.end_put u v
      → Makes (rule.put_at stage) r v
  unfolding rule.put_at
  at_five is first second third = likewise (then (then first second) third) (rw (sym read ∙ is))

  pub at_ten : {t u v : Reaction} → found ≡ 10 → Makes (rule.clear full) r t → Makes rule.forward t u
      → Makes (rule.ends Got) u v
      → Makes (rule.put_at stage) r v
  unfolding rule.put_at
  at_ten is first second third = likewise (then (then first second) third) (rw (sym read ∙ is))

  -- a stage that waits: 2 for an empty envelope, 7 for a full one
  pub at_wait : {t : Reaction} → (found ≡ 2) ⊎ (found ≡ 7) → Makes (rule.wait (eqb found 7) (stage + 1)) r t
      → Makes (rule.put_at stage) r t
  unfolding rule.put_at
  at_wait (inl two) made = likewise made (rw (sym read ∙ two, two))
  at_wait (inr seven) made = likewise made (rw (sym read ∙ seven, seven))

  -- a stage that is none of those that do something
  pub at_else : Fits r → 2 ≤ found → ((found ≡ 2) ⊎ (found ≡ 7) → ⊥) → (found ≡ 5 → ⊥) → (found ≡ 6 → ⊥)
      → (found ≡ 10 → ⊥)
      → Makes (rule.put_at stage) r r
  unfolding rule.put_at
  at_else fits some no_wait not5 not6 not10 =
      stays fits
      (rw (
        sym read,
        ne_eqb found 0 (λ is. omega arith),
        ne_eqb found 1 (λ is. omega arith),
        ne_eqb found 2 (λ is. no_wait (inl is)),
        ne_eqb found 5 not5,
        ne_eqb found 6 not6,
        ne_eqb found 7 (λ is. no_wait (inr is)),
        ne_eqb found 10 not10,
      ))
