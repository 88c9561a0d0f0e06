-- One process where no event finds anything to do. With the envelope it rests as clause A says. Without it, it asked
-- its left for the present status only if its left was asked: so if its left rests as clause A says, it does too. And
-- then no put or get that the present status serves is under way here.
use Prim.Native.Nat.{ℕ, ◌≤◌}
use mathlib.Core.Path.{◌≡◌, refl, sym, ◌∙◌}
use mathlib.Core.Bool.{Bool, true, false, not, cond, ◌&&◌, ◌||◌, true≢false, false≢true}
use lib.Dec.{eqb, leb}
use borrow.Author.Tests.{leb-true, eqb-true, not-true}
use Rattle.machine.specs.declared.Envelope.{Envelope}
use Rattle.machine.specs.declared.Process.{Process}
use Rattle.machine.specs.Bytes.{bit}
use Rattle.machine.specs.Lists.{every}
use Rattle.machine.specs.Fields.{Status, for}
use Rattle.machine.specs.Stages.{last_stage, told, sending, filled, receiving}
use Rattle.machine.specs.Sound.{stage_fits}
use Rattle.machine.proofs.Laws.Lists.{and_first, and_second, or_first, or_second, follow}
use Rattle.machine.proofs.Soundness.Settled.{Fits, had_at, waits_for}
use Rattle.machine.proofs.Stopped.{nothing_at}
use Rattle.machine.proofs.Balance.Clauses.{resting, emptied, Rests, seeks, HasAsked}
use Rattle.machine.proofs.Balance.Clauses.{holds_request, Handed}
use Rattle.machine.proofs.Balance.Stages.{at_stages}

-- ---- laws of tests

-- what can't be on is off
pub refuted : (b : Bool) → (b ≡ true → ⊥) → b ≡ false
refuted true never = absurd (never refl)
refuted false never = refl

-- ---- nothing to do

-- it is at rest, nothing arrives, no request is on its link, and it has no news
pub record Still (p : Process) : Type 0 where
  pub at_rest : resting p.stage ≡ true
  pub unreached : p.arriving ≡ false
  pub unlinked : (s : Status) → for p.link s ≡ false
  pub unaware : p.news ≡ false

-- no work and no signal
abbrev unmoved : ℕ → Bool
unmoved stage = not (eqb stage 3) && not (eqb stage 8) && not (told stage)

unmoved_rests : (stage : ℕ) → leb stage last_stage ≡ true → unmoved stage ≡ true → resting stage ≡ true
unfolding every
unmoved_rests stage range =
    follow (unmoved stage) (resting stage) (at_stages (λ k. not (unmoved k) || resting k) refl stage range)

pub nothing_still : (p : Process) → leb p.stage last_stage ≡ true → nothing_at p ≡ true → Still p
nothing_still p range nothing =
    let a = unmoved p.stage in
    let b = not p.arriving in
    let c = not p.link.full in
    let d = not p.link.empty in
    let to_d = and_first (a && b && c && d) (not p.news) nothing in
    let to_c = and_first (a && b && c) d to_d in
    let to_b = and_first (a && b) c to_c in
    record {
      at_rest = unmoved_rests p.stage range (and_first a b to_b);
      unreached = not-true p.arriving (and_second a b to_b);
      unlinked =
          elim [
            | true ↦ not-true p.link.full (and_second (a && b) c to_c)
            | false ↦ not-true p.link.empty (and_second (a && b && c) d to_d)
          ];
      unaware = not-true p.news (and_second (a && b && c && d) (not p.news) nothing);
    }

-- a put at rest that has filled the envelope is in stage 5
pub filled_rests : (stage : ℕ) → leb stage last_stage ≡ true → resting stage ≡ true → filled stage ≡ true → stage ≡ 5
unfolding every
filled_rests stage range rests on =
    let law = at_stages (λ k. not (resting k && filled k) || eqb k 5) refl stage range in
    eqb-true stage 5 (follow (resting stage && filled stage) (eqb stage 5) law (rw (rests, on)))

-- ---- at rest as clause A says

-- without the envelope and unmarked it follows from the left
module _ (e : Envelope) (p left : Process) (still : Still p) (calm : Still left) (away : p.have ≡ false) where
  -- clause D: the left wasn't asked, so it hasn't asked
  silent : Handed e.full p left → Rests e left → for p.itself e.full ≡ false
  silent handed rest =
      refuted (for p.itself e.full)
      (λ on.
      let lies : holds_request e.full left ≡ true = handed (rw (on, away, still.unreached)) in
      false≢true (rw (rest.unasked, calm.unlinked e.full) at lies))

  -- clause C: so it needs nothing
  needless : HasAsked e.full p → for p.itself e.full ≡ false → seeks e.full p ≡ false
  needless asked off =
      refuted (seeks e.full p) (λ on. true≢false (sym (asked away still.unaware on) ∙ off))

  pub rests_on : Fits e p → HasAsked e.full p → Handed e.full p left → for p.mark e.full ≡ false
      → Rests e left
      → Rests e p
  rests_on fits asked handed unmarked rest =
      let waiting = eqb p.stage (waits_for e.full) in
      let marked = for p.mark e.full in
      let off = needless asked (silent handed rest) in
      let unwaiting = or_second (for p.asked e.full) (waiting && not marked) off in
      record {
        over =
            refuted (eqb p.stage 10)
            (λ found. true≢false (sym (had_at e p fits 10 (eqb-true p.stage 10 found) refl) ∙ away));
        waits = refuted waiting (λ on. true≢false (rw (on, unmarked) at unwaiting));
        unwanted = rest.unwanted;
        unasked = or_first (for p.asked e.full) (waiting && not marked) off;
      }

-- ---- the stages that are left

-- those of the party that a status serves: a get takes a full envelope, a put fills an empty one
abbrev pub served : Status → ℕ → Bool
served status = cond status receiving sending

-- it isn't served, has taken nothing, and has filled only an envelope that is full and here
pub record Unserved (status : Status) (have : Bool) (stage : ℕ) : Type 0 where
  pub outside : served status stage ≡ false
  pub untaken : emptied stage ≡ false
  pub filler : bit (filled stage) ≤ bit (status && have)

-- the stage has the envelope that it needs, is at rest, doesn't wait for the present status, and isn't 10
abbrev standing : Status → Bool → ℕ → Bool
standing status have stage =
    stage_fits status have stage && resting stage && not (eqb stage (waits_for status)) && not (eqb stage 10)

-- then it is unserved, as a test
abbrev stands_unserved : Status → Bool → ℕ → Bool
stands_unserved status have stage =
    not (standing status have stage)
    || not (served status stage) && not (emptied stage) && leb (bit (filled stage)) (bit (status && have))

-- which holds at every stage
stands_unserved_lem : (status have : Bool) → every 11 (stands_unserved status have) ≡ true
unfolding every
stands_unserved_lem true true = refl
stands_unserved_lem true false = refl
stands_unserved_lem false true = refl
stands_unserved_lem false false = refl

pub rests_unserved : (e : Envelope) (p : Process) → Fits e p → Still p → Rests e p
    → Unserved e.full p.have p.stage
rests_unserved e p fits still rest =
    let a = not (served e.full p.stage) in
    let b = not (emptied p.stage) in
    let c = leb (bit (filled p.stage)) (bit (e.full && p.have)) in
    let each = stands_unserved_lem e.full p.have in
    let law = at_stages (stands_unserved e.full p.have) each p.stage fits.range in
    let stands : standing e.full p.have p.stage ≡ true =
    rw (fits.has, still.at_rest, rest.waits, rest.over) in
    let to_c = follow (standing e.full p.have p.stage) (a && b && c) law stands in
    let to_b = and_first (a && b) c to_c in
    record {
      outside = not-true (served e.full p.stage) (and_first a b to_b);
      untaken = not-true (emptied p.stage) (and_second a b to_b);
      filler = leb-true (bit (filled p.stage)) (bit (e.full && p.have)) (and_second (a && b) c to_c);
    }
