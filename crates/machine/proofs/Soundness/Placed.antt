-- A reaction placed on the ring: its own record is set, then the left's link, which no rule of soundness reads, then
-- the right's arriving flag, which only the count of the flags reads. So what holds of every record, and what is added
-- up over them, changes by the own record alone, and the envelope stays at just one place.
use Prim.Native.Nat.{ℕ, zero, suc, ◌+◌, ◌<◌}
use mathlib.Core.Path.{◌≡◌, refl, ap, ◌∙◌}
use mathlib.Core.Bool.{Bool, true, false, ◌||◌}
use mathlib.Core.List.{List, [], ◌∷◌}
use mathlib.Core.Logic.{◌⊎◌, inl, inr, ◌≢◌}
use native.Mathlib.Omega.{arith}
use native.Mathlib.Nat.{mod-lt}
use lib.ListN.{length, set, length-set}
use lib.Seq.{get_or-set_same, get_or-set_other}
use lib.Dec.{eqb}
use borrow.Author.Tests.{eqb-true, eqb-false}
use Rattle.machine.specs.declared.Pair.{Pair}
use Rattle.machine.specs.declared.Process.{Process}
use Rattle.machine.specs.declared.Reaction.{Reaction}
use Rattle.machine.specs.Bytes.{bit}
use Rattle.machine.specs.Lists.{all, sum}
use Rattle.machine.specs.Ring.{left, right}
use Rattle.machine.specs.Fields.{Status, blank}
use Rattle.machine.specs.Sound.{places, stage_fits, stages_fit}
use Rattle.machine.specs.Events.{requested, arrived, process_at, change, place}
use Rattle.machine.proofs.Laws.Lists.{and_first, and_second, all_at, all_each}
use Rattle.machine.proofs.Laws.Bits.{bit_off}
use Rattle.machine.proofs.Soundness.Around.{length_change}
use Rattle.machine.proofs.Soundness.Sums.{sum_set, part_le, two_le, flags_set}
use Rattle.machine.proofs.Soundness.Settled.{fits_any}

-- ---- one record of a list

-- one record replaced by one of which f holds
pub all_set : (f : Process → Bool) (l : List Process) (i : ℕ) (p : Process) → all f l ≡ true → f p ≡ true
    → all f (set l i p) ≡ true
unfolding all
all_set f [] i p fits fit = refl
all_set f (q ∷ l) zero p fits fit = rw fit (and_second (f q) (all f l) fits)
all_set f (q ∷ l) (suc i) p fits fit =
    rw (and_first (f q) (all f l) fits) (all_set f l i p (and_second (f q) (all f l) fits) fit)

-- a change that f doesn't read
all_change : (f : Process → Bool) (l : List Process) (k : ℕ) (g : Process → Process) → k < length l
    → ((p : Process) → f (g p) ≡ f p) → all f l ≡ true
    → all f (change l k g) ≡ true
unfolding change
all_change f l k g h unread fits =
    all_set f l k (g (process_at l k)) fits (unread (process_at l k) ∙ all_at f l blank fits k h)

-- what is added up changes by the one record
sum_change : (w : Process → ℕ) (l : List Process) (k : ℕ) (g : Process → Process) → k < length l
    → sum w (change l k g) + w (process_at l k) ≡ sum w l + w (g (process_at l k))
unfolding change
sum_change w l k g h = sum_set w l k (g (process_at l k)) h

-- no record more or less after a reaction
pub length_placed : (l : List Process) (i : ℕ) (r : Reaction) → length (place l i r) ≡ length l
unfolding place
length_placed l i r = simp (length_change, length-set)

-- ---- the ring after a reaction

-- the envelope arrives where no flag is set
arrive : (leaves : Bool) (p : Process) → (leaves ≡ true → flags_set p ≡ 0)
    → flags_set (arrived leaves p) ≡ flags_set p + bit leaves
arrive leaves p none = go leaves p.have p.arriving none
  where
    go : (v h a : Bool) → (v ≡ true → bit h + bit a ≡ 0) → bit h + bit (a || v) ≡ bit h + bit a + bit v
    go true h true none = absurd (omega (arith, none refl))
    go true h false none = omega arith
    go false h true none = omega arith
    go false h false none = omega arith

module _ (l : List Process) (i : ℕ) (r : Reaction) (h : i < length l) where
  -- with its own record set
  abbrev own_set : List Process
  own_set = set l i r.process

  -- and with the left's link too
  abbrev left_set : List Process
  left_set = change own_set (left (length l) i) (requested r.asks)

  -- both neighbours are on the ring
  left_in : left (length l) i < length own_set
  left_in = simp length-set (mod-lt _ (omega arith))

  right_in : right (length l) i < length left_set
  right_in = simp (length_change, length-set) (mod-lt _ (omega arith))

  -- what reads neither link nor arriving flag
  pub all_placed : (f : Process → Bool) → ((a : Pair Bool) (p : Process) → f (requested a p) ≡ f p)
      → ((b : Bool) (p : Process) → f (arrived b p) ≡ f p)
      → all f own_set ≡ true
      → all f (place l i r) ≡ true
  unfolding place
  all_placed f no_link no_arriving fits =
      all_change f left_set _ _ right_in (no_arriving r.leaves)
      (all_change f own_set _ _ left_in (no_link r.asks) fits)

  -- and what is added up
  pub sum_placed : (w : Process → ℕ) → ((a : Pair Bool) (p : Process) → w (requested a p) ≡ w p)
      → ((b : Bool) (p : Process) → w (arrived b p) ≡ w p)
      → sum w (place l i r) + w (process_at l i) ≡ sum w l + w r.process
  unfolding place
  sum_placed w no_link no_arriving =
      omega (
        arith,
        sum_set w l i r.process h,
        sum_change w own_set (left (length l) i) (requested r.asks) left_in,
        no_link r.asks (process_at own_set (left (length l) i)),
        sum_change w left_set (right (length l) i) (arrived r.leaves) right_in,
        no_arriving r.leaves (process_at left_set (right (length l) i)),
      )

  -- one place stays one: a flag that went off leaves none, and comes back at the right
  pub places_placed : places l ≡ 1 → flags_set r.process + bit r.leaves ≡ flags_set (process_at l i)
      → places (place l i r) ≡ 1
  unfolding place
  places_placed one flags =
      let k = right (length l) i in
      let own = sum_set flags_set l i r.process h in
      let links = sum_change flags_set own_set (left (length l) i) (requested r.asks) left_in in
      let before : sum flags_set left_set + bit r.leaves ≡ 1 = omega (arith, own, links, one, flags) in
      let here = part_le flags_set left_set k right_in in
      let comes = arrive r.leaves (process_at left_set k) (λ left. omega (arith, ap bit left, before, here)) in
      omega (arith, sum_change flags_set left_set k (arrived r.leaves) right_in, comes, before)

-- ---- the stages of the others

-- the status changes only where the envelope is, and then no other record has it
pub stages_set : (old new : Status) (l : List Process) (i : ℕ) (p : Process) → i < length l → places l ≡ 1
    → ((process_at l i).have ≡ true) ⊎ (new ≡ old)
    → stages_fit old l ≡ true → stage_fits new p.have p.stage ≡ true
    → stages_fit new (set l i p) ≡ true
unfolding stages_fit
stages_set old new l i p h one changes fits fit =
    all_each _ (set l i p) blank (λ j below. each j (omega (arith, length-set l i p)) (eqb j i) refl)
  where
    other : ((process_at l i).have ≡ true) ⊎ (new ≡ old) → (j : ℕ) → j < length l → j ≢ i
        → stage_fits new (process_at l j).have (process_at l j).stage ≡ true
    other (inl had) j below apart =
        let q = process_at l j in
        let away = bit_off q.have
        (omega (arith, two_le flags_set refl l i j h below apart, one, ap bit had)) in
        fits_any old new q.have q.have q.stage away (all_at _ l blank fits j below)
    other (inr same) j below apart = rw same (all_at _ l blank fits j below)

    each : (j : ℕ) → j < length l → (t : Bool) → eqb j i ≡ t
        → stage_fits new (process_at (set l i p) j).have (process_at (set l i p) j).stage ≡ true
    each j below true e =
        let here : j ≡ i = eqb-true j i e in
        rw (here, get_or-set_same l i p blank h) fit
    each j below false e =
        let apart = eqb-false j i e in
        rw (get_or-set_other l i j p blank apart) (other changes j below apart)
