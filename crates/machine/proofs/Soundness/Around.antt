-- The records after a reaction at process i: its own is the new one, and every other is as it was, but for requests on
-- the left's link and the arriving flag of the right. Left and right are other processes, for two or more; where they
-- are one and the same it has both.
use Prim.Native.Nat.{ℕ, ◌≤◌, ◌<◌}
use mathlib.Core.Path.{◌≡◌, refl, sym, ap, ◌∙◌}
use mathlib.Core.Bool.{Bool, true, false, cond, ◌&&◌, or-false}
use mathlib.Core.List.{List}
use mathlib.Core.Logic.{◌≢◌}
use native.Mathlib.Omega.{arith}
use lib.ListN.{length, set, length-set}
use lib.Seq.{get_or-set_same, get_or-set_other}
use lib.Dec.{eqb}
use borrow.Author.Tests.{eqb-true, eqb-false, ne_eqb}
use Rattle.machine.specs.declared.Pair.{Pair}
use Rattle.machine.specs.declared.Process.{Process}
use Rattle.machine.specs.declared.Reaction.{Reaction}
use Rattle.machine.specs.Ring.{left, right}
use Rattle.machine.specs.Fields.{none, blank}
use Rattle.machine.specs.Events.{requested, arrived, process_at, change, place}
use Rattle.machine.proofs.Laws.Ring.{left_below, right_below, left_other, right_other}

-- ---- a neighbour that nothing goes to

pub no_request : (p : Process) → requested none p ≡ p
no_request p = rw (or-false p.link.full, or-false p.link.empty)

pub no_arrival : (p : Process) → arrived false p ≡ p
no_arrival p = rw (or-false p.arriving)

-- ---- one record changed

-- no record more or less
pub length_change : (l : List Process) (k : ℕ) (g : Process → Process) → length (change l k g) ≡ length l
unfolding change
length_change l k g = length-set l k (g (process_at l k))

-- seen at any process
changed_at_lem : (l : List Process) (k : ℕ) (f : Process → Process) → k < length l → (j : ℕ)
    → process_at (change l k f) j ≡ cond (eqb j k) (f (process_at l j)) (process_at l j)
unfolding change
changed_at_lem l k f h j = go (eqb j k) refl
  where
    go : (b : Bool) → eqb j k ≡ b
        → process_at (set l k (f (process_at l k))) j ≡ cond b (f (process_at l j)) (process_at l j)
    go true e =
        let here : j ≡ k = eqb-true j k e in
        rw here (get_or-set_same l k (f (process_at l k)) blank h)
    go false e = get_or-set_other l k j (f (process_at l k)) blank (eqb-false j k e)

-- requests at one process alone
requested_if : (b : Bool) (a : Pair Bool) (p : Process) → cond b (requested a p) p ≡ requested (cond b a none) p
requested_if true a p = refl
requested_if false a p = sym (no_request p)

-- an arrival at one process alone
arrived_if : (b leaves : Bool) (p : Process) → cond b (arrived leaves p) p ≡ arrived (b && leaves) p
arrived_if true leaves p = refl
arrived_if false leaves p = sym (no_arrival p)

-- what a reaction at i makes of the record of process j, if j is another one
abbrev pub beside : ℕ → ℕ → Reaction → ℕ → Process → Process
beside n i r j p = arrived (eqb j (right n i) && r.leaves) (requested (cond (eqb j (left n i)) r.asks none) p)

module _ (l : List Process) (i : ℕ) (r : Reaction) (two : 2 ≤ length l) (below : i < length l) where
  -- in the order in which the rule places it
  placed_at : (j : ℕ) → process_at (place l i r) j ≡ beside (length l) i r j (process_at (set l i r.process) j)
  unfolding place
  placed_at j =
      let n = length l in
      let own = set l i r.process in
      let with_left = change own (left n i) (requested r.asks) in
      let left_in : left n i < length own = simp length-set (left_below n i (omega arith)) in
      let right_in : right n i < length with_left =
      simp (length_change, length-set) (right_below n i (omega arith)) in
      let at_left = changed_at_lem own (left n i) (requested r.asks) left_in j
      ∙ requested_if (eqb j (left n i)) r.asks (process_at own j) in
      changed_at_lem with_left (right n i) (arrived r.leaves) right_in j
      ∙ arrived_if (eqb j (right n i)) r.leaves (process_at with_left j)
      ∙ ap (arrived (eqb j (right n i) && r.leaves)) at_left

  -- at the process of the event
  pub placed_self : process_at (place l i r) i ≡ r.process
  placed_self =
      let n = length l in
      let not_left = ne_eqb i (left n i) (λ same. left_other n i two below (sym same)) in
      let not_right = ne_eqb i (right n i) (λ same. right_other n i two below (sym same)) in
      placed_at i
      ∙ rw (not_left, not_right, get_or-set_same l i r.process blank below)
      (no_arrival (requested none r.process) ∙ no_request r.process)

  -- at every other
  pub placed_other : (j : ℕ) → j ≢ i → process_at (place l i r) j ≡ beside (length l) i r j (process_at l j)
  placed_other j apart =
      placed_at j ∙ ap (beside (length l) i r j) (get_or-set_other l i j r.process blank apart)
