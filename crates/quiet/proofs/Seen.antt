-- The records of a ring as a row of places, and what a reaction at one place makes of it: its own record is the new
-- one, requests reach the place behind it, the envelope the place before it. Where nothing is asked at the last place
-- and the envelope doesn't leave place 0, neither goes round the end of the row.
use Prim.Native.Nat.{ℕ, ◌+◌, ◌-◌, ◌≤◌, ◌<◌}
use mathlib.Core.Path.{◌≡◌, refl, sym, ap, ◌∙◌}
use mathlib.Core.Bool.{Bool, true, false, cond, ◌&&◌}
use mathlib.Core.List.{List}
use mathlib.Core.Logic.{◌⊎◌, inl, inr, ◌≢◌}
use native.Mathlib.Omega.{arith}
use lib.ListN.{length}
use lib.Dec.{eqb}
use borrow.Author.Tests.{eqb-true, eqb-false, eq-eqb}
use Rattle.machine.specs.declared.Process.{Process}
use Rattle.machine.specs.declared.Reaction.{Reaction}
use Rattle.machine.specs.Ring.{left, right}
use Rattle.machine.specs.Fields.{none}
use Rattle.machine.specs.Events.{requested, arrived, process_at, place}
use Rattle.machine.proofs.Soundness.Around.{placed_self, placed_other}
use Rattle.machine.proofs.Soundness.Placed.{length_placed}
use Rattle.quiet.proofs.Along.{left_by, by_below, by_other, by_left, by_right}

-- the record at place k, as seen from c, is row k
pub record Seen (n c : ℕ) (l : List Process) (row : ℕ → Process) : Type 0 where
  pub long : length l ≡ n
  pub at : (k : ℕ) → k < n → process_at l (left_by n c k) ≡ row k

-- what a reaction at place k makes of the record at another place j
abbrev pub reached : ℕ → Reaction → ℕ → Process → Process
reached k r j p = arrived (eqb (j + 1) k && r.leaves) (requested (cond (eqb j (k + 1)) r.asks none) p)

-- two tests that follow from each other
pub same_test : (a b : Bool) → (a ≡ true → b ≡ true) → (b ≡ true → a ≡ true) → a ≡ b
same_test true b f g = sym (f refl)
same_test false true f g = g refl
same_test false false f g = refl

module _ (n c : ℕ) (two : 2 ≤ n) (below : c < n) (l : List Process) (row : ℕ → Process) (seen : Seen n c l row) where
  pub seen_after : (k : ℕ) (r : Reaction) (next : ℕ → Process) → k < n
      → ((k + 1 < n) ⊎ (r.asks ≡ none)) → ((1 ≤ k) ⊎ (r.leaves ≡ false))
      → next k ≡ r.process → ((j : ℕ) → j ≢ k → reached k r j (row j) ≡ next j)
      → Seen n c (place l (left_by n c k) r) next
  seen_after k r next kn asks leaves own others =
      record { long = length_placed l (left_by n c k) r ∙ seen.long; at = λ j jn. go j jn (eqb j k) refl }
    where
      in_two : 2 ≤ length l
      in_two = omega (arith, seen.long)

      in_ring : left_by n c k < length l
      in_ring = omega (arith, seen.long, by_below n c below k kn)

      to_left : (j : ℕ) → j < n → ((k + 1 < n) ⊎ (r.asks ≡ none))
          → cond (eqb (left_by n c j) (left n (left_by n c k))) r.asks none ≡ cond (eqb j (k + 1)) r.asks none
      to_left j jn (inl inner) =
          ap (λ (b : Bool). cond b r.asks none)
          (same_test _ _
          (λ e. eq-eqb j (k + 1)
          (by_other n c below j (k + 1) jn inner (eqb-true _ _ e ∙ by_left n c below k inner)))
          (λ e. eq-eqb _ _ (ap (left_by n c) (eqb-true j (k + 1) e) ∙ sym (by_left n c below k inner))))
      to_left j jn (inr nothing) = rw nothing (any (eqb (left_by n c j) (left n (left_by n c k))) (eqb j (k + 1)))
        where
          any : (a b : Bool) → cond a none none ≡ cond b none none
          any true true = refl
          any true false = refl
          any false true = refl
          any false false = refl

      to_right : (j : ℕ) → j < n → ((1 ≤ k) ⊎ (r.leaves ≡ false))
          → eqb (left_by n c j) (right n (left_by n c k)) && r.leaves ≡ eqb (j + 1) k && r.leaves
      to_right j jn (inl some) =
          let before = k - 1 in
          let is : before + 1 ≡ k = omega arith in
          let here : right n (left_by n c k) ≡ left_by n c before =
          ap (λ (x : ℕ). right n (left_by n c x)) (sym is) ∙ by_right n c below before (omega arith) in
          ap (λ (b : Bool). b && r.leaves)
          (same_test _ _
          (λ e.
          let same = by_other n c below j before jn (omega arith) (eqb-true _ _ e ∙ here) in
          eq-eqb (j + 1) k (omega arith))
          (λ e.
          let same : j ≡ before = let q = eqb-true (j + 1) k e in omega arith in
          eq-eqb _ _ (ap (left_by n c) same ∙ sym here)))
      to_right j jn (inr never) = rw never (any (eqb (left_by n c j) (right n (left_by n c k))) (eqb (j + 1) k))
        where
          any : (a b : Bool) → a && false ≡ b && false
          any true true = refl
          any true false = refl
          any false true = refl
          any false false = refl

      go : (j : ℕ) → j < n → (t : Bool) → eqb j k ≡ t → process_at (place l (left_by n c k) r) (left_by n c j) ≡ next j
      go j jn true e =
          rw (eqb-true j k e) (placed_self l (left_by n c k) r in_two in_ring ∙ sym own)
      go j jn false e =
          let apart = eqb-false j k e in
          let away : left_by n c j ≢ left_by n c k = λ same. apart (by_other n c below j k jn kn same) in
          placed_other l (left_by n c k) r in_two in_ring (left_by n c j) away
          ∙ rw (seen.long, to_left j jn asks, to_right j jn leaves, seen.at j jn) (others j apart)
