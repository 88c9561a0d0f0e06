-- What a reaction placed on the ring keeps of each clause, given what it owes at its own process. At the others nothing
-- that a clause reads is changed, but for requests that come to the left and the envelope that comes to the right, and
-- both only help.
use Prim.Native.Nat.{ℕ, ◌+◌, ◌≤◌, ◌<◌}
use mathlib.Core.Path.{◌≡◌, refl, sym, ap, subst, ◌∙◌}
use mathlib.Core.Bool.{Bool, true, false, not, cond, ◌&&◌, ◌||◌, or-true, false≢true}
use mathlib.Core.List.{List}
use mathlib.Core.Logic.{◌⊎◌, inl, inr, ◌≢◌}
use native.Mathlib.Omega.{arith}
use lib.ListN.{length}
use lib.Dec.{eqb}
use borrow.Author.Tests.{eqb-true, eqb-false, eq-eqb}
use Rattle.machine.specs.declared.Pair.{Pair}
use Rattle.machine.specs.declared.Envelope.{Envelope}
use Rattle.machine.specs.declared.Process.{Process}
use Rattle.machine.specs.declared.Reaction.{Reaction}
use Rattle.machine.specs.Bytes.{bit}
use Rattle.machine.specs.Ring.{left, right}
use Rattle.machine.specs.Fields.{Status, none, for}
use Rattle.machine.specs.Stages.{filled}
use Rattle.machine.specs.Sound.{places}
use Rattle.machine.specs.Events.{requested, arrived, process_at, place}
use Rattle.machine.specs.Balance.{in_stages}
use Rattle.machine.proofs.Laws.Ring.{left_other, right_left}
use Rattle.machine.proofs.Soundness.Sums.{part_le, two_le, flags_set}
use Rattle.machine.proofs.Soundness.Placed.{length_placed, sum_placed}
use Rattle.machine.proofs.Balance.Clauses.{AtRest, unclaimed, HasAsked, awaits, holds_request}
use Rattle.machine.proofs.Balance.Clauses.{Handed}
use Rattle.machine.proofs.Balance.Pairs.{either_for}
use Rattle.machine.proofs.Soundness.Around.{beside, placed_self, placed_other}
use Rattle.machine.proofs.Balance.Header.{OnlyHolder}
use Rattle.machine.proofs.Balance.Claimed.{Claims}

-- ---- requests that come to a neighbour

-- it keeps those that it had
more_requests : (s : Status) (a : Pair Bool) (p : Process) → holds_request s p ≡ true → holds_request s (requested a p)
    ≡ true
more_requests s a p has =
    rw (either_for p.link a s) (grow (for p.asked s) (for p.link s) (for a s) has)
  where
    grow : (x y z : Bool) → x || y ≡ true → x || (y || z) ≡ true
    grow true y z e = refl
    grow false true z e = refl
    grow false false z e = absurd (false≢true e)

-- and has those that came
new_request : (s : Status) (a : Pair Bool) (p : Process) → for a s ≡ true → holds_request s (requested a p) ≡ true
new_request s a p asks = rw (either_for p.link a s, asks, or-true (for p.link s)) (or-true (for p.asked s))

-- who awaits s while the envelope may come awaited it before, and it doesn't come
awaits_still : (s : Status) (comes : Bool) (p : Process) → awaits s (arrived comes p) ≡ true
    → (awaits s p ≡ true) × (comes ≡ false)
awaits_still s comes p = go (for p.itself s) p.have p.arriving comes
  where
    go : (i h a c : Bool) → (i && not h) && not (a || c) ≡ true → ((i && not h) && not a ≡ true) × (c ≡ false)
    go true false false false e = (refl, refl)
    go true false false true e = absurd (false≢true e)
    go true false true c e = absurd (false≢true e)
    go true true a c e = absurd (false≢true e)
    go false h a c e = absurd (false≢true e)

-- ---- on the ring, whatever the reaction

module _ (e : Envelope) (l : List Process) (i : ℕ) (r : Reaction) (two : 2 ≤ length l) (below : i < length l) where
  -- what holds of the new record and of every other as the reaction leaves it holds of all
  at_each : (P : ℕ → Process → Type 0) → P i r.process
      → ((j : ℕ) → j < length l → j ≢ i → P j (beside (length l) i r j (process_at l j)))
      → (j : ℕ) → j < length (place l i r) → P j (process_at (place l i r) j)
  at_each P here others j within = go (eqb j i) refl
    where
      go : (b : Bool) → eqb j i ≡ b → P j (process_at (place l i r) j)
      go true same =
          let is : j ≡ i = eqb-true j i same in
          subst (λ (k : ℕ). P k (process_at (place l i r) k)) (sym is)
          (subst (P i) (sym (placed_self l i r two below)) here)
      go false differs =
          let apart = eqb-false j i differs in
          subst (P j) (sym (placed_other l i r two below j apart))
          (others j (omega (arith, length_placed l i r)) apart)

  -- A. Another process that has the envelope finds it as it was
  pub rests_placed : places l ≡ 1 → OnlyHolder e (process_at l i) r
      → ((j : ℕ) → j < length l → AtRest e (process_at l j))
      → AtRest r.envelope r.process
      → (j : ℕ) → j < length (place l i r) → AtRest r.envelope (process_at (place l i r) j)
  rests_placed one apart before here = at_each (λ (j : ℕ) (p : Process). AtRest r.envelope p) here (others apart)
    where
      others : OnlyHolder e (process_at l i) r → (j : ℕ) → j < length l → j ≢ i
          → AtRest r.envelope (beside (length l) i r j (process_at l j))
      others (inl had) j within differs =
          λ has. absurd (omega (arith, two_le flags_set refl l i j below within differs, one, ap bit had, ap bit has))
      others (inr same) j within differs =
          subst (λ (n : Envelope). AtRest n (process_at l j)) (sym same) (before j within)

  -- B. Where the envelope is unclaimed, the own process filled it or another one did before
  pub claimed_placed : (unclaimed e ≡ true → 1 ≤ in_stages filled l) → Claims e (process_at l i) r
      → unclaimed r.envelope ≡ true
      → 1 ≤ in_stages filled (place l i r)
  claimed_placed before owed claim = go (filled r.process.stage) refl
    where
      placed : in_stages filled (place l i r) + bit (filled (process_at l i).stage)
          ≡ in_stages filled l + bit (filled r.process.stage)
      placed = sum_placed l i r below (λ p. bit (filled p.stage)) (λ _ _. refl) (λ _ _. refl)

      go : (b : Bool) → filled r.process.stage ≡ b → 1 ≤ in_stages filled (place l i r)
      go true inside =
          omega (arith, placed, ap bit inside, part_le (λ p. bit (filled p.stage)) l i below)
      go false outside =
          let owes = owed claim outside in
          omega (arith, placed, ap bit outside, ap bit owes.1, before owes.0)

  -- C. It is a process's own
  pub asked_placed : (s : Status) → ((j : ℕ) → j < length l → HasAsked s (process_at l j)) → HasAsked s r.process
      → (j : ℕ) → j < length (place l i r) → HasAsked s (process_at (place l i r) j)
  asked_placed s before here = at_each (λ (j : ℕ) (p : Process). HasAsked s p) here (λ j within _. before j within)

  -- D. Its left has the request that the process put on the link; a request that is heard is still there; and where it
  -- went with the envelope, the envelope is on the way
  module _ (s : Status)
      (before : (j : ℕ) → j < length l → Handed s (process_at l j) (process_at l (left (length l) j)))
      (asks : awaits s r.process ≡ true → (awaits s (process_at l i) ≡ true) ⊎ (for r.asks s ≡ true))
      (keeps : holds_request s (process_at l i) ≡ true → r.leaves ≡ false → holds_request s r.process ≡ true) where
    -- the request at process k after the reaction
    abbrev there : ℕ → Type 0
    there k = holds_request s (process_at (place l i r) k) ≡ true

    -- another process keeps what it had
    others_keep : (k : ℕ) → k ≢ i → holds_request s (process_at l k) ≡ true → there k
    others_keep k apart has =
        subst (λ (p : Process). holds_request s p ≡ true) (sym (placed_other l i r two below k apart))
        (more_requests s (cond (eqb k (left (length l) i)) r.asks none) (process_at l k) has)

    -- and the left has what was asked
    left_has : for r.asks s ≡ true → there (left (length l) i)
    left_has asked =
        let n = length l in
        let k = left n i in
        let asked_here : for (cond (eqb k k) r.asks none) s ≡ true = rw (eq-eqb k k refl) asked in
        subst (λ (p : Process). holds_request s p ≡ true)
        (sym (placed_other l i r two below k (left_other n i two below)))
        (new_request s (cond (eqb k k) r.asks none) (process_at l k) asked_here)

    own_handed : awaits s r.process ≡ true → there (left (length l) i)
    own_handed waits = go (asks waits)
      where
        go : (awaits s (process_at l i) ≡ true) ⊎ (for r.asks s ≡ true) → there (left (length l) i)
        go (inl waited) = others_keep (left (length l) i) (left_other (length l) i two below) (before i below waited)
        go (inr asked) = left_has asked

    other_handed : (j : ℕ) → j < length l → j ≢ i → awaits s (beside (length l) i r j (process_at l j)) ≡ true
        → there (left (length l) j)
    other_handed j within apart waits = go (eqb k i) refl
      where
        k : ℕ
        k = left (length l) j

        comes : Bool
        comes = eqb j (right (length l) i) && r.leaves

        still : (awaits s (process_at l j) ≡ true) × (comes ≡ false)
        still = awaits_still s comes (requested (cond (eqb j (left (length l) i)) r.asks none) (process_at l j)) waits

        go : (b : Bool) → eqb k i ≡ b → there k
        go true same =
            let is : k ≡ i = eqb-true k i same in
            let on_right : j ≡ right (length l) i = sym (right_left (length l) j within) ∙ ap (right (length l)) is in
            let stays : r.leaves ≡ false = sym (ap (λ (b : Bool). b && r.leaves) (eq-eqb j _ on_right)) ∙ still.1 in
            let had : holds_request s (process_at l i) ≡ true =
            subst (λ (n : ℕ). holds_request s (process_at l n) ≡ true) is (before j within still.0) in
            subst there (sym is)
            (subst (λ (p : Process). holds_request s p ≡ true) (sym (placed_self l i r two below)) (keeps had stays))
        go false differs = others_keep k (eqb-false k i differs) (before j within still.0)

    pub handed_placed : (j : ℕ) → j < length (place l i r)
        → Handed s (process_at (place l i r) j) (process_at (place l i r) (left (length (place l i r)) j))
    handed_placed j within =
        subst (λ (n : ℕ). Handed s (process_at (place l i r) j) (process_at (place l i r) (left n j)))
        (sym (length_placed l i r))
        (at_each (λ (k : ℕ) (p : Process). awaits s p ≡ true → there (left (length l) k)) own_handed other_handed j
        within)
