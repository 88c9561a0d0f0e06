-- Sums over the records of a ring. The have and arriving flags that are set, and the marks for a status, are sums of
-- what each record has: so a record that is replaced changes them by just its own part, and an accepted image's counts
-- are the sums of its marks.
use Rattle.std.specs.Prelude.{Ok}
use Prim.Native.Nat.{ℕ, zero, suc, ◌+◌, ◌*◌, ◌/◌, ◌%◌, ◌≤◌, ◌<◌}
use mathlib.Core.Path.{◌≡◌, refl, sym, ap, ap₂, ◌∙◌, subst}
use mathlib.Core.Bool.{true, false}
use mathlib.Core.List.{List, [], ◌∷◌}
use mathlib.Core.Logic.{◌⊎◌, inl, inr, ◌≢◌}
use native.Mathlib.Omega.{arith}
use lib.ListN.{length, set, length-set}
use lib.Seq.{get_or-set_other}
use lib.Count.{ones_in}
use lib.Dec.{lit≤}
use borrow.Author.Tests.{eqb-true}
use Rattle.machine.specs.declared.Process.{Process}
use Rattle.machine.specs.Bytes.{bit}
use Rattle.machine.specs.Lists.{sum}
use Rattle.machine.specs.Fields.{Status, for, blank}
use Rattle.machine.specs.Image.{State, size_in, state_in}
use Rattle.machine.specs.Sound.{marked_set}
use Rattle.machine.specs.Events.{process_at}
use Rattle.machine.specs.Refusals.{image_verdict}
use Rattle.machine.proofs.Laws.Bytes.{lt_or_ge}
use Rattle.machine.proofs.Laws.Bits.{bit_le}
use Rattle.machine.proofs.Soundness.Sound.{RestFacts, sound_facts}
use Rattle.machine.proofs.Image.Stored.{length_state}
use Rattle.machine.proofs.Laws.Refusals.{image_fine}

-- ---- sums

-- one record replaced
pub sum_set : (w : Process → ℕ) (l : List Process) (i : ℕ) (p : Process) → i < length l
    → sum w (set l i p) + w (process_at l i) ≡ sum w l + w p
unfolding sum
sum_set w [] i p h = absurd (omega arith)
sum_set w (q ∷ l) zero p h = omega arith
sum_set w (q ∷ l) (suc i) p h = omega (arith, sum_set w l i p (omega arith))

-- one record has at most the sum
pub part_le : (w : Process → ℕ) (l : List Process) (i : ℕ) → i < length l → w (process_at l i) ≤ sum w l
unfolding sum
part_le w [] i h = absurd (omega arith)
part_le w (q ∷ l) zero h = omega arith
part_le w (q ∷ l) (suc i) h = omega (arith, part_le w l i (omega arith))

-- and so have two different ones together
pub two_le : (w : Process → ℕ) → w blank ≡ 0 → (l : List Process) (i j : ℕ) → i < length l → j < length l → j ≢ i
    → w (process_at l i) + w (process_at l j) ≤ sum w l
two_le w none l i j hi hj apart =
    let rest = set l i blank in
    let same = get_or-set_other l i j blank blank apart in
    let other : w (process_at rest j) ≤ sum w rest = part_le w rest j (omega (arith, length-set l i blank)) in
    let moved : w (process_at l j) ≤ sum w rest = subst (λ (p : Process). w p ≤ sum w rest) same other in
    omega (arith, sum_set w l i blank hi)

-- a record that has something by w
abbrev pub Part : (Process → ℕ) → List Process → Type 0
Part w l = (i : ℕ) × (i < length l) × (1 ≤ w (process_at l i))

-- where a sum is positive, there is one
pub some_part : (w : Process → ℕ) (l : List Process) → 1 ≤ sum w l → Part w l
unfolding sum
some_part w [] positive = absurd (omega arith)
some_part w (p ∷ l) positive = go (lt_or_ge 0 (w p)) (some_part w l)
  where
    go : (0 < w p) ⊎ (w p ≤ 0) → (1 ≤ sum w l → Part w l) → Part w (p ∷ l)
    go (inl first) later = (zero, omega arith, omega arith)
    go (inr none) later =
        let found = later (omega arith) in
        (suc found.0, omega (arith, found.1), found.2)

-- where each record has at most as much by w as by u, so have all together
pub parts_le : (w u : Process → ℕ) (l : List Process)
    → ((i : ℕ) → i < length l → w (process_at l i) ≤ u (process_at l i))
    → sum w l ≤ sum u l
unfolding sum
parts_le w u [] each = lit≤ tt
parts_le w u (p ∷ l) each = omega (arith, each 0 (omega arith), parts_le w u l (λ i h. each (suc i) (omega arith)))

-- where none has anything by w, nor have all together
pub parts_none : (w : Process → ℕ) (l : List Process) → ((i : ℕ) → i < length l → w (process_at l i) ≡ 0) → sum w l ≡ 0
unfolding sum
parts_none w [] each = refl
parts_none w (p ∷ l) each = omega (arith, each 0 (omega arith), parts_none w l (λ i h. each (suc i) (omega arith)))

-- where each record has at most 1, the sum is at most the number of the records
sum_le : (w : Process → ℕ) → ((p : Process) → w p ≤ 1) → (l : List Process) → sum w l ≤ length l
unfolding sum
sum_le w small [] = lit≤ tt
sum_le w small (p ∷ l) = omega (arith, small p, sum_le w small l)

-- ---- what is added up

-- how many of a record's have and arriving flags are set
abbrev pub flags_set : Process → ℕ
flags_set p = bit p.have + bit p.arriving

-- whether a record is marked for s, as a number
abbrev pub marks_for : Status → Process → ℕ
marks_for s p = bit (for p.mark s)

-- zero has no digit that is one
no_ones : (k : ℕ) → ones_in k 0 ≡ 0
unfolding ones_in
no_ones zero = refl
no_ones (suc k) = omega (arith, no_ones k)

-- digit by digit: process i is digit i
ones_sum : (s : Status) (k : ℕ) (l : List Process) → length l ≤ k → ones_in k (marked_set s l) ≡ sum (marks_for s) l
unfolding marked_set sum ones_in
ones_sum s k [] h = no_ones k
ones_sum s zero (p ∷ l) h = absurd (omega arith)
ones_sum s (suc k) (p ∷ l) h =
    let b = marks_for s p in
    let m = marked_set s l in
    let digit : (b + 2 * m) % 2 ≡ b = omega (arith, bit_le (for p.mark s)) in
    let others : (b + 2 * m) / 2 ≡ m = omega (arith, bit_le (for p.mark s)) in
    ap₂ (λ (x y : ℕ). x + y) digit (ap (ones_in k) others ∙ ones_sum s k l (omega arith))

-- the number of ones of the marked set is the sum of the marks
pub marked_sum : (s : Status) (l : List Process) → length l ≤ 64 → ones_in 64 (marked_set s l) ≡ sum (marks_for s) l
marked_sum s l h = ones_sum s 64 l h

-- ---- the counts of a state that fits

module _ (st : State) (few : length st.processes ≤ 64) (rest : RestFacts st) where
  -- the count for s is the sum of the marks for s
  pub count_sum : (s : Status) → for st.envelope.marked s ≡ sum (marks_for s) st.processes
  count_sum true = sym (eqb-true _ _ rest.counts_full) ∙ marked_sum true st.processes few
  count_sum false = sym (eqb-true _ _ rest.counts_empty) ∙ marked_sum false st.processes few

  -- and at most 64
  pub count_le : (s : Status) → for st.envelope.marked s ≤ 64
  count_le s =
      omega (arith, count_sum s, sum_le (marks_for s) (λ p. bit_le (for p.mark s)) st.processes, few)

  -- the count for s is at least the mark of any one process
  pub mark_counted : (i : ℕ) → i < length st.processes → (s : Status)
      → marks_for s (process_at st.processes i) ≤ for st.envelope.marked s
  mark_counted i h s = omega (arith, count_sum s, part_le (marks_for s) st.processes i h)

-- ---- the counts of an accepted image

-- each count is at most 64
pub marked_small : (s : List ℕ) → image_verdict s ≡ Ok tt → (t : Status) → for (state_in s).envelope.marked t ≤ 64
marked_small s fine t =
    let image = image_fine s fine in
    let few : length (state_in s).processes ≤ 64 = omega (arith, length_state s, image.size.most) in
    count_le (state_in s) few (sound_facts s image.fits).rest t

-- the count for t is at least 1 where a process is marked for t
pub marked_counted : (s : List ℕ) → image_verdict s ≡ Ok tt → (i : ℕ) → i < size_in s → (t : Status)
    → for (process_at (state_in s).processes i).mark t ≡ true
    → 1 ≤ for (state_in s).envelope.marked t
marked_counted s fine i h t marked =
    let image = image_fine s fine in
    let few : length (state_in s).processes ≤ 64 = omega (arith, length_state s, image.size.most) in
    let below : i < length (state_in s).processes = omega (arith, length_state s) in
    let one : marks_for t (process_at (state_in s).processes i) ≡ 1 = ap bit marked in
    omega (arith, mark_counted (state_in s) few (sound_facts s image.fits).rest i below t)
