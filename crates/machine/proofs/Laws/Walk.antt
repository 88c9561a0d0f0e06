-- One record more: what a walk over the records gathers, step by step.
use Prim.Native.Nat.{ℕ, zero, suc, ◌+◌, ◌*◌, ◌/◌, ◌%◌, ◌^◌, ◌≤◌, ◌<◌}
use mathlib.Core.Path.{◌≡◌, refl, sym, ap, ◌∙◌}
use mathlib.Core.Bool.{◌&&◌}
use mathlib.Core.List.{List, [], ◌∷◌, ◌++◌}
use native.Mathlib.Omega.{arith}
use native.Mathlib.Numerals.{add-one}
use native.Mathlib.Nat.{pow-suc}
use lib.ListN.{length}
use lib.Dec.{lit<, lit≤}
use lib.Count.{ones, ones_in, ones_step}
use Rattle.machine.specs.declared.Process.{Process}
use Rattle.machine.specs.Bytes.{bit}
use Rattle.machine.specs.Lists.{tabulate, sum}
use Rattle.machine.specs.Fields.{Status, for}
use Rattle.machine.specs.Image.{process_in, processes_in}
use Rattle.machine.specs.Sound.{holds, record_rules_in, records_fit, places, stage_fits, stages_fit, marked_set, ones64}
use Rattle.machine.proofs.Laws.Bits.{bit_le}
use Rattle.machine.proofs.Laws.Lists.{length_tabulate, tabulate_more, every_more, all_more}

-- ---- the list of the processes

pub processes_none : (s : List ℕ) → processes_in s 0 ≡ []
unfolding processes_in tabulate
processes_none s = refl

pub processes_more : (s : List ℕ) (i : ℕ) → processes_in s (i + 1) ≡ processes_in s i ++ (process_in s i ∷ [])
unfolding processes_in
processes_more s i =
    ap (tabulate (process_in s) 0) (add-one i)
    ∙ tabulate_more (process_in s) 0 i
    ∙ ap (λ (k : ℕ). tabulate (process_in s) 0 i ++ (process_in s k ∷ [])) (omega arith)

pub length_processes : (s : List ℕ) (n : ℕ) → length (processes_in s n) ≡ n
unfolding processes_in
length_processes s n = length_tabulate (process_in s) 0 n

-- ---- each thing gathered, with one more

pub records_more : (s : List ℕ) (i : ℕ) → records_fit s (i + 1) ≡ records_fit s i && holds (record_rules_in s i)
unfolding records_fit
records_more s i = every_more i _

pub stages_more : (status : Status) (ps : List Process) (p : Process)
    → stages_fit status (ps ++ (p ∷ [])) ≡ stages_fit status ps && stage_fits status p.have p.stage
unfolding stages_fit
stages_more status ps p = all_more _ ps p

pub places_more : (ps : List Process) (p : Process)
    → places (ps ++ (p ∷ [])) ≡ places ps + bit p.have + bit p.arriving
unfolding sum
places_more [] p = omega arith
places_more (q ∷ ps) p = omega (arith, places_more ps p)

pub places_le : (ps : List Process) → places ps ≤ 2 * length ps
unfolding sum
places_le [] = lit≤ tt
places_le (p ∷ ps) = omega (arith, places_le ps, bit_le p.have, bit_le p.arriving)

pub marked_lt : (s : Status) (ps : List Process) → marked_set s ps < 2 ^ length ps
unfolding marked_set
marked_lt s [] = lit< tt
marked_lt s (p ∷ ps) = omega (arith, marked_lt s ps, bit_le (for p.mark s), pow-suc 2 (length ps))

-- ---- the number of ones, as a machine counts them

ones_in_lem : (k n : ℕ) → n < 2 ^ k → ones_in k n ≡ ones n
unfolding ones_in ones
ones_in_lem zero n h = let e : n ≡ 0 = omega arith in rw e
ones_in_lem (suc k) n h =
    ap (λ (x : ℕ). n % 2 + x) (ones_in_lem k (n / 2) (omega (arith, pow-suc 2 k))) ∙ sym (ones_step n)

pub ones_64 : (set : ℕ) → set < 2 ^ 64 → ones64 set ≡ ones set
ones_64 set h = ones_in_lem 64 set h
