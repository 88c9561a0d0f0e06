-- What an answer tells, taken apart: by its number it is done or refused, and its values are then those of the rule.
use Rattle.std.specs.Prelude.{Err, Ok}
use Prim.Native.Nat.{ℕ}
use mathlib.Core.Path.{◌≡◌, refl, sym, ap, ◌∙◌}
use mathlib.Core.Bool.{Bool}
use mathlib.Core.List.{List, [], ◌∷◌, ◌++◌}
use native.Mathlib.Omega.{arith}
use lib.ListN.{get_or}
use lib.Dec.{eqb}
use Rattle.machine.specs.declared.Counts.{Counts}
use Rattle.machine.specs.declared.Traffic.{Traffic}
use Rattle.machine.specs.declared.Refusal.{Refusal}
use Rattle.machine.specs.Verdict.{Verdict}
use Rattle.machine.specs.Bytes.{bit}
use Rattle.machine.specs.Run.{count_values}
use Rattle.machine.specs.Traffic.{traffic_values}
use Rattle.machine.specs.Answers.{Answer, answer}
use Rattle.machine.specs.Report.{refusal_line, text_by}
use Rattle.machine.proofs.Laws.Bits.{bit_is}
use Rattle.machine.proofs.Laws.Refusals.{number_range}

-- the number, and a value, of equal answers
number_same : {a b : Answer} → a ≡ b → a.number ≡ b.number
number_same e = ap (λ (a : Answer). a.number) e

pub value_same : {a b : Answer} (k : ℕ) → a ≡ b → get_or a.values k 0 ≡ get_or b.values k 0
value_same k e = ap (λ (a : Answer). get_or a.values k 0) e

-- a refused answer: its line is that of the rule's refusal
pub refused_line : (v : Verdict) (values text : List ℕ) (r : Refusal) → answer (Err r) [] ≡ answer v values
    → refusal_line r ≡ text_by v text
unfolding refusal_line
refused_line (Ok _) values text r e = absurd (omega (arith, number_same e, number_range r))
refused_line (Err q) values text r e = rw (number_same e, value_same 0 e)

-- an answer that is done: nothing refuses
pub done_fine : (v : Verdict) {told : List ℕ} (values : List ℕ) → answer (Ok tt) told ≡ answer v values → v ≡ Ok tt
done_fine (Ok _) values e = refl
done_fine (Err r) values e = absurd (omega (arith, number_same e, number_range r))

-- the counts are those of the rule
pub same_counts : (c d : Counts) (t u : Traffic)
    → answer (Ok tt) (count_values c ++ traffic_values t) ≡ answer (Ok tt) (count_values d ++ traffic_values u)
    → c ≡ d
same_counts c d t u e =
    λ i.
    record {
      puts = value_same 0 e i;
      gets = value_same 1 e i;
      fills = value_same 2 e i;
      takes = value_same 3 e i;
      sent = value_same 4 e i;
      got = value_same 5 e i;
      idle = value_same 6 e i;
      records = value_same 7 e i;
    }

-- yes or no
pub same_bit : (a b : Bool) → answer (Ok tt) (bit a ∷ []) ≡ answer (Ok tt) (bit b ∷ []) → b ≡ a
same_bit a b e = sym (bit_is b (bit b) refl) ∙ ap (λ (k : ℕ). eqb k 1) (sym (value_same 0 e)) ∙ bit_is a (bit a) refl
