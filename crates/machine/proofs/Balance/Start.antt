-- The fresh ring has the invariant: each record is blank, but for the envelope at the home process, so nothing is
-- wanted, asked or counted.
use Prim.Native.Nat.{ℕ, zero, suc, ◌≤◌, ◌<◌}
use mathlib.Core.Path.{◌≡◌, refl, sym, ap, ◌∙◌}
use mathlib.Core.Bool.{Bool, true, false, true≢false, false≢true}
use mathlib.Core.List.{[]}
use native.Mathlib.Omega.{arith}
use lib.ListN.{set, replicate}
use Rattle.machine.specs.declared.Process.{Process}
use Rattle.machine.specs.Bytes.{bit}
use Rattle.machine.specs.Fields.{Status, blank, with_have}
use Rattle.machine.specs.Stages.{sending, filled, receiving}
use Rattle.machine.specs.Fresh.{fresh_envelope, fresh_state}
use Rattle.machine.specs.Events.{wanted, process_at}
use Rattle.machine.specs.Run.{no_counts}
use Rattle.machine.specs.Balance.{totals_of, in_stages}
use Rattle.machine.proofs.Image.Fresh.{fresh_fits, length_fresh}
use Rattle.machine.proofs.Soundness.Sums.{parts_none}
use Rattle.machine.proofs.Soundness.Facts.{state_facts}
use Rattle.machine.proofs.Balance.Clauses.{emptied, AtRest, HasAsked, awaits, Invariant}

-- ---- a record of the fresh ring

module _ (P : Process → Type 0) (one : P blank) (other : P (with_have true blank)) where
  each_blank : (n i : ℕ) → P (process_at (replicate n blank) i)
  each_blank zero i = one
  each_blank (suc n) zero = one
  each_blank (suc n) (suc i) = each_blank n i

  each_set : (n home i : ℕ) → P (process_at (set (replicate n blank) home (with_have true blank)) i)
  each_set zero home i = one
  each_set (suc n) zero zero = other
  each_set (suc n) zero (suc i) = each_blank n i
  each_set (suc n) (suc home) zero = one
  each_set (suc n) (suc home) (suc i) = each_set n home i

  -- blank, or blank with the envelope
  pub each_fresh : (n home i : ℕ) → P (process_at (fresh_state n home).processes i)
  unfolding fresh_state
  each_fresh n home i = each_set n home i

-- ---- its clauses

-- at rest
home_rests : AtRest fresh_envelope (with_have true blank)
unfolding wanted
home_rests _ _ _ = record { over = refl; waits = refl; unwanted = refl; unasked = refl }

-- it needs nothing, with the envelope or without
needs_nothing : (have : Bool) (s : Status) → HasAsked s (with_have have blank)
needs_nothing have true _ _ needed = absurd (false≢true needed)
needs_nothing have false _ _ needed = absurd (false≢true needed)

-- and it has asked for nothing
awaits_nothing : (have : Bool) (s : Status) → awaits s (with_have have blank) ≡ false
awaits_nothing have true = refl
awaits_nothing have false = refl

-- nobody is in stages that don't have stage 0
none_under_way : (stages : ℕ → Bool) → stages 0 ≡ false → (n home : ℕ)
    → in_stages stages (fresh_state n home).processes ≡ 0
none_under_way stages idle n home =
    parts_none (λ p. bit (stages p.stage)) (fresh_state n home).processes
    (λ i _. each_fresh (λ (p : Process). bit (stages p.stage) ≡ 0) (ap bit idle) (ap bit idle) n home i)

pub fresh_invariant : (n home : ℕ) → 2 ≤ n → n ≤ 64 → home < n
    → Invariant (fresh_state n home) (totals_of no_counts [] [])
unfolding fresh_state
fresh_invariant n home two few below =
    record {
      two = omega (arith, length_fresh n home);
      few = omega (arith, length_fresh n home);
      fits = state_facts (fresh_state n home) (fresh_fits n home below);
      rests =
          λ i _. each_fresh (AtRest fresh_envelope) (λ had _ _. absurd (false≢true had)) home_rests n home i;
      claimed = λ claim. absurd (false≢true claim);
      asked =
          λ i _ s. each_fresh (HasAsked s) (needs_nothing false s) (needs_nothing true s) n home i;
      handed =
          λ i _ s awaited.
          let silent : Process → Type 0 = λ p. awaits s p ≡ false in
          let never = each_fresh silent (awaits_nothing false s) (awaits_nothing true s) in
          absurd (true≢false (sym awaited ∙ never n home i));
      counted =
          record {
            puts = omega (arith, none_under_way sending refl n home);
            gets = omega (arith, none_under_way receiving refl n home);
            fills = omega (arith, none_under_way filled refl n home);
            takes = omega (arith, none_under_way emptied refl n home);
            messages = refl;
          };
    }
