-- What a state that fits is known to have, part by part, and back: its envelope, its records, the rest, and the same at
-- one process.
use Prim.Native.Nat.{ℕ, ◌<◌}
use mathlib.Core.Path.{◌≡◌}
use mathlib.Core.Bool.{true, false, ◌&&◌}
use lib.ListN.{length}
use lib.Dec.{leb}
use Rattle.machine.specs.declared.Envelope.{Envelope}
use Rattle.machine.specs.declared.Process.{Process}
use Rattle.machine.specs.Lists.{all}
use Rattle.machine.specs.Fields.{Status, full, empty, blank}
use Rattle.machine.specs.Image.{State}
use Rattle.machine.specs.Stages.{last_stage}
use Rattle.machine.specs.Sound.{mark_fits, note_fits, stages_fit, rest_fits}
use Rattle.machine.specs.Events.{process_at}
use Rattle.machine.proofs.Laws.Lists.{and_first, and_second, and_both, all_at}
use Rattle.machine.proofs.Soundness.Sound.{RestFacts, rest_facts}
use Rattle.machine.proofs.Image.Written.{envelope_fits, process_fits, state_fits}
use Rattle.machine.proofs.Soundness.Settled.{Fits}

-- its three parts
pub record StateFacts (st : State) : Type 0 where
  pub envelope : envelope_fits st.envelope ≡ true
  pub processes : all process_fits st.processes ≡ true
  pub rest : RestFacts st

pub state_facts : (st : State) → state_fits st ≡ true → StateFacts st
unfolding state_fits
state_facts st fits =
    let a = envelope_fits st.envelope in
    let b = all process_fits st.processes in
    let to_b = and_first (a && b) (rest_fits st) fits in
    record {
      envelope = and_first a b to_b;
      processes = and_second a b to_b;
      rest = rest_facts st (and_second (a && b) (rest_fits st) fits);
    }

-- and back
pub facts_state : (st : State) → StateFacts st → state_fits st ≡ true
unfolding state_fits rest_fits
facts_state st f =
    rw (
      f.envelope,
      f.processes,
      f.rest.one_place,
      f.rest.stages,
      f.rest.counts_full,
      f.rest.counts_empty,
    )

-- a process of a state that fits
pub fits_at : (st : State) → StateFacts st → (i : ℕ) → i < length st.processes
    → Fits st.envelope (process_at st.processes i)
unfolding stages_fit
fits_at st f i h =
    let p = process_at st.processes i in
    let a = leb p.stage last_stage in
    let b = mark_fits full p in
    let c = mark_fits empty p in
    let own = all_at process_fits st.processes blank f.processes i h in
    let to_c = and_first (a && b && c) (note_fits p) own in
    let to_b = and_first (a && b) c to_c in
    record {
      envelope = f.envelope;
      range = and_first a b to_b;
      marked = marks p (and_second a b to_b) (and_second (a && b) c to_c);
      note_fitting = and_second (a && b && c) (note_fits p) own;
      has = all_at _ st.processes blank f.rest.stages i h;
    }
  where
    marks : (p : Process) → mark_fits full p ≡ true → mark_fits empty p ≡ true → (s : Status) → mark_fits s p ≡ true
    marks p fulls empties true = fulls
    marks p fulls empties false = empties

-- and back, for the rules on the record alone
pub fits_record : (e : Envelope) (p : Process) → Fits e p → process_fits p ≡ true
fits_record e p f =
    and_both _ _ (and_both _ _ (and_both _ _ f.range (f.marked full)) (f.marked empty)) f.note_fitting
