-- What a sound image is known to have, rule by rule.
use Prim.Native.Nat.{ℕ, ◌+◌, ◌≤◌, ◌<◌}
use mathlib.Core.Path.{◌≡◌}
use mathlib.Core.Bool.{true, ◌&&◌, ◌||◌}
use mathlib.Core.List.{List}
use lib.ListN.{get_or}
use lib.Dec.{eqb, leb}
use borrow.Author.Tests.{leb-true, eqb-true}
use Rattle.machine.specs.Bytes.{zeros}
use Rattle.machine.specs.Ring.{record_at}
use Rattle.machine.specs.Fields.{full, empty}
use Rattle.machine.specs.Image.{State, process_in, size_in, state_in}
use Rattle.machine.specs.Stages.{last_stage}
use Rattle.machine.specs.Sound.{header_fits, mark_fits, note_fits, records_fit, places, stages_fit, count_fits}
use Rattle.machine.specs.Sound.{rest_fits, sound}
use Rattle.machine.proofs.Laws.Lists.{and_first, and_second, every_at}

-- ---- the header

pub record HeaderFacts (s : List ℕ) : Type 0 where
  pub status : get_or s 1 0 ≤ 1
  pub markers : get_or s 2 0 ≤ 3
  pub unnamed : zeros s 5 3 ≡ true
  pub message : eqb (get_or s 1 0) 1 || zeros s 8 4 ≡ true
  pub spare : zeros s 12 4 ≡ true

pub header_facts : (s : List ℕ) → header_fits s ≡ true → HeaderFacts s
unfolding header_fits
header_facts s e =
    let a = leb (get_or s 1 0) 1 in
    let b = leb (get_or s 2 0) 3 in
    let c = zeros s 5 3 in
    let d = eqb (get_or s 1 0) 1 || zeros s 8 4 in
    let to_d = and_first (a && b && c && d) (zeros s 12 4) e in
    let to_c = and_first (a && b && c) d to_d in
    let to_b = and_first (a && b) c to_c in
    record {
      status = leb-true _ _ (and_first a b to_b);
      markers = leb-true _ _ (and_second a b to_b);
      unnamed = and_second (a && b) c to_c;
      message = and_second (a && b && c) d to_d;
      spare = and_second (a && b && c && d) (zeros s 12 4) e;
    }

-- ---- a record

pub record RecordFacts (s : List ℕ) (i : ℕ) : Type 0 where
  pub stage : (process_in s i).stage ≤ 10
  pub flags : get_or s (record_at i + 1) 0 ≤ 7
  pub mark_full : mark_fits full (process_in s i) ≡ true
  pub mark_empty : mark_fits empty (process_in s i) ≡ true
  pub third : get_or s (record_at i + 3) 0 ≡ 0
  pub note : note_fits (process_in s i) ≡ true

pub record_facts : (s : List ℕ) (n : ℕ) → records_fit s n ≡ true → (i : ℕ) → i < n → RecordFacts s i
unfolding records_fit
record_facts s n e i h =
    let p = process_in s i in
    let a = leb p.stage last_stage in
    let b = leb (get_or s (record_at i + 1) 0) 7 in
    let c = mark_fits full p in
    let d = mark_fits empty p in
    let f = eqb (get_or s (record_at i + 3) 0) 0 in
    let g = note_fits p in
    let all = every_at n _ e i h in
    let to_f = and_first (a && b && c && d && f) g all in
    let to_d = and_first (a && b && c && d) f to_f in
    let to_c = and_first (a && b && c) d to_d in
    let to_b = and_first (a && b) c to_c in
    record {
      stage = leb-true _ _ (and_first a b to_b);
      flags = leb-true _ _ (and_second a b to_b);
      mark_full = and_second (a && b) c to_c;
      mark_empty = and_second (a && b && c) d to_d;
      third = eqb-true _ _ (and_second (a && b && c && d) f to_f);
      note = and_second (a && b && c && d && f) g all;
    }

-- ---- the rest

pub record RestFacts (st : State) : Type 0 where
  pub one_place : places st.processes ≡ 1
  pub stages : stages_fit st.envelope.full st.processes ≡ true
  pub counts_full : count_fits full st ≡ true
  pub counts_empty : count_fits empty st ≡ true

pub rest_facts : (st : State) → rest_fits st ≡ true → RestFacts st
unfolding rest_fits
rest_facts st e =
    let a = eqb (places st.processes) 1 in
    let b = stages_fit st.envelope.full st.processes in
    let c = count_fits full st in
    let d = count_fits empty st in
    let to_c = and_first (a && b && c) d e in
    let to_b = and_first (a && b) c to_c in
    record {
      one_place = eqb-true _ _ (and_first a b to_b);
      stages = and_second a b to_b;
      counts_full = and_second (a && b) c to_c;
      counts_empty = and_second (a && b && c) d e;
    }

-- ---- the whole

pub record SoundFacts (s : List ℕ) : Type 0 where
  pub header : HeaderFacts s
  pub records : (i : ℕ) → i < size_in s → RecordFacts s i
  pub rest : RestFacts (state_in s)

pub sound_facts : (s : List ℕ) → sound s ≡ true → SoundFacts s
unfolding sound
sound_facts s e =
    let a = header_fits s in
    let b = records_fit s (size_in s) in
    let c = rest_fits (state_in s) in
    let to_b = and_first (a && b) c e in
    record {
      header = header_facts s (and_first a b to_b);
      records = record_facts s (size_in s) (and_second a b to_b);
      rest = rest_facts (state_in s) (and_second (a && b) c e);
    }
