-- A stopped ring has ended what can end. A process has the envelope and rests: nobody wants the present status, and the
-- holder wasn't asked for it. This passes from the left of each process to the process, so round the ring. So nobody
-- waits for the present status: no get is under way if it is full, no put if it is empty. And if it is full, the put
-- that filled it hasn't ended. The numbers follow.
use Prim.Native.Nat.{ℕ, zero, suc, ◌≤◌, ◌<◌, min}
use mathlib.Core.Path.{◌≡◌, refl, sym, ap, ◌∙◌}
use mathlib.Core.Bool.{Bool, true, false, cond, ◌&&◌, true≢false}
use mathlib.Core.List.{List, [], ◌∷◌}
use native.Mathlib.Omega.{arith}
use lib.ListN.{length, length-append}
use Rattle.machine.specs.declared.Envelope.{Envelope}
use Rattle.machine.specs.declared.Process.{Process}
use Rattle.machine.specs.Bytes.{bit}
use Rattle.machine.specs.Lists.{sum}
use Rattle.machine.specs.Ring.{left}
use Rattle.machine.specs.Fields.{Status, for, blank}
use Rattle.machine.specs.Image.{State}
use Rattle.machine.specs.Stages.{filled}
use Rattle.machine.specs.Sound.{places}
use Rattle.machine.specs.Events.{positive, wanted, process_at}
use Rattle.machine.specs.Stopped.{quiet, stopped, Stopped}
use Rattle.machine.specs.Balance.{Totals, in_stages, own_message, PairsEnded}
use Rattle.machine.proofs.Laws.Lists.{or_second, all_at}
use Rattle.machine.proofs.Laws.Bits.{bit_on}
use Rattle.machine.proofs.Soundness.Sums.{some_part, parts_le, parts_none, flags_set, mark_counted}
use Rattle.machine.proofs.Soundness.Facts.{fits_at}
use Rattle.machine.proofs.Stopped.{means_stopped, quiet_nothing}
use Rattle.machine.proofs.Laws.Ring.{left_below}
use Rattle.machine.proofs.Balance.Clauses.{emptied, Rests, Invariant}
use Rattle.machine.proofs.Balance.Walk.{round}
use Rattle.machine.proofs.Balance.Still.{refuted, Still, nothing_still, filled_rests}
use Rattle.machine.proofs.Balance.Still.{rests_on, served, Unserved, rests_unserved}

-- ---- laws of bits and counts

-- where a bit that is on makes n positive, it is at most n
bit_most : (b : Bool) (n : ℕ) → (b ≡ true → 1 ≤ n) → bit b ≤ n
bit_most true n some = some refl
bit_most false n some = omega arith

not_positive : (n : ℕ) → positive n ≡ false → n ≡ 0
not_positive zero off = refl
not_positive (suc n) off = absurd (true≢false off)

-- a status that nobody wants is counted nowhere
uncounted : (e : Envelope) → wanted e ≡ false → for e.marked e.full ≡ 0
unfolding wanted
uncounted e off =
    let n = for e.marked e.full in
    not_positive n (or_second (for e.marker e.full) (positive n) off)

-- where just one flag is set, at most one process has a full envelope, and none if it is empty
have_full : (status : Status) (l : List Process) → places l ≡ 1
    → sum (λ p. bit (status && p.have)) l ≤ bit status
have_full true l one = omega (arith, parts_le (λ p. bit p.have) flags_set l (λ j below. omega arith))
have_full false l one = omega (arith, parts_none (λ p. 0) l (λ j below. refl))

-- the envelope's own message is one if it is full, else none
length_own : (status : Status) (message : ℕ) → length (cond status (message ∷ []) []) ≡ bit status
length_own true message = refl
length_own false message = refl

-- ---- the ring

abbrev size : State → ℕ
size st = length st.processes

abbrev process : State → ℕ → Process
process st j = process_at st.processes j

-- the present status
abbrev now : State → Status
now st = st.envelope.full

module _ (st : State) (t : Totals) (inv : Invariant st t) (halt : Stopped st) where
  -- ---- 1. no event finds anything to do

  still_at : (j : ℕ) → j < size st → Still (process st j)
  unfolding stopped
  still_at j below =
      let calm = all_at (quiet st.envelope) st.processes blank (means_stopped st halt) j below in
      nothing_still (process st j) (fits_at st inv.fits j below).range
      (sym (quiet_nothing st.envelope (process st j)) ∙ calm)

  -- ---- 2. the holder

  -- a flag is set and nothing arrives, so a process has the envelope
  holder : (h : ℕ) × (h < size st) × ((process st h).have ≡ true)
  holder =
      let found = some_part flags_set st.processes (omega (arith, inv.fits.rest.one_place)) in
      let nothing = ap bit (still_at found.0 found.1).unreached in
      (found.0, found.1, bit_on (process st found.0).have (omega (arith, found.2, nothing)))

  -- clause A, at a process that has it
  rests_here : (j : ℕ) → j < size st → (process st j).have ≡ true → Rests st.envelope (process st j)
  rests_here j below here = inv.rests j below here (still_at j below).unaware (still_at j below).at_rest

  unwanted : wanted st.envelope ≡ false
  unwanted = (rests_here holder.0 holder.1 holder.2).unwanted

  -- so nobody is marked for the present status
  unmarked : (j : ℕ) → j < size st → for (process st j).mark (now st) ≡ false
  unmarked j below =
      let marks = mark_counted st inv.few inv.fits.rest j below (now st) in
      refuted (for (process st j).mark (now st))
      (λ on. omega (arith, ap bit on, marks, uncounted st.envelope unwanted))

  -- ---- 3. the walk: everybody rests as the holder does

  rests_at : (j : ℕ) → j < size st → Rests st.envelope (process st j)
  rests_at =
      round (λ (j : ℕ). Rests st.envelope (process st j)) (size st)
      (λ j below before. pass j below before (process st j).have refl) holder.0 holder.1
      (rests_here holder.0 holder.1 holder.2)
    where
      pass : (j : ℕ) → j < size st → Rests st.envelope (process st (left (size st) j))
          → (b : Bool) → (process st j).have ≡ b
          → Rests st.envelope (process st j)
      pass j below before true here = rests_here j below here
      pass j below before false away =
          let i = left (size st) j in
          let calm = still_at i (left_below (size st) j (omega arith)) in
          rests_on st.envelope (process st j) (process st i) (still_at j below) calm away
          (fits_at st inv.fits j below) (inv.asked j below (now st)) (inv.handed j below (now st))
          (unmarked j below) before

  -- ---- 4. nobody is served

  unserved_at : (j : ℕ) → j < size st → Unserved (now st) (process st j).have (process st j).stage
  unserved_at j below =
      rests_unserved st.envelope (process st j) (fits_at st inv.fits j below) (still_at j below)
      (rests_at j below)

  served_number : in_stages (served (now st)) st.processes ≡ 0
  served_number = parts_none _ st.processes (λ j below. ap bit (unserved_at j below).outside)

  emptied_number : in_stages emptied st.processes ≡ 0
  emptied_number = parts_none _ st.processes (λ j below. ap bit (unserved_at j below).untaken)

  -- ---- 5. a full envelope has its sender

  -- clause B: nobody wants it, so a put that filled it hasn't ended
  full_filled : now st ≡ true → 1 ≤ in_stages filled st.processes
  full_filled is_full = inv.claimed (rw (unwanted, is_full))

  -- stopped and full, so a process is in stage 5
  pub stopped_full : st.envelope.full ≡ true
      → (i : ℕ) × (i < length st.processes) × ((process_at st.processes i).stage ≡ 5)
  stopped_full is_full =
      let found = some_part (λ p. bit (filled p.stage)) st.processes (full_filled is_full) in
      let stage = (process st found.0).stage in
      let range = (fits_at st inv.fits found.0 found.1).range in
      let at_rest = (still_at found.0 found.1).at_rest in
      (found.0, found.1, filled_rests stage range at_rest (bit_on (filled stage) found.2))

  -- if it is full one put has filled it, and if it is empty none
  filled_number : in_stages filled st.processes ≡ bit (now st)
  filled_number =
      let fills : Process → ℕ = λ p. bit (filled p.stage) in
      let here : Process → ℕ = λ p. bit (now st && p.have) in
      let most = parts_le fills here st.processes (λ j below. (unserved_at j below).filler) in
      let least = bit_most (now st) (in_stages filled st.processes) full_filled in
      omega (arith, least, most, have_full (now st) st.processes inv.fits.rest.one_place)

  -- ---- 6. the numbers

  -- one more is filled than taken if it is full, one more is filled than sent too, and each that is taken is got
  same_ended : t.sent ≡ t.got
  same_ended =
      let lengths = ap length inv.counted.messages ∙ length-append t.taken (own_message st.envelope) in
      omega (arith, lengths, length_own (now st) st.envelope.message, filled_number, emptied_number)

  -- as many puts as gets have ended: all gets if it is full, all puts if it is empty
  pub ended : PairsEnded t
  ended = (same_ended, smaller (now st) served_number)
    where
      smaller : (s : Status) → in_stages (served s) st.processes ≡ 0 → t.got ≡ min t.puts t.gets
      smaller true none = omega (arith, same_ended)
      smaller false none = omega (arith, same_ended)
