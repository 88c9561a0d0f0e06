-- Writing into a sound image: a record written changes the state read by just that, and keeps the image the one that
-- its state writes.
use Prim.Native.Nat.{ℕ, ◌^◌, ◌≤◌, ◌<◌}
use mathlib.Core.Path.{◌≡◌, refl, sym, ap, ◌∙◌}
use mathlib.Core.List.{List}
use mathlib.Core.Bool.{Bool, true, false}
use native.Mathlib.Omega.{arith}
use lib.ListN.{length, set, length-set}
use lib.Seq.{get_or-set_same, get_or-set_other}
use lib.Dec.{eqb}
use borrow.Author.Tests.{eqb-true, eqb-false}
use Rattle.machine.specs.declared.Process.{Process}
use Rattle.machine.specs.Ring.{image_length}
use Rattle.machine.specs.Fields.{blank}
use Rattle.machine.specs.Image.{State, envelope_in, process_in, processes_in, size_in, state_in, image_with}
use Rattle.machine.specs.Image.{with_process}
use Rattle.machine.specs.Sound.{sound}
use Rattle.machine.specs.Events.{process_at}
use Rattle.machine.proofs.Laws.Lists.{get_d_tabulate}
use Rattle.machine.specs.Bytes.{Bytes}
use Rattle.machine.proofs.Laws.Walk.{length_processes}
use Rattle.machine.proofs.Image.Writes.{replaced, write_process}
use Rattle.machine.proofs.Image.Readback.{InRange, read_state}
use Rattle.machine.proofs.Image.Rewrite.{rewrite_image, read_in_range}

pub length_state : (s : List ℕ) → length (state_in s).processes ≡ size_in s
unfolding state_in
length_state s = length_processes s (size_in s)

-- a record read by itself is that of the state
pub read_at : (s : List ℕ) (i : ℕ) → i < size_in s → process_in s i ≡ process_at (state_in s).processes i
unfolding state_in processes_in
read_at s i h = ap (process_in s) (omega arith) ∙ sym (get_d_tabulate (process_in s) 0 (size_in s) i blank h)

-- and so is the envelope
pub read_envelope_at : (s : List ℕ) → envelope_in s ≡ (state_in s).envelope
unfolding state_in
read_envelope_at s = refl

-- a state with one record replaced is in range
pub replaced_in_range : (st : State) (i : ℕ) (p : Process) → InRange st → p.note < 2 ^ 32 → InRange (replaced st i p)
replaced_in_range st i p range small =
    record {
      message = range.message;
      notes = λ k h. note k h (eqb k i) refl;
    }
  where
    note : (k : ℕ) → k < length (set st.processes i p) → (t : Bool) → eqb k i ≡ t
        → (process_at (set st.processes i p) k).note < 2 ^ 32
    note k h true e =
        let here : k ≡ i = eqb-true k i e in
        let below : i < length st.processes = omega (arith, length-set st.processes i p) in
        rw (here, get_or-set_same st.processes i p blank below) small
    note k h false e =
        rw (get_or-set_other st.processes i k p blank (eqb-false k i e)) (range.notes k (omega (
          arith,
          length-set st.processes i p,
        )))

-- an image of n processes that is sound, in a buffer of bytes
module _ (s : List ℕ) (room : image_length (size_in s) ≤ length s) (small : Bytes s) (fits : sound s ≡ true) where
  pub store_process : (i : ℕ) (p : Process) → i < size_in s → with_process s i p
      ≡ image_with s (replaced (state_in s) i p)
  store_process i p h =
      ap (λ (t : List ℕ). with_process t i p) (sym (rewrite_image s room small fits))
      ∙ write_process s (state_in s) i p (omega (arith, length_state s))

  -- one record written is one element of the list replaced
  pub state_after_process : (i : ℕ) (p : Process) → i < size_in s → p.note < 2 ^ 32
      → state_in (with_process s i p) ≡ replaced (state_in s) i p
  state_after_process i p h note =
      ap state_in (store_process i p h)
      ∙ read_state s (replaced (state_in s) i p) (replaced_in_range (state_in s) i p (read_in_range s small) note)
