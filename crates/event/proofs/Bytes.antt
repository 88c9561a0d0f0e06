-- An event's bytes as code reads, tests and writes them are the rule's event, test and bytes: each is read and written
-- where the rule has it.
use Rattle.std.specs.Prelude.{Err, Ok}
use Prim.Native.Nat.{ℕ, ◌+◌, ◌≤◌}
use mathlib.Core.Path.{◌≡◌, sym, ◌∙◌}
use mathlib.Core.List.{List, [], ◌∷◌}
use mathlib.Core.Bool.{Bool, true, false, ◌&&◌, ◌||◌}
use native.Mathlib.Omega.{arith}
use lib.ListN.{length, get_or}
use lib.Dec.{eqb, ltb}
use borrow.Author.Tests.{ne_eqb}
use Rattle.std.specs.Array.{IsWholeChunk}
use Rattle.machine.specs.declared.Refusal.TheVariants as refusal
use Rattle.machine.specs.Bytes.{number, bytes, splice}
use Rattle.machine.specs.Events.{Event}
use Rattle.machine.specs.Tape.{event_in, event_bytes}
use Rattle.machine.specs.Refusals.{codes, event_fits, event_verdict}
use Rattle.machine.proofs.Laws.Bytes.{zeros_2, zeros_number, splice_next}
use Rattle.event.specs.Parsed.{event_of}

module _ (s : List ℕ) (at : ℕ) {process message : ℕ} (first : process ≡ get_or s at 0)
    (last : message ≡ number s (at + 4) 4) where
  pub fits_read : (n codes : ℕ)
      → ltb process n && ltb (get_or s (at + 1) 0) codes && (eqb (get_or s (at + 2) 0) 0 && eqb (get_or s (at + 3) 0) 0)
      && (eqb (get_or s (at + 1) 0) 0 || eqb message 0)
      ≡ event_fits codes n s at
  unfolding event_fits
  fits_read n codes =
      let third : at + 2 + 1 ≡ at + 3 = omega arith in
      rw (first, last, zeros_2 s (at + 2), third, zeros_number s (at + 4) 4)

-- the fields of a slot
pub event_read : (slot : List ℕ) {process message : ℕ} → process ≡ get_or slot 0 0 → message ≡ number slot 4 4
    → record { process = process; code = get_or slot 1 0; message = message } ≡ event_of (event_in slot 0)
unfolding event_in
event_read slot first last = rw (first, last)

-- written in two stores, of which the second is the message
pub event_written : (t : List ℕ) (at : ℕ) (v : Event) {one two : List ℕ} → at ≤ length t
    → one ≡ splice t at (v.process ∷ v.code ∷ 0 ∷ 0 ∷ [])
    → two ≡ splice one (at + 4) (bytes 4 v.message)
    → two ≡ splice t at (event_bytes v)
event_written t at v room head message =
    rw (message, head) (splice_next t at (v.process ∷ v.code ∷ 0 ∷ 0 ∷ []) (bytes 4 v.message) room)

module _ (n : ℕ) (s : List ℕ) where
  pub ragged_refused : (length s ≡ 8 → ⊥) → Err (refusal.Event 0) ≡ event_verdict codes n s
  unfolding event_verdict
  ragged_refused h = rw (ne_eqb (length s) 8 h)

  module _ {fits : Bool} {slot : List ℕ} (whole : IsWholeChunk s slot 8) (test : fits ≡ event_fits codes n slot 0) where
    pub fitting_fine : fits ≡ true → (Ok tt) ≡ event_verdict codes n s
    unfolding event_verdict
    fitting_fine h = rw (whole.long, ← whole.same, sym test ∙ h)

    pub unfit_refused : fits ≡ false → Err (refusal.Event 0) ≡ event_verdict codes n s
    unfolding event_verdict
    unfit_refused h = rw (whole.long, ← whole.same, sym test ∙ h)
