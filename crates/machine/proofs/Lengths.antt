-- Refusal 6, exactly: of tapes all that aren't whole blocks, none or up to 65,536, and of lists all that aren't whole
-- events, none or up to 4,128,768. What passes is left to its blocks, its events. Cases has short lists alone.
use Rattle.std.specs.Prelude.{Err, Ok}
use Prim.Native.Nat.{ℕ, ◌*◌, ◌/◌, ◌%◌, ◌≤◌, ◌<◌}
use mathlib.Core.Path.{◌≡◌, refl}
use mathlib.Core.Bool.{Bool, true, false, ◌&&◌}
use mathlib.Core.List.{List, []}
use mathlib.Core.Logic.{◌↔◌}
use native.Mathlib.Omega.{arith}
use native.Mathlib.Nat.{div-add-mod, mul-div_right, mul-mod_right}
use lib.ListN.{length}
use lib.Dec.{eqb, leb}
use borrow.Author.Tests.{eqb-true, leb-true, eq-eqb, le-leb}
use Rattle.machine.specs.declared.Refusal.TheVariants as refusal
use Rattle.machine.specs.Image.{size_in}
use Rattle.machine.specs.Refusals.{unless, first, codes, size_verdict, image_verdict, event_fits, length_verdict}
use Rattle.machine.specs.Refusals.{most_blocks, most_events, list_verdict, block_verdict, tape_verdict}
use Rattle.machine.specs.Answers.{answer, run_verdict, run_answer, write_verdict, write_answer}
use Rattle.machine.specs.Answers.{read_verdict, read_answer}
use Rattle.machine.proofs.Laws.Lists.{and_first, and_second}
use Rattle.machine.proofs.Laws.Refusals.{unless_fine}

-- ---- the test

-- whole units, at most `most` of them, as the rule tests it
pub record LengthFine (unit most : ℕ) (s : List ℕ) : Type 0 where
  pub whole : length s % unit ≡ 0
  pub few : length s / unit ≤ most

module _ (unit most : ℕ) (s : List ℕ) where
  pub length_fine : length_verdict unit most s ≡ Ok tt → LengthFine unit most s
  unfolding length_verdict
  length_fine e =
      let whole = eqb (length s % unit) 0 in
      let few = leb (length s / unit) most in
      let fits = unless_fine (whole && few) refusal.Length e in
      record {
        whole = eqb-true (length s % unit) 0 (and_first whole few fits);
        few = leb-true (length s / unit) most (and_second whole few fits);
      }

  pub fine_length : LengthFine unit most s → length_verdict unit most s ≡ Ok tt
  unfolding length_verdict
  fine_length h = rw (eq-eqb (length s % unit) 0 h.whole, le-leb (length s / unit) most h.few)

-- the same as a number of units
abbrev pub Fits : ℕ → ℕ → List ℕ → Type 0
Fits unit most s = (count : ℕ) × (length s ≡ unit * count) × (count ≤ most)

-- exactly these lengths pass
pub which_fit : (unit most : ℕ) → 0 < unit → (s : List ℕ) → (length_verdict unit most s ≡ Ok tt) ↔ Fits unit most s
which_fit unit most some s = (
  λ fine.
      let h = length_fine unit most s fine in
      (length s / unit, omega (arith, div-add-mod (length s) unit, h.whole), h.few),
  λ h.
      let units : length s / unit ≡ h.0 = rw h.1 (mul-div_right h.0 some) in
      fine_length unit most s (record { whole = rw h.1 (mul-mod_right unit h.0); few = rw units h.2 }),
)

-- and all others are refused
unfit : (unit most : ℕ) → 0 < unit → (s : List ℕ) → (Fits unit most s → ⊥)
    → length_verdict unit most s ≡ Err refusal.Length
unfolding length_verdict
unfit unit most some s none = go (eqb (length s % unit) 0 && leb (length s / unit) most) refl
  where
    go : (t : Bool) → eqb (length s % unit) 0 && leb (length s / unit) most ≡ t
        → length_verdict unit most s ≡ Err refusal.Length
    go true q = absurd (none ((which_fit unit most some s).0 (rw q)))
    go false q = rw q

-- ---- tapes and lists, whatever their bytes, the number of codes and N

module _ (codes n : ℕ) (s : List ℕ) where
  pub tape_fits : (blocks : ℕ) → length s ≡ 512 * blocks → blocks ≤ 65536
      → tape_verdict codes n s ≡ first (block_verdict codes n s) 0 blocks
  unfolding tape_verdict
  tape_fits blocks long few =
      let all : length s / 512 ≡ blocks = omega arith in
      rw ((which_fit 512 most_blocks (omega arith) s).1 (blocks, long, few), all)

  pub tape_unfit : (Fits 512 65536 s → ⊥) → tape_verdict codes n s ≡ Err refusal.Length
  unfolding tape_verdict
  tape_unfit none = rw (unfit 512 most_blocks (omega arith) s none)

  pub list_fits : (events : ℕ) → length s ≡ 8 * events → events ≤ 4128768
      → list_verdict codes n s ≡ first (λ k. unless (event_fits codes n s (8 * k)) (refusal.Event k)) 0 events
  unfolding list_verdict
  list_fits events long few =
      let all : length s / 8 ≡ events = omega arith in
      rw ((which_fit 8 most_events (omega arith) s).1 (events, long, few), all)

  pub list_unfit : (Fits 8 4128768 s → ⊥) → list_verdict codes n s ≡ Err refusal.Length
  unfolding list_verdict
  list_unfit none = rw (unfit 8 most_events (omega arith) s none)

-- ---- so reader, writer and run answer 6, where nothing comes before it

module _ (n : ℕ) (s output : List ℕ) (size : size_verdict n ≡ Ok tt) where
  pub read_unfit : (Fits 512 65536 s → ⊥) → read_answer n s output ≡ answer (Err refusal.Length) []
  unfolding read_answer read_verdict
  read_unfit none = rw (size, tape_unfit codes n s none)

  pub write_unfit : (Fits 8 4128768 s → ⊥) → write_answer n s output ≡ answer (Err refusal.Length) []
  unfolding write_answer write_verdict
  write_unfit none = rw (size, list_unfit codes n s none)

pub run_unfit : (image s ledger : List ℕ) → image_verdict image ≡ Ok tt → (Fits 512 65536 s → ⊥)
    → run_answer image s ledger ≡ answer (Err refusal.Length) []
unfolding run_answer run_verdict
run_unfit image s ledger fine none = rw (fine, tape_unfit codes (size_in image) s none)
