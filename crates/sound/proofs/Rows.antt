-- The entries that no arm of the table of masks names: a test that the checker computes at all 32.
use Prim.Native.Nat.{ℕ, ◌<◌}
use mathlib.Core.Path.{◌≡◌, refl, sym}
use mathlib.Core.Bool.{Bool, true, false, ◌||◌}
use mathlib.Core.List.{List, [], ◌∷◌}
use lib.Dec.{eqb}
use types.Run.{OneOf}
use borrow.Author.Tests.{eqb-true, ne_eqb}
use Rattle.machine.specs.Lists.{every}
use Rattle.machine.proofs.Laws.Lists.{every_at}
use Rattle.sound.specs.Demands.{demand_of}

-- none of these
abbrev NoneOf : List ℕ → ℕ → Type 0
NoneOf [] entry = Unit {0}
NoneOf (k ∷ ks) entry = NoneOf ks entry × (OneOf (k ∷ []) entry → ⊥)

abbrev among : List ℕ → ℕ → Bool
among [] entry = false
among (k ∷ ks) entry = eqb entry k || among ks entry

none_among : (ks : List ℕ) (entry : ℕ) → NoneOf ks entry → among ks entry ≡ false
none_among [] entry none = refl
none_among (k ∷ ks) entry none = rw (ne_eqb entry k none.1, none_among ks entry none.0)

-- the entries that the table has, the last first
abbrev named : List ℕ
named = 31 ∷ 26 ∷ 25 ∷ 24 ∷ 23 ∷ 22 ∷ 21 ∷ 20 ∷ 19 ∷ 18 ∷ 17 ∷ 16 ∷ 10 ∷ 9 ∷ 8 ∷ 7 ∷ 6 ∷ 5 ∷ 4 ∷ 3 ∷ 2 ∷ 1 ∷ 0 ∷ []

named_or_248 : ℕ → Bool
named_or_248 entry = among named entry || eqb (demand_of entry) 248

all_tested : every 32 named_or_248 ≡ true
unfolding every named_or_248 demand_of
all_tested = refl

pub rest_is : (entry : ℕ) → entry < 32 → NoneOf named entry → 248 ≡ demand_of entry
unfolding named_or_248
rest_is entry below none =
    sym (eqb-true (demand_of entry) 248
    (rw (none_among named entry none) at (every_at 32 named_or_248 all_tested entry below)))
