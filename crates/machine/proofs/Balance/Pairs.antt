-- Laws of a bit for each status: what becomes of the bit for s where that for t is set. Each case of the two statuses
-- computes.
use mathlib.Core.Path.{◌≡◌, refl}
use mathlib.Core.Bool.{Bool, true, false, ◌&&◌, ◌||◌}
use mathlib.Core.Logic.{◌⊎◌, inr}
use Rattle.machine.specs.declared.Pair.{Pair}
use Rattle.machine.specs.Fields.{Status, none, for, with, either}

-- in none, no bit is on
pub none_for : (s : Status) → for none s ≡ false
none_for true = refl
none_for false = refl

-- a bit that is set is on
pub set_on : (t s : Status) (m : Pair Bool) → t ≡ s → for (with m t true) s ≡ true
set_on true s m same = rw (← same)
set_on false s m same = rw (← same)

-- and no other goes off
pub set_keeps : (t s : Status) (m : Pair Bool) → for m s ≡ true → for (with m t true) s ≡ true
set_keeps true true m on = refl
set_keeps true false m on = on
set_keeps false true m on = on
set_keeps false false m on = refl

-- what is set in one of two pairs
pub either_for : (m a : Pair Bool) (s : Status) → for (either m a) s ≡ for m s || for a s
either_for m a true = refl
either_for m a false = refl

-- a request for t that is noted is sent along
pub sent_along : {A : Type 0} (t s : Status) (itself asks : Pair Bool) (a b : Bool)
    → (for itself s && a && b ≡ true → A ⊎ (for asks s ≡ true))
    → for (with itself t true) s && a && b ≡ true
    → A ⊎ (for (with asks t true) s ≡ true)
sent_along true true itself asks a b h on = inr refl
sent_along true false itself asks a b h on = h on
sent_along false true itself asks a b h on = h on
sent_along false false itself asks a b h on = inr refl

-- a request for t that goes from the link is heard
pub heard : (t s : Status) (asked link : Pair Bool) → for asked s || for link s ≡ true
    → for (with asked t true) s || for (with link t false) s ≡ true
heard true true asked link h = refl
heard true false asked link h = h
heard false true asked link h = h
heard false false asked link h = refl
