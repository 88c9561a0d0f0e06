-- How a computed case is written: answers, events and images of two processes as bytes, and one test for a whole list
-- of cases. No rule and no theorem stands here.
use Prim.Native.Nat.{ℕ}
use mathlib.Core.Bool.{Bool, true, false, ◌&&◌}
use mathlib.Core.List.{List, [], ◌∷◌, ◌++◌}
use lib.ListN.{replicate}
use lib.Dec.{eqb}
use Rattle.machine.specs.Bytes.{bytes}
use Rattle.machine.specs.Lists.{join}
use Rattle.machine.specs.Tape.{event_bytes}
use Rattle.machine.specs.Answers.{Answer}

-- ---- answers, events and images

-- a result with these values
abbrev pub done : List ℕ → Answer
done values = record { number = 0; values = values }

-- a refusal by its number and its place
abbrev pub refused : ℕ → ℕ → Answer
refused number place = record { number = number; values = place ∷ [] }

-- an event p.c with message m, as bytes
abbrev pub event : ℕ → ℕ → ℕ → List ℕ
event p c m = event_bytes record { process = p; code = c; message = m }

-- n copies of an event
abbrev pub copies : ℕ → List ℕ → List ℕ
copies n e = join (replicate n e)

-- an image of two processes: header bytes 1 to 4 and the message, then each record
abbrev pub image : ℕ → ℕ → ℕ → ℕ → ℕ → List ℕ → List ℕ → List ℕ
image status markers count_full count_empty message p q =
    (2 ∷ status ∷ markers ∷ count_full ∷ count_empty ∷ 0 ∷ 0 ∷ 0 ∷ bytes 4 message) ++ (replicate 4 0 ++ (p ++ q))

abbrev pub record8 : ℕ → ℕ → ℕ → ℕ → List ℕ
record8 stage flags requests note = stage ∷ flags ∷ requests ∷ 0 ∷ bytes 4 note

-- ---- cases

-- what a call answers, and what it is to answer
pub record Case : Type 0 where
  pub answers : Answer
  pub wanted : Answer

abbrev pub case : Answer → Answer → Case
case a w = record { answers = a; wanted = w }

-- whether two answers are the same, number and values
abbrev pub same_values : List ℕ → List ℕ → Bool
same_values [] [] = true
same_values [] (y ∷ ys) = false
same_values (x ∷ xs) [] = false
same_values (x ∷ xs) (y ∷ ys) = eqb x y && same_values xs ys

abbrev pub met : List Case → Bool
met [] = true
met (c ∷ cs) =
    eqb c.answers.number c.wanted.number && same_values c.answers.values c.wanted.values && met cs
