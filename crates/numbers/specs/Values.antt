-- The values that an answer tells when it is done, and ten words of them.
use Rattle.std.specs.Prelude.{ℕ, ◌≡◌, ◌-◌, ◌≤◌, Bool, List, [], ◌∷◌, ◌++◌, length, replicate, ⊤}
use Rattle.machine.specs.Bytes.{bit}

abbrev pub none : ⊤ → List ℕ
none done = []

abbrev pub one : ℕ → List ℕ
one n = n ∷ []

abbrev pub of_bool : Bool → List ℕ
of_bool b = bit b ∷ []

-- at most ten, and zeros behind them
abbrev pub InTen : List ℕ → List ℕ → Type 0
InTen values words = (length values ≤ 10) × (words ≡ values ++ replicate (10 - length values) 0)
