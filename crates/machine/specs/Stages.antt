-- The stages 0 to 10 of a process, and each set of stages that a rule names: document 01, "The image" and "The eight
-- events". At 0 nothing is wished. A put goes from 1, where main has told its wish, to 2, where it waits, to 3, where
-- main may fill, to 4, where main has told that it did, to 5; a get likewise from 6 to 10.
use Rattle.std.specs.Prelude.{ℕ, Bool, cond, ◌||◌, eqb}
use Rattle.machine.specs.Lists.{within}
use Rattle.machine.specs.Fields.{Status}

-- stages are 0 to this
abbrev pub last_stage : ℕ
last_stage = 10

-- the put thread treats these alike
abbrev pub plain : ℕ → Bool
plain stage = eqb stage 0 || eqb stage 1 || eqb stage 6

-- main has told its get thread
abbrev pub told : ℕ → Bool
told stage = eqb stage 1 || eqb stage 4 || eqb stage 6 || eqb stage 9

-- a note stands only here
abbrev pub noted : ℕ → Bool
noted = within 1 3

-- these have an empty envelope
abbrev pub with_empty : ℕ → Bool
with_empty stage = eqb stage 3 || eqb stage 9 || eqb stage 10

-- these have a full envelope
abbrev pub with_full : ℕ → Bool
with_full stage = eqb stage 4 || eqb stage 5 || eqb stage 8

-- a mark for s stands only here: for full in 7 to 10, for empty in 2 to 5
abbrev pub markable : Status → ℕ → Bool
markable s = cond s (within 7 10) (within 2 5)

-- a put that has started and not ended
abbrev pub sending : ℕ → Bool
sending = within 1 5

-- a put that has filled the envelope and not ended
abbrev pub filled : ℕ → Bool
filled = within 4 5

-- a get that has started and not ended
abbrev pub receiving : ℕ → Bool
receiving = within 6 10
