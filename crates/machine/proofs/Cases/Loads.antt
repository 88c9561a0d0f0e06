-- Loads, computed: the first events of three seeds and the check of a block, as a calculation by document 02 apart from
-- this repository gives them; each refusal, what comes first of two, and what becomes of the output. The longest load
-- is shown by its length alone.
use Rattle.std.specs.Prelude.{Ok}
use Prim.Native.Nat.{ℕ, ◌-◌, ◌*◌}
use mathlib.Core.Path.{◌≡◌, refl}
use mathlib.Core.Bool.{true}
use mathlib.Core.List.{List, [], ◌∷◌, ◌++◌}
use lib.ListN.{length, replicate}
use Rattle.machine.specs.Events.{Event}
use Rattle.machine.specs.Tape.{block_check, tape_of}
use Rattle.machine.specs.Refusals.{size_verdict, seed_verdict, count_verdict, output_verdict}
use Rattle.machine.specs.Load.{load_events, load_tape, load_verdict, load_answer, load_output}
use Rattle.machine.proofs.Loads.{length_load_tape}
use Rattle.machine.proofs.Cases.Computed.{rules}
use Rattle.machine.proofs.Cases.Case.{Case, case, met, done, refused, event}

-- ---- events

-- p.c, and p.0 with a message
abbrev at : ℕ → ℕ → Event
at p c = record { process = p; code = c; message = 0 }

abbrev puts : ℕ → ℕ → Event
puts p m = record { process = p; code = 0; message = m }

-- seed 1 with N = 4 starts with 3.1
pub first_seed : load_events 4 1 6 ≡ at 3 1 ∷ at 2 2 ∷ at 0 6 ∷ puts 1 1115438165 ∷ at 0 2 ∷ at 3 7 ∷ []
unfolding rules
first_seed = refl

pub last_seed : load_events 2 2147483646 6 ≡ at 0 6 ∷ at 1 5 ∷ at 1 1 ∷ at 0 7 ∷ at 1 5 ∷ puts 0 2130951918 ∷ []
unfolding rules
last_seed = refl

pub some_seed : load_events 64 123456789 4 ≡ at 57 5 ∷ at 34 6 ∷ puts 33 94122056 ∷ at 24 7 ∷ []
unfolding rules
some_seed = refl

pub block_loaded : block_check (load_tape 4 1 63) 0 ≡ 3091372638
unfolding rules
block_loaded = refl

-- ---- refusals

-- room for two blocks
abbrev room : List ℕ
room = replicate 1024 0

abbrev answers : List Case
answers =
    case (load_answer 0 1 1 room) (refused 1 0)
    ∷ case (load_answer 1 1 1 room) (refused 1 0)
    ∷ case (load_answer 2 1 1 room) (done (512 ∷ []))
    ∷ case (load_answer 64 1 1 room) (done (512 ∷ []))
    ∷ case (load_answer 65 1 1 room) (refused 1 0)
    ∷ case (load_answer 258 1 1 room) (refused 1 0)
    ∷ case (load_answer 4 0 1 room) (refused 11 0)
    ∷ case (load_answer 4 2147483646 1 room) (done (512 ∷ []))
    ∷ case (load_answer 4 2147483647 1 room) (refused 11 0)
    ∷ case (load_answer 4 4294967297 1 room) (refused 11 0)
    ∷ case (load_answer 4 1 0 room) (done (0 ∷ []))
    ∷ case (load_answer 4 1 0 []) (done (0 ∷ []))
    ∷ case (load_answer 4 1 63 room) (done (512 ∷ []))
    ∷ case (load_answer 4 1 64 room) (done (1024 ∷ []))
    ∷ case (load_answer 4 1 4128769 room) (refused 6 0)
    ∷ case (load_answer 4 1 4294967297 room) (refused 6 0)
    ∷ case (load_answer 4 1 64 (replicate 1023 0)) (refused 10 0)
    ∷ case (load_answer 4 1 1 []) (refused 10 0)
    -- 1 before 11, 11 before 6, 6 before 10
    ∷ case (load_answer 1 0 1 room) (refused 1 0)
    ∷ case (load_answer 4 0 4128769 room) (refused 11 0)
    ∷ case (load_answer 4 1 4128769 []) (refused 6 0)
    ∷ []

-- ---- the output

abbrev spare : List ℕ
spare = replicate 20 255

abbrev outputs : List Case
outputs =
    case (done (load_output 4 0 1 spare)) (done spare)
    ∷ case (done (load_output 4 1 1 spare)) (done spare)
    ∷ case (done (load_output 4 1 0 spare)) (done spare)
    ∷ case (done (load_output 4 1 1 (replicate 512 255 ++ spare))) (done (tape_of (event 3 1 0) ++ spare))
    ∷ []

pub every_load : met (answers ++ outputs) ≡ true
unfolding rules
every_load = refl

-- ---- the longest

module _ (n seed : ℕ) (output : List ℕ) (size : size_verdict n ≡ Ok tt) (from : seed_verdict seed ≡ Ok tt) where
  pub longest_load : length output ≡ 512 * 65536 → load_answer n seed 4128768 output ≡ done (512 * 65536 ∷ [])
  unfolding load_answer load_verdict count_verdict output_verdict
  longest_load e = rw (size, from, length_load_tape n seed 4128768, e)

  pub longest_refused : length output ≡ 512 * 65536 - 1 → load_answer n seed 4128768 output ≡ refused 10 0
  unfolding load_answer load_verdict count_verdict output_verdict
  longest_refused e = rw (size, from, length_load_tape n seed 4128768, e)
