-- The rules of the image, each at its edge: an image that breaks that rule and no other, and the nearest one that
-- breaks none, with the answers that document 01 gives them. Boundaries has the theorem.
use Prim.Native.Nat.{ℕ, zero, suc, ◌+◌, ◌-◌}
use mathlib.Core.Bool.{Bool, true, false}
use mathlib.Core.List.{List, [], ◌∷◌, ◌++◌}
use lib.ListN.{set}
use Rattle.machine.specs.Image.{size_in, state_in}
use Rattle.machine.specs.Sound.{header_rules, record_rules_in, rest_rules}
use Rattle.machine.specs.Refusals.{image_verdict}
use Rattle.machine.specs.Answers.{answer}
use Rattle.machine.proofs.Cases.Computed.{rules}
use Rattle.machine.proofs.Cases.Case.{Case, case, done, refused, image, record8}

-- ---- images

-- how many of the rules an image breaks
abbrev pub broken : List Bool → ℕ
broken [] = 0
broken (true ∷ rules) = broken rules
broken (false ∷ rules) = suc (broken rules)

abbrev pub broken_records : List ℕ → ℕ → ℕ
broken_records s zero = 0
broken_records s (suc n) = broken (record_rules_in s n) + broken_records s n

abbrev pub broken_in : List ℕ → ℕ
broken_in s = broken (header_rules s) + broken_records s (size_in s) + broken (rest_rules (state_in s))

-- a rule and its neighbourhood: an image that breaks that rule and no other, and the nearest one that breaks none
pub record Edge : Type 0 where
  pub breaks : List ℕ
  pub meets : List ℕ

abbrev pub edge : List ℕ → List ℕ → Edge
edge b m = record { breaks = b; meets = m }

abbrev pub edge_cases : List Edge → List Case
edge_cases [] = []
edge_cases (x ∷ xs) =
    case (answer (image_verdict x.breaks) []) (refused 4 0)
    ∷ case (done (broken_in x.breaks ∷ [])) (done (1 ∷ []))
    ∷ case (answer (image_verdict x.meets) (broken_in x.meets ∷ [])) (done (0 ∷ []))
    ∷ edge_cases xs

-- process 0 at a stage, and process 1 at rest with the envelope; process 0 at a stage with the envelope
abbrev pub without : ℕ → ℕ → ℕ → List ℕ
without stage requests note = image 0 0 0 0 0 (record8 stage 0 requests note) (record8 0 1 0 0)

abbrev pub having : ℕ → ℕ → List ℕ
having status stage = image status 0 0 0 0 (record8 stage 1 0 0) (record8 0 0 0 0)

-- process 0 at a stage with a mark, and the counts
abbrev pub marked : ℕ → ℕ → ℕ → ℕ → ℕ → ℕ → List ℕ
marked status count_full count_empty stage flags requests =
    image status 0 count_full count_empty 0 (record8 stage flags requests 0) (record8 0 (1 - flags) 0 0)

-- the fresh ring with one byte changed
abbrev pub altered : ℕ → ℕ → List ℕ
altered k v = set (having 0 0) k v

-- a byte that is to be zero
abbrev pub zero_edge : ℕ → Edge
zero_edge k = edge (altered k 1) (altered k 0)

-- a stage needs the envelope, of one status
abbrev pub needs_edges : ℕ → ℕ → List Edge
needs_edges status stage =
    edge (image status 0 0 0 0 (record8 stage 0 0 0) (record8 0 1 0 0)) (having status stage)
    ∷ edge (having (1 - status) stage) (having status stage)
    ∷ []

abbrev pub edges : List Edge
edges =
    edge (altered 1 2) (altered 1 1)
    ∷ edge (altered 2 4) (altered 2 3)
    ∷ zero_edge 5
    ∷ zero_edge 6
    ∷ zero_edge 7
    ∷ edge (altered 8 1) (set (altered 8 1) 1 1)
    ∷ edge (altered 11 1) (set (altered 11 1) 1 1)
    ∷ zero_edge 12
    ∷ zero_edge 13
    ∷ zero_edge 14
    ∷ zero_edge 15
    ∷ edge (having 0 11) (having 0 10)
    ∷ edge (altered 25 8) (altered 25 4)
    ∷ edge (altered 25 128) (altered 25 4)
    ∷ edge (marked 0 1 0 6 0 16) (marked 0 1 0 7 0 16)
    ∷ edge (marked 1 1 0 5 1 16) (marked 1 1 0 8 1 16)
    ∷ edge (marked 0 0 1 1 0 32) (marked 0 0 1 2 0 32)
    ∷ edge (marked 0 0 1 6 0 32) (marked 1 0 1 5 1 32)
    ∷ zero_edge 19
    ∷ zero_edge 27
    ∷ edge (without 0 0 1) (without 1 0 1)
    ∷ edge (without 0 0 16777216) (without 2 0 16777216)
    ∷ edge (image 1 0 0 0 0 (record8 4 1 0 1) (record8 0 0 0 0)) (image 0 0 0 0 0 (record8 3 1 0 1) (record8 0 0 0 0))
    ∷ edge (image 0 0 0 0 0 (record8 0 0 0 0) (record8 0 0 0 0)) (image 0 0 0 0 0 (record8 0 0 0 0) (record8 0 2 0 0))
    ∷ edge (image 0 0 0 0 0 (record8 0 1 0 0) (record8 0 1 0 0)) (image 0 0 0 0 0 (record8 0 0 0 0) (record8 0 1 0 0))
    ∷ edge (image 0 0 0 0 0 (record8 0 3 0 0) (record8 0 0 0 0)) (image 0 0 0 0 0 (record8 0 2 0 0) (record8 0 0 0 0))
    ∷ edge (image 0 0 0 0 0 (record8 0 2 0 0) (record8 0 1 0 0)) (image 0 0 0 0 0 (record8 0 1 0 0) (record8 0 0 0 0))
    ∷ needs_edges 0 3
    ++ (needs_edges 0 9
    ++ (needs_edges 0 10
    ++ (needs_edges 1 4
    ++ (needs_edges 1 5
    ++ (needs_edges 1 8
    ++ (edge (altered 3 1) (altered 3 0)
    ∷ edge (altered 4 1) (altered 4 0)
    ∷ edge (marked 0 0 0 7 0 16) (marked 0 1 0 7 0 16)
    ∷ edge (marked 0 2 0 10 1 16) (marked 0 1 0 10 1 16)
    ∷ edge (marked 0 0 0 2 0 32) (marked 0 0 1 2 0 32)
    ∷ edge (marked 0 0 2 2 0 32) (marked 0 0 1 2 0 32)
    ∷ []))))))
