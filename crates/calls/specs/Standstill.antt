-- What the stopped call says after every list of calls: document 01, "The eight events", its last paragraph, read off
-- the answers of the step call.
use Rattle.std.specs.Prelude.{ℕ, ◌≤◌, ◌<◌, ◌≡◌, List, [], ◌∷◌, ◌⊎◌, length}
use Rattle.machine.specs.Answers.{step_answer, stopped_answer}
use Rattle.machine.specs.Host.{returned}
use Rattle.calls.specs.Demand.{SaysStopped, AfterEveryList}
use Rattle.calls.specs.Suite.{word_told, AfterEveryHostList}

-- a step with any of the events 2 to 7, at any of n processes, would answer idle, which is outcome 0 with message 0,
-- and no traffic
abbrev pub AllIdle : ℕ → List ℕ → Type 0
AllIdle n image =
    (process : ℕ) → process < n → (code : ℕ) → 2 ≤ code → code ≤ 7
    → step_answer image (process ∷ code ∷ 0 ∷ 0 ∷ 0 ∷ 0 ∷ 0 ∷ 0 ∷ [])
    ≡ record { number = 0; values = 0 ∷ 0 ∷ 0 ∷ 0 ∷ [] }

-- ---- by its answer

-- the stopped call answers no
abbrev pub SaysMoving : List ℕ → Type 0
SaysMoving image = stopped_answer image ≡ record { number = 0; values = 0 ∷ [] }

-- it is never refused, and says yes exactly when all are idle
pub record SaysExactly (n : ℕ) (image : List ℕ) : Type 0 where
  pub answered : SaysStopped image ⊎ SaysMoving image
  pub yes_means : SaysStopped image → AllIdle n image
  pub means_yes : AllIdle n image → SaysStopped image

abbrev pub StandstillTold : Type 0
StandstillTold = AfterEveryList (λ n image t. SaysExactly n image)

-- ---- to the suite's host

-- the stopped call returns 0, and the word reads 1 exactly when all are idle, else 0
pub record TellsExactly (n : ℕ) (image result : List ℕ) : Type 0 where
  pub not_refused : returned (stopped_answer image) result ≡ 0
  pub answered : (word_told image result ≡ 1) ⊎ (word_told image result ≡ 0)
  pub one_means : word_told image result ≡ 1 → AllIdle n image
  pub means_one : AllIdle n image → word_told image result ≡ 1

-- with every result slice of at least 80 bytes
abbrev pub StandstillToldToHost : Type 0
StandstillToldToHost =
    AfterEveryHostList (λ n image t. (result : List ℕ) → 80 ≤ length result → TellsExactly n image result)
