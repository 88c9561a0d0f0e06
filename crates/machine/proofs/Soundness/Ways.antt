-- What holds on every way through an event holds of it: over a choice, over the stages of a put, over the eight codes.
-- A law about reactions is proved for each part once, and taken from here to the whole.
use Prim.Native.Nat.{ℕ}
use mathlib.Core.Path.{◌≡◌, refl, sym, subst}
use mathlib.Core.Bool.{Bool, true, false, cond, ◌||◌}
use lib.Dec.{eqb}
use borrow.Author.Tests.{eqb-true}
use Rattle.machine.specs.declared.Envelope.{Envelope}
use Rattle.machine.specs.declared.Process.{Process}
use Rattle.machine.specs.declared.Reaction.{Reaction}
use Rattle.machine.specs.declared.Outcome.TheVariants.{Got}
use Rattle.machine.specs.Fields.{Status, full, empty, for}
use Rattle.machine.specs.Stages.{plain}
use Rattle.machine.specs.Events.{ask, pass_for, pass, idle, clear, forward, ends, relay, wait}
use Rattle.machine.specs.Events.{end_put, put_at}
use Rattle.machine.specs.Events.{start_put, start_get, work, signal, receive, take_request, put, react}

-- what holds of both holds of a choice, where each may know how the choice went
pub by_test : {A : Type 0} (P : A → Type 0) (b : Bool) (x y : A) → (b ≡ true → P x) → (b ≡ false → P y)
    → P (cond b x y)
by_test P true x y if_so if_not = if_so refl
by_test P false x y if_so if_not = if_not refl

-- and where neither need
pub choice : {A : Type 0} (P : A → Type 0) (b : Bool) (x y : A) → P x → P y → P (cond b x y)
choice P true x y hx hy = hx
choice P false x y hx hy = hy

-- passing requests keeps what asking keeps
module _ (P : Reaction → Type 0) (asks : (s : Status) (r : Reaction) → P r → P (ask s r)) where
  pub pass_for_keeps : (s : Status) (r : Reaction) → P r → P (pass_for s r)
  unfolding pass_for
  pass_for_keeps s r h = choice P (for r.process.asked s) (ask s r) r (asks s r h) h

  pub pass_keeps : (r : Reaction) → P r → P (pass r)
  unfolding pass
  pass_keeps r h = pass_for_keeps empty (pass_for full r) (pass_for_keeps full r h)

-- the stages at which a put does more than clear its news
abbrev pub moving : ℕ → Bool
moving stage = plain stage || eqb stage 2 || eqb stage 7 || eqb stage 5 || eqb stage 10

-- the put by the stage that it finds, which each way may know
pub by_stage : (P : Reaction → Type 0) (stage : ℕ) (r : Reaction) → (plain stage ≡ true → P (relay r))
    → (stage ≡ 2 → P (wait empty 3 r))
    → (stage ≡ 7 → P (wait full 8 r))
    → (stage ≡ 5 → P (end_put (forward (clear empty r))))
    → (stage ≡ 10 → P (ends Got (forward (clear full r))))
    → (moving stage ≡ false → P r)
    → P (put_at stage r)
unfolding put_at
by_stage P stage r relays waits_empty waits_full sends gets calm =
    by_test P (plain stage) _ _ relays
    (λ not_plain. by_test P (eqb stage 2) _ _ (λ found. waits_empty (eqb-true stage 2 found))
    (λ not_2. by_test P (eqb stage 7) _ _ (λ found. waits_full (eqb-true stage 7 found))
    (λ not_7. by_test P (eqb stage 5) _ _ (λ found. sends (eqb-true stage 5 found))
    (λ not_5. by_test P (eqb stage 10) _ _ (λ found. gets (eqb-true stage 10 found))
    (λ not_10. calm (rw (not_plain, not_2, not_7, not_5, not_10)))))))

-- and where none need
pub every_stage : (P : Reaction → Type 0) (stage : ℕ) (r : Reaction) → P (relay r) → P (wait empty 3 r)
    → P (wait full 8 r) → P (end_put (forward (clear empty r))) → P (ends Got (forward (clear full r))) → P r
    → P (put_at stage r)
every_stage P stage r relays waits_empty waits_full sends gets calm =
    by_stage P stage r (λ _. relays) (λ _. waits_empty) (λ _. waits_full) (λ _. sends) (λ _. gets) (λ _. calm)

-- the event by its code, which each way may know
pub by_code : (P : ℕ → Reaction → Type 0) (m : ℕ) (e : Envelope) (p : Process) → P 0 (start_put m e p)
    → P 1 (start_get e p) → P 2 (work e p) → P 3 (signal e p) → P 4 (receive e p) → P 5 (take_request full e p)
    → P 6 (take_request empty e p) → P 7 (put e p) → ((code : ℕ) → P code (idle e p))
    → (code : ℕ) → P code (react code m e p)
unfolding react
by_code P m e p starts_put starts_get works signals receives hears_full hears_empty puts nothing code =
    by_test (P code) (eqb code 0) _ _ (known 0 _ starts_put)
    (λ _. by_test (P code) (eqb code 1) _ _ (known 1 _ starts_get)
    (λ _. by_test (P code) (eqb code 2) _ _ (known 2 _ works)
    (λ _. by_test (P code) (eqb code 3) _ _ (known 3 _ signals)
    (λ _. by_test (P code) (eqb code 4) _ _ (known 4 _ receives)
    (λ _. by_test (P code) (eqb code 5) _ _ (known 5 _ hears_full)
    (λ _. by_test (P code) (eqb code 6) _ _ (known 6 _ hears_empty)
    (λ _. by_test (P code) (eqb code 7) _ _ (known 7 _ puts) (λ _. nothing code))))))))
  where
    known : (k : ℕ) (r : Reaction) → P k r → eqb code k ≡ true → P code r
    known k r h found = subst (λ (n : ℕ). P n r) (sym (eqb-true code k found)) h

-- and where none need
pub every_code : (P : Reaction → Type 0) (code m : ℕ) (e : Envelope) (p : Process) → P (start_put m e p)
    → P (start_get e p) → P (work e p) → P (signal e p) → P (receive e p) → ((s : Status) → P (take_request s e p))
    → P (put e p)
    → P (idle e p)
    → P (react code m e p)
every_code P code m e p starts_put starts_get works signals receives hears puts nothing =
    by_code (λ (_ : ℕ). P) m e p starts_put starts_get works signals receives (hears full) (hears empty) puts
    (λ _. nothing) code
