-- What one event owes for the requests that lie at the left. A process comes to await a status only where it sends the
-- request: asked itself is set together with the link, and goes off with the envelope, which a get brings back. And a
-- request from the right stays where it is, on the link or heard, until the envelope leaves.
use Prim.Native.Nat.{ℕ}
use mathlib.Core.Path.{◌≡◌, sym, ◌∙◌}
use mathlib.Core.Bool.{true, false, not, ◌&&◌, true≢false, false≢true}
use mathlib.Core.Logic.{◌⊎◌, inl}
use lib.Dec.{eqb}
use Rattle.machine.specs.declared.Envelope.{Envelope}
use Rattle.machine.specs.declared.Process.{Process}
use Rattle.machine.specs.declared.Outcome.{Outcome}
use Rattle.machine.specs.declared.Reaction.{Reaction}
use Rattle.machine.specs.Fields.{Status, for}
use Rattle.machine.specs.Stages.{told}
use Rattle.machine.specs.Events.{idle, ask, mark_for, mark, unmark, clear, wanted, leave, set_markers, forward}
use Rattle.machine.specs.Events.{ends}
use Rattle.machine.specs.Events.{start_put, start_get, work, signal, receive, take_request, put, react}
use Rattle.machine.proofs.Laws.Lists.{and_first, and_second}
use Rattle.machine.proofs.Soundness.Ways.{choice, every_code}
use Rattle.machine.proofs.Soundness.Parts.{put_keeps}
use Rattle.machine.proofs.Balance.Pairs.{none_for, sent_along, heard}
use Rattle.machine.proofs.Balance.Clauses.{awaits, holds_request}

-- asked itself goes with the envelope
leave_silent : (s : Status) (r : Reaction) → for (leave r).process.itself s ≡ false
unfolding leave
leave_silent s r = none_for s

-- one event at p, for s
module _ (code m : ℕ) (e : Envelope) (p : Process) (s : Status) where
  -- who awaits s did so before or asks for it now; and a request for s is kept where the envelope doesn't leave
  abbrev Hands : Reaction → Type 0
  Hands r =
      (awaits s r.process ≡ true → (awaits s p ≡ true) ⊎ (for r.asks s ≡ true))
      × (holds_request s p ≡ true → r.leaves ≡ false → holds_request s r.process ≡ true)

  -- where nothing that they read changes
  kept : Hands (idle e p)
  kept = (inl, λ held stays. held)

  -- ---- the parts of a put

  ask_hands : (t : Status) (r : Reaction) → Hands r → Hands (ask t r)
  unfolding ask
  ask_hands t r h =
      choice Hands (for r.process.itself t) _ _ h
      (sent_along t s r.process.itself r.asks _ _ h.0, h.1)

  mark_hands : (r : Reaction) → Hands r → Hands (mark r)
  unfolding mark mark_for
  mark_hands r h = choice Hands (for r.process.mark (not r.envelope.full)) _ _ h h

  clear_hands : (t : Status) (r : Reaction) → Hands r → Hands (clear t r)
  unfolding clear unmark
  clear_hands t r h = choice Hands (for r.process.mark t) _ _ h h

  -- who awaits has not let the envelope leave, and a leave keeps no request
  leave_hands : (r : Reaction) → Hands (leave r)
  unfolding leave
  leave_hands r = (
    λ on.
        let asked = and_first (for (leave r).process.itself s) _ (and_first _ _ on) in
        absurd (true≢false (sym asked ∙ leave_silent s r)),
    λ held stays. absurd (true≢false stays),
  )

  forward_hands : (r : Reaction) → Hands r → Hands (forward r)
  unfolding forward set_markers
  forward_hands r h = choice Hands (wanted (set_markers r).envelope) _ _ (leave_hands (set_markers r)) h

  ends_hands : (o : Outcome) (r : Reaction) → Hands r → Hands (ends o r)
  unfolding ends
  ends_hands o r h = h

  -- ---- the events

  put_hands : Hands (put e p)
  unfolding put
  put_hands =
      choice Hands p.news _ _
      (put_keeps Hands ask_hands mark_hands clear_hands forward_hands (λ next r h. h) (λ o r over. ends_hands o r)
      p.stage _ kept)
      kept

  start_put_lem : Hands (start_put m e p)
  unfolding start_put
  start_put_lem = choice Hands (eqb p.stage 0) _ _ kept kept

  start_get_lem : Hands (start_get e p)
  unfolding start_get
  start_get_lem = choice Hands (eqb p.stage 0) _ _ kept kept

  work_hands : Hands (work e p)
  unfolding work
  work_hands = choice Hands (eqb p.stage 3) _ _ kept (choice Hands (eqb p.stage 8) _ _ kept kept)

  signal_hands : Hands (signal e p)
  unfolding signal
  signal_hands = choice Hands (told p.stage) _ _ kept kept

  -- the envelope that was on the way here is here
  receive_hands : Hands (receive e p)
  unfolding receive
  receive_hands =
      let noted = for p.itself s in
      choice Hands p.arriving _ _
      (λ on. absurd (false≢true (and_second noted _ (and_first (noted && _) _ on))), kept.1) kept

  -- a request goes from the link to what was heard
  request_hands : (t : Status) → Hands (take_request t e p)
  unfolding take_request
  request_hands t =
      choice Hands (for p.link t) _ _ (inl, λ held stays. heard t s p.asked p.link held) kept

  react_hands : Hands (react code m e p)
  react_hands =
      every_code Hands code m e p start_put_lem start_get_lem work_hands signal_hands receive_hands request_hands
      put_hands kept

  -- ---- what is owed

  pub react_awaits : awaits s (react code m e p).process ≡ true
      → (awaits s p ≡ true) ⊎ (for (react code m e p).asks s ≡ true)
  react_awaits = react_hands.0

  pub react_keeps_request : holds_request s p ≡ true → (react code m e p).leaves ≡ false
      → holds_request s (react code m e p).process ≡ true
  react_keeps_request = react_hands.1
