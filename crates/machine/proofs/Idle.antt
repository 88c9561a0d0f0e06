-- An idle event changes nothing, and a put with news is never idle. Each part of a put hands the outcome on, so it is
-- moved, sent or got; every other event that does something says moved, fill or take.
use Prim.Native.Nat.{ℕ}
use mathlib.Core.Path.{◌≡◌, refl, sym, ap, ◌∙◌}
use mathlib.Core.Bool.{Bool, true, false, not, cond, true≢false}
use mathlib.Core.Logic.{◌⊎◌, inl, inr}
use mathlib.Core.List.{List}
use lib.ListN.{set}
use lib.Seq.{set-get_or}
use lib.Dec.{eqb}
use Rattle.machine.specs.declared.Envelope.{Envelope}
use Rattle.machine.specs.declared.Process.{Process}
use Rattle.machine.specs.declared.Reaction.{Reaction}
use Rattle.machine.specs.declared.Outcome.{Outcome}
use Rattle.machine.specs.declared.Outcome.TheVariants.{Moved, Sent, Got}
use Rattle.machine.specs.Fields.{Status, none, for, blank}
use Rattle.machine.specs.Fields.{with_news}
use Rattle.machine.specs.Image.{State}
use Rattle.machine.specs.Stages.{told}
use Rattle.machine.specs.Events.{Event, becomes, idle, ask, mark_for, mark, unmark, clear}
use Rattle.machine.specs.Events.{wanted, leave}
use Rattle.machine.specs.Events.{set_markers, forward, ends, put_at}
use Rattle.machine.specs.Events.{start_put, start_get, work, signal, receive, take_request, put, react}
use Rattle.machine.specs.Events.{requested, arrived, process_at, change, place, reaction, outcome, apply}
use Rattle.machine.specs.Stopped.{is_idle}
use Rattle.machine.proofs.Soundness.Around.{no_request, no_arrival}
use Rattle.machine.proofs.Soundness.Ways.{choice, every_code}
use Rattle.machine.proofs.Soundness.Parts.{put_keeps}

-- ---- a put moves

-- whether what an event has come to so far is idle
abbrev pub idles : Reaction → Bool
idles r = is_idle r.outcome

-- it is not
abbrev Moves : Reaction → Type 0
Moves r = idles r ≡ false

ask_moves : (s : Status) (r : Reaction) → Moves r → Moves (ask s r)
unfolding ask
ask_moves s r h = choice Moves (for r.process.itself s) r _ h h

mark_moves : (r : Reaction) → Moves r → Moves (mark r)
unfolding mark mark_for
mark_moves r h = choice Moves (for r.process.mark (not r.envelope.full)) r _ h h

clear_moves : (s : Status) (r : Reaction) → Moves r → Moves (clear s r)
unfolding clear unmark
clear_moves s r h = choice Moves (for r.process.mark s) _ _ h h

forward_moves : (r : Reaction) → Moves r → Moves (forward r)
unfolding forward leave set_markers
forward_moves r h = choice Moves (wanted (set_markers r).envelope) (leave (set_markers r)) (set_markers r) h h

-- a put that is over was sent or got
over_moves : (o : Outcome) (r : Reaction) → (o ≡ Sent) ⊎ (o ≡ Got) → Moves r → Moves (ends o r)
unfolding ends
over_moves o r (inl e) h = rw e
over_moves o r (inr e) h = rw e

pub put_at_moves : (stage : ℕ) (r : Reaction) → Moves r → Moves (put_at stage r)
put_at_moves = put_keeps Moves ask_moves mark_moves clear_moves forward_moves (λ next r h. h) over_moves

-- ---- an event that says idle does nothing

-- nothing changes where the outcome is idle
abbrev Honest : Envelope → Process → Reaction → Type 0
Honest e p r = idles r ≡ true → r ≡ idle e p

moving : (e : Envelope) (p : Process) (r : Reaction) → idles r ≡ false → Honest e p r
moving e p r h i = absurd (true≢false (sym i ∙ h))

still : (e : Envelope) (p : Process) → Honest e p (idle e p)
still e p i = refl

-- something or nothing
done_or_idle : (e : Envelope) (p : Process) (b : Bool) (x : Reaction) → idles x ≡ false
    → Honest e p (cond b x (idle e p))
done_or_idle e p b x h = choice (Honest e p) b x (idle e p) (moving e p x h) (still e p)

-- each event
module _ (e : Envelope) (p : Process) where
  start_put_honest : (m : ℕ) → Honest e p (start_put m e p)
  unfolding start_put
  start_put_honest m = done_or_idle e p (eqb p.stage 0) _ refl

  start_get_honest : Honest e p (start_get e p)
  unfolding start_get
  start_get_honest = done_or_idle e p (eqb p.stage 0) _ refl

  work_honest : Honest e p (work e p)
  unfolding work
  work_honest =
      choice (Honest e p) (eqb p.stage 3) _ _ (moving e p _ refl) (done_or_idle e p (eqb p.stage 8) _ refl)

  signal_honest : Honest e p (signal e p)
  unfolding signal
  signal_honest = done_or_idle e p (told p.stage) _ refl

  receive_honest : Honest e p (receive e p)
  unfolding receive
  receive_honest = done_or_idle e p p.arriving _ refl

  request_honest : (s : Status) → Honest e p (take_request s e p)
  unfolding take_request
  request_honest s = done_or_idle e p (for p.link s) _ refl

  put_honest : Honest e p (put e p)
  unfolding put
  put_honest =
      let r = becomes Moved e (with_news false p) in
      done_or_idle e p p.news (put_at p.stage r) (put_at_moves p.stage r refl)

pub react_honest : (code m : ℕ) (e : Envelope) (p : Process) → Honest e p (react code m e p)
react_honest code m e p =
    every_code (Honest e p) code m e p (start_put_honest e p m) (start_get_honest e p) (work_honest e p)
    (signal_honest e p) (receive_honest e p) (request_honest e p) (put_honest e p) (still e p)

-- ---- on the ring

pub unchanged : (l : List Process) (k : ℕ) (f : Process → Process) → f (process_at l k) ≡ process_at l k
    → change l k f ≡ l
unfolding change
unchanged l k f same = ap (set l k) same ∙ set-get_or l k blank

-- an idle event leaves the state as it was
pub idle_keeps : (st : State) (v : Event) → is_idle (outcome st v) ≡ true → apply st v ≡ st
unfolding apply outcome reaction place
idle_keeps st v i =
    let l = st.processes in
    let p = process_at l v.process in
    let nothing = react_honest v.code v.message st.envelope p i in
    rw (
      nothing,
      set-get_or l v.process blank,
      unchanged l _ (requested none) (no_request _),
      unchanged l _ (arrived false) (no_arrival _),
    )
