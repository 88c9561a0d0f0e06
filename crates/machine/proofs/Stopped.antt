-- Stopped means what it says: yes exactly when for every process and every code 2 to 7 the outcome is idle. And a
-- process is quiet exactly when no event finds anything to do at it, which is how code asks.
use Prim.Native.Nat.{ℕ, zero, suc, ◌≤◌}
use mathlib.Core.Path.{◌≡◌, refl, ◌∙◌}
use mathlib.Core.Bool.{Bool, true, false, not, cond, ◌&&◌, and-true, and_assoc, false≢true}
use native.Mathlib.Omega.{arith}
use lib.Dec.{eqb, lit≤}
use Rattle.machine.specs.declared.Envelope.{Envelope}
use Rattle.machine.specs.declared.Process.{Process}
use Rattle.machine.specs.declared.Outcome.{Outcome}
use Rattle.machine.specs.declared.Outcome.TheVariants.{Idle, Moved, Fill, Take, Sent, Got}
use Rattle.machine.specs.declared.Reaction.{Reaction}
use Rattle.machine.specs.Lists.{all}
use Rattle.machine.specs.Fields.{Status, full, empty, for, blank}
use Rattle.machine.specs.Image.{State}
use Rattle.machine.specs.Stages.{told}
use Rattle.machine.specs.Events.{idle, work, signal, receive, take_request, put, react, process_at, reaction}
use Rattle.machine.specs.Events.{outcome}
use Rattle.machine.specs.Stopped.{is_idle, quiet, stopped, Stopped}
use Rattle.machine.proofs.Laws.Lists.{and_first, and_second, all_at, all_each}
use Rattle.machine.proofs.Idle.{idles, put_at_moves}

-- ---- the outcome idle, as a test and as a fact

pub idle_is : (o : Outcome) → is_idle o ≡ true → o ≡ Idle
idle_is Idle h = refl
idle_is Moved h = absurd (false≢true h)
idle_is (Fill m) h = absurd (false≢true h)
idle_is (Take m) h = absurd (false≢true h)
idle_is Sent h = absurd (false≢true h)
idle_is Got h = absurd (false≢true h)

-- ---- one process

-- events 2 to 7 are idle here, written out
abbrev idle_at : ℕ → Envelope → Process → Bool
idle_at code e p = idles (react code 0 e p)

quiet_six : (e : Envelope) (p : Process)
    → quiet e p
    ≡ idle_at 2 e p && (idle_at 3 e p && (idle_at 4 e p &&
    (idle_at 5 e p && (idle_at 6 e p && (idle_at 7 e p && true)))))
unfolding quiet all
quiet_six e p = refl

-- events 2 to 7 at one process, the six by name
abbrev Quiet : Envelope → Process → Type 0
Quiet e p = (code : ℕ) → 2 ≤ code → code ≤ 7 → (react code 0 e p).outcome ≡ Idle

quiet_means : (e : Envelope) (p : Process) → quiet e p ≡ true → Quiet e p
quiet_means e p h = at
  where
    a : ℕ → Bool
    a code = idle_at code e p

    from_2 : a 2 && (a 3 && (a 4 && (a 5 && (a 6 && (a 7 && true))))) ≡ true
    from_2 = rw (← quiet_six e p) h

    from_3 : a 3 && (a 4 && (a 5 && (a 6 && (a 7 && true)))) ≡ true
    from_3 = and_second (a 2) _ from_2

    from_4 : a 4 && (a 5 && (a 6 && (a 7 && true))) ≡ true
    from_4 = and_second (a 3) _ from_3

    from_5 : a 5 && (a 6 && (a 7 && true)) ≡ true
    from_5 = and_second (a 4) _ from_4

    from_6 : a 6 && (a 7 && true) ≡ true
    from_6 = and_second (a 5) _ from_5

    at : (code : ℕ) → 2 ≤ code → code ≤ 7 → (react code 0 e p).outcome ≡ Idle
    at zero low high = absurd (omega arith)
    at (suc zero) low high = absurd (omega arith)
    at (suc (suc zero)) low high = idle_is _ (and_first (a 2) _ from_2)
    at (suc (suc (suc zero))) low high = idle_is _ (and_first (a 3) _ from_3)
    at (suc (suc (suc (suc zero)))) low high = idle_is _ (and_first (a 4) _ from_4)
    at (suc (suc (suc (suc (suc zero))))) low high = idle_is _ (and_first (a 5) _ from_5)
    at (suc (suc (suc (suc (suc (suc zero)))))) low high = idle_is _ (and_first (a 6) _ from_6)
    at (suc (suc (suc (suc (suc (suc (suc zero))))))) low high =
        idle_is _ (and_first (a 7) true (and_second (a 6) _ from_6))
    at (suc (suc (suc (suc (suc (suc (suc (suc n)))))))) low high = absurd (omega arith)

means_quiet : (e : Envelope) (p : Process) → Quiet e p → quiet e p ≡ true
means_quiet e p each =
    quiet_six e p
    ∙ rw (
      each 2 (lit≤ tt) (lit≤ tt),
      each 3 (lit≤ tt) (lit≤ tt),
      each 4 (lit≤ tt) (lit≤ tt),
      each 5 (lit≤ tt) (lit≤ tt),
      each 6 (lit≤ tt) (lit≤ tt),
      each 7 (lit≤ tt) (lit≤ tt),
    )

-- ---- every process

pub stopped_means : (st : State) → stopped st ≡ true → Stopped st
unfolding stopped outcome reaction
stopped_means st h i below =
    quiet_means st.envelope (process_at st.processes i)
    (all_at (quiet st.envelope) st.processes blank h i below)

pub means_stopped : (st : State) → Stopped st → stopped st ≡ true
unfolding stopped outcome reaction
means_stopped st each =
    all_each (quiet st.envelope) st.processes blank
    (λ i below. means_quiet st.envelope (process_at st.processes i) (each i below))

-- ---- as code asks: something to do, or nothing

idles_unless : (e : Envelope) (p : Process) (b : Bool) (x : Reaction) → idles x ≡ false
    → idles (cond b x (idle e p)) ≡ not b
idles_unless e p true x h = h
idles_unless e p false x h = refl

pub idle_work : (e : Envelope) (p : Process) → idles (work e p) ≡ not (eqb p.stage 3) && not (eqb p.stage 8)
unfolding work
idle_work e p = choose (eqb p.stage 3) (eqb p.stage 8) _ _ refl refl
  where
    choose : (b c : Bool) (x y : Reaction) → idles x ≡ false → idles y ≡ false
        → idles (cond b x (cond c y (idle e p))) ≡ not b && not c
    choose true c x y hx hy = hx
    choose false c x y hx hy = idles_unless e p c y hy

pub idle_signal : (e : Envelope) (p : Process) → idles (signal e p) ≡ not (told p.stage)
unfolding signal
idle_signal e p = idles_unless e p (told p.stage) _ refl

pub idle_receive : (e : Envelope) (p : Process) → idles (receive e p) ≡ not p.arriving
unfolding receive
idle_receive e p = idles_unless e p p.arriving _ refl

pub idle_request : (s : Status) (e : Envelope) (p : Process) → idles (take_request s e p) ≡ not (for p.link s)
unfolding take_request
idle_request s e p = idles_unless e p (for p.link s) _ refl

pub idle_put : (e : Envelope) (p : Process) → idles (put e p) ≡ not p.news
unfolding put
idle_put e p = idles_unless e p p.news _ (put_at_moves p.stage _ refl)

-- no work, no signal, nothing arriving, no request on the link, no news
abbrev pub nothing_at : Process → Bool
nothing_at p =
    not (eqb p.stage 3) && not (eqb p.stage 8) && not (told p.stage) && not p.arriving
    && not p.link.full && not p.link.empty && not p.news

pub quiet_nothing : (e : Envelope) (p : Process) → quiet e p ≡ nothing_at p
unfolding react
quiet_nothing e p =
    quiet_six e p
    ∙ rw (
      idle_work e p,
      idle_signal e p,
      idle_receive e p,
      idle_request full e p,
      idle_request empty e p,
      idle_put e p,
    )
    (simp (and-true, and_assoc))
