-- In each row the event that is due is possible, and no other of the codes 2 to 7, at any place. What makes an event
-- possible is said code by code (machine/proofs/Stopped): a stage of the caller's, the arriving flag, a request on the
-- link, news; and in a row each of these stands at the due event's place alone.
use Prim.Native.Nat.{ℕ, zero, suc, ◌≤◌}
use mathlib.Core.Path.{◌≡◌, refl, ap, ◌∙◌}
use mathlib.Core.Bool.{Bool, true, false, not, cond, ◌&&◌, ◌||◌, false≢true}
use native.Mathlib.Omega.{arith}
use lib.Dec.{eqb}
use Rattle.machine.specs.declared.Envelope.{Envelope}
use Rattle.machine.specs.Fields.{Status, full, empty}
use Rattle.machine.specs.Stages.{told}
use Rattle.machine.specs.Events.{react}
use Rattle.machine.proofs.Idle.{idles}
use Rattle.machine.proofs.Stopped.{idle_work, idle_signal, idle_receive, idle_request, idle_put}
use Rattle.quiet.proofs.Rows.{Sight, Row, sight, look}
use Rattle.quiet.proofs.Rows.Row.{Told, Asking, Asked, Coming, Come, May, Done, Noted, Rest}

-- a stage in which main works
abbrev works : ℕ → Bool
works stage = eqb stage 3 || eqb stage 8

-- how the due event follows from what a row shows: work and signal from the caller's stage, and then they are due at
-- place 0; the request of the other status never
record Due (w : Status) (x : Sight) : Type 0 where
  work : works x.stage ≡ eqb x.code 2
  signal : told x.stage ≡ eqb x.code 3
  other : eqb x.code (cond w 6 5) ≡ false
  work_here : eqb x.code 2 ≡ true → x.place ≡ 0
  signal_here : eqb x.code 3 ≡ true → x.place ≡ 0

never : {place : ℕ} → false ≡ true → place ≡ 0
never e = absurd (false≢true e)

due : (w : Status) (o : Bool) (d m : ℕ) (row : Row) → Due w (sight w o d m row)
due true o d m Told =
    record { work = refl; signal = refl; other = refl; work_here = never; signal_here = λ e. refl }
due true o d m (Asking j) =
    record { work = refl; signal = refl; other = refl; work_here = never; signal_here = never }
due true o d m (Asked j) =
    record { work = refl; signal = refl; other = refl; work_here = never; signal_here = never }
due true o d m (Coming j) =
    record { work = refl; signal = refl; other = refl; work_here = never; signal_here = never }
due true o d m (Come j) =
    record { work = refl; signal = refl; other = refl; work_here = never; signal_here = never }
due true o d m May =
    record { work = refl; signal = refl; other = refl; work_here = λ e. refl; signal_here = never }
due true o d m Done =
    record { work = refl; signal = refl; other = refl; work_here = never; signal_here = λ e. refl }
due true o d m Noted =
    record { work = refl; signal = refl; other = refl; work_here = never; signal_here = never }
due true o d m Rest =
    record { work = refl; signal = refl; other = refl; work_here = never; signal_here = never }
due false o d m Told =
    record { work = refl; signal = refl; other = refl; work_here = never; signal_here = λ e. refl }
due false o d m (Asking j) =
    record { work = refl; signal = refl; other = refl; work_here = never; signal_here = never }
due false o d m (Asked j) =
    record { work = refl; signal = refl; other = refl; work_here = never; signal_here = never }
due false o d m (Coming j) =
    record { work = refl; signal = refl; other = refl; work_here = never; signal_here = never }
due false o d m (Come j) =
    record { work = refl; signal = refl; other = refl; work_here = never; signal_here = never }
due false o d m May =
    record { work = refl; signal = refl; other = refl; work_here = λ e. refl; signal_here = never }
due false o d m Done =
    record { work = refl; signal = refl; other = refl; work_here = never; signal_here = λ e. refl }
due false o d m Noted =
    record { work = refl; signal = refl; other = refl; work_here = never; signal_here = never }
due false o d m Rest =
    record { work = refl; signal = refl; other = refl; work_here = never; signal_here = never }

-- what holds of each of the codes 2 to 7
pub by_code : (P : ℕ → Type 0) → P 2 → P 3 → P 4 → P 5 → P 6 → P 7 → (code : ℕ) → 2 ≤ code → code ≤ 7 → P code
by_code P p₂ p₃ p₄ p₅ p₆ p₇ zero low high = absurd (omega arith)
by_code P p₂ p₃ p₄ p₅ p₆ p₇ (suc zero) low high = absurd (omega arith)
by_code P p₂ p₃ p₄ p₅ p₆ p₇ (suc (suc zero)) low high = p₂
by_code P p₂ p₃ p₄ p₅ p₆ p₇ (suc (suc (suc zero))) low high = p₃
by_code P p₂ p₃ p₄ p₅ p₆ p₇ (suc (suc (suc (suc zero)))) low high = p₄
by_code P p₂ p₃ p₄ p₅ p₆ p₇ (suc (suc (suc (suc (suc zero))))) low high = p₅
by_code P p₂ p₃ p₄ p₅ p₆ p₇ (suc (suc (suc (suc (suc (suc zero)))))) low high = p₆
by_code P p₂ p₃ p₄ p₅ p₆ p₇ (suc (suc (suc (suc (suc (suc (suc zero))))))) low high = p₇
by_code P p₂ p₃ p₄ p₅ p₆ p₇ (suc (suc (suc (suc (suc (suc (suc (suc n)))))))) low high = absurd (omega arith)

-- neither is not either
not_either : (a b : Bool) → not a && not b ≡ not (a || b)
not_either true b = refl
not_either false b = refl

module _ (w : Status) (o : Bool) (d m : ℕ) (x : Sight) (is : Due w x) where
  -- a test of stages that fails for all but the caller, who alone is in the stage that the row shows
  at_caller : (t : ℕ → Bool) (code k : ℕ) → t 0 ≡ false → t 5 ≡ false → t x.stage ≡ eqb x.code code
      → (eqb x.code code ≡ true → x.place ≡ 0)
      → t (cond (eqb k 0) x.stage (cond (x.there && eqb k d) (cond w 5 0) 0))
      ≡ eqb x.code code && eqb k x.place
  at_caller t code k idle filled shows here = go (eqb x.code code) refl (eqb k 0) refl
    where
      away : (b w : Bool) → t (cond b (cond w 5 0) 0) ≡ false
      away true true = filled
      away true false = idle
      away false w = idle

      go : (c : Bool) → eqb x.code code ≡ c → (b : Bool) → eqb k 0 ≡ b
          → t (cond (eqb k 0) x.stage (cond (x.there && eqb k d) (cond w 5 0) 0))
          ≡ eqb x.code code && eqb k x.place
      go true q true e = rw (q, here q, e) (shows ∙ q)
      go true q false e = rw (q, here q, e) (away (x.there && eqb k d) w)
      go false q true e = rw (q, e) (shows ∙ q)
      go false q false e = rw (q, e) (away (x.there && eqb k d) w)

  -- an event is idle unless it is the due one, at its place
  only_due : (e : Envelope) (message k code : ℕ) → 2 ≤ code → code ≤ 7
      → idles (react code message e (look w o d m x k)) ≡ not (eqb x.code code && eqb k x.place)
  unfolding react look
  only_due e message k =
      let p = look w o d m x k in
      by_code (λ code. idles (react code message e p) ≡ not (eqb x.code code && eqb k x.place))
      (idle_work e p
      ∙ not_either (eqb p.stage 3) (eqb p.stage 8)
      ∙ ap not (at_caller works 2 k refl refl is.work is.work_here))
      (idle_signal e p ∙ ap not (at_caller told 3 k refl refl is.signal is.signal_here))
      (idle_receive e p)
      (idle_request full e p ∙ ap not (asked_full w is.other))
      (idle_request empty e p ∙ ap not (asked_empty w is.other))
      (idle_put e p)
    where
      asked_full : (w : Status) → eqb x.code (cond w 6 5) ≡ false
          → cond w (eqb x.code (cond w 5 6) && eqb k x.place) false ≡ eqb x.code 5 && eqb k x.place
      asked_full true q = refl
      asked_full false q = rw q

      asked_empty : (w : Status) → eqb x.code (cond w 6 5) ≡ false
          → cond w false (eqb x.code (cond w 5 6) && eqb k x.place) ≡ eqb x.code 6 && eqb k x.place
      asked_empty true q = rw q
      asked_empty false q = refl

-- so in every row
pub only_one : (w : Status) (o : Bool) (d m : ℕ) (row : Row) (e : Envelope) (message k code : ℕ) → 2 ≤ code → code ≤ 7
    → idles (react code message e (look w o d m (sight w o d m row) k))
    ≡ not (eqb (sight w o d m row).code code && eqb k (sight w o d m row).place)
only_one w o d m row = only_due w o d m (sight w o d m row) (due w o d m row)
