-- From row to row: in every row but the last the due event does something and leads to the next row, one event further,
-- with a request or a departure more where it makes one. A wish on the link is heard; heard, it is passed on, until it
-- is at the holder, which lets the envelope go; on the link that is received; received, it goes on, until it is at the
-- caller, who works.
use Prim.Native.Nat.{ℕ, zero, suc, ◌+◌, ◌-◌, ◌≤◌, ◌<◌}
use mathlib.Core.Path.{◌≡◌, refl, ap, subst, ◌∙◌}
use mathlib.Core.Bool.{Bool, true, false, cond, ◌&&◌}
use mathlib.Core.Logic.{◌⊎◌, inl, inr, ◌≢◌}
use native.Mathlib.Omega.{arith}
use lib.Dec.{eqb}
use Rattle.machine.specs.declared.Outcome.{Outcome}
use Rattle.machine.specs.declared.Outcome.TheVariants.{Moved, Fill, Take, Sent, Got}
use Rattle.machine.specs.Bytes.{bit}
use Rattle.machine.specs.Fields.{Status, none}
use Rattle.machine.specs.Events.{react, requested, arrived}
use Rattle.machine.specs.Stopped.{is_idle}
use Rattle.machine.proofs.Laws.Bytes.{lt_or_ge}
use Rattle.quiet.proofs.Seen.{reached}
use Rattle.quiet.proofs.Rows.{Row, pairs, sight, envelope_in, Fits, done_by, asks_by, leaves_by}
use Rattle.quiet.proofs.Rows.Row.{Told, Asking, Asked, Coming, Come, May, Done, Noted, Rest}
use Rattle.quiet.proofs.Moves.{makes, shows, unasked, unreached, alone}
use Rattle.quiet.proofs.Moves.{told_others, asking_others, asked_others, holder_others, leaves_others}
use Rattle.quiet.proofs.Moves.{coming_others, come_others, may_others, done_others, noted_others, at_once_others}
use Rattle.quiet.proofs.Moves.{told_own, asking_own, calls_own, passes_own, holder_own, coming_own, forwards_own}
use Rattle.quiet.proofs.Moves.{come_own, may_own, done_own, noted_own, at_once_own}

-- the due event of a row in a ring of n leads to the row `next`: what it makes of its own place and of the others, how
-- far it reaches, and what is done then. It asks for the wish or not, and the envelope leaves or doesn't
pub record Leads (n : ℕ) (w : Status) (o : Bool) (d m : ℕ) (row next : Row) (asks leaves : Bool) : Type 0 where
  pub outcome : Outcome
  pub own : (message : ℕ)
      → react (sight w o d m row).code message (envelope_in w o d m row) (shows o d m w row (sight w o d m row).place)
      ≡ makes w (shows o d m w next (sight w o d m row).place) (envelope_in w o d m next) asks leaves outcome
  pub others : (k : ℕ) → k ≢ (sight w o d m row).place
      → reached (sight w o d m row).place
      (makes w (shows o d m w row k) (envelope_in w o d m next) asks leaves outcome) k
      (shows o d m w row k)
      ≡ shows o d m w next k
  pub busy : is_idle outcome ≡ false
  pub inner : ((sight w o d m row).place + 1 < n) ⊎ (asks ≡ false)
  pub outer : (1 ≤ (sight w o d m row).place) ⊎ (leaves ≡ false)
  pub within_ring : (sight w o d m row).place < n
  pub fits : Fits d next
  pub done_more : done_by d next ≡ done_by d row + 1
  pub asks_more : asks_by d next ≡ asks_by d row + bit asks
  pub leaves_more : leaves_by d next ≡ leaves_by d row + bit leaves

-- some row
pub record Goes (n : ℕ) (w : Status) (o : Bool) (d m : ℕ) (row : Row) : Type 0 where
  pub next : Row
  pub asks : Bool
  pub leaves : Bool
  pub leads : Leads n w o d m row next asks leaves

-- an outcome by the wish
either_busy : (w : Status) (a b : Outcome) → is_idle a ≡ false → is_idle b ≡ false → is_idle (cond w a b) ≡ false
either_busy true a b x y = x
either_busy false a b x y = y

module _ (n : ℕ) (w : Status) (o : Bool) (d m : ℕ) (wide : d < n) where
  -- an event that reaches nobody
  module _ (row next : Row) (outcome : Outcome) where
    alone_leads : ((message : ℕ)
        → react (sight w o d m row).code message (envelope_in w o d m row)
        (shows o d m w row (sight w o d m row).place)
        ≡ makes w (shows o d m w next (sight w o d m row).place) (envelope_in w o d m next) false false outcome)
        → ((k : ℕ) → k ≢ (sight w o d m row).place → shows o d m w row k ≡ shows o d m w next k)
        → is_idle outcome ≡ false → (sight w o d m row).place < n → Fits d next → done_by d next ≡ done_by d row + 1
        → asks_by d next ≡ asks_by d row → leaves_by d next ≡ leaves_by d row
        → Goes n w o d m row
    alone_leads own others busy within_ring fits done asks leaves =
        record {
          next = next;
          asks = false;
          leaves = false;
          leads = record {
            outcome = outcome;
            own = own;
            others = λ k apart.
                alone w (eqb (k + 1) (sight w o d m row).place) (eqb k ((sight w o d m row).place + 1))
                (shows o d m w row k)
                ∙ others k apart;
            busy = busy;
            inner = inr refl;
            outer = inr refl;
            within_ring = within_ring;
            fits = fits;
            done_more = done;
            asks_more = omega arith;
            leaves_more = omega arith;
          };
        }

    -- one that asks the place behind it
    asks_leads : ((message : ℕ)
        → react (sight w o d m row).code message (envelope_in w o d m row)
        (shows o d m w row (sight w o d m row).place)
        ≡ makes w (shows o d m w next (sight w o d m row).place) (envelope_in w o d m next) true false outcome)
        → ((k : ℕ) → k ≢ (sight w o d m row).place
        → requested (cond (eqb k ((sight w o d m row).place + 1)) (pairs w true false) none) (shows o d m w row k)
        ≡ shows o d m w next k)
        → is_idle outcome ≡ false → (sight w o d m row).place + 1 < n → Fits d next → done_by d next ≡ done_by d row + 1
        → asks_by d next ≡ asks_by d row + 1 → leaves_by d next ≡ leaves_by d row
        → Goes n w o d m row
    asks_leads own others busy inner fits done asks leaves =
        record {
          next = next;
          asks = true;
          leaves = false;
          leads = record {
            outcome = outcome;
            own = own;
            others = λ k apart.
                unreached (eqb (k + 1) (sight w o d m row).place)
                (requested (cond (eqb k ((sight w o d m row).place + 1)) (pairs w true false) none)
                (shows o d m w row k))
                ∙ others k apart;
            busy = busy;
            inner = inl inner;
            outer = inr refl;
            within_ring = omega arith;
            fits = fits;
            done_more = done;
            asks_more = asks;
            leaves_more = omega arith;
          };
        }

    -- and one by which the envelope leaves to the place before it
    leaves_leads : ((message : ℕ)
        → react (sight w o d m row).code message (envelope_in w o d m row)
        (shows o d m w row (sight w o d m row).place)
        ≡ makes w (shows o d m w next (sight w o d m row).place) (envelope_in w o d m next) false true outcome)
        → ((k : ℕ) → k ≢ (sight w o d m row).place
        → arrived (eqb (k + 1) (sight w o d m row).place && true) (shows o d m w row k) ≡ shows o d m w next k)
        → is_idle outcome ≡ false → 1 ≤ (sight w o d m row).place → (sight w o d m row).place < n → Fits d next
        → done_by d next ≡ done_by d row + 1 → asks_by d next ≡ asks_by d row → leaves_by d next ≡ leaves_by d row + 1
        → Goes n w o d m row
    leaves_leads own others busy outer within_ring fits done asks leaves =
        record {
          next = next;
          asks = false;
          leaves = true;
          leads = record {
            outcome = outcome;
            own = own;
            others = λ k apart.
                ap (arrived (eqb (k + 1) (sight w o d m row).place && true))
                (unasked w (eqb k ((sight w o d m row).place + 1)) (shows o d m w row k))
                ∙ others k apart;
            busy = busy;
            inner = inr refl;
            outer = inl outer;
            within_ring = within_ring;
            fits = fits;
            done_more = done;
            asks_more = omega arith;
            leaves_more = leaves;
          };
        }

-- the wish has come to the holder, who may be the caller of a put
held : (n : ℕ) (w : Status) (o : Bool) (d m : ℕ) → d < n → (w ≡ true → 1 ≤ d) → Goes n w o d m (Asked d)
held n true o zero m wide far = absurd (omega (arith, far refl))
held n false o zero m wide far =
    alone_leads n false o 0 m wide (Asked 0) May Moved (at_once_own o m) (at_once_others o m) refl wide (omega arith)
    refl
    refl refl
held n w o (suc d) m wide far =
    let some : 1 ≤ suc d = omega arith in
    leaves_leads n w o (suc d) m wide (Asked (suc d)) (Coming (suc d - 1)) (cond w Sent Moved)
    (λ message. holder_own o (suc d) m some message w)
    (λ k apart.
    ap (arrived (eqb (k + 1) (suc d) && true)) (holder_others o (suc d) m w k apart)
    ∙ leaves_others o (suc d) m (suc d) some w k apart)
    (either_busy w Sent Moved refl refl) some wide (omega arith) (omega arith) refl (omega arith)

module _ (n : ℕ) (w : Status) (o : Bool) (d m : ℕ) (wide : d < n) (far : w ≡ true → 1 ≤ d) where
  -- the wish heard at place j
  asked_goes : (j : ℕ) → j ≤ d → (j < d) ⊎ (d ≤ j) → Goes n w o d m (Asked j)
  asked_goes zero top (inl inner) =
      asks_leads n w o d m wide (Asked 0) (Asking 1) Moved (λ message. calls_own o d m inner message w)
      (asked_others o d m 0 w) refl (omega arith) (omega arith, inner) refl refl refl
  asked_goes (suc i) top (inl inner) =
      let j = suc i in
      asks_leads n w o d m wide (Asked j) (Asking (j + 1)) Moved
      (λ message. passes_own o d m j (omega arith) inner message (envelope_in w o d m (Asked j)) w)
      (asked_others o d m j w) refl (omega arith) (omega arith, omega arith) (omega arith) refl refl
  asked_goes j top (inr held_here) =
      subst (λ (x : ℕ). Goes n w o d m (Asked x)) (omega arith) (held n w o d m wide far)

  -- the envelope come to place j
  come_goes : (j : ℕ) → j < d → Goes n w o d m (Come j)
  come_goes zero inner =
      alone_leads n w o d m wide (Come 0) May Moved (λ message. come_own o d m inner message w)
      (come_others o d m inner w) refl (omega arith) (omega arith) (omega arith) refl (omega arith)
  come_goes (suc i) inner =
      let j = suc i in
      let some : 1 ≤ j = omega arith in
      leaves_leads n w o d m wide (Come j) (Coming (j - 1)) Moved
      (λ message. forwards_own o d m j some message w) (leaves_others o d m j some w) refl some (omega arith)
      (omega arith) (omega arith) refl (omega arith)

  pub goes : (row : Row) → Fits d row → row ≢ Rest → Goes n w o d m row
  goes Told fits more =
      alone_leads n w o d m wide Told (Asked 0) Moved
      (λ message. told_own o d m message (envelope_in w o d m Told) w) (told_others o d m w) refl (omega arith)
      (omega arith) refl refl refl
  goes (Asking j) (some, top) more =
      alone_leads n w o d m wide (Asking j) (Asked j) Moved
      (λ message. asking_own o d m j some message (envelope_in w o d m (Asking j)) w) (asking_others o d m j w) refl
      (omega arith) top (omega arith) refl refl
  goes (Asked j) top more = asked_goes j top (lt_or_ge j d)
  goes (Coming j) inner more =
      alone_leads n w o d m wide (Coming j) (Come j) Moved
      (λ message. coming_own o d m j message (envelope_in w o d m (Coming j)) w) (coming_others o d m j w) refl
      (omega arith) inner (omega arith) refl refl
  goes (Come j) inner more = come_goes j inner
  goes May fits more =
      alone_leads n w o d m wide May Done (cond w (Take m) (Fill m)) (λ message. may_own o d m message w)
      (may_others o d m w) (either_busy w (Take m) (Fill m) refl refl) (omega arith) (omega arith) (omega arith) refl
      refl
  goes Done fits more =
      alone_leads n w o d m wide Done Noted Moved
      (λ message. done_own o d m message (envelope_in w o d m Done) w) (done_others o d m w) refl (omega arith)
      (omega arith) (omega arith) refl refl
  goes Noted fits more =
      alone_leads n w o d m wide Noted Rest (cond w Got Moved) (λ message. noted_own o d m message w)
      (noted_others o d m w) (either_busy w Got Moved refl refl) (omega arith) (omega arith) (omega arith) refl refl
  goes Rest fits more = absurd (more refl)
