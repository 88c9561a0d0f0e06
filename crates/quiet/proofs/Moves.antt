-- Each row's due event leads to the next row. At its own place the rule of the event is computed; at every other place
-- the row shows what it showed, but for the request that the place behind gets and the envelope that the place before
-- gets.
use Prim.Native.Nat.{ℕ, ◌+◌, ◌-◌, ◌≤◌, ◌<◌}
use mathlib.Core.Path.{◌≡◌, refl, ◌∙◌}
use mathlib.Core.Bool.{Bool, true, false, cond, ◌&&◌}
use mathlib.Core.Logic.{◌≢◌}
use native.Mathlib.Omega.{arith}
use lib.Dec.{eqb, leb, ltb}
use borrow.Author.Tests.{eqb-true, ne_eqb, eq-eqb, le-leb, ltb-true, lt-ltb}
use Rattle.machine.specs.declared.Envelope.{Envelope}
use Rattle.machine.specs.declared.Process.{Process}
use Rattle.machine.specs.declared.Reaction.{Reaction}
use Rattle.machine.specs.declared.Outcome.{Outcome}
use Rattle.machine.specs.declared.Outcome.TheVariants.{Moved, Fill, Take, Sent, Got}
use Rattle.machine.specs.Fields.{Status, none}
use Rattle.machine.specs.Events.{ask, pass_for, pass, clear, unmark, wanted, leave, set_markers, forward, ends}
use Rattle.machine.specs.Events.{relay, wait, end_put, put_at, work, signal, receive, take_request, put, react}
use Rattle.machine.specs.Events.{requested, arrived}
use Rattle.machine.proofs.Soundness.Around.{no_request, no_arrival}
use Rattle.quiet.proofs.Seen.{same_test}
use Rattle.quiet.proofs.Rows.{Row, pairs, sight, look, envelope_in, before}
use Rattle.quiet.proofs.Rows.Row.{Told, Asking, Asked, Coming, Come, May, Done, Noted, Rest}

-- ---- laws of tests

-- a number is itself
self : (j : ℕ) → eqb j j ≡ true
self j = eq-eqb j j refl

-- and not below itself
not_below : (j : ℕ) → ltb j j ≡ false
not_below j = go (ltb j j) refl
  where
    go : (b : Bool) → ltb j j ≡ b → b ≡ false
    go true q = absurd (let h = ltb-true j j q in omega arith)
    go false q = refl

-- below one more is below, but for the bound itself
below_more : (k j : ℕ) → k ≢ j → ltb k (j + 1) ≡ ltb k j
below_more k j apart =
    same_test _ _ (λ e. let h = ltb-true k (j + 1) e in lt-ltb k j (omega arith))
    (λ e. let h = ltb-true k j e in lt-ltb k (j + 1) (omega arith))

-- what an event at a place makes: a request for the wish or none, and whether the envelope leaves
abbrev pub makes : Status → Process → Envelope → Bool → Bool → Outcome → Reaction
makes w p e asks leaves outcome =
    record { process = p; envelope = e; asks = pairs w asks false; leaves = leaves; outcome = outcome }

-- ---- at the other places

-- nobody is asked
pub unasked : (w b : Bool) (p : Process) → requested (cond b (pairs w false false) none) p ≡ p
unasked true true p = no_request p
unasked true false p = no_request p
unasked false true p = no_request p
unasked false false p = no_request p

-- nothing arrives
pub unreached : (b : Bool) (p : Process) → arrived (b && false) p ≡ p
unreached true p = no_arrival p
unreached false p = no_arrival p

-- an event that reaches nobody
pub alone : (w : Status) (b c : Bool) (p : Process)
    → arrived (b && false) (requested (cond c (pairs w false false) none) p) ≡ p
alone w b c p = unreached b (requested (cond c (pairs w false false) none) p) ∙ unasked w c p

module _ (o : Bool) (d m : ℕ) where
  -- the record at a place in a row
  abbrev pub shows : Status → Row → ℕ → Process
  shows w row k = look w o d m (sight w o d m row) k

  -- the caller's own events: no other place shows anything of them
  pub told_others : (w : Status) (k : ℕ) → k ≢ 0 → shows w Told k ≡ shows w (Asked 0) k
  unfolding look
  told_others true k apart = rw (ne_eqb k 0 apart)
  told_others false k apart = rw (ne_eqb k 0 apart)

  pub may_others : (w : Status) (k : ℕ) → k ≢ 0 → shows w May k ≡ shows w Done k
  unfolding look
  may_others true k apart = rw (ne_eqb k 0 apart)
  may_others false k apart = rw (ne_eqb k 0 apart)

  pub done_others : (w : Status) (k : ℕ) → k ≢ 0 → shows w Done k ≡ shows w Noted k
  unfolding look
  done_others true k apart = rw (ne_eqb k 0 apart)
  done_others false k apart = rw (ne_eqb k 0 apart)

  pub noted_others : (w : Status) (k : ℕ) → k ≢ 0 → shows w Noted k ≡ shows w Rest k
  unfolding look
  noted_others true k apart = rw (ne_eqb k 0 apart)
  noted_others false k apart = rw (ne_eqb k 0 apart)

  -- the envelope has come to the caller
  pub come_others : 1 ≤ d → (w : Status) (k : ℕ) → k ≢ 0 → shows w (Come 0) k ≡ shows w May k
  unfolding look
  come_others some true k apart = rw (ne_eqb k 0 apart, le-leb 1 d some)
  come_others some false k apart = rw (ne_eqb k 0 apart, le-leb 1 d some)

  -- a request is heard, the envelope received
  pub asking_others : (j : ℕ) (w : Status) (k : ℕ) → k ≢ j → shows w (Asking j) k ≡ shows w (Asked j) k
  unfolding look
  asking_others j true k apart = rw (ne_eqb k j apart, below_more k j apart)
  asking_others j false k apart = rw (ne_eqb k j apart, below_more k j apart)

  pub coming_others : (j : ℕ) (w : Status) (k : ℕ) → k ≢ j → shows w (Coming j) k ≡ shows w (Come j) k
  unfolding look
  coming_others j true k apart = rw (ne_eqb k j apart)
  coming_others j false k apart = rw (ne_eqb k j apart)

  -- the place behind gets the request
  pub asked_others : (j : ℕ) (w : Status) (k : ℕ) → k ≢ j
      → requested (cond (eqb k (j + 1)) (pairs w true false) none) (shows w (Asked j) k) ≡ shows w (Asking (j + 1)) k
  unfolding look
  asked_others j w k apart = go w (eqb k (j + 1)) refl
    where
      off : eqb k j ≡ false
      off = ne_eqb k j apart

      more : ltb k (j + 1) ≡ ltb k j
      more = below_more k j apart

      go : (w b : Bool) → eqb k (j + 1) ≡ b
          → requested (cond (eqb k (j + 1)) (pairs w true false) none) (shows w (Asked j) k)
          ≡ shows w (Asking (j + 1)) k
      go true true e = rw (e, off, more)
      go true false e = rw (e, off, more)
      go false true e = rw (e, off, more)
      go false false e = rw (e, off, more)

  -- the place before gets the envelope: from the holder, and from a place on the way
  pub leaves_others : (j : ℕ) → 1 ≤ j → (w : Status) (k : ℕ) → k ≢ j
      → arrived (eqb (k + 1) j && true) (shows w (Come j) k) ≡ shows w (Coming (j - 1)) k
  unfolding look
  leaves_others j some w k apart = go w (eqb (k + 1) j) refl
    where
      off : eqb k j ≡ false
      off = ne_eqb k j apart

      more : ltb k (j + 1) ≡ ltb k j
      more = below_more k j apart

      low : j - 1 + 1 ≡ j
      low = omega arith

      nearer : eqb k (j - 1) ≡ eqb (k + 1) j
      nearer =
          same_test _ _ (λ e. let h = eqb-true k (j - 1) e in eq-eqb (k + 1) j (omega arith))
          (λ e. let h = eqb-true (k + 1) j e in eq-eqb k (j - 1) (omega arith))

      go : (w b : Bool) → eqb (k + 1) j ≡ b
          → arrived (eqb (k + 1) j && true) (shows w (Come j) k) ≡ shows w (Coming (j - 1)) k
      go true true e = rw (off, more, low, nearer, e)
      go true false e = rw (off, more, low, nearer, e)
      go false true e = rw (off, more, low, nearer, e)
      go false false e = rw (off, more, low, nearer, e)

  -- but for its own place the holder's row is as if the envelope had come there
  pub holder_others : (w : Status) (k : ℕ) → k ≢ d → shows w (Asked d) k ≡ shows w (Come d) k
  unfolding look
  holder_others true k apart = rw (ne_eqb k d apart, below_more k d apart)
  holder_others false k apart = rw (ne_eqb k d apart, below_more k d apart)

-- ---- at its own place

module _ (o : Bool) (d m : ℕ) where
  pub told_own : (message : ℕ) (e : Envelope) (w : Status)
      → react 3 message e (shows o d m w Told 0) ≡ makes w (shows o d m w (Asked 0) 0) e false false Moved
  unfolding react signal look
  told_own message e true = refl
  told_own message e false = refl

  pub asking_own : (j : ℕ) → 1 ≤ j → (message : ℕ) (e : Envelope) (w : Status)
      → react (cond w 5 6) message e (shows o d m w (Asking j) j)
      ≡ makes w (shows o d m w (Asked j) j) e false false Moved
  unfolding react take_request look
  asking_own j some message e true = rw (self j, le-leb 1 j some, not_below j, lt-ltb j (j + 1) (omega arith))
  asking_own j some message e false = rw (self j, le-leb 1 j some, not_below j, lt-ltb j (j + 1) (omega arith))

  -- the caller asks
  pub calls_own : 1 ≤ d → (message : ℕ) (w : Status)
      → react 7 message (before w o d m false) (shows o d m w (Asked 0) 0)
      ≡ makes w (shows o d m w (Asking 1) 0) (before w o d m false) true false Moved
  unfolding react put put_at wait pass pass_for ask look
  calls_own some message true = rw (ne_eqb 0 d (λ same. absurd (omega arith)))
  calls_own some message false = rw (ne_eqb 0 d (λ same. absurd (omega arith)))

  -- a place on the way passes the request on
  pub passes_own : (j : ℕ) → 1 ≤ j → j < d → (message : ℕ) (e : Envelope) (w : Status)
      → react 7 message e (shows o d m w (Asked j) j)
      ≡ makes w (shows o d m w (Asking (j + 1)) j) e true false Moved
  unfolding react put put_at relay pass pass_for ask look
  passes_own j some inner message e w = go w
    where
      away : eqb j d ≡ false
      away = ne_eqb j d (λ same. absurd (omega arith))

      not_caller : eqb j 0 ≡ false
      not_caller = ne_eqb j 0 (λ same. absurd (omega arith))

      not_behind : eqb j (j + 1) ≡ false
      not_behind = ne_eqb j (j + 1) (λ same. absurd (omega arith))

      more : ltb j (j + 1) ≡ true
      more = lt-ltb j (j + 1) (omega arith)

      go : (w : Status) → react 7 message e (shows o d m w (Asked j) j)
          ≡ makes w (shows o d m w (Asking (j + 1)) j) e true false Moved
      go true = rw (self j, away, not_caller, le-leb 1 j some, not_below j, more, not_behind)
      go false = rw (self j, away, not_caller, le-leb 1 j some, not_below j, more, not_behind)

  -- the holder lets the envelope go: a process in stage 0, or the sender, whose put ends
  pub holder_own : 1 ≤ d → (message : ℕ) (w : Status)
      → react 7 message (before w o d m false) (shows o d m w (Asked d) d)
      ≡ makes w (shows o d m w (Coming (d - 1)) d) (before w o d m true) false true (cond w Sent Moved)
  unfolding react put put_at relay end_put ends clear unmark set_markers forward wanted leave look
  holder_own some message w = go w
    where
      not_caller : eqb d 0 ≡ false
      not_caller = ne_eqb d 0 (λ same. absurd (omega arith))

      low : d - 1 + 1 ≡ d
      low = omega arith

      apart : eqb d (d - 1) ≡ false
      apart = ne_eqb d (d - 1) (λ same. absurd (omega arith))

      more : ltb d (d + 1) ≡ true
      more = lt-ltb d (d + 1) (omega arith)

      go : (w : Status) → react 7 message (before w o d m false) (shows o d m w (Asked d) d)
          ≡ makes w (shows o d m w (Coming (d - 1)) d) (before w o d m true) false true (cond w Sent Moved)
      go true = rw (self d, not_caller, le-leb 1 d some, low, not_below d, more, apart)
      go false = rw (self d, not_caller, le-leb 1 d some, low, not_below d, more, apart)

  pub coming_own : (j message : ℕ) (e : Envelope) (w : Status)
      → react 4 message e (shows o d m w (Coming j) j) ≡ makes w (shows o d m w (Come j) j) e false false Moved
  unfolding react receive look
  coming_own j message e true = rw (self j)
  coming_own j message e false = rw (self j)

  -- a place on the way lets it go on
  pub forwards_own : (j : ℕ) → 1 ≤ j → (message : ℕ) (w : Status)
      → react 7 message (before w o d m true) (shows o d m w (Come j) j)
      ≡ makes w (shows o d m w (Coming (j - 1)) j) (before w o d m true) false true Moved
  unfolding react put put_at relay set_markers forward wanted leave look
  forwards_own j some message w = go w
    where
      not_caller : eqb j 0 ≡ false
      not_caller = ne_eqb j 0 (λ same. absurd (omega arith))

      low : j - 1 + 1 ≡ j
      low = omega arith

      apart : eqb j (j - 1) ≡ false
      apart = ne_eqb j (j - 1) (λ same. absurd (omega arith))

      go : (w : Status) → react 7 message (before w o d m true) (shows o d m w (Come j) j)
          ≡ makes w (shows o d m w (Coming (j - 1)) j) (before w o d m true) false true Moved
      go true = rw (self j, not_caller, le-leb 1 j some, low, not_below j, apart)
      go false = rw (self j, not_caller, le-leb 1 j some, low, not_below j, apart)

  -- the caller has it
  pub come_own : 1 ≤ d → (message : ℕ) (w : Status)
      → react 7 message (before w o d m true) (shows o d m w (Come 0) 0)
      ≡ makes w (shows o d m w May 0) (envelope_in w o d m May) false false Moved
  unfolding react put put_at wait look
  come_own some message true = rw (le-leb 1 d some)
  come_own some message false = rw (le-leb 1 d some)

  -- and works
  pub may_own : (message : ℕ) (w : Status)
      → react 2 message (envelope_in w o d m May) (shows o d m w May 0)
      ≡ makes w (shows o d m w Done 0) (envelope_in w o d m Done) false false (cond w (Take m) (Fill m))
  unfolding react work look
  may_own message true = refl
  may_own message false = refl

  pub done_own : (message : ℕ) (e : Envelope) (w : Status)
      → react 3 message e (shows o d m w Done 0) ≡ makes w (shows o d m w Noted 0) e false false Moved
  unfolding react signal look
  done_own message e true = refl
  done_own message e false = refl

  -- the wish is struck off, and nobody wants the envelope
  pub noted_own : (message : ℕ) (w : Status)
      → react 7 message (envelope_in w o d m Noted) (shows o d m w Noted 0)
      ≡ makes w (shows o d m w Rest 0) (envelope_in w o d m Rest) false false (cond w Got Moved)
  unfolding react put put_at end_put ends clear unmark set_markers forward wanted look
  noted_own message w = go w (leb 1 d) refl
    where
      go : (w q : Bool) → leb 1 d ≡ q
          → react 7 message (envelope_in w o d m Noted) (shows o d m w Noted 0)
          ≡ makes w (shows o d m w Rest 0) (envelope_in w o d m Rest) false false (cond w Got Moved)
      go true true e = rw e
      go true false e = rw e
      go false true e = rw e
      go false false e = rw e

-- a put where the envelope is already: nobody is asked
pub at_once_own : (o : Bool) (m message : ℕ)
    → react 7 message (before false o 0 m false) (shows o 0 m false (Asked 0) 0)
    ≡ makes false (shows o 0 m false May 0) (envelope_in false o 0 m May) false false Moved
unfolding react put put_at wait look
at_once_own o m message = refl

pub at_once_others : (o : Bool) (m k : ℕ) → k ≢ 0 → shows o 0 m false (Asked 0) k ≡ shows o 0 m false May k
unfolding look
at_once_others o m k apart = rw (ne_eqb k 0 apart)
