-- A possible event's own record after its code's row: bits off and a sum act on each field by itself, and the checker
-- computes the flags and the requests at every value. That record is then the rule's, before main works or put goes on.
use Prim.Native.Nat.{ℕ, zero, suc, ◌+◌, ◌-◌, ◌*◌, ◌^◌, ◌≤◌, ◌<◌}
use mathlib.Core.Path.{◌≡◌, refl, ap, ap₂, ◌∙◌}
use mathlib.Core.Bool.{Bool, true, false, cond, true≢false}
use native.Mathlib.Omega.{arith}
use lib.Bits.{bit_and, and_zero_r}
use lib.Dec.{eqb, leb}
use borrow.Author.Tests.{eqb-true, leb-true}
use Rattle.machine.specs.declared.Envelope.{Envelope}
use Rattle.machine.specs.declared.Process.{Process}
use Rattle.machine.specs.declared.Reaction.{Reaction}
use Rattle.machine.specs.declared.Outcome.TheVariants.{Moved}
use Rattle.machine.specs.Bytes.{bit_of}
use Rattle.machine.specs.Lists.{every}
use Rattle.machine.specs.Fields.{Status, full, empty, with, with_stage, with_note, with_arriving, with_have, with_news}
use Rattle.machine.specs.Fields.{with_link, with_asked}
use Rattle.machine.specs.Image.{process_from, flag_bits, request_bits}
use Rattle.machine.specs.Stages.{told}
use Rattle.machine.specs.Events.{becomes, idle, start_put, start_get, work, signal, receive, take_request, put, put_at}
use Rattle.machine.specs.Events.{react}
use Rattle.machine.proofs.Laws.Lists.{every_at, agree}
use Rattle.machine.proofs.Laws.Bits.{process_is, flags_le}
use Rattle.machine.proofs.Soundness.Ways.{by_test}
use Rattle.machine.proofs.Idle.{idles}
use Rattle.record.specs.Words.{stage_of, flags_of, requests_of, spare_of, note_of, shown_process, Tidy}
use Rattle.record.proofs.Fields.{Fields, shows, is_tidy, all_ones}
use Rattle.record.proofs.Changes.{stepped}
use Rattle.event.specs.Rows.{row_of}
use Rattle.event.specs.Applied.{worked}
use Rattle.event.proofs.Codes.{by_code}

-- ---- the rows, field by field

abbrev off : ℕ → ℕ
off code = (row_of code).off

abbrev on : ℕ → ℕ
on code = (row_of code).on

-- a record's flags and requests after a row, and its word
abbrev flags_after : ℕ → ℕ → ℕ
flags_after code flags = bit_and flags (255 - flags_of (off code)) + flags_of (on code)

abbrev requests_after : ℕ → ℕ → ℕ
requests_after code requests = bit_and requests (255 - requests_of (off code)) + requests_of (on code)

abbrev next_of : ℕ → ℕ → ℕ → ℕ
next_of code message w = bit_and w (18446744073709551615 - off code) + on code + message * 4294967296

module _ (code : ℕ) (known : code < 8) where
  off_is : off code ≡ flags_of (off code) * 256 + requests_of (off code) * 65536 + note_of (off code) * 4294967296
  unfolding every row_of
  off_is =
      agree 8 off (λ k. flags_of (off k) * 256 + requests_of (off k) * 65536 + note_of (off k) * 4294967296) refl code
      known

  on_is : on code ≡ stage_of (on code) + flags_of (on code) * 256 + requests_of (on code) * 65536
  unfolding every row_of
  on_is = agree 8 on (λ k. stage_of (on k) + flags_of (on k) * 256 + requests_of (on k) * 65536) refl code known

  -- a computed bound
  bounded : (f g : ℕ → ℕ) → every 8 (λ k. leb (f k) (g k)) ≡ true → f code ≤ g code
  bounded f g test = leb-true (f code) (g code) (every_at 8 (λ k. leb (f k) (g k)) test code known)

  next_in : (message w : ℕ) → stage_of w ≤ 10
      → Fields (next_of code message w) (stage_of w + stage_of (on code)) (flags_after code (flags_of w))
      (requests_after code (requests_of w)) (spare_of w)
      (bit_and (note_of w) (4294967295 - note_of (off code)) + message)
  unfolding every row_of
  next_in message w low =
      let step = bounded (λ k. stage_of (on k)) (λ k. 6) refl in
      let note = bounded (λ k. note_of (off k)) (λ k. 4294967295) refl in
      rw (ap₂ (λ x y. bit_and w (18446744073709551615 - x) + y + message * 4294967296) off_is on_is)
      (stepped w (flags_of (off code)) (requests_of (off code)) (note_of (off code)) (stage_of (on code))
      (flags_of (on code)) (requests_of (on code)) message (omega arith) (omega arith) (omega arith) (omega arith)
      (bounded (λ k. flags_of (on k)) (λ k. flags_of (off k)) refl)
      (bounded (λ k. requests_of (on k)) (λ k. requests_of (off k)) refl))

-- ---- what a row makes of a record

-- what is left of an event of this code once its row is done
abbrev after : ℕ → Envelope → Process → Reaction
after code e p =
    cond (eqb code 7) (put_at p.stage (becomes Moved e p))
    (cond (eqb code 2) (worked e p)
    (becomes Moved e p))

-- the record is in order, its marks are as before, and the rest of the event makes r of it
pub record Next (code : ℕ) (e : Envelope) (w next : ℕ) (r : Reaction) : Type 0 where
  pub tidy : Tidy next
  pub marks : (shown_process next).mark ≡ (shown_process w).mark
  pub makes : after code e (shown_process next) ≡ r

-- an event that did something did it because its test held
module _ (P : Reaction → Type 0) (e : Envelope) (p : Process) where
  by_done : (b : Bool) (x : Reaction) → idles (cond b x (idle e p)) ≡ false → (b ≡ true → P x) → P (cond b x (idle e p))
  by_done true x moves done = done refl
  by_done false x moves done = absurd (true≢false moves)

module _ (message w : ℕ) (e : Envelope) (small : message < 2 ^ 32) (tidy : Tidy w) (low : stage_of w ≤ 10) where
  abbrev p : Process
  p = shown_process w

  abbrev stage : ℕ
  stage = stage_of w

  abbrev flags : ℕ
  flags = flags_of w

  abbrev requests : ℕ
  requests = requests_of w

  abbrev Done : ℕ → Reaction → Type 0
  Done code r = Next code e w (next_of code message w) r

  -- the note is the message at code 0, else it stays, since there is no message
  abbrev note_after : ℕ → ℕ
  note_after zero = message
  note_after (suc code) = note_of w

  note_small_lem : (code : ℕ) → note_after code < 2 ^ 32
  note_small_lem zero = small
  note_small_lem (suc code) = tidy.note

  note_is : (code : ℕ) → code < 8 → ((code ≡ 0 → ⊥) → message ≡ 0)
      → bit_and (note_of w) (4294967295 - note_of (off code)) + message ≡ note_after code
  unfolding every row_of
  note_is zero known silent = rw (and_zero_r (note_of w)) (omega arith)
  note_is (suc code) known silent =
      let none = silent (λ is. omega (arith, is)) in
      let stays = agree 7 (λ k. note_of (off (suc k))) (λ k. 0) refl code (omega arith) in
      rw (stays, none, all_ones 32 (note_of w) tidy.note) (omega arith)

  -- fields that are those of the rule's record q
  shown_as : (code : ℕ) → code < 8 → ((code ≡ 0 → ⊥) → message ≡ 0) → (q : Process) {r : Reaction}
      → stage + stage_of (on code) ≡ q.stage
      → flags_after code flags ≡ flag_bits q
      → requests_after code requests ≡ request_bits q
      → note_after code ≡ q.note
      → q.mark ≡ p.mark
      → after code e q ≡ r
      → Done code r
  shown_as code known silent q at_stage flag request note mark rest =
      let f = next_in code known message w low in
      let is : shown_process (next_of code message w) ≡ q =
      shows f ∙ rw (at_stage, flag, request, note_is code known silent, note) (process_is q) in
      record {
        tidy = is_tidy f (rw flag (flags_le q)) tidy.spare (rw (note_is code known silent) (note_small_lem code));
        marks = ap (λ x. x.mark) is ∙ mark;
        makes = ap (after code e) is ∙ rest;
      }

  -- ---- flags and requests, computed at every value

  -- the flags under a code's row are those that f changes them to
  flags_as : (code : ℕ) (f : Process → Process)
      → every 8 (λ k. eqb (flags_after code k) (flag_bits (f (process_from 0 k 0 0)))) ≡ true
      → flags_after code flags ≡ flag_bits (f (process_from 0 flags 0 0))
  flags_as code f test =
      agree 8 (flags_after code) (λ k. flag_bits (f (process_from 0 k 0 0))) test flags (omega (arith, tidy.flags))

  -- and so the requests
  requests_as : (code : ℕ) (f : Process → Process)
      → every 256 (λ k. eqb (requests_after code k) (request_bits (f (process_from 0 0 k 0)))) ≡ true
      → requests_after code requests ≡ request_bits (f (process_from 0 0 requests 0))
  requests_as code f test =
      agree 256 (requests_after code) (λ k. request_bits (f (process_from 0 0 k 0))) test requests (omega arith)

  abbrev same : Process → Process
  same q = q

  abbrev received : Process → Process
  received q = with_arriving false (with_have true (with_news true q))

  abbrev heard : Status → Process → Process
  heard s q = with_link (with q.link s false) (with_asked (with q.asked s true) (with_news true q))

  -- ---- the event

  pub next : (code : ℕ) → code < 8 → ((code ≡ 0 → ⊥) → message ≡ 0) → idles (react code message e p) ≡ false
      → Done code (react code message e p)
  unfolding every react start_put start_get work signal receive take_request put row_of
  next code known silent moves =
      by_code (λ k. ((k ≡ 0 → ⊥) → message ≡ 0) → idles (react k message e p) ≡ false → Done k (react k message e p))
      (λ no h. by_done (Done 0) e p (eqb stage 0) _ h
      (λ is. shown_as 0 (omega arith) no (with_stage 1 (with_note message p)) (omega (arith, eqb-true stage 0 is))
      (flags_as 0 same refl) (requests_as 0 same refl) refl refl refl))
      (λ no h. by_done (Done 1) e p (eqb stage 0) _ h
      (λ is. shown_as 1 (omega arith) no (with_stage 6 p) (omega (arith, eqb-true stage 0 is))
      (flags_as 1 same refl) (requests_as 1 same refl) refl refl refl))
      (λ no. by_test (λ r. idles r ≡ false → Done 2 r) (eqb stage 3) _ _
      (λ is _. shown_as 2 (omega arith) no (with_stage 4 p) (omega (arith, eqb-true stage 3 is))
      (flags_as 2 same refl) (requests_as 2 same refl) refl refl refl)
      (λ _ h. by_done (Done 2) e p (eqb stage 8) _ h
      (λ is. shown_as 2 (omega arith) no (with_stage 9 p) (omega (arith, eqb-true stage 8 is))
      (flags_as 2 same refl) (requests_as 2 same refl) refl refl refl)))
      (λ no h. by_done (Done 3) e p (told stage) _ h
      (λ _. shown_as 3 (omega arith) no (with_stage (stage + 1) (with_news true p)) refl
      (flags_as 3 (with_news true) refl) (requests_as 3 same refl) refl refl refl))
      (λ no h. by_done (Done 4) e p (bit_of flags 1) _ h
      (λ _. shown_as 4 (omega arith) no (received p) (omega arith)
      (flags_as 4 received refl) (requests_as 4 same refl) refl refl refl))
      (λ no h. by_done (Done 5) e p (bit_of requests 6) _ h
      (λ _. shown_as 5 (omega arith) no (heard full p) (omega arith)
      (flags_as 5 (with_news true) refl) (requests_as 5 (heard full) refl) refl refl refl))
      (λ no h. by_done (Done 6) e p (bit_of requests 7) _ h
      (λ _. shown_as 6 (omega arith) no (heard empty p) (omega arith)
      (flags_as 6 (with_news true) refl) (requests_as 6 (heard empty) refl) refl refl refl))
      (λ no h. by_done (Done 7) e p (bit_of flags 2) _ h
      (λ _. shown_as 7 (omega arith) no (with_news false p) (omega arith)
      (flags_as 7 (with_news false) refl) (requests_as 7 same refl) refl refl refl))
      code known silent moves
