-- An event is possible, that is not idle, where its bit is set, whatever its message and the envelope. Codes 0 to 3
-- have theirs by the stage, which the checker goes through, in byte 3, where a record has zeros; codes 4 to 7 have a
-- flag or a request of the record, and a put with news is never idle. So one test masks one bit out of all of these.
use Prim.Native.Nat.{ℕ, ◌+◌, ◌*◌, ◌/◌, ◌%◌, ◌^◌, ◌≤◌, ◌<◌}
use mathlib.Core.Path.{◌≡◌, refl, ap, ◌∙◌}
use mathlib.Core.Bool.{Bool, true, false, not, cond, ◌||◌, beq}
use native.Mathlib.Omega.{arith}
use lib.Bits.{bit_and, bit_or, or_zero_l, or_zero_r}
use lib.Dec.{eqb, ltb}
use borrow.Author.Tests.{ltb-true}
use Rattle.machine.specs.declared.Envelope.{Envelope}
use Rattle.machine.specs.declared.Process.{Process}
use Rattle.machine.specs.declared.Reaction.{Reaction}
use Rattle.machine.specs.declared.Outcome.TheVariants.{Moved}
use Rattle.machine.specs.Bytes.{bit_of}
use Rattle.machine.specs.Lists.{every}
use Rattle.machine.specs.Fields.{with_news}
use Rattle.machine.specs.Stages.{told}
use Rattle.machine.specs.Events.{becomes, idle, start_put, start_get, work, signal, receive, take_request, put, react}
use Rattle.machine.proofs.Laws.Lists.{every_at, alike}
use Rattle.machine.proofs.Idle.{idles, put_at_moves}
use Rattle.record.specs.Words.{stage_of, flags_of, requests_of, note_of, shown_process, Tidy}
use Rattle.record.proofs.Fields.{Fields, word_of, made_of, with_bits}
use Rattle.record.proofs.Changes.{tested, in_field}
use Rattle.event.specs.Rows.{Possible, open_at, codes_at, need_of}
use Rattle.event.proofs.Codes.{by_code}

-- ---- which events are idle

module _ (e : Envelope) (p : Process) where
  -- an event that does something where a test holds, and nothing elsewhere
  done_if : (b : Bool) (x : Reaction) → idles x ≡ false → b ≡ not (idles (cond b x (idle e p)))
  done_if true x h = rw h
  done_if false x h = refl

  -- either of two tests
  done_either : (a b : Bool) (x y : Reaction) → idles x ≡ false → idles y ≡ false
      → a || b ≡ not (idles (cond a x (cond b y (idle e p))))
  done_either true b x y h k = rw h
  done_either false b x y h k = done_if b y k

-- ---- which bits are set

module _ (w : ℕ) (tidy : Tidy w) (low : stage_of w ≤ 10) where
  abbrev stage : ℕ
  stage = stage_of w

  -- the record with its stage's codes
  abbrev bits : ℕ
  bits = bit_or w (codes_at stage)

  codes_small : open_at stage < 256
  unfolding every
  codes_small = ltb-true (open_at stage) 256 (every_at 11 (λ s. ltb (open_at s) 256) refl stage (omega arith))

  codes_in : Fields (codes_at stage) 0 0 0 (open_at stage) 0
  unfolding codes_at
  codes_in =
      let is : 2 ^ 24 * open_at stage ≡ word_of 0 0 0 (open_at stage) 0 = omega arith in
      rw is (made_of 0 0 0 (open_at stage) 0 (omega arith) (omega arith) (omega arith) codes_small)

  bits_in : Fields bits stage (flags_of w) (requests_of w) (open_at stage) (note_of w)
  bits_in =
      rw (
        or_zero_r stage,
        or_zero_r (flags_of w),
        or_zero_r (requests_of w),
        tidy.spare,
        or_zero_l (open_at stage),
        or_zero_r (note_of w),
      ) at (with_bits w codes_in)

  -- the test of a bit, in the field of i + 1 + k bits that it stands in
  reads : (j i k x : ℕ) → bits / 2 ^ j % 2 ^ (i + 1 + k) ≡ x → not (eqb (bit_and bits (2 ^ (j + k))) 0) ≡ bit_of x k
  reads j i k x is =
      tested bits (j + k) ∙ ap (λ b. eqb b 1) (in_field bits j i k ∙ ap (λ y. y / 2 ^ k % 2) is)

  -- the first four codes are the stage's
  opens : (i k : ℕ) → i + 1 + k ≡ 8 → (f : ℕ → Bool) → every 11 (λ s. beq (bit_of (open_at s) k) (f s)) ≡ true
      → not (eqb (bit_and bits (2 ^ (24 + k))) 0) ≡ f stage
  opens i k all f is =
      reads 24 i k (open_at stage) (rw all bits_in.spare_is)
      ∙ alike 11 (λ s. bit_of (open_at s) k) f is stage (omega arith)

  pub possible : (code : ℕ) → code < 8 → Possible code w (not (eqb (bit_and bits (need_of code)) 0))
  unfolding every need_of react start_put start_get work signal receive take_request put
  possible code known m e =
      let p = shown_process w in
      let r = becomes Moved e (with_news false p) in
      by_code (λ k. not (eqb (bit_and bits (need_of k)) 0) ≡ not (idles (react k m e p)))
      (opens 7 0 refl (λ s. eqb s 0) refl ∙ done_if e p (eqb stage 0) _ refl)
      (opens 6 1 refl (λ s. eqb s 0) refl ∙ done_if e p (eqb stage 0) _ refl)
      (opens 5 2 refl (λ s. eqb s 3 || eqb s 8) refl ∙ done_either e p (eqb stage 3) (eqb stage 8) _ _ refl refl)
      (opens 4 3 refl told refl ∙ done_if e p (told stage) _ refl)
      (reads 8 6 1 (flags_of w) bits_in.flags_is ∙ done_if e p (bit_of (flags_of w) 1) _ refl)
      (reads 16 1 6 (requests_of w) bits_in.requests_is ∙ done_if e p (bit_of (requests_of w) 6) _ refl)
      (reads 16 0 7 (requests_of w) bits_in.requests_is ∙ done_if e p (bit_of (requests_of w) 7) _ refl)
      (reads 8 5 2 (flags_of w) bits_in.flags_is ∙ done_if e p (bit_of (flags_of w) 2) _ (put_at_moves stage r refl))
      code known
