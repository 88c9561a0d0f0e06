-- The fresh ring: its bytes as code writes them, and that it is sound.
use Rattle.std.specs.Prelude.{Ok}
use Prim.Native.Nat.{ℕ, zero, suc, ◌+◌, ◌*◌, ◌≤◌, ◌<◌}
use mathlib.Core.Path.{◌≡◌, refl, sym, ap, ◌∙◌}
use mathlib.Core.Bool.{Bool, true, false}
use mathlib.Core.List.{List, ◌++◌}
use native.Mathlib.Omega.{arith}
use lib.ListN.{length, set, drop, replicate, length-set, length-replicate, replicate-append-replicate}
use lib.Seq.{set-append_left}
use lib.Dec.{eqb, lit<}
use lib.Count.{ones_in}
use borrow.Author.Tests.{eqb-true}
use Rattle.machine.specs.declared.Process.{Process}
use Rattle.machine.specs.Bytes.{bit, bytes, splice}
use Rattle.machine.specs.Lists.{all, sum}
use Rattle.machine.specs.Ring.{image_length, record_at}
use Rattle.machine.specs.Fields.{Status, full, empty, none, for, blank, with_have}
use Rattle.machine.specs.Image.{header_bytes, process_bytes, record_bytes, image_with, size_in, state_in}
use Rattle.machine.specs.Sound.{places, stage_fits, stages_fit, marked_set, rest_fits, sound}
use Rattle.machine.specs.Fresh.{fresh_envelope, fresh_state}
use Rattle.machine.specs.Events.{process_at, work, signal, receive, take_request, put, react}
use Rattle.machine.specs.Stopped.{quiet, stopped}
use Rattle.machine.specs.Refusals.{image_verdict}
use Rattle.machine.specs.Answers.{fresh_verdict, fresh_image}
use Rattle.machine.proofs.Laws.Lists.{all_at}
use Rattle.machine.proofs.Laws.Refusals.{SizeFits, fresh_fine, image_whole}
use Rattle.machine.proofs.Image.Writes.{image_pieces, length_written, size_written}
use Rattle.machine.proofs.Image.Readback.{InRange, read_state}
use Rattle.machine.proofs.Image.Written.{process_fits, state_fits, sound_written}

-- ---- as bytes

-- the home process's record
abbrev home : Process
home = with_have true blank

-- zero bytes
abbrev nothing : ℕ → List ℕ
nothing n = replicate n 0

-- eight more, as a list's length takes them
abbrev eight : ℕ → ℕ
eight n = suc (suc (suc (suc (suc (suc (suc (suc n)))))))

blank_records : (n : ℕ) → record_bytes (replicate n blank) ≡ replicate (8 * n) 0
unfolding record_bytes process_bytes bytes
blank_records zero = refl
blank_records (suc n) =
    let e : 8 * suc n ≡ eight (8 * n) = omega arith in
    rw (e, blank_records n)

fresh_records : (n k : ℕ) → k < n
    → record_bytes (set (replicate n blank) k home) ≡ set (replicate (8 * n) 0) (8 * k + 1) 1
unfolding record_bytes process_bytes bytes
fresh_records zero k h = absurd (omega arith)
fresh_records (suc n) zero h =
    let e : 8 * suc n ≡ eight (8 * n) = omega arith in
    rw (e, blank_records n)
fresh_records (suc n) (suc k) h =
    let e : 8 * suc n ≡ eight (8 * n) = omega arith in
    let f : 8 * suc k + 1 ≡ eight (8 * k + 1) = omega arith in
    rw (e, f, fresh_records n k (omega arith))

-- zeros over the image's length, N in byte 0, and have in the home's flags
pub fresh_stores : (s : List ℕ) (n k : ℕ) → k < n
    → set (set (splice s 0 (replicate (image_length n) 0)) 0 n) (record_at k + 1) 1 ≡ image_with s (fresh_state n k)
unfolding fresh_state splice header_bytes bytes
fresh_stores s n k h =
    let rest = drop (image_length n) s in
    let long : length (set (replicate n blank) k home) ≡ n =
    length-set (replicate n blank) k home ∙ length-replicate n blank in
    let split : nothing (image_length n) ≡ nothing 16 ++ nothing (8 * n) =
    sym (replicate-append-replicate 16 (8 * n) 0) in
    let whole : 0 + length (nothing (image_length n)) ≡ image_length n = omega (
      arith,
      length-replicate {A = ℕ} (image_length n) 0,
    ) in
    let at : record_at k + 1 ≡ eight (eight (8 * k + 1)) = omega arith in
    let within : 8 * k + 1 < length (nothing (8 * n)) = omega (arith, length-replicate {A = ℕ} (8 * n) 0) in
    rw (
      image_pieces s (fresh_state n k),
      long,
      whole,
      split,
      at,
      set-append_left (nothing (8 * n)) rest (8 * k + 1) 1 within,
      fresh_records n k h,
    )

-- ---- as a state

abbrev fresh_processes : ℕ → ℕ → List Process
fresh_processes n k = set (replicate n blank) k home

all_blank : (f : Process → Bool) (n : ℕ) → f blank ≡ true → all f (replicate n blank) ≡ true
unfolding all
all_blank f zero e = refl
all_blank f (suc n) e = rw (e, all_blank f n e)

all_fresh : (f : Process → Bool) (n k : ℕ) → f blank ≡ true → f home ≡ true → all f (fresh_processes n k) ≡ true
unfolding all
all_fresh f zero k e g = refl
all_fresh f (suc n) zero e g = rw (g, all_blank f n e)
all_fresh f (suc n) (suc k) e g = rw (e, all_fresh f n k e g)

blank_places : (n : ℕ) → places (replicate n blank) ≡ 0
unfolding sum
blank_places zero = refl
blank_places (suc n) = rw (blank_places n)

fresh_places : (n k : ℕ) → k < n → places (fresh_processes n k) ≡ 1
unfolding sum
fresh_places zero k h = absurd (omega arith)
fresh_places (suc n) zero h = rw (blank_places n)
fresh_places (suc n) (suc k) h = rw (fresh_places n k (omega arith))

blank_marks : (s : Status) (n : ℕ) → marked_set s (replicate n blank) ≡ 0
unfolding marked_set
blank_marks s zero = refl
blank_marks s (suc n) = rw (blank_marks s n) (unmarked s)
  where
    unmarked : (s : Status) → bit (for none s) + 2 * 0 ≡ 0
    unmarked true = refl
    unmarked false = refl

fresh_marks : (s : Status) (n k : ℕ) → marked_set s (fresh_processes n k) ≡ 0
unfolding marked_set
fresh_marks s zero k = refl
fresh_marks true (suc n) zero = rw (blank_marks true n)
fresh_marks false (suc n) zero = rw (blank_marks false n)
fresh_marks true (suc n) (suc k) = rw (fresh_marks true n k)
fresh_marks false (suc n) (suc k) = rw (fresh_marks false n k)

pub fresh_fits : (n k : ℕ) → k < n → state_fits (fresh_state n k) ≡ true
unfolding state_fits fresh_state rest_fits stages_fit ones_in
fresh_fits n k h =
    rw (
      all_fresh process_fits n k refl refl,
      fresh_places n k h,
      all_fresh (λ p. stage_fits empty p.have p.stage) n k refl refl,
      fresh_marks full n k,
      fresh_marks empty n k,
    )

-- no event of codes 2 to 7 finds anything to do
pub fresh_stopped : (n k : ℕ) → stopped (fresh_state n k) ≡ true
unfolding stopped fresh_state quiet all react work signal receive take_request put
fresh_stopped n k = all_fresh (quiet fresh_envelope) n k refl refl

pub length_fresh : (n k : ℕ) → length (fresh_state n k).processes ≡ n
unfolding fresh_state
length_fresh n k = length-set (replicate n blank) k home ∙ length-replicate n blank

abbrev no_note : Process → Bool
no_note p = eqb p.note 0

pub fresh_in_range : (n k : ℕ) → InRange (fresh_state n k)
unfolding fresh_state
fresh_in_range n k =
    record {
      message = lit< tt;
      notes =
          λ i h.
          let noted : eqb (process_at (fresh_processes n k) i).note 0 ≡ true =
          all_at no_note (fresh_processes n k) blank (all_fresh no_note n k refl refl) i h in
          rw (eqb-true (process_at (fresh_processes n k) i).note 0 noted) (lit< tt);
    }

-- ---- what the fresh ring call leaves is the fresh state, written, and sound

module _ (n k : ℕ) (s : List ℕ) (fine : fresh_verdict n k s ≡ Ok tt) where
  pub fresh_written : fresh_image n k s ≡ image_with s (fresh_state n k)
  unfolding fresh_image
  fresh_written = rw fine

  pub fresh_size : size_in (fresh_image n k s) ≡ n
  fresh_size = ap size_in fresh_written ∙ size_written s (fresh_state n k) ∙ length_fresh n k

  pub fresh_state_lem : state_in (fresh_image n k s) ≡ fresh_state n k
  fresh_state_lem = ap state_in fresh_written ∙ read_state s (fresh_state n k) (fresh_in_range n k)

  pub fresh_accepted : image_verdict (fresh_image n k s) ≡ Ok tt
  fresh_accepted =
      let facts = fresh_fine n k s fine in
      let st = fresh_state n k in
      let image = fresh_image n k s in
      let same : length image ≡ length s =
      ap length fresh_written ∙ length_written s st (omega (arith, facts.room, length_fresh n k)) in
      let fits : sound image ≡ true =
      ap sound fresh_written ∙ sound_written s st (fresh_in_range n k) ∙ fresh_fits n k facts.below in
      let sized : SizeFits (size_in image) = rw fresh_size facts.size in
      let room : image_length (size_in image) ≤ length image = rw (fresh_size, same) facts.room in
      image_whole image (omega arith) sized room ∙ rw fits
