-- Laws of verdicts: tests in a row, what an accepted input is known to have, and each way in which an image or a fresh
-- ring is refused.
use Rattle.std.specs.Prelude.{Err, Ok}
use Prim.Native.Nat.{ℕ, ◌+◌, ◌≤◌, ◌<◌}
use mathlib.Core.Path.{◌≡◌, refl, sym, ◌∙◌}
use mathlib.Core.Bool.{Bool, true, false, ◌&&◌, ◌||◌}
use mathlib.Core.List.{List}
use native.Mathlib.Omega.{arith}
use lib.ListN.{length, get_or}
use lib.Dec.{eqb, leb, ltb, lit≤}
use borrow.Author.Tests.{eqb-true, ne_eqb, leb-true, ltb-true, le-leb, lt-leb, lt-ltb, le-ltb}
use Rattle.machine.specs.declared.Refusal.{Refusal}
use Rattle.machine.specs.declared.Refusal.TheVariants as refusal
use Rattle.machine.specs.Verdict.{Verdict}
use Rattle.machine.specs.Ring.{size_fits, image_length}
use Rattle.machine.specs.Image.{size_in}
use Rattle.machine.specs.Sound.{sound}
use Rattle.machine.specs.Bytes.{number, zeros}
use Rattle.machine.specs.Tape.{event_in}
use Rattle.machine.specs.Refusals.{number_of, unless, or_else, size_verdict, home_verdict, room_verdict}
use Rattle.machine.specs.Refusals.{front_verdict, sound_verdict, image_verdict}
use Rattle.machine.specs.Refusals.{codes, event_fits, event_verdict, output_verdict}
use Rattle.machine.specs.Answers.{fresh_verdict}
use Rattle.machine.proofs.Laws.Bytes.{zeros_number}
use Rattle.machine.proofs.Laws.Lists.{and_first, and_second}

-- every refusal's number is 1 to 11
pub number_range : (r : Refusal) → (1 ≤ number_of r) × (number_of r ≤ 11)
number_range refusal.Size = (lit≤ tt, lit≤ tt)
number_range refusal.Home = (lit≤ tt, lit≤ tt)
number_range refusal.Short = (lit≤ tt, lit≤ tt)
number_range refusal.Unsound = (lit≤ tt, lit≤ tt)
number_range (refusal.Event i) = (lit≤ tt, lit≤ tt)
number_range refusal.Length = (lit≤ tt, lit≤ tt)
number_range (refusal.Check b) = (lit≤ tt, lit≤ tt)
number_range (refusal.Block b) = (lit≤ tt, lit≤ tt)
number_range (refusal.Unused b) = (lit≤ tt, lit≤ tt)
number_range refusal.Output = (lit≤ tt, lit≤ tt)
number_range refusal.Seed = (lit≤ tt, lit≤ tt)

-- ---- one test, as code makes it: b is what it found for the rule's t

pub test_refuses : {b t : Bool} (r : Refusal) → b ≡ t → b ≡ false → Err r ≡ unless t r
test_refuses r is e = rw (sym is ∙ e)

pub test_passes : {b t : Bool} (r : Refusal) → b ≡ t → b ≡ true → (Ok tt) ≡ unless t r
test_passes r is e = rw (sym is ∙ e)

-- ---- tests in a row, as code makes them: x is what it found for the rule's u

pub refused_first : {x u : Verdict} {r : Refusal} (w : Verdict) → x ≡ u → x ≡ Err r → x ≡ or_else u w
refused_first w is e = e ∙ rw (sym is ∙ e)

pub fine_then : {x y u w : Verdict} → x ≡ u → x ≡ Ok tt → y ≡ w → y ≡ or_else u w
fine_then is e next = next ∙ rw (sym is ∙ e)

-- however they are grouped
pub else_else : (u v w : Verdict) → or_else u (or_else v w) ≡ or_else (or_else u v) w
else_else (Ok _) v w = refl
else_else (Err r) v w = refl

-- two inputs, then an output
module _ (u v : Verdict) (needed : ℕ) (output : List ℕ) where
  -- the tests of all three
  abbrev pub in_turn : Verdict
  in_turn = or_else u (or_else v (output_verdict needed output))

  pub inputs_refuse : {r : Refusal} → or_else u v ≡ Err r → in_turn ≡ Err r
  inputs_refuse e = else_else u v (output_verdict needed output) ∙ rw e

  pub output_refuses : or_else u v ≡ Ok tt → length output < needed → in_turn ≡ Err refusal.Output
  unfolding output_verdict
  output_refuses e few = else_else u v (output_verdict needed output) ∙ rw (e, lt-leb needed (length output) few)

  pub all_fine : or_else u v ≡ Ok tt → needed ≤ length output → in_turn ≡ Ok tt
  unfolding output_verdict
  all_fine e room = else_else u v (output_verdict needed output) ∙ rw (e, le-leb needed (length output) room)

-- ---- what an accepted input is known to have

pub unless_fine : (b : Bool) (r : Refusal) → unless b r ≡ Ok tt → b ≡ true
unless_fine true r e = refl
unless_fine false r e = absurd (let z : ◌≡◌ {A = ℕ} 0 1 = cc in omega arith)

pub first_fine : (v w : Verdict) → or_else v w ≡ Ok tt → v ≡ Ok tt
first_fine (Ok _) w e = refl
first_fine (Err r) w e = e

pub second_fine : (v w : Verdict) → or_else v w ≡ Ok tt → w ≡ Ok tt
second_fine (Ok _) w e = e
second_fine (Err r) w e = absurd (let z : ◌≡◌ {A = ℕ} 0 1 = cc in omega arith)

unless_le : (a b : ℕ) (r : Refusal) → unless (leb a b) r ≡ Ok tt → a ≤ b
unless_le a b r e = leb-true a b (unless_fine (leb a b) r e)

unless_lt : (a b : ℕ) (r : Refusal) → unless (ltb a b) r ≡ Ok tt → a < b
unless_lt a b r e = ltb-true a b (unless_fine (ltb a b) r e)

pub record SizeFits (n : ℕ) : Type 0 where
  pub least : 2 ≤ n
  pub most : n ≤ 64

pub size_fits_lem : (n : ℕ) → size_fits n ≡ true → SizeFits n
size_fits_lem n e =
    record {
      least = leb-true 2 n (and_first (leb 2 n) (leb n 64) e);
      most = leb-true n 64 (and_second (leb 2 n) (leb n 64) e);
    }

unless_size : (n : ℕ) (r : Refusal) → unless (size_fits n) r ≡ Ok tt → SizeFits n
unless_size n r e = size_fits_lem n (unless_fine (size_fits n) r e)

pub fits_size : (n : ℕ) → SizeFits n → size_fits n ≡ true
fits_size n h = rw (le-leb 2 n h.least, le-leb n 64 h.most)

pub record FreshFine (n home : ℕ) (s : List ℕ) : Type 0 where
  pub size : SizeFits n
  pub below : home < n
  pub room : image_length n ≤ length s

pub fresh_fine : (n home : ℕ) (s : List ℕ) → fresh_verdict n home s ≡ Ok tt → FreshFine n home s
unfolding fresh_verdict size_verdict home_verdict room_verdict
fresh_fine n home s e =
    let a = size_verdict n in
    let b = home_verdict n home in
    let c = room_verdict n s in
    let later = second_fine a (or_else b c) e in
    record {
      size = unless_size n refusal.Size (first_fine a (or_else b c) e);
      below = unless_lt home n refusal.Home (first_fine b c later);
      room = unless_le (image_length n) (length s) refusal.Short (second_fine b c later);
    }

pub record FrontFine (s : List ℕ) : Type 0 where
  pub header : 16 ≤ length s
  pub size : SizeFits (size_in s)
  pub room : image_length (size_in s) ≤ length s

pub front_fine : (s : List ℕ) → front_verdict s ≡ Ok tt → FrontFine s
unfolding front_verdict room_verdict
front_fine s e =
    let a = unless (leb 16 (length s)) refusal.Short in
    let b = unless (size_fits (size_in s)) refusal.Unsound in
    let c = room_verdict (size_in s) s in
    let later = second_fine a (or_else b c) e in
    record {
      header = unless_le 16 (length s) refusal.Short (first_fine a (or_else b c) e);
      size = unless_size (size_in s) refusal.Unsound (first_fine b c later);
      room = unless_le (image_length (size_in s)) (length s) refusal.Short (second_fine b c later);
    }

pub record ImageFine (s : List ℕ) : Type 0 where
  pub header : 16 ≤ length s
  pub size : SizeFits (size_in s)
  pub room : image_length (size_in s) ≤ length s
  pub fits : sound s ≡ true

pub image_fine : (s : List ℕ) → image_verdict s ≡ Ok tt → ImageFine s
unfolding image_verdict sound_verdict
image_fine s e =
    let front = front_fine s (first_fine (front_verdict s) (sound_verdict s) e) in
    record {
      header = front.header;
      size = front.size;
      room = front.room;
      fits = unless_fine (sound s) refusal.Unsound (second_fine (front_verdict s) (sound_verdict s) e);
    }

-- an event that fits is at a process of the ring
pub fits_process : (codes n : ℕ) (s : List ℕ) (at : ℕ) → event_fits codes n s at ≡ true → get_or s at 0 < n
unfolding event_fits
fits_process codes n s at fits =
    let process = ltb (get_or s at 0) n in
    let code = ltb (get_or s (at + 1) 0) codes in
    let spare = zeros s (at + 2) 2 in
    ltb-true (get_or s at 0) n
    (and_first process code (and_first (process && code) spare (and_first (process && code && spare) _ fits)))

-- and has one of the codes
pub fits_code : (codes n : ℕ) (s : List ℕ) (at : ℕ) → event_fits codes n s at ≡ true → get_or s (at + 1) 0 < codes
unfolding event_fits
fits_code codes n s at fits =
    let process = ltb (get_or s at 0) n in
    let code = ltb (get_or s (at + 1) 0) codes in
    let spare = zeros s (at + 2) 2 in
    ltb-true (get_or s (at + 1) 0) codes
    (and_second process code (and_first (process && code) spare (and_first (process && code && spare) _ fits)))

-- and no message unless its code is 0
pub fits_silent : (codes n : ℕ) (s : List ℕ) (at : ℕ) → event_fits codes n s at ≡ true → (get_or s (at + 1) 0 ≡ 0 → ⊥)
    → number s (at + 4) 4 ≡ 0
unfolding event_fits
fits_silent codes n s at fits other =
    let code = get_or s (at + 1) 0 in
    let before = ltb (get_or s at 0) n && ltb code codes && zeros s (at + 2) 2 in
    let none = and_second before (eqb code 0 || zeros s (at + 4) 4) fits in
    eqb-true (number s (at + 4) 4) 0 (sym (zeros_number s (at + 4) 4) ∙ (rw (ne_eqb code 0 other) at none))

-- an accepted event is 8 bytes, and fits
module _ (n : ℕ) (s : List ℕ) (fine : event_verdict codes n s ≡ Ok tt) where
  accepted : eqb (length s) 8 && event_fits codes n s 0 ≡ true
  unfolding event_verdict
  accepted = unless_fine (eqb (length s) 8 && event_fits codes n s 0) (refusal.Event 0) fine

  pub accepted_long : length s ≡ 8
  accepted_long = eqb-true (length s) 8 (and_first (eqb (length s) 8) (event_fits codes n s 0) accepted)

  pub accepted_fits : event_fits codes n s 0 ≡ true
  accepted_fits = and_second (eqb (length s) 8) (event_fits codes n s 0) accepted

pub event_below : (n : ℕ) (s : List ℕ) → event_verdict codes n s ≡ Ok tt → (event_in s 0).process < n
unfolding event_in
event_below n s e = fits_process codes n s 0 (accepted_fits n s e)

-- ---- each way through the tests of an image

module _ (s : List ℕ) where
  pub front_under_16 : length s < 16 → front_verdict s ≡ Err refusal.Short
  unfolding front_verdict
  front_under_16 h = rw (lt-leb 16 (length s) h)

  pub front_too_few : 16 ≤ length s → size_in s < 2 → front_verdict s ≡ Err refusal.Unsound
  unfolding front_verdict
  front_too_few h few = rw (le-leb 16 (length s) h, lt-leb 2 (size_in s) few)

  pub front_too_many : 16 ≤ length s → 2 ≤ size_in s → 64 < size_in s → front_verdict s ≡ Err refusal.Unsound
  unfolding front_verdict
  front_too_many h low many = rw (le-leb 16 (length s) h, le-leb 2 (size_in s) low, lt-leb (size_in s) 64 many)

  pub front_short : 16 ≤ length s → SizeFits (size_in s) → length s < image_length (size_in s)
      → front_verdict s ≡ Err refusal.Short
  unfolding front_verdict room_verdict
  front_short h size short = rw (
    le-leb 16 (length s) h,
    fits_size (size_in s) size,
    lt-leb (image_length (size_in s)) (length s) short,
  )

  pub front_whole : 16 ≤ length s → SizeFits (size_in s) → image_length (size_in s) ≤ length s → front_verdict s ≡ Ok tt
  unfolding front_verdict room_verdict
  front_whole h size room =
      rw (le-leb 16 (length s) h, fits_size (size_in s) size, le-leb (image_length (size_in s)) (length s) room)

  pub image_whole : 16 ≤ length s → SizeFits (size_in s) → image_length (size_in s) ≤ length s
      → image_verdict s ≡ unless (sound s) refusal.Unsound
  unfolding image_verdict sound_verdict
  image_whole h size room = rw (front_whole h size room)

-- ---- each way through the tests of a fresh ring

module _ (n home : ℕ) (s : List ℕ) where
  pub fresh_no_size : size_fits n ≡ false → fresh_verdict n home s ≡ Err refusal.Size
  unfolding fresh_verdict size_verdict
  fresh_no_size e = rw e

  pub fresh_no_home : SizeFits n → n ≤ home → fresh_verdict n home s ≡ Err refusal.Home
  unfolding fresh_verdict size_verdict home_verdict
  fresh_no_home size far = rw (fits_size n size, le-ltb home n far)

  pub fresh_short : SizeFits n → home < n → length s < image_length n → fresh_verdict n home s ≡ Err refusal.Short
  unfolding fresh_verdict size_verdict home_verdict room_verdict
  fresh_short size below short = rw (fits_size n size, lt-ltb home n below, lt-leb (image_length n) (length s) short)

  pub fresh_whole : SizeFits n → home < n → image_length n ≤ length s → fresh_verdict n home s ≡ Ok tt
  unfolding fresh_verdict size_verdict home_verdict room_verdict
  fresh_whole size below room = rw (fits_size n size, lt-ltb home n below, le-leb (image_length n) (length s) room)
