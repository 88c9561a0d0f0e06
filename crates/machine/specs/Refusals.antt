-- Where a call is turned down: document 01's table, and what document 02 adds to it; each row's condition exactly, its
-- place, and the order of the tests of one input. The order between a call's inputs stands with the calls, in Answers
-- and Load.
use Rattle.std.specs.Prelude.{ℕ, zero, suc, ◌+◌, ◌-◌, ◌*◌, ◌/◌, ◌%◌, Bool, true, false, ◌&&◌, ◌||◌, List, length}
use Rattle.std.specs.Prelude.{get_or, eqb, leb, ltb, Err, Ok}
use Rattle.machine.specs.declared.Refusal.{Refusal}
use Rattle.machine.specs.declared.Refusal.TheVariants as refusal
use Rattle.machine.specs.Verdict.{Verdict}
use Rattle.machine.specs.Bytes.{zeros}
use Rattle.machine.specs.Lists.{within}
use Rattle.machine.specs.Ring.{size_fits, image_length}
use Rattle.machine.specs.Image.{size_in}
use Rattle.machine.specs.Sound.{sound}
use Rattle.machine.specs.Tape.{check, covered, block_number, block_count, block_check, slot_at}

-- the table's number of each refusal
abbrev pub number_of : Refusal → ℕ
number_of refusal.Size = 1
number_of refusal.Home = 2
number_of refusal.Short = 3
number_of refusal.Unsound = 4
number_of (refusal.Event i) = 5
number_of refusal.Length = 6
number_of (refusal.Check b) = 7
number_of (refusal.Block b) = 8
number_of (refusal.Unused b) = 9
number_of refusal.Output = 10
number_of refusal.Seed = 11

-- where: 5 has the number of the event, 7 to 9 that of the block; the others have 0
abbrev pub place_of : Refusal → ℕ
place_of refusal.Size = 0
place_of refusal.Home = 0
place_of refusal.Short = 0
place_of refusal.Unsound = 0
place_of (refusal.Event i) = i
place_of refusal.Length = 0
place_of (refusal.Check b) = b
place_of (refusal.Block b) = b
place_of (refusal.Unused b) = b
place_of refusal.Output = 0
place_of refusal.Seed = 0

-- ---- tests in order

-- refused as r unless a condition holds
abbrev pub unless : Bool → Refusal → Verdict
unless true r = Ok tt
unless false r = Err r

-- the first of two tests that refuses
abbrev pub or_else : Verdict → Verdict → Verdict
or_else (Ok _) v = v
or_else (Err r) v = Err r

-- the first refusal of f at i, i + 1, .. (k of them)
unfoldable pub first : (ℕ → Verdict) → ℕ → ℕ → Verdict
first f i zero = Ok tt
first f i (suc k) = or_else (f i) (first f (i + 1) k)

-- ---- 1 and 2: arguments

-- N is 2 to 64
unfoldable pub size_verdict : ℕ → Verdict
size_verdict n = unless (size_fits n) refusal.Size

-- the home is below N
unfoldable pub home_verdict : ℕ → ℕ → Verdict
home_verdict n home = unless (ltb home n) refusal.Home

-- ---- 3 and 4: an image

-- a buffer has room for the image of n processes
unfoldable pub room_verdict : ℕ → List ℕ → Verdict
room_verdict n s = unless (leb (image_length n) (length s)) refusal.Short

-- before the image's bytes are looked at, in this order: no room for a header (3), a size that no ring has (4), no room
-- for the records (3)
unfoldable pub front_verdict : List ℕ → Verdict
front_verdict s =
    or_else (unless (leb 16 (length s)) refusal.Short)
    (or_else (unless (size_fits (size_in s)) refusal.Unsound)
    (room_verdict (size_in s) s))

-- of an image with room: not sound (4)
unfoldable pub sound_verdict : List ℕ → Verdict
sound_verdict s = unless (sound s) refusal.Unsound

-- an image: these tests, then soundness
unfoldable pub image_verdict : List ℕ → Verdict
image_verdict s = or_else (front_verdict s) (sound_verdict s)

-- ---- 5: an event

-- how many codes there are
abbrev pub codes : ℕ
codes = 8

-- an event for n processes stands in 8 bytes of s from `at` on: the process is below n, the code below `codes`, two
-- bytes are zero, and so is the message unless the code is 0
unfoldable pub event_fits : ℕ → ℕ → List ℕ → ℕ → Bool
event_fits codes n s at =
    ltb (get_or s at 0) n && ltb (get_or s (at + 1) 0) codes && zeros s (at + 2) 2
    && (eqb (get_or s (at + 1) 0) 0 || zeros s (at + 4) 4)

-- a single event is 8 bytes, and its place is 0
unfoldable pub event_verdict : ℕ → ℕ → List ℕ → Verdict
event_verdict codes n s = unless (eqb (length s) 8 && event_fits codes n s 0) (refusal.Event 0)

-- ---- 6: the length of a list or a tape

-- whole units, at most `most` of them; none will do (document 02, A.2)
unfoldable pub length_verdict : ℕ → ℕ → List ℕ → Verdict
length_verdict unit most s = unless (eqb (length s % unit) 0 && leb (length s / unit) most) refusal.Length

-- a tape has at most so many blocks
abbrev pub most_blocks : ℕ
most_blocks = 65536

-- so a list has at most so many events
abbrev pub most_events : ℕ
most_events = 63 * 65536

-- the same of a number of events, where none are given
unfoldable pub count_verdict : ℕ → Verdict
count_verdict count = unless (leb count most_events) refusal.Length

-- a list: 6, then its events 5
unfoldable pub list_verdict : ℕ → ℕ → List ℕ → Verdict
list_verdict codes n s =
    or_else (length_verdict 8 most_events s)
    (first (λ k. unless (event_fits codes n s (8 * k)) (refusal.Event k)) 0 (length s / 8))

-- ---- 7, 8, 5, 9: a block of a tape

-- 7: the check is that of the block's own bytes
unfoldable pub check_verdict : List ℕ → ℕ → Verdict
check_verdict s b = unless (eqb (check (covered s b)) (block_check s b)) (refusal.Check b)

-- blocks are numbered from 0; each has 63 events but the last, which has 1 to 63
unfoldable pub block_fits : List ℕ → ℕ → Bool
block_fits s b =
    eqb (block_number s b) b && leb 1 (block_count s b) && leb (block_count s b) 63
    && (eqb (block_count s b) 63 || eqb (b + 1) (length s / 512))

-- 8: number and count are the block's
unfoldable pub number_verdict : List ℕ → ℕ → Verdict
number_verdict s b = unless (block_fits s b) (refusal.Block b)

-- 5: the slots below the count are events
unfoldable pub used_verdict : ℕ → ℕ → List ℕ → ℕ → Verdict
used_verdict codes n s b =
    first (λ j. unless (event_fits codes n s (slot_at b j)) (refusal.Event (63 * b + j))) 0 (block_count s b)

-- 9: the slots from the count on are zero
unfoldable pub unused_verdict : List ℕ → ℕ → Verdict
unused_verdict s b =
    unless (zeros s (slot_at b (block_count s b)) (8 * (63 - block_count s b))) (refusal.Unused b)

-- in this order
unfoldable pub block_verdict : ℕ → ℕ → List ℕ → ℕ → Verdict
block_verdict codes n s b =
    or_else (check_verdict s b) (or_else (number_verdict s b) (or_else (used_verdict codes n s b) (unused_verdict s b)))

-- a tape: 6, then its blocks
unfoldable pub tape_verdict : ℕ → ℕ → List ℕ → Verdict
tape_verdict codes n s =
    or_else (length_verdict 512 most_blocks s) (first (block_verdict codes n s) 0 (length s / 512))

-- ---- 10: an output

-- what is to be written fits
unfoldable pub output_verdict : ℕ → List ℕ → Verdict
output_verdict needed output = unless (leb needed (length output)) refusal.Output

-- ---- 11: a seed

-- 1 to 2,147,483,646
unfoldable pub seed_verdict : ℕ → Verdict
seed_verdict seed = unless (within 1 2147483646 seed) refusal.Seed
