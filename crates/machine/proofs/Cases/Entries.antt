-- Document 01's entries 1 to 9, each by itself and all as one theorem: they are true of the rules themselves. The
-- checker computes them; but entry 4 holds of every fresh ring and entry 8 of every list, and they are proved of all.
use Prim.Native.Nat.{ℕ, ◌+◌, ◌*◌, ◌≤◌, ◌<◌}
use mathlib.Core.Path.{◌≡◌, refl, ap, ◌∙◌}
use mathlib.Core.List.{List, [], ◌∷◌, ◌++◌}
use lib.ListN.{length, drop, replicate}
use lib.Dec.{lit<}
use Rattle.machine.specs.declared.Outcome.TheVariants.{Idle}
use Rattle.machine.specs.Bytes.{bytes}
use Rattle.machine.specs.Lists.{join}
use Rattle.machine.specs.Ring.{least, most, image_length}
use Rattle.machine.specs.Image.{size_in}
use Rattle.machine.specs.Fresh.{fresh_envelope, fresh_state}
use Rattle.machine.specs.Events.{Event, put, react, reaction, outcome, apply}
use Rattle.machine.specs.Stopped.{is_idle}
use Rattle.machine.specs.Tape.{tape_of, check, covered, block_check}
use Rattle.machine.specs.Answers.{fresh_answer, fresh_image, step_answer, step_image, run_answer, run_image}
use Rattle.machine.specs.Answers.{run_ledger, stopped_answer, write_answer, read_answer}
use Rattle.machine.specs.Text.{text}
use Rattle.machine.specs.Report.{report_text}
use Rattle.machine.proofs.Laws.Refusals.{fresh_whole}
use Rattle.machine.proofs.Image.Fresh.{fresh_written, fresh_size, fresh_state_lem, fresh_accepted}
use Rattle.machine.proofs.Soundness.Kept.{image_over}
use Rattle.machine.proofs.Idle.{idle_keeps}
use Rattle.machine.proofs.LinkTraffic.{idle_none}
use Rattle.machine.proofs.Steps.{step_answers, step_leaves}
use Rattle.machine.proofs.Tapes.{length_tape}
use Rattle.machine.proofs.Balance.Start.{each_fresh}
use Rattle.machine.proofs.Cases.Computed.{rules}
use Rattle.machine.proofs.Cases.Case.{done, refused, event, copies}

-- entry 1's events, in two halves
unfoldable pub first_ten : List ℕ
first_ten =
    join
    (event 1 0 7 ∷ event 1 3 0 ∷ event 1 7 0 ∷ event 0 6 0 ∷ event 0 7 0
    ∷ event 1 4 0 ∷ event 1 7 0 ∷ event 1 2 0 ∷ event 1 3 0 ∷ event 1 7 0 ∷ [])

unfoldable pub last_ten : List ℕ
last_ten =
    join
    (event 0 1 0 ∷ event 0 3 0 ∷ event 0 7 0 ∷ event 1 5 0 ∷ event 1 7 0
    ∷ event 0 4 0 ∷ event 0 7 0 ∷ event 0 2 0 ∷ event 0 3 0 ∷ event 0 7 0 ∷ [])

-- the fresh ring of two processes with home 0, in a buffer whose bytes were all 255
unfoldable pub ring : List ℕ
ring = fresh_image 2 0 (replicate 32 255)

-- a ledger with a byte to spare
unfoldable pub ledger : List ℕ
ledger = replicate 49 255

-- a ring of two in which process 1 has the envelope and may fill it with 7
unfoldable pub may_fill : List ℕ
may_fill = (2 ∷ replicate 15 0) ++ (replicate 8 0 ++ (3 ∷ 1 ∷ 0 ∷ 0 ∷ bytes 4 7))

-- the whole list from the fresh ring: counts and traffic, ledger and stopped, and what ringrun prints
abbrev pub Entry1 : Type 0
Entry1 =
    (run_answer ring (tape_of (first_ten ++ last_ten)) ledger ≡ done (1 ∷ 1 ∷ 1 ∷ 1 ∷ 1 ∷ 1 ∷ 0 ∷ 4 ∷ 2 ∷ 2 ∷ []))
    × (run_ledger ring (tape_of (first_ten ++ last_ten)) ledger
    ≡ (7 ∷ 0 ∷ 0 ∷ 0 ∷ 1 ∷ 2 ∷ 0 ∷ 0 ∷ 7 ∷ 0 ∷ 0 ∷ 0 ∷ [])
    ++ ((14 ∷ 0 ∷ 0 ∷ 0 ∷ 1 ∷ 4 ∷ 0 ∷ 0 ∷ 0 ∷ 0 ∷ 0 ∷ 0 ∷ [])
    ++ ((17 ∷ 0 ∷ 0 ∷ 0 ∷ 0 ∷ 3 ∷ 0 ∷ 0 ∷ 7 ∷ 0 ∷ 0 ∷ 0 ∷ [])
    ++ (19 ∷ 0 ∷ 0 ∷ 0 ∷ 0 ∷ 5 ∷ 0 ∷ 0 ∷ 0 ∷ 0 ∷ 0 ∷ 0 ∷ 255 ∷ []))))
    × (stopped_answer (run_image ring (tape_of (first_ten ++ last_ten)) ledger) ≡ done (1 ∷ []))
    × (report_text (2 ∷ 0 ∷ tape_of (first_ten ++ last_ten))
    ≡ text "7 1 fill 7\n14 1 sent 0\n17 0 take 7\n19 0 got 0\n"
    ++ (text "puts 1 gets 1 fills 1 takes 1 sent 1 got 1 idle 0\n" ++ text "stopped\n"))

pub entry_1 : Entry1
unfolding rules ring ledger first_ten last_ten
entry_1 = (refl, refl, refl, refl)

-- its last image, all 32 bytes
abbrev pub Entry2 : Type 0
Entry2 =
    run_image ring (tape_of (first_ten ++ last_ten)) ledger
    ≡ (2 ∷ replicate 15 0) ++ ((0 ∷ 1 ∷ 4 ∷ replicate 5 0) ++ replicate 8 0)

pub entry_2 : Entry2
unfolding rules ring ledger first_ten last_ten
entry_2 = refl

-- its first ten events only: stopped, and sent is 0
abbrev pub Entry3 : Type 0
Entry3 =
    (stopped_answer (run_image ring (tape_of first_ten) ledger) ≡ done (1 ∷ []))
    × (run_answer ring (tape_of first_ten) ledger ≡ done (1 ∷ 0 ∷ 1 ∷ 0 ∷ 0 ∷ 0 ∷ 0 ∷ 1 ∷ 1 ∷ 1 ∷ []))
    × (report_text (2 ∷ 0 ∷ tape_of first_ten)
    ≡ text "7 1 fill 7\n" ++ (text "puts 1 gets 0 fills 1 takes 0 sent 0 got 0 idle 0\n" ++ text "stopped\n"))

pub entry_3 : Entry3
unfolding rules ring ledger first_ten
entry_3 = (refl, refl, refl)

-- 7 at any process of any fresh ring, whatever its home, is idle and changes no byte; 1.7 on `ring` among them
abbrev pub Entry4 : Type 0
Entry4 =
    (n home process : ℕ) → least ≤ n → n ≤ most → home < n → process < n
    → (buffer : List ℕ) → image_length n ≤ length buffer
    → (step_answer (fresh_image n home buffer) (event process 7 0) ≡ done (0 ∷ 0 ∷ 0 ∷ 0 ∷ []))
    × (step_image (fresh_image n home buffer) (event process 7 0) ≡ fresh_image n home buffer)

-- nobody has news there, so that put finds nothing to do
pub entry_4 : Entry4
unfolding bytes fresh_state outcome reaction react put
entry_4 n home process two few below within_ring buffer room =
    let accepted = fresh_whole n home buffer (record { least = two; most = few }) below room in
    let image = fresh_image n home buffer in
    let st = fresh_state n home in
    let v : Event = record { process = process; code = 7; message = 0 } in
    let fine = fresh_accepted n home buffer accepted in
    let on_image : process < size_in image = rw (fresh_size n home buffer accepted) within_ring in
    let state = fresh_state_lem n home buffer accepted in
    let written = fresh_written n home buffer accepted in
    let nothing : outcome st v ≡ Idle =
    each_fresh (λ p. (react 7 0 fresh_envelope p).outcome ≡ Idle) refl refl n home process in
    let stays : apply st v ≡ st = idle_keeps st v (ap is_idle nothing) in (
      step_answers image fine process 7 on_image (lit< tt)
          ∙ rw (state, nothing, idle_none st v (ap is_idle nothing)),
      step_leaves image fine process 7 on_image (lit< tt)
          ∙ rw (state, stays, written) (image_over buffer st st refl),
    )

-- a second 1.0 after the first is idle, and the note (bytes 28 to 31) is still 7
abbrev pub Entry5 : Type 0
Entry5 =
    (step_answer (step_image ring (event 1 0 7)) (event 1 0 9) ≡ done (0 ∷ 0 ∷ 0 ∷ 0 ∷ []))
    × (drop 28 (step_image (step_image ring (event 1 0 7)) (event 1 0 9)) ≡ 7 ∷ 0 ∷ 0 ∷ 0 ∷ [])

pub entry_5 : Entry5
unfolding rules ring
entry_5 = (refl, refl)

-- a tape whose only event is 1.0, message 7: the check's halves, over the covered bytes and as written
abbrev pub Entry6 : Type 0
Entry6 =
    (check (covered (tape_of (event 1 0 7)) 0) ≡ 9 + 65536 * 2255)
    × (block_check (tape_of (event 1 0 7)) 0 ≡ 9 + 65536 * 2255)

pub entry_6 : Entry6
unfolding rules
entry_6 = (refl, refl)

-- N = 64 is accepted and 65 refused 1, by the fresh ring, the writer and the reader
abbrev pub Entry7 : Type 0
Entry7 =
    (fresh_answer 64 63 (replicate 528 0) ≡ done [])
    × (fresh_answer 65 63 (replicate 536 0) ≡ refused 1 0)
    × (write_answer 64 (event 63 0 7) (replicate 512 0) ≡ done (512 ∷ []))
    × (write_answer 65 (event 63 0 7) (replicate 512 0) ≡ refused 1 0)
    × (read_answer 64 (tape_of (event 63 0 7)) (replicate 8 0) ≡ done (8 ∷ []))
    × (read_answer 65 (tape_of (event 63 0 7)) (replicate 8 0) ≡ refused 1 0)

pub entry_7 : Entry7
unfolding rules
entry_7 = (refl, refl, refl, refl, refl, refl)

-- any 63 events make a block, and any 64 two; the writer says so of these
abbrev pub Entry8 : Type 0
Entry8 =
    ((list : List ℕ) → length list ≡ 8 * 63 → length (tape_of list) ≡ 512)
    × ((list : List ℕ) → length list ≡ 8 * 64 → length (tape_of list) ≡ 2 * 512)
    × (write_answer 2 (copies 63 (event 1 7 0)) (replicate 1024 0) ≡ done (512 ∷ []))
    × (write_answer 2 (copies 64 (event 1 7 0)) (replicate 1024 0) ≡ done (1024 ∷ []))

pub entry_8 : Entry8
unfolding rules
entry_8 = (
  λ list long. length_tape list ∙ rw long,
  λ list long. length_tape list ∙ rw long,
  refl,
  refl,
)

-- room for just one record, and a byte too little for it
abbrev pub Entry9 : Type 0
Entry9 =
    (run_answer may_fill (tape_of (event 1 2 0)) (replicate 12 0) ≡ done (0 ∷ 0 ∷ 1 ∷ 0 ∷ 0 ∷ 0 ∷ 0 ∷ 1 ∷ 0 ∷ 0 ∷ []))
    × (run_ledger may_fill (tape_of (event 1 2 0)) (replicate 12 0)
    ≡ 0 ∷ 0 ∷ 0 ∷ 0 ∷ 1 ∷ 2 ∷ 0 ∷ 0 ∷ 7 ∷ 0 ∷ 0 ∷ 0 ∷ [])
    × (run_answer may_fill (tape_of (event 1 2 0)) (replicate 11 0) ≡ refused 10 0)

pub entry_9 : Entry9
unfolding rules may_fill
entry_9 = (refl, refl, refl)

-- all nine at once
pub entries : Entry1 × Entry2 × Entry3 × Entry4 × Entry5 × Entry6 × Entry7 × Entry8 × Entry9
entries = (entry_1, entry_2, entry_3, entry_4, entry_5, entry_6, entry_7, entry_8, entry_9)

-- ---- beside them: the sums of words on the published strings of the Fletcher-32 checksum

pub fletcher_abcde : check (97 ∷ 98 ∷ 99 ∷ 100 ∷ 101 ∷ []) ≡ 0xF04FC729
unfolding rules
fletcher_abcde = refl

pub fletcher_abcdef : check (97 ∷ 98 ∷ 99 ∷ 100 ∷ 101 ∷ 102 ∷ []) ≡ 0x56502D2A
unfolding rules
fletcher_abcdef = refl

pub fletcher_abcdefgh : check (97 ∷ 98 ∷ 99 ∷ 100 ∷ 101 ∷ 102 ∷ 103 ∷ 104 ∷ []) ≡ 0xEBE19591
unfolding rules
fletcher_abcdefgh = refl
