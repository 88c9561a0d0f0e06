-- Fields one after the other are a line, and lines one after the other are the text. A number of 32 bits has at most
-- ten digits (machine/proofs/Text), so a record's line has at most 31 bytes.
use Prim.Native.Nat.{ℕ, ◌+◌, ◌*◌, ◌/◌, ◌≤◌, ◌<◌}
use mathlib.Core.Path.{◌≡◌, refl, sym, ap, ◌∙◌}
use mathlib.Core.List.{List, [], ◌∷◌, ◌++◌, append_assoc}
use native.Mathlib.Nat.{zero-add}
use native.Mathlib.Omega.{arith}
use lib.ListN.{length, get_or, take, drop, length-append, length-drop}
use Rattle.std.proofs.lemmas.List.{get_or-take, get_or-drop}
use lib.Seq.{take-append_seam, drop-append_seam, length-take-le, drop-drop}
use Rattle.machine.specs.declared.Counts.{Counts}
use Rattle.machine.specs.declared.Refusal.{Refusal}
use Rattle.machine.specs.Bytes.{part, number}
use Rattle.machine.specs.Lists.{tabulate, join}
use Rattle.machine.specs.Text.{text, decimal, space, line_feed, line}
use Rattle.machine.specs.Refusals.{number_of, place_of}
use Rattle.machine.specs.Report.{code_word, record_line, record_lines, counts_line, refusal_line}
use Rattle.machine.proofs.Text.{line_more}
use Rattle.machine.proofs.Laws.Joined.{join_more, joined_same}
use Rattle.machine.proofs.Laws.Splices.{part_part}
use Rattle.text.specs.declared.Page.{Page}
use Rattle.text.specs.Puts.{Puts}
use Rattle.text.proofs.Laws.{piece_none, puts_is, puts_then}

-- a field, and the byte behind it
abbrev pub field : List ℕ → ℕ → List ℕ
field f behind = f ++ (behind ∷ [])

-- a line of one field
pub line_one : (f : List ℕ) → line f [] ≡ field f line_feed
unfolding line
line_one f = refl

-- a line of four
pub line_four : (f g h i : List ℕ) → line f (g ∷ h ∷ i ∷ [])
    ≡ field f space ++ (field g space ++ (field h space ++ field i line_feed))
line_four f g h i = rw (line_more f g (h ∷ i ∷ []), line_more g h (i ∷ []), line_more h i [], line_one i)

-- two fields, and the line from the next one on
pub line_pair : (f g h : List ℕ) (fs : List (List ℕ))
    → line f (g ∷ h ∷ fs) ≡ (field f space ++ field g space) ++ line h fs
line_pair f g h fs =
    rw (line_more f g (h ∷ fs), line_more g h fs, append_assoc (field f space) (field g space) (line h fs))

-- two fields that end the line
pub line_two : (f g : List ℕ) → line f (g ∷ []) ≡ field f space ++ field g line_feed
line_two f g = rw (line_more f g [], line_one g)

-- ---- the lines

-- a record's: event, process, word, message
pub record_fields : (entry : List ℕ) → record_line entry 0
    ≡ field (decimal (number entry 0 4)) space
    ++ (field (decimal (get_or entry 4 0)) space
    ++ (field (code_word (get_or entry 5 0)) space
    ++ field (decimal (number entry 8 4)) line_feed))
unfolding record_line
record_fields entry = line_four _ _ _ _

-- the counts', each count behind its name
pub counts_fields : (n : Counts) → counts_line n
    ≡ (field (text "puts") space ++ field (decimal n.puts) space)
    ++ ((field (text "gets") space ++ field (decimal n.gets) space)
    ++ ((field (text "fills") space ++ field (decimal n.fills) space)
    ++ ((field (text "takes") space ++ field (decimal n.takes) space)
    ++ ((field (text "sent") space ++ field (decimal n.sent) space)
    ++ ((field (text "got") space ++ field (decimal n.got) space)
    ++ (field (text "idle") space ++ field (decimal n.idle) line_feed))))))
unfolding counts_line
counts_fields n = rw (
  line_pair (text "puts") (decimal n.puts) _ _,
  line_pair (text "gets") (decimal n.gets) _ _,
  line_pair (text "fills") (decimal n.fills) _ _,
  line_pair (text "takes") (decimal n.takes) _ _,
  line_pair (text "sent") (decimal n.sent) _ _,
  line_pair (text "got") (decimal n.got) _ _,
  line_two (text "idle") (decimal n.idle),
)

-- a refusal's
pub refusal_fields : (r : Refusal) → refusal_line r
    ≡ field (text "refused") space
    ++ (field (decimal (number_of r)) space ++ (field (text "at") space ++ field (decimal (place_of r)) line_feed))
unfolding refusal_line
refusal_fields r = line_four _ _ _ _

-- ---- record after record

-- none
pub lines_none : (p : Page) (ledger : List ℕ) → p.end ≤ length p.bytes.now → Puts p (record_lines ledger 0) p
unfolding record_lines tabulate join
lines_none p ledger h = record { same = refl; long = refl; piece = piece_none p.bytes.now p.end h }

-- the first bytes of what is left of a list, and what is left behind them
module _ (s : List ℕ) (at : ℕ) (entry rest : List ℕ) (left : drop at s ≡ entry ++ rest) where
  entry_part : entry ≡ part s at (length entry)
  entry_part = sym (take-append_seam entry rest) ∙ ap (take (length entry)) (sym left)

  rest_left : rest ≡ drop (at + length entry) s
  rest_left = sym (drop-append_seam entry rest) ∙ ap (drop (length entry)) (sym left) ∙ drop-drop (length entry) at s

-- a record's line is that of its 12 bytes
entry_line : (ledger : List ℕ) (k : ℕ) → record_line (part ledger (12 * k) 12) 0 ≡ record_line ledger k
unfolding record_line number
entry_line ledger k =
    let start : 12 * k + 0 ≡ 12 * k = omega arith in
    rw (
      part_part ledger (12 * k) 12 0 4 (omega arith),
      part_part ledger (12 * k) 12 8 4 (omega arith),
      get_or-take 12 (drop (12 * k) ledger) 4 0 (omega arith),
      get_or-take 12 (drop (12 * k) ledger) 5 0 (omega arith),
      get_or-drop (12 * k) ledger 4 0,
      get_or-drop (12 * k) ledger 5 0,
      start,
    )

-- so ledgers that have the same bytes there have the same lines
pub lines_same : (s t : List ℕ) (records : ℕ)
    → ((k : ℕ) → k < records → part s (12 * k) 12 ≡ part t (12 * k) 12)
    → record_lines s records ≡ record_lines t records
unfolding record_lines
lines_same s t records same =
    joined_same (record_line s) (record_line t) 0 records
    (λ k low high.
    sym (entry_line s k)
    ∙ ap (λ (e : List ℕ). record_line e 0) (same k (omega arith))
    ∙ entry_line t k)

-- all of the first records' bytes
pub lines_of_first : (ledger : List ℕ) (records : ℕ) → 12 * records ≤ length ledger
    → record_lines (take (12 * records) ledger) (length (take (12 * records) ledger) / 12)
    ≡ record_lines ledger records
lines_of_first ledger records room =
    let long = length-take-le (12 * records) ledger room in
    ap (record_lines (take (12 * records) ledger)) (omega (arith, long))
    ∙ lines_same (take (12 * records) ledger) ledger records
    (λ k h.
    part_part ledger 0 (12 * records) (12 * k) 12 (omega arith)
    ∙ ap (λ (at : ℕ). part ledger at 12) (zero-add (12 * k)))

-- what a loop over the records has left, where it has passed k
module _ (ledger : List ℕ) (k : ℕ) (entry rest : List ℕ) (long : length entry ≡ 12)
    (left : drop (12 * k) ledger ≡ entry ++ rest) where
  -- there is one more
  pub one_more : 12 * k + 12 ≤ length ledger
  one_more = omega (arith, ap length left, length-append entry rest, length-drop (12 * k) ledger)

  -- what is left then
  pub left_then : rest ≡ drop (12 * (k + 1)) ledger
  left_then = rest_left ledger (12 * k) entry rest left ∙ ap (λ (at : ℕ). drop at ledger) (omega arith)

  -- and the lines
  pub lines_then : {p q r : Page} → Puts p (record_lines ledger k) q → Puts q (record_line entry 0) r
      → Puts p (record_lines ledger (k + 1)) r
  unfolding record_lines
  lines_then before next =
      let whole = entry_part ledger (12 * k) entry rest left in
      let line = ap (λ (e : List ℕ). record_line e 0) (rw long at whole) ∙ entry_line ledger k in
      rw (join_more (record_line ledger) 0 k)
      (puts_then before (puts_is (line ∙ ap (record_line ledger) (sym (zero-add k))) next))
