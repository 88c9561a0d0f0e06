-- Statuses, pairs of bits by status, and changes of single fields: the words in which the rules are written.
-- No rule stands here.
use Rattle.std.specs.Prelude.{ℕ, Bool, true, false, cond, ◌||◌}
use Rattle.machine.specs.declared.Pair.{Pair}
use Rattle.machine.specs.declared.Envelope.{Envelope}
use Rattle.machine.specs.declared.Process.{Process}

-- the envelope's status, and what a request, a mark or a marker is for
abbrev pub Status : Type 0
Status = Bool

-- 1 in an image
abbrev pub full : Status
full = true

-- 0 in an image
abbrev pub empty : Status
empty = false

-- ---- a value for each status: a bit, or how many processes are marked for it

-- the value for s
abbrev pub for : {A : Type 0} → Pair A → Status → A
for p s = cond s p.full p.empty

-- the pair whose value for s is b
abbrev pub with : {A : Type 0} → Pair A → Status → A → Pair A
with p s b = record { full = cond s b p.full; empty = cond s p.empty b }

-- neither of two bits
abbrev pub none : Pair Bool
none = record { full = false; empty = false }

-- what is set in one of two pairs
abbrev pub either : Pair Bool → Pair Bool → Pair Bool
either p q = record { full = p.full || q.full; empty = p.empty || q.empty }

-- ---- the envelope, but for one field

abbrev pub with_marker : Pair Bool → Envelope → Envelope
with_marker m e = record { full = e.full; marker = m; marked = e.marked; message = e.message }

abbrev pub with_marked : Pair ℕ → Envelope → Envelope
with_marked c e = record { full = e.full; marker = e.marker; marked = c; message = e.message }

-- its status and its message
abbrev pub holding : Status → ℕ → Envelope → Envelope
holding s m e = record { full = s; marker = e.marker; marked = e.marked; message = m }

-- ---- a process record

abbrev pub process_of : ℕ → Bool → Bool → Bool → Pair Bool → Pair Bool → Pair Bool → Pair Bool → ℕ → Process
process_of stage have arriving news asked itself mark link note =
    record {
      stage = stage;
      have = have;
      arriving = arriving;
      news = news;
      asked = asked;
      itself = itself;
      mark = mark;
      link = link;
      note = note;
    }

-- all zero
abbrev pub blank : Process
blank = process_of 0 false false false none none none none 0

-- ---- a process record, but for one field

abbrev pub with_stage : ℕ → Process → Process
with_stage s p = process_of s p.have p.arriving p.news p.asked p.itself p.mark p.link p.note

abbrev pub with_have : Bool → Process → Process
with_have b p = process_of p.stage b p.arriving p.news p.asked p.itself p.mark p.link p.note

abbrev pub with_arriving : Bool → Process → Process
with_arriving b p = process_of p.stage p.have b p.news p.asked p.itself p.mark p.link p.note

abbrev pub with_news : Bool → Process → Process
with_news b p = process_of p.stage p.have p.arriving b p.asked p.itself p.mark p.link p.note

abbrev pub with_asked : Pair Bool → Process → Process
with_asked a p = process_of p.stage p.have p.arriving p.news a p.itself p.mark p.link p.note

abbrev pub with_itself : Pair Bool → Process → Process
with_itself a p = process_of p.stage p.have p.arriving p.news p.asked a p.mark p.link p.note

abbrev pub with_mark : Pair Bool → Process → Process
with_mark m p = process_of p.stage p.have p.arriving p.news p.asked p.itself m p.link p.note

abbrev pub with_link : Pair Bool → Process → Process
with_link l p = process_of p.stage p.have p.arriving p.news p.asked p.itself p.mark l p.note

abbrev pub with_note : ℕ → Process → Process
with_note m p = process_of p.stage p.have p.arriving p.news p.asked p.itself p.mark p.link m
