-- The eight events: document 01, "The eight events", in its order. An event at a process reads the envelope and that
-- process's record alone; what it does is a reaction, which is then placed on the ring.
use Rattle.std.specs.Prelude.{ℕ, zero, suc, pred, ◌+◌, Bool, true, false, not, cond, ◌||◌, List, length, get_or, set}
use Rattle.std.specs.Prelude.{eqb}
use Rattle.std.specs.Bool.{beq}
use Rattle.machine.specs.declared.Pair.{Pair}
use Rattle.machine.specs.declared.Envelope.{Envelope}
use Rattle.machine.specs.declared.Process.{Process}
use Rattle.machine.specs.declared.Outcome.{Outcome}
use Rattle.machine.specs.declared.Outcome.TheVariants.{Idle, Moved, Fill, Take, Sent, Got}
use Rattle.machine.specs.declared.Reaction.{Reaction}
use Rattle.machine.specs.Ring.{left, right}
use Rattle.machine.specs.Fields.{Status, full, empty, none, for, with, either, with_marker}
use Rattle.machine.specs.Fields.{with_marked, holding}
use Rattle.machine.specs.Fields.{blank, with_stage, with_have, with_arriving, with_news, with_asked, with_itself}
use Rattle.machine.specs.Fields.{with_mark, with_link, with_note}
use Rattle.machine.specs.Image.{State}
use Rattle.machine.specs.Stages.{plain, told}

-- an event: at which process, its code, and the message of code 0
pub record Event : Type 0 where
  pub process : ℕ
  pub code : ℕ
  pub message : ℕ

-- ---- reactions

-- the record and the envelope become these, and nothing goes to a neighbour
abbrev pub becomes : Outcome → Envelope → Process → Reaction
becomes o e p = record { process = p; envelope = e; asks = none; leaves = false; outcome = o }

-- an event that isn't possible changes nothing
abbrev pub idle : Envelope → Process → Reaction
idle e p = becomes Idle e p

-- r, with another record and envelope
abbrev pub changed : Reaction → Envelope → Process → Reaction
changed r e p = record { process = p; envelope = e; asks = r.asks; leaves = r.leaves; outcome = r.outcome }

-- ---- what a put is made of, each part over the status

-- Ask for s: unless asked already, asked itself for s is set and s goes on the link to the left.
unfoldable pub ask : Status → Reaction → Reaction
ask s r =
    cond (for r.process.itself s) r
    (record {
      process = with_itself (with r.process.itself s true) r.process;
      envelope = r.envelope;
      asks = with r.asks s true;
      leaves = r.leaves;
      outcome = r.outcome;
    })

-- Pass requests, for one status: ask for s if the right has asked for it.
unfoldable pub pass_for : Status → Reaction → Reaction
pass_for s r = cond (for r.process.asked s) (ask s r) r

-- full, then empty
unfoldable pub pass : Reaction → Reaction
pass r = pass_for empty (pass_for full r)

-- Mark for s: if not yet marked for s, the mark is set and its count is one more.
unfoldable pub mark_for : Status → Reaction → Reaction
mark_for s r =
    cond (for r.process.mark s) r
    (changed r (with_marked (with r.envelope.marked s (suc (for r.envelope.marked s))) r.envelope)
    (with_mark (with r.process.mark s true) r.process))

-- Mark: for the status that the envelope hasn't.
unfoldable pub mark : Reaction → Reaction
mark r = mark_for (not r.envelope.full) r

-- The second half of clear for s: where the process is marked for s, the mark goes and its count is one less.
unfoldable pub unmark : Status → Reaction → Reaction
unmark s r =
    cond (for r.process.mark s)
    (changed r (with_marked (with r.envelope.marked s (pred (for r.envelope.marked s))) r.envelope)
    (with_mark (with r.process.mark s false) r.process))
    r

-- Clear for s: marker s goes off, then the mark.
unfoldable pub clear : Status → Reaction → Reaction
clear s r = unmark s (changed r (with_marker (with r.envelope.marker s false) r.envelope) r.process)

-- above 0
abbrev pub positive : ℕ → Bool
positive zero = false
positive (suc n) = true

-- somebody waits for the envelope as it is: the marker of its status is on, or a process is marked for it
unfoldable pub wanted : Envelope → Bool
wanted e = for e.marker e.full || positive (for e.marked e.full)

-- the envelope leaves: have and all four asked bits go off
unfoldable pub leave : Reaction → Reaction
leave r =
    record {
      process = with_have false (with_asked none (with_itself none r.process));
      envelope = r.envelope;
      asks = r.asks;
      leaves = true;
      outcome = r.outcome;
    }

-- each status that the right has asked for sets its marker
unfoldable pub set_markers : Reaction → Reaction
set_markers r = changed r (with_marker (either r.envelope.marker r.process.asked) r.envelope) r.process

-- Forward: the markers first; then the envelope leaves if its status is wanted, else it stays.
unfoldable pub forward : Reaction → Reaction
forward r = cond (wanted (set_markers r).envelope) (leave (set_markers r)) (set_markers r)

-- a put or a get ends: stage 0, with outcome o
unfoldable pub ends : Outcome → Reaction → Reaction
ends o r =
    record {
      process = with_stage 0 r.process;
      envelope = r.envelope;
      asks = r.asks;
      leaves = r.leaves;
      outcome = o;
    }

-- ---- put, by stage

-- stages 0, 1, 6, which wait for nothing: the envelope goes on if it is here, and requests are passed if it isn't
unfoldable pub relay : Reaction → Reaction
relay r = cond r.process.have (forward r) (pass r)

-- stages 2 and 7, waiting for s: without the envelope ask for s, then pass requests; with it of that status to the
-- stage `next`; with it of the other, mark and forward
unfoldable pub wait : Status → ℕ → Reaction → Reaction
wait s next r =
    cond r.process.have
    (cond (beq r.envelope.full s) (changed r r.envelope (with_stage next r.process)) (forward (mark r)))
    (pass (ask s r))

-- stage 5, after its forward: if the envelope left, the put ends
unfoldable pub end_put : Reaction → Reaction
end_put r = cond r.leaves (ends Sent r) r

-- by the stage that the put finds; stages 3, 4, 8 and 9 do no more
unfoldable pub put_at : ℕ → Reaction → Reaction
put_at stage r =
    cond (plain stage) (relay r)
    (cond (eqb stage 2) (wait empty 3 r)
    (cond (eqb stage 7) (wait full 8 r)
    (cond (eqb stage 5) (end_put (forward (clear empty r)))
    (cond (eqb stage 10) (ends Got (forward (clear full r)))
    r))))

-- ---- the events

-- code 0: a put is wished at stage 0, which becomes 1, with its message as the note
unfoldable pub start_put : ℕ → Envelope → Process → Reaction
start_put message e p = cond (eqb p.stage 0) (becomes Moved e (with_stage 1 (with_note message p))) (idle e p)

-- code 1: a get is wished at stage 0, which becomes 6
unfoldable pub start_get : Envelope → Process → Reaction
start_get e p = cond (eqb p.stage 0) (becomes Moved e (with_stage 6 p)) (idle e p)

-- code 2, main works: stage 3 fills the envelope with the note, stage 8 empties it
unfoldable pub work : Envelope → Process → Reaction
work e p =
    cond (eqb p.stage 3) (becomes (Fill p.note) (holding full p.note e) (with_stage 4 (with_note 0 p)))
    (cond (eqb p.stage 8) (becomes (Take e.message) (holding empty 0 e) (with_stage 9 p))
    (idle e p))

-- code 3, the local signal: a stage at which main has told something (1, 4, 6, 9) becomes the next one, and put has
-- news
unfoldable pub signal : Envelope → Process → Reaction
signal e p = cond (told p.stage) (becomes Moved e (with_stage (p.stage + 1) (with_news true p))) (idle e p)

-- code 4, the envelope comes off the link: it is here now, and put has news
unfoldable pub receive : Envelope → Process → Reaction
receive e p = cond p.arriving (becomes Moved e (with_arriving false (with_have true (with_news true p)))) (idle e p)

-- codes 5 and 6, a request for s comes off the link: the right has asked for s now, and put has news
unfoldable pub take_request : Status → Envelope → Process → Reaction
take_request s e p =
    cond (for p.link s)
    (becomes Moved e (with_link (with p.link s false) (with_asked (with p.asked s true) (with_news true p))))
    (idle e p)

-- code 7, put: it uses its news up, and without any it does nothing
unfoldable pub put : Envelope → Process → Reaction
put e p = cond p.news (put_at p.stage (becomes Moved e (with_news false p))) (idle e p)

-- the eight events by their code
unfoldable pub react : ℕ → ℕ → Envelope → Process → Reaction
react code message e p =
    cond (eqb code 0) (start_put message e p)
    (cond (eqb code 1) (start_get e p)
    (cond (eqb code 2) (work e p)
    (cond (eqb code 3) (signal e p)
    (cond (eqb code 4) (receive e p)
    (cond (eqb code 5) (take_request full e p)
    (cond (eqb code 6) (take_request empty e p)
    (cond (eqb code 7) (put e p)
    (idle e p))))))))

-- ---- on the ring

-- a neighbour's record, with requests on the link from its right; a like request that waits there absorbs one
abbrev pub requested : Pair Bool → Process → Process
requested asks p = with_link (either p.link asks) p

-- a neighbour's record, with the envelope arriving from its left where it leaves
abbrev pub arrived : Bool → Process → Process
arrived leaves p = with_arriving (p.arriving || leaves) p

-- process i of the list
abbrev pub process_at : List Process → ℕ → Process
process_at l i = get_or l i blank

-- the list with record k changed by f
unfoldable pub change : List Process → ℕ → (Process → Process) → List Process
change l k f = set l k (f (process_at l k))

-- a reaction at process i: its own record, then the left's, then the right's, each as the one before left it
unfoldable pub place : List Process → ℕ → Reaction → List Process
place l i r =
    change (change (set l i r.process) (left (length l) i) (requested r.asks))
    (right (length l) i) (arrived r.leaves)

-- what an event does at its process
unfoldable pub reaction : State → Event → Reaction
reaction st v = react v.code v.message st.envelope (process_at st.processes v.process)

-- what comes of an event, as a run records it or a step answers it
unfoldable pub outcome : State → Event → Outcome
outcome st v = (reaction st v).outcome

-- the envelope as the event leaves it, and the records with the event placed on them
unfoldable pub apply : State → Event → State
apply st v =
    record {
      envelope = (reaction st v).envelope;
      processes = place st.processes v.process (reaction st v);
    }
