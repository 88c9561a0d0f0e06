-- Each sentence of "The eight events", shown on a small image: the event, its outcome, its traffic and the whole image
-- after it; and whether the ring is stopped.
-- Records are written as in document 01: stage, flags (1 have, 2 arriving, 4 news), requests (1, 2 asked by the right;
-- 4, 8 asked itself; 16, 32 marked; 64, 128 on the link, for full and for empty), note.
use Prim.Native.Nat.{ℕ}
use mathlib.Core.Path.{◌≡◌, refl}
use mathlib.Core.Bool.{true}
use mathlib.Core.List.{List, [], ◌∷◌, ◌++◌}
use lib.ListN.{replicate}
use Rattle.machine.specs.Answers.{step_answer, step_image, stopped_answer}
use Rattle.machine.proofs.Cases.Computed.{rules}
use Rattle.machine.proofs.Cases.Case.{Case, case, met, done, event, image, record8}

-- ---- how a case is written

-- an event on an image, its outcome with its traffic, and the image after it
pub record Move : Type 0 where
  pub before : List ℕ
  pub event : List ℕ
  pub outcome : List ℕ
  pub after : List ℕ

abbrev moves : List Move → List Case
moves [] = []
moves (m ∷ ms) =
    case (step_answer m.before m.event) (done m.outcome)
    ∷ case (done (step_image m.before m.event)) (done m.after)
    ∷ moves ms

-- the six outcomes by their numbers; a put that ends lets the envelope leave, the others here have no traffic
abbrev idle : List ℕ
idle = 0 ∷ 0 ∷ 0 ∷ 0 ∷ []

abbrev moved : List ℕ
moved = 1 ∷ 0 ∷ 0 ∷ 0 ∷ []

abbrev fill : ℕ → List ℕ
fill m = 2 ∷ m ∷ 0 ∷ 0 ∷ []

abbrev take : ℕ → List ℕ
take m = 3 ∷ m ∷ 0 ∷ 0 ∷ []

abbrev sent : List ℕ
sent = 4 ∷ 0 ∷ 0 ∷ 1 ∷ []

abbrev got : List ℕ
got = 5 ∷ 0 ∷ 0 ∷ 0 ∷ []

-- moved, with so many requests; and moved and got, where the envelope leaves
abbrev asks : ℕ → List ℕ
asks k = 1 ∷ 0 ∷ k ∷ 0 ∷ []

abbrev away : List ℕ
away = 1 ∷ 0 ∷ 0 ∷ 1 ∷ []

abbrev got_away : List ℕ
got_away = 5 ∷ 0 ∷ 0 ∷ 1 ∷ []

-- code c at process 0 of an image gives an outcome and an image
abbrev on : List ℕ → ℕ → List ℕ → List ℕ → Move
on before c outcome after = record { before = before; event = event 0 c 0; outcome = outcome; after = after }

-- code 0 with a message
abbrev says : List ℕ → ℕ → List ℕ → List ℕ → Move
says before m outcome after = record { before = before; event = event 0 0 m; outcome = outcome; after = after }

-- a put, code 7
abbrev puts : List ℕ → List ℕ → List ℕ → Move
puts before outcome after = on before 7 outcome after

-- nothing happens
abbrev stays : List ℕ → ℕ → Move
stays before c = on before c idle before

-- images of two processes by their records: an empty envelope with nothing on it, and a full one with message 9
abbrev hollow : List ℕ → List ℕ → List ℕ
hollow p q = image 0 0 0 0 0 p q

abbrev laden : List ℕ → List ℕ → List ℕ
laden p q = image 1 0 0 0 9 p q

-- a process with nothing, and one that has the envelope
abbrev nobody : List ℕ
nobody = record8 0 0 0 0

abbrev holder : List ℕ
holder = record8 0 1 0 0

-- an image of three processes, the envelope empty with these markers
abbrev three : ℕ → List ℕ → List ℕ → List ℕ → List ℕ
three markers p q r = (3 ∷ 0 ∷ markers ∷ replicate 13 0) ++ (p ++ (q ++ r))

-- ---- codes 0 to 6

-- a wish needs stage 0: in stage 10 it isn't taken
abbrev wishes : List Move
wishes =
    says (hollow holder nobody) 7 moved (hollow (record8 1 1 0 7) nobody)
    ∷ says (hollow (record8 10 1 0 0) nobody) 7 idle (hollow (record8 10 1 0 0) nobody)
    ∷ on (hollow holder nobody) 1 moved (hollow (record8 6 1 0 0) nobody)
    ∷ stays (hollow (record8 10 1 0 0) nobody) 1
    ∷ []

-- filling needs stage 3, and its note goes into the envelope; taking needs stage 8
abbrev works : List Move
works =
    on (hollow (record8 3 1 0 7) nobody) 2 (fill 7) (image 1 0 0 0 7 (record8 4 1 0 0) nobody)
    ∷ stays (hollow (record8 2 1 0 7) nobody) 2
    ∷ on (laden (record8 8 1 0 0) nobody) 2 (take 9) (hollow (record8 9 1 0 0) nobody)
    ∷ stays (laden (record8 7 1 0 0) nobody) 2
    ∷ []

-- the signal: 1 to 2, 4 to 5, 6 to 7, 9 to 10, with news; elsewhere there is none
abbrev signals : List Move
signals =
    on (hollow (record8 1 1 0 7) nobody) 3 moved (hollow (record8 2 5 0 7) nobody)
    ∷ on (laden (record8 4 1 0 0) nobody) 3 moved (laden (record8 5 5 0 0) nobody)
    ∷ on (hollow (record8 6 1 0 0) nobody) 3 moved (hollow (record8 7 5 0 0) nobody)
    ∷ on (hollow (record8 9 1 0 0) nobody) 3 moved (hollow (record8 10 5 0 0) nobody)
    ∷ stays (hollow holder nobody) 3
    ∷ stays (hollow (record8 2 1 0 7) nobody) 3
    ∷ stays (hollow (record8 3 1 0 7) nobody) 3
    ∷ stays (laden (record8 5 1 0 0) nobody) 3
    ∷ stays (hollow (record8 7 1 0 0) nobody) 3
    ∷ stays (laden (record8 8 1 0 0) nobody) 3
    ∷ stays (hollow (record8 10 1 0 0) nobody) 3
    ∷ []

-- the arriving envelope is had; the link's request becomes asked by the right, each kind by its own event; with news
abbrev takings : List Move
takings =
    on (hollow (record8 0 2 0 0) nobody) 4 moved (hollow (record8 0 5 0 0) nobody)
    ∷ stays (hollow holder nobody) 4
    ∷ on (hollow (record8 0 0 192 0) holder) 5 moved (hollow (record8 0 4 129 0) holder)
    ∷ on (hollow (record8 0 0 192 0) holder) 6 moved (hollow (record8 0 4 66 0) holder)
    ∷ on (hollow (record8 0 0 67 0) holder) 5 moved (hollow (record8 0 4 3 0) holder)
    ∷ stays (hollow (record8 0 0 128 0) holder) 5
    ∷ stays (hollow (record8 0 0 64 0) holder) 6
    ∷ []

-- ---- code 7

-- without news nothing; they are used up, and in stages 3, 4, 8 and 9 that is all, whatever the right has asked
abbrev calm : List Move
calm =
    stays (hollow (record8 0 1 3 0) nobody) 7
    ∷ puts (hollow (record8 3 5 3 7) nobody) moved (hollow (record8 3 1 3 7) nobody)
    ∷ puts (laden (record8 4 5 3 0) nobody) moved (laden (record8 4 1 3 0) nobody)
    ∷ puts (laden (record8 8 5 3 0) nobody) moved (laden (record8 8 1 3 0) nobody)
    ∷ puts (hollow (record8 9 5 3 0) nobody) moved (hollow (record8 9 1 3 0) nobody)
    ∷ []

-- pass requests: ask for what the right has asked, and only once; a like request on the left's link absorbs it, and
-- asked itself is set and the request counted all the same
abbrev passing : List Move
passing =
    puts (hollow (record8 0 4 0 0) holder) moved (hollow nobody holder)
    ∷ puts (hollow (record8 0 4 1 0) holder) (asks 1) (hollow (record8 0 0 5 0) (record8 0 1 64 0))
    ∷ puts (hollow (record8 1 4 2 7) holder) (asks 1) (hollow (record8 1 0 10 7) (record8 0 1 128 0))
    ∷ puts (hollow (record8 6 4 3 0) holder) (asks 2) (hollow (record8 6 0 15 0) (record8 0 1 192 0))
    ∷ puts (hollow (record8 0 4 5 0) holder) moved (hollow (record8 0 0 5 0) holder)
    ∷ puts (hollow (record8 0 4 1 0) (record8 0 1 64 0)) (asks 1) (hollow (record8 0 0 5 0) (record8 0 1 64 0))
    ∷ puts (hollow (record8 0 4 2 0) (record8 0 1 192 0)) (asks 1) (hollow (record8 0 0 10 0) (record8 0 1 192 0))
    ∷ []

-- forward: what the right has asked sets its marker, where the envelope stays too; it leaves for a marker or a count of
-- its own status, and then have and the four asked bits go, while link, marks and stage stay
abbrev forwards : List Move
forwards =
    puts (hollow (record8 0 5 0 0) nobody) moved (hollow holder nobody)
    ∷ puts (hollow (record8 0 5 1 0) nobody) moved (image 0 1 0 0 0 (record8 0 1 1 0) nobody)
    ∷ puts (hollow (record8 0 5 2 0) nobody) away (image 0 2 0 0 0 nobody (record8 0 2 0 0))
    ∷ puts (laden (record8 6 5 1 0) nobody) away (image 1 1 0 0 9 (record8 6 0 0 0) (record8 0 2 0 0))
    ∷ puts (laden (record8 1 5 2 7) nobody) moved (image 1 2 0 0 9 (record8 1 1 2 7) nobody)
    ∷ puts (image 0 2 0 0 0 (record8 0 5 0 0) nobody) away (image 0 2 0 0 0 nobody (record8 0 2 0 0))
    ∷ puts (image 0 1 0 0 0 (record8 0 5 0 0) nobody) moved (image 0 1 0 0 0 holder nobody)
    ∷ puts (image 0 0 0 1 0 (record8 0 5 0 0) (record8 2 0 32 7)) away (image 0 0 0 1 0 nobody (record8 2 2 32 7))
    ∷ puts (image 0 0 1 0 0 (record8 0 5 0 0) (record8 7 0 16 0)) moved (image 0 0 1 0 0 holder (record8 7 0 16 0))
    ∷ puts (image 1 0 1 0 9 (record8 0 5 0 0) (record8 7 0 16 0)) away (image 1 0 1 0 9 nobody (record8 7 2 16 0))
    ∷ puts (hollow (record8 0 5 207 0) nobody) away (image 0 3 0 0 0 (record8 0 0 192 0) (record8 0 2 0 0))
    ∷ []

-- stage 2 waits for empty, stage 7 for full: without the envelope ask and pass; with the one waited for go on; with the
-- other mark, once, and forward
abbrev waiting : List Move
waiting =
    puts (hollow (record8 2 4 0 7) holder) (asks 1) (hollow (record8 2 0 8 7) (record8 0 1 128 0))
    ∷ puts (hollow (record8 2 4 1 7) holder) (asks 2) (hollow (record8 2 0 13 7) (record8 0 1 192 0))
    ∷ puts (hollow (record8 2 5 3 7) nobody) moved (hollow (record8 3 1 3 7) nobody)
    ∷ puts (laden (record8 2 5 0 7) nobody) moved (image 1 0 0 1 9 (record8 2 1 32 7) nobody)
    ∷ puts (image 1 0 0 1 9 (record8 2 5 32 7) nobody) moved (image 1 0 0 1 9 (record8 2 1 32 7) nobody)
    ∷ puts (laden (record8 2 5 13 7) nobody) away (image 1 1 0 1 9 (record8 2 0 32 7) (record8 0 2 0 0))
    ∷ puts (laden (record8 7 4 0 0) holder) (asks 1) (laden (record8 7 0 4 0) (record8 0 1 64 0))
    ∷ puts (laden (record8 7 4 2 0) holder) (asks 2) (laden (record8 7 0 14 0) (record8 0 1 192 0))
    ∷ puts (laden (record8 7 5 3 0) nobody) moved (laden (record8 8 1 3 0) nobody)
    ∷ puts (hollow (record8 7 5 0 0) nobody) moved (image 0 0 1 0 0 (record8 7 1 16 0) nobody)
    ∷ puts (image 0 0 1 0 0 (record8 7 5 16 0) nobody) moved (image 0 0 1 0 0 (record8 7 1 16 0) nobody)
    ∷ puts (hollow (record8 7 5 14 0) nobody) away (image 0 2 1 0 0 (record8 7 0 16 0) (record8 0 2 0 0))
    ∷ []

-- stage 5 clears for empty, marker and mark, then forwards: what the right has asked is heeded after the clear; it is
-- over only if the envelope left. Stage 10 clears for full, forwards, and is over either way
abbrev endings : List Move
endings =
    puts (laden (record8 5 5 0 0) nobody) moved (laden (record8 5 1 0 0) nobody)
    ∷ puts (image 1 2 0 1 9 (record8 5 5 32 0) nobody) moved (laden (record8 5 1 0 0) nobody)
    ∷ puts (image 1 2 0 0 9 (record8 5 5 2 0) nobody) moved (image 1 2 0 0 9 (record8 5 1 2 0) nobody)
    ∷ puts (image 1 3 0 1 9 (record8 5 5 44 0) nobody) sent (image 1 1 0 0 9 nobody (record8 0 2 0 0))
    ∷ puts (laden (record8 5 5 1 0) nobody) sent (image 1 1 0 0 9 nobody (record8 0 2 0 0))
    ∷ puts (image 1 0 1 1 9 (record8 5 5 32 0) (record8 7 0 16 0)) sent (image 1 0 1 0 9 nobody (record8 7 2 16 0))
    ∷ puts (hollow (record8 10 5 0 0) nobody) got (hollow holder nobody)
    ∷ puts (image 0 1 1 0 0 (record8 10 5 16 0) nobody) got (hollow holder nobody)
    ∷ puts (image 0 1 0 0 0 (record8 10 5 1 0) nobody) got (image 0 1 0 0 0 (record8 0 1 1 0) nobody)
    ∷ puts (image 0 3 1 0 0 (record8 10 5 28 0) nobody) got_away (image 0 2 0 0 0 nobody (record8 0 2 0 0))
    ∷ puts (image 0 0 1 1 0 (record8 10 5 16 0) (record8 2 0 32 7)) got_away (image 0 0 0 1 0 nobody (record8 2 2 32 7))
    ∷ []

-- ---- the neighbours

-- requests go left and the envelope right
abbrev sides : List Move
sides =
    puts (three 0 (record8 0 4 3 0) nobody holder) (asks 2) (three 0 (record8 0 0 15 0) nobody (record8 0 1 192 0))
    ∷ puts (three 2 (record8 0 5 0 0) nobody nobody) away (three 2 nobody (record8 0 2 0 0) nobody)
    ∷ []

-- ---- stopped

-- no, where just one event finds something to do: 2, 3, 4, 5, 6 or 7; yes, where all six are idle, waiting or not
abbrev stops : List Case
stops =
    case (stopped_answer (hollow (record8 3 1 0 7) nobody)) (done (0 ∷ []))
    ∷ case (stopped_answer (laden nobody (record8 8 1 0 0))) (done (0 ∷ []))
    ∷ case (stopped_answer (hollow (record8 1 1 0 7) nobody)) (done (0 ∷ []))
    ∷ case (stopped_answer (laden (record8 4 1 0 0) nobody)) (done (0 ∷ []))
    ∷ case (stopped_answer (hollow holder (record8 6 0 0 0))) (done (0 ∷ []))
    ∷ case (stopped_answer (hollow (record8 9 1 0 0) nobody)) (done (0 ∷ []))
    ∷ case (stopped_answer (hollow nobody (record8 0 2 0 0))) (done (0 ∷ []))
    ∷ case (stopped_answer (hollow holder (record8 0 0 64 0))) (done (0 ∷ []))
    ∷ case (stopped_answer (hollow (record8 0 1 128 0) nobody)) (done (0 ∷ []))
    ∷ case (stopped_answer (hollow holder (record8 0 4 0 0))) (done (0 ∷ []))
    ∷ case (stopped_answer (image 0 3 1 0 0 (record8 0 1 15 0) (record8 7 0 20 0))) (done (1 ∷ []))
    ∷ case (stopped_answer (image 1 3 0 1 9 (record8 5 1 3 0) (record8 2 0 40 7))) (done (1 ∷ []))
    ∷ case (stopped_answer (hollow (record8 10 1 3 0) nobody)) (done (1 ∷ []))
    ∷ []

-- ---- all of them

abbrev pub shown : List Move
shown =
    wishes ++ (works ++ (signals ++ (takings ++ (calm ++ (passing ++ (forwards ++ (waiting ++ (endings ++ sides))))))))

pub every_event_shown : met (moves shown ++ stops) ≡ true
unfolding rules
every_event_shown = refl
