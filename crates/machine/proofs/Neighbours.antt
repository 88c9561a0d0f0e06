-- An event changes at most one neighbour: only a process without the envelope asks, and only one with it lets it leave.
-- Each part of a put hands on what another part did for the neighbours. Other events change none.
use Prim.Native.Nat.{ℕ, ◌≤◌}
use mathlib.Core.Path.{◌≡◌, refl, ◌∙◌}
use mathlib.Core.Bool.{Bool, false, not, cond, beq}
use mathlib.Core.Logic.{◌⊎◌, inl, inr}
use native.Mathlib.Omega.{arith}
use lib.Dec.{eqb}
use Rattle.machine.specs.declared.Pair.{Pair}
use Rattle.machine.specs.declared.Envelope.{Envelope}
use Rattle.machine.specs.declared.Process.{Process}
use Rattle.machine.specs.declared.Reaction.{Reaction}
use Rattle.machine.specs.declared.Outcome.TheVariants.{Moved}
use Rattle.machine.specs.Fields.{Status, full, empty, none, for, with_news, with_stage}
use Rattle.machine.specs.Stages.{told}
use Rattle.machine.specs.Events.{becomes, changed, idle, ask, pass, mark_for, mark, unmark, clear, wanted}
use Rattle.machine.specs.Events.{leave, set_markers, forward, ends, relay, wait, end_put, put_at}
use Rattle.machine.specs.Events.{start_put, start_get, work, signal, receive, take_request, put, react}
use Rattle.machine.proofs.Soundness.Ways.{choice, pass_keeps, every_stage, by_code, every_code}

-- a choice between two that agree in something
in_both : {A : Type 0} (f : Reaction → A) (b : Bool) (x y : Reaction) {a : A} → f x ≡ a → f y ≡ a → f (cond b x y) ≡ a
in_both f b x y {a} hx hy = choice (λ r. f r ≡ a) b x y hx hy

-- what goes to the left, and what to the right
abbrev asks_of : Reaction → Pair Bool
asks_of r = r.asks

abbrev leaves_of : Reaction → Bool
leaves_of r = r.leaves

-- ---- parts that ask let nothing leave

ask_leaves : (s : Status) (r : Reaction) → (ask s r).leaves ≡ r.leaves
unfolding ask
ask_leaves s r = in_both leaves_of (for r.process.itself s) r _ refl refl

pass_leaves : (r : Reaction) → (pass r).leaves ≡ r.leaves
pass_leaves r = pass_keeps (λ (t : Reaction). t.leaves ≡ r.leaves) (λ s t same. ask_leaves s t ∙ same) r refl

-- ---- parts that let it leave ask nothing

mark_asks : (r : Reaction) → (mark r).asks ≡ r.asks
unfolding mark mark_for
mark_asks r = in_both asks_of (for r.process.mark (not r.envelope.full)) r _ refl refl

clear_asks : (s : Status) (r : Reaction) → (clear s r).asks ≡ r.asks
unfolding clear unmark
clear_asks s r = in_both asks_of (for r.process.mark s) _ _ refl refl

forward_asks : (r : Reaction) → (forward r).asks ≡ r.asks
unfolding forward leave set_markers
forward_asks r = in_both asks_of (wanted (set_markers r).envelope) (leave (set_markers r)) (set_markers r) refl refl

end_put_asks : (r : Reaction) → (end_put r).asks ≡ r.asks
unfolding end_put ends
end_put_asks r = in_both asks_of r.leaves _ _ refl refl

-- ---- so a put does one of the two

-- nothing is asked, or nothing leaves
abbrev pub OneSide : Reaction → Type 0
OneSide r = (r.asks ≡ none) ⊎ (r.leaves ≡ false)

module _ (r : Reaction) (unasked : r.asks ≡ none) (here : r.leaves ≡ false) where
  relay_side : OneSide (relay r)
  unfolding relay
  relay_side =
      choice OneSide r.process.have (forward r) (pass r) (inl (forward_asks r ∙ unasked))
      (inr (pass_leaves r ∙ here))

  wait_side : (s : Status) (next : ℕ) → OneSide (wait s next r)
  unfolding wait
  wait_side s next =
      let on = changed r r.envelope (with_stage next r.process) in
      let right_one = beq r.envelope.full s in
      choice OneSide r.process.have (cond right_one on (forward (mark r))) (pass (ask s r))
      (choice OneSide right_one on (forward (mark r)) (inl unasked)
      (inl (forward_asks (mark r) ∙ mark_asks r ∙ unasked)))
      (inr (pass_leaves (ask s r) ∙ ask_leaves s r ∙ here))

  put_at_side : (stage : ℕ) → OneSide (put_at stage r)
  unfolding ends
  put_at_side stage =
      every_stage OneSide stage r relay_side (wait_side empty 3) (wait_side full 8)
      (inl (end_put_asks (forward (clear empty r)) ∙ forward_asks (clear empty r) ∙ clear_asks empty r ∙ unasked))
      (inl (forward_asks (clear full r) ∙ clear_asks full r ∙ unasked)) (inl unasked)

-- ---- the other events do neither

-- nothing is asked, and nothing leaves
abbrev pub NoSide : Reaction → Type 0
NoSide r = (r.asks ≡ none) × (r.leaves ≡ false)

-- something at the own process, or nothing at all
own_alone : (e : Envelope) (p : Process) (b : Bool) (x : Reaction) → NoSide x → NoSide (cond b x (idle e p))
own_alone e p b x alone = choice NoSide b x (idle e p) alone (refl, refl)

module _ (e : Envelope) (p : Process) where
  start_put_alone : (m : ℕ) → NoSide (start_put m e p)
  unfolding start_put
  start_put_alone m = own_alone e p (eqb p.stage 0) _ (refl, refl)

  start_get_alone : NoSide (start_get e p)
  unfolding start_get
  start_get_alone = own_alone e p (eqb p.stage 0) _ (refl, refl)

  work_alone : NoSide (work e p)
  unfolding work
  work_alone =
      choice NoSide (eqb p.stage 3) _ _ (refl, refl) (own_alone e p (eqb p.stage 8) _ (refl, refl))

  signal_alone : NoSide (signal e p)
  unfolding signal
  signal_alone = own_alone e p (told p.stage) _ (refl, refl)

  receive_alone : NoSide (receive e p)
  unfolding receive
  receive_alone = own_alone e p p.arriving _ (refl, refl)

  request_alone : (s : Status) → NoSide (take_request s e p)
  unfolding take_request
  request_alone s = own_alone e p (for p.link s) _ (refl, refl)

  put_side : OneSide (put e p)
  unfolding put
  put_side =
      let r = becomes Moved e (with_news false p) in
      choice OneSide p.news (put_at p.stage r) (idle e p) (put_at_side r refl refl p.stage) (inl refl)

-- ---- every event

-- one of the codes 0 to 6 does neither
pub low_alone : (code m : ℕ) (e : Envelope) (p : Process) → code ≤ 6 → NoSide (react code m e p)
low_alone code m e p =
    by_code (λ (c : ℕ) r. c ≤ 6 → NoSide r) m e p (λ _. start_put_alone e p m) (λ _. start_get_alone e p)
    (λ _. work_alone e p) (λ _. signal_alone e p) (λ _. receive_alone e p) (λ _. request_alone e p full)
    (λ _. request_alone e p empty) (λ seven. absurd (omega (arith, seven))) (λ _ _. (refl, refl)) code

pub one_neighbour : (code m : ℕ) (e : Envelope) (p : Process) → OneSide (react code m e p)
one_neighbour code m e p =
    every_code OneSide code m e p (inl (start_put_alone e p m).0) (inl (start_get_alone e p).0)
    (inl (work_alone e p).0) (inl (signal_alone e p).0) (inl (receive_alone e p).0)
    (λ s. inl (request_alone e p s).0) (put_side e p) (inl refl)
