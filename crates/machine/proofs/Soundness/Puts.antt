-- A put, settled at its own process: by the stage that it finds, its parts owe what they owe (Owed), and the envelope
-- leaves only a stage that doesn't need it, or a put or a get that ends with it.
use Prim.Native.Nat.{ℕ, ◌≤◌}
use mathlib.Core.Path.{◌≡◌, refl, sym, ap, ◌∙◌}
use mathlib.Core.Bool.{Bool, true, false, not, ◌||◌, beq, true≢false}
use mathlib.Core.Logic.{inr}
use Rattle.machine.specs.declared.Pair.{Pair}
use Rattle.machine.specs.declared.Envelope.{Envelope}
use Rattle.machine.specs.declared.Process.{Process}
use Rattle.machine.specs.declared.Outcome.TheVariants.{Sent, Got}
use Rattle.machine.specs.declared.Reaction.{Reaction}
use Rattle.machine.specs.Fields.{Status, full, empty, for}
use Rattle.machine.specs.Stages.{plain, markable}
use Rattle.machine.specs.Events.{ask, pass, mark, clear, forward, ends, relay, wait, end_put, put}
use Rattle.machine.proofs.Laws.Lists.{same_bool}
use Rattle.machine.proofs.Soundness.Sums.{marks_for}
use Rattle.machine.proofs.Soundness.Ways.{by_test, by_stage}
use Rattle.machine.proofs.Soundness.Owed.{Owed, begun, begun_owed, ask_owed, pass_owed, forward_owed}
use Rattle.machine.proofs.Soundness.Owed.{clear_owed}
use Rattle.machine.proofs.Soundness.Owed.{forward_mark, clear_mark}
use Rattle.machine.proofs.Soundness.Settled.{FitsOf, Fits, Settled, needs, plain_free, marks_follow, at_stage}
use Rattle.machine.proofs.Soundness.Settled.{still}
use Rattle.machine.proofs.Soundness.Settled.{waits_for, waiting_free, mark_waiting, had_at, settle, settle_end}
use Rattle.machine.proofs.Soundness.Settled.{other_status}

-- a mark that may not stand does not
no_mark : (m a : Bool) → a ≡ false → not m || a ≡ true → m ≡ false
no_mark true a off e = absurd (true≢false (sym e ∙ off))
no_mark false a off e = refl

module _ (e : Envelope) (p : Process) (fits : Fits e p) where
  -- the put as it begins, and what it owes
  abbrev start : Reaction
  start = begun e p

  start_owed : Owed e p start
  start_owed = begun_owed e p fits.marked

  -- stages 0, 1 and 6
  relay_settled : plain p.stage ≡ true → Settled e p (relay start)
  unfolding relay
  relay_settled is_plain =
      let free = plain_free p.stage is_plain in
      by_test (Settled e p) p.have _ _
      (λ had. settle e p fits (forward start) (forward_owed e p start had start_owed) (λ _. free))
      (λ _. settle e p fits (pass start) (pass_owed e p start start_owed) (λ _. free))

  -- stages 2 and 7, waiting for s
  wait_settled : (s : Status) (next : ℕ) → p.stage ≡ waits_for s
      → (p.have ≡ true → e.full ≡ s → FitsOf e.full e.message next p.have p.mark p.note)
      → Settled e p (wait s next start)
  unfolding wait
  wait_settled s next here fit =
      let free_here : needs p.stage ≡ false = ap needs here ∙ waiting_free s in
      by_test (Settled e p) p.have _ _
      (λ had. by_test (Settled e p) (beq e.full s) _ _
      (λ same. still e p fits (fit had (same_bool e.full s same)) (inr refl))
      (λ differs.
      let m = mark_waiting e p fits s here (other_status e.full s differs) in
      settle e p fits (forward (mark start)) (forward_owed e p (mark start) had m) (λ _. free_here)))
      (λ _. settle e p fits (pass (ask s start)) (pass_owed e p (ask s start) (ask_owed e p s start start_owed))
      (λ _. free_here))

  -- where a stage clears for s and has no marks for the other status, no mark is left
  unmarked : (s t : Status) → markable (not s) p.stage ≡ false → Owed e p (forward (clear s start))
      → for (forward (clear s start)).process.mark t ≡ false
  unmarked true true other o = ap (λ (m : Pair Bool). m.full) (forward_mark (clear true start)) ∙ clear_mark true start
  unmarked true false other o = no_mark _ _ (ap (markable false) o.stage_same ∙ other) (o.marks_fit false)
  unmarked false true other o = no_mark _ _ (ap (markable true) o.stage_same ∙ other) (o.marks_fit true)
  unmarked false false other o =
      ap (λ (m : Pair Bool). m.empty) (forward_mark (clear false start)) ∙ clear_mark false start

  -- the count is at least the own mark
  module _ (own : (s : Status) → marks_for s p ≤ for e.marked s) where
    -- stage 5 ends if the envelope leaves, and else stays
    put_5 : p.stage ≡ 5 → Settled e p (end_put (forward (clear empty start)))
    unfolding end_put
    put_5 here =
        let f = at_stage e p fits 5 here in
        let had = had_at e p fits 5 here refl in
        let o = forward_owed e p (clear empty start) had (clear_owed e p own empty start start_owed) in
        let other : markable full p.stage ≡ false = ap (markable full) here in
        by_test (Settled e p) (forward (clear empty start)).leaves _ _
        (λ _. settle_end e p fits Sent (forward (clear empty start)) o (λ t. unmarked empty t other o) f.note_fitting)
        (λ stays. settle e p fits (forward (clear empty start)) o (λ left. absurd (true≢false (sym left ∙ stays))))

    -- stage 10 ends
    put_10 : p.stage ≡ 10 → Settled e p (ends Got (forward (clear full start)))
    put_10 here =
        let f = at_stage e p fits 10 here in
        let had = had_at e p fits 10 here refl in
        let o = forward_owed e p (clear full start) had (clear_owed e p own full start start_owed) in
        let other : markable empty p.stage ≡ false = ap (markable empty) here in
        settle_end e p fits Got (forward (clear full start)) o (λ t. unmarked full t other o) f.note_fitting

    -- by the stage; stages 3, 4, 8 and 9 only clear the news
    pub put_settled : Settled e p (put e p)
    unfolding put
    put_settled =
        by_test (Settled e p) p.news _ _
        (λ _. by_stage (Settled e p) p.stage start relay_settled
        (λ here.
        let f = at_stage e p fits 2 here in
        wait_settled empty 3 here
        (λ had same. record {
          envelope = f.envelope;
          range = refl;
          marked = marks_follow 2 3 p.mark refl f.marked;
          note_fitting = refl;
          has = rw (had, same);
        }))
        (λ here.
        let f = at_stage e p fits 7 here in
        wait_settled full 8 here
        (λ had same. record {
          envelope = f.envelope;
          range = refl;
          marked = marks_follow 7 8 p.mark refl f.marked;
          note_fitting = f.note_fitting;
          has = rw (had, same);
        }))
        put_5 put_10 (λ _. still e p fits fits (inr refl)))
        (λ _. still e p fits fits (inr refl))
