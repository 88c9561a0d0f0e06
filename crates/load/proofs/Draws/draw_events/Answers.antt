-- After k events the slots have the first k of the load, and the number drawn last is number 3k.
use mathlib.Core.Path.{refl, ap, ◌∙◌}
use native.Mathlib.Omega.{arith}
use Rattle.machine.specs.Events.{Event}
use Rattle.machine.specs.Load.{drawn}
use Rattle.load.proofs.Drawn.{process_small, events_none, events_more, last_more}
use Rattle.load.proofs.Draws.draw_events.Goals as goal

pub loop-k-init : goal.loop-k-init
unfolding drawn
loop-k-init c =
    record { same = refl; last = refl; slots = events_none c.args.self.now.n c.args.self.now.last c.args.slots.now }

pub put-requires : goal.put-requires
put-requires c =
    let small = process_small c.loop-k.self.n c.loop-k.self.last 0 c.loop-k.self.some c.loop-k.self.few in
    let process = ap (λ (v : Event). v.process) c.draw_event-event.ensures.event in
    (omega (arith, process, small), omega arith)

pub loop-k-preserved : goal.loop-k-preserved
loop-k-preserved c =
    let n = c.args.self.now.n in
    let seed = c.args.self.now.last in
    record {
      same = c.draw_event-event.ensures.same ∙ c.loop-k.invariant.same;
      last = last_more n seed c.args.slots.now c.loop-k.k c.loop-k.invariant.last c.draw_event-event.ensures.last;
      slots =
          events_more n seed c.args.slots.now c.loop-k.k c.loop-k.invariant.slots c.loop-k.invariant.last
          c.loop-k.invariant.same c.draw_event-event.ensures.event c.put.ensures;
    }
