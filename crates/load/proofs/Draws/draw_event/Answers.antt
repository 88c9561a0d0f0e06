-- Three numbers drawn, and the event that they make, with a message or without.
use Rattle.load.proofs.Drawn.{last_drawn, with_message, without_message}
use Rattle.load.proofs.Draws.draw_event.Goals as goal

pub returns-then-code-eq0-clause-event : goal.returns-then-code-eq0-clause-event
returns-then-code-eq0-clause-event c =
    with_message c.args.self.now.n c.args.self.now.last c.draw-first.ensures.drawn c.draw-first.ensures.last
    c.draw-second.ensures.drawn c.draw-second.ensures.last c.draw-third.ensures.drawn c.draw-third.ensures.last
    (cc) c.if-code-eq0.true

pub returns-then-code-eq0-clause-last : goal.returns-then-code-eq0-clause-last
returns-then-code-eq0-clause-last c =
    last_drawn c.args.self.now.n c.args.self.now.last c.draw-first.ensures.drawn c.draw-first.ensures.last
    c.draw-second.ensures.drawn c.draw-second.ensures.last c.draw-third.ensures.drawn c.draw-third.ensures.last

pub returns-else-code-eq0-clause-event : goal.returns-else-code-eq0-clause-event
returns-else-code-eq0-clause-event c =
    without_message c.args.self.now.n c.args.self.now.last c.draw-first.ensures.drawn c.draw-first.ensures.last
    c.draw-second.ensures.drawn c.draw-second.ensures.last c.draw-third.ensures.drawn c.draw-third.ensures.last
    (cc) c.if-code-eq0.false

pub returns-else-code-eq0-clause-last : goal.returns-else-code-eq0-clause-last
returns-else-code-eq0-clause-last c =
    last_drawn c.args.self.now.n c.args.self.now.last c.draw-first.ensures.drawn c.draw-first.ensures.last
    c.draw-second.ensures.drawn c.draw-second.ensures.last c.draw-third.ensures.drawn c.draw-third.ensures.last
