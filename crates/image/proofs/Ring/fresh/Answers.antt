-- A verdict that refuses is handed on, with the buffer as it was; else zeros, N and have at home are the fresh state's
-- image.
use Prim.Native.Nat.{◌+◌, ◌*◌}
use mathlib.Core.Path.{sym, ap, ◌∙◌}
use native.Mathlib.Omega.{arith}
use lib.ListN.{set, length-set}
use Rattle.machine.proofs.Image.Fresh.{fresh_stores}
use Rattle.machine.proofs.Laws.Refusals.{fresh_fine}
use Rattle.machine.specs.Answers.{in_numbers}
use Rattle.numbers.specs.Values.{none}
use Rattle.image.proofs.Laws.{fresh_refused, fresh_done}
use Rattle.image.proofs.Ring.fresh.Goals as goal

pub returns-in_default : goal.returns-in_default
returns-in_default c =
    let both = fresh_refused c.args.n c.args.home c.args.image.now _
    (sym c.fresh_verdict-verdict.ensures ∙ c.in_default.is) in
    record { answer = ap (in_numbers none) c.in_default.is ∙ both.0; buffer = both.1 }

pub bounds-image-at : goal.bounds-image-at
bounds-image-at c = simp length-set (grind (arith, fresh_fine))

pub returns : goal.returns
returns c =
    let f = fresh_fine c.args.n c.args.home c.args.image.now (sym c.fresh_verdict-verdict.ensures ∙ c.in-Ok.is) in
    let both = fresh_done c.args.n c.args.home c.args.image.now _
    (sym c.fresh_verdict-verdict.ensures ∙ c.in-Ok.is)
    (ap (λ l. set (set l 0 c.args.n) (16 + 8 * c.args.home + 1) 1) c.clear.ensures
    ∙ fresh_stores c.args.image.now c.args.n c.args.home f.below) in
    record { answer = both.0; buffer = both.1 }
