-- Two sums, which fit since a word's traffic is little.
use mathlib.Core.Path.{ap}
use borrow.Author.Rules.{rules}
use Rattle.machine.specs.declared.Traffic.{Traffic}
use Rattle.machine.specs.Traffic.{together}
use Rattle.turns.proofs.carried_to.Goals as goal

pub overflow_add-result : goal.overflow_add-result
overflow_add-result c =
    let told = ap (λ (t : Traffic). t.requests) c.traffic_in-more.ensures in
    search rules

pub overflow_add-result-2 : goal.overflow_add-result-2
overflow_add-result-2 c =
    let told = ap (λ (t : Traffic). t.departures) c.traffic_in-more.ensures in
    search rules

pub returns : goal.returns
returns c =
    ap (together c.args.traffic) c.traffic_in-more.ensures
