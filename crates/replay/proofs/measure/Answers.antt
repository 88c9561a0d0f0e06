-- The copy is an accepted image of the same state, so its records are the image's.
use mathlib.Core.Path.{ap, ◌∙◌}
use native.Mathlib.Omega.{arith}
use Prim.Native.Nat.{ℕ, ◌+◌, ◌*◌}
use lib.ListN.{length-take}
use Rattle.machine.specs.declared.Counts.{Counts}
use Rattle.machine.specs.Image.{State}
use Rattle.machine.proofs.Laws.Refusals.{image_fine}
use Rattle.machine.proofs.Tallies.{records_from}
use Rattle.replay.specs.Playable.{first_events}
use Rattle.replay.proofs.Spare.{spare_state, spare_playable}
use Rattle.replay.proofs.measure.Goals as goal

pub put-requires : goal.put-requires
put-requires c =
    let image = image_fine c.args.image.now c.requires.image_fine in
    omega (arith, c.from.ensures, image.size.most, length-take {A = ℕ} (16 + 8 * c.from.result) c.args.image.now)

pub slice_bounds-put-end-2 : goal.slice_bounds-put-end-2
slice_bounds-put-end-2 c =
    let image = image_fine c.args.image.now c.requires.image_fine in
    omega (arith, c.from.ensures, image.room, length-take {A = ℕ} (16 + 8 * c.from.result) c.args.image.now)

pub replay-played-requires : goal.replay-played-requires
replay-played-requires c =
    let image = image_fine c.args.image.now c.requires.image_fine in
    spare_playable c.args.image.now c.requires.image_fine
    (λ k. omega (arith, c.type_inv.image k))
    _ (omega (arith, image.size.most)) c.from.ensures c.put.ensures c.requires

pub returns : goal.returns
returns c =
    let image = image_fine c.args.image.now c.requires.image_fine in
    ap (λ (counts : Counts). counts.records) c.replay-played.ensures.answer.counts
    ∙ ap (λ (st : State). records_from st (first_events c.args.tape.now c.args.events))
    (spare_state c.args.image.now c.requires.image_fine
    (λ k. omega (arith, c.type_inv.image k))
    _ (omega (arith, image.size.most)) c.from.ensures c.put.ensures)
