-- Each test that fails is one that every sound image passes; an image that passes all is sound.
use native.Mathlib.Omega.{arith}
use Rattle.sound.proofs.Whole.{counts_refuse}
use Rattle.sound.proofs.sound_verdict.Goals as goal

pub returns-then-miscounted : goal.returns-then-miscounted
returns-then-miscounted c =
    counts_refuse c.args.image.now (λ k. omega (arith, c.type_inv.image k)) c.requires.0
    c.requires.1 c.requires.3 c.read_at-first.ensures
    c.counts.ensures c.if-miscounted.true
