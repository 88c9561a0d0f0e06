-- The size first, then the seed, then the count.
use Prim.Native.Nat.{ℕ}
use mathlib.Core.Path.{refl}
use mathlib.Core.Bool.{Bool}
use lib.Dec.{leb}
use borrow.Author.Tests.{le-leb, lt-leb}
use Rattle.machine.specs.declared.Refusal.TheVariants as refusal
use Rattle.machine.specs.Lists.{within}
use Rattle.machine.specs.Refusals.{most_events, size_verdict, seed_verdict, count_verdict}
use Rattle.machine.proofs.Laws.Refusals.{test_refuses, test_passes, refused_first, fine_then}
use Rattle.load.proofs.load_verdict.Goals as goal

-- the tests of seed and count as code makes them
abbrev seeded : ℕ → Bool
seeded = within 1 2147483646

abbrev few : ℕ → Bool
few count = leb count most_events

pub returns-then-not-seeded : goal.returns-then-not-seeded
unfolding size_verdict seed_verdict
returns-then-not-seeded c =
    let from = seeded c.args.seed in
    fine_then (test_passes refusal.Size c.fits.ensures c.if-not-fits.false) refl
    (refused_first _ (test_refuses {b = from} refusal.Seed refl c.if-not-seeded.true) refl)

pub returns-then-not-few : goal.returns-then-not-few
unfolding size_verdict seed_verdict count_verdict
returns-then-not-few c =
    let from = seeded c.args.seed in
    let fits = few c.args.count in
    fine_then (test_passes refusal.Size c.fits.ensures c.if-not-fits.false) refl
    (fine_then (test_passes {b = from} refusal.Seed refl c.if-not-seeded.false) refl
    (test_refuses {b = fits} refusal.Length refl (lt-leb c.args.count most_events c.if-not-few.true)))

pub returns : goal.returns
unfolding size_verdict seed_verdict count_verdict
returns c =
    let from = seeded c.args.seed in
    let fits = few c.args.count in
    fine_then (test_passes refusal.Size c.fits.ensures c.if-not-fits.false) refl
    (fine_then (test_passes {b = from} refusal.Seed refl c.if-not-seeded.false) refl
    (test_passes {b = fits} refusal.Length refl (le-leb c.args.count most_events c.if-not-few.false)))
