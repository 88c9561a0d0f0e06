-- Why one walk over the records and some tests of the header are the rule of soundness, for every image, and why what
-- the walk counts and gathers is exact, sound or not; Whole has the theorem, Ways what the calls make of it.
--
-- The walk goes from the last record to the first, each read as one number of eight bytes. A mask is found by status
-- and stage (specs/Demands): its bits must be 0, but have and the stage's three lowest bits are turned over first, so
-- that where a mask has them they must be 1. Of what is left, the bits not turned over are there just where one of the
-- record's own bytes is out of range; and where none is, a bit turned over is there just where the stage lacks the
-- envelope that it needs: have isn't set, or the status is the other, under which the mask has the three lowest bits,
-- and no such stage has them all (Kept; bytes under their masks are computed at all 256 values in Masks, the table at
-- all 32 entries in Rows). Stages above 10 leave themselves.
--
-- What the loop keeps, of the records from i on (specs/Walk, Walked), whatever their bytes: the first that is out of
-- range; if there is none, the turned bits of all are or-ed to 0 just where all stages stand (Ored); have and arriving
-- flags are summed up with the marks far above them, so that 128 flags never reach the marks; a set is doubled with
-- each process and gets its bit, as the rule's own set is made.
--
-- The tests are each passed by every sound image, and an image that passes all of them is sound (Whole, Fits). The mask
-- over the header's first word is byte 1 at most 1 and byte 2 at most 3; the second word is at most 0 or 2 ^ 32 - 1, by
-- the status; and the ones of both sets, a byte each, are the rest of the first word: so both counts are right and
-- nothing stands behind them, since a set of 64 has at most 64 ones.
pub mod Rows
pub mod Masks
pub mod Kept
pub mod Ored
pub mod Fits
pub mod Walked
pub mod Whole
pub mod Ways
