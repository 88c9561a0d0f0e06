-- Writing and reading an image: what was written is read back, and a sound image is what its own state writes. An image
-- is its header, its records and the further bytes, one after the other (Writes.image-pieces). A write is a splice into
-- one of the three, so a record written is one element of the list replaced, by induction on the list (Writes, Stored).
-- At a record's place stand that record's eight bytes (Readback.record-stands), so it reads back. The other way round,
-- a sound image's bytes are each in their range, so each is made of the bits that were read from it (Rewrite). Whether
-- a state that was written is sound comes down to the rules on the state itself (Written.sound-written): the bytes' own
-- ranges and zeros come from the writing. Fresh: the fresh ring's bytes, and that they are sound.
pub mod Writes
pub mod Readback
pub mod Rewrite
pub mod Written
pub mod Stored
pub mod Fresh
