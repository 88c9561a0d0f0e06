-- A copy of an accepted image in another buffer is an accepted image of the same state: its bytes are those that the
-- state is written as.
use Rattle.std.specs.Prelude.{Ok}
use Prim.Native.Nat.{ℕ, ◌≤◌}
use mathlib.Core.Path.{◌≡◌, sym, ap, ap₂, ◌∙◌}
use mathlib.Core.Bool.{Bool, true}
use mathlib.Core.List.{List}
use native.Mathlib.Omega.{arith}
use lib.ListN.{length, take}
use lib.Seq.{take-append_seam}
use Rattle.machine.specs.declared.Refusal.TheVariants as refusal
use Rattle.machine.specs.Bytes.{Bytes, part, splice}
use Rattle.machine.specs.Ring.{image_length}
use Rattle.machine.specs.Image.{size_in, state_in, image_bytes, image_with}
use Rattle.machine.specs.Sound.{sound}
use Rattle.machine.specs.Refusals.{unless, image_verdict}
use Rattle.machine.proofs.Image.Writes.{length_image, size_written, length_written}
use Rattle.machine.proofs.Image.Readback.{read_state}
use Rattle.machine.proofs.Image.Rewrite.{rewrite_image, read_in_range}
use Rattle.machine.proofs.Image.Written.{sound_written}
use Rattle.machine.proofs.Image.Stored.{length_state}
use Rattle.machine.proofs.Laws.Refusals.{image_fine, image_whole}
use Rattle.replay.specs.Playable.{Playable}

module _ (s : List ℕ) (fine : image_verdict s ≡ Ok tt) (small : Bytes s) where
  -- the bytes of an accepted image are its state's
  own_bytes : part s 0 (image_length (size_in s)) ≡ image_bytes (state_in s)
  unfolding image_with splice
  own_bytes =
      let image = image_fine s fine in
      let st = state_in s in
      let long : image_length (size_in s) ≡ length (image_bytes st) =
      sym (length_image st ∙ ap image_length (length_state s)) in
      ap₂ take long (sym (rewrite_image s image.room small image.fits)) ∙ take-append_seam (image_bytes st) _

  module _ (buffer : List ℕ) (room : image_length (size_in s) ≤ length buffer) {n : ℕ} (size : n ≡ size_in s)
      {spare : List ℕ} (copied : spare ≡ splice buffer 0 (part s 0 (image_length n))) where
    spare_written : spare ≡ image_with buffer (state_in s)
    unfolding image_with
    spare_written =
        copied ∙ ap (λ (k : ℕ). splice buffer 0 (part s 0 (image_length k))) size ∙ ap (splice buffer 0) own_bytes

    pub spare_state : state_in spare ≡ state_in s
    spare_state = ap state_in spare_written ∙ read_state buffer (state_in s) (read_in_range s small)

    spare_size : size_in spare ≡ size_in s
    spare_size = ap size_in spare_written ∙ size_written buffer (state_in s) ∙ length_state s

    spare_fine : image_verdict spare ≡ Ok tt
    spare_fine =
        let image = image_fine s fine in
        let st = state_in s in
        let range = read_in_range s small in
        let long : length spare ≡ length buffer =
        ap length spare_written ∙ length_written buffer st (omega (arith, length_state s)) in
        let fits : sound spare ≡ true =
        ap sound spare_written
        ∙ sound_written buffer st range
        ∙ sym (sound_written s st range)
        ∙ ap sound (rewrite_image s image.room small image.fits)
        ∙ image.fits in
        image_whole spare (omega (arith, long, room, image.size.least)) (rw spare_size image.size)
        (omega (arith, long, room, spare_size))
        ∙ ap (λ (b : Bool). unless b refusal.Unsound) fits

    pub spare_playable : {tape : List ℕ} {total : ℕ} → Playable s tape total → Playable spare tape total
    spare_playable ready =
        record { image_fine = spare_fine; tape_fine = rw spare_size ready.tape_fine; so_many = ready.so_many }
