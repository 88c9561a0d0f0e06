-- What the demand reads off an image's bytes is what the rules say of its state: flag by flag, since the records are
-- read one by one, and the envelope's own message, since both read the same bytes.
use Prim.Native.Nat.{ℕ, zero, suc, ◌+◌}
use mathlib.Core.Path.{◌≡◌, refl, sym, ap, ◌∙◌}
use mathlib.Core.List.{List}
use native.Mathlib.Omega.{arith}
use Rattle.machine.specs.Bytes.{bit}
use Rattle.machine.specs.Lists.{tabulate, sum}
use Rattle.machine.specs.Image.{process_in, processes_in, size_in, envelope_in, state_in}
use Rattle.machine.specs.Sound.{places}
use Rattle.machine.specs.Balance.{own_message}
use Rattle.machine.proofs.Laws.Lists.{tabulate_more}
use Rattle.machine.proofs.Laws.Walk.{places_more}
use Rattle.calls.specs.Demand.{flags_set, own_message_in}

-- of the first n records
flags_places : (image : List ℕ) (n : ℕ) → flags_set image n ≡ places (processes_in image n)
unfolding flags_set sum processes_in process_in tabulate
flags_places image zero = refl
flags_places image (suc n) =
    let f = process_in image in
    let last : 0 + n ≡ n = omega arith in
    ap (λ (m : ℕ). m + bit (f n).have + bit (f n).arriving) (flags_places image n)
    ∙ sym (ap places (rw last at (tabulate_more f 0 n)) ∙ places_more (tabulate f 0 n) (f n))

-- of all
pub flags_are_places : (image : List ℕ) → flags_set image (size_in image) ≡ places (state_in image).processes
unfolding state_in
flags_are_places image = flags_places image (size_in image)

pub own_message_read : (image : List ℕ) → own_message_in image ≡ own_message (state_in image).envelope
unfolding state_in envelope_in
own_message_read image = refl
