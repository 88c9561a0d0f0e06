-- An answer that is neither yes nor no is refused: for a caller that takes it apart by its values.
use Rattle.std.specs.Prelude.{Bool, true, false, Result, Err, Ok}
use mathlib.Core.Path.{◌≡◌, refl}
use Rattle.machine.specs.declared.Refusal.{Refusal}

-- each fact is what a let .. else leaves of its answer
pub neither_refused : (a : Result Bool Refusal) → (a ≡ Ok true → ⊥) → (a ≡ Ok false → ⊥) → (r : Refusal) × (a ≡ Err r)
neither_refused (Ok true) not_yes _ = absurd (not_yes refl)
neither_refused (Ok false) _ not_no = absurd (not_no refl)
neither_refused (Err r) _ _ = (r, refl)
