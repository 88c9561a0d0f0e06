-- A neighbour's word with requests on its link, or with the envelope arriving, shows the rule's record of it.
use Prim.Native.Nat.{ℕ, ◌*◌, ◌<◌}
use mathlib.Core.Path.{◌≡◌, refl, ◌∙◌}
use mathlib.Core.Bool.{Bool, true, ◌||◌}
use native.Mathlib.Omega.{arith}
use lib.Bits.{bit_or, or_zero_r, or_lt}
use Rattle.machine.specs.declared.Pair.{Pair}
use Rattle.machine.specs.Bytes.{bit_of}
use Rattle.machine.specs.Lists.{every}
use Rattle.machine.specs.Fields.{either}
use Rattle.machine.specs.Image.{pair_of}
use Rattle.machine.specs.Events.{requested, arrived}
use Rattle.machine.proofs.Laws.Lists.{every_at, alike}
use Rattle.record.specs.Words.{stage_of, flags_of, requests_of, note_of, shown_process, Tidy}
use Rattle.record.proofs.Fields.{set_in, set_in_2, shows, is_tidy}
use Rattle.record.proofs.Images.{Read}
use Rattle.record.proofs.Pairs.{Pairs, at, same, by_test}

-- ---- requests on the link

-- byte 2 with them, and what its link then is
abbrev linked_in : ℕ → ℕ → ℕ
linked_in asks r = bit_or r (asks * 64)

abbrev link_with : ℕ → ℕ → Pair Bool
link_with asks r = either (pair_of r 6) (pair_of asks 0)

linked : (asks : ℕ) → asks < 4 → (r : ℕ) → r < 256
    → Pairs (linked_in asks r) (pair_of r 0) (pair_of r 2) (pair_of r 4) (link_with asks r)
unfolding every
linked asks few =
    by_test (linked_in asks) (at 0) (at 2) (at 4) (link_with asks)
    (every_at 4 (λ n. same (linked_in n) (at 0) (at 2) (at 4) (link_with n)) refl asks few)

module _ (w : ℕ) (tidy : Tidy w) where
  pub requested_shown : (asks : ℕ) → asks < 4
      → Read (bit_or w (asks * 4194304)) (requested (pair_of asks 0) (shown_process w))
  requested_shown asks few =
      let place : asks * 4194304 ≡ asks * 64 * 65536 = omega arith in
      let f = set_in_2 w (asks * 64) (omega arith) in
      rw place
      (record {
        is = shows f ∙ linked asks few (requests_of w) (omega arith) (stage_of w) (flags_of w) (note_of w);
        tidy = is_tidy f tidy.flags tidy.spare tidy.note;
      })

  -- ---- the envelope on the link

  pub arrived_shown : Read (bit_or w 512) (arrived true (shown_process w))
  unfolding every
  arrived_shown =
      let below : flags_of w < 8 = omega (arith, tidy.flags) in
      let have = alike 8 (λ k. bit_of (bit_or k 2) 0) (λ k. bit_of k 0) refl (flags_of w) below in
      let arriving = alike 8 (λ k. bit_of (bit_or k 2) 1) (λ k. bit_of k 1 || true) refl (flags_of w) below in
      let news = alike 8 (λ k. bit_of (bit_or k 2) 2) (λ k. bit_of k 2) refl (flags_of w) below in
      let f = set_in w 2 0 (omega arith) (omega arith) in
      record {
        is = shows f ∙ rw (or_zero_r (requests_of w), have, arriving, news);
        tidy = is_tidy f (omega (arith, or_lt 3 (flags_of w) 2 below (omega arith))) tidy.spare tidy.note;
      }
