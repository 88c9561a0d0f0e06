-- Bytes that a put changes, a record's bytes 1 and 2 and a header's markers: which bits they then have, computed at
-- every value of the byte.
use Prim.Native.Nat.{ℕ, zero, suc, ◌-◌, ◌*◌, ◌/◌, ◌%◌, ◌^◌, ◌<◌}
use mathlib.Core.Path.{◌≡◌, refl, ap, ◌∙◌}
use mathlib.Core.Bool.{Bool, true, false, not, cond, ◌&&◌, ◌||◌}
use native.Mathlib.Omega.{arith}
use lib.Bits.{bit_and, bit_or, or_shr, or_mod}
use lib.Dec.{eqb}
use Rattle.machine.specs.declared.Pair.{Pair}
use Rattle.machine.specs.Bytes.{bit_of}
use Rattle.machine.specs.Lists.{every}
use Rattle.machine.specs.Fields.{Status, full, empty, none, for, with, either, process_of}
use Rattle.machine.specs.Image.{pair_of, process_from}
use Rattle.machine.proofs.Laws.Lists.{every_at, alike, agree, and_first, and_second}
use Rattle.record.proofs.Pairs.{same_pair, pair_test, Pairs, at, same, by_test}
use Rattle.reaction.specs.Reaction.{pair_for}

-- ---- a header's markers

-- one marker off
pub marker_off : (s : Status) (m : ℕ) → m < 256 → pair_of (bit_and m (255 - pair_for s)) 0 ≡ with (pair_of m 0) s false
unfolding every
marker_off true = pair_test (λ k. pair_of (bit_and k 254) 0) (λ k. with (pair_of k 0) full false) refl
marker_off false = pair_test (λ k. pair_of (bit_and k 253) 0) (λ k. with (pair_of k 0) empty false) refl

-- a bit of one or the other
or_one : (x y : ℕ) → x < 2 → y < 2 → eqb (bit_or x y) 1 ≡ eqb x 1 || eqb y 1
or_one zero zero a b = refl
or_one zero (suc zero) a b = refl
or_one zero (suc (suc y)) a b = absurd (omega arith)
or_one (suc zero) zero a b = refl
or_one (suc zero) (suc zero) a b = refl
or_one (suc zero) (suc (suc y)) a b = absurd (omega arith)
or_one (suc (suc x)) y a b = absurd (omega arith)

-- so each bit of either
or_bit : (a b k : ℕ) → bit_of (bit_or a b) k ≡ bit_of a k || bit_of b k
or_bit a b k =
    ap (λ x. eqb (x % 2) 1) (or_shr a b k)
    ∙ ap (λ x. eqb x 1) (or_mod (a / 2 ^ k) (b / 2 ^ k) 1)
    ∙ or_one (a / 2 ^ k % 2) (b / 2 ^ k % 2) (omega arith) (omega arith)

-- the lowest pair by itself
low_pair : (r : ℕ) → r < 256 → pair_of (r % 4) 0 ≡ pair_of r 0
unfolding every
low_pair = pair_test (λ k. pair_of (k % 4) 0) (at 0) refl

-- the markers of what the right has asked for set
pub heeded : (m r : ℕ) → r < 256 → pair_of (bit_or m (r % 4)) 0 ≡ either (pair_of m 0) (pair_of r 0)
heeded m r h =
    let asked = low_pair r h in
    λ i. record {
      full = (or_bit m (r % 4) 0 ∙ ap (λ (p : Pair Bool). bit_of m 0 || p.full) asked) i;
      empty = (or_bit m (r % 4) 1 ∙ ap (λ (p : Pair Bool). bit_of m 1 || p.empty) asked) i;
    }

-- ---- what leaves with the envelope

-- have, and in byte 2 all four asked bits
pub gone_along : (stage flags requests note : ℕ) → flags < 256 → requests < 256
    → process_from stage (bit_and flags 254) (bit_and requests 240) note
    ≡ process_of stage false (bit_of flags 1) (bit_of flags 2) none none (pair_of requests 4) (pair_of requests 6) note
unfolding every
gone_along stage flags requests note byte byte_2 =
    let have = alike 256 (λ k. bit_of (bit_and k 254) 0) (λ _. false) refl flags byte in
    let arriving = alike 256 (λ k. bit_of (bit_and k 254) 1) (λ k. bit_of k 1) refl flags byte in
    let news = alike 256 (λ k. bit_of (bit_and k 254) 2) (λ k. bit_of k 2) refl flags byte in
    by_test (λ k. bit_and k 240) (λ _. none) (λ _. none) (at 4) (at 6) refl requests byte_2 stage (bit_and flags 254)
    note
    ∙ rw (have, arriving, news)

-- ---- a mark set, and off

-- only the mark changes, by the status that it is for
by_mark : (f : Status → ℕ → ℕ) (mark : Status → ℕ → Pair Bool)
    → same (f true) (at 0) (at 2) (mark true) (at 6) && same (f false) (at 0) (at 2) (mark false) (at 6) ≡ true
    → (s : Status) (r : ℕ) → r < 256
    → Pairs (f s r) (pair_of r 0) (pair_of r 2) (mark s r) (pair_of r 6)
by_mark f mark test true = by_test (f true) (at 0) (at 2) (mark true) (at 6) (and_first _ _ test)
by_mark f mark test false =
    by_test (f false) (at 0) (at 2) (mark false) (at 6)
    (and_second (same (f true) (at 0) (at 2) (mark true) (at 6)) _ test)

pub marked : (s : Status) (r : ℕ) → r < 256
    → Pairs (bit_or r (pair_for s * 16)) (pair_of r 0) (pair_of r 2) (with (pair_of r 4) s true) (pair_of r 6)
unfolding every
marked = by_mark (λ s k. bit_or k (pair_for s * 16)) (λ s k. with (pair_of k 4) s true) refl

pub unmarked : (s : Status) (r : ℕ) → r < 256
    → Pairs (bit_and r (255 - pair_for s * 16)) (pair_of r 0) (pair_of r 2) (with (pair_of r 4) s false) (pair_of r 6)
unfolding every
unmarked = by_mark (λ s k. bit_and k (255 - pair_for s * 16)) (λ s k. with (pair_of k 4) s false) refl

-- a number made of a byte and a status
by_number : (f g : Status → ℕ → ℕ) → every 256 (λ k. eqb (f true k) (g true k)) ≡ true
    → every 256 (λ k. eqb (f false k) (g false k)) ≡ true
    → (s : Status) (r : ℕ) → r < 256
    → f s r ≡ g s r
by_number f g for_full for_empty true = agree 256 (f true) (g true) for_full
by_number f g for_full for_empty false = agree 256 (f false) (g false) for_empty

-- the mark for s, where it is missing, and where it stands
pub missing : (s : Status) (r : ℕ) → r < 256
    → bit_and (pair_for s) (3 - r / 16 % 4) ≡ cond (for (pair_of r 4) s) 0 (pair_for s)
unfolding every
missing =
    by_number (λ s k. bit_and (pair_for s) (3 - k / 16 % 4)) (λ s k. cond (for (pair_of k 4) s) 0 (pair_for s)) refl
    refl

pub standing : (s : Status) (r : ℕ) → r < 256
    → bit_and (r / 16 % 4) (pair_for s) ≡ cond (for (pair_of r 4) s) (pair_for s) 0
unfolding every
standing =
    by_number (λ s k. bit_and (k / 16 % 4) (pair_for s)) (λ s k. cond (for (pair_of k 4) s) (pair_for s) 0) refl refl

-- ---- asked and passed on

-- what is wished and what the right has asked for, as bits and as a pair
abbrev pub wanted_in : ℕ → ℕ → ℕ
wanted_in wish r = bit_or (r % 4) wish

abbrev pub wanted_by : ℕ → ℕ → Pair Bool
wanted_by wish r = either (pair_of r 0) (pair_of wish 0)

-- one pair without another
abbrev pub unless : Pair Bool → Pair Bool → Pair Bool
unless p q = record { full = p.full && not q.full; empty = p.empty && not q.empty }

-- byte 2 with it asked for, and what of it wasn't, as bits and as pairs
abbrev passes : ℕ → ℕ → ℕ
passes wish r = bit_or r (wanted_in wish r * 4)

abbrev itself_with : ℕ → ℕ → Pair Bool
itself_with wish r = either (pair_of r 2) (wanted_by wish r)

abbrev asks : ℕ → ℕ → Pair Bool
asks wish r = pair_of (bit_and (wanted_in wish r) (3 - r / 4 % 4)) 0

abbrev asks_with : ℕ → ℕ → Pair Bool
asks_with wish r = unless (wanted_by wish r) (pair_of r 2)

module _ (wish : ℕ) (few : wish < 4) (r : ℕ) (h : r < 256) where
  pub passed : Pairs (passes wish r) (pair_of r 0) (either (pair_of r 2) (wanted_by wish r)) (pair_of r 4) (pair_of r 6)
  unfolding every
  passed =
      by_test (passes wish) (at 0) (itself_with wish) (at 4) (at 6)
      (every_at 4 (λ n. same (passes n) (at 0) (itself_with n) (at 4) (at 6)) refl wish few)
      r h

  pub asks_are : asks wish r ≡ unless (wanted_by wish r) (pair_of r 2)
  unfolding every
  asks_are =
      pair_test (asks wish) (asks_with wish)
      (every_at 4 (λ n. every 256 (λ k. same_pair (asks n k) (asks_with n k))) refl wish few)
      r h
