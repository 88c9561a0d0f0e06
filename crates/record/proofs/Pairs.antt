-- Byte 2 of a record as four pairs of bits: what a change of the byte makes of them is computed at every value.
use Prim.Native.Nat.{ℕ, ◌<◌}
use mathlib.Core.Path.{◌≡◌}
use mathlib.Core.Bool.{Bool, true, false, ◌&&◌, beq}
use lib.Bits.{bit_or, or_lt}
use lib.Dec.{eqb}
use Rattle.machine.specs.declared.Pair.{Pair}
use Rattle.machine.specs.declared.Process.{Process}
use Rattle.machine.specs.Bytes.{bit_of}
use Rattle.machine.specs.Lists.{every}
use Rattle.machine.specs.Fields.{process_of}
use Rattle.machine.specs.Image.{pair_of, process_from, request_bits}
use Rattle.machine.proofs.Laws.Lists.{every_at, agree, and_first, and_second, same_bool}
use Rattle.machine.proofs.Laws.Bits.{process_is}

-- whether two pairs are the same
abbrev pub same_pair : Pair Bool → Pair Bool → Bool
same_pair p q = beq p.full q.full && beq p.empty q.empty

same_pair_lem : (p q : Pair Bool) → same_pair p q ≡ true → p ≡ q
same_pair_lem p q e =
    let f = same_bool p.full q.full (and_first _ (beq p.empty q.empty) e) in
    let g = same_bool p.empty q.empty (and_second (beq p.full q.full) _ e) in
    λ i. record { full = f i; empty = g i }

-- two pairs made of a byte that are the same at every value of it
pub pair_test : (f g : ℕ → Pair Bool) → every 256 (λ k. same_pair (f k) (g k)) ≡ true → (r : ℕ) → r < 256 → f r ≡ g r
pair_test f g test r h = same_pair_lem (f r) (g r) (every_at 256 (λ k. same_pair (f k) (g k)) test r h)

-- a record with this byte 2 has these pairs: asked, itself, mark, link
abbrev pub Pairs : ℕ → Pair Bool → Pair Bool → Pair Bool → Pair Bool → Type 0
Pairs byte asked itself mark link =
    (stage flags note : ℕ)
    → process_from stage flags byte note
    ≡ process_of stage (bit_of flags 0) (bit_of flags 1) (bit_of flags 2) asked itself mark link note

-- the two bits from bit k on, of each byte
abbrev pub at : ℕ → ℕ → Pair Bool
at k byte = pair_of byte k

-- a record of these pairs alone
abbrev paired : Pair Bool → Pair Bool → Pair Bool → Pair Bool → Process
paired asked itself mark link = process_of 0 false false false asked itself mark link 0

-- whether the byte that f makes has these pairs, at every value
abbrev pub same : (ℕ → ℕ) → (ℕ → Pair Bool) → (ℕ → Pair Bool) → (ℕ → Pair Bool) → (ℕ → Pair Bool) → Bool
same f asked itself mark link =
    every 256 (λ k. eqb (f k) (request_bits (paired (asked k) (itself k) (mark k) (link k))))

pub by_test : (f : ℕ → ℕ) (asked itself mark link : ℕ → Pair Bool) → same f asked itself mark link ≡ true → (r : ℕ)
    → r < 256
    → Pairs (f r) (asked r) (itself r) (mark r) (link r)
by_test f asked itself mark link test r h stage flags note =
    let is = agree 256 f (λ k. request_bits (paired (asked k) (itself k) (mark k) (link k))) test r h in
    let p = process_is (paired (asked r) (itself r) (mark r) (link r)) in
    rw is
    (λ i. process_of stage (bit_of flags 0) (bit_of flags 1) (bit_of flags 2) (p i).asked (p i).itself (p i).mark
    (p i).link note)

-- ---- sets of statuses

-- what is asked for or wished is a set too
pub wants_few : (asked wish : ℕ) → asked < 4 → wish < 4 → bit_or asked wish < 4
wants_few asked wish = or_lt 2 asked wish
