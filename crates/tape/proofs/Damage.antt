-- Damaged tapes: one byte of an accepted tape changed, or one word, and the check of that block refuses it. The blocks
-- before it are as they were, so 7 at this block is the first refusal. A covered byte changed is a word changed by less
-- than 65,535, so the words' sum moves, and the check with it, and the check that it is compared with stands where it
-- was; a byte of that check changed moves it. A word changed keeps the sum only where it moved by 65,535, which is 0
-- and 65,535 exchanged; then the other sum is kept too, and the change is not seen.
use Rattle.std.specs.Prelude.{Err, Ok}
use Prim.Native.Nat.{ℕ, zero, suc, ◌+◌, ◌-◌, ◌*◌, ◌/◌, ◌%◌, ◌≤◌, ◌<◌}
use mathlib.Core.Path.{◌≡◌, refl, sym, ap, ◌∙◌, subst}
use mathlib.Core.List.{List, [], ◌∷◌}
use mathlib.Core.Logic.{◌⊎◌, inl, inr}
use native.Mathlib.Omega.{arith}
use lib.ListN.{length, get_or, set, length-set}
use lib.Seq.{get_or-set_same, get_or-set_other, set-get_or}
use borrow.Author.Tests.{ne_eqb}
use Rattle.machine.specs.declared.Refusal.TheVariants as refusal
use Rattle.machine.specs.Bytes.{part, bytes, Bytes}
use Rattle.machine.specs.Tape.{check, covered, block_check}
use Rattle.machine.specs.Refusals.{first, length_verdict, most_blocks, check_verdict, block_verdict, tape_verdict}
use Rattle.machine.proofs.Laws.Bytes.{lt_or_ge, number_2}
use Rattle.machine.proofs.Laws.Refusals.{first_fine}
use Rattle.machine.proofs.Image.Rewrite.{bytes_number}
use Rattle.machine.proofs.Laws.First.{first_refused}
use Rattle.tape_test.proofs.Blocks.{tape_fine, fine_block}
use Rattle.tape.proofs.Parts.{same_byte}
use Rattle.tape.proofs.Same.{block_same}
use Rattle.tape.proofs.Covered.{part_set_after, covered_apart}
use Rattle.tape.proofs.Moved.{Exchanged}
use Rattle.tape.proofs.Word.{Word, word_in, with_word, same_block_check, word_stayed, exchanged}

-- ---- an accepted tape of which block b has another check

block_refused : (codes n : ℕ) (t : List ℕ) (b : ℕ) → (check (covered t b) ≡ block_check t b → ⊥)
    → block_verdict codes n t b ≡ Err (refusal.Check b)
unfolding block_verdict check_verdict
block_refused codes n t b differ = rw (ne_eqb (check (covered t b)) (block_check t b) differ)

-- where the blocks before it are the same, so is the tape
tape_refused : (codes n : ℕ) (s t : List ℕ) (b : ℕ) → tape_verdict codes n s ≡ Ok tt → b < length s / 512
    → length t ≡ length s
    → ((c : ℕ) → c < b → part t (512 * c) 512 ≡ part s (512 * c) 512)
    → (check (covered t b) ≡ block_check t b → ⊥)
    → tape_verdict codes n t ≡ Err (refusal.Check b)
unfolding tape_verdict length_verdict
tape_refused codes n s t b fine h long same differ =
    let blocks = length s / 512 in
    rw (long, first_fine (length_verdict 512 most_blocks s) (first (block_verdict codes n s) 0 blocks) fine)
    (first_refused (block_verdict codes n t) 0 blocks b (refusal.Check b)
    (λ c low high.
    block_same t s c (same c high) codes n long
    ∙ fine_block codes n s c (omega arith) ((tape_fine codes n s fine).blocks c (omega arith)))
    (omega arith) (omega arith) (block_refused codes n t b differ))

-- ---- one word

-- any other word, unless 0 and 65,535 are exchanged
pub one_word : (codes n : ℕ) (s : List ℕ) (b p x y : ℕ) → Bytes s → tape_verdict codes n s ≡ Ok tt
    → b < length s / 512 → Word p → x < 256 → y < 256
    → (word_in s (512 * b + p) ≡ x + 256 * y → ⊥)
    → (Exchanged (word_in s (512 * b + p)) (x + 256 * y) → ⊥)
    → tape_verdict codes n (with_word s (512 * b + p) x y) ≡ Err (refusal.Check b)
one_word codes n s b p x y small fine h word low high other whole =
    let at = 512 * b + p in
    let t = with_word s at x y in
    tape_refused codes n s t b fine h (length-set (set s at x) (at + 1) y ∙ length-set s at x)
    (λ c before.
    part_set_after (set s at x) (512 * c) 512 (at + 1) y (omega arith)
    ∙ part_set_after s (512 * c) 512 at x (omega arith))
    (λ same.
    go
    (word_stayed s b p x y word h small low high
    (same ∙ same_block_check s b p x y word ∙ sym ((tape_fine codes n s fine).blocks b h).checked)))
  where
    go : (word_in s (512 * b + p) ≡ x + 256 * y) ⊎ Exchanged (word_in s (512 * b + p)) (x + 256 * y) → ⊥
    go (inl e) = other e
    go (inr e) = whole e

-- what is exchanged its check does not refuse
pub exchange_unseen : (s : List ℕ) (b p x y : ℕ) → Word p → b < length s / 512
    → Exchanged (word_in s (512 * b + p)) (x + 256 * y)
    → check_verdict (with_word s (512 * b + p) x y) b ≡ check_verdict s b
unfolding check_verdict
exchange_unseen s b p x y word h change = rw (exchanged s b p x y word h change, same_block_check s b p x y word)

-- ---- one byte

-- a byte stored is a word stored, of which one byte is as it was
lower_stored : (s : List ℕ) (at v : ℕ) → set s at v ≡ with_word s at v (get_or s (at + 1) 0)
lower_stored s at v =
    sym
    (ap (λ (y : ℕ). with_word s at v y) (sym (get_or-set_other s at (at + 1) v 0 (omega arith)))
    ∙ set-get_or (set s at v) (at + 1) 0)

upper_stored : (s : List ℕ) (at v : ℕ) → set s (at + 1) v ≡ with_word s at (get_or s at 0) v
upper_stored s at v = rw (set-get_or s at 0)

-- a byte stored among bytes
bytes_stored : (s : List ℕ) (k v : ℕ) → Bytes s → v < 256 → Bytes (set s k v)
bytes_stored [] k v small new j = small j
bytes_stored (u ∷ s) zero v small new zero = new
bytes_stored (u ∷ s) zero v small new (suc j) = small (suc j)
bytes_stored (u ∷ s) (suc k) v small new zero = small 0
bytes_stored (u ∷ s) (suc k) v small new (suc j) = bytes_stored s k v (λ m. small (suc m)) new j

-- one of the check's own bytes moves the check that is compared
check_byte : (s : List ℕ) (b p v : ℕ) → Bytes s → 512 * b + 512 ≤ length s → 4 ≤ p → p < 8 → v < 256
    → (v ≡ get_or s (512 * b + p) 0 → ⊥)
    → block_check (set s (512 * b + p) v) b ≡ block_check s b → ⊥
check_byte s b p v small room low high new other same =
    let k = 512 * b + p in
    let at = 512 * b + 4 in
    let t = set s k v in
    let before = bytes_number s at 4 (omega arith) small in
    let after = bytes_number t at 4 (omega (arith, length-set s k v)) (bytes_stored s k v small new) in
    let parts : part t at 4 ≡ part s at 4 = sym after ∙ ap (bytes 4) same ∙ before in
    other (sym (get_or-set_same s k v 0 (omega arith))
    ∙ same_byte t s at at 4 parts k k (omega arith) (omega arith) refl)

-- a word of which one byte is kept does not go from 0 to 65,535 or back
upper_kept : (a c v : ℕ) → a < 256 → v < 256 → Exchanged (a + 256 * c) (v + 256 * c) → ⊥
upper_kept a c v old new (inl h) = omega arith
upper_kept a c v old new (inr h) = omega arith

lower_kept : (a c v : ℕ) → c < 256 → v < 256 → Exchanged (a + 256 * c) (a + 256 * v) → ⊥
lower_kept a c v old new (inl h) = omega arith
lower_kept a c v old new (inr h) = omega arith

module _ (codes n : ℕ) (s : List ℕ) (b v : ℕ) (small : Bytes s) (fine : tape_verdict codes n s ≡ Ok tt)
    (h : b < length s / 512) (new : v < 256)
  where
    -- byte p of block b changed to v is refused by that block's check
    abbrev Caught : ℕ → Type 0
    Caught p =
        (v ≡ get_or s (512 * b + p) 0 → ⊥) → tape_verdict codes n (set s (512 * b + p) v) ≡ Err (refusal.Check b)

    lower_caught : (p : ℕ) → Word p → Caught p
    lower_caught p word other =
        let at = 512 * b + p in
        let x = get_or s at 0 in
        let y = get_or s (at + 1) 0 in
        rw (lower_stored s at v)
        (one_word codes n s b p v y small fine h word new (small (at + 1)) (λ e. other (omega (arith, number_2 s at)))
        (rw (number_2 s at) (upper_kept x y v (small at) new)))

    upper_caught : (p : ℕ) → Word p → Caught (p + 1)
    upper_caught p word other =
        let at = 512 * b + p in
        let next : 512 * b + (p + 1) ≡ at + 1 = omega arith in
        let x = get_or s at 0 in
        let y = get_or s (at + 1) 0 in
        let differ : v ≡ y → ⊥ = rw next at other in
        rw (next, upper_stored s at v)
        (one_word codes n s b p x v small fine h word (small at) new (λ e. differ (omega (arith, number_2 s at)))
        (rw (number_2 s at) (lower_kept x y v (small (at + 1)) new)))

    check_caught : (p : ℕ) → 4 ≤ p → p < 8 → Caught p
    check_caught p low high other =
        let k = 512 * b + p in
        tape_refused codes n s (set s k v) b fine h (length-set s k v)
        (λ c before. part_set_after s (512 * c) 512 k v (omega arith))
        (λ same.
        check_byte s b p v small (omega arith) low high new other
        (sym same ∙ ap check (covered_apart s b p v low high) ∙ ((tape_fine codes n s fine).blocks b h).checked))

    -- byte p is the lower or the upper one of a word, or one of the check
    caught : (p : ℕ) → p < 512 → Caught p
    caught p below = go (lt_or_ge p 4) (lt_or_ge p 8)
      where
        in_word : (p < 4) ⊎ (8 ≤ p) → (p % 2 < 1) ⊎ (1 ≤ p % 2) → Caught p
        in_word apart (inl even) = lower_caught p (record { even = omega arith; below = below; apart = apart })
        in_word apart (inr odd) =
            subst Caught (omega arith)
            (upper_caught (p - 1) (record { even = omega arith; below = omega arith; apart = before apart }))
          where
            before : (p < 4) ⊎ (8 ≤ p) → (p - 1 < 4) ⊎ (8 ≤ p - 1)
            before (inl low) = inl (omega arith)
            before (inr high) = inr (omega arith)

        go : (p < 4) ⊎ (4 ≤ p) → (p < 8) ⊎ (8 ≤ p) → Caught p
        go (inl low) any = in_word (inl low) (lt_or_ge (p % 2) 1)
        go (inr low) (inl high) = check_caught p low high
        go (inr low) (inr high) = in_word (inr high) (lt_or_ge (p % 2) 1)

-- any one byte, the check's own among them
pub one_byte : (codes n : ℕ) (s : List ℕ) (k v : ℕ) → Bytes s → tape_verdict codes n s ≡ Ok tt → k < length s → v < 256
    → (v ≡ get_or s k 0 → ⊥)
    → tape_verdict codes n (set s k v) ≡ Err (refusal.Check (k / 512))
one_byte codes n s k v small fine h new other =
    let b = k / 512 in
    let p = k % 512 in
    let here : k ≡ 512 * b + p = omega arith in
    let within : b < length s / 512 = omega (arith, (tape_fine codes n s fine).whole) in
    let differ : v ≡ get_or s (512 * b + p) 0 → ⊥ = λ e. other (e ∙ ap (λ (m : ℕ). get_or s m 0) (sym here)) in
    ap (λ (m : ℕ). tape_verdict codes n (set s m v)) here
    ∙ caught codes n s b v small fine within new p (omega arith) differ
