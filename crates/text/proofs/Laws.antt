-- Pieces of text one after the other are one piece.
use Prim.Native.Nat.{ℕ, ◌+◌, ◌-◌, ◌%◌, ◌≤◌, ◌<◌, ◌^◌}
use mathlib.Core.Path.{◌≡◌, ap, subst, sym, ◌∙◌}
use mathlib.Core.List.{List, [], ◌∷◌, ◌++◌}
use mathlib.Core.Logic.{◌⊎◌, inl, inr}
use native.Mathlib.Omega.{arith}
use lib.ListN.{length, take, length-append, length-take}
use Rattle.std.specs.Fmt as std
use Rattle.std.proofs.lemmas.Fmt.{decimal_by_steps}
use Rattle.machine.specs.Bytes.{splice}
use Rattle.machine.specs.Text.{decimal}
use Rattle.machine.proofs.Laws.Bytes.{length_splice, splice_next, lt_or_ge}
use Rattle.machine.proofs.Text.{decimal_one, decimal_more, length_one, length_more}
use Rattle.machine.proofs.Laws.Splices.{splice_none}
use Rattle.text.specs.declared.Page.{Page}
use Rattle.text.specs.Piece.{Piece}
use Rattle.text.specs.Puts.{Puts}

-- nothing
pub piece_none : (s : List ℕ) (at : ℕ) → at ≤ length s → Piece s at [] s at
piece_none s at h = record { within = omega arith; written = splice_none s at; ends = omega arith }

module _ {s t : List ℕ} {at end : ℕ} {a : List ℕ} (first : Piece s at a t end) where
  -- the buffer keeps its length
  pub piece_length : length t ≡ length s
  piece_length = ap length first.written ∙ length_splice s at a first.within

  -- a piece, and then another
  pub piece_then : {u : List ℕ} {last : ℕ} {b : List ℕ} → Piece t end b u last → Piece s at (a ++ b) u last
  piece_then {u} {last} {b} second =
      let long = length-append a b in
      record {
        within = omega (arith, piece_length, second.within, first.ends);
        written = go;
        ends = omega (arith, first.ends, second.ends);
      }
    where
      go : u ≡ splice s at (a ++ b)
      go =
          second.written
          ∙ ap (λ (x : List ℕ). splice x end b) first.written
          ∙ ap (λ (k : ℕ). splice (splice s at a) k b) first.ends
          ∙ splice_next s at a b (omega (arith, first.within))

-- ---- put on a page

-- a text written over the bytes from the page's end on is what the page is then
pub puts_written : {before after : Page} (text : List ℕ) → before.end + length text ≤ length before.bytes.now
    → after.bytes.ghost_name ≡ before.bytes.ghost_name
    → after.bytes.now ≡ splice before.bytes.now before.end text
    → after.end ≡ before.end + length text
    → Puts before text after
puts_written {before} text h same written ends = record {
  same = same;
  long = ap length written ∙ length_splice before.bytes.now before.end text h;
  piece = record { within = h; written = written; ends = ends };
}

-- a text, and then another
pub puts_then : {p q r : Page} {a b : List ℕ} → Puts p a q → Puts q b r → Puts p (a ++ b) r
puts_then first second = record {
  same = second.same ∙ first.same;
  long = second.long ∙ first.long;
  piece = piece_then first.piece second.piece;
}

-- the same text, said otherwise
pub puts_is : {p q : Page} {a b : List ℕ} → a ≡ b → Puts p a q → Puts p b q
puts_is {p} {q} e puts = subst (λ (text : List ℕ). Puts p text q) e puts

-- ---- a number in decimal

-- std prints the same digits
pub decimal_printed : (n : ℕ) → n < 2 ^ 64 → std.decimal n ≡ decimal n
decimal_printed n h =
    sym
    (decimal_by_steps (λ (n : ℕ) (ds : List ℕ). decimal n ≡ ds) (λ n one. decimal_one n one)
    (λ n ds ten tenth. decimal_more n ten ∙ ap (λ (l : List ℕ). l ++ ((48 + n % 10) ∷ [])) tenth) n h)

-- there is one digit or more
pub decimal_some : (n : ℕ) → 1 ≤ length (decimal n)
decimal_some n = go (lt_or_ge n 10)
  where
    go : (n < 10) ⊎ (10 ≤ n) → 1 ≤ length (decimal n)
    go (inl one) = omega (arith, length_one n one)
    go (inr ten) = omega (arith, length_more n ten)

-- a first part no longer than what there is room for
pub first_fits : (end most len w : ℕ) (l : List ℕ) → w ≤ len → end + len ≤ most → end + length (take w l) ≤ most
first_fits end most len w l short room = omega (arith, length-take w l)
