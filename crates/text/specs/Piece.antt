-- A piece of text written into a buffer.
use Rattle.std.specs.Prelude.{ℕ, ◌+◌, ◌≤◌, ◌≡◌, List, length}
use Rattle.machine.specs.Bytes.{splice}

-- the piece lies within the buffer from `at` on, every other byte is kept, and the text goes on at `end`
pub record Piece (before : List ℕ) (at : ℕ) (piece after : List ℕ) (end : ℕ) : Type 0 where
  pub within : at + length piece ≤ length before
  pub written : after ≡ splice before at piece
  pub ends : end ≡ at + length piece
