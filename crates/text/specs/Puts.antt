-- Text put on a page, and the room for it.
use Rattle.std.specs.Prelude.{ℕ, ◌+◌, ◌≤◌, ◌≡◌, List, length}
use Rattle.text.specs.declared.Page.{Page}
use Rattle.text.specs.Piece.{Piece}

-- the same lent bytes, as many as before, with the text written where the page's text went on
pub record Puts (before : Page) (text : List ℕ) (after : Page) : Type 0 where
  pub same : after.bytes.ghost_name ≡ before.bytes.ghost_name
  pub long : length after.bytes.now ≡ length before.bytes.now
  pub piece : Piece before.bytes.now before.end text after.bytes.now after.end

-- room for so many bytes more
abbrev pub HasRoom : Page → ℕ → Type 0
HasRoom page more = page.end + more ≤ length page.bytes.now
