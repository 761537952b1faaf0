-- What a command of a script leaves.
use Rattle.std.specs.Prelude.{ℕ, ◌≡◌, List, [], Bool, false, Result}
use Rattle.std.specs.Result.{is_ok}
use Rattle.model.specs.Bytes.{Bytes, view}
use Rattle.ink.specs.Ink.{Sheet, sheet, Prints}
use Rattle.ink.specs.declared.Ink.{Ink}
use Rattle.lines.specs.declared.BadLine.{BadLine}

-- Whether its line was good, what it prints, the image and the buffer.
pub record Left : Type 0 where
  pub good : Bool
  pub text : List ℕ
  pub image : Bytes
  pub buffer : Bytes

-- "A bad line [..]: nothing changes."
abbrev pub bad_left : Bytes → Bytes → Left
bad_left image buffer = record { good = false; text = []; image = image; buffer = buffer }

-- A command that had the page s left this: its answer, the ink, the image, the buffer and the page. Where its line is bad the text is empty, and
-- ink and page are those before.
pub record Leaves (o : Left) (s : Sheet) (r : Result (Unit {0}) BadLine) (k : Ink) (i b p : List ℕ) : Type 0 where
  pub good : is_ok r ≡ o.good
  pub image : view i ≡ o.image
  pub buffer : view b ≡ o.buffer
  pub page : Prints o.text s (sheet k p)

-- The same of the page alone: whether the line was good, and a text printed on the page s.
pub record Says (fine : Bool) (text : List ℕ) (s : Sheet) (r : Result (Unit {0}) BadLine) (k : Ink) (p : List ℕ) : Type 0 where
  pub good : is_ok r ≡ fine
  pub page : Prints text s (sheet k p)
