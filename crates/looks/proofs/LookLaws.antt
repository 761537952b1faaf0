-- What a look leaves, from what it said; and a look by its name. Assumes nothing.
use Prim.Native.Nat.{ℕ, ◌+◌, ◌*◌, ◌≤◌, ◌<◌}
use mathlib.Core.Path.{◌≡◌, ap}
use mathlib.Core.List.{List}
use borrow.Author.Tests.{le-leb, lt-leb}
use Rattle.model.specs.Bytes.{Bytes}
use Rattle.ink.specs.Ink.{Sheet, sheet, Prints}
use Rattle.ink.specs.declared.Ink.{Ink}
use Rattle.ink.proofs.InkLaws.{prints_none}
use Rattle.script.specs.Fields.{Fields}
use Rattle.replies.specs.Lines.{bytes_line}
use Rattle.lines.specs.declared.Look.{Look}
use Rattle.std.specs.Prelude.{Result}
use Rattle.std.specs.Result.{is_ok}
use mathlib.Core.Bool.{true, false}
use Rattle.lines.specs.declared.BadLine.{BadLine}
use Rattle.lines.specs.Commands.{cut}
use Rattle.lines.specs.Left.{Leaves, Says}
use Rattle.lines.proofs.LeftLaws.{leaves_as}
use Rattle.looks.specs.Looks.{has_block, block_line, looked}

-- `block`: the image has it not, and has it
module _ (n : ℕ) (v : Bytes) (b : ℕ) {r : Result (Unit {0}) BadLine} {k : Ink} {p : List ℕ} where
  pub block_none : n < b * 512 + 512 → is_ok r ≡ false → Says (has_block n b) (block_line n v b) (sheet k p) r k p
  unfolding block_line
  block_none h e = rw (lt-leb (b * 512 + 512) n h, block_line) (record { good = e; page = prints_none })

  pub block_said : {s : Sheet} → b * 512 + 512 ≤ n → is_ok r ≡ true
      → Prints (bytes_line (cut v (b * 512) 512) 512) s (sheet k p) → Says (has_block n b) (block_line n v b) s r k p
  unfolding block_line
  block_said h e w = rw (le-leb (b * 512 + 512) n h, block_line) (record { good = e; page = w })

-- A look by its name.
pub looked_by : (n : ℕ) (v : Bytes) (m : ℕ) (f : Fields) {k j : Look} {s : Sheet} {said : Result (Unit {0}) BadLine} {ink : Ink} {i b p : List ℕ} → k ≡ j → Leaves (looked j n v m f) s said ink i b p
    → Leaves (looked k n v m f) s said ink i b p
looked_by n v m f e h = leaves_as (ap (λ (k : Look). looked k n v m f) e) h
