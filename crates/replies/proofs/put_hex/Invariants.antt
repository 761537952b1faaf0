-- `replies::put_hex` meets its contract. The invariant says what is left to be printed.
use Prim.Native.Nat.{◌-◌}
use mathlib.Core.Path.{◌≡◌}
use lib.ListN.{length}
use Rattle.model.specs.Bytes.{view}
use Rattle.ink.specs.Ink.{sheet, emit}
use Rattle.replies.specs.Lines.{hex_text}
use Rattle.replies.proofs.put_hex.Given as goal

abbrev pub invariant-loop-byte : goal.invariant-loop-byte
invariant-loop-byte l =
    (length l.page ≡ length l.initial.page)
    × (emit (hex_text (view l.run) l.byte-index (length l.run - l.byte-index)) (sheet l.ink l.page) ≡ emit (hex_text (view l.run) 0 (length l.run)) (sheet l.initial.ink l.initial.page))
