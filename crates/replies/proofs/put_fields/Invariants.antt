-- `replies::put_fields` meets its contract. The invariant says what is left to be printed.
use Prim.Native.Nat.{◌-◌}
use mathlib.Core.Path.{◌≡◌}
use lib.ListN.{length}
use Rattle.model.specs.Bytes.{view}
use Rattle.ink.specs.Ink.{sheet, emit}
use Rattle.replies.specs.Lines.{fields_text}
use Rattle.replies.proofs.put_fields.Given as goal

abbrev pub invariant-loop-form : goal.invariant-loop-form
invariant-loop-form l =
    (length l.page ≡ length l.initial.page)
    × (emit (fields_text (view l.forms) (view l.values) (length l.yielded) (length l.forms - length l.yielded)) (sheet l.ink l.page) ≡ emit (fields_text (view l.forms) (view l.values) 0 (length l.forms)) (sheet l.initial.ink l.initial.page))
