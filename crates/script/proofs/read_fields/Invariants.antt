-- `script::read_fields` meets its contract: reading the fields left, from what was found, is reading them all.
use mathlib.Core.Path.{◌≡◌}
use Prim.Native.Nat.{◌-◌}
use lib.ListN.{length}
use Rattle.model.specs.Bytes.{view}
use Rattle.script.specs.Fields.{read_fields}
use Rattle.script.proofs.FormLaws.{fields}
use Rattle.script.proofs.read_fields.Given as goal

abbrev pub invariant-loop-i : goal.invariant-loop-i
invariant-loop-i l =
    (length l.values ≡ length l.initial.values) × (length l.room ≡ length l.initial.room) × (length l.buffer ≡ length l.initial.buffer)
    × (read_fields (view l.line) (length l.line) (length l.initial.buffer) (view l.forms) l.i (length l.forms - l.i) (fields l.now (view l.values) (view l.room) (view l.buffer))
    ≡ read_fields (view l.line) (length l.line) (length l.initial.buffer) (view l.forms) 0 (length l.forms) (fields l.at (view l.initial.values) (view l.initial.room) (view l.initial.buffer)))
