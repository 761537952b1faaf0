-- `names::is_proper_path` meets its contract: the loop's invariant: the parts that are left decide, and each step makes them fewer.
use mathlib.Core.Path.{◌≡◌}
use Prim.Native.Nat.{◌≤◌, ◌-◌}
use lib.ListN.{length}
use Rattle.model.specs.Bytes.{view}
use Rattle.model.specs.Names.{proper_parts, proper_path}
use Rattle.names.specs.Steps.{parts_left}
use Rattle.names.proofs.is_proper_path.Given as goal

abbrev pub invariant-loop-next : goal.invariant-loop-next
invariant-loop-next l =
    (l.cursor.at ≤ length l.path) × (proper_path (view l.path) (length l.path) ≡ proper_parts (view l.path) (parts_left (view l.path) (length l.path) l.cursor.at))

abbrev pub decreases-loop-next : goal.decreases-loop-next
decreases-loop-next l = length l.path - l.cursor.at
