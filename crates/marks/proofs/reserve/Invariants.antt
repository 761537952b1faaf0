-- `marks::reserve` meets its contract. The loop's invariant: the boot blocks and the map's before b are marked.
use mathlib.Core.Path.{◌≡◌}
use lib.ListN.{length}
use Rattle.model.specs.Bytes.{view, Octets}
use Rattle.marks.specs.Marks.{marks}
use Rattle.marks.proofs.Laws.{reserved_to}
use Rattle.marks.proofs.reserve.Given as goal

abbrev pub invariant-loop-b : goal.invariant-loop-b
invariant-loop-b l = (length l.seen ≡ 8192) × (marks l.seen ≡ reserved_to l.b) × Octets (view l.seen)
