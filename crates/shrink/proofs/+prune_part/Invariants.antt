-- `shrink::prune_part` meets its contract. The pointers below i are trimmed, and the tree fits. The measure is the height.
use mathlib.Core.Path.{◌≡◌}
use lib.ListN.{length}
use Rattle.model.specs.Bytes.{view}
use Rattle.shrink.proofs.Laws.{Trimming}
use Rattle.shrink.proofs.+prune_part.Given as goal

abbrev pub decreases-prune_part : goal.decreases-prune_part
decreases-prune_part l = l.height

abbrev pub invariant-loop-i : goal.invariant-loop-i
invariant-loop-i l = (length l.img ≡ length l.initial.img) × Trimming l.n l.end l.below l.number l.block (view l.initial.img) l.i (view l.img)
