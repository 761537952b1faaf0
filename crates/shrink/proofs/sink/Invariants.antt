-- `shrink::sink` meets its contract. The keys left to give way, taken from the present image, give what all of them give.
use mathlib.Core.Path.{◌≡◌}
use Prim.Native.Nat.{◌-◌, ◌≤◌}
use lib.ListN.{length}
use Rattle.model.specs.Bytes.{view}
use Rattle.shrink.proofs.Laws.{Sinking}
use Rattle.shrink.proofs.sink.Given as goal

abbrev pub invariant-loop-below : goal.invariant-loop-below
invariant-loop-below l =
    (l.to ≤ l.below) × (length l.img ≡ length l.initial.img)
    × Sinking l.n (view l.initial.img) l.to l.key l.count (view l.img) l.heir (l.below - l.to)
