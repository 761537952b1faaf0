-- `map::first_free` meets its contract. The loop's invariant: no block from the hint on is free before this one. The measure is the blocks left.
use Rattle.map.proofs.Laws.{Passed}
use Prim.Native.Nat.{◌-◌, ◌≤◌}
use Rattle.model.specs.Bytes.{view}
use Rattle.map.proofs.first_free.Given as goal

abbrev pub invariant-loop-block : goal.invariant-loop-block
invariant-loop-block l = (l.hint ≤ l.block) × Passed l.m (view l.img) l.hint l.block

abbrev pub decreases-loop-block : goal.decreases-loop-block
decreases-loop-block l = l.n - l.block
