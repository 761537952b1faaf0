-- `directory::follow` meets its contract: the loop's invariant: the names from the cursor on, from `home` on, decide.
use Prim.Native.Nat.{◌-◌}
use lib.ListN.{length}
use Rattle.model.specs.Bytes.{view}
use Rattle.model.specs.Directory.{volume, along}
use Rattle.names.specs.Steps.{parts_left}
use Rattle.directory.proofs.LookupLaws.{Walking}
use Rattle.directory.proofs.follow.Given as goal

abbrev pub invariant-loop-start : goal.invariant-loop-start
invariant-loop-start l =
    Walking (view l.img) l.path (along (view l.img) (view l.path) volume (parts_left (view l.path) (length l.path) l.initial.cursor.at)) l.home l.cursor.at

abbrev pub decreases-loop-start : goal.decreases-loop-start
decreases-loop-start l = length l.path - l.cursor.at
