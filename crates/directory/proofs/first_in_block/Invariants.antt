-- `directory::first_in_block` meets its contract: the slots from `slot` on decide.
use mathlib.Core.Path.{◌≡◌}
use Rattle.directory.specs.Search.{Tells, first_of, slots_from}
use Rattle.directory.proofs.first_in_block.Given as goal

abbrev pub invariant-loop-slot : goal.invariant-loop-slot
invariant-loop-slot g l = (f : _) → Tells (goal.F-post g l.look) f → first_of f (slots_from l.block l.first) ≡ first_of f (slots_from l.block l.slot)
