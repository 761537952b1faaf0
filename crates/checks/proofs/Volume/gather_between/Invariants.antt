-- `checks::Volume::gather_between` meets its contract. What was gathered and what is still to be gathered are the whole.
use mathlib.Core.Path.{◌≡◌}
use mathlib.Core.List.{◌++◌}
use Prim.Native.Nat.{◌+◌, ◌-◌}
use lib.ListN.{take}
use Rattle.model.specs.Bytes.{view, run}
use Rattle.model.specs.Directory.{active}
use Rattle.checks.specs.Inside.{actives}
use Rattle.checks.proofs.Volume.gather_between.Given as goal

abbrev pub invariant-loop-place : goal.invariant-loop-place
invariant-loop-place l = (l.count + active (view l.self.img.now) (run l.place (l.end - l.place)) ≡ l.at + active (view l.self.img.now) (run l.start (l.end - l.start))) × (take l.count l.list ++ actives (view l.self.img.now) (run l.place (l.end - l.place)) ≡ take l.at l.initial.list ++ actives (view l.self.img.now) (run l.start (l.end - l.start)))
