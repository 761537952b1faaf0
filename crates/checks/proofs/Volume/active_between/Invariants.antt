-- `checks::Volume::active_between` meets its contract. The count and what is still to be counted are the whole.
use mathlib.Core.Path.{◌≡◌}
use Prim.Native.Nat.{◌+◌, ◌-◌, ◌≤◌}
use Rattle.model.specs.Bytes.{view, run}
use Rattle.model.specs.Directory.{active}
use Rattle.checks.proofs.Volume.active_between.Given as goal

abbrev pub invariant-loop-place : goal.invariant-loop-place
invariant-loop-place l = (l.count + active (view l.self.img.now) (run l.place (l.end - l.place)) ≡ active (view l.self.img.now) (run l.start (l.end - l.start))) × (l.count + l.start ≤ l.place)
