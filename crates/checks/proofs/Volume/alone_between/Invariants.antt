-- `checks::Volume::alone_between` meets its contract. What is still to be compared decides.
use mathlib.Core.Path.{◌≡◌}
use Prim.Native.Nat.{◌-◌}
use lib.Dec.{eqb}
use Rattle.model.specs.Bytes.{view, run}
use Rattle.model.specs.Sound.{twins_of}
use Rattle.checks.proofs.Volume.alone_between.Given as goal

abbrev pub invariant-loop-other : goal.invariant-loop-other
invariant-loop-other l = eqb (twins_of (view l.self.img.now) l.place (run l.other (l.end - l.other))) 0 ≡ eqb (twins_of (view l.self.img.now) l.place (run l.start (l.end - l.start))) 0
