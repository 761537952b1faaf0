-- `checks::Volume::unlike_from` meets its contract. What is still to be compared decides.
use mathlib.Core.Path.{◌≡◌}
use lib.Dec.{eqb}
use Rattle.model.specs.Bytes.{view}
use Rattle.model.specs.Sound.{twins}
use Rattle.checks.specs.Inside.{ahead}
use Rattle.checks.proofs.Volume.unlike_from.Given as goal

abbrev pub invariant-loop-place : goal.invariant-loop-place
invariant-loop-place l = eqb (twins (view l.self.img.now) (ahead (view l.self.img.now) l.place l.block l.after)) 0 ≡ eqb (twins (view l.self.img.now) (ahead (view l.self.img.now) l.start l.block l.after)) 0
