-- `checks::Volume::unlike_in_blocks` meets its contract. What is still to be compared decides.
use mathlib.Core.Path.{◌≡◌}
use lib.Dec.{eqb}
use Rattle.model.specs.Bytes.{view}
use Rattle.model.specs.Directory.{chain, slots}
use Rattle.model.specs.Sound.{twins}
use Rattle.checks.proofs.Laws.{Coming}
use Rattle.checks.proofs.Volume.unlike_in_blocks.Given as goal

abbrev pub invariant-loop-after : goal.invariant-loop-after
invariant-loop-after l = Coming (view l.self.img.now) l.self.n l.block l.after × (eqb (twins (view l.self.img.now) (slots (chain (view l.self.img.now) l.block l.after))) 0 ≡ eqb (twins (view l.self.img.now) (slots (chain (view l.self.img.now) l.first l.blocks))) 0)
