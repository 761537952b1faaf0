-- `checks::Volume::alone_in_blocks` meets its contract. What is still to be compared decides.
use mathlib.Core.Path.{◌≡◌}
use Prim.Native.Nat.{◌-◌}
use lib.Dec.{eqb}
use Rattle.model.specs.Bytes.{view}
use Rattle.model.specs.Directory.{chain, slots}
use Rattle.model.specs.Sound.{twins_of}
use Rattle.checks.proofs.Laws.{Coming}
use Rattle.checks.proofs.Volume.alone_in_blocks.Given as goal

abbrev pub invariant-loop-done : goal.invariant-loop-done
invariant-loop-done l = Coming (view l.self.img.now) l.self.n l.block (l.blocks - l._done) × (eqb (twins_of (view l.self.img.now) l.place (slots (chain (view l.self.img.now) l.block (l.blocks - l._done)))) 0 ≡ eqb (twins_of (view l.self.img.now) l.place (slots (chain (view l.self.img.now) l.first l.blocks))) 0)
