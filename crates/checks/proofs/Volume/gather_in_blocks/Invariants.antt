-- `checks::Volume::gather_in_blocks` meets its contract. What was gathered and what is still to be gathered are the whole.
use mathlib.Core.List.{◌++◌}
use mathlib.Core.Path.{◌≡◌}
use Prim.Native.Nat.{◌+◌, ◌-◌}
use lib.ListN.{take}
use Rattle.model.specs.Bytes.{view}
use Rattle.model.specs.Directory.{active, chain, slots}
use Rattle.checks.specs.Inside.{actives}
use Rattle.checks.proofs.Laws.{Coming}
use Rattle.checks.proofs.Volume.gather_in_blocks.Given as goal

abbrev pub invariant-loop-done : goal.invariant-loop-done
invariant-loop-done l = Coming (view l.self.img.now) l.self.n l.block (l.blocks - l._done) × (l.count + active (view l.self.img.now) (slots (chain (view l.self.img.now) l.block (l.blocks - l._done))) ≡ l.at + active (view l.self.img.now) (slots (chain (view l.self.img.now) l.first l.blocks))) × (take l.count l.list ++ actives (view l.self.img.now) (slots (chain (view l.self.img.now) l.block (l.blocks - l._done))) ≡ take l.at l.initial.list ++ actives (view l.self.img.now) (slots (chain (view l.self.img.now) l.first l.blocks)))
