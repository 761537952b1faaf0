-- `checks::Volume::active_in_blocks` meets its contract. The count and what is still to be counted are the whole.
use mathlib.Core.Path.{◌≡◌}
use Prim.Native.Nat.{◌+◌, ◌-◌, ◌*◌, ◌≤◌}
use Rattle.model.specs.Bytes.{view}
use Rattle.model.specs.Directory.{active, chain, slots}
use Rattle.checks.proofs.Laws.{Coming}
use Rattle.checks.proofs.Volume.active_in_blocks.Given as goal

abbrev pub invariant-loop-done : goal.invariant-loop-done
invariant-loop-done l = Coming (view l.self.img.now) l.self.n l.block (l.blocks - l._done) × (l.count + active (view l.self.img.now) (slots (chain (view l.self.img.now) l.block (l.blocks - l._done))) ≡ active (view l.self.img.now) (slots (chain (view l.self.img.now) l.first l.blocks))) × (l.count ≤ l._done * 13)
