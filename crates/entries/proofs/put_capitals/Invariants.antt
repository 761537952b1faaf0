-- `entries::put_capitals` meets its contract. The first i capitals are pasted after i turns.
use mathlib.Core.Path.{◌≡◌}
use Rattle.model.specs.Bytes.{view, paste}
use Rattle.model.specs.Names.{capitals}
use Rattle.entries.proofs.put_capitals.Given as goal

abbrev pub invariant-loop-i : goal.invariant-loop-i
invariant-loop-i l = view l.dst ≡ paste (view l.initial.dst) l.to l.i (capitals (view l.name))
