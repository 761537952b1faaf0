-- `format::put_map` meets its contract. The first j bytes of the map are there after j turns.
use Rattle.model.specs.Bytes.{view}
use Rattle.model.specs.Map.{fresh_map}
use Rattle.model.proofs.ByteLaws.{Agree}
use Rattle.format.proofs.put_map.Given as goal

abbrev pub invariant-loop-j : goal.invariant-loop-j
invariant-loop-j l = Agree l.j (view l.map) (fresh_map l.free l.n)
