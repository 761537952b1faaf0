-- `twins::hash` meets its contract. The first k digits are mixed after k turns.
use mathlib.Core.Path.{◌≡◌}
use Prim.Native.Nat.{◌<◌}
use Rattle.model.specs.Bytes.{view, from}
use Rattle.twins.specs.Twins.{mixed}
use Rattle.twins.proofs.hash.Given as goal

abbrev pub invariant-loop-k : goal.invariant-loop-k
invariant-loop-k l = (l.mixed < 4294967296) × (l.mixed ≡ mixed (from (view l.img) l.a) l.k)
