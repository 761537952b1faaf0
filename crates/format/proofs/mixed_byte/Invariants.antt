-- `format::mixed_byte` meets its contract. The first i bits are counted after i turns.
use mathlib.Core.Path.{◌≡◌}
use Prim.Native.Nat.{◌*◌, ◌≤◌}
use Rattle.model.specs.Map.{fresh_bits}
use Rattle.format.proofs.mixed_byte.Given as goal

abbrev pub invariant-loop-i : goal.invariant-loop-i
invariant-loop-i l = (l.byte ≡ fresh_bits l.free l.n l.block l.i) × (l.byte ≤ 128 * l.i)
