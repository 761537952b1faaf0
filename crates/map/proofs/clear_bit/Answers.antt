-- `map::clear_bit` meets its contract. The mask takes the bit's weight where the byte has it.
use native.Mathlib.Omega.{arith}
use Rattle.map.proofs.Laws.{clear_masked}
use Rattle.map.proofs.clear_bit.Goals as goal

pub returns : goal.returns
returns c = rw c.weight_of.ensures.0 (clear_masked c.args.x c.args.i (omega arith) c.requires)
