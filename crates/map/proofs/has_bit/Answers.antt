-- `map::has_bit` meets its contract. The mask leaves the bit's weight or nothing.
use Rattle.map.proofs.Laws.{has_masked}
use Rattle.map.proofs.has_bit.Goals as goal

pub returns : goal.returns
returns c = rw c.weight_of.ensures.0 (has_masked c.args.x c.args.i)
