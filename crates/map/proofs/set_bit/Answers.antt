-- `map::set_bit` meets its contract. The mask adds the bit's weight where the byte lacks it.
use Rattle.map.proofs.Laws.{set_masked}
use Rattle.map.proofs.set_bit.Goals as goal

pub returns : goal.returns
returns c = rw c.weight_of.ensures.0 (set_masked c.args.x c.args.i)
