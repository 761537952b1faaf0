-- `map::weight_of` meets its contract. A shift of the highest bit is a power of 2 that a byte holds.
use mathlib.Core.Path.{refl}
use Rattle.map.proofs.Laws.{shifted, weight_pos}
use Rattle.map.proofs.weight_of.Goals as goal

pub returns : goal.returns
returns c = let e = (shifted c.args.i c.requires).0 in rw e (refl, weight_pos c.args.i)
