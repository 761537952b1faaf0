-- `map::block_after` meets its contract. A byte of 0 has no free block; else only b is passed, which is not free.
use Rattle.model.specs.Bytes.{view}
use Rattle.model.specs.Map.{map_at}
use Rattle.map.proofs.Laws.{pass_byte}
use Rattle.map.proofs.block_after.Goals as goal

pub returns-then-img-m-eq0-clause-by_index : goal.returns-then-img-m-eq0-clause-by_index
unfolding map_at
returns-then-img-m-eq0-clause-by_index c = let a = c.args in pass_byte a.m (view a.img.now) a.b c.if-img-m-eq0.true
