-- `names::same_name` meets its contract: the sizes, then the bytes.
use Rattle.std.proofs.Common.{arith}
use Rattle.std.proofs.lemmas.Grind.{common_steps}
use Rattle.model.specs.Bytes.{◌and◌}
use Rattle.model.specs.Names.{same_name}
use Rattle.names.proofs.same_name.Goals as goal

pub returns-then-from-n : goal.returns-then-from-n
unfolding same_name ◌and◌
returns-then-from-n c = grind (arith, common_steps)

pub returns-else-from-n : goal.returns-else-from-n
unfolding same_name ◌and◌
returns-else-from-n c = grind (arith, common_steps)
