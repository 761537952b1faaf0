-- `names::is_proper_between` meets its contract: the size, the first byte and the other bytes, in the order of the definition.
use Rattle.std.proofs.Common.{arith}
use Rattle.std.proofs.lemmas.Grind.{common_steps}
use Rattle.model.specs.Bytes.{◌and◌, within}
use Rattle.model.specs.Names.{proper_name}
use Rattle.names.proofs.is_proper_between.Goals as goal

pub returns-then-is_letter : goal.returns-then-is_letter
unfolding proper_name ◌and◌ within
returns-then-is_letter c = grind (arith, common_steps)

pub returns-else-is_letter : goal.returns-else-is_letter
unfolding proper_name ◌and◌ within
returns-else-is_letter c = grind (arith, common_steps)
