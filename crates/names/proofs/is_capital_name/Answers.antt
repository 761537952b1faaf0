-- `names::is_capital_name` meets its contract: the two tests of the definition, on the size that the slot's first byte has.
use Rattle.std.proofs.Common.{arith}
use Rattle.std.proofs.lemmas.Grind.{common_steps}
use Rattle.model.specs.Bytes.{◌and◌}
use Rattle.model.specs.Names.{capital_name}
use Rattle.names.proofs.is_capital_name.Goals as goal

pub returns-then-is_proper_between : goal.returns-then-is_proper_between
unfolding capital_name ◌and◌
returns-then-is_proper_between c = grind (arith, common_steps)

pub returns-else-is_proper_between : goal.returns-else-is_proper_between
unfolding capital_name ◌and◌
returns-else-is_proper_between c = grind (arith, common_steps)
