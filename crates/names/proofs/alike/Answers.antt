-- `names::alike` meets its contract: the sizes, then the bytes.
use Rattle.std.proofs.Common.{arith}
use Rattle.std.proofs.lemmas.Grind.{common_steps}
use Rattle.model.specs.Bytes.{◌and◌}
use Rattle.names.specs.Steps.{alike_names}
use Rattle.names.proofs.alike.Goals as goal

pub returns-then-n-b : goal.returns-then-n-b
unfolding alike_names ◌and◌
returns-then-n-b c = grind (arith, common_steps)

pub returns-else-n-b : goal.returns-else-n-b
unfolding alike_names ◌and◌
returns-else-n-b c = grind (arith, common_steps)
