-- `rename::is_other` meets its contract. Places are compared by block and slot.
use Rattle.std.proofs.Common.{arith}
use Rattle.std.proofs.lemmas.Grind.{common_steps}
use Rattle.model.specs.Bytes.{◌or◌}
use Rattle.rename.specs.Renamed.{is_other_place}
use Rattle.rename.proofs.is_other.Goals as goal

pub returns-in-Some : goal.returns-in-Some
unfolding is_other_place ◌or◌
returns-in-Some c = grind (arith, common_steps)

pub returns-in-None : goal.returns-in-None
unfolding is_other_place
returns-in-None c = grind (arith, common_steps)
