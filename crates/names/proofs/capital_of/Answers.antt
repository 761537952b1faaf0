-- `names::capital_of` meets its contract: the library changes small letters as the definition does.
use Rattle.std.proofs.Common.{arith}
use Rattle.std.proofs.lemmas.Grind.{common_steps}
use Rattle.model.specs.Bytes.{within, ◌and◌}
use Rattle.model.specs.Names.{capital}
use Rattle.names.proofs.capital_of.Goals as goal

pub returns : goal.returns
unfolding capital within ◌and◌
returns c = grind (arith, common_steps)
