-- `names::is_letter` meets its contract: a capital or a small letter is what the definition reads as a capital.
use Rattle.std.proofs.Common.{arith}
use Rattle.std.proofs.lemmas.Grind.{common_steps}
use Rattle.model.specs.Bytes.{within, ◌and◌}
use Rattle.model.specs.Names.{capital, letter}
use Rattle.names.proofs.is_letter.Goals as goal

pub returns : goal.returns
unfolding letter capital within ◌and◌
returns c = grind (arith, common_steps)
