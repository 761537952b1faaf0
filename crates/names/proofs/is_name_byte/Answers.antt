-- `names::is_name_byte` meets its contract: a letter, a digit or a dot.
use Rattle.std.proofs.Common.{arith}
use Rattle.std.proofs.lemmas.Grind.{common_steps}
use Rattle.model.specs.Bytes.{◌and◌, ◌or◌, within}
use Rattle.model.specs.Names.{name_byte}
use Rattle.names.proofs.is_name_byte.Goals as goal

pub returns-then-is_ascii_digit : goal.returns-then-is_ascii_digit
unfolding name_byte ◌or◌ ◌and◌ within
returns-then-is_ascii_digit c = grind (arith, common_steps)

pub returns-else-is_ascii_digit : goal.returns-else-is_ascii_digit
unfolding name_byte ◌or◌ ◌and◌ within
returns-else-is_ascii_digit c = grind (arith, common_steps)
