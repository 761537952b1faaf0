-- `sound::Turn::entry_right` meets its contract.
use Rattle.model.specs.Bytes.{◌and◌}
use Rattle.sound.proofs.Turn.entry_right.Goals as goal

pub returns-then-name_right : goal.returns-then-name_right
unfolding ◌and◌
returns-then-name_right c = rw (← c.name_right.ensures, c.if-name_right.true, ← c.home_of.ensures)

pub returns-else-name_right : goal.returns-else-name_right
unfolding ◌and◌
returns-else-name_right c = rw (← c.name_right.ensures, c.if-name_right.false)
