-- `sound::Volume::map_fits` meets its contract.
use Rattle.model.specs.Bytes.{◌and◌}
use Rattle.sound.proofs.Volume.map_fits.Goals as goal

pub returns-then-map_right : goal.returns-then-map_right
unfolding ◌and◌
returns-then-map_right c = rw (← c.map_right.ensures, c.if-map_right.true) c.rest_clear.ensures

pub returns-else-map_right : goal.returns-else-map_right
unfolding ◌and◌
returns-else-map_right c = rw (← c.map_right.ensures, c.if-map_right.false)
