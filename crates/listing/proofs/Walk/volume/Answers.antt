-- `Walk::volume` meets its contract. The first line, then the slots of the volume directory.
use Rattle.ink.proofs.InkLaws.{prints_as, ◌then◌}
use Rattle.listing.proofs.WalkLaws.{volume_text}
use Rattle.listing.proofs.Walk.volume.Goals as goal

pub returns : goal.returns
returns c = prints_as (volume_text _ _ _ (rw c.requires.2 at c.push.ensures.longer)) (c.emit_first_line.ensures then c.directory.ensures.prints)
