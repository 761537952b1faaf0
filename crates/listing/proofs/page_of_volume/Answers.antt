-- `listing::page_of_volume` meets its contract. A page shows what the whole listing leaves on it.
use Rattle.ink.proofs.InkLaws.{shows}
use Rattle.listing.proofs.page_of_volume.Goals as goal

pub returns : goal.returns
returns c = shows _ _ _ _ _ (rw c.blank.ensures at c.volume.ensures)
