-- `listing::page_of_too_large` meets its contract. A page shows what the line leaves on it.
use Rattle.model.specs.Catalog.{too_large_line}
use Rattle.ink.proofs.InkLaws.{shows}
use Rattle.listing.proofs.page_of_too_large.Goals as goal

pub returns : goal.returns
unfolding too_large_line
returns c = shows _ _ _ _ _ (rw c.blank-ink.ensures at c.run.ensures)
