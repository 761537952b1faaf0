-- `listing::page_of_refusal` meets its contract. A page shows what the line leaves on it.
use Rattle.model.specs.Catalog.{refused_line}
use Rattle.ink.proofs.InkLaws.{shows, ◌then◌}
use Rattle.listing.proofs.page_of_refusal.Goals as goal

pub returns : goal.returns
unfolding refused_line
returns c = shows _ _ _ _ _ (rw c.blank-ink.ensures at c.run.ensures then c.hex_byte.ensures then c.byte.ensures)
