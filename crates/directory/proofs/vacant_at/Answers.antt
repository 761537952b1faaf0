-- `directory::vacant_at` meets its contract: an inactive slot is vacant.
use mathlib.Core.Path.{sym, ◌∙◌}
use Rattle.model.specs.Bytes.{view}
use Rattle.model.specs.Directory.{at, sort}
use Rattle.directory.specs.Slots.{place_number, entry_of}
use Rattle.directory.proofs.SlotLaws.{says_inactive, says_some}
use Rattle.directory.proofs.SearchLaws.{vacancy_here, vacancy_past}
use Rattle.directory.proofs.vacant_at.Goals as goal

pub returns-in-Inactive : goal.returns-in-Inactive
returns-in-Inactive c =
    let a = c.args in
    let v = view a.img.now in
    let s = place_number a.place in
    vacancy_here v a.place c.requires.0 (says_inactive (sort v s) (entry_of v (at s)) (sym c.entry_at.ensures ∙ c.in-Inactive.is))

pub returns-in-Improper : goal.returns-in-Improper
returns-in-Improper c =
    let a = c.args in
    let v = view a.img.now in
    vacancy_past v a.place (says_some (sort v (place_number a.place)) _ _ c.requires.2.proper c.entry_at.ensures c.in-Improper.is)
