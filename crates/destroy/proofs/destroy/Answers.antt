-- `destroy::destroy` meets its contract. By what the path leads to.
use Rattle.std.specs.Prelude.{Ok}
use mathlib.Core.Path.{sym, ◌∙◌, ap}
use Rattle.opening.proofs.PassLaws.{passed}
use Rattle.destroy.proofs.Laws.{destroy_refused, destroy_volume, destroy_entry}
use Rattle.destroy.proofs.destroy.Goals as goal

pub destroy_entry-requires : goal.destroy_entry-requires
destroy_entry-requires c =
    let r = destroy_entry _ _ _ _ _ _ _ _ (sym c.opened_by.ensures ∙ c.in_ok-opened_by.was ∙ ap Ok c.in-Entry.is) in
    ((r.0.least, r.0.most, r.0.whole), r.2)

pub returns-in_err-opened_by : goal.returns-in_err-opened_by
returns-in_err-opened_by c = rw (passed c.from_residual.ensures.1) (destroy_refused _ _ _ _ (sym c.opened_by.ensures ∙ c.in_err-opened_by.was))

pub returns-in-Volume : goal.returns-in-Volume
returns-in-Volume c = destroy_volume _ _ _ _ (sym c.opened_by.ensures ∙ c.in_ok-opened_by.was ∙ ap Ok c.in-Volume.is)

pub returns-in-Entry : goal.returns-in-Entry
returns-in-Entry c =
    rw (destroy_entry _ _ _ _ _ _ _ _ (sym c.opened_by.ensures ∙ c.in_ok-opened_by.was ∙ ap Ok c.in-Entry.is)).1 c.destroy_entry.ensures
