-- `info::get_info` meets its contract, by what the path leads to.
use Rattle.std.specs.Prelude.{Ok}
use mathlib.Core.Path.{sym, ◌∙◌, ap}
use Rattle.opening.proofs.PassLaws.{passed}
use Rattle.info.proofs.TellLaws.{info_refused, info_volume, info_entry}
use Rattle.info.proofs.get_info.Goals as goal

pub volume_info-requires : goal.volume_info-requires
volume_info-requires c =
    let f = (info_volume _ _ _ _ _ (sym c.opened_by.ensures ∙ c.in_ok-n.was ∙ ap Ok c.in-Volume.is)).0 in
    (f.least, f.most, f.whole, f.placed)

pub returns-in_err-n : goal.returns-in_err-n
returns-in_err-n c = rw (passed c.from_residual.ensures.1) (info_refused _ _ _ _ _ (sym c.opened_by.ensures ∙ c.in_err-n.was))

pub returns-in-Volume : goal.returns-in-Volume
returns-in-Volume c = rw c.volume_info.ensures (info_volume _ _ _ _ _ (sym c.opened_by.ensures ∙ c.in_ok-n.was ∙ ap Ok c.in-Volume.is)).1

pub returns-in-Entry : goal.returns-in-Entry
returns-in-Entry c = rw c.entry_info.ensures (info_entry _ _ _ _ _ _ _ _ (sym c.opened_by.ensures ∙ c.in_ok-n.was ∙ ap Ok c.in-Entry.is))
