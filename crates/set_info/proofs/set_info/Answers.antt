-- `set_info::set_info` meets its contract. By what the path opens.
use Rattle.std.specs.Prelude.{Ok}
use mathlib.Core.Path.{ap, ◌∙◌}
use Rattle.model.specs.Bytes.{view}
use Rattle.opening.proofs.PassLaws.{passed}
use Rattle.set_info.proofs.InfoLaws.{info_at, set_opened, set_does_refused, set_does_volume, set_does}
use Rattle.set_info.proofs.set_info.Goals as goal

pub returns-in_err-opened_if : goal.returns-in_err-opened_if
returns-in_err-opened_if c =
    rw (passed c.from_residual.ensures.1) (set_does_refused _ _ _ _ _ _ _ c.opened_if.ensures c.in_err-opened_if.was)

pub returns-in-Volume : goal.returns-in-Volume
returns-in-Volume c = set_does_volume _ _ _ _ _ _ _ c.opened_if.ensures (c.in_ok-opened_if.was ∙ ap Ok c.in-Volume.is)

pub slot_at-requires : goal.slot_at-requires
slot_at-requires c =
    let a = c.args in
    (set_opened _ _ _ _ a.aux a.modified _ _ _ _ c.opened_if.ensures (c.in_ok-opened_if.was ∙ ap Ok c.in-Entry.is)).counted

pub put_info-requires : goal.put_info-requires
put_info-requires c =
    let a = c.args in
    rw c.slot_at.ensures (set_opened _ _ _ _ a.aux a.modified _ _ _ _ c.opened_if.ensures (c.in_ok-opened_if.was ∙ ap Ok c.in-Entry.is)).fits

pub returns-in-Entry : goal.returns-in-Entry
returns-in-Entry c =
    let a = c.args in
    set_does _ _ _ _ _ _ _ _ _ _ _ c.opened_if.ensures (c.in_ok-opened_if.was ∙ ap Ok c.in-Entry.is) c.put_info.auto.img
    (c.put_info.ensures ∙ ap (λ s. info_at (view a.img.now) s a.access a.aux a.modified) c.slot_at.ensures)
