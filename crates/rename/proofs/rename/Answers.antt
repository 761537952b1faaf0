-- `rename::rename` meets its contract. By what the path opens.
use Rattle.std.specs.Prelude.{Ok}
use mathlib.Core.Path.{ap, ◌∙◌}
use native.Mathlib.Omega.{arith}
use Rattle.directory.proofs.SlotLaws.{never}
use Rattle.opening.proofs.PassLaws.{passed}
use Rattle.rename.proofs.RenameLaws.{name_short, rename_volume, rename_entry, opened_way, rename_does_refused}
use Rattle.rename.proofs.rename.Goals as goal

pub returns-in_err-opened_if : goal.returns-in_err-opened_if
returns-in_err-opened_if c =
    rw (passed c.from_residual.ensures.1) (rename_does_refused _ _ _ _ _ _ (opened_way _ _ _ _ _ _ _ c.is_proper_name-fit.ensures c.opened_if.ensures c.in_err-opened_if.was))

pub rename_volume-requires : goal.rename_volume-requires
rename_volume-requires c =
    let e = opened_way _ _ _ _ _ _ _ c.is_proper_name-fit.ensures c.opened_if.ensures (c.in_ok-opened_if.was ∙ ap Ok c.in-Volume.is) in
    let f = (rename_volume _ _ _ _ _ _ _ e).0 in
    (omega (arith, f.least, f.whole), name_short _ _ _ _ _ _ _ e (λ w z. never (cc)))

pub returns-in-Volume : goal.returns-in-Volume
returns-in-Volume c =
    rw (rename_volume _ _ _ _ _ _ _ (opened_way _ _ _ _ _ _ _ c.is_proper_name-fit.ensures c.opened_if.ensures (c.in_ok-opened_if.was ∙ ap Ok c.in-Volume.is))).1 c.rename_volume.ensures

pub rename_entry-requires : goal.rename_entry-requires
rename_entry-requires c =
    let e = opened_way _ _ _ _ _ _ _ c.is_proper_name-fit.ensures c.opened_if.ensures (c.in_ok-opened_if.was ∙ ap Ok c.in-Entry.is) in
    (name_short _ _ _ _ _ _ _ e (λ w z. never (cc)), (rename_entry _ _ _ _ _ _ _ _ _ _ e).0)

pub returns-in-Entry : goal.returns-in-Entry
returns-in-Entry c =
    rw (rename_entry _ _ _ _ _ _ _ _ _ _ (opened_way _ _ _ _ _ _ _ c.is_proper_name-fit.ensures c.opened_if.ensures (c.in_ok-opened_if.was ∙ ap Ok c.in-Entry.is))).1 c.rename_entry.ensures
