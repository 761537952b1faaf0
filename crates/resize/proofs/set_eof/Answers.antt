-- `resize::set_eof` meets its contract, by what the path leads to.
use Rattle.std.specs.Prelude.{Ok}
use mathlib.Core.Path.{sym, ◌∙◌, ap}
use native.Mathlib.Omega.{arith}
use lib.ListN.{length}
use Rattle.model.specs.Bytes.{view}
use Rattle.opening.proofs.PassLaws.{passed}
use Rattle.resize.proofs.EndLaws.{set_eof_refused, set_eof_volume, set_eof_entry}
use Rattle.resize.proofs.set_eof.Goals as goal

pub set_entry-requires : goal.set_entry-requires
set_entry-requires c =
    let a = c.args in
    let r = set_eof_entry _ _ _ _ a.eof a.stamp _ _ _ _ (λ x. omega (arith, c.slice_known-1.given x)) (sym c.opened_by.ensures ∙ c.in_ok-opened_by.was ∙ ap Ok c.in-Entry.is) in
    (r.0.whole, r.2)

pub returns-in_err-opened_by : goal.returns-in_err-opened_by
returns-in_err-opened_by c = rw (passed c.from_residual.ensures.1) (set_eof_refused _ _ _ _ _ _ (sym c.opened_by.ensures ∙ c.in_err-opened_by.was))

pub returns-in-Volume : goal.returns-in-Volume
returns-in-Volume c = set_eof_volume _ _ _ _ _ _ (sym c.opened_by.ensures ∙ c.in_ok-opened_by.was ∙ ap Ok c.in-Volume.is)

pub returns-in-Entry : goal.returns-in-Entry
returns-in-Entry c =
    let a = c.args in
    let l = a.img.now in
    let r = set_eof_entry (length l) (view l) _ _ a.eof a.stamp _ _ _ _ (λ x. omega (arith, c.slice_known-1.given x)) (sym c.opened_by.ensures ∙ c.in_ok-opened_by.was ∙ ap Ok c.in-Entry.is) in
    rw r.1 c.set_entry.ensures
