-- `write::write` meets its contract, by what the path leads to.
use Rattle.std.specs.Prelude.{Ok}
use mathlib.Core.Path.{sym, ◌∙◌, ap}
use lib.ListN.{length}
use Rattle.model.specs.Bytes.{view}
use Rattle.opening.proofs.PassLaws.{passed}
use Rattle.write.proofs.RowLaws.{write_refused, write_volume, write_entry}
use native.Mathlib.Omega.{arith}
use Rattle.write.proofs.write.Goals as goal

pub write_entry-requires : goal.write_entry-requires
write_entry-requires c =
    let a = c.args in
    let b = a.buffer.now in
    let r = write_entry _ _ _ _ a.position (view b) (length b) a.stamp _ _ _ _ (λ x. omega (arith, c.slice_known-1.given x)) (sym c.opened_by.ensures ∙ c.in_ok-opened_by.was ∙ ap Ok c.in-Entry.is) in
    (r.0.least, r.0.most, r.0.whole, r.2)

pub returns-in_err-opened_by : goal.returns-in_err-opened_by
returns-in_err-opened_by c = rw (passed c.from_residual.ensures.1) (write_refused _ _ _ _ _ _ _ _ (sym c.opened_by.ensures ∙ c.in_err-opened_by.was))

pub returns-in-Volume : goal.returns-in-Volume
returns-in-Volume c = write_volume _ _ _ _ _ _ _ _ (sym c.opened_by.ensures ∙ c.in_ok-opened_by.was ∙ ap Ok c.in-Volume.is)

pub returns-in-Entry : goal.returns-in-Entry
returns-in-Entry c =
    let a = c.args in
    let l = a.img.now in
    let b = a.buffer.now in
    let r = write_entry (length l) (view l) _ _ a.position (view b) (length b) a.stamp _ _ _ _ (λ x. omega (arith, c.slice_known-1.given x)) (sym c.opened_by.ensures ∙ c.in_ok-opened_by.was ∙ ap Ok c.in-Entry.is) in
    rw r.1 c.write_entry.ensures
