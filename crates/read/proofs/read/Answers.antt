-- `read::read` meets its contract, by what the path leads to.
use Rattle.std.specs.Prelude.{Ok}
use mathlib.Core.Path.{sym, ◌∙◌, ap}
use lib.ListN.{length}
use Rattle.model.specs.Bytes.{view}
use Rattle.opening.proofs.PassLaws.{passed}
use Rattle.read.proofs.ReadLaws.{read_refused, read_volume, read_entry}
use Rattle.read.proofs.read.Goals as goal

pub read_file-requires : goal.read_file-requires
read_file-requires c =
    let b = c.args.buffer.now in
    let r = read_entry _ _ _ _ c.args.position (view b) (length b) _ _ _ _ (sym c.opened_by.ensures ∙ c.in_ok-opened_by.was ∙ ap Ok c.in-Entry.is) in
    (r.0.most, r.0.whole, r.2)

pub returns-in_err-opened_by : goal.returns-in_err-opened_by
returns-in_err-opened_by c = rw (passed c.from_residual.ensures.1) (read_refused _ _ _ _ _ _ _ (sym c.opened_by.ensures ∙ c.in_err-opened_by.was))

pub returns-in-Volume : goal.returns-in-Volume
returns-in-Volume c = read_volume _ _ _ _ _ _ _ (sym c.opened_by.ensures ∙ c.in_ok-opened_by.was ∙ ap Ok c.in-Volume.is)

pub returns-in-Entry : goal.returns-in-Entry
returns-in-Entry c =
    rw (read_entry _ _ _ _ _ _ _ _ _ _ _ (sym c.opened_by.ensures ∙ c.in_ok-opened_by.was ∙ ap Ok c.in-Entry.is)).1 c.read_file.ensures
