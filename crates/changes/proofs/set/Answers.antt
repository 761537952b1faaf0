-- `changes::set` meets its contract.
use mathlib.Core.Path.{refl}
use native.Mathlib.Omega.{arith}
use lib.ListN.{length}
use Rattle.model.specs.Bytes.{view}
use Rattle.lines.proofs.PartLaws.{from_start}
use Rattle.changes.proofs.ChangeLaws.{laid_bad, laid_done}
use Rattle.changes.proofs.set.Goals as goal

pub returns-then-img-address : goal.returns-then-img-address
returns-then-img-address c =
    let a = c.args in
    laid_bad (length a.img.now) (view a.buffer.now) a.values.now a.buffer.now a.img.now refl (omega arith)

pub returns : goal.returns
returns c =
    let a = c.args in
    let bs = a.buffer.now in
    laid_done (length a.img.now) (view bs) a.values.now bs (view a.img.now) (omega arith) (rw (from_start (view bs)) at c.copy_run.ensures) (record { good = refl; page = c.say_answer.ensures })
