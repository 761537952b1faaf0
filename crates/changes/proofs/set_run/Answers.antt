-- `changes::set_run` meets its contract.
use mathlib.Core.Path.{refl}
use native.Mathlib.Omega.{arith}
use lib.ListN.{length}
use Rattle.model.specs.Bytes.{view, same}
use Rattle.changes.proofs.ChangeLaws.{laid_bad, laid_done}
use Rattle.changes.proofs.set_run.Goals as goal

pub returns-then-img-address : goal.returns-then-img-address
returns-then-img-address c =
    let a = c.args in
    λ bs. laid_bad (length a.img.now) (same (view a.values.now 2)) a.values.now bs a.img.now refl (omega arith)

pub returns : goal.returns
returns c =
    let a = c.args in
    λ bs. laid_done (length a.img.now) (same (view a.values.now 2)) a.values.now bs (view a.img.now) (omega arith) c.fill_run.ensures (record { good = refl; page = c.say_answer.ensures })
