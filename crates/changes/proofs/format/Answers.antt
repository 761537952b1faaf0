-- `changes::format` meets its contract.
use native.Mathlib.Omega.{arith}
use lib.ListN.{length}
use Rattle.model.specs.Bytes.{view}
use Rattle.model.specs.Answers.{Does}
use Rattle.model.specs.Format.{format}
use Rattle.changes.proofs.ChangeLaws.{stamped_as}
use Rattle.changes.proofs.format.Goals as goal

pub returns : goal.returns
returns c =
    let a = c.args in
    let n = length a.img.now in
    let v = view a.img.now in
    let vs = a.values.now in
    stamped_as (λ b k s. Does (format n v b k s) n c.format.result c.format.new.img) vs a.room.now 1 (omega arith) c.stamp_of.ensures c.format.ensures
