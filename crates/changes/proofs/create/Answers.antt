-- `changes::create` meets its contract.
use native.Mathlib.Omega.{arith}
use lib.ListN.{length}
use Rattle.model.specs.Bytes.{view}
use Rattle.model.specs.Answers.{Does}
use Rattle.model.specs.Create.{create}
use Rattle.changes.proofs.ChangeLaws.{stamped_as}
use Rattle.changes.proofs.create.Goals as goal

pub returns : goal.returns
returns c =
    let a = c.args in
    let n = length a.img.now in
    let v = view a.img.now in
    let vs = a.values.now in
    stamped_as (λ b k s. Does (create n v b k (record { kind = view vs 1; ftype = view vs 2; aux = view vs 3; stamp = s })) n c.create.result c.create.new.img) vs a.room.now 4 (omega arith) c.stamp_of-stamp.ensures c.create.ensures
