-- `changes::set_info` meets its contract.
use native.Mathlib.Omega.{arith}
use lib.ListN.{length}
use Rattle.model.specs.Bytes.{view}
use Rattle.model.specs.Answers.{Does}
use Rattle.model.specs.Info.{set_info}
use Rattle.changes.proofs.ChangeLaws.{stamped_as}
use Rattle.changes.proofs.set_info.Goals as goal

pub returns : goal.returns
returns c =
    let a = c.args in
    let n = length a.img.now in
    let v = view a.img.now in
    let vs = a.values.now in
    stamped_as (λ b k s. Does (set_info n v b k (view vs 1) (view vs 2) s) n c.set_info.result c.set_info.new.img) vs a.room.now 3 (omega arith) c.stamp_of-stamp.ensures c.set_info.ensures
