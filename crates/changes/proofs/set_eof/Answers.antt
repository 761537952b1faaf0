-- `changes::set_eof` meets its contract.
use native.Mathlib.Omega.{arith}
use lib.ListN.{length}
use Rattle.model.specs.Bytes.{view}
use Rattle.model.specs.Answers.{Does}
use Rattle.model.specs.SetEof.{set_eof}
use Rattle.changes.proofs.ChangeLaws.{stamped_as}
use Rattle.changes.proofs.set_eof.Goals as goal

pub returns : goal.returns
returns c =
    let a = c.args in
    let n = length a.img.now in
    let v = view a.img.now in
    let vs = a.values.now in
    stamped_as (λ b k s. Does (set_eof n v b k (view vs 1) s) n c.set_eof.result c.set_eof.new.img) vs a.room.now 2 (omega arith) c.stamp_of-stamp.ensures c.set_eof.ensures
