-- `changes::destroy` meets its contract.
use native.Mathlib.Omega.{arith}
use lib.ListN.{length}
use Rattle.model.specs.Bytes.{view}
use Rattle.model.specs.Answers.{Does}
use Rattle.model.specs.Destroy.{destroy}
use Rattle.lines.proofs.PartLaws.{part_as}
use Rattle.changes.proofs.destroy.Goals as goal

pub returns : goal.returns
returns c =
    let a = c.args in
    let n = length a.img.now in
    let k = view a.values.now 0 in
    part_as (λ b j. Does (destroy n (view a.img.now) b j) n c.destroy.result c.destroy.new.img) a.room.now 0 k k (omega arith) (omega arith) c.destroy.ensures
