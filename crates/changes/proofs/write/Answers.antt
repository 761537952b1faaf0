-- `changes::write` meets its contract.
use Prim.Native.Nat.{◌-◌}
use native.Mathlib.Omega.{arith}
use lib.ListN.{length, take, drop}
use Rattle.model.specs.Bytes.{view}
use Rattle.model.specs.Answers.{Writes}
use Rattle.model.specs.Write.{write}
use Rattle.lines.specs.Commands.{cut, held}
use Rattle.changes.specs.Changes.{stamp_of}
use Rattle.lines.proofs.PartLaws.{part_as}
use Rattle.changes.proofs.ChangeLaws.{stamped_as}
use Rattle.changes.proofs.write.Goals as goal

pub returns : goal.returns
returns c =
    let a = c.args in
    let n = length a.img.now in
    let v = view a.img.now in
    let vs = a.values.now in
    let ts = a.room.now in
    let bs = a.buffer.now in
    let k = view vs 4 in
    let bytes = take (k - 0) (drop 0 bs) in
    part_as (λ b i. Writes (write n v (cut (view ts) 0 (view vs 0)) (view vs 0) (view vs 1) b i (stamp_of (held vs ts bs) 2)) n c.write.result c.write.new.img) bs 0 k k (omega arith) (omega arith)
    (stamped_as (λ b i s. Writes (write n v b i (view vs 1) (view bytes) (length bytes) s) n c.write.result c.write.new.img) vs ts 2 (omega arith) c.stamp_of-stamp.ensures c.write.ensures)
