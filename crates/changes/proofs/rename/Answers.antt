-- `changes::rename` meets its contract.
use Prim.Native.Nat.{◌+◌, ◌-◌}
use mathlib.Core.Path.{refl}
use native.Mathlib.Omega.{arith}
use lib.ListN.{length, take, drop}
use Rattle.model.specs.Bytes.{view}
use Rattle.model.specs.Answers.{Does}
use Rattle.model.specs.Rename.{rename}
use Rattle.lines.specs.Commands.{cut}
use Rattle.lines.proofs.PartLaws.{part_as}
use Rattle.changes.proofs.rename.Goals as goal

pub returns : goal.returns
returns c =
    let a = c.args in
    let n = length a.img.now in
    let v = view a.img.now in
    let ts = a.room.now in
    let k = view a.values.now 0 in
    let j = view a.values.now 1 in
    let name = take (128 + j - 128) (drop 128 ts) in
    part_as (λ b i. Does (rename n v (cut (view ts) 0 k) k b i) n c.rename.result c.rename.new.img) ts 128 (128 + j) j refl (omega arith)
    (part_as (λ b i. Does (rename n v b i (view name) (length name)) n c.rename.result c.rename.new.img) ts 0 k k (omega arith) (omega arith) c.rename.ensures)
