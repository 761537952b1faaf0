-- `growth::top` meets its contract: the lowest free block has its bit in the map and its bytes on the volume.
use Prim.Native.Nat.{◌<◌}
use Rattle.model.specs.Bytes.{view}
use Rattle.growth.proofs.Laws.{bit_fits, first_lowest}
use native.Mathlib.Omega.{arith}
use Rattle.growth.proofs.top.Goals as goal

pub take-requires : goal.take-requires
take-requires c =
    let z : c.first_free-block.result < c.args.n = omega (arith, first_lowest (view c.args.img.now) c.args.n) in
    (omega (arith, bit_fits c.args.n c.first_free-block.result c.requires.0 z), omega arith)
