-- `pour::reach` meets its contract: the lowest free block, found from the hint on, has its bit in the map.
use Prim.Native.Nat.{◌<◌}
use mathlib.Core.Path.{◌≡◌}
use Rattle.model.specs.Bytes.{view}
use Rattle.model.specs.File.{pointer}
use Rattle.growth.proofs.Laws.{bit_fits}
use Rattle.pour.proofs.Laws.{low_is}
use native.Mathlib.Omega.{arith}
use Rattle.pour.proofs.reach.Goals as goal

pub take-requires : goal.take-requires
take-requires c =
    let a = c.args in
    let v = view a.img.now in
    let hole : pointer v a.key a.i ≡ 0 = omega arith in
    let z : c.first_free-block.result < a.n = omega (arith, low_is a.n v a.hint c.requires.le_n.5, c.requires.n_bound hole) in
    (omega (arith, bit_fits a.n c.first_free-block.result c.requires.le_n.0 z), omega arith)
