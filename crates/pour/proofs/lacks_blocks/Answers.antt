-- `pour::lacks_blocks` meets its contract: each number of the range that passes counts 1.
use Prim.Native.Nat.{◌-◌}
use mathlib.Core.Path.{refl}
use lib.Dec.{eqb}
use Rattle.std.proofs.Common.{rules}
use Rattle.std.proofs.lemmas.Iterator.{YieldsList-from_range}
use Rattle.std.proofs.lemmas.Iterator.Consumers.{YieldsList-from_filter, count_from_yields_List}
use Rattle.model.specs.Bytes.{view}
use Rattle.model.specs.Grow.{lacks_block}
use Rattle.pour.proofs.CountLaws.{test_of, counted, block_one}
use native.Mathlib.Omega.{arith}
use Rattle.pour.proofs.lacks_blocks.Goals as goal

pub returns : goal.returns
returns c =
    let a = c.args in
    let f = lacks_block (view a.img.now) a.height a.key in
    let r = counted f (block_one (view a.img.now) a.height a.key) a.p (a.end - a.p) _
    (count_from_yields_List c.filter.result _ c.count.ensures.ran
    (YieldsList-from_filter _ (λ q. eqb (f q) 1) (YieldsList-from_range a.p a.end (a.end - a.p) c.filter.ensures.source refl) c.filter.ensures.closure (λ x b q k. search (rules, test_of)))) in
    (r.0, omega (arith, r.1))
