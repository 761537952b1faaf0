-- `pour::lacks_indexes` meets its contract: each number of the range that passes counts 1.
use Prim.Native.Nat.{◌-◌}
use mathlib.Core.Path.{refl}
use lib.Dec.{eqb}
use Rattle.std.proofs.Common.{rules}
use Rattle.std.proofs.lemmas.Iterator.{YieldsList-from_range}
use Rattle.std.proofs.lemmas.Iterator.Consumers.{YieldsList-from_filter, count_from_yields_List}
use Rattle.model.specs.Bytes.{view}
use Rattle.model.specs.Grow.{lacks_index}
use Rattle.pour.proofs.CountLaws.{test_of, counted, index_one}
use native.Mathlib.Omega.{arith}
use Rattle.pour.proofs.lacks_indexes.Goals as goal

pub returns : goal.returns
returns c =
    let a = c.args in
    let f = lacks_index (view a.img.now) a.height a.key in
    let r = counted f (index_one (view a.img.now) a.height a.key) a.i (a.end - a.i) _
    (count_from_yields_List c.filter.result _ c.count.ensures.ran
    (YieldsList-from_filter _ (λ q. eqb (f q) 1) (YieldsList-from_range a.i a.end (a.end - a.i) c.filter.ensures.source refl) c.filter.ensures.closure (λ x b q k. search (rules, test_of)))) in
    (r.0, omega (arith, r.1))
