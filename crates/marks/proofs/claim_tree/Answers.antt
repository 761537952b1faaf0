-- `marks::claim_tree` meets its contract. The key is the one block of its height, with the number 0.
use native.Mathlib.Omega.{arith}
use Rattle.model.specs.Bytes.{view}
use Rattle.marks.proofs.Laws.{nodes_few, took_few}
use Rattle.marks.proofs.claim_tree.Goals as goal

pub returns-clause-result_value : goal.returns-clause-result_value
returns-clause-result_value c =
    let a = c.args in
    let k = c.claim_part in
    let few = nodes_few (view a.img.now) a.height 0 a.key (omega arith) in
    (k.ensures.result_value, took_few k.result _ k.ensures.result_value few)
