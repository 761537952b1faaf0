-- `twins::no_twins` meets its contract. Each turn has the names before k in the tree, and no two of them alike.
use Rattle.model.specs.Bytes.{view}
use Rattle.twins.specs.Twins.{lefts, rights, Tree, Apart}
use Rattle.twins.proofs.no_twins.Given as goal

abbrev pub invariant-loop-k : goal.invariant-loop-k
invariant-loop-k l = Tree (view l.img) l.places l.k (lefts l.nodes) (rights l.nodes) × Apart (view l.img) l.places l.k
