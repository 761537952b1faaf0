-- `marks::claim_index` and `marks::claim_part`, which call each other, meet their contracts. The loop's invariant: what the pointers from i on lead to
-- is left to claim and to count. An index's measure is twice its height, a part's has one more.
use mathlib.Core.Path.{◌≡◌}
use Prim.Native.Nat.{◌+◌, ◌-◌, ◌*◌}
use lib.ListN.{length}
use Rattle.model.specs.Bytes.{view}
use Rattle.marks.specs.Marks.{marks}
use Rattle.marks.proofs.Laws.{Below}
use Rattle.marks.proofs.+claim_index_claim_part.Given as goal

abbrev pub decreases-claim_index : goal.decreases-claim_index
decreases-claim_index l = 2 * l.height

abbrev pub decreases-claim_part : goal.decreases-claim_part
decreases-claim_part l = 2 * l.height + 1

abbrev pub invariant-claim_index-loop-i : goal.invariant-claim_index-loop-i
invariant-claim_index-loop-i l =
    (length l.seen ≡ 8192) × Below l.n (view l.img) l.end (l.height - 1) l.number l.key (marks l.initial.seen) (marks l.seen) l.i l.count
