-- `release::give_limbs` and `release::give_tree`, which call each other, meet their contracts. A tree's measure is twice its height, what lies
-- below a block's pointers has one more. The loop keeps that what the pointers from i on lead to is left to give back.
use Prim.Native.Nat.{◌+◌, ◌*◌}
use mathlib.Core.Path.{◌≡◌}
use lib.ListN.{length}
use Rattle.model.specs.Bytes.{view}
use Rattle.release.proofs.Laws.{Giving}
use Rattle.release.proofs.+give_limbs_give_tree.Given as goal

abbrev pub decreases-give_limbs : goal.decreases-give_limbs
decreases-give_limbs l = 2 * l.height + 1

abbrev pub decreases-give_tree : goal.decreases-give_tree
decreases-give_tree l = 2 * l.height

abbrev pub invariant-give_limbs-loop-i : goal.invariant-give_limbs-loop-i
invariant-give_limbs-loop-i l = (length l.img ≡ length l.initial.img) × Giving l.n (view l.initial.img) l.height l.key l.first (view l.img) l.i
