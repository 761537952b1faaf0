-- `pour::back_master` meets its contract: the index, then what is below it.
use Rattle.pour.proofs.Laws.{backed_next, backed_master}
use native.Mathlib.Omega.{arith}
use Rattle.pour.proofs.back_master.Goals as goal

pub back_index-requires : goal.back_index-requires
back_index-requires c =
    let s = backed_next c.requires.1 c.requires.2 _ _ c.reach-index.ensures.img_after c.reach-index.ensures.value in
    (omega arith, s.roomy, s.hint)

pub returns : goal.returns
returns c =
    backed_master (backed_next c.requires.1 c.requires.2 _ _ c.reach-index.ensures.img_after c.reach-index.ensures.value) _ _ c.back_index.ensures
