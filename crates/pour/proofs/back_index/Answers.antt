-- `pour::back_index` meets its contract.
use Rattle.pour.proofs.Laws.{backed_index}
use Rattle.pour.proofs.back_index.Goals as goal

pub returns : goal.returns
returns c =
    backed_index c.requires.1 c.requires.2 _ _ c.reach.ensures.img_after c.reach.ensures.value
