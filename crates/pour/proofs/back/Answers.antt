-- `pour::back` meets its contract: a seedling's block is its key.
use Rattle.pour.proofs.Laws.{backed_seedling}
use Rattle.pour.proofs.back.Goals as goal

pub returns-in-0 : goal.returns-in-0
returns-in-0 c = rw c.in-0.is (backed_seedling c.requires.3)
