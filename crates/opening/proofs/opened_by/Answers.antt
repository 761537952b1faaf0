-- `opening::opened_by` meets its contract: no more is asked than the path.
use mathlib.Core.Path.{◌∙◌}
use mathlib.Core.Bool.{true}
use lib.ListN.{length}
use Rattle.model.specs.Bytes.{view}
use Rattle.opening.specs.Opened.{volume_in}
use Rattle.opening.proofs.IfLaws.{same_open}
use Rattle.opening.proofs.opened_by.Goals as goal

pub returns : goal.returns
returns c =
    let l = c.args.img.now in
    let p = c.args.path.now in
    c.opened_if.ensures ∙ same_open true _ (length l) (view l) (view p) (length p) (volume_in (length l) (view l))
