-- `store::put_long` meets its contract: the low three digits of the number.
use mathlib.Core.Path.{ap, ◌∙◌}
use lib.ListN.{take}
use native.Mathlib.Omega.{arith}
use Rattle.model.specs.Bytes.{put_long}
use Rattle.store.proofs.Runs.{digits_stored}
use Rattle.store.proofs.put_long.Goals as goal

pub returns : goal.returns
unfolding put_long
returns c =
    let a = c.args in
    digits_stored a.img.now _ a.at 3 a.v (omega arith) (omega arith) (c.copy_from_slice.ensures.after ∙ ap (take 3) c.to_le_bytes.ensures)
