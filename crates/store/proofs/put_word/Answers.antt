-- `store::put_word` meets its contract: the low two digits of the number.
use mathlib.Core.Path.{ap, ◌∙◌}
use lib.ListN.{take}
use native.Mathlib.Omega.{arith}
use Rattle.model.specs.Bytes.{put_word}
use Rattle.store.proofs.Runs.{digits_stored}
use Rattle.store.proofs.put_word.Goals as goal

pub returns : goal.returns
unfolding put_word
returns c =
    let a = c.args in
    digits_stored a.img.now _ a.at 2 a.v (omega arith) (omega arith) (c.copy_from_slice.ensures.after ∙ ap (take 2) c.to_le_bytes.ensures)
