-- `set_info::put_info` meets its contract. Field by field, in the order of the definition.
use mathlib.Core.Path.{ap, ◌∙◌}
use Prim.Native.Nat.{◌+◌}
use Rattle.model.specs.Bytes.{put_word}
use Rattle.model.specs.Calls.{put_stamp}
use Rattle.set_info.proofs.put_info.Goals as goal

pub returns : goal.returns
returns c =
    let a = c.args in
    c.put_stamp.ensures
    ∙ ap (λ f. put_stamp f (a.start + 0x21) a.modified)
    (c.put_word.ensures ∙ ap (λ f. put_word f (a.start + 0x1F) a.aux) c.put_byte.ensures)
