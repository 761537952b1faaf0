-- `info::volume_info` meets its contract: fields of the volume's header, and the blocks that are not free.
use mathlib.Core.Path.{refl, ◌∙◌}
use native.Mathlib.Omega.{arith}
use borrow.Author.Rules.{rules}
use lib.ListN.{take, drop}
use Rattle.model.specs.Bytes.{view}
use Rattle.model.specs.Map.{map_blocks}
use Rattle.model.proofs.ByteLaws.{agree_part}
use Rattle.directory.proofs.SlotLaws.{stamp_lent}
use Rattle.info.proofs.TellLaws.{volume_told}
use Rattle.info.proofs.volume_info.Goals as goal

pub free_blocks-requires : goal.free_blocks-requires
unfolding map_blocks
free_blocks-requires c = search rules

pub returns : goal.returns
returns c =
    let img = c.args.img.now in
    let created = c.stamp_at-created.ensures ∙ stamp_lent (view (take 39 (drop 1028 img))) (view img) 1028 (agree_part img 1028 39) 0x18 (omega arith) in
    volume_told c.args.n (view img) _ _ _ refl created c.free_blocks.ensures.0 c.requires.3
