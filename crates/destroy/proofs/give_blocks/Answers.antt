-- `destroy::give_blocks` meets its contract. A directory gives back its chain, a file its tree.
use native.Mathlib.Omega.{arith}
use mathlib.Core.Path.{sym, ap, ◌∙◌}
use Rattle.model.specs.Bytes.{view}
use Rattle.model.specs.Directory.{map_place}
use Rattle.model.specs.Calls.{given_all}
use Rattle.destroy.specs.Gone.{entry_blocks}
use Rattle.destroy.proofs.Laws.{blocks_chain, blocks_tree}
use Rattle.destroy.proofs.give_blocks.Goals as goal

pub give_chain-requires : goal.give_chain-requires
unfolding entry_blocks
give_chain-requires c =
    let a = c.args in
    let whole = blocks_chain a.entry.kind (view a.img.now) a.entry.used _ c.key_of-key.ensures (sym c.height_of.ensures ∙ c.in_default.is) in
    (c.requires.0, rw whole at c.requires.1)

pub returns-in_default : goal.returns-in_default
unfolding entry_blocks
returns-in_default c =
    let a = c.args in
    let v = view a.img.now in
    c.give_chain.ensures ∙ ap (given_all map_place v) (sym (blocks_chain a.entry.kind v a.entry.used _ c.key_of-key.ensures (sym c.height_of.ensures ∙ c.in_default.is)))

pub give_tree-requires : goal.give_tree-requires
unfolding entry_blocks
give_tree-requires c =
    let a = c.args in
    let whole = blocks_tree a.entry.kind (view a.img.now) a.entry.used _ c.key_of-key.ensures _ (sym c.height_of.ensures ∙ c.in-Some.is) in
    (c.requires.0, omega (arith, whole.0), rw whole.1 at c.requires.1)

pub returns : goal.returns
unfolding entry_blocks
returns c =
    let a = c.args in
    let v = view a.img.now in
    c.give_tree.ensures ∙ ap (given_all map_place v) (sym (blocks_tree a.entry.kind v a.entry.used _ c.key_of-key.ensures _ (sym c.height_of.ensures ∙ c.in-Some.is)).1)
