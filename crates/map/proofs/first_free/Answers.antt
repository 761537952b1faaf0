-- `map::first_free` meets its contract. The loop's invariant: no block from the hint on is free before this one. The measure is the blocks left.
use Rattle.map.proofs.Laws.{not_free, pass_on, found_first, none_first}
use mathlib.Core.Path.{sym, ◌∙◌}
use native.Mathlib.Omega.{arith}
use Rattle.model.specs.Bytes.{view}
use Rattle.model.proofs.BitLaws.{map_at_in}
use Rattle.map.proofs.first_free.Goals as goal

pub loop-block-init : goal.loop-block-init
loop-block-init c = (omega arith, λ k g h. absurd (omega arith))

pub is_free-requires : goal.is_free-requires
is_free-requires c = let a = c.args in omega (arith, map_at_in a.m a.n c.loop-block.block (omega arith))

pub returns-then-is_free : goal.returns-then-is_free
returns-then-is_free c =
    let a = c.args in
    let l = c.loop-block in
    (found_first a.m (view a.img.now) a.n a.hint l.block l.invariant.0 (omega arith) l.invariant.1 (sym c.is_free.ensures ∙ c.if-is_free.true), omega arith)

pub block_after-block-requires : goal.block_after-block-requires
block_after-block-requires c =
    let a = c.args in
    let l = c.loop-block in
    (omega arith, omega (arith, map_at_in a.m a.n l.block (omega arith)), not_free a.m (view a.img.now) l.block (sym c.is_free.ensures ∙ c.if-is_free.false))

pub loop-block-preserved : goal.loop-block-preserved
loop-block-preserved c =
    let a = c.args in
    let l = c.loop-block in
    (omega arith, pass_on a.m (view a.img.now) a.hint l.block c.block_after-block.result l.invariant.1 c.block_after-block.ensures.by_index)

pub returns : goal.returns
returns c =
    let a = c.args in
    let l = c.loop-block in
    (none_first a.m (view a.img.now) a.n a.hint l.block (omega arith) (omega arith) l.invariant.1, omega arith)
