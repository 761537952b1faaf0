-- `pour::pour` meets its contract: what is left to pour gives the same image, and the hint stays below every free block.
use Prim.Native.Nat.{◌+◌, ◌-◌, ◌/◌}
use mathlib.Core.Path.{sym, ◌∙◌}
use lib.ListN.{length}
use Rattle.model.specs.Bytes.{view, Octets}
use Rattle.pour.proofs.Laws.{pour_roomy, pour_block, pour_hint, pour_more, pour_on, pour_none}
use native.Mathlib.Omega.{arith}
use Rattle.pour.proofs.pour.Goals as goal

pub back-found-requires : goal.back-found-requires
back-found-requires c =
    let l = c.loop-p in
    (l.invariant.0, omega (arith, l.invariant.1.low), pour_roomy l.invariant.1 c.loop-p-test.true, l.invariant.2)

pub lay-requires : goal.lay-requires
lay-requires c =
    let l = c.loop-p in
    let r = c.back-found.ensures in
    let b = pour_block l.invariant.1 c.loop-p-test.true _ r.image _ r.block in record { block_in_bounds = (omega arith, omega arith); position_bound = (omega arith, omega arith, omega arith) }

pub loop-p-preserved : goal.loop-p-preserved
loop-p-preserved c =
    let a = c.args in
    let l = c.loop-p in
    let r = c.back-found.ensures in
    let o : Octets (view a.buffer.now) = λ x. omega (arith, c.type_inv.buffer x) in
    let s = length a.buffer.now in (
      omega arith,
      pour_on l.invariant.1 c.loop-p-test.true a.position s (view a.buffer.now) o _ r.image _ r.block _ c.lay.ensures,
      pour_hint l.invariant.1 c.loop-p-test.true a.position s (view a.buffer.now) o _ r.image _ r.block _ c.lay.ensures _ r.hint,
      pour_more l.invariant.1 c.loop-p-test.true a.position s (view a.buffer.now) o _ r.image _ r.block _ c.lay.ensures ∙ l.invariant.3,
    )

pub returns : goal.returns
returns c =
    let a = c.args in
    let l = c.loop-p in
    let end = (a.position + length a.buffer.now - 1) / 512 + 1 in
    sym (pour_none a.n (view l.img) a.height a.key l.p end a.position (length a.buffer.now) (view a.buffer.now) (omega arith)) ∙ l.invariant.3
