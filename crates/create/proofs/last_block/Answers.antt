-- `create::last_block` meets its contract: the last block of what is left is that of the chain.
use native.Mathlib.Omega.{arith}
use Prim.Native.Nat.{◌+◌, ◌-◌, ◌<◌}
use mathlib.Core.Path.{◌≡◌, sym, ◌∙◌}
use Rattle.model.specs.Bytes.{view}
use Rattle.create.proofs.EnteredLaws.{last_step, last_end, chain_low, chain_rest}
use Rattle.create.proofs.last_block.Goals as goal

pub overflow_mul-block : goal.overflow_mul-block
overflow_mul-block c =
    let l = c.loop in
    omega (arith, chain_low c.args.n (view c.args.img.now) l.block (c.args.used - l.counter) l.invariant.1 (omega arith))

pub overflow_add-block : goal.overflow_add-block
overflow_add-block c =
    let l = c.loop in
    omega (arith, chain_low c.args.n (view c.args.img.now) l.block (c.args.used - l.counter) l.invariant.1 (omega arith))

pub get_word-block-requires : goal.get_word-block-requires
get_word-block-requires c =
    let l = c.loop in
    omega (arith, chain_low c.args.n (view c.args.img.now) l.block (c.args.used - l.counter) l.invariant.1 (omega arith))

pub loop-preserved : goal.loop-preserved
loop-preserved c =
    let a = c.args in
    let v = view a.img.now in
    let l = c.loop in
    let more : 0 < a.used - l.counter = omega arith in
    let less : a.used - (l.counter + 1) ≡ a.used - l.counter - 1 = omega arith in
    rw (c.get_word-block.ensures.value, less) (
      sym (last_step a.n v l.last l.block (a.used - l.counter) more) ∙ l.invariant.0,
      chain_rest a.n v l.block (a.used - l.counter) l.invariant.1 more,
    )

pub returns : goal.returns
returns c =
    let a = c.args in
    let l = c.loop in
    last_end a.n (view a.img.now) l.last l.block (a.used - l.counter) (omega arith) ∙ l.invariant.0
