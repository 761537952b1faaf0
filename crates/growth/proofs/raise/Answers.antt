-- `growth::raise` meets its contract: what is left to take gives the same file.
use mathlib.Core.Path.{sym, ◌∙◌}
use Rattle.model.specs.Bytes.{view}
use Rattle.growth.proofs.Laws.{raised_none, key_none, low_in, raise_on}
use native.Mathlib.Omega.{arith}
use Rattle.growth.proofs.raise.Goals as goal

pub top-above-requires : goal.top-above-requires
top-above-requires c =
    let l = c.loop in
    (l.invariant.1.large, l.invariant.1.small, l.invariant.0, low_in c.args.n l.counter c.args.goal l.above (view l.img) l.invariant.1 c.loop-test.true l.invariant.2)

pub loop-preserved : goal.loop-preserved
loop-preserved c =
    let a = c.args in
    let l = c.loop in
    let r = raise_on a.n l.counter a.goal l.above (view l.img) l.invariant.1 c.loop-test.true l.invariant.2 _ _ c.top-above.ensures.value c.top-above.ensures.img_after in
    (omega arith, r.0, r.1, r.2 ∙ l.invariant.3, r.3 ∙ l.invariant.4)

pub returns-clause-img_after : goal.returns-clause-img_after
returns-clause-img_after c =
    let l = c.loop in
    sym (raised_none c.args.n l.counter c.args.goal l.above (view l.img) c.loop-test.false) ∙ l.invariant.3

pub returns-clause-value : goal.returns-clause-value
returns-clause-value c =
    let l = c.loop in
    sym (key_none c.args.n l.counter c.args.goal l.above (view l.img) c.loop-test.false) ∙ l.invariant.4
