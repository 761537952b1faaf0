-- `checks::Volume::unlike_from` meets its contract. What is still to be compared decides.
use mathlib.Core.Path.{sym, ap, ◌∙◌}
use native.Mathlib.Omega.{arith}
use lib.Dec.{eqb}
use Rattle.model.specs.Bytes.{◌and◌, view}
use Rattle.model.specs.Sound.{twins}
use Rattle.checks.proofs.Laws.{ahead_end, unlike_not}
use Rattle.checks.proofs.Volume.unlike_from.Goals as goal

pub returns-then-not-alone_ahead : goal.returns-then-not-alone_ahead
unfolding ◌and◌
returns-then-not-alone_ahead c =
    let a = c.args in
    let self = a.self.now in
    let l = c.loop-place in
    sym l.invariant
    ∙ unlike_not (view self.img.now) l.place a.block a.after (omega arith) (sym c.is_active.ensures ∙ c.if-is_active.true)
    (sym c.alone_ahead.ensures ∙ c.if-not-alone_ahead.true)

pub returns : goal.returns
unfolding ◌and◌
returns c =
    let a = c.args in
    let self = a.self.now in
    let l = c.loop-place in
    let v = view self.img.now in
    sym l.invariant ∙ ap (λ s. eqb (twins v s) 0) (ahead_end v l.place a.block a.after (omega arith))
