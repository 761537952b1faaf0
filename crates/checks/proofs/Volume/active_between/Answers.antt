-- `checks::Volume::active_between` meets its contract. The count and what is still to be counted are the whole.
use Rattle.checks.proofs.Laws.{active_more, active_same, active_end}
use mathlib.Core.Path.{sym, ◌∙◌}
use native.Mathlib.Omega.{arith}
use Rattle.model.specs.Bytes.{view}
use Rattle.checks.proofs.Volume.active_between.Goals as goal
use Rattle.checks.proofs.Volume.active_between.Goals.{then-is_active, else-is_active}

pub loop-place-preserved : goal.loop-place-preserved
loop-place-preserved c =
    let a = c.args in
    let self = a.self.now in
    let v = view self.img.now in
    let s = c.loop-place.place in
    let t = c.is_active.ensures in
    elim c.if-is_active.branch [
      | then-is_active w ↦ let h = active_more v s a.end (omega arith) (sym t ∙ w.if-is_active.true) in (omega arith, omega arith)
      | else-is_active w ↦ let h = active_same v s a.end (omega arith) (sym t ∙ w.if-is_active.false) in (omega arith, omega arith)
    ]

pub returns : goal.returns
returns c =
    let a = c.args in
    let self = a.self.now in
    let h = active_end (view self.img.now) c.loop-place.place a.end (omega arith) in
    (omega arith, omega arith)
