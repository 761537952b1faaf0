-- `checks::Volume::gather_between` meets its contract. What was gathered and what is still to be gathered are the whole.
use mathlib.Core.Path.{sym, ◌∙◌}
use native.Mathlib.Omega.{arith}
use lib.ListN.{take}
use Rattle.model.specs.Bytes.{view}
use Rattle.checks.proofs.Laws.{active_more, active_same, active_end}
use Rattle.checks.proofs.Gathered.{stored_on, stored_off, stored_end}
use Rattle.checks.proofs.Volume.gather_between.Goals as goal
use Rattle.checks.proofs.Volume.gather_between.Goals.{then-is_active, else-is_active}

pub loop-place-preserved : goal.loop-place-preserved
loop-place-preserved c =
    let a = c.args in
    let self = a.self.now in
    let l = c.loop-place in
    let v = view self.img.now in
    let t = c.is_active.ensures in
    elim c.if-is_active.branch [
      | then-is_active w ↦ let h = active_more v l.place a.end (omega arith) (sym t ∙ w.if-is_active.true) in (
        omega arith,
        rw (w.count-is, c.address.ensures) (stored_on v l.place a.end (omega arith) l.list l.count (omega arith) (sym t ∙ w.if-is_active.true) ∙ l.invariant.1),
      )
      | else-is_active w ↦ let h = active_same v l.place a.end (omega arith) (sym t ∙ w.if-is_active.false) in (
        omega arith,
        rw (w.count-is, c.address.ensures) (stored_off v l.place a.end (omega arith) l.list l.count (omega arith) (sym t ∙ w.if-is_active.false) ∙ l.invariant.1),
      )
    ]

pub returns : goal.returns
returns c =
    let a = c.args in
    let self = a.self.now in
    let l = c.loop-place in
    let v = view self.img.now in
    let h = active_end v l.place a.end (omega arith) in record { value = omega arith; list_after = sym (stored_end v l.place a.end (omega arith) (take l.count l.list)) ∙ l.invariant.1 }
