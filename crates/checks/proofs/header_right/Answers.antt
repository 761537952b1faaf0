-- `checks::header_right` meets its contract. The faults are none where the three tests hold.
use mathlib.Core.Path.{◌∙◌}
use Rattle.checks.proofs.Laws.{header_is, second_if, second_not, third_if, third_not}
use Rattle.checks.proofs.header_right.Goals as goal
use Rattle.checks.proofs.header_right.Goals.{then-header_fits, else-header_fits}

pub returns-then-points_at : goal.returns-then-points_at
returns-then-points_at c =
    rw (header_is _ _ _, ← c.header_fits.ensures, ← c.address.ensures, ← c.alike_at.ensures)
    (third_if c.if-header_fits.value _ _ _
    (elim c.if-header_fits.branch [ then-header_fits w ↦ second_if _ _ _ w.if-header_fits.true (w.value-is ∙ w.points_at.ensures) | else-header_fits w ↦ second_not _ _ _ w.if-header_fits.false w.value-is ])
    c.if-points_at.true)

pub returns-else-points_at : goal.returns-else-points_at
returns-else-points_at c =
    rw (header_is _ _ _, ← c.header_fits.ensures)
    (third_not c.if-header_fits.value _ _ _
    (elim c.if-header_fits.branch [ then-header_fits w ↦ second_if _ _ _ w.if-header_fits.true (w.value-is ∙ w.points_at.ensures) | else-header_fits w ↦ second_not _ _ _ w.if-header_fits.false w.value-is ])
    c.if-points_at.false)
