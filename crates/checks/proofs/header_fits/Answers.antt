-- `checks::header_fits` meets its contract. One test after the other, as the definition has them.
use borrow.Author.Tests.{eq-eqb, ne_eqb}
use Rattle.checks.proofs.Laws.{second_if, second_not, third_if, third_not}
use Rattle.checks.proofs.header_fits.Goals as goal
use Rattle.checks.proofs.header_fits.Goals.{then-img-key, else-img-key}

pub returns-then-img-key-eq39 : goal.returns-then-img-key-eq39
returns-then-img-key-eq39 c =
    third_if c.if-img-key.value _ _ _
    (elim c.if-img-key.branch [ then-img-key w ↦ second_if _ _ _ (eq-eqb _ _ w.if-img-key.true) w.value-is | else-img-key w ↦ second_not _ _ _ (ne_eqb _ _ w.if-img-key.false) w.value-is ])
    c.if-img-key-eq39.true

pub returns-else-img-key-eq39 : goal.returns-else-img-key-eq39
returns-else-img-key-eq39 c =
    third_not c.if-img-key.value _ _ _
    (elim c.if-img-key.branch [ then-img-key w ↦ second_if _ _ _ (eq-eqb _ _ w.if-img-key.true) w.value-is | else-img-key w ↦ second_not _ _ _ (ne_eqb _ _ w.if-img-key.false) w.value-is ])
    c.if-img-key-eq39.false
