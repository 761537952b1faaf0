-- `checks::is_prodos` meets its contract. One test after the other, as the definition has them.
use mathlib.Core.Path.{◌∙◌}
use borrow.Author.Tests.{eq-eqb, ne_eqb}
use Rattle.checks.proofs.Laws.{prodos_is, second_if, second_not, third_if, third_not}
use Rattle.checks.proofs.is_prodos.Goals as goal
use Rattle.checks.proofs.is_prodos.Goals.{then-get_word-eq0, else-get_word-eq0}

pub returns-then-header_fits : goal.returns-then-header_fits
returns-then-header_fits c =
    rw (prodos_is _ _, ← c.get_word.ensures.value, ← c.get_word-then-header_fits.ensures.value)
    (third_if c.if-get_word-eq0.value _ _ _
    (elim c.if-get_word-eq0.branch [ then-get_word-eq0 w ↦ second_if _ _ _ (eq-eqb _ _ w.if-get_word-eq0.true) (w.value-is ∙ w.header_fits.ensures) | else-get_word-eq0 w ↦ second_not _ _ _ (ne_eqb _ _ w.if-get_word-eq0.false) w.value-is ])
    c.if-header_fits.true)

pub returns-else-header_fits : goal.returns-else-header_fits
returns-else-header_fits c =
    rw (prodos_is _ _, ← c.get_word.ensures.value)
    (third_not c.if-get_word-eq0.value _ _ _
    (elim c.if-get_word-eq0.branch [ then-get_word-eq0 w ↦ second_if _ _ _ (eq-eqb _ _ w.if-get_word-eq0.true) (w.value-is ∙ w.header_fits.ensures) | else-get_word-eq0 w ↦ second_not _ _ _ (ne_eqb _ _ w.if-get_word-eq0.false) w.value-is ])
    c.if-header_fits.false)
