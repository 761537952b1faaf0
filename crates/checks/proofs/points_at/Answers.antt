-- `checks::points_at` meets its contract. One test after the other, as the definition has them.
use borrow.Author.Tests.{eq-eqb, ne_eqb}
use Rattle.checks.proofs.Laws.{second_if, second_not, third_if, third_not}
use Rattle.checks.proofs.points_at.Goals as goal
use Rattle.checks.proofs.points_at.Goals.{then-get_word-place, else-get_word-place}

pub returns-then-from-place : goal.returns-then-from-place
returns-then-from-place c =
    rw (← c.get_word.ensures.value)
    (third_if c.if-get_word-place.value _ _ _
    (elim c.if-get_word-place.branch [ then-get_word-place w ↦ second_if _ _ _ (eq-eqb _ _ w.if-get_word-place.true) (rw w.from.ensures at w.value-is) | else-get_word-place w ↦ second_not _ _ _ (ne_eqb _ _ w.if-get_word-place.false) w.value-is ])
    c.if-from-place.true)

pub returns-else-from-place : goal.returns-else-from-place
returns-else-from-place c =
    rw (← c.get_word.ensures.value)
    (third_not c.if-get_word-place.value _ _ _
    (elim c.if-get_word-place.branch [ then-get_word-place w ↦ second_if _ _ _ (eq-eqb _ _ w.if-get_word-place.true) (rw w.from.ensures at w.value-is) | else-get_word-place w ↦ second_not _ _ _ (ne_eqb _ _ w.if-get_word-place.false) w.value-is ])
    c.if-from-place.false)
