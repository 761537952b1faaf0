-- `checks::volume_right` meets its contract. One test after the other, as the law has them.
use mathlib.Core.Path.{ap, ◌∙◌}
use lib.Dec.{eqb}
use borrow.Author.Tests.{eq-eqb, ne_eqb}
use Rattle.checks.proofs.Laws.{volume_is, second_if, second_not, third_if, third_not, fourth_if, fourth_not}
use Rattle.checks.proofs.volume_right.Goals as goal
use Rattle.checks.proofs.volume_right.Goals.{then-next_of-eq3, else-next_of-eq3, then-next_of-eq4, else-next_of-eq4}

pub returns-then-next_of-eq5 : goal.returns-then-next_of-eq5
returns-then-next_of-eq5 c =
    ap (λ x. eqb x 6) c.get_word.ensures.value
    ∙ rw (volume_is _, ← c.next_of.ensures) (fourth_if c.if-next_of-eq4.value _ _ _ _
    (elim c.if-next_of-eq4.branch [
      | then-next_of-eq4 w ↦ rw w.next_of-then-next_of-eq4.ensures at w.value-is ∙ third_if c.if-next_of-eq3.value _ _ _
          (elim c.if-next_of-eq3.branch [ then-next_of-eq3 u ↦ second_if _ _ _ (eq-eqb _ _ u.if-next_of-eq3.true) (rw u.next_of-then-next_of-eq3.ensures at u.value-is) | else-next_of-eq3 u ↦ second_not _ _ _ (ne_eqb _ _ u.if-next_of-eq3.false) u.value-is ])
          w.if-next_of-eq4.true
      | else-next_of-eq4 w ↦ w.value-is ∙ third_not c.if-next_of-eq3.value _ _ _
          (elim c.if-next_of-eq3.branch [ then-next_of-eq3 u ↦ second_if _ _ _ (eq-eqb _ _ u.if-next_of-eq3.true) (rw u.next_of-then-next_of-eq3.ensures at u.value-is) | else-next_of-eq3 u ↦ second_not _ _ _ (ne_eqb _ _ u.if-next_of-eq3.false) u.value-is ])
          w.if-next_of-eq4.false
    ])
    c.if-next_of-eq5.true)

pub returns-else-next_of-eq5 : goal.returns-else-next_of-eq5
returns-else-next_of-eq5 c =
    rw (volume_is _, ← c.next_of.ensures) (fourth_not c.if-next_of-eq4.value _ _ _ _
    (elim c.if-next_of-eq4.branch [
      | then-next_of-eq4 w ↦ rw w.next_of-then-next_of-eq4.ensures at w.value-is ∙ third_if c.if-next_of-eq3.value _ _ _
          (elim c.if-next_of-eq3.branch [ then-next_of-eq3 u ↦ second_if _ _ _ (eq-eqb _ _ u.if-next_of-eq3.true) (rw u.next_of-then-next_of-eq3.ensures at u.value-is) | else-next_of-eq3 u ↦ second_not _ _ _ (ne_eqb _ _ u.if-next_of-eq3.false) u.value-is ])
          w.if-next_of-eq4.true
      | else-next_of-eq4 w ↦ w.value-is ∙ third_not c.if-next_of-eq3.value _ _ _
          (elim c.if-next_of-eq3.branch [ then-next_of-eq3 u ↦ second_if _ _ _ (eq-eqb _ _ u.if-next_of-eq3.true) (rw u.next_of-then-next_of-eq3.ensures at u.value-is) | else-next_of-eq3 u ↦ second_not _ _ _ (ne_eqb _ _ u.if-next_of-eq3.false) u.value-is ])
          w.if-next_of-eq4.false
    ])
    c.if-next_of-eq5.false)
