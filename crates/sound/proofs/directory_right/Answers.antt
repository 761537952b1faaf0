-- `sound::directory_right` meets its contract. One test after the other, as the definition has them.
use mathlib.Core.Logic.{inl, inr}
use borrow.Author.Tests.{eq-eqb, ne_eqb}
use Rattle.model.specs.Bytes.{◌and◌}
use Rattle.sound.proofs.directory_right.Goals as goal

pub returns-then-entry-ne0 : goal.returns-then-entry-ne0
unfolding ◌and◌
returns-then-entry-ne0 c = let h = c.if-entry-ne0.true in rw (eq-eqb _ _ h.0, ne_eqb _ _ h.1)

pub returns-else-entry-ne0 : goal.returns-else-entry-ne0
unfolding ◌and◌
returns-else-entry-ne0 c =
    elim c.if-entry-ne0.either [
      | inl h ↦ rw (eq-eqb _ _ h.0, eq-eqb _ _ h.1) (cc)
      | inr h ↦ rw (ne_eqb _ _ h) (cc)
    ]
