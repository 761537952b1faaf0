-- `create::housed_at` meets its contract. Each answer of the lookup is one case of the target.
use Rattle.std.specs.Prelude.{Ok}
use mathlib.Core.Logic.{inl, inr}
use mathlib.Core.Path.{sym, ap, ◌∙◌}
use Rattle.opening.proofs.PassLaws.{passed}
use Rattle.create.proofs.HousedLaws.{housed_led}
use Rattle.create.proofs.housed_at.Goals as goal

pub returns-in_err-home : goal.returns-in_err-home
returns-in_err-home c = rw (passed c.from_residual.ensures.1) (housed_led _ _ _ (sym c.in_err-home.was ∙ c.lookup.ensures))

pub returns-in-Missing : goal.returns-in-Missing
returns-in-Missing c = housed_led _ _ _ (sym (c.in_ok-home.was ∙ ap Ok c.in-Missing.is) ∙ c.lookup.ensures)

pub returns-in-There : goal.returns-in-There
returns-in-There c =
    elim c.in-There.is [
      | inl w ↦ housed_led _ _ _ (sym (c.in_ok-home.was ∙ ap Ok w.3) ∙ c.lookup.ensures)
      | inr w ↦ housed_led _ _ _ (sym (c.in_ok-home.was ∙ ap Ok w) ∙ c.lookup.ensures)
    ]
