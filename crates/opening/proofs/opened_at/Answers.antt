-- `opening::opened_at` meets its contract: each answer of the lookup is one case of the target.
use Rattle.std.specs.Prelude.{Ok}
use mathlib.Core.Path.{sym, ap, ◌∙◌}
use Rattle.opening.proofs.CodeLaws.{opened_led}
use Rattle.opening.proofs.PassLaws.{passed}
use Rattle.opening.proofs.opened_at.Goals as goal

pub returns-in_err-lookup : goal.returns-in_err-lookup
returns-in_err-lookup c = rw (passed c.from_residual.ensures.1) (opened_led _ _ _ (sym c.in_err-lookup.was ∙ c.lookup.ensures))

pub returns-in-Missing : goal.returns-in-Missing
returns-in-Missing c = opened_led _ _ _ (sym (c.in_ok-lookup.was ∙ ap Ok c.in-Missing.is) ∙ c.lookup.ensures)

pub returns-in-There : goal.returns-in-There
returns-in-There c = opened_led _ _ _ (sym (c.in_ok-lookup.was ∙ ap Ok c.in-There.is) ∙ c.lookup.ensures)

pub returns-in-Volume : goal.returns-in-Volume
returns-in-Volume c = opened_led _ _ _ (sym (c.in_ok-lookup.was ∙ ap Ok c.in-Volume.is) ∙ c.lookup.ensures)
