-- What `?` hands on.
use Rattle.std.specs.Prelude.{Result, Err}
use Rattle.std.specs.Result.{IsErrAnd}
use Rattle.std.proofs.lemmas.Result.{err_from_is_err_and}
use mathlib.Core.Path.{◌≡◌, ap, ◌∙◌}
use Rattle.model.specs.declared.Refusal.{Refusal}

-- the error that it met
pub passed : {T : Type 0} {e : Refusal} {r : Result T Refusal} → IsErrAnd r (λ y. y ≡ e) → r ≡ Err e
passed {T} {e} {r} h = let q = err_from_is_err_and r h in q.1 ∙ ap Err q.2
