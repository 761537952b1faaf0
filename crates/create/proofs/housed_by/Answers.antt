-- `create::housed_by` meets its contract. Each refusal is one row of the table, in its order.
use mathlib.Core.Path.{refl, sym, ◌∙◌}
use mathlib.Core.Bool.{true, false}
use Rattle.opening.proofs.PassLaws.{passed}
use Rattle.opening.proofs.VolumeLaws.{volume_sound}
use Rattle.create.proofs.HousedLaws.{housed_refused, housed_on_law}
use Rattle.create.proofs.housed_by.Goals as goal

pub returns-then-not-is_proper_path : goal.returns-then-not-is_proper_path
returns-then-not-is_proper_path c =
    sym (housed_on_law _ _ _ _ _ _ _ false _ _
    (sym c.volume_in.ensures ∙ c.in_ok-n.was) (sym c.is_proper_path.ensures ∙ c.if-not-is_proper_path.true) refl refl)

pub returns-then-not-is_kind : goal.returns-then-not-is_kind
returns-then-not-is_kind c =
    sym (housed_on_law _ _ _ _ _ _ _ true false _
    (sym c.volume_in.ensures ∙ c.in_ok-n.was) (sym c.is_proper_path.ensures ∙ c.if-not-is_proper_path.false) (sym c.is_kind.ensures ∙ c.if-not-is_kind.true) refl)

pub returns-then-is_wrong_type : goal.returns-then-is_wrong_type
returns-then-is_wrong_type c =
    sym (housed_on_law _ _ _ _ _ _ _ true true true
    (sym c.volume_in.ensures ∙ c.in_ok-n.was) (sym c.is_proper_path.ensures ∙ c.if-not-is_proper_path.false) (sym c.is_kind.ensures ∙ c.if-not-is_kind.false) (sym c.is_wrong_type.ensures ∙ c.if-is_wrong_type.true))

pub housed_at-requires : goal.housed_at-requires
housed_at-requires c =
    let f = volume_sound _ _ _ (sym c.volume_in.ensures ∙ c.in_ok-n.was) in record { n_bound = (f.most, f.whole, f.sane); path_value = sym c.is_proper_path.ensures ∙ c.if-not-is_proper_path.false }

pub returns-in_err-n : goal.returns-in_err-n
returns-in_err-n c =
    rw (passed c.from_residual.ensures.1) (sym (housed_refused _ _ _ _ _ _ _ (sym c.volume_in.ensures ∙ c.in_err-n.was)))

pub returns : goal.returns
returns c =
    c.housed_at.ensures
    ∙ sym (housed_on_law _ _ _ _ _ _ _ true true false
    (sym c.volume_in.ensures ∙ c.in_ok-n.was) (sym c.is_proper_path.ensures ∙ c.if-not-is_proper_path.false) (sym c.is_kind.ensures ∙ c.if-not-is_kind.false) (sym c.is_wrong_type.ensures ∙ c.if-is_wrong_type.false))
