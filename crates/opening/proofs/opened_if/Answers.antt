-- `opening::opened_if` meets its contract. The image as a volume, then the path, then the arguments, then what the path leads to.
use mathlib.Core.Path.{refl, sym, ◌∙◌}
use Rattle.opening.proofs.PassLaws.{passed}
use Rattle.opening.proofs.VolumeLaws.{volume_sound}
use Rattle.opening.proofs.IfLaws.{if_refused, if_on}
use Rattle.opening.proofs.opened_if.Goals as goal

pub returns-then-not-is_proper_path : goal.returns-then-not-is_proper_path
returns-then-not-is_proper_path c =
    sym (if_on _ _ _ _ _ _ _ _ _ (sym c.volume_in.ensures ∙ c.in_ok-n.was) (sym c.is_proper_path.ensures ∙ c.if-not-is_proper_path.true) refl)

pub returns-then-not-fit : goal.returns-then-not-fit
returns-then-not-fit c =
    sym (if_on _ _ _ _ _ _ _ _ _ (sym c.volume_in.ensures ∙ c.in_ok-n.was) (sym c.is_proper_path.ensures ∙ c.if-not-is_proper_path.false) c.if-not-fit.true)

pub opened_at-requires : goal.opened_at-requires
opened_at-requires c =
    let f = volume_sound _ _ _ (sym c.volume_in.ensures ∙ c.in_ok-n.was) in record { n_bound = (f.most, f.whole, f.sane); path_value = sym c.is_proper_path.ensures ∙ c.if-not-is_proper_path.false }

pub returns-in_err-n : goal.returns-in_err-n
returns-in_err-n c = rw (passed c.from_residual.ensures.1) (sym (if_refused _ _ _ _ _ _ _ (sym c.volume_in.ensures ∙ c.in_err-n.was)))

pub returns : goal.returns
returns c =
    c.opened_at.ensures
    ∙ sym (if_on _ _ _ _ _ _ _ _ _ (sym c.volume_in.ensures ∙ c.in_ok-n.was) (sym c.is_proper_path.ensures ∙ c.if-not-is_proper_path.false) c.if-not-fit.false)
