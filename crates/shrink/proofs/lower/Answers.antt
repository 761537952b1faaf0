-- `shrink::lower` meets its contract. What is read before the limbs are given back decides between the two ways.
use mathlib.Core.Path.{sym, ap, ◌∙◌}
use native.Mathlib.Omega.{arith}
use Prim.Native.Nat.{◌*◌}
use Rattle.model.specs.Bytes.{view, clear}
use Rattle.model.specs.Map.{given}
use Rattle.model.specs.Directory.{map_place}
use Rattle.model.proofs.Laws.Give.{lowered_hole, lowered_full, heir_hole, heir_full}
use Rattle.shrink.proofs.Laws.{limbs_loose}
use Rattle.shrink.proofs.lower.Goals as goal

pub give_limbs-requires : goal.give_limbs-requires
give_limbs-requires c =
    let a = c.args in
    let F = c.requires.2 in
    ((F.large, F.small, c.requires.0), c.requires.1, omega arith, limbs_loose a.n (view a.img.now) a.below a.key F)

pub returns-then-first-eq0 : goal.returns-then-first-eq0
returns-then-first-eq0 c =
    let a = c.args in
    let F = c.requires.2 in
    let z = sym c.get_pointer-first.ensures.value ∙ c.if-first-eq0.true in record {
      img_after = c.clear_run.ensures ∙ ap (λ f. clear f (a.key * 512) 512) c.give_limbs.ensures ∙ sym (lowered_hole F z);
      value = sym (heir_hole F z);
    }

pub returns : goal.returns
returns c =
    let a = c.args in
    let F = c.requires.2 in
    let g = c.get_pointer-first.ensures.value in record {
      img_after = c.give.ensures ∙ ap (λ f. given map_place f a.key) c.give_limbs.ensures ∙ sym (lowered_full F (λ e. c.if-first-eq0.false (g ∙ e)));
      value = g ∙ sym (heir_full F (λ e. c.if-first-eq0.false (g ∙ e)));
    }
