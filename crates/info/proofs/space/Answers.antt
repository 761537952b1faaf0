-- `info::space` meets its contract: a sound volume's blocks fit 16 bits, and its map is in place.
use mathlib.Core.Path.{sym, ◌∙◌}
use native.Mathlib.Omega.{arith}
use Rattle.model.specs.Map.{map_blocks}
use Rattle.opening.proofs.PassLaws.{passed}
use Rattle.opening.proofs.VolumeLaws.{volume_sound}
use Rattle.info.proofs.TellLaws.{space_refused, space_told_law}
use Rattle.info.proofs.space.Goals as goal

pub overflow_cast-result : goal.overflow_cast-result
overflow_cast-result c =
    let f = volume_sound _ _ _ (sym c.volume_in.ensures ∙ c.in_ok-n.was) in
    omega arith

pub free_blocks-requires : goal.free_blocks-requires
unfolding map_blocks
free_blocks-requires c =
    let f = volume_sound _ _ _ (sym c.volume_in.ensures ∙ c.in_ok-n.was) in
    (f.most, omega arith)

pub overflow_cast-result-2 : goal.overflow_cast-result-2
overflow_cast-result-2 c =
    let f = volume_sound _ _ _ (sym c.volume_in.ensures ∙ c.in_ok-n.was) in
    omega arith

pub returns-in_err-n : goal.returns-in_err-n
returns-in_err-n c =
    rw (passed c.from_residual.ensures.1) (space_refused _ _ _ (sym c.volume_in.ensures ∙ c.in_err-n.was))

pub returns : goal.returns
returns c =
    rw c.free_blocks.ensures.0 (space_told_law _ _ _ (sym c.volume_in.ensures ∙ c.in_ok-n.was))
