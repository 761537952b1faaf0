-- `map::take` meets its contract. The byte stored is the one with the bit clear, and the run cleared is the block.
use Prim.Native.Nat.{◌+◌, ◌*◌, ◌/◌}
use mathlib.Core.Path.{ap, ◌∙◌}
use native.Mathlib.Omega.{arith}
use Rattle.model.specs.Bytes.{view, put, clear}
use Rattle.model.specs.Map.{map_at, taken}
use Rattle.model.proofs.ByteLaws.{view_set}
use Rattle.map.proofs.take.Goals as goal

pub returns : goal.returns
unfolding taken map_at
returns c =
    let a = c.args in
    let at = a.m * 512 + a.b / 8 in
    c.clear_run.ensures
    ∙ ap (λ f. clear f (a.b * 512) 512) (view_set a.img.now at c.clear_bit.result (omega arith) ∙ ap (put (view a.img.now) at) c.clear_bit.ensures)
