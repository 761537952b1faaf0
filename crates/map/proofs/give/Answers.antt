-- `map::give` meets its contract. The byte stored is the one with the bit set.
use Prim.Native.Nat.{◌+◌, ◌*◌, ◌/◌}
use mathlib.Core.Path.{ap, ◌∙◌}
use native.Mathlib.Omega.{arith}
use Rattle.model.specs.Bytes.{view, put}
use Rattle.model.specs.Map.{map_at, given}
use Rattle.model.proofs.ByteLaws.{view_set}
use Rattle.map.proofs.give.Goals as goal

pub returns : goal.returns
unfolding given map_at
returns c =
    let a = c.args in
    view_set a.img.now (a.m * 512 + a.b / 8) c.set_bit.result (omega arith) ∙ ap (put (view a.img.now) (a.m * 512 + a.b / 8)) c.set_bit.ensures
