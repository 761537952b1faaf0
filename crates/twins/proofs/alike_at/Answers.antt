-- `twins::alike_at` meets its contract. The two parts of 39 bytes have the names that stand at a and b.
use mathlib.Core.Path.{◌∙◌}
use Prim.Native.Nat.{◌+◌, ◌-◌}
use native.Mathlib.Omega.{arith}
use Rattle.model.specs.Bytes.{view}
use Rattle.names.proofs.PartLaws.{part_run, slots_alike}
use Rattle.twins.proofs.alike_at.Goals as goal

pub returns : goal.returns
returns c =
    let s = c.args in
    let l = s.img.now in
    c.alike.ensures
    ∙ slots_alike _ _ (view l) s.a s.b (λ i h. part_run l s.a (s.a + 39 - s.a) i (omega arith))
    (λ i h. part_run l s.b (s.b + 39 - s.b) i (omega arith))
