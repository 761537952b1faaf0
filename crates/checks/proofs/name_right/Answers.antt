-- `checks::name_right` meets its contract. The part of 39 bytes has the name that stands at the place.
use mathlib.Core.Path.{ap, ◌∙◌}
use Prim.Native.Nat.{◌+◌, ◌-◌}
use native.Mathlib.Omega.{arith}
use Rattle.model.specs.Bytes.{view}
use Rattle.model.specs.Names.{capital_name}
use Rattle.names.proofs.PartLaws.{part_run, slot_capital}
use Rattle.checks.proofs.name_right.Goals as goal

pub returns : goal.returns
returns c =
    let l = c.args.img.now in
    let a = c.address-a.result in
    c.is_capital_name.ensures
    ∙ slot_capital _ (view l) a (λ i h. part_run l a (a + 39 - a) i (omega arith))
    ∙ ap (capital_name (view l)) c.address-a.ensures
