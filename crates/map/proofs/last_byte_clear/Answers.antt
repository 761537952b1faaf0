-- `map::last_byte_clear` meets its contract. The weight of the bit before is the power of 2 that divides.
use Prim.Native.Nat.{◌-◌, ◌%◌}
use mathlib.Core.Path.{◌≡◌, ◌∙◌}
use native.Mathlib.Omega.{arith}
use borrow.Author.Tests.{eq-eqb}
use Rattle.model.specs.Map.{map_at, weight}
use Rattle.map.proofs.Laws.{last_whole, last_part_law}
use Rattle.map.proofs.last_byte_clear.Goals as goal

pub returns-then-n-eq0 : goal.returns-then-n-eq0
returns-then-n-eq0 c = eq-eqb (c.args.n % 8) 0 c.if-n-eq0.true ∙ last_whole (c.args.n % 8) _ c.if-n-eq0.true

pub returns-else-n-eq0 : goal.returns-else-n-eq0
unfolding map_at weight
returns-else-n-eq0 c =
    let n = c.args.n in
    let e : 7 - (n % 8 - 1) ≡ 8 - n % 8 = omega arith in
    rw (c.weight_of.ensures.0, e) (last_part_law (n % 8) _ c.if-n-eq0.false)
