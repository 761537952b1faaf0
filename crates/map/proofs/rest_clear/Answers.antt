-- `map::rest_clear` meets its contract. The two tests are the two parts of the definition.
use mathlib.Core.Path.{◌≡◌, sym, ◌∙◌}
use Prim.Native.Nat.{◌+◌, ◌/◌}
use native.Mathlib.Omega.{arith}
use Rattle.model.specs.Bytes.{view}
use Rattle.map.proofs.Laws.{rest_no, rest_yes}
use Rattle.map.proofs.rest_clear.Goals as goal

pub returns-then-last_byte_clear : goal.returns-then-last_byte_clear
returns-then-last_byte_clear c =
    let a = c.args in
    let u : c.div_ceil-used.result ≡ (a.n + 7) / 8 = omega arith in
    let y = rest_yes a.m (view a.img.now) a.n (sym c.last_byte_clear.ensures ∙ c.if-last_byte_clear.true) in
    (rw (u, c.map_blocks.ensures) at c.all_zero.ensures) ∙ y

pub returns-else-last_byte_clear : goal.returns-else-last_byte_clear
returns-else-last_byte_clear c =
    let a = c.args in
    c.if-last_byte_clear.false ∙ rest_no a.m (view a.img.now) a.n (sym c.last_byte_clear.ensures ∙ c.if-last_byte_clear.false)
