-- `growth::grow` meets its contract: nothing where EOF does not grow, and after the zeroed end there is room for the keys.
use Rattle.model.proofs.Laws.Entry.{height_most}
use Rattle.growth.proofs.Laws.{fit_deep, zero_fit, zero_room, grown_same, key_same}
use native.Mathlib.Omega.{arith}
use Rattle.growth.proofs.grow.Goals as goal

pub returns-then-end-eof : goal.returns-then-end-eof
returns-then-end-eof c =
    let a = c.args in
    let p = c.requires.img_len in record { img_after = grown_same p.3 a.eof a.end p.1 p.2 c.if-end-eof.true; value = key_same p.3 a.eof a.end p.1 p.2 c.if-end-eof.true }

pub zero_tail-requires : goal.zero_tail-requires
zero_tail-requires c =
    let a = c.args in
    let p = c.requires.img_len in
    (p.3.small, p.0, omega (arith, p.1, height_most a.eof), p.2, fit_deep a.height p.3)

pub raise-requires : goal.raise-requires
raise-requires c =
    let a = c.args in
    let p = c.requires.img_len in
    let z = c.zero_tail.ensures in
    (omega arith, zero_fit p.3 a.eof a.end p.1 p.2 _ z, omega (arith, zero_room p.3 a.eof a.end p.1 p.2 _ z))
