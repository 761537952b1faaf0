-- `Ink::number` meets its contract. The higher digits, then the last.
use Rattle.ink.proofs.InkLaws.{prints_as, ◌then◌}
use Rattle.ink.proofs.TextLaws.{number_more}
use native.Mathlib.Omega.{arith}
use Rattle.ink.proofs.Ink.+number.Goals as goal

pub returns : goal.returns
returns t c =
    let a = c.args in
    prints_as (number_more a.places a.x c.if-places-eq0.false (omega arith)) (c.number.ensures then c.byte-2.ensures)
