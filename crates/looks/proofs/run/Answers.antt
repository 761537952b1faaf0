-- `looks::run` meets its contract.
use mathlib.Core.Path.{refl, ap}
use native.Mathlib.Omega.{arith}
use lib.ListN.{length}
use Rattle.model.specs.Bytes.{view}
use Rattle.ink.specs.Ink.{sheet, Prints}
use Rattle.opening.specs.Opened.{opened_by}
use Rattle.lines.specs.Commands.{held}
use Rattle.looks.specs.Looks.{space_line, info_line, found_line, looked}
use Rattle.looks.proofs.LookLaws.{looked_by}
use Rattle.lines.proofs.PartLaws.{text_as}
use Rattle.lines.proofs.ReadLaws.{fits_by}
use Rattle.lines.specs.declared.Command.TheVariants as command
use Rattle.looks.proofs.run.Goals as goal

pub returns-in-Space : goal.returns-in-Space
unfolding looked space_line
returns-in-Space c =
    let a = c.args in
    let bs = a.buffer.now in
    let n = length a.img.now in
    let v = view a.img.now in
    let f = held a.values.now a.room.now bs in
    let y = c.space.ensures in
    looked_by n v (length bs) f c.in-Space.is
    (record { good = refl; image = refl; buffer = refl; page = rw (y.said, y.told) at c.say_space.ensures })

pub returns-in-GetInfo : goal.returns-in-GetInfo
unfolding looked
returns-in-GetInfo c =
    let a = c.args in
    let bs = a.buffer.now in
    let n = length a.img.now in
    let v = view a.img.now in
    let f = held a.values.now a.room.now bs in
    let y = c.get_info in
    let fit = fits_by a.values.now (ap command.Look c.in-GetInfo.is) refl c.requires.0 in
    looked_by n v (length bs) f c.in-GetInfo.is
    (record { good = refl; image = refl; buffer = refl; page = text_as (λ p k. Prints (info_line n v p k) (sheet a.ink.now a.page.now) (sheet y.new.ink y.new.page)) a.values.now a.room.now (omega (arith, c.requires.1, fit 0 (omega arith))) y.ensures })

pub returns-in-Find : goal.returns-in-Find
unfolding looked
returns-in-Find c =
    let a = c.args in
    let bs = a.buffer.now in
    let n = length a.img.now in
    let v = view a.img.now in
    let f = held a.values.now a.room.now bs in
    let y = c.find in
    let fit = fits_by a.values.now (ap command.Look c.in-Find.is) refl c.requires.0 in
    looked_by n v (length bs) f c.in-Find.is
    (record { good = refl; image = refl; buffer = refl; page = text_as (λ p k. Prints (found_line n v (opened_by n v p k)) (sheet a.ink.now a.page.now) (sheet y.new.ink y.new.page)) a.values.now a.room.now (omega (arith, c.requires.1, fit 0 (omega arith))) y.ensures })
