-- `player::command` meets its contract: a line that is too long, one with a bad field, and one that is obeyed.
use Rattle.player.proofs.PlayedLaws.{leaves_as, commanded_long, commanded_bad, commanded_good}
use Rattle.ink.proofs.InkLaws.{prints_none}
use mathlib.Core.Bool.{true, false}
use mathlib.Core.Path.{refl}
use Rattle.player.proofs.command.Goals as goal

pub returns-then-line-gt-LONGEST_LINE-clause-leaves : goal.returns-then-line-gt-LONGEST_LINE-clause-leaves
returns-then-line-gt-LONGEST_LINE-clause-leaves c = leaves_as (commanded_long _ _ _ _ c.if-line-gt-LONGEST_LINE.true) (record { size = refl; good = refl; image = refl; buffer = refl; page = prints_none })

pub returns-in_default-clause-leaves : goal.returns-in_default-clause-leaves
returns-in_default-clause-leaves c = let a = c.args in
    leaves_as (commanded_bad a.line.now a.image.now a.buffer.now a.page.now a.size a.ink.now.at c.if-line-gt-LONGEST_LINE.false false _ _ _ c.in_default.ensures.takes refl)
    (record { size = refl; good = refl; image = refl; buffer = refl; page = prints_none })

pub returns-clause-leaves : goal.returns-clause-leaves
returns-clause-leaves c = let a = c.args in
    let o = c.obey in
    commanded_good a.line.now a.image.now a.buffer.now a.page.now a.size a.ink.now.at c.if-line-gt-LONGEST_LINE.false true _ _ _ c.in-Ok.ensures.takes c.in-Ok.asked o.result _ _ _ _ _ refl c.in-Ok.ensures.command_value c.read_line.auto.buffer o.ensures.leaves
