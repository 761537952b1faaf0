-- `player::obey` meets its contract, by the command.
use Rattle.player.specs.Played.{rooms, stage, obeyed}
use Rattle.player.proofs.PlayedLaws.{renewed_leaves, obeyed_by}
use Rattle.lines.specs.Commands.{held}
use Rattle.ink.proofs.InkLaws.{prints_none}
use mathlib.Core.Path.{refl}
use Rattle.player.proofs.obey.Goals as goal

pub returns-in-Blocks-clause-leaves : goal.returns-in-Blocks-clause-leaves
unfolding obeyed
returns-in-Blocks-clause-leaves c = let a = c.args in
    let r = rooms a.image.now a.buffer.now a.page.now in
    let t = stage a.size a.ink.now.at a.image.now a.buffer.now a.page.now in
    obeyed_by r t (held a.values.now a.room.now a.buffer.now) c.in-Blocks.is (renewed_leaves a.image.now a.buffer.now a.page.now _ a.size a.ink.now.at c.renew.ensures.renews)

pub returns-in-Bytes-clause-leaves : goal.returns-in-Bytes-clause-leaves
unfolding obeyed
returns-in-Bytes-clause-leaves c = let a = c.args in
    let r = rooms a.image.now a.buffer.now a.page.now in
    let t = stage a.size a.ink.now.at a.image.now a.buffer.now a.page.now in
    obeyed_by r t (held a.values.now a.room.now a.buffer.now) c.in-Bytes.is (renewed_leaves a.image.now a.buffer.now a.page.now _ a.size a.ink.now.at c.renew-in-Bytes.ensures.renews)

pub returns-in-Unknown-clause-leaves : goal.returns-in-Unknown-clause-leaves
unfolding obeyed
returns-in-Unknown-clause-leaves c = let a = c.args in
    let r = rooms a.image.now a.buffer.now a.page.now in
    let t = stage a.size a.ink.now.at a.image.now a.buffer.now a.page.now in
    obeyed_by r t (held a.values.now a.room.now a.buffer.now) c.in-Unknown.is (record { size = refl; good = refl; image = refl; buffer = refl; page = prints_none })
