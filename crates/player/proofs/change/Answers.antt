-- `player::change` meets its contract. The image is lent as the first part of its room.
use lib.ListN.{length}
use mathlib.Core.Path.{refl}
use Rattle.std.proofs.Common.{rules}
use Rattle.lines.specs.Commands.{held}
use Rattle.changes.specs.Changes.{changed}
use Rattle.player.specs.Played.{obeyed}
use Rattle.player.proofs.PlayedLaws.{on_image_law, changed_back}
use Rattle.player.proofs.change.Goals as goal

pub returns-in_err-run-clause-leaves : goal.returns-in_err-run-clause-leaves
unfolding obeyed
returns-in_err-run-clause-leaves c = let a = c.args in
    let fits = c.requires.2 in
    on_image_law a.image.now a.size fits (λ n v. changed a.change n v (length a.buffer.now) (held a.values.now a.room.now a.buffer.now)) a.ink.now.at a.buffer.now a.page.now _ (changed_back a.image.now a.size fits c.run.new.img c.run.auto.img) (search rules) (search rules) c.in_err-run.ensures

pub returns-clause-leaves : goal.returns-clause-leaves
unfolding obeyed
returns-clause-leaves c = let a = c.args in
    let fits = c.requires.2 in
    on_image_law a.image.now a.size fits (λ n v. changed a.change n v (length a.buffer.now) (held a.values.now a.room.now a.buffer.now)) a.ink.now.at a.buffer.now a.page.now _ (changed_back a.image.now a.size fits c.run.new.img c.run.auto.img) refl refl c.in_ok-run.ensures
