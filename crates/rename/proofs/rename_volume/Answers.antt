-- `rename::rename_volume` meets its contract. The access bit, then the name.
use mathlib.Core.Path.{sym, ◌∙◌}
use lib.ListN.{length}
use Rattle.model.specs.Bytes.{view}
use Rattle.model.specs.Directory.{at}
use Rattle.rename.proofs.RenameLaws.{volume_locked, volume_done}
use Rattle.rename.proofs.rename_volume.Goals as goal

pub returns-then-not-allows : goal.returns-then-not-allows
unfolding at
returns-then-not-allows c =
    let a = c.args in
    volume_locked a.img.now (view a.name.now) (length a.name.now) (sym c.allows.ensures ∙ c.if-not-allows.true)

pub returns : goal.returns
unfolding at
returns c =
    let a = c.args in
    volume_done a.img.now (view a.name.now) (length a.name.now) _ (sym c.allows.ensures ∙ c.if-not-allows.false)
    c.put_new_name.auto.img c.put_new_name.ensures
