-- `rename::put_names` meets its contract. Only a directory has a header.
use mathlib.Core.Path.{sym, ap, ◌∙◌}
use Prim.Native.Nat.{◌+◌, ◌*◌}
use native.Mathlib.Omega.{arith}
use lib.ListN.{length}
use Rattle.model.specs.Bytes.{view}
use Rattle.model.specs.Rename.{named}
use Rattle.rename.specs.Renamed.{named_in}
use Rattle.rename.proofs.RenameLaws.{headless}
use Rattle.rename.proofs.put_names.Goals as goal

pub put_new_name-requires-in-Directory : goal.put_new_name-requires-in-Directory
put_new_name-requires-in-Directory c =
    let h = c.requires.2 _ c.in-Directory.is in
    (omega (arith, h), omega arith)

pub returns-in-Directory : goal.returns-in-Directory
unfolding named_in
returns-in-Directory c =
    let a = c.args in
    let q = a.name.now in
    c.put_new_name-in-Directory.ensures
    ∙ ap (λ f. named f (c.in-Directory.key * 512 + 4) (view q) (length q)) c.put_new_name.ensures
    ∙ sym (ap (λ k. named_in k (named (view a.img.now) a.start (view q) (length q)) (view q) (length q)) c.in-Directory.is)

pub returns-in_default : goal.returns-in_default
returns-in_default c = c.put_new_name.ensures ∙ headless _ _ _ _ c.in_default.not-Directory
