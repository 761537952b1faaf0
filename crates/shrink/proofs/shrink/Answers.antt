-- `shrink::shrink` meets its contract. The keys that give way leave a tree that fits.
use native.Mathlib.Omega.{arith}
use Rattle.model.specs.Bytes.{view}
use Rattle.shrink.proofs.Laws.{sunk_fit}
use Rattle.shrink.proofs.shrink.Goals as goal

pub prune-requires : goal.prune-requires
prune-requires c =
    let a = c.args in
    let p = c.requires in
    let s = c.sink-heir.ensures in
    (omega arith, omega arith, sunk_fit a.n (view a.img.now) a.height a.key a.to p.3 p.2 _ _ s.img_after s.value)
