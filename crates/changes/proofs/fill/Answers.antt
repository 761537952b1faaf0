-- `changes::fill` meets its contract.
use mathlib.Core.Path.{refl}
use native.Mathlib.Omega.{arith}
use lib.ListN.{length}
use borrow.Author.Tests.{le-leb, lt-leb}
use Rattle.model.specs.Bytes.{view}
use Rattle.lines.specs.Commands.{held}
use Rattle.lines.proofs.LeftLaws.{none_leaves, if_so, if_not}
use Rattle.changes.specs.Changes.{written, filled}
use Rattle.changes.proofs.ChangeLaws.{writes_leaves}
use Rattle.changes.proofs.fill.Goals as goal

pub returns-then-buffer-count : goal.returns-then-buffer-count
unfolding filled
returns-then-buffer-count c =
    let a = c.args in
    if_not _ _ _ (lt-leb (view a.values.now 4) (length a.buffer.now) (omega arith)) (none_leaves refl)

pub returns : goal.returns
unfolding filled
returns c =
    let a = c.args in
    let vs = a.values.now in
    let bs = a.buffer.now in
    let o = written (length a.img.now) (view a.img.now) (held vs a.room.now bs) in
    if_so _ _ _ (le-leb (view vs 4) (length bs) (omega arith)) (writes_leaves o c.fill_run.new.dst c.fill_run.ensures c.write.ensures (record { good = refl; page = c.say_transfer.ensures }))
