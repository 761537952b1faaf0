-- `changes::run` meets its contract.
use mathlib.Core.Path.{refl}
use Rattle.std.proofs.Common.{rules}
use lib.ListN.{length}
use Rattle.model.specs.Bytes.{view}
use Rattle.lines.specs.Commands.{held}
use Rattle.changes.specs.Changes.{called, written, laid_in, changed}
use Rattle.changes.proofs.ChangeLaws.{does_leaves, writes_leaves}
use Rattle.changes.proofs.run.Goals as goal

pub returns-in-Call : goal.returns-in-Call
unfolding changed
returns-in-Call c =
    let a = c.args in
    let vs = a.values.now in
    let ts = a.room.now in
    let bs = a.buffer.now in
    let n = length a.img.now in
    let v = view a.img.now in
    rw c.in-Call.is (does_leaves {o = called c.in-Call.asked n v (held vs ts bs)} vs ts bs (c.call.ensures bs) (record { good = refl; page = c.say_answer.ensures }))

pub returns-in-Write : goal.returns-in-Write
unfolding changed
returns-in-Write c =
    let a = c.args in
    let vs = a.values.now in
    let ts = a.room.now in
    let bs = a.buffer.now in
    let n = length a.img.now in
    let v = view a.img.now in
    rw c.in-Write.is (writes_leaves (written n v (held vs ts bs)) bs refl c.write.ensures (record { good = refl; page = c.say_transfer.ensures }))

pub returns-in_err-set_run-in-SetRun : goal.returns-in_err-set_run-in-SetRun
unfolding changed laid_in
returns-in_err-set_run-in-SetRun c =
    let said = c.in_err-set_run-in-SetRun.ensures c.args.buffer.now in
    rw c.in-SetRun.is (search rules)

pub returns-in_ok-set_run-in-SetRun : goal.returns-in_ok-set_run-in-SetRun
unfolding changed laid_in
returns-in_ok-set_run-in-SetRun c = rw c.in-SetRun.is (c.in_ok-set_run-in-SetRun.ensures c.args.buffer.now)
