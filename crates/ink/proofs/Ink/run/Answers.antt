-- `Ink::run` meets its contract. The invariant says what has been printed.
use native.Mathlib.Omega.{arith}
use mathlib.Core.Path.{sym}
use Rattle.std.proofs.lemmas.List.{take_all, take_more}
use Rattle.ink.proofs.InkLaws.{prints_none, prints_as, ◌then◌}
use Rattle.ink.proofs.Ink.run.Goals as goal

pub loop-byte-init : goal.loop-byte-init
loop-byte-init c = prints_none

pub loop-byte-preserved : goal.loop-byte-preserved
loop-byte-preserved c =
    let more = take_more c.args.bytes.now c.loop-byte.byte-index 0 c.loop-byte-test.true in
    prints_as (sym more) (c.loop-byte.invariant then c.byte.ensures)

pub returns : goal.returns
returns c = prints_as (take_all c.loop-byte.byte-index c.args.bytes.now (omega arith)) c.loop-byte.invariant
