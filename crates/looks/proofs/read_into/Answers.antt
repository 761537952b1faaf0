-- `looks::read_into` meets its contract.
use native.Mathlib.Omega.{arith}
use lib.ListN.{length}
use Rattle.model.specs.Bytes.{view}
use Rattle.looks.proofs.IntoLaws.{read_filled, into_reads}
use Rattle.looks.proofs.read_into.Goals as goal

pub returns : goal.returns
returns c =
    let a = c.args in
    let i = a.img.now in
    let p = a.path.now in
    into_reads (read_filled (length i) (view i) (view p) (length p) a.position 0xA5 a.buffer.now c.fill_run.new.dst (omega arith) c.fill_run.ensures c.read-answer.ensures)
    c.say_read.ensures
