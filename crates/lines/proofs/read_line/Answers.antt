-- `lines::read_line` meets its contract.
use lib.ListN.{length}
use Rattle.model.specs.Bytes.{view}
use Rattle.lines.proofs.ReadLaws.{line_takes}
use Rattle.lines.proofs.read_line.Goals as goal

pub returns-then-read_fields-clause-takes : goal.returns-then-read_fields-clause-takes
returns-then-read_fields-clause-takes c =
    let s = c.args.line.now in
    rw c.if-read_fields.true at (line_takes (view s) (length s) _ _ c.word_end-end.ensures c.command_of-command.ensures _ _ _ _ _ c.forms_of.ensures c.read_fields.ensures.takes)

pub returns-else-read_fields-clause-takes : goal.returns-else-read_fields-clause-takes
returns-else-read_fields-clause-takes c =
    let s = c.args.line.now in
    rw c.if-read_fields.false at (line_takes (view s) (length s) _ _ c.word_end-end.ensures c.command_of-command.ensures _ _ _ _ _ c.forms_of.ensures c.read_fields.ensures.takes)
