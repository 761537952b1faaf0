-- `script::is_word` meets its contract.
use mathlib.Core.Path.{sym, ◌∙◌}
use borrow.Author.Tests.{lt-leb}
use lib.ListN.{length}
use Rattle.model.specs.Bytes.{view}
use Rattle.script.proofs.FieldLaws.{word_past, word_by}
use Rattle.script.proofs.is_word.Goals as goal

pub returns-then-end-line : goal.returns-then-end-line
returns-then-end-line c = let a = c.args in c.eq.ensures ∙ word_by a.line.now a.word.now a.end c.if-end-line.true

pub returns-else-end-line : goal.returns-else-end-line
returns-else-end-line c =
    let a = c.args in
    let h = c.if-end-line.false in
    lt-leb _ _ h ∙ sym (word_past (view a.line.now) (length a.line.now) a.end (view a.word.now) (length a.word.now) h)
