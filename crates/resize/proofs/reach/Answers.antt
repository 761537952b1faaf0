-- `resize::reach` meets its contract: the file grows, or keys give way and late blocks go.
use mathlib.Core.Path.{sym, ◌∙◌}
use native.Mathlib.Omega.{arith}
use Rattle.model.specs.Bytes.{view}
use Rattle.model.proofs.Laws.Grown.{height_le}
use Rattle.opening.proofs.EntryLaws.{height_small}
use Rattle.resize.proofs.Laws.{resized_more, key_more, resized_by, key_by}
use Rattle.resize.proofs.reach.Goals as goal

pub grow-requires : goal.grow-requires
grow-requires c = let p = c.requires in record { img_len = (p.img_len.0, p.img_len.1, p.img_len.2, p.img_len.4); height_bound = p.height_bound }

pub returns-then-eof-end : goal.returns-then-eof-end
returns-then-eof-end c =
    let a = c.args in
    let v = view a.img.now in record { img_after = c.grow.ensures.img_after ∙ sym (resized_more a.n v a.height a.key a.eof a.end c.if-eof-end.true); value = c.grow.ensures.value ∙ sym (key_more a.n v a.height a.key a.eof a.end c.if-eof-end.true) }

pub shrink-requires : goal.shrink-requires
shrink-requires c =
    let a = c.args in
    let p = c.requires.img_len in
    let low = height_le a.end a.eof (omega arith) in
    (p.0, rw p.1 (height_small a.eof), omega (arith, p.1, c.height_for-to.ensures.0), p.4)

pub returns : goal.returns
returns c =
    let a = c.args in
    let v = view a.img.now in
    let to = c.height_for-to.result in record {
      img_after = c.shrink.ensures.img_after
          ∙ resized_by a.n v a.height a.key a.eof a.end (omega arith) to c.span_of.result c.height_for-to.ensures.0 c.span_of.ensures;
      value = c.shrink.ensures.value ∙ key_by a.n v a.height a.key a.eof a.end (omega arith) to c.height_for-to.ensures.0;
    }
