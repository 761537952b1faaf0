-- `checks::Volume::alone_ahead` meets its contract. The slots of the same block, and those of the blocks after it.
use mathlib.Core.Path.{sym, ap, ◌∙◌}
use Rattle.model.specs.Bytes.{◌and◌, view}
use Rattle.model.specs.Directory.{chain, slots}
use lib.Dec.{eqb}
use Rattle.model.specs.Sound.{twins_of}
use Rattle.checks.proofs.Laws.{alone_append}
use Rattle.checks.proofs.Volume.alone_ahead.Goals as goal

pub returns-then-alone_between : goal.returns-then-alone_between
unfolding ◌and◌
returns-then-alone_between c =
    let a = c.args in
    let self = a.self.now in
    let v = view self.img.now in
    let here = sym c.alone_between.ensures ∙ c.if-alone_between.true in
    rw (alone_append, here)
    (c.alone_in_blocks.ensures ∙ ap (λ b. eqb (twins_of v a.place (slots (chain v b a.after))) 0) c.next_of.ensures)

pub returns-else-alone_between : goal.returns-else-alone_between
unfolding ◌and◌
returns-else-alone_between c = let here = sym c.alone_between.ensures ∙ c.if-alone_between.false in rw (alone_append, here) c.if-alone_between.false
