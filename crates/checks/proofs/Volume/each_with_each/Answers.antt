-- `checks::Volume::each_with_each` meets its contract. The slots behind the header, and those of the blocks after the first.
use mathlib.Core.Path.{sym, ap, ◌∙◌}
use Prim.Native.Nat.{◌-◌}
use native.Mathlib.Omega.{arith}
use Rattle.model.specs.Bytes.{◌and◌, view}
use Rattle.model.specs.Directory.{chain, slots}
use lib.Dec.{eqb}
use Rattle.model.specs.Sound.{twins}
use Rattle.checks.proofs.Laws.{inside_chain, entries_chain}
use Rattle.checks.proofs.Volume.each_with_each.Goals as goal

pub unlike_from-requires : goal.unlike_from-requires
unlike_from-requires c =
    let a = c.args in
    let self = a.self.now in
    let here = inside_chain (view self.img.now) self.n a.key a.used (omega arith) c.requires.inside in record { start = (omega arith, here.0); inside = here.1 }

pub unlike_in_blocks-requires : goal.unlike_in_blocks-requires
unlike_in_blocks-requires c =
    let a = c.args in
    let self = a.self.now in
    let after = (inside_chain (view self.img.now) self.n a.key a.used (omega arith) c.requires.inside).1 in record { inside = rw c.next_of.ensures after }

pub returns-then-unlike_from : goal.returns-then-unlike_from
unfolding ◌and◌
returns-then-unlike_from c =
    let a = c.args in
    let self = a.self.now in
    let v = view self.img.now in
    let all = ap (λ s. eqb (twins v s) 0) (entries_chain v a.key a.used (omega arith)) ∙ c.unlike_from.ensures in
    c.unlike_in_blocks.ensures
    ∙ ap (λ b. eqb (twins v (slots (chain v b (a.used - 1)))) 0) c.next_of.ensures
    ∙ sym (rw c.if-unlike_from.true at all)

pub returns-else-unlike_from : goal.returns-else-unlike_from
unfolding ◌and◌
returns-else-unlike_from c =
    let a = c.args in
    let self = a.self.now in
    let v = view self.img.now in
    let all = ap (λ s. eqb (twins v s) 0) (entries_chain v a.key a.used (omega arith)) ∙ c.unlike_from.ensures in
    c.if-unlike_from.false ∙ sym (rw c.if-unlike_from.false at all)
