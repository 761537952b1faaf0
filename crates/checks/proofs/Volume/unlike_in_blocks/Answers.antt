-- `checks::Volume::unlike_in_blocks` meets its contract. What is still to be compared decides.
use mathlib.Core.Path.{refl, sym, ap, ◌∙◌}
use native.Mathlib.Omega.{arith}
use lib.Dec.{eqb}
use Rattle.model.specs.Bytes.{◌and◌, view}
use Rattle.model.specs.Sound.{twins}
use Rattle.checks.proofs.Laws.{inside_chain, coming, coming_next, slots_chain, unlike_none}
use Rattle.checks.proofs.Volume.unlike_in_blocks.Goals as goal

pub loop-after-init : goal.loop-after-init
loop-after-init c = (coming (view c.args.self.now.img.now) c.args.self.now.n c.args.first c.args.blocks _ refl c.requires.inside, refl)

pub unlike_from-requires-clause-inside : goal.unlike_from-requires-clause-inside
unlike_from-requires-clause-inside c =
    let l = c.loop-after in
    (inside_chain (view c.args.self.now.img.now) c.args.self.now.n l.block l.after (omega arith) l.invariant.0.inside).1

pub returns-then-not-unlike_from : goal.returns-then-not-unlike_from
unfolding ◌and◌
returns-then-not-unlike_from c =
    let v = view c.args.self.now.img.now in
    let l = c.loop-after in
    let all = ap (λ s. eqb (twins v s) 0) (slots_chain v l.block l.after (omega arith)) ∙ c.unlike_from.ensures in
    sym (rw c.if-not-unlike_from.true at all) ∙ l.invariant.1

pub loop-after-preserved : goal.loop-after-preserved
unfolding ◌and◌
loop-after-preserved c =
    let v = view c.args.self.now.img.now in
    let l = c.loop-after in
    let all = ap (λ s. eqb (twins v s) 0) (slots_chain v l.block l.after (omega arith)) ∙ c.unlike_from.ensures in (
      coming_next v c.args.self.now.n l.block l.after _ _ c.next_of-block.ensures refl (omega arith) l.invariant.0.inside,
      rw c.next_of-block.ensures (sym (rw c.if-not-unlike_from.false at all) ∙ l.invariant.1),
    )

pub returns : goal.returns
returns c =
    let l = c.loop-after in
    sym (unlike_none (view c.args.self.now.img.now) l.block l.after (omega arith)) ∙ l.invariant.1
