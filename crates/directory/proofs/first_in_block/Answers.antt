-- `directory::first_in_block` meets its contract: the slots from `slot` on decide.
use mathlib.Core.Path.{sym, ap, ◌∙◌}
use native.Mathlib.Omega.{arith}
use Rattle.directory.specs.Search.{first_of}
use Rattle.directory.proofs.SearchLaws.{first_one, walk_ends, walk_goes_on, slot_among, slots_more, slots_done}
use Rattle.directory.proofs.first_in_block.Goals as goal

pub look-answer-requires : goal.look-answer-requires
look-answer-requires g c =
    c.requires.callable _ (omega arith, omega arith) (slot_among c.args.block c.args.first c.loop-slot.slot (omega arith) (omega arith) (omega arith))

pub returns-then-is_some : goal.returns-then-is_some
returns-then-is_some g c = λ f t.
    let s = c.loop-slot.slot in
    let e = t (record { block = c.args.block; slot = s }) _ (omega arith, omega arith) c.look-answer.ensures in
    walk_ends f _ _ _ (slots_more c.args.block s (omega arith) (omega arith)) _ _ (c.loop-slot.invariant f t) (first_one f _ _ e) (sym c.is_some.ensures ∙ c.if-is_some.true)

pub loop-slot-preserved : goal.loop-slot-preserved
loop-slot-preserved g c = λ f t.
    let s = c.loop-slot.slot in
    let e = t (record { block = c.args.block; slot = s }) _ (omega arith, omega arith) c.look-answer.ensures in
    walk_goes_on f _ _ _ (slots_more c.args.block s (omega arith) (omega arith)) _ _ (c.loop-slot.invariant f t) (first_one f _ _ e) (sym c.is_some.ensures ∙ c.if-is_some.false)

pub returns : goal.returns
unfolding first_of
returns g c = λ f t. sym (c.loop-slot.invariant f t ∙ ap (first_of f) (slots_done c.args.block c.loop-slot.slot (omega arith)))
