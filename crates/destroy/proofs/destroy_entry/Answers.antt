-- `destroy::destroy_entry` meets its contract. The refusal changes nothing; else each store is one layer of the definition.
use Rattle.destroy.proofs.Laws.{gone_image}
use native.Mathlib.Omega.{arith}
use mathlib.Core.Path.{◌≡◌, sym, ◌∙◌}
use lib.ListN.{length}
use Rattle.model.specs.Bytes.{view}
use Rattle.model.specs.Directory.{at}
use Rattle.directory.specs.Slots.{place_number}
use Rattle.directory.proofs.SlotLaws.{at_place}
use Rattle.destroy.proofs.Laws.{gone_no, gone_yes}
use Rattle.destroy.proofs.destroy_entry.Goals as goal

pub may_destroy-requires : goal.may_destroy-requires
may_destroy-requires c = (c.requires.0, c.requires.1.keyed)

pub returns-then-not-may_destroy : goal.returns-then-not-may_destroy
returns-then-not-may_destroy c =
    let a = c.args in
    gone_no a.img.now a.home.key (at (place_number a.place)) a.entry (sym c.may_destroy.ensures ∙ c.if-not-may_destroy.true)

pub get_word-count-requires : goal.get_word-count-requires
get_word-count-requires c = omega (arith, c.requires.1.headed)

pub give_blocks-requires : goal.give_blocks-requires
give_blocks-requires c = (c.requires.0, c.requires.1.loose)

pub overflow_sub-count : goal.overflow_sub-count
overflow_sub-count c = omega (arith, c.requires.1.counts, c.get_word-count.ensures.value)

pub put_word-requires : goal.put_word-requires
put_word-requires c = omega (arith, c.requires.1.headed)

pub slot_at-requires : goal.slot_at-requires
slot_at-requires c = c.requires.1.counted

pub put_byte-requires : goal.put_byte-requires
put_byte-requires c =
    let a = c.args in
    omega (arith, c.slot_at.ensures, at_place a.place c.requires.1.counted, c.requires.1.inside, c.requires.1.counted)

pub returns : goal.returns
returns c =
    let a = c.args in
    let v = view a.img.now in
    let start = at (place_number a.place) in
    let g = c.give_blocks in
    let w = c.put_word in
    let b = c.put_byte in
    let image = gone_image v a.home.key start a.entry c.get_word-count.result c.slot_at.result (view g.new.img) (view w.new.img) (view b.new.img)
    c.get_word-count.ensures.value c.slot_at.ensures g.ensures w.ensures b.ensures in
    let size : length b.new.img ≡ length a.img.now = omega arith in
    gone_yes a.img.now a.home.key start a.entry (sym c.may_destroy.ensures ∙ c.if-not-may_destroy.false) b.new.img size image
