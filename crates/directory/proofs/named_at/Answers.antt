-- `directory::named_at` meets its contract: an active entry with the name is found; else nothing is.
use mathlib.Core.Path.{◌≡◌, sym, ◌∙◌}
use mathlib.Core.Bool.{true, false}
use Prim.Native.Nat.{◌+◌, ◌-◌}
use lib.ListN.{length}
use native.Mathlib.Omega.{arith}
use Rattle.model.specs.Bytes.{view}
use Rattle.model.specs.Names.{part, same_name}
use Rattle.model.specs.Directory.{at, sort}
use Rattle.directory.specs.Slots.{place_number}
use Rattle.directory.proofs.SlotLaws.{at_place, slot_named, says_none}
use Rattle.directory.proofs.SearchLaws.{found_here, found_other, found_inactive}
use Rattle.directory.proofs.named_at.Goals as goal

pub overflow_add-start : goal.overflow_add-start
overflow_add-start c = omega (arith, at_place c.args.place c.requires.0)

pub slice_bounds-same_name-end : goal.slice_bounds-same_name-end
slice_bounds-same_name-end c = omega (arith, at_place c.args.place c.requires.0)

pub returns-then-same_name : goal.returns-then-same_name
returns-then-same_name c =
    let a = c.args in
    let v = view a.img.now in
    let s = place_number a.place in
    let b = c.slot_at-start in
    let m : same_name v (at s) (view a.name.now) (part 0 (length a.name.now)) ≡ true =
    sym (slot_named a.img.now b.result (b.result + 39 - b.result) s b.ensures (omega arith) _ _) ∙ sym c.same_name.ensures ∙ c.if-same_name.true in
    found_here v _ _ a.place _ c.requires.0 (sym c.entry_at.ensures ∙ c.in-Active.is) m

pub returns-else-same_name : goal.returns-else-same_name
returns-else-same_name c =
    let a = c.args in
    let v = view a.img.now in
    let s = place_number a.place in
    let b = c.slot_at-start in
    let m : same_name v (at s) (view a.name.now) (part 0 (length a.name.now)) ≡ false =
    sym (slot_named a.img.now b.result (b.result + 39 - b.result) s b.ensures (omega arith) _ _) ∙ sym c.same_name.ensures ∙ c.if-same_name.false in
    found_other v _ _ a.place m

pub returns-in-Inactive : goal.returns-in-Inactive
returns-in-Inactive c =
    let a = c.args in
    let v = view a.img.now in
    found_inactive v _ _ a.place (says_none (sort v (place_number a.place)) _ _ c.requires.2.proper c.entry_at.ensures c.in-Inactive.is)
