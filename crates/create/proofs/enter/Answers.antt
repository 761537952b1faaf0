-- `create::enter` meets its contract. Each store is one layer of the definition; the entry is pasted as the 39 bytes that were lent.
use native.Mathlib.Omega.{arith}
use Prim.Native.Nat.{ℕ, ◌+◌, ◌-◌, ◌≤◌}
use mathlib.Core.Path.{◌≡◌, ◌∙◌}
use lib.ListN.{length}
use Rattle.model.specs.Bytes.{view}
use Rattle.model.specs.Names.{part}
use Rattle.model.specs.Create.{entry_bytes}
use Rattle.model.proofs.ByteLaws.{length_part}
use Rattle.directory.specs.Slots.{place_number}
use Rattle.directory.proofs.SlotLaws.{at_place}
use Rattle.entries.proofs.Laws.{slot_back}
use Rattle.create.specs.Entered.{asked}
use Rattle.create.proofs.EnteredLaws.{entered_image}
use Rattle.create.proofs.enter.Goals as goal

pub returns : goal.returns
returns c =
    let a = c.args in
    let s = c.slot_at-start in
    let o = c.open_block in
    let w = c.put_word in
    let h = c.write_entry in
    let xs = w.new.img in
    let ys = h.new.slot in
    let start : ℕ = s.result in
    let k : ℕ = start + 39 - start in
    let x = part 0 (length a.name.now) in
    let inside = at_place a.place c.requires.in_bounds.4 in
    let fits : start + k ≤ length xs = omega (arith, s.ensures, c.requires.key_in_bounds.1, c.requires.in_bounds.4) in
    let size : length ys ≡ k = h.auto.slot ∙ length_part xs start k fits in
    let back = slot_back xs ys start k (entry_bytes (view a.name.now) x (asked a.wanted) a.z a.key) (omega arith) (omega arith) size h.ensures in
    entered_image (view a.img.now) a.z (place_number a.place) (view a.name.now) x (asked a.wanted) a.key c.get_word-count.result start (view o.new.img) (view xs) _
    c.get_word-count.ensures.value s.ensures o.ensures w.ensures back
