-- `create::open_block` meets its contract. A directory's header is pasted into its block as the 39 bytes that were lent.
use native.Mathlib.Omega.{arith}
use Prim.Native.Nat.{ℕ, ◌+◌, ◌-◌, ◌*◌}
use mathlib.Core.Path.{◌≡◌, ◌∙◌}
use lib.ListN.{length}
use Rattle.model.specs.Bytes.{view}
use Rattle.model.specs.Names.{part}
use Rattle.model.specs.Create.{subdirectory_header}
use Rattle.model.proofs.ByteLaws.{length_part}
use Rattle.directory.specs.Slots.{place_number}
use Rattle.entries.proofs.Laws.{slot_back}
use Rattle.create.specs.Entered.{asked}
use Rattle.create.proofs.EnteredLaws.{fresh_directory}
use Rattle.create.proofs.open_block.Goals as goal

pub returns-then-wanted-eq-DIRECTORY : goal.returns-then-wanted-eq-DIRECTORY
returns-then-wanted-eq-DIRECTORY c =
    let a = c.args in
    let t = c.take in
    let h = c.write_subdirectory_header in
    let xs = t.new.img in
    let ys = h.new.slot in
    let start : ℕ = a.z * 512 + 4 in
    let k : ℕ = start + 39 - start in
    let x = part 0 (length a.name.now) in
    let size : length ys ≡ k = h.auto.slot ∙ length_part xs start k (omega arith) in
    let back = slot_back xs ys start k (subdirectory_header (view a.name.now) x a.wanted.stamp (place_number a.place)) (omega arith) (omega arith) size h.ensures in
    fresh_directory (view a.img.now) a.z (place_number a.place) (view a.name.now) x (asked a.wanted) c.if-wanted-eq-DIRECTORY.true (view xs) _ t.ensures back
