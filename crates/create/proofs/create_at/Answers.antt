-- `create::create_at` meets its contract. $48 changes nothing; else the entry of the definition.
use native.Mathlib.Omega.{arith}
use Prim.Native.Nat.{ℕ, ◌≤◌, ◌<◌}
use mathlib.Core.Path.{◌≡◌}
use lib.ListN.{length}
use Rattle.model.specs.Bytes.{view}
use Rattle.model.specs.Names.{part}
use Rattle.model.specs.Map.{map_blocks, room}
use Rattle.model.specs.Directory.{map_place}
use Rattle.model.specs.declared.Refusal.TheVariants.{NoRoom}
use Rattle.directory.specs.Slots.{place_number}
use Rattle.create.specs.Entered.{asked}
use Rattle.create.proofs.EnteredLaws.{slot_none, slot_room, in_no, in_yes, found_lowest, found_low, slot_inside, slot_image}
use Rattle.create.proofs.create_at.Goals as goal

pub free_blocks-requires : goal.free_blocks-requires
unfolding map_blocks
free_blocks-requires c = (omega arith, omega arith)

pub returns-then-free_blocks-lt1 : goal.returns-then-free_blocks-lt1
returns-then-free_blocks-lt1 c =
    let a = c.args in
    let v = view a.img.now in
    let d : ℕ = place_number a.home.place in
    let few : room map_place v a.n < 1 = omega (arith, c.free_blocks.ensures.0) in
    in_no a.n a.img.now d (view a.name.now) (part 0 (length a.name.now)) (asked a.wanted) NoRoom
    (slot_none a.n v d (place_number a.place) c.requires.vacant.0 few)

pub first_free-z-requires : goal.first_free-z-requires
unfolding map_blocks
first_free-z-requires c = (omega arith, omega arith, omega arith)

pub enter-requires : goal.enter-requires
enter-requires c =
    let a = c.args in
    let v = view a.img.now in
    let H = c.requires.whole.3 in
    let room : 1 ≤ room map_place v a.n = omega (arith, c.free_blocks.ensures.0) in
    let low = found_low a.n v c.first_free-z.result c.first_free-z.ensures.0 room in
    let inside = slot_inside a.n v a.home (place_number a.home.place) H (view a.name.now) (part 0 (length a.name.now)) (asked a.wanted) a.place c.requires.vacant.0 c.requires.vacant.1 in record { in_bounds = (omega arith, omega arith, omega arith, c.requires.whole.1, c.requires.vacant.1); key_in_bounds = (omega (arith, H.head), omega arith, c.requires.whole.2) }

pub returns : goal.returns
returns c =
    let a = c.args in
    let v = view a.img.now in
    let d : ℕ = place_number a.home.place in
    let x = part 0 (length a.name.now) in
    let e = c.enter in
    let z = c.first_free-z in
    let room : 1 ≤ room map_place v a.n = omega (arith, c.free_blocks.ensures.0) in
    let low = found_lowest a.n v z.result z.ensures.0 in
    let image = slot_image a.n v a.home d c.requires.whole.3 (view a.name.now) x (asked a.wanted) (place_number a.place) z.result (view e.new.img) c.requires.vacant.0 low e.ensures in
    let size : length e.new.img ≡ length a.img.now = omega arith in
    in_yes a.n a.img.now d (view a.name.now) x (asked a.wanted) (slot_room a.n v d (place_number a.place) c.requires.vacant.0 room) e.new.img size image
