-- `create::create_behind` meets its contract. $49 and $48 change nothing; else the directory gains the lowest free block, and the entry goes to its first slot.
use native.Mathlib.Omega.{arith}
use Prim.Native.Nat.{ℕ, ◌≤◌, ◌<◌}
use mathlib.Core.Path.{◌≡◌}
use lib.ListN.{length}
use Rattle.model.specs.Bytes.{view}
use Rattle.model.specs.Names.{part}
use Rattle.model.specs.Map.{map_blocks, room}
use Rattle.model.specs.Directory.{map_place, volume}
use Rattle.model.specs.declared.Refusal.TheVariants.{DirectoryFull, NoRoom}
use Rattle.directory.specs.Slots.{place_number}
use Rattle.directory.proofs.SlotLaws.{at_place, place_one}
use Rattle.create.specs.Entered.{asked}
use Rattle.create.proofs.EnteredLaws.{full_volume, full_none, full_room, in_no, in_yes, found_lowest, found_low, full_gained, full_image}
use Rattle.create.proofs.create_behind.Goals as goal

pub returns-then-home-eq-VOLUME_BLOCK : goal.returns-then-home-eq-VOLUME_BLOCK
returns-then-home-eq-VOLUME_BLOCK c =
    let a = c.args in
    let d : ℕ = place_number a.home.place in
    in_no a.n a.img.now d (view a.name.now) (part 0 (length a.name.now)) (asked a.wanted) DirectoryFull
    (full_volume a.n (view a.img.now) d c.requires.packed (c.requires.whole.3.top c.if-home-eq-VOLUME_BLOCK.true))

pub free_blocks-requires : goal.free_blocks-requires
unfolding map_blocks
free_blocks-requires c = (omega arith, omega arith)

pub returns-then-free_blocks-lt2 : goal.returns-then-free_blocks-lt2
returns-then-free_blocks-lt2 c =
    let a = c.args in
    let v = view a.img.now in
    let d : ℕ = place_number a.home.place in
    let few : room map_place v a.n < 2 = omega (arith, c.free_blocks.ensures.0) in
    in_no a.n a.img.now d (view a.name.now) (part 0 (length a.name.now)) (asked a.wanted) NoRoom
    (full_none a.n v d c.requires.packed (λ z. c.if-home-eq-VOLUME_BLOCK.false (c.requires.whole.3.head_block z)) few)

pub first_free-more-requires : goal.first_free-more-requires
unfolding map_blocks
first_free-more-requires c = (omega arith, omega arith, omega arith)

pub gain-requires : goal.gain-requires
gain-requires c =
    let a = c.args in
    let v = view a.img.now in
    let H = c.requires.whole.3 in
    let room : 1 ≤ room map_place v a.n = omega (arith, c.free_blocks.ensures.0) in
    let low = found_low a.n v c.first_free-more.result c.first_free-more.ensures.0 room in
    let last : c.last_block-last.result < a.n = rw c.last_block-last.ensures H.behind in
    let own = at_place a.home.place H.counted in record { in_bounds = (omega arith, omega arith, omega arith, omega arith); start_in_bounds = (omega (arith, c.slot_at.ensures, H.inside, H.counted), omega arith) }

pub first_free-z-requires : goal.first_free-z-requires
unfolding map_blocks
first_free-z-requires c = (omega (arith, c.requires.whole.0), omega arith, omega (arith, c.requires.whole.0))

pub overflow_cast-place : goal.overflow_cast-place
overflow_cast-place c =
    let a = c.args in
    let v = view a.img.now in
    let room : 1 ≤ room map_place v a.n = omega (arith, c.free_blocks.ensures.0, c.if-free_blocks-lt2.false) in
    let low = found_low a.n v c.first_free-more.result c.first_free-more.ensures.0 room in
    omega (arith, c.requires.whole.0)

pub enter-requires : goal.enter-requires
enter-requires c =
    let a = c.args in
    let v = view a.img.now in
    let d : ℕ = place_number a.home.place in
    let H = c.requires.whole.3 in
    let x = part 0 (length a.name.now) in
    let p = view a.name.now in
    let f = c.first_free-more in
    let g = c.gain in
    let f' = c.first_free-z in
    let off : d ≡ volume → ⊥ = λ z. c.if-home-eq-VOLUME_BLOCK.false (H.head_block z) in
    let more : 2 ≤ room map_place v a.n = omega (arith, c.free_blocks.ensures.0, c.if-free_blocks-lt2.false) in
    let low = found_low a.n v f.result f.ensures.0 (omega arith) in
    let gained = full_gained a.n v a.home d H p x (asked a.wanted) c.requires.packed off more c.slot_at.result c.last_block-last.result f.result (view g.new.img)
    c.slot_at.ensures c.last_block-last.ensures (found_lowest a.n v f.result f.ensures.0) g.ensures in
    let kept = H.room_kept off c.requires.packed more in
    let low' : f'.result < a.n = rw (found_lowest a.n (view g.new.img) f'.result f'.ensures.0, gained) kept in
    let size = g.auto.img in
    let whole = c.requires.whole.0 in record { in_bounds = (omega (arith, whole, size), omega (arith, whole), omega (arith, whole, size), c.requires.whole.1, (omega arith, omega arith)); key_in_bounds = (omega (arith, whole, size, H.head), omega (arith, whole, size), c.requires.whole.2) }

pub returns : goal.returns
returns c =
    let a = c.args in
    let v = view a.img.now in
    let d : ℕ = place_number a.home.place in
    let H = c.requires.whole.3 in
    let x = part 0 (length a.name.now) in
    let p = view a.name.now in
    let f = c.first_free-more in
    let g = c.gain in
    let f' = c.first_free-z in
    let e = c.enter in
    let off : d ≡ volume → ⊥ = λ z. c.if-home-eq-VOLUME_BLOCK.false (H.head_block z) in
    let more : 2 ≤ room map_place v a.n = omega (arith, c.free_blocks.ensures.0, c.if-free_blocks-lt2.false) in
    let lowest = found_lowest a.n v f.result f.ensures.0 in
    let gained = full_gained a.n v a.home d H p x (asked a.wanted) c.requires.packed off more c.slot_at.result c.last_block-last.result f.result (view g.new.img)
    c.slot_at.ensures c.last_block-last.ensures lowest g.ensures in
    let image = full_image a.n v a.home d H p x (asked a.wanted) c.requires.packed off more (view g.new.img) _ f.result f'.result (view e.new.img)
    gained lowest (place_one f.result) (found_lowest a.n (view g.new.img) f'.result f'.ensures.0) e.ensures in
    let size : length e.new.img ≡ length a.img.now = omega arith in
    in_yes a.n a.img.now d p x (asked a.wanted) (full_room a.n v d c.requires.packed off more) e.new.img size image
