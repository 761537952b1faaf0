-- `resize::set_end` meets its contract. What was used and free before, less what is free now, is used.
use mathlib.Core.Path.{◌∙◌}
use native.Mathlib.Omega.{arith}
use Rattle.model.specs.Bytes.{view}
use Rattle.model.specs.Directory.{map_place}
use Rattle.model.proofs.BitLaws.{room_le}
use Rattle.held.proofs.HeldLaws.{held_fit, held_tall, held_eof, held_slot}
use Rattle.resize.proofs.Laws.{room_left, end_noted}
use borrow.Author.Rules.{rules}
use Rattle.resize.proofs.set_end.Goals as goal

pub overflow_add-together : goal.overflow_add-together
overflow_add-together c =
    let a = c.args in
    let p = c.requires in
    let most = room_le map_place (view a.img.now) a.n in
    let small = p.img_len.3.ready.sound.small in
    let free = p.free_value.0 in
    search rules

pub reach-new_key-requires : goal.reach-new_key-requires
reach-new_key-requires c =
    let p = c.requires in
    let H = p.img_len.3 in
    let tall = p.height_value in record { img_len = (p.img_len.0, tall ∙ held_tall H, held_eof H, p.img_len.1, rw (tall, c.key_of-key.ensures) (held_fit H)); height_bound = rw (tall, ← p.free_value.0) p.free_value.1 }

pub note-requires : goal.note-requires
note-requires c =
    let a = c.args in
    let p = c.requires in
    let H = p.img_len.3 in
    let slot = held_slot H in record {
      le_n = (
        H.ready.sound.large,
        H.ready.sound.small,
        omega (arith, p.img_len.0),
        omega (arith, p.img_len.0, c.slot_at-at.ensures),
        c.height_for-new_height.ensures.1,
      );
      n_bound = room_left H a.eof p.img_len.1 a.free p.free_value.0 p.free_value.1 a.file.height c.key_of-key.result p.height_value c.key_of-key.ensures _ _ c.reach-new_key.ensures.img_after c.reach-new_key.ensures.value;
    }

pub returns : goal.returns
returns c =
    let a = c.args in
    let p = c.requires in
    c.note.ensures
    ∙ end_noted p.img_len.3 a.eof p.img_len.1 a.free p.free_value.0 p.free_value.1 a.file.height c.key_of-key.result p.height_value c.key_of-key.ensures _ _ c.reach-new_key.ensures.img_after c.reach-new_key.ensures.value c.slot_at-at.result c.height_for-new_height.result a.stamp c.slot_at-at.ensures c.height_for-new_height.ensures.0
