-- `script::take_field` meets its contract, form by form.
use mathlib.Core.Path.{◌≡◌, sym, ◌∙◌}
use native.Mathlib.Omega.{arith}
use Prim.Native.Nat.{◌-◌, ◌≤◌}
use mathlib.Core.List.{◌++◌}
use lib.ListN.{length, drop}
use lib.Seq.{length-take-le}
use borrow.Rule.Slice.PartMut.{put_mid}
use Rattle.model.specs.Bytes.{view}
use Rattle.model.proofs.ByteLaws.{length_part}
use Rattle.script.specs.Fields.{text_most, text_size, text_bytes, sized, put_text, field_room}
use Rattle.script.proofs.FormLaws.{part_pasted}
use Rattle.script.proofs.FitLaws.{text_sized}
use Rattle.script.proofs.take_field.Goals as goal

pub slice_bounds-take_text-end-in-84 : goal.slice_bounds-take_text-end-in-84
slice_bounds-take_text-end-in-84 c = sym (length-take-le 128 c.args.room.now (omega arith))

pub take_text-requires-clause-room_size : goal.take_text-requires-clause-room_size
take_text-requires-clause-room_size c = length-take-le 128 c.args.room.now (omega arith)

pub returns-in-84-clause-room_after : goal.returns-in-84-clause-room_after
unfolding field_room
returns-in-84-clause-room_after c =
    let a = c.args in
    let r = c.take_text in
    let len : length r.new.room ≡ 128 = r.auto.room ∙ length-take-le 128 a.room.now (omega arith) in
    let text : view (r.new.room ++ drop 128 a.room.now) ≡ put_text a.field.now (view a.room.now) 0 =
    part_pasted a.room.now r.new.room 0 128 _ (text_bytes a.field.now) (omega arith) len (text_sized a.field.now) r.ensures.room_after in
    rw c.in-84.is text

pub returns-in-83-clause-room_after : goal.returns-in-83-clause-room_after
unfolding field_room
returns-in-83-clause-room_after c =
    let a = c.args in
    let r = c.take_text-in-83 in
    let k = length a.room.now - 128 in
    let len : length r.new.room ≡ k = r.auto.room ∙ length_part a.room.now 128 k (omega arith) in
    let most : sized (text_size a.field.now) ≤ k = omega (arith, text_sized a.field.now) in
    let text : view (put_mid 128 k a.room.now r.new.room) ≡ put_text a.field.now (view a.room.now) text_most =
    part_pasted a.room.now r.new.room 128 k _ (text_bytes a.field.now) (omega arith) len most r.ensures.room_after in
    rw c.in-83.is text
