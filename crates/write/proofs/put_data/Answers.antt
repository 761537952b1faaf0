-- `write::put_data` meets its contract: grown, poured, and the entry written anew.
use Prim.Native.Nat.{◌+◌, ◌-◌, ◌/◌, ◌≤◌}
use mathlib.Core.Path.{◌≡◌, ap, ◌∙◌}
use lib.ListN.{length}
use Rattle.model.specs.Bytes.{view}
use Rattle.model.specs.Map.{room}
use Rattle.model.specs.Directory.{map_place, at, used}
use Rattle.model.specs.File.{height_for}
use Rattle.model.specs.Grow.{need}
use Rattle.model.specs.Write.{poured, touched}
use Rattle.model.proofs.BitLaws.{room_le}
use Rattle.growth.specs.Growth.{noted_as}
use Rattle.directory.specs.Slots.{place_number}
use Rattle.held.proofs.HeldLaws.{held_fit, held_tall, held_eof, held_slot}
use Rattle.write.proofs.WorkLaws.{keys_enough, held_works}
use native.Mathlib.Omega.{arith}
use Rattle.write.proofs.put_data.Goals as goal

pub overflow_add-together : goal.overflow_add-together
overflow_add-together c =
    let a = c.args in
    omega (arith, c.requires.free_value.0, room_le map_place (view a.img.now) a.n, (held_fit c.requires.img_len.2).small)

pub slot_at-at-requires : goal.slot_at-at-requires
slot_at-at-requires c = c.requires.img_len.1

pub grow-new_key-requires : goal.grow-new_key-requires
grow-new_key-requires c =
    let a = c.args in
    let H = c.requires.img_len.2 in
    let hh = c.requires.height_value in
    let kk = c.key_of-key.ensures in
    let v = view a.img.now in
    let e : need v a.file.height c.key_of-key.result (height_for c.largest-end.result) (a.position / 512) (touched a.position (length a.buffer.now)) ≤ room map_place v a.n =
    rw (hh, kk, c.largest-end.ensures, ← c.requires.free_value.0) c.requires.free_value.1 in record { img_len = (c.requires.img_len.0, hh ∙ held_tall H, held_eof H, rw (hh, kk) (held_fit H)); height_bound = keys_enough a.n v a.file.height c.key_of-key.result c.largest-end.result a.position (length a.buffer.now) e }

pub pour-requires : goal.pour-requires
pour-requires c =
    let a = c.args in
    let H = c.requires.img_len.2 in
    let b = a.buffer.now in
    let W = held_works H a.file.height _ _ a.position (length b) a.free (view b) (λ x. omega (arith, c.type_inv.buffer x)) c.requires.buffer_nonzero.0 c.requires.buffer_nonzero.1 c.requires.height_value c.key_of-key.ensures c.largest-end.ensures c.requires.free_value.0 c.requires.free_value.1 a.stamp _ _ c.grow-new_key.ensures.img_after c.grow-new_key.ensures.value in
    record { img_len = (omega arith, c.requires.buffer_nonzero.0, c.requires.buffer_nonzero.1); pourable = rw c.height_for-goal.ensures.0 W.pourable }

pub note-requires : goal.note-requires
note-requires c =
    let a = c.args in
    let H = c.requires.img_len.2 in
    let v = view a.img.now in
    let b = a.buffer.now in
    let W = held_works H a.file.height _ _ a.position (length b) a.free (view b) (λ x. omega (arith, c.type_inv.buffer x)) c.requires.buffer_nonzero.0 c.requires.buffer_nonzero.1 c.requires.height_value c.key_of-key.ensures c.largest-end.ensures c.requires.free_value.0 c.requires.free_value.1 a.stamp _ _ c.grow-new_key.ensures.img_after c.grow-new_key.ensures.value in
    let y = c.pour.ensures ∙ ap (λ g. poured map_place a.n (view c.grow-new_key.new.img) g c.grow-new_key.result (a.position / 512) (touched a.position (length b)) a.position (view b) (length b)) c.height_for-goal.ensures.0 in
    record { le_n = (H.ready.sound.large, H.ready.sound.small, omega (arith, c.requires.img_len.0), omega (arith, c.requires.img_len.0, c.slot_at-at.ensures, held_slot H), c.height_for-goal.ensures.1); n_bound = omega (arith, W.left _ y, H.uses, c.requires.free_value.0) }

pub returns : goal.returns
returns c =
    let a = c.args in
    let H = c.requires.img_len.2 in
    let v = view a.img.now in
    let b = a.buffer.now in
    let W = held_works H a.file.height _ _ a.position (length b) a.free (view b) (λ x. omega (arith, c.type_inv.buffer x)) c.requires.buffer_nonzero.0 c.requires.buffer_nonzero.1 c.requires.height_value c.key_of-key.ensures c.largest-end.ensures c.requires.free_value.0 c.requires.free_value.1 a.stamp _ _ c.grow-new_key.ensures.img_after c.grow-new_key.ensures.value in
    let y = c.pour.ensures ∙ ap (λ g. poured map_place a.n (view c.grow-new_key.new.img) g c.grow-new_key.result (a.position / 512) (touched a.position (length b)) a.position (view b) (length b)) c.height_for-goal.ensures.0 in
    let u : a.file.entry.used + a.free ≡ used v (place_number a.file.place) + room map_place v a.n = omega (arith, H.uses, c.requires.free_value.0) in
    let z = view c.pour.new.img in
    c.note.ensures
    ∙ ap (λ m. noted_as z c.slot_at-at.result c.height_for-goal.result c.grow-new_key.result (m - room map_place z a.n) c.largest-end.result a.stamp) u
    ∙ ap (λ m. noted_as z m c.height_for-goal.result c.grow-new_key.result (used v (place_number a.file.place) + room map_place v a.n - room map_place z a.n) c.largest-end.result a.stamp) c.slot_at-at.ensures
    ∙ ap (λ m. noted_as z (at (place_number a.file.place)) m c.grow-new_key.result (used v (place_number a.file.place) + room map_place v a.n - room map_place z a.n) c.largest-end.result a.stamp) c.height_for-goal.ensures.0
    ∙ W.all _ y a.stamp
