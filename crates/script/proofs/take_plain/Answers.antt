-- `script::take_plain` meets its contract.
use mathlib.Core.Path.{refl, sym, ap, ◌∙◌}
use mathlib.Core.List.{◌++◌}
use native.Mathlib.Omega.{arith}
use lib.ListN.{length, drop}
use Rattle.model.specs.Bytes.{view}
use Rattle.model.proofs.ByteLaws.{paste_none, view_part}
use Rattle.script.proofs.FieldLaws.{plain_many, plain_other, plain_good}
use Rattle.script.proofs.take_plain.Goals as goal
use Rattle.script.proofs.take_plain.Goals.{then-room-field-via-then-room-field, then-room-field-via-else-room-field+then-not-all_plain}

pub returns-then-room-field-clause-value : goal.returns-then-room-field-clause-value
returns-then-room-field-clause-value c =
    elim c.then-room-field.branch [
      | then-room-field-via-then-room-field w ↦ sym (plain_many c.args.field.now (omega arith))
      | then-room-field-via-else-room-field+then-not-all_plain w ↦
          sym (plain_other c.args.field.now (sym w.all_plain.ensures ∙ w.if-not-all_plain.true))
    ]

pub returns-then-room-field-clause-room_after : goal.returns-then-room-field-clause-room_after
returns-then-room-field-clause-room_after c = sym (paste_none (view c.args.room.now) 0 (view c.args.field.now))

pub returns-clause-value : goal.returns-clause-value
returns-clause-value c = sym (plain_good c.args.field.now (omega arith) (sym c.all_plain.ensures ∙ c.if-not-all_plain.false))

pub returns-clause-room_after : goal.returns-clause-room_after
returns-clause-room_after c =
    let a = c.args in
    let k = length a.field.now in
    ap (λ xs. view (xs ++ drop k a.room.now)) c.copy_from_slice.ensures.after ∙ view_part a.room.now a.field.now 0 k (omega arith) refl
