-- `script::take_pairs` meets its contract.
use mathlib.Core.Path.{sym, ◌∙◌}
use native.Mathlib.Omega.{arith}
use lib.ListN.{length}
use Rattle.model.specs.Bytes.{view}
use Rattle.model.proofs.ByteLaws.{paste_none}
use Rattle.script.proofs.FieldLaws.{size_odd, size_many, size_other, size_good}
use Rattle.script.proofs.take_pairs.Goals as goal
use Rattle.script.proofs.take_pairs.Goals.{then-digits-ne0-via-then-digits-ne0, then-digits-ne0-via-else-digits-ne0+then-room-count, then-digits-ne0-via-else-digits-ne0+else-room-count+then-not-all_digits}

pub returns-then-digits-ne0-clause-value : goal.returns-then-digits-ne0-clause-value
returns-then-digits-ne0-clause-value c =
    let a = c.args in
    elim c.then-digits-ne0.branch [
      | then-digits-ne0-via-then-digits-ne0 w ↦ sym (size_odd a.digits.now (length a.room.now) (λ e. omega arith))
      | then-digits-ne0-via-else-digits-ne0+then-room-count w ↦ sym (size_many a.digits.now (length a.room.now) (omega arith))
      | then-digits-ne0-via-else-digits-ne0+else-room-count+then-not-all_digits w ↦
          sym (size_other a.digits.now (length a.room.now) (sym w.all_digits.ensures ∙ w.if-not-all_digits.true))
    ]

pub returns-then-digits-ne0-clause-room_after : goal.returns-then-digits-ne0-clause-room_after
returns-then-digits-ne0-clause-room_after c = sym (paste_none (view c.args.room.now) 0 _)

pub returns-clause-value : goal.returns-clause-value
returns-clause-value c =
    let a = c.args in
    sym (size_good a.digits.now (length a.room.now) (omega arith) (omega arith) (sym c.all_digits.ensures ∙ c.if-not-all_digits.false) (omega arith))
