-- `script::read_field` meets its contract.
use mathlib.Core.Path.{sym, ap, ◌∙◌}
use Prim.Native.Nat.{◌+◌, ◌-◌}
use native.Mathlib.Omega.{arith}
use lib.ListN.{length, drop, take}
use Rattle.model.specs.Bytes.{view}
use Rattle.script.specs.Fields.{found}
use Rattle.script.proofs.FormLaws.{fields, field_is, read_past, read_good, read_bad}
use Rattle.script.proofs.read_field.Goals as goal

pub returns-then-line-at : goal.returns-then-line-at
returns-then-line-at c i values =
    let a = c.args in
    sym (read_past (view a.line.now) (length a.line.now) (length a.buffer.now) a.form i (fields a.at values (view a.room.now) (view a.buffer.now)) (omega arith))

pub returns-in_err-value : goal.returns-in_err-value
returns-in_err-value c i values =
    let a = c.args in
    let t = c.take_field in
    let e = c.place_of-end in
    let k = e.result - (a.at + 1) in
    ap (λ r. found i values r (view t.new.room) (view t.new.buffer)) c.from_residual.ensures
    ∙ read_bad (view a.line.now) (length a.line.now) (length a.buffer.now) a.form i a.at values (view a.room.now) (view a.buffer.now) (view t.new.room) (view t.new.buffer) e.result (take k (drop (a.at + 1) a.line.now)) e.ensures.value (sym (field_is a.line.now (a.at + 1) k (omega arith))) (omega arith) t.ensures.room_after t.ensures.buffer_after (sym c.in_err-value.was ∙ t.ensures.value)

pub returns : goal.returns
returns c i values =
    let a = c.args in
    let t = c.take_field in
    let e = c.place_of-end in
    let k = e.result - (a.at + 1) in
    read_good (view a.line.now) (length a.line.now) (length a.buffer.now) a.form i a.at values (view a.room.now) (view a.buffer.now) (view t.new.room) (view t.new.buffer) e.result (take k (drop (a.at + 1) a.line.now)) e.ensures.value (sym (field_is a.line.now (a.at + 1) k (omega arith))) (omega arith) t.ensures.room_after t.ensures.buffer_after c.in_ok-value.value (sym c.in_ok-value.was ∙ t.ensures.value)
