-- `replies::put_fields` meets its contract. The invariant says what is left to be printed.
use native.Mathlib.Omega.{arith}
use lib.ListN.{length}
use Rattle.std.proofs.lemmas.Slice.Zip.{zip_turn, zip_end}
use Rattle.std.proofs.lemmas.List.{length_push}
use Rattle.model.specs.Bytes.{view}
use Rattle.ink.proofs.InkLaws.{emit_rest, emit_done}
use Rattle.replies.proofs.LineLaws.{fields_next, fields_end}
use Rattle.replies.proofs.put_fields.Goals as goal

pub loop-form-preserved : goal.loop-form-preserved
loop-form-preserved c =
    let a = c.args in
    let l = c.loop-form in
    let t = zip_turn a.forms.now a.values.now l.yielded c.into_iter-form-iterator.result l.form-iterator c.next.new.self _ (cc) (cc) l.yielded_by _ c.in-Some.is c.next.ensures.steps in
    let n = length_push l.yielded (c.in-Some.form, c.in-Some.value) in
    (omega arith, rw n (emit_rest _ _ _ (fields_next (length a.forms.now) (length l.yielded) t.0 (view a.forms.now) (view a.values.now)) (rw (t.2 0, t.3 0) at c.put_field.ensures) l.invariant.1))

pub returns : goal.returns
returns c =
    let a = c.args in
    let l = c.loop-form in
    let t = zip_end a.forms.now a.values.now l.yielded c.into_iter-form-iterator.result l.form-iterator c.next.new.self _ (cc) (cc) l.yielded_by c.in-None.is c.next.ensures.steps in
    emit_done _ _ _ _ (fields_end _ _ (omega (arith, t, c.requires)) (view a.forms.now) (view a.values.now)) l.invariant.1
