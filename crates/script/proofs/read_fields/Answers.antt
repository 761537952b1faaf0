-- `script::read_fields` meets its contract: reading the fields left, from what was found, is reading them all.
use mathlib.Core.Path.{◌≡◌, refl, sym, ap, ◌∙◌}
use mathlib.Core.Bool.{false≢true}
use Prim.Native.Nat.{suc, ◌+◌, ◌-◌}
use native.Mathlib.Omega.{arith}
use borrow.Author.Tests.{ne_eqb}
use lib.Dec.{eqb}
use lib.ListN.{length, set}
use Rattle.std.proofs.Common.{rules}
use Rattle.model.specs.Bytes.{view}
use Rattle.model.proofs.ByteLaws.{view_set}
use Rattle.script.specs.Fields.{nowhere, read_field, read_fields}
use Rattle.script.proofs.FormLaws.{fields, read_more, read_none, read_lost}
use Rattle.script.proofs.FitLaws.{fits}
use Rattle.script.proofs.read_fields.Goals as goal

pub loop-i-init : goal.loop-i-init
loop-i-init c =
    let k = length c.args.forms.now in
    let e : k - 0 ≡ k = omega arith in
    (refl, refl, refl, rw e)

pub returns-in_default : goal.returns-in_default
returns-in_default c =
    let l = c.loop-i in
    let a = c.args in
    let s = view a.line.now in
    let n = length a.line.now in
    let most = length a.buffer.now in
    let forms = view a.forms.now in
    let k = length a.forms.now in
    let f = fields l.now (view l.values) (view l.room) (view l.buffer) in
    let r = c.read_field.new in
    let bad = fields nowhere (view l.values) (view r.room) (view r.buffer) in
    let e : k - l.i ≡ suc (k - (l.i + 1)) = omega arith in
    let g : bad ≡ read_field s n most (forms l.i) l.i f =
    c.in_default.ensures l.i (view l.values) ∙ ap (λ m. read_field s n m (forms l.i) l.i f) l.invariant.2 in
    let h : bad ≡ read_fields s n most forms 0 k (fields a.at (view a.values.now) (view a.room.now) (view a.buffer.now)) =
    sym (read_lost s n most forms (k - (l.i + 1)) (l.i + 1) (view l.values) (view r.room) (view r.buffer) (omega arith))
    ∙ read_more s n most forms l.i _ _ f bad e g
    ∙ l.invariant.3 in record {
      takes = record {
        good = sym (ne_eqb nowhere n (λ e. omega arith)) ∙ ap (λ x. eqb x.at n) h;
        values = ap (λ x. x.values) h;
        room = ap (λ x. x.room) h;
        buffer = ap (λ x. x.buffer) h;
      };
      fits = λ e. absurd (false≢true e);
    }

pub loop-i-preserved : goal.loop-i-preserved
loop-i-preserved c =
    let l = c.loop-i in
    let a = c.args in
    let s = view a.line.now in
    let n = length a.line.now in
    let most = length a.buffer.now in
    let forms = view a.forms.now in
    let k = length a.forms.now in
    let f = fields l.now (view l.values) (view l.room) (view l.buffer) in
    let r = c.read_field.new in
    let o = c.in-Some in
    let e : k - l.i ≡ suc (k - (l.i + 1)) = omega arith in
    let g : fields o.end (view (set l.values l.i o.value)) (view r.room) (view r.buffer) ≡ read_field s n most (forms l.i) l.i f =
    ap (λ w. fields o.end w (view r.room) (view r.buffer)) (view_set l.values l.i o.value (omega arith))
    ∙ o.ensures l.i (view l.values)
    ∙ ap (λ m. read_field s n m (forms l.i) l.i f) l.invariant.2 in (
      search rules,
      omega arith,
      omega arith,
      read_more s n most forms l.i _ _ f _ e g ∙ l.invariant.3,
    )

pub returns : goal.returns
returns c =
    let l = c.loop-i in
    let a = c.args in
    let s = view a.line.now in
    let n = length a.line.now in
    let forms = view a.forms.now in
    let k = length a.forms.now in
    let m = length a.buffer.now in
    let f = fields a.at (view a.values.now) (view a.room.now) (view a.buffer.now) in
    let h = fields l.now (view l.values) (view l.room) (view l.buffer) in
    let e : k - l.i ≡ 0 = omega arith in
    let g : h ≡ read_fields s n m forms 0 k f = sym (rw e (read_none s n m forms l.i h)) ∙ l.invariant.3 in record {
      takes = record {
        good = ap (λ x. eqb x.at n) g;
        values = ap (λ x. x.values) g;
        room = ap (λ x. x.room) g;
        buffer = ap (λ x. x.buffer) g;
      };
      fits = fits s n m forms k f h (omega arith) g;
    }
