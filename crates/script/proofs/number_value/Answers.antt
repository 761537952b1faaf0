-- `script::number_value` meets its contract: the digits left, behind those passed, say the whole number, which stays below a power of ten.
use mathlib.Core.Path.{◌≡◌, refl, sym, ap, ◌∙◌}
use Prim.Native.Nat.{◌-◌, ◌≤◌}
use native.Mathlib.Omega.{arith}
use borrow.Author.Tests.{eqb-true, eqb-false}
use lib.ListN.{length, drop}
use Rattle.std.proofs.Common.{Some, None, rules}
use Rattle.model.specs.Bytes.{view}
use Rattle.script.specs.Fields.{largest, at_most, decimal_from}
use Rattle.script.proofs.FieldLaws.{decimal_more, decimal_not, decimal_none, decimal_digit, tens_more, tens_most, number_in, number_out}
use Rattle.script.proofs.number_value.Goals as goal
use Rattle.script.proofs.number_value.Goals.{then-is_empty-via-then-is_empty, then-is_empty-via-else-is_empty+then-field-gt-MOST_DIGITS}

pub returns-then-is_empty : goal.returns-then-is_empty
returns-then-is_empty c =
    elim c.then-is_empty.branch [
      | then-is_empty-via-then-is_empty w ↦
          let e : length c.args.field.now ≡ 0 = eqb-true _ _ (sym w.if-is_empty.ensures) in sym (number_out c.args.field.now (λ u v. omega arith))
      | then-is_empty-via-else-is_empty+then-field-gt-MOST_DIGITS w ↦ sym (number_out c.args.field.now (λ u v. omega arith))
    ]

pub loop-c-init : goal.loop-c-init
loop-c-init c = (omega arith, refl)

pub overflow_mul-value : goal.overflow_mul-value
overflow_mul-value c =
    let l = c.loop-c in
    omega (arith, tens_most l.value l.c-index l.invariant.0 (omega arith))

pub overflow_add-value : goal.overflow_add-value
overflow_add-value c =
    let l = c.loop-c in
    omega (arith, tens_most l.value l.c-index l.invariant.0 (omega arith), c.in_ok-value.ensures.value)

pub returns-in_err-value : goal.returns-in_err-value
unfolding at_most
returns-in_err-value c =
    let l = c.loop-c in
    let f = c.args.field.now in
    let n : decimal_from l.value (drop l.c-index f) ≡ None =
    decimal_not f l.c-index l.value (omega arith) (λ p q. omega (arith, c.in_err-value.ensures.cases)) in
    c.from_residual.ensures ∙ ap (at_most largest) (sym n ∙ l.invariant.1) ∙ sym (number_in f (omega arith) (omega arith))

pub loop-c-preserved : goal.loop-c-preserved
loop-c-preserved c =
    let l = c.loop-c in
    let d = c.in_ok-value in
    let t : (48 ≤ view c.args.field.now l.c-index) × ((view c.args.field.now l.c-index ≤ 57) × (d.field-0 ≡ view c.args.field.now l.c-index - 48)) =
    rw c.from.ensures at (decimal_digit c.from.result d.field-0 (omega (arith, d.ensures.value)) d.ensures.cases) in
    (tens_more l.value d.field-0 l.c-index l.invariant.0 (omega (arith, d.ensures.value)), sym (decimal_more c.args.field.now l.c-index l.value d.field-0 (omega arith) t) ∙ l.invariant.1)

pub returns : goal.returns
unfolding at_most
returns c =
    let k : c.filter.result ≡ at_most largest (Some c.loop-c.value) = search rules in
    let some : 1 ≤ length c.args.field.now = omega (arith, eqb-false _ _ (sym c.if-is_empty.ensures)) in
    let l = c.loop-c in
    let f = c.args.field.now in
    let e = sym (decimal_none f l.c-index l.value (omega arith)) ∙ l.invariant.1 in
    k ∙ ap (at_most largest) e ∙ sym (number_in f some (omega arith))
