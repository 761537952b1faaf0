-- `opening::volume_in` meets its contract: each branch is one row of the table, $52 or $5A, or neither.
use mathlib.Core.Path.{sym, ◌∙◌}
use lib.ListN.{length}
use native.Mathlib.Omega.{arith}
use Rattle.model.specs.Bytes.{view}
use Rattle.opening.proofs.CodeLaws.{volume_unfit, volume_other, whole, volume_bad, volume_good}
use Rattle.opening.proofs.volume_in.Goals as goal
use Rattle.opening.proofs.volume_in.Goals.{then-size-ne0-via-then-size-ne0, then-size-ne0-via-else-size-ne0+then-n-lt16, then-size-ne0-via-else-size-ne0+else-n-lt16+then-n-gt65535, then-size-ne0-via-else-size-ne0+else-n-lt16+else-n-gt65535+then-not-is_prodos}

pub returns-then-size-ne0 : goal.returns-then-size-ne0
returns-then-size-ne0 c =
    let l = c.args.img.now in
    elim c.then-size-ne0.branch [
      | then-size-ne0-via-then-size-ne0 w ↦ sym (volume_unfit (length l) (view l) (λ r a b. w.if-size-ne0.true r))
      | then-size-ne0-via-else-size-ne0+then-n-lt16 w ↦ sym (volume_unfit (length l) (view l) (λ r a b. omega arith))
      | then-size-ne0-via-else-size-ne0+else-n-lt16+then-n-gt65535 w ↦ sym (volume_unfit (length l) (view l) (λ r a b. omega arith))
      | then-size-ne0-via-else-size-ne0+else-n-lt16+else-n-gt65535+then-not-is_prodos w ↦ sym (volume_other (length l) (view l) (sym w.is_prodos.ensures ∙ w.if-not-is_prodos.true))
    ]

pub returns-then-not-is_sound : goal.returns-then-not-is_sound
returns-then-not-is_sound c =
    let l = c.args.img.now in
    let w = whole (length l) (view l) c.if-size-ne0.false c.if-n-lt16.false c.if-n-gt65535.false in
    sym (volume_bad (length l) (view l) w (sym c.is_prodos.ensures ∙ c.if-not-is_prodos.false) (sym c.is_sound.ensures ∙ c.if-not-is_sound.true))

pub returns : goal.returns
returns c =
    let l = c.args.img.now in
    let w = whole (length l) (view l) c.if-size-ne0.false c.if-n-lt16.false c.if-n-gt65535.false in
    sym (volume_good (length l) (view l) w (sym c.is_prodos.ensures ∙ c.if-not-is_prodos.false) (sym c.is_sound.ensures ∙ c.if-not-is_sound.false))
